use Rattle.std.proofs.Common.{◌≡◌, ◌∙◌, ◌+◌, ◌++◌, length, get_or, sym, ap, option_map, arith, drop, slice_set}
use Rattle.rt_schema.specs.Flat.{cells_from, data_of}
use Rattle.rt_schema.proofs.Flat.{row_more, row_none}
use Rattle.rt_schema.proofs.flat_reader.row.Goals as goal

pub loop-i-preserved : goal.loop-i-preserved
loop-i-preserved c =
    let l = c.loop-i in
    let same : length l.found ≡ length c.args.columns.now = omega (arith, l.auto.found, c.requires) in
    let has : c.take.result ≡ get_or l.found l.i c.take.result = grind (arith, c.take.ensures.value, c.index-found-i.is) in
    row_more c.args.columns.now l.found l.i c.index-columns-i.result c.take.result c.take.new.self c.in-Some.value l.values _ same (omega arith) c.index-columns-i.is has (sym c.in-Some.is ∙ c.in_ok-value.ensures {u = tt}) l.invariant
    ∙ ap (λ done. option_map (λ vs. done ++ vs) (cells_from (drop (l.i + 1) c.args.columns.now) (data_of (drop (l.i + 1) (slice_set l.found l.i c.take.new.self))))) (sym c.in_ok-push-in-Some.ensures.ok)

pub returns-in-None : goal.returns-in-None
returns-in-None c =
    let l = c.loop-i in
    let same : length l.found ≡ length c.args.columns.now = omega (arith, l.auto.found, c.requires) in
    let has : c.take.result ≡ get_or l.found l.i c.take.result = grind (arith, c.take.ensures.value, c.index-found-i.is) in
    sym (ap (option_map (λ vs. record { values = vs })) (row_none c.args.columns.now l.found l.i c.index-columns-i.result c.take.result l.values _ same (omega arith) c.index-columns-i.is has (sym c.in-None.is ∙ c.in_ok-value.ensures {u = tt}) l.invariant))
