use Rattle.std.proofs.Common.{◌≡◌, ◌∙◌, ap, arith, sym, List, [], ◌∷◌, ◌++◌, map}
use Rattle.std.specs.List.{range_with_len}
use Rattle.std.proofs.lemmas.List.FromFn.{map-range_with_len_more}
use Rattle.rt_base.specs.declared.numbers.Offset.{Offset}
use Rattle.rt_live_end.specs.Ends.{end_in, ends_in}
use Rattle.rt_live.proofs.committed.ends_of.Goals as goal

pub loop-partition-preserved : goal.loop-partition-preserved
loop-partition-preserved c =
    let h = c.args.history.now in
    c.in_ok-push.ensures.items
    ∙ ap (λ (xs : List Offset). xs ++ c.end_of.result ∷ []) c.loop-partition.invariant
    ∙ ap (λ (x : Offset). map (end_in h) (range_with_len 0 c.loop-partition.partition) ++ x ∷ []) c.end_of.ensures
    ∙ sym (map-range_with_len_more (end_in h) 0 c.loop-partition.partition c.loop-partition.partition (omega arith))

pub returns : goal.returns
returns c =
    let all : c.loop-partition.partition ≡ c.args.partitions = omega (arith, c.loop-partition-test.false, c.loop-partition.auto.partition-end) in
    c.loop-partition.invariant ∙ ap (λ n. ends_in n c.args.history.now) all
