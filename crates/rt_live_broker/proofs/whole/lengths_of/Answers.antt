use Rattle.std.proofs.Common.{◌≡◌, ℕ, ◌∙◌, ap, replicate, refl, arith}
use Rattle.std.proofs.lemmas.Option.{slice_get_read}
use Rattle.rt_live_names.specs.Whole.{no_offset}
use Rattle.rt_live_broker.proofs.Wholes.{count_more, count_none}
use Rattle.rt_live_broker.proofs.whole.lengths_of.Goals as goal

pub loop-row-init : goal.loop-row-init
loop-row-init c =
    let all : c.loop-partition._partition ≡ c.args.partitions = omega arith in
    c.loop-partition.invariant ∙ ap (λ (k : ℕ). replicate k no_offset) all ∙ count_none c.args.partitions

pub loop-row-preserved : goal.loop-row-preserved
loop-row-preserved c =
    let at = slice_get_read c.args.rows.now _ c.loop-row.row-index c.row-item.result refl c.loop-row-test.true c.row-item.is in
    count_more c.args.partitions c.args.rows.now c.loop-row.row-index c.row-item.result c.loop-row.lengths c.count.new.lengths at c.loop-row-test.true
    c.loop-row.invariant c.in_ok-count.ensures
