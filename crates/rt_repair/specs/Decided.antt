-- What is decided by the last node's metadata.
use Rattle.std.specs.Prelude.{ℕ, not, nat_lt, if◌then◌else◌, List}
use Rattle.rt_base.specs.declared.limits.TheConstants.{LAST_NUMBER}
use Rattle.rt_base.specs.declared.numbers.Moment.{Moment}
use Rattle.rt_base.specs.declared.numbers.Partition.{Partition}
use Rattle.rt_base.specs.declared.numbers.Sequence.{Sequence}
use Rattle.rt_model.specs.declared.decision.Decision.{Decision}
use Rattle.rt_model.specs.declared.decision.Decision.TheVariants.{Nothing}
use Rattle.rt_model.specs.declared.ideal_state.IdealEntry.{IdealEntry}
use Rattle.rt_model.specs.declared.seg_meta.SegMeta.{SegMeta}
use Rattle.rt_model.specs.Moments.{later}
use Rattle.rt_model.specs.Repair.{decide_by}

abbrev pub decide_at : Partition → Sequence → SegMeta → List IdealEntry → Moment → ℕ → Decision
decide_at p s meta es now grace =
    if not (nat_lt s.0 LAST_NUMBER) then Nothing else
    (if nat_lt now.0 (later meta.written grace).0 then Nothing else decide_by p s es meta meta.status)
