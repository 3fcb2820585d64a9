-- What the repair of a partition decides.
use Rattle.std.specs.Prelude.{ℕ, Bool, true, false, ◌&&◌, ◌||◌, not, nat_lt, if◌then◌else◌, List, [], ◌∷◌, Option, Some, None, unwrap_or}
use Rattle.rt_base.specs.declared.limits.TheConstants.{LAST_NUMBER}
use Rattle.rt_base.specs.declared.numbers.Moment.{Moment}
use Rattle.rt_base.specs.declared.numbers.Partition.{Partition}
use Rattle.rt_base.specs.declared.numbers.Sequence.{Sequence}
use Rattle.rt_model.specs.declared.decision.Decision.{Decision}
use Rattle.rt_model.specs.declared.decision.Decision.TheVariants.{Nothing, Create, AddToIdeal, Abandon}
use Rattle.rt_model.specs.declared.ideal_state.IdealEntry.{IdealEntry}
use Rattle.rt_model.specs.declared.ideal_state.Mode.{Mode}
use Rattle.rt_model.specs.declared.ideal_state.Mode.TheVariants.{Consuming, Online, Offline}
use Rattle.rt_model.specs.declared.node.Listed.{Listed}
use Rattle.rt_model.specs.declared.seg_meta.SegMeta.{SegMeta}
use Rattle.rt_model.specs.declared.status.Status.{Status}
use Rattle.rt_model.specs.declared.status.Status.TheVariants.{InProgress, Done, Abandoned}
use Rattle.rt_model.specs.Ideal.{is_of, has_entry, next_sequence}
use Rattle.rt_model.specs.Moments.{later}

-- the last of the listed nodes
abbrev pub last_listed : List Listed → Option Listed
last_listed [] = None
last_listed (node ∷ nodes) = Some (unwrap_or (last_listed nodes) node)

abbrev pub is_offline : Mode → Bool
is_offline Consuming = false
is_offline Online = false
is_offline Offline = true

-- whether all entries of the segment are OFFLINE
abbrev pub are_offline : List IdealEntry → Partition → Sequence → Bool
are_offline [] p s = true
are_offline (e ∷ es) p s = (not (is_of p s e) || is_offline e.mode) && are_offline es p s

-- the last segment consumes: it gets entries where it has none, and is given up where all are OFFLINE
abbrev pub decide_open : Partition → Sequence → List IdealEntry → Decision
decide_open p s es =
    if not (has_entry es p s) then AddToIdeal s else
    (if are_offline es p s then Abandon s else Nothing)

-- by the last segment's status: after one that ended the next one is created where it left off
abbrev pub decide_by : Partition → Sequence → List IdealEntry → SegMeta → Status → Decision
decide_by p s es meta InProgress = decide_open p s es
decide_by p s es meta (Done commit) = Create (next_sequence s) commit.end
decide_by p s es meta Abandoned = Create (next_sequence s) meta.start

-- by the last node: nothing is done of the last sequence that there is, nor before a grace time is over
abbrev pub decide_last : Partition → List IdealEntry → Moment → ℕ → Option Listed → Decision
decide_last p es now grace None = Create (record { 0 = 0 }) (record { 0 = 0 })
decide_last p es now grace (Some node) =
    if not (nat_lt node.sequence.0 LAST_NUMBER) then Nothing else
    (if nat_lt now.0 (later node.seen.meta.written grace).0 then Nothing else
    decide_by p node.sequence es node.seen.meta node.seen.meta.status)

-- the decision over the partition's metadata, the entries of the ideal state, the moment and the grace
abbrev pub decide : List Listed → Partition → List IdealEntry → Moment → ℕ → Decision
decide nodes p es now grace = decide_last p es now grace (last_listed nodes)
