-- The completion of one segment: what its machine keeps, and the table by which it answers.
use Rattle.std.specs.Prelude.{ℕ, Bool, true, false, ◌+◌, ◌==◌, ◌&&◌, ◌||◌, nat_lt, nat_le, min, max, if◌then◌else◌, List, [], ◌∷◌, map, Option, Some, None, is_some, is_none, unwrap_or}
use Rattle.std.specs.List.{list_all}
use Rattle.rt_base.specs.declared.numbers.Instance.{Instance}
use Rattle.rt_base.specs.declared.numbers.Offset.{Offset}
use Rattle.rt_base.specs.declared.numbers.Moment.{Moment}
use Rattle.rt_model.specs.declared.seg_meta.SeenMeta.{SeenMeta}
use Rattle.rt_model.specs.declared.machine_state.MachineState.{MachineState}
use Rattle.rt_model.specs.declared.machine_state.MachineState.TheVariants.{PartialConsuming, Holding, CommitterDecided, CommitterNotified, CommitterUploading, Committing, Committed, Aborted}
use Rattle.rt_model.specs.declared.request.Reason.{Reason}
use Rattle.rt_model.specs.declared.request.Reason.TheVariants.{RowLimit, TimeLimit, Force}
use Rattle.rt_model.specs.declared.reply.FailCause.TheVariants.{WrongState, WrongOffset, NotCommitter}
use Rattle.rt_model.specs.declared.reporter.Reporter.{Reporter}
use Rattle.rt_model.specs.declared.completion.Ask.{Ask}
use Rattle.rt_model.specs.declared.completion.Ask.TheVariants.{Consumed, CommitStart, CommitEnd, Stopped, Extend}
use Rattle.rt_model.specs.declared.completion.Said.{Said}
use Rattle.rt_model.specs.declared.completion.Said.TheVariants.{Hold, CatchUp, Commit, CommitContinue, Processed, Failed}
use Rattle.rt_model.specs.declared.completion.Reaction.{Reaction}
use Rattle.rt_model.specs.declared.completion.Reaction.TheVariants.{Answer, StartCommit, StartOffline}
use Rattle.rt_model.specs.Moments.{later, earlier_of}

-- what the completion machine of a segment keeps
pub record Completion : Type 0 where
  -- the segment's metadata, as it was read when the machine was made
  pub seen : SeenMeta
  pub state : MachineState
  -- the moment of making
  pub made : Moment
  -- the committer, its offset, and the last moment at which it counts; all zero before a pick
  pub winner : Instance
  pub offset : Offset
  pub deadline : Moment
  -- the segment's replicas, each with the offset that it reported last
  pub reporters : List Reporter

-- a replica that hasn't reported
abbrev pub fresh : Instance → Reporter
fresh i = record { instance = i; note = None; excluded = false }

-- the machine as it is made
abbrev pub first : SeenMeta → List Instance → MachineState → Moment → Completion
first seen replicas state now = record { seen = seen; state = state; made = now; winner = record { 0 = 0 }; offset = record { 0 = 0 }; deadline = record { 0 = 0 }; reporters = map fresh replicas }

-- nobody is picked yet; a machine begins in one of these two states
abbrev pub IsBeforePick : MachineState → Type 0
IsBeforePick PartialConsuming = Unit {0}
IsBeforePick Holding = Unit {0}
IsBeforePick CommitterDecided = ⊥
IsBeforePick CommitterNotified = ⊥
IsBeforePick CommitterUploading = ⊥
IsBeforePick Committing = ⊥
IsBeforePick Committed = ⊥
IsBeforePick Aborted = ⊥

-- the machine in another state
abbrev pub goes : Completion → MachineState → Completion
goes m s = record m { state = s }

-- the machine ends with this answer
abbrev pub aborts : Completion → Said → Reaction × Completion
aborts m said = (Answer said, goes m Aborted)

-- how long, in milliseconds, a machine waits for all replicas before it picks among those that reported
abbrev pub patience : ℕ
patience = 6000

-- how long, in milliseconds, a committer has from the pick on
abbrev pub commit_time : ℕ
commit_time = 120000

-- how long, in milliseconds, from its making on a machine may be granted more time
abbrev pub longest_time : ℕ
longest_time = 1800000

-- The notes.

abbrev pub noted : Instance → Offset → Reporter → Reporter
noted i x r = if r.instance.0 == i.0 then record { instance = r.instance; note = Some x; excluded = false } else r

abbrev pub left_out : Instance → Reporter → Reporter
left_out i r = if r.instance.0 == i.0 then record { instance = r.instance; note = None; excluded = true } else r

-- the machine once it has noted the sender's offset, which ends the sender's exclusion
abbrev pub with_note : Completion → Instance → Offset → Completion
with_note m i x = record m { reporters = map (noted i x) m.reporters }

-- the machine without the sender's note, and with the sender excluded
abbrev pub without : Completion → Instance → Completion
without m i = record m { reporters = map (left_out i) m.reporters }

-- The pick.

-- every replica that isn't excluded has a note
abbrev pub all_reported : List Reporter → Bool
all_reported rs = list_all (λ r. r.excluded || is_some r.note) rs

-- nobody but the sender has a note
abbrev pub is_only_note : Instance → List Reporter → Bool
is_only_note i rs = list_all (λ r. (r.instance.0 == i.0) || is_none r.note) rs

abbrev pub is_row_limit : Reason → Bool
is_row_limit RowLimit = true
is_row_limit TimeLimit = false
is_row_limit Force = false

-- a report that has been noted makes the machine pick
abbrev pub picks : Completion → Instance → Reason → Moment → Bool
picks m i r now = all_reported m.reporters || (nat_lt (m.made.0 + patience) now.0 || (is_row_limit r && is_only_note i m.reporters))

abbrev pub offset_or_zero : Option Offset → ℕ
offset_or_zero None = 0
offset_or_zero (Some x) = x.0

-- the largest noted offset
abbrev pub largest_note : List Reporter → ℕ
largest_note [] = 0
largest_note (r ∷ rs) = max (offset_or_zero r.note) (largest_note rs)

abbrev pub is_at : ℕ → Option Offset → Bool
is_at o None = false
is_at o (Some x) = x.0 == o

abbrev pub least : ℕ → Option ℕ → ℕ
least i None = i
least i (Some j) = min i j

-- the smallest instance among those whose note is `o`
abbrev pub smallest_at : ℕ → List Reporter → Option ℕ
smallest_at o [] = None
smallest_at o (r ∷ rs) = if is_at o r.note then Some (least r.instance.0 (smallest_at o rs)) else smallest_at o rs

-- the winner has the largest note; of several it is the sender, if it is one of them, else the smallest
abbrev pub winner_of : List Reporter → Instance → Offset → Instance
winner_of rs i x = if x.0 == largest_note rs then i else record { 0 = unwrap_or (smallest_at (largest_note rs) rs) i.0 }

-- the machine with its committer picked at the sender's report
abbrev pub with_pick : Completion → Instance → Offset → Moment → Completion
with_pick m i x now = record m { winner = winner_of m.reporters i x; offset = record { 0 = largest_note m.reporters }; deadline = later now commit_time }

-- The table: a definition for each ask, with an equation for each state. Beside `m`, each takes the sender `i`, its
-- offset `x` and the moment `now`. `m.winner` is the committer and `m.offset` the offset that it commits. A machine
-- that has ended, COMMITTED or ABORTED, refuses each ask; its controller removes it before one comes.

abbrev pub wrong_state : Completion → Reaction × Completion
wrong_state m = (Answer (Failed (WrongState m.state)), m)

abbrev pub wrong_offset : Completion → Offset → Reaction × Completion
wrong_offset m x = aborts m (Failed (WrongOffset x m.offset))

abbrev pub not_committer : Completion → Reaction × Completion
not_committer m = (Answer (Failed (NotCommitter m.winner)), m)

-- a replica below the committer's offset is sent there, and another waits
abbrev pub catches_up : Completion → Offset → Reaction × Completion
catches_up m x = if nat_lt x.0 m.offset.0 then (Answer (CatchUp m.offset), m) else (Answer Hold, m)

-- the answer to the report at which the committer was picked
abbrev pub decided : Completion → Instance → Offset → Reaction × Completion
decided m i x =
    if i.0 == m.winner.0 then (Answer (Commit m.offset), goes m CommitterNotified)
    else (if x.0 == m.offset.0 then (Answer Hold, goes m CommitterDecided)
    else (Answer (CatchUp m.offset), goes m CommitterDecided))

-- a report that has been noted, before a pick
abbrev pub gathers : Completion → Instance → Offset → Reason → Moment → Reaction × Completion
gathers m i x r now = if picks m i r now then decided (with_pick m i x now) i x else (Answer Hold, goes m Holding)

abbrev pub consumed_in : MachineState → Completion → Instance → Offset → Reason → Moment → Reaction × Completion
consumed_in PartialConsuming m i x r now = gathers (with_note m i x) i x r now
consumed_in Holding m i x r now = gathers (with_note m i x) i x r now
consumed_in CommitterDecided m i x r now =
    if nat_lt m.offset.0 x.0 then aborts m Hold
    else (if (i.0 == m.winner.0) && (x.0 == m.offset.0) then (Answer (Commit m.offset), goes m CommitterNotified)
    else catches_up m x)
consumed_in CommitterNotified m i x r now =
    if nat_lt m.offset.0 x.0 then aborts m Hold
    else (if i.0 == m.winner.0 then (if x.0 == m.offset.0 then (Answer (Commit m.offset), m) else aborts m Hold)
    else catches_up m x)
consumed_in CommitterUploading m i x r now = if i.0 == m.winner.0 then aborts m Hold else catches_up m x
consumed_in Committing m i x r now = catches_up m x
consumed_in Committed m i x r now = wrong_state m
consumed_in Aborted m i x r now = wrong_state m

abbrev pub commit_start_in : MachineState → Completion → Instance → Offset → Reaction × Completion
commit_start_in PartialConsuming m i x = (Answer Hold, m)
commit_start_in Holding m i x = (Answer Hold, m)
commit_start_in CommitterDecided m i x = (Answer Hold, m)
commit_start_in CommitterNotified m i x =
    if i.0 == m.winner.0 then (if x.0 == m.offset.0 then (Answer CommitContinue, goes m CommitterUploading) else wrong_offset m x)
    else (Answer Hold, m)
commit_start_in CommitterUploading m i x = (Answer Hold, m)
commit_start_in Committing m i x = (Answer Hold, m)
commit_start_in Committed m i x = wrong_state m
commit_start_in Aborted m i x = wrong_state m

abbrev pub commit_end_in : MachineState → Completion → Instance → Offset → Reaction × Completion
commit_end_in PartialConsuming m i x = wrong_state m
commit_end_in Holding m i x = wrong_state m
commit_end_in CommitterDecided m i x = wrong_state m
commit_end_in CommitterNotified m i x = wrong_state m
commit_end_in CommitterUploading m i x =
    if i.0 == m.winner.0 then (if x.0 == m.offset.0 then (StartCommit m.offset, goes m Committing) else wrong_offset m x)
    else not_committer m
commit_end_in Committing m i x = wrong_state m
commit_end_in Committed m i x = wrong_state m
commit_end_in Aborted m i x = wrong_state m

-- after a pick: without its committer the machine ends
abbrev pub loses : Completion → Instance → Reaction × Completion
loses m i = if i.0 == m.winner.0 then (StartOffline, goes m Aborted) else (StartOffline, m)

abbrev pub stopped_in : MachineState → Completion → Instance → Reaction × Completion
stopped_in PartialConsuming m i = (StartOffline, without m i)
stopped_in Holding m i = (StartOffline, without m i)
stopped_in CommitterDecided m i = loses m i
stopped_in CommitterNotified m i = loses m i
stopped_in CommitterUploading m i = loses m i
stopped_in Committing m i = (StartOffline, m)
stopped_in Committed m i = wrong_state m
stopped_in Aborted m i = wrong_state m

abbrev pub extend_in : MachineState → Completion → Instance → ℕ → Moment → Reaction × Completion
extend_in PartialConsuming m i millis now = wrong_state m
extend_in Holding m i millis now = wrong_state m
extend_in CommitterDecided m i millis now = wrong_state m
extend_in CommitterNotified m i millis now =
    if i.0 == m.winner.0 then (Answer Processed, record m { deadline = earlier_of (later now millis) (later m.made longest_time) })
    else not_committer m
extend_in CommitterUploading m i millis now = wrong_state m
extend_in Committing m i millis now = wrong_state m
extend_in Committed m i millis now = wrong_state m
extend_in Aborted m i millis now = wrong_state m

abbrev pub by_table : Completion → Instance → Ask → Moment → Reaction × Completion
by_table m i (Consumed x r) now = consumed_in m.state m i x r now
by_table m i (CommitStart x) now = commit_start_in m.state m i x
by_table m i (CommitEnd x) now = commit_end_in m.state m i x
by_table m i Stopped now = stopped_in m.state m i
by_table m i (Extend millis) now = extend_in m.state m i millis now

-- The two tests before the table.

-- the states in which a committer is picked and its job hasn't started
abbrev pub has_deadline : MachineState → Bool
has_deadline PartialConsuming = false
has_deadline Holding = false
has_deadline CommitterDecided = true
has_deadline CommitterNotified = true
has_deadline CommitterUploading = true
has_deadline Committing = false
has_deadline Committed = false
has_deadline Aborted = false

abbrev pub is_late : Completion → Moment → Bool
is_late m now = has_deadline m.state && nat_lt m.deadline.0 now.0

-- the offset that an ask speaks of
abbrev pub asked_offset : Ask → Option Offset
asked_offset (Consumed x r) = Some x
asked_offset (CommitStart x) = Some x
asked_offset (CommitEnd x) = Some x
asked_offset Stopped = None
asked_offset (Extend millis) = None

-- an offset at or below the segment's start is refused, and anything else is answered by the table
abbrev pub past_start : Completion → Option Offset → Reaction × Completion → Reaction × Completion
past_start m None answered = answered
past_start m (Some x) answered = if nat_le x.0 m.seen.meta.start.0 then (Answer (Failed (WrongOffset x m.seen.meta.start)), m) else answered

-- what a machine makes of a message, and the machine afterwards
abbrev pub react : Completion → Instance → Ask → Moment → Reaction × Completion
react m i ask now = if is_late m now then aborts m Hold else past_start m (asked_offset ask) (by_table m i ask now)

-- the machine once its commit job has ended
abbrev pub ended : Completion → Bool → Completion
ended m committed = goes m (if committed then Committed else Aborted)
