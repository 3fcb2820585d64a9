-- Outcomes of an event, and exchanges, of which the reader's ledger notes and tells the same.
use Rattle.std.specs.Prelude.{◌≡◌, ℕ}
use Rattle.hex.specs.Hex.{encode_lower}
use Rattle.rt_base.specs.declared.numbers.Partition.{Partition}
use Rattle.rt_base.specs.declared.numbers.Sequence.{Sequence}
use Rattle.rt_events.specs.declared.event.Event.{Event}
use Rattle.rt_events.specs.declared.outcome.Outcome.{Outcome}
use Rattle.rt_model.specs.declared.commit.Commit.{Commit}
use Rattle.rt_model.specs.declared.node.Node.{Node}
use Rattle.rt_model.specs.declared.node.Node.TheVariants as node
use Rattle.rt_model.specs.declared.node.Seen.{Seen}
use Rattle.rt_model.specs.declared.replica_state.ReplicaState.{ReplicaState}
use Rattle.rt_model.specs.declared.reply.ReplyStatus.{ReplyStatus}
use Rattle.rt_model.specs.declared.seg_meta.SegMeta.{SegMeta}
use Rattle.rt_model.specs.declared.status.Status.{Status}
use Rattle.rt_model.specs.declared.status.Status.TheVariants.{Abandoned, Done, InProgress}
use Rattle.rt_play.specs.AnswerTexts.{IsWord}
use Rattle.rt_play.specs.Ledger.{Marks, Notes, Ranges, TellsSo, event_noted, exchange_noted}

-- whichever of the two outcomes it was, the same is noted of the event, and what the one tells the other does
pub record AreAlike (event : Event) (a b : Outcome) : Type 0 where
  pub noted : (notes : Notes) → event_noted event a notes ≡ event_noted event b notes
  pub tells : (ranges : Ranges) (marks : Marks) (notes : Notes) → TellsSo ranges marks notes event a → TellsSo ranges marks notes event b

-- whichever of the two exchanges of a segment it was, the same is noted
abbrev pub NoteTheSame : ℕ → ReplyStatus → ReplicaState → ℕ → ReplyStatus → ReplicaState → Type 0
NoteTheSame request status stands number other others =
    (p : Partition) (q : Sequence) (notes : Notes) → exchange_noted p q request status stands notes ≡ exchange_noted p q number other others notes

-- ---- a node that is shown

-- its numbers fit words of 64 bits
abbrev pub IsStatusFit : Status → Type 0
IsStatusFit (Done commit) = IsWord commit.end.0 × IsWord commit.rows
IsStatusFit other = Unit {0}

abbrev pub IsNodeFit : Node → Type 0
IsNodeFit (node.Meta meta) = IsWord meta.start.0 × IsWord meta.written.0 × IsStatusFit meta.status
IsNodeFit other = Unit {0}

abbrev pub IsSeenFit : Seen → Type 0
IsSeenFit seen = IsWord seen.version × IsNodeFit seen.node

-- of a commit all is told, of its digest the hexadecimal digits
pub record SameCommit (commit other : Commit) : Type 0 where
  pub end : commit.end ≡ other.end
  pub path : commit.path ≡ other.path
  pub digest : encode_lower commit.digest ≡ encode_lower other.digest
  pub rows : commit.rows ≡ other.rows

abbrev pub SameStatus : Status → Status → Type 0
SameStatus InProgress InProgress = Unit {0}
SameStatus (Done commit) (Done other) = SameCommit commit other
SameStatus Abandoned Abandoned = Unit {0}
SameStatus status other = ⊥

pub record SameMeta (meta other : SegMeta) : Type 0 where
  pub name : meta.name ≡ other.name
  pub start : meta.start ≡ other.start
  pub status : SameStatus meta.status other.status
  pub written : meta.written ≡ other.written

-- a segment's node isn't told as another one
abbrev pub SameNode : Node → Node → Type 0
SameNode (node.Meta meta) (node.Meta other) = SameMeta meta other
SameNode (node.Meta meta) other = ⊥
SameNode other (node.Meta meta) = ⊥
SameNode one other = Unit {0}

pub record SameSeen (seen other : Seen) : Type 0 where
  pub version : seen.version ≡ other.version
  pub node : SameNode seen.node other.node
