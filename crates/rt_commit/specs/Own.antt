-- What a step of a job rests on and writes, over what the callers of its stores have seen: nothing of any other caller.
use Rattle.std.specs.Prelude.{◌≡◌, List, ◌++◌, All, Option, Some, None}
use Rattle.rt_base.specs.declared.numbers.Partition.{Partition}
use Rattle.rt_base.specs.declared.numbers.Sequence.{Sequence}
use Rattle.rt_model.specs.declared.asked.Asked.{Asked}
use Rattle.rt_model.specs.declared.node.Key.{Key}
use Rattle.rt_model.specs.declared.node.Key.TheVariants as key
use Rattle.rt_model.specs.declared.node.Node.{Node}
use Rattle.rt_model.specs.declared.node.Node.TheVariants as node
use Rattle.rt_model.specs.declared.node.Seen.{Seen}
use Rattle.rt_model.specs.declared.reply.ReplyStatus.{ReplyStatus}
use Rattle.rt_model.specs.declared.reply.ReplyStatus.TheVariants as status
use Rattle.rt_model.specs.declared.seg_meta.SegMeta.{SegMeta}
use Rattle.rt_model.specs.declared.status.Status.{Status}
use Rattle.rt_model.specs.declared.status.Status.TheVariants.{InProgress, Done, Abandoned}
use Rattle.rt_deep.specs.declared.deep_put.DeepPut.{DeepPut}
use Rattle.rt_store.specs.Meaning.{Own}
use Rattle.rt_past.specs.Segments.{WasDone}
use Rattle.rt_past.specs.View.{IsNamed}
use Rattle.rt_znodes.specs.Znodes.{meta_in}
use Rattle.rt_commit.specs.declared.job.JobStage.TheVariants as stage
use Rattle.rt_commit.specs.declared.job.JobStage.{JobStage}

-- a job that is to write its Done metadata has read the file that these name, with the segment's header up to the commit's end
abbrev pub HasReadFile : List DeepPut → Asked → JobStage → Type 0
HasReadFile files q (stage.Done from commit) = IsNamed files q.partition q.sequence (meta_in from.node).start commit
HasReadFile files q (stage.Check from end path) = Unit {0}
HasReadFile files q (stage.Next done) = Unit {0}
HasReadFile files q (stage.IdealRead w found) = Unit {0}
HasReadFile files q (stage.IdealSet w found ideal) = Unit {0}
HasReadFile files q stage.Ended = Unit {0}

-- Done metadata names a file that was read, and nobody gives a segment up here
abbrev pub IsOwnStatus : List DeepPut → Partition → Sequence → SegMeta → Status → Type 0
IsOwnStatus files p s m InProgress = Unit {0}
IsOwnStatus files p s m (Done commit) = IsNamed files p s m.start commit
IsOwnStatus files p s m Abandoned = ⊥

abbrev pub IsOwnMeta : List DeepPut → Key → SegMeta → Type 0
IsOwnMeta files (key.Meta p s) m = IsOwnStatus files p s m m.status
IsOwnMeta files key.Ideal m = ⊥
IsOwnMeta files (key.Boot i) m = ⊥

-- what a job writes: a segment's metadata, in progress or Done, or an ideal state
abbrev pub IsOwnNode : List DeepPut → Key → Node → Type 0
IsOwnNode files k (node.Meta m) = IsOwnMeta files k m
IsOwnNode files k (node.Ideal state) = k ≡ key.Ideal
IsOwnNode files k node.Boot = ⊥
IsOwnNode files k node.Gone = ⊥

-- each write that becomes the caller's own is so
abbrev pub OwnsMore : (Seen → Type 0) → Option Own → Option Own → Type 0
OwnsMore P None new = new ≡ None
OwnsMore P (Some o) new =
    (more : List Seen) × (new ≡ Some (record { numbers = o.numbers; writes = o.writes ++ more })) × All P more

-- ---- replies

-- with COMMIT_SUCCESS goes Done metadata that was seen to be written; a job else answers PROCESSED, or that it failed
abbrev pub IsOwnReply : List Seen → Partition → Sequence → ReplyStatus → Type 0
IsOwnReply h p s (status.CommitSuccess seen) = WasDone h p s seen
IsOwnReply h p s status.Processed = Unit {0}
IsOwnReply h p s (status.Failed because) = Unit {0}
IsOwnReply h p s (status.Keep seen) = ⊥
IsOwnReply h p s (status.UploadSuccess path) = ⊥
IsOwnReply h p s status.Hold = ⊥
IsOwnReply h p s (status.CatchUp offset) = ⊥
IsOwnReply h p s status.Discard = ⊥
IsOwnReply h p s (status.Commit offset) = ⊥
IsOwnReply h p s status.NotLeader = ⊥
IsOwnReply h p s status.CommitContinue = ⊥

abbrev pub IsOwnAnswer : List Seen → Partition → Sequence → Option ReplyStatus → Type 0
IsOwnAnswer h p s None = Unit {0}
IsOwnAnswer h p s (Some reply) = IsOwnReply h p s reply
