-- What one node has of the cluster, and which pasts are sound.
use Rattle.std.specs.Prelude.{◌≡◌, ◌<◌, ℕ, List, Some, length}
use Rattle.rt_base.specs.declared.numbers.Offset.{Offset}
use Rattle.rt_base.specs.declared.numbers.Partition.{Partition}
use Rattle.rt_base.specs.declared.numbers.Sequence.{Sequence}
use Rattle.rt_lists.specs.Members.{Has, IsFront}
use Rattle.rt_model.specs.declared.commit.Commit.{Commit}
use Rattle.rt_model.specs.declared.reply.Reply.{Reply}
use Rattle.rt_model.specs.declared.reply.ReplyStatus.{ReplyStatus}
use Rattle.rt_model.specs.declared.reply.ReplyStatus.TheVariants as status
use Rattle.rt_model.specs.declared.seg_meta.SeenMeta.{SeenMeta}
use Rattle.rt_model.specs.declared.sent.Sent.{Sent}
use Rattle.rt_model.specs.declared.sent.Sent.TheVariants as sent
use Rattle.rt_model.specs.declared.setup.Setup.{Setup}
use Rattle.rt_model.specs.declared.status.Status.TheVariants.{Done}
use Rattle.rt_model.specs.Lawful.{IsLawfulHistory}
use Rattle.rt_stream.specs.Feed.{Grows as GrowsLog}
use Rattle.rt_deep.specs.declared.deep_put.DeepPut.{DeepPut}
use Rattle.rt_deep.specs.Files.{AreOnce}
use Rattle.rt_store.specs.Contents.{starting_of}
use Rattle.rt_past.specs.Past.{Past}
use Rattle.rt_past.specs.Files.{IsStored, Stands, header_in, header_named}
use Rattle.rt_past.specs.Segments.{WasDone}

-- what one node has of the cluster: what it has seen of the stream and the stores, and what it sent and took. It is a past
-- of its own
pub record IsView (setup : Setup) (view : Past) : Type 0 where
  pub partitions : length view.log ≡ setup.partitions
  pub lawful : IsLawfulHistory (starting_of setup) view.history
  pub once : AreOnce view.files

-- a past that has all that a view has; its messages come in whatever order
pub record Within (view past : Past) : Type 0 where
  pub log : GrowsLog view.log past.log
  pub history : IsFront view.history past.history
  pub files : IsFront view.files past.files
  pub sent : (m : Sent) → Has view.sent m → Has past.sent m

-- bytes stand at the path that a commit names, and are read as a file with the header that it names
pub record IsNamed (files : List DeepPut) (p : Partition) (s : Sequence) (start : Offset) (commit : Commit) : Type 0 where
  pub bytes : List ℕ
  pub stands : Stands files commit.path bytes
  pub header : header_in bytes ≡ Some (header_named p s start commit)

-- KEEP and COMMIT_SUCCESS carry this
abbrev pub Carries : ReplyStatus → SeenMeta → Type 0
Carries (status.Keep seen) done = seen ≡ done
Carries (status.CommitSuccess seen) done = seen ≡ done
Carries status.Hold done = ⊥
Carries (status.CatchUp offset) done = ⊥
Carries status.Discard done = ⊥
Carries (status.Commit offset) done = ⊥
Carries status.NotLeader done = ⊥
Carries status.CommitContinue done = ⊥
Carries (status.UploadSuccess path) done = ⊥
Carries status.Processed done = ⊥
Carries (status.Failed cause) done = ⊥

-- a view whose commits are right: the file of each that was written stands, and each that a reply carries was written
pub record IsSound (setup : Setup) (past : Past) : Type 0 where
  pub view : IsView setup past
  pub done :
      (p : Partition) (s : Sequence) (seen : SeenMeta) (commit : Commit) → p.0 < setup.partitions
      → WasDone past.history p s seen → seen.meta.status ≡ Done commit
      → IsStored setup past p s seen.meta.start commit
  pub told :
      (r : Reply) (seen : SeenMeta) → Has past.sent (sent.Reply r) → Carries r.status seen
      → WasDone past.history r.partition r.sequence seen
