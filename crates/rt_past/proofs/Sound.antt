-- A right past is sound, and a file that is stored has the header that its commit names.
use Rattle.std.proofs.Common.{◌≡◌, Some, ap, subst, ◌∙◌}
use Rattle.rt_base.specs.declared.numbers.Offset.{Offset}
use Rattle.rt_base.specs.declared.numbers.Partition.{Partition}
use Rattle.rt_base.specs.declared.numbers.Sequence.{Sequence}
use Rattle.rt_lists.specs.Members.{Has}
use Rattle.rt_model.specs.declared.asked.Asked.{Asked}
use Rattle.rt_model.specs.declared.commit.Commit.{Commit}
use Rattle.rt_model.specs.declared.reply.Reply.{Reply}
use Rattle.rt_model.specs.declared.reply.ReplyStatus.{ReplyStatus}
use Rattle.rt_model.specs.declared.reply.ReplyStatus.TheVariants.{Hold, CatchUp, Keep, Discard, Commit as MayCommit, NotLeader, CommitContinue, UploadSuccess, CommitSuccess, Processed, Failed}
use Rattle.rt_model.specs.declared.request.Request.{Request}
use Rattle.rt_model.specs.declared.seg_meta.SeenMeta.{SeenMeta}
use Rattle.rt_model.specs.declared.sent.Sent.TheVariants as sent
use Rattle.rt_model.specs.declared.setup.Setup.{Setup}
use Rattle.rt_model.specs.declared.status.Status.{Status}
use Rattle.rt_model.specs.declared.status.Status.TheVariants.{Done}
use Rattle.rt_segment.proofs.FileLaws.{spelled_read}
use Rattle.rt_past.specs.Past.{Past}
use Rattle.rt_past.specs.Files.{IsStored, header_by, header_in}
use Rattle.rt_past.specs.IsPast.{IsPast}
use Rattle.rt_past.specs.Replies.{IsStatus}
use Rattle.rt_past.specs.Segments.{WasDone}
use Rattle.rt_past.specs.View.{Carries, IsNamed, IsSound}
use Rattle.rt_past.specs.Writes.{IsRightStatus}

-- a file that is stored is the one that the commit names
pub stored_named : (setup : Setup) (past : Past) (p : Partition) (s : Sequence) (start : Offset) (commit : Commit)
    → IsStored setup past p s start commit → IsNamed past.files p s start commit
stored_named setup past p s start commit k =
    let f = k.right.file in
    record {
      bytes = k.bytes;
      stands = k.stands;
      header = ap header_in f.spelled ∙ ap header_by (spelled_read f.segment f.«sealed») ∙ ap (λ h. Some h) k.header;
    }

carries_done : (past : Past) (q : Request) (status : ReplyStatus) (done : SeenMeta) → IsStatus past q status → Carries status done
    → WasDone past.history q.partition q.sequence done
carries_done past q (Keep seen) done t c = subst (WasDone past.history q.partition q.sequence) c t
carries_done past q (CommitSuccess seen) done t c = subst (WasDone past.history q.partition q.sequence) c t
carries_done past q Hold done t c = absurd c
carries_done past q (CatchUp o) done t c = absurd c
carries_done past q Discard done t c = absurd c
carries_done past q (MayCommit o) done t c = absurd c
carries_done past q NotLeader done t c = absurd c
carries_done past q CommitContinue done t c = absurd c
carries_done past q (UploadSuccess path) done t c = absurd c
carries_done past q Processed done t c = absurd c
carries_done past q (Failed cause) done t c = absurd c

module _ (setup : Setup) (past : Past) (k : IsPast setup past) where
  -- a commit that a reply carries was written
  pub told_done : (r : Reply) (done : SeenMeta) → Has past.sent (sent.Reply r) → Carries r.status done
      → WasDone past.history r.partition r.sequence done
  told_done r done has carries =
      let y = k.replies r has in
      let q = y.request in
      let of : q.partition ≡ r.partition = ap (λ (a : Asked). a.partition) y.answers in
      let at : q.sequence ≡ r.sequence = ap (λ (a : Asked). a.sequence) y.answers in
      subst (λ z. WasDone past.history r.partition z done) at
      (subst (λ z. WasDone past.history z q.sequence done) of (carries_done past q r.status done y.status carries))

  -- the file of a commit that was written stands
  pub done_stored : (p : Partition) (s : Sequence) (seen : SeenMeta) (commit : Commit) → WasDone past.history p s seen
      → seen.meta.status ≡ Done commit → IsStored setup past p s seen.meta.start commit
  done_stored p s seen commit was e =
      (subst (λ (t : Status). IsRightStatus setup past p s seen.meta t) e (k.writes _ was.0)).1

  pub past_sound : IsSound setup past
  past_sound = record {
    view = record { partitions = k.partitions; lawful = k.lawful; once = k.once };
    done = λ p s seen commit within was e. done_stored p s seen commit was e;
    told = told_done;
  }
