-- Each call writes and puts what is right, so that the past goes on right.
use Rattle.std.proofs.Common.{◌≡◌, ◌<◌, List, sym, ap, subst}
use Rattle.rt_base.specs.declared.numbers.Moment.{Moment}
use Rattle.rt_base.specs.declared.numbers.Partition.{Partition}
use Rattle.rt_base.specs.declared.numbers.Sequence.{Sequence}
use Rattle.rt_lists.specs.Members.{Has}
use Rattle.rt_model.specs.declared.asked.Asked.{Asked}
use Rattle.rt_model.specs.declared.ideal_state.IdealEntry.{IdealEntry}
use Rattle.rt_model.specs.declared.ideal_state.IdealState.{IdealState}
use Rattle.rt_model.specs.declared.node.Key.{Key}
use Rattle.rt_model.specs.declared.node.Node.{Node}
use Rattle.rt_model.specs.declared.node.Node.TheVariants as node
use Rattle.rt_model.specs.declared.node.Seen.{Seen}
use Rattle.rt_model.specs.declared.setup.Setup.{Setup}
use Rattle.rt_model.specs.Entries.{entries_by}
use Rattle.rt_model.specs.Lawful.{Write, set, create_after, IsLawful, written_by}
use Rattle.rt_model.specs.Ideal.{next_sequence}
use Rattle.rt_meta.specs.Lives.{first_of}
use Rattle.rt_deep.specs.declared.deep_put.DeepPut.{DeepPut}
use Rattle.rt_deep.proofs.Told as deep_told
use Rattle.rt_store.specs.Answers.{after_call}
use Rattle.rt_store.specs.Calls.{told_on}
use Rattle.rt_store.specs.Meaning.{Told}
use Rattle.rt_store.proofs.Told.{leaves_on, read_same}
use Rattle.rt_past.specs.IsPast.{IsPast, IsUploaded}
use Rattle.rt_past.specs.Past.{Past, Grows, with_files, with_history}
use Rattle.rt_past.specs.Segments.{HadEntry}
use Rattle.rt_past.specs.Writes.{AreRightEntries, IsRightNode, IsRightWrite}
use Rattle.rt_past.proofs.Entries.{commit_right, offline_right}
use Rattle.rt_past.proofs.Growth.{grows_same}
use Rattle.rt_past.proofs.Ways.{past_called, past_put}
use Rattle.rt_znodes.specs.Znodes.{end_in}
use Rattle.rt_commit.specs.declared.job.JobStage.TheVariants as stage
use Rattle.rt_commit.specs.declared.job.JobStage.{JobStage}
use Rattle.rt_commit.specs.declared.work.Work.TheVariants as work
use Rattle.rt_commit.specs.declared.work.Work.{Work}
use Rattle.rt_commit.specs.Assignment.{Assigned, assigned_by}
use Rattle.rt_commit.specs.Calls.{Call, calls_nothing, puts, gets, reads, sets, creates, MayCall}
use Rattle.rt_commit.specs.IsJob.{IsAt}
use Rattle.rt_commit.specs.Job.{call_at, changed_entries, done_node}
use Rattle.rt_commit.specs.Lasting.{IsBacked, WasSent}
use Rattle.rt_commit.specs.Right.{told_past, past_after}
use Rattle.rt_commit.specs.Told.{ToldDeep}

-- ---- the past goes on

-- what a call may write or put is lawful and right
abbrev pub IsRightCall : Setup → Past → Call → Type 0
IsRightCall setup past calls_nothing = Unit {0}
IsRightCall setup past (puts path bytes) = IsUploaded past.sent (record { path = path; bytes = bytes })
IsRightCall setup past (gets path) = Unit {0}
IsRightCall setup past (reads k) = Unit {0}
IsRightCall setup past (sets from n) =
    IsLawful past.history (set from n) × IsRightWrite setup past (written_by past.history (set from n))
IsRightCall setup past (creates k n prior) =
    IsLawful past.history (create_after k n prior) × IsRightWrite setup past (written_by past.history (create_after k n prior))

abbrev pub GoesOnRight : Setup → Past → Past → Type 0
GoesOnRight setup old new = Grows old new × IsPast setup new

still : (setup : Setup) (a : Past) → IsPast setup a → GoesOnRight setup a a
still setup a k = (grows_same a, k)

called : (setup : Setup) (past : Past) (t : Told) (d : ToldDeep) (call : Write) → IsPast setup (told_past past t d)
    → IsLawful t.writes call × IsRightWrite setup (told_past past t d) (written_by t.writes call)
    → GoesOnRight setup (told_past past t d) (told_past past (told_on t (after_call call)) d)
called setup past t d call k right =
    past_called setup (told_past past t d) call (told_on t (after_call call)).writes (leaves_on t call) right.0 right.1 k

pub call_goes_on : (setup : Setup) (past : Past) (t : Told) (d : ToldDeep) (call : Call) → IsPast setup (told_past past t d)
    → IsRightCall setup (told_past past t d) call → GoesOnRight setup (told_past past t d) (past_after past t d call)
call_goes_on setup past t d calls_nothing k right = still setup (told_past past t d) k
call_goes_on setup past t d (puts path bytes) k right =
    let put : DeepPut = record { path = path; bytes = bytes } in
    past_put setup (told_past past t d) put _ (deep_told.leaves_on d put) right k
call_goes_on setup past t d (gets path) k right =
    let P : List DeepPut → Type 0 = λ files. GoesOnRight setup (told_past past t d) (with_files (told_past past t d) files) in
    subst P (sym (deep_told.get_same d)) (still setup (told_past past t d) k)
call_goes_on setup past t d (reads j) k right =
    let P : List Seen → Type 0 = λ h. GoesOnRight setup (told_past past t d) (with_history (told_past past t d) h) in
    subst P (sym (read_same t)) (still setup (told_past past t d) k)
call_goes_on setup past t d (sets from n) k right = called setup past t d (set from n) k right
call_goes_on setup past t d (creates j n prior) k right = called setup past t d (create_after j n prior) k right

-- ---- a step of a job

-- the segment of a job had an entry
pub entered : (setup : Setup) (past : Past) (a : Asked) → IsPast setup past → WasSent past a → HadEntry past.history a.partition a.sequence
entered setup past a k w =
    let q = w.request in
    let P : Partition → Type 0 = λ p. HadEntry past.history p q.sequence in
    let S : Sequence → Type 0 = λ s. HadEntry past.history a.partition s in
    subst S (ap (λ (x : Asked). x.sequence) w.answers)
    (subst P (ap (λ (x : Asked). x.partition) w.answers) (k.requests q w.was_sent).entered)

-- the entries as a job changes them
changed_right : (setup : Setup) (a : Assigned) (q : Asked) (w : Work) (es : List IdealEntry) → a ≡ assigned_by setup → q.partition.0 < setup.partitions
    → AreRightEntries setup es → AreRightEntries setup (changed_entries a q w es)
changed_right setup a q (work.Commit done) es e within right =
    let P : Assigned → Type 0 = λ x. AreRightEntries setup (changed_entries x q (work.Commit done) es) in
    subst P (sym e) (commit_right setup es q.partition q.sequence within right)
changed_right setup a q work.Offline es e within right = offline_right setup es q.partition q.sequence q.number.instance right

state_right : (setup : Setup) (past : Past) (ideal : Seen) (i : IdealState) → IsPast setup past → Has past.history ideal → ideal.node ≡ node.Ideal i
    → AreRightEntries setup (entries_by ideal.node)
state_right setup past ideal i k has is =
    let N : Node → Type 0 = IsRightNode setup past ideal.key in
    let E : List IdealEntry → Type 0 = AreRightEntries setup in
    subst E (sym (ap entries_by is)) (subst N is (k.writes ideal has))

pub stage_right : (setup : Setup) (past : Past) (a : Assigned) (q : Asked) (now : Moment) (from : JobStage) → a ≡ assigned_by setup
    → q.partition.0 < setup.partitions → IsPast setup past → WasSent past q → IsAt past.history q from → IsBacked setup past q from
    → MayCall past.history (call_at a q now from) → IsRightCall setup past (call_at a q now from)
stage_right setup past a q now (stage.Check from end path) e within k w is backed may = tt
stage_right setup past a q now (stage.Done from commit) e within k w is backed may =
    let P : Key → Type 0 = λ x. IsRightNode setup past x (done_node from commit now) in
    (may, subst P (sym is.read.of) (entered setup past q k w, backed))
stage_right setup past a q now (stage.Next done) e within k w is backed may =
    (may, ap (λ (x : Assigned). (first_of x.table q.partition (next_sequence q.sequence) (end_in done.node) now).name) e)
stage_right setup past a q now (stage.IdealRead w2 found) e within k w is backed may = tt
stage_right setup past a q now (stage.IdealSet w2 found ideal) e within k w is backed may =
    (may, changed_right setup a q w2 (entries_by ideal.node) e within (state_right setup past ideal is.state k is.has is.is_state))
stage_right setup past a q now stage.Ended e within k w is backed may = tt
