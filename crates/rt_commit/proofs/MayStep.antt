-- What a job remembers makes the write of its next step lawful.
use Rattle.std.proofs.Common.{◌<◌, List, refl, sym, ap, subst}
use Rattle.rt_assign.proofs.Ring.{replicas_distinct}
use Rattle.rt_base.specs.declared.numbers.Moment.{Moment}
use Rattle.rt_base.specs.declared.numbers.Partition.{Partition}
use Rattle.rt_base.specs.declared.numbers.Sequence.{Sequence}
use Rattle.rt_model.specs.declared.asked.Asked.{Asked}
use Rattle.rt_model.specs.declared.commit.Commit.{Commit}
use Rattle.rt_model.specs.declared.ideal_state.IdealEntry.{IdealEntry}
use Rattle.rt_model.specs.declared.node.Key.{Key}
use Rattle.rt_model.specs.declared.node.Node.{Node}
use Rattle.rt_model.specs.declared.node.Node.TheVariants as node
use Rattle.rt_model.specs.declared.node.Seen.{Seen}
use Rattle.rt_model.specs.declared.seg_meta.SegMeta.{SegMeta}
use Rattle.rt_model.specs.declared.status.Status.{Status}
use Rattle.rt_model.specs.declared.status.Status.TheVariants.{InProgress, Done, Abandoned}
use Rattle.rt_model.specs.Entries.{entries_by}
use Rattle.rt_model.specs.Ideal.{next_sequence}
use Rattle.rt_model.specs.Lawful.{set, create_after, IsIdealStep, commits, turns_offline, Sets, StepsIdeal, IsAfter, IsLawful}
use Rattle.rt_model.specs.Metadata.{IsOpen, IsDone, IsDoneStatus, StartsAfter, Ends, Follows, BecameDone}
use Rattle.rt_meta.specs.Lives.{done_of, first_of}
use Rattle.rt_znodes.specs.Znodes.{meta_in, end_by, end_in}
use Rattle.rt_commit.specs.declared.job.JobStage.TheVariants as stage
use Rattle.rt_commit.specs.declared.job.JobStage.{JobStage}
use Rattle.rt_commit.specs.declared.work.Work.TheVariants as work
use Rattle.rt_commit.specs.declared.work.Work.{Work}
use Rattle.rt_commit.specs.Assignment.{Assigned, IsAssigned, replicas_in}
use Rattle.rt_commit.specs.Calls.{MayCall}
use Rattle.rt_commit.specs.IsJob.{IsSetDone, IsWork, IsCommitting, IsChanging, IsAt}
use Rattle.rt_commit.specs.Job.{done_node, next_key, next_node, changed_entries, ideal_node, call_at}

-- ---- done

ends_at : (n : Node) (commit : Commit) (now : Moment) → IsOpen n → (meta_in n).start.0 < commit.end.0
    → Ends n (node.Meta (done_of (meta_in n) commit now))
ends_at (node.Meta m) commit now starts past = (starts, refl, refl, past)
ends_at (node.Ideal i) commit now starts past = absurd starts
ends_at node.Boot commit now starts past = absurd starts
ends_at node.Gone commit now starts past = absurd starts

may_done : (seen : List Seen) (q : Asked) (from : Seen) (commit : Commit) (now : Moment)
    → IsCommitting seen q from commit.end.0 → IsLawful seen (set from (done_node from commit now))
may_done seen q from commit now k =
    let P : Key → Type 0 = λ x. Sets seen x from.node (done_node from commit now) in
    (k.read.has, subst P (sym k.read.of) (ends_at from.node commit now k.read.consuming k.past))

-- ---- next

starts_after : (m : SegMeta) (s : Status) → IsDoneStatus s → StartsAfter s m.start (end_by s)
starts_after m InProgress d = absurd d
starts_after m (Done commit) d = refl
starts_after m Abandoned d = absurd d

follows_done : (a : Assigned) (q : Asked) (now : Moment) (n : Node) → IsDone n
    → Follows n (node.Meta (first_of a.table q.partition (next_sequence q.sequence) (end_in n) now))
follows_done a q now (node.Meta m) d = (tt, starts_after m m.status d)
follows_done a q now (node.Ideal i) d = absurd d
follows_done a q now node.Boot d = absurd d
follows_done a q now node.Gone d = absurd d

may_next : (seen : List Seen) (a : Assigned) (q : Asked) (done : Seen) (now : Moment)
    → IsSetDone seen q.partition q.sequence done
    → IsLawful seen (create_after (next_key q) (next_node a q now done) done)
may_next seen a q done now k =
    let P : Key → Type 0 = λ x. IsAfter x (next_key q) in
    (k.has, subst P (sym k.of) (refl, refl), follows_done a q now done.node k.done)

-- ---- idealSet

became_done : (seen : List Seen) (p : Partition) (s : Sequence) (done : Seen) → IsSetDone seen p s done → BecameDone seen p s.0
became_done seen p s done k = (done, k.has, k.of, k.done)

ideal_step : (seen : List Seen) (a : Assigned) (q : Asked) (w : Work) (es : List IdealEntry) → IsAssigned a
    → IsWork seen q w → IsIdealStep seen es (changed_entries a q w es)
ideal_step seen a q (work.Commit done) es i k =
    commits q.partition q.sequence (replicas_in a q.partition)
    (replicas_distinct q.partition a.replication a.servers i.some i.enough)
    (became_done seen q.partition q.sequence done k.done) k.next refl
ideal_step seen a q work.Offline es i k = turns_offline q.partition q.sequence q.number.instance refl

may_set : (seen : List Seen) (a : Assigned) (q : Asked) (w : Work) (ideal : Seen) → IsAssigned a
    → IsChanging seen q w ideal → IsLawful seen (set ideal (ideal_node a q w ideal))
may_set seen a q w ideal i k =
    let fs = changed_entries a q w (entries_by ideal.node) in
    let at_entries : List IdealEntry → Type 0 = λ es. IsIdealStep seen es fs in
    let at_node : Node → Type 0 = λ n. StepsIdeal seen n (node.Ideal (record { entries = fs })) in
    let at_key : Key → Type 0 = λ x. Sets seen x ideal.node (node.Ideal (record { entries = fs })) in
    let step : IsIdealStep seen (entries_by ideal.node) fs = ideal_step seen a q w (entries_by ideal.node) i k.work in
    (k.has, subst at_key (sym k.is_ideal) (subst at_node (sym k.is_state) (subst at_entries (ap entries_by k.is_state) step)))

-- ---- a job

pub may_at : (seen : List Seen) (a : Assigned) (q : Asked) (now : Moment) (x : JobStage) → IsAssigned a → IsAt seen q x
    → MayCall seen (call_at a q now x)
may_at seen a q now (stage.Check from end path) i k = tt
may_at seen a q now (stage.Done from commit) i k = may_done seen q from commit now k
may_at seen a q now (stage.Next done) i k = may_next seen a q done now k
may_at seen a q now (stage.IdealRead w found) i k = tt
may_at seen a q now (stage.IdealSet w found ideal) i k = may_set seen a q w ideal i k
may_at seen a q now stage.Ended i k = absurd k
