-- What a controller's step that calls the stores adds to a safe world.
use Rattle.std.proofs.Common.{◌≡◌, ◌<◌, ℕ, Bool, List, Option, Some, None, refl, sym, subst, slice_get, length}
use Rattle.rt_base.specs.declared.numbers.ControllerId.{ControllerId}
use Rattle.rt_base.specs.declared.numbers.Partition.{Partition}
use Rattle.rt_base.specs.declared.numbers.Sequence.{Sequence}
use Rattle.rt_controller.specs.Controller.{Controlling}
use Rattle.rt_commit.specs.Job.{commits}
use Rattle.rt_commit.specs.Right.{EndsSo, FailsSo, MetFault, StatusSo}
use Rattle.rt_controller.specs.Right.{IsPossible, IsPossibleStatus, IsPossiblyHandled, WorksOver}
use Rattle.rt_controller.specs.declared.handled.Handled.{Handled}
use Rattle.rt_controller.specs.declared.handled.Handled.TheVariants as handled
use Rattle.rt_controller.proofs.CallsOver.{handles_over, works_over}
use Rattle.rt_deep.specs.Meaning.{Told as ToldDeep}
use Rattle.rt_deep.specs.declared.deep_put.DeepPut.{DeepPut}
use Rattle.rt_model.specs.declared.job_step.JobStep.{JobStep}
use Rattle.rt_model.specs.declared.job_step.StepName.{StepName}
use Rattle.rt_model.specs.declared.node.Seen.{Seen}
use Rattle.rt_model.specs.declared.reply.FailCause.{FailCause}
use Rattle.rt_model.specs.declared.reply.FailCause.TheVariants as cause
use Rattle.rt_model.specs.declared.reply.Reply.{Reply}
use Rattle.rt_model.specs.declared.reply.ReplyStatus.{ReplyStatus}
use Rattle.rt_model.specs.declared.reply.ReplyStatus.TheVariants as status
use Rattle.rt_model.specs.declared.request.Request.{Request}
use Rattle.rt_model.specs.declared.sent.Sent.TheVariants as sent
use Rattle.rt_past.specs.Past.{Past, Grows, with_history, with_files, with_sent}
use Rattle.rt_past.proofs.Growth.{grows_then}
use Rattle.rt_store.specs.Meaning.{Told}
use Rattle.rt_state.specs.Applying.{Next}
use Rattle.rt_state.specs.IsSafe.{past_of}
use Rattle.rt_state.specs.IsSafeWorld.{IsSafeWorld}
use Rattle.rt_state.specs.Finding.{request_at}
use Rattle.rt_state.specs.Jobs.{JobSteps, JobStepsAt, noted_set, stepped_by}
use Rattle.rt_state.specs.Messages.{DeliversAt, Delivers, after_step, handed, with_reply}
use Rattle.rt_nodes.specs.declared.chore.Chore.{Chore}
use Rattle.rt_state.specs.Repairs.{KeepsAt, Keeps, after_upkeep, upkeep_at}
use Rattle.rt_state.specs.Room.{counted}
use Rattle.rt_nodes.specs.declared.controller_node.ControllerNode.{ControllerNode}
use Rattle.rt_state.specs.declared.cost.Cost.{Cost}
use Rattle.rt_state.specs.declared.state.State.{State}
use Rattle.rt_nodes.specs.declared.upkeep.Upkeep.{Upkeep}
use Rattle.rt_safety.proofs.Adds.{Adds, adds_quietly, adds_reply, grows_sent}
use Rattle.rt_safety.proofs.Ways.{BeginsRightly}
use Rattle.rt_state.proofs.Bounds.{few_writes}
use Rattle.rt_world.proofs.KeepsMessages.{request_sent}
use Rattle.rt_world.proofs.KeepsRepairs.{chore_writes, upkeep_there}

-- ---- possible replies

fails_possibly : (h : List Seen) (p : Partition) (s : Sequence) (rose : Type 0) (n : StepName) (why : FailCause) → FailsSo h p s rose n why → IsPossible why
fails_possibly h p s rose n (cause.WrongState state) f = tt
fails_possibly h p s rose n (cause.WrongOffset x o) f = tt
fails_possibly h p s rose n (cause.NotCommitter i) f = tt
fails_possibly h p s rose n cause.NoSegment f = tt
fails_possibly h p s rose n (cause.VersionChanged expected found) f = tt
fails_possibly h p s rose n cause.StoreFault f = tt
fails_possibly h p s rose n (cause.BadUpload wanted found) f = f
fails_possibly h p s rose n (cause.IdealChanged versions) f = tt
fails_possibly h p s rose n cause.NotReplica f = f

ends_possibly : (h : List Seen) (p : Partition) (s : Sequence) (rose : Type 0) (commit : Bool) (n : StepName) (how : ReplyStatus) → StatusSo h p s rose commit n how
    → IsPossibleStatus how
ends_possibly h p s rose commit n (status.Failed why) f = fails_possibly h p s rose n why f
ends_possibly h p s rose commit n (status.Keep seen) f = tt
ends_possibly h p s rose commit n (status.CommitSuccess seen) f = tt
ends_possibly h p s rose commit n (status.UploadSuccess path) f = tt
ends_possibly h p s rose commit n status.Hold f = tt
ends_possibly h p s rose commit n (status.CatchUp offset) f = tt
ends_possibly h p s rose commit n status.Discard f = tt
ends_possibly h p s rose commit n (status.Commit offset) f = tt
ends_possibly h p s rose commit n status.NotLeader f = tt
ends_possibly h p s rose commit n status.CommitContinue f = tt
ends_possibly h p s rose commit n status.Processed f = tt

-- ---- deliver

-- what is written and put, where nothing was written
grows_files : (a : Past) (h : List Seen) (files : List DeepPut) → h ≡ a.history → Grows a (with_files a files) → Grows a (with_history (with_files a files) h)
grows_files a h files same g = subst (λ (ws : List Seen). Grows a (with_history (with_files a files) ws)) (sym same) g

deliver_adds_at : (w : State) (c : ControllerId) (n : ControllerNode) (new : Controlling) (store : Told) (deep : ToldDeep) (cost : Cost) (what : Handled)
    → Grows (past_of w) (with_history (with_files (past_of w) deep.files) store.writes) → IsPossiblyHandled what
    → Adds w (handed (after_step w c n new store deep) cost what).0
deliver_adds_at w c n new store deep cost (handled.Reply r) g possible =
    let b = with_history (with_files (past_of w) deep.files) store.writes in
    adds_reply w (counted (with_reply (after_step w c n new store deep) r) cost) r refl refl
    (grows_then (past_of w) b (with_sent b (sent.Reply r)) g (grows_sent b (sent.Reply r))) possible
deliver_adds_at w c n new store deep cost (handled.Job j) g possible =
    adds_quietly w (counted (after_step w c n new store deep) cost) refl refl g

pub deliver_adds : (w : State) (m : ℕ) (c : ControllerId) (cost : Cost) (x : Next) → IsSafeWorld w → Delivers w m c cost x → Adds w x.0
deliver_adds w m c cost x s h = by_found (request_at w m) refl (slice_get w.controllers c.0) refl h
  where
    by_found : (o : Option Request) → request_at w m ≡ o → (n : Option ControllerNode) → slice_get w.controllers c.0 ≡ n → DeliversAt o n w c cost x → Adds w x.0
    by_found None at n there h = absurd h
    by_found (Some q) at None there h = absurd h
    by_found (Some q) at (Some n) there (new, what, store, deep, handles, is) =
        let k = handles_over w.setup (past_of w) w.store store w.deep deep n.controller new q w.moment what s.safe.setup s.safe.past (few_writes w s) refl refl
        (request_sent w m q at) (s.safe.controllers c.0 n there).over handles in
        subst (λ (y : Next). Adds w y.0) (sym is)
        (deliver_adds_at w c n new store deep cost what (grows_files (past_of w) store.writes deep.files k.written k.grows) k.possible)

-- ---- a step of a job

job_adds_at : (w : State) (c : ControllerId) (n : ControllerNode) (new : Controlling) (store : Told) (deep : ToldDeep) (cost : Cost) (step : JobStep) (o : Option Reply)
    → Grows (past_of w) (with_history (with_files (past_of w) deep.files) store.writes) → ((r : Reply) → o ≡ Some r → IsPossibleStatus r.status)
    → Adds w (stepped_by (noted_set (after_step w c n new store deep) cost (length w.store.writes)) cost step o).0
job_adds_at w c n new store deep cost step None g possible =
    adds_quietly w (stepped_by (noted_set (after_step w c n new store deep) cost (length w.store.writes)) cost step None).0 refl refl g
job_adds_at w c n new store deep cost step (Some r) g possible =
    let b = with_history (with_files (past_of w) deep.files) store.writes in
    adds_reply w (stepped_by (noted_set (after_step w c n new store deep) cost (length w.store.writes)) cost step (Some r)).0 r refl refl
    (grows_then (past_of w) b (with_sent b (sent.Reply r)) g (grows_sent b (sent.Reply r))) (possible r refl)

pub job_adds : (w : State) (c : ControllerId) (j : ℕ) (cost : Cost) (x : Next) → IsSafeWorld w → JobSteps w c j cost x → Adds w x.0
job_adds w c j cost x s h = by_node (slice_get w.controllers c.0) refl h
  where
    possible : (n : ControllerNode) (new : Controlling) (store : Told) (deep : ToldDeep) (step : JobStep)
        → WorksOver w.setup (past_of w) w.store store w.deep deep n.controller new j step → (r : Reply) → step.reply ≡ Some r → IsPossibleStatus r.status
    possible n new store deep step k r e =
        ends_possibly store.writes k.job.asked.partition k.job.asked.sequence (MetFault w.store store w.deep deep) (commits k.job.stage) step.step r.status
        (subst (EndsSo store.writes k.job.asked.partition k.job.asked.sequence (MetFault w.store store w.deep deep) (commits k.job.stage) step.step) e k.ends)

    by_node : (o : Option ControllerNode) → slice_get w.controllers c.0 ≡ o → JobStepsAt o w c j cost x → Adds w x.0
    by_node None there h = absurd h
    by_node (Some n) there (new, step, store, deep, works, is) =
        let a = past_of w in
        let k = works_over w.setup a w.store store w.deep deep n.controller new j w.moment step s.safe.setup s.safe.past refl refl (s.safe.controllers c.0 n there).over works in
        subst (λ (y : Next). Adds w y.0) (sym is)
        (job_adds_at w c n new store deep cost step step.reply
        (subst (λ (files : List DeepPut). Grows a (with_history (with_files a files) store.writes)) (sym k.files) k.grows) (possible n new store deep step k))

-- ---- chores

pub chore_adds : (w : State) (c : ControllerId) (p : Partition) (chore : Chore) (cost : Cost) (x : Next) → IsSafeWorld w
    → (p.0 < w.setup.partitions) × BeginsRightly chore w c p → Keeps w c p chore cost x → Adds w x.0
chore_adds w c p chore cost x s left h = by_found (slice_get w.controllers c.0) refl (upkeep_at w c p) refl h
  where
    by_found : (o : Option ControllerNode) → slice_get w.controllers c.0 ≡ o → (u : Option Upkeep) → upkeep_at w c p ≡ u → KeepsAt o u w c p chore cost x → Adds w x.0
    by_found None there u at h = absurd h
    by_found (Some n) there None at h = absurd h
    by_found (Some n) there (Some old) at (new, store, steps, is) =
        let k = chore_writes w p chore old new store x.1 s.safe left.0 (left.1 old at) (upkeep_there w c p n old s.safe there at) steps in
        subst (Adds w) (sym is) (adds_quietly w (after_upkeep w c p n new store cost) refl refl k.grows)
