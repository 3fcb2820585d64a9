-- A controller makes a step of a job.
use Rattle.std.proofs.Common.{◌≡◌, ℕ, [], length, Option, Some, None, Result, Ok, Err, refl, sym, ap, subst}
use Rattle.std.specs.Prelude.{All}
use Rattle.std.proofs.lemmas.List.Elements.{All-append, All-cons, All-nil}
use Rattle.std.proofs.lemmas.Option.{same_Some}
use Rattle.rt_base.specs.declared.numbers.Moment.{Moment}
use Rattle.rt_commit.specs.IsJob.{IsJob}
use Rattle.rt_commit.specs.Lasting.{WasSent}
use Rattle.rt_commit.specs.Own.{HasReadFile, IsOwnNode, OwnsMore}
use Rattle.rt_commit.specs.declared.job.Job.{Job}
use Rattle.rt_commit.proofs.Owns.{owns_idle, owns_same, owns_step, reads_step}
use Rattle.rt_controller.specs.Controller.{Controlling}
use Rattle.rt_controller.specs.IsController.{IsController}
use Rattle.rt_controller.specs.Steps.{Works}
use Rattle.rt_controller.specs.declared.handled.JobRefused.TheVariants.{Memory, NoJob}
use Rattle.rt_controller.specs.declared.handled.JobRefused.{JobRefused}
use Rattle.rt_controller.proofs.OwnAnswers.{step_answers}
use Rattle.rt_controller.proofs.OwnPuts.{step_puts}
use Rattle.rt_deep.specs.Meaning as deep
use Rattle.rt_ground.specs.DeepCalls as deep_calls
use Rattle.rt_ground.specs.StoreCalls.{own_by, seen_by, shared_meaning}
use Rattle.rt_lists.proofs.Lists.{All-found}
use Rattle.rt_live_names.specs.ControllerPart.{IsTaken}
use Rattle.rt_live_names.specs.Fronts.{Fronts, own_files, own_writes}
use Rattle.rt_live_names.specs.Names.{Names}
use Rattle.rt_model.specs.Starting.{Starting}
use Rattle.rt_model.specs.declared.job_step.JobStep.{JobStep}
use Rattle.rt_model.specs.declared.reply.Reply.{Reply}
use Rattle.rt_past.specs.Replies.{IsReply}
use Rattle.rt_controller.specs.Right.{IsReplied}
use Rattle.rt_store.specs.Contents.{starting_of}
use Rattle.rt_store.specs.Meaning.{Meaning}
use Rattle.rt_live_controller.specs.Acting.{ControllerActs, IsActing, WasBegunIn}
use Rattle.rt_live_controller.specs.Begun.{HasBegun, HasWritten}
use Rattle.rt_live_controller.specs.Did.{listed, replies_of, reply_of_job}
use Rattle.rt_live_controller.specs.declared.controller_did.ControllerDid.{ControllerDid}
use Rattle.rt_live_controller.specs.declared.controller_did.ControllerDid.TheVariants.{Worked}
use Rattle.rt_live_controller.proofs.Acts.{LocalThen, Moves, acts, calls_now, local_still, moves, puts_kept, requests_then, then, view_then}
use Rattle.rt_live_controller.proofs.Grown.{Grown, step_grown}
use Rattle.rt_live_controller.proofs.JobSteps.{begun_on, owned_all, step_all, step_is, writes_begun}
use Rattle.rt_live_controller.proofs.Keeping.{IsLocal}

module _ (n : Names) (a : ControllerActs) (c : Controlling) (f : Fronts) (job : ℕ) (now : Moment) (result : Result JobStep JobRefused) (told deep_told : ℕ)
    (is : IsActing n a) where
  abbrev s : Starting
  s = starting_of n.setup

  abbrev d : ControllerDid
  d = Worked job now result told deep_told

  abbrev x : Meaning
  x = shared_meaning s a.fronts.store

  abbrev y : Meaning
  y = shared_meaning s f.store

  abbrev u : deep.Meaning
  u = deep_calls.shared_meaning a.fronts.deep

  abbrev v : deep.Meaning
  v = deep_calls.shared_meaning f.deep

  abbrev Steps : Result JobStep JobRefused → Type 0
  Steps how = Works x y u v a.controller job now c how

  abbrev b : ControllerActs
  b = then n a c f d

  -- what was so is so still
  abbrev Still : Type 0
  Still = IsLocal (view_then n a c f d) (own_writes a.fronts) (own_files a.fronts) (requests_then n a c f d) (replies_of a.did) (WasBegunIn n b) a.controller.jobs

  -- what the jobs and the own writes are then
  pub record Goes : Type 0 where
    pub taken : All (λ j. WasSent (view_then n a c f d) j.asked) c.jobs
    pub read : All (λ j. HasReadFile v.seen j.asked j.stage) c.jobs
    pub begun : All (λ j. HasBegun (WasBegunIn n b) j.asked j.stage) c.jobs
    pub writes : OwnsMore (λ w. IsOwnNode v.seen w.key w.node) x.own y.own
    pub written : OwnsMore (λ w. HasWritten (WasBegunIn n b) w.key w.node) x.own y.own

  step_goes : (step : JobStep) → Works x y u v a.controller job now c (Ok step) → Still → Goes
  step_goes step h still =
      let k = step_is x y u v a.controller job now c step h in
      let at = (All-found (IsJob s x.seen) a.controller.jobs k.place k.job is.ready.jobs k.at).at in
      let read = All-found (λ (j : Job). HasReadFile u.seen j.asked j.stage) a.controller.jobs k.place k.job is.read k.at in
      let begun = All-found (λ (j : Job). HasBegun (WasBegunIn n b) j.asked j.stage) a.controller.jobs k.place k.job still.begun k.at in
      let sent = All-found (λ (j : Job). WasSent (view_then n a c f d) j.asked) a.controller.jobs k.place k.job still.taken k.at in
      let went = λ (P : Job → Type 0). step_all P x y u v a.controller job now (record { controller = c; step = step }) k in
      record {
        taken = went (λ j. WasSent (view_then n a c f d) j.asked) still.taken sent;
        read = went (λ j. HasReadFile v.seen j.asked j.stage) still.read
            (reads_step x y u v a.controller.assigned k.job.asked now k.job.stage k.x.stage (Ok k.x.did) at read k.made);
        begun = went (λ j. HasBegun (WasBegunIn n b) j.asked j.stage) still.begun
            (begun_on (WasBegunIn n b) k.job.asked now x y u v a.controller.assigned k.job.stage k.x begun k.made);
        writes = owns_step x y u v a.controller.assigned k.job.asked now k.job.stage k.x.stage (Ok k.x.did) at read k.made;
        written = writes_begun (WasBegunIn n b) x y u v a.controller.assigned k.job.asked now k.job.stage k.x at read begun k.made;
      }

  goes : (how : Result JobStep JobRefused) → Steps how → Still → Goes
  goes (Ok step) h still = step_goes step h still
  goes (Err NoJob) h still = record {
    taken = subst (λ (z : Controlling). All (λ (j : Job). WasSent (view_then n a c f d) j.asked) z.jobs) (sym h.1) still.taken;
    read = subst (λ (z : Controlling). All (λ (j : Job). HasReadFile v.seen j.asked j.stage) z.jobs) (sym h.1) still.read;
    begun = subst (λ (z : Controlling). All (λ (j : Job). HasBegun (WasBegunIn n b) j.asked j.stage) z.jobs) (sym h.1) still.begun;
    writes = owns_same (λ w. IsOwnNode v.seen w.key w.node) x y h.2;
    written = owns_same (λ w. HasWritten (WasBegunIn n b) w.key w.node) x y h.2;
  }
  goes (Err Memory) h still = record {
    taken = subst (λ (z : Controlling). All (λ (j : Job). WasSent (view_then n a c f d) j.asked) z.jobs) (sym h.0) still.taken;
    read = subst (λ (z : Controlling). All (λ (j : Job). HasReadFile v.seen j.asked j.stage) z.jobs) (sym h.0) still.read;
    begun = subst (λ (z : Controlling). All (λ (j : Job). HasBegun (WasBegunIn n b) j.asked j.stage) z.jobs) (sym h.0) still.begun;
    writes = owns_idle (λ w. IsOwnNode v.seen w.key w.node) x y h.1.0;
    written = owns_idle (λ w. HasWritten (WasBegunIn n b) w.key w.node) x y h.1.0;
  }

  -- what becomes its own of the store, before the rest is known
  first_own : (how : Result JobStep JobRefused) → Steps how → OwnsMore (λ w. IsOwnNode v.seen w.key w.node) x.own y.own
  first_own (Ok step) h =
      let k = step_is x y u v a.controller job now c step h in
      let at = (All-found (IsJob s x.seen) a.controller.jobs k.place k.job is.ready.jobs k.at).at in
      let read = All-found (λ (j : Job). HasReadFile u.seen j.asked j.stage) a.controller.jobs k.place k.job is.read k.at in
      owns_step x y u v a.controller.assigned k.job.asked now k.job.stage k.x.stage (Ok k.x.did) at read k.made
  first_own (Err NoJob) h = owns_same (λ w. IsOwnNode v.seen w.key w.node) x y h.2
  first_own (Err Memory) h = owns_idle (λ w. IsOwnNode v.seen w.key w.node) x y h.1.0

  -- the answer with which a job ends
  replied : (how : Result JobStep JobRefused) → Steps how → Still → All (IsReply (view_then n a c f d)) (listed (reply_of_job how))
  replied (Ok step) h still =
      by_reply step.reply
      (step_answers (view_then n a c f d) s x y u v a.controller c job now step (record { history = refl; files = refl }) still.taken is.ready h)
    where
      by_reply : (o : Option Reply) → IsReplied (view_then n a c f d) o → All (IsReply (view_then n a c f d)) (listed o)
      by_reply None k = All-nil (IsReply (view_then n a c f d))
      by_reply (Some reply) k = All-cons (IsReply (view_then n a c f d)) reply [] k (All-nil (IsReply (view_then n a c f d)))
  replied (Err refused) h still = All-nil (IsReply (view_then n a c f d))

  module _ (h : Steps result) (stream : f.stream ≡ a.fronts.stream) where
    grown : Grown x y u v
    grown = step_grown x y u v a.controller c job now result h

    same_files : Some (deep_calls.own_by f.deep) ≡ Some (deep_calls.own_by a.fronts.deep)
    same_files = step_puts x y u v a.controller c job now result h

    moved : Moves s a.fronts f
    moved =
        moves s (λ w. IsOwnNode v.seen w.key w.node) (λ p. Unit {0}) a.fronts f grown (first_own result h)
        (puts_kept (λ p. Unit {0}) (deep_calls.own_by a.fronts.deep) (deep_calls.own_by f.deep) same_files) stream

    puts_are : own_files f ≡ own_files a.fronts
    puts_are = ap (λ (o : deep.Own). o.files) (same_Some (deep_calls.own_by f.deep) (deep_calls.own_by a.fronts.deep) same_files)

    local : LocalThen n a c f d
    local =
        let still = local_still n a c f d is moved in
        let view = view_then n a c f d in
        let k = goes result h still in
        record {
          writes = owned_all (λ w. IsOwnNode v.seen w.key w.node) (own_by a.fronts.store) (own_by f.store) k.writes still.writes;
          puts = subst (All (IsTaken (requests_then n a c f d))) (sym puts_are) still.puts;
          replies = All-append (IsReply view) (replies_of a.did) (listed (reply_of_job result)) still.replies (replied result h still);
          taken = k.taken;
          read = k.read;
          begun = k.begun;
          written = owned_all (λ w. HasWritten (WasBegunIn n b) w.key w.node) (own_by a.fronts.store) (own_by f.store) k.written still.written;
        }

    pub works : told ≡ length f.store.seen → deep_told ≡ length f.deep.seen → IsController s (seen_by s f.store) c → IsActing n b
    works shows deep_shows ready =
        acts n a c f d is moved (grown.once is.part.view.once) ready
        (sym shows, sym deep_shows, calls_now s a b (λ p q r t. Works p q r t a.controller job now c result) moved h) local
