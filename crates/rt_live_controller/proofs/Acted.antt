-- What a controller does leaves it as its type says.
use Rattle.std.proofs.Common.{◌≡◌, ℕ, ◌<◌, true, List, [], ◌∷◌, ◌++◌, append-nil, length, Result, refl, sym, subst}
use Rattle.std.specs.Prelude.{All}
use Rattle.std.specs.declared.alloc.AllocError.{AllocError}
use Rattle.rt_base.specs.declared.numbers.Moment.{Moment}
use Rattle.rt_commit.specs.Lasting.{WasSent}
use Rattle.rt_commit.specs.Own.{HasReadFile}
use Rattle.rt_commit.specs.declared.job.Job.{Job}
use Rattle.rt_controller.specs.Controller.{Controlling, believing}
use Rattle.rt_controller.specs.IsController.{IsController}
use Rattle.rt_controller.specs.Steps.{Handles, Works}
use Rattle.rt_controller.specs.declared.handled.Handled.{Handled}
use Rattle.rt_controller.specs.declared.handled.JobRefused.{JobRefused}
use Rattle.rt_ground.specs.DeepCalls as deep_calls
use Rattle.rt_ground.specs.StoreCalls.{own_by, seen_by, shared_meaning}
use Rattle.rt_link.specs.declared.envelope.Envelope.{Envelope}
use Rattle.rt_lists.proofs.Members.{front_same}
use Rattle.rt_live_names.specs.Fronts.{Fronts}
use Rattle.rt_live_names.specs.Names.{Names}
use Rattle.rt_model.specs.Starting.{Starting}
use Rattle.rt_model.specs.declared.job_step.JobStep.{JobStep}
use Rattle.rt_model.specs.declared.reply.Reply.{Reply}
use Rattle.rt_model.specs.declared.request.Request.{Request}
use Rattle.rt_past.specs.Replies.{IsReply}
use Rattle.rt_store.specs.Contents.{starting_of}
use Rattle.rt_live_controller.specs.Acting.{ControllerActs, IsActing, IsActingOf, WasBegunIn}
use Rattle.rt_live_controller.specs.Begun.{HasBegun}
use Rattle.rt_live_controller.specs.ControllerSteps.{IsPassed}
use Rattle.rt_live_controller.specs.Did.{replies_of}
use Rattle.rt_live_controller.specs.declared.controller_did.ControllerDid.{ControllerDid}
use Rattle.rt_live_controller.specs.declared.controller_did.ControllerDid.TheVariants.{Believed, Heard, Passed, Worked}
use Rattle.rt_live_controller.proofs.Acts.{LocalThen, Moves, acts, local_still, replies_then, then, view_then}
use Rattle.rt_live_controller.proofs.Hears.{hears}
use Rattle.rt_live_controller.proofs.Works.{works}

-- ---- what calls no store

still : (s : Starting) (f : Fronts) → Moves s f f
still s f = record {
  store = record { seen = front_same (seen_by s f.store); numbers = refl; writes = front_same (own_by f.store).writes };
  deep = record { seen = front_same (deep_calls.shared_meaning f.deep).seen; numbers = refl; files = front_same (deep_calls.own_by f.deep).files };
  stream = refl;
}

module _ (n : Names) (a : ControllerActs) (c : Controlling) (d : ControllerDid) (is : IsActing n a) where
  -- it answers nothing, and has the same jobs
  same_local : replies_of a.did ++ [] ≡ replies_then n a c a.fronts d → c.jobs ≡ a.controller.jobs → LocalThen n a c a.fronts d
  same_local none jobs =
      let was = local_still n a c a.fronts d is (still (starting_of n.setup) a.fronts) in
      let view = view_then n a c a.fronts d in
      let Replied : List Reply → Type 0 = All (IsReply view) in
      let Taken : List Job → Type 0 = All (λ j. WasSent view j.asked) in
      let Read : List Job → Type 0 = All (λ j. HasReadFile view.files j.asked j.stage) in
      let Begun : List Job → Type 0 = All (λ j. HasBegun (WasBegunIn n (then n a c a.fronts d)) j.asked j.stage) in
      record {
        writes = was.writes;
        puts = was.puts;
        replies = subst Replied none (subst Replied (sym (append-nil (replies_of a.did))) was.replies);
        taken = subst Taken (sym jobs) was.taken;
        read = subst Read (sym jobs) was.read;
        begun = subst Begun (sym jobs) was.begun;
        written = was.written;
      }

believes : (n : Names) (a : ControllerActs) → IsActing n a → IsActing n (then n a (believing a.controller true) a.fronts Believed)
believes n a is =
    acts n a (believing a.controller true) a.fronts Believed is (still (starting_of n.setup) a.fronts) is.part.view.once
    (record { assigned = is.ready.assigned; lawful = is.ready.lawful; machines = is.ready.machines; jobs = is.ready.jobs })
    refl (same_local n a (believing a.controller true) Believed is refl refl)

passes : (n : Names) (a : ControllerActs) (e : Envelope) → IsPassed n.setup.partitions e → IsActing n a
    → IsActing n (then n a a.controller a.fronts (Passed e))
passes n a e by is =
    acts n a a.controller a.fronts (Passed e) is (still (starting_of n.setup) a.fronts) is.part.view.once is.ready (refl, by)
    (same_local n a a.controller (Passed e) is refl refl)

-- ---- over the ground's own starting contents

module _ (n : Names) (s : Starting) (count : ℕ) (a : ControllerActs) (is : IsActingOf n s count a) where
  abbrev noted : Controlling → Fronts → List ControllerDid → ControllerActs
  noted c f did = record { number = a.number; controller = c; fronts = f; did = did }

  abbrev Fits : Controlling → Fronts → List ControllerDid → Type 0
  Fits c f did = IsActingOf n s count (noted c f did)

  -- what was noted is one thing more
  fits : (c : Controlling) (f : Fronts) (did : List ControllerDid) (d : ControllerDid) → did ≡ a.did ++ d ∷ [] → IsActing n (then n a c f d) → Fits c f did
  fits c f did d e k = record {
    starting = is.starting;
    partitions = is.partitions;
    is = subst (λ (ds : List ControllerDid). IsActing n (noted c f ds)) (sym e) k;
  }

  pub has_believed : (c : Controlling) (did : List ControllerDid) → c ≡ believing a.controller true → did ≡ a.did ++ Believed ∷ [] → Fits c a.fronts did
  has_believed c did leads e =
      subst (λ (x : Controlling). Fits x a.fronts did) (sym leads)
      (fits (believing a.controller true) a.fronts did Believed e (believes n a is.is))

  pub has_passed : (did : List ControllerDid) (x : Envelope) → IsPassed n.setup.partitions x → did ≡ a.did ++ Passed x ∷ []
      → Fits a.controller a.fronts did
  has_passed did x by e = fits a.controller a.fronts did (Passed x) e (passes n a x by is.is)

  -- what a call left, over these starting contents
  record Left (c : Controlling) (f : Fronts) (Call : Starting → Type 0) (x : Starting) : Type 0 where
    call : Call x
    ready : IsController x (seen_by x a.fronts.store) a.controller → IsController x (seen_by x f.store) c

  pub has_heard : (c : Controlling) (f : Fronts) (did : List ControllerDid) (r : Request) (now : Moment) (result : Result Handled AllocError) (told deep_told : ℕ)
      → did ≡ a.did ++ Heard r now result told deep_told ∷ [] → f.stream ≡ a.fronts.stream → told ≡ length f.store.seen → deep_told ≡ length f.deep.seen
      → r.partition.0 < n.setup.partitions
      → Handles (shared_meaning s a.fronts.store) (shared_meaning s f.store) (deep_calls.shared_meaning a.fronts.deep) (deep_calls.shared_meaning f.deep)
      a.controller r now c result
      → ((st : Starting) → r.partition.0 < st.partitions → IsController st (seen_by s a.fronts.store) a.controller → IsController st (seen_by s f.store) c)
      → Fits c f did
  has_heard c f did r now result told deep_told e stream shows deep_shows within h ready =
      let Call : Starting → Type 0 = λ x. Handles (shared_meaning x a.fronts.store) (shared_meaning x f.store) (deep_calls.shared_meaning a.fronts.deep)
      (deep_calls.shared_meaning f.deep) a.controller r now c result in
      let there = subst (λ (x : Starting). r.partition.0 < x.partitions) is.starting within in
      let left : Left c f Call s = record { call = h; ready = λ k. ready s there k } in
      let at = subst (Left c f Call) (sym is.starting) left in
      fits c f did (Heard r now result told deep_told) e
      (hears n a c f r now result told deep_told is.is at.call stream shows deep_shows (at.ready is.is.ready))

  pub has_worked : (c : Controlling) (f : Fronts) (did : List ControllerDid) (job : ℕ) (now : Moment) (result : Result JobStep JobRefused) (told deep_told : ℕ)
      → did ≡ a.did ++ Worked job now result told deep_told ∷ [] → f.stream ≡ a.fronts.stream → told ≡ length f.store.seen → deep_told ≡ length f.deep.seen
      → Works (shared_meaning s a.fronts.store) (shared_meaning s f.store) (deep_calls.shared_meaning a.fronts.deep) (deep_calls.shared_meaning f.deep)
      a.controller job now c result
      → ((st : Starting) → IsController st (seen_by s a.fronts.store) a.controller → IsController st (seen_by s f.store) c)
      → Fits c f did
  has_worked c f did job now result told deep_told e stream shows deep_shows h ready =
      let Call : Starting → Type 0 = λ x. Works (shared_meaning x a.fronts.store) (shared_meaning x f.store) (deep_calls.shared_meaning a.fronts.deep)
      (deep_calls.shared_meaning f.deep) a.controller job now c result in
      let left : Left c f Call s = record { call = h; ready = λ k. ready s k } in
      let at = subst (Left c f Call) (sym is.starting) left in
      fits c f did (Worked job now result told deep_told) e
      (works n a c f job now result told deep_told is.is at.call stream shows deep_shows (at.ready is.is.ready))

  -- it is ready for a step of a job
  pub is_ready : (st : Starting) × IsController st (seen_by s a.fronts.store) a.controller
  is_ready = (s, subst (λ (x : Starting). IsController x (seen_by x a.fronts.store) a.controller) is.starting is.is.ready)
