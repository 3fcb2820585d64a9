-- A controller takes a request.
use Rattle.std.proofs.Common.{◌≡◌, ◌⊎◌, inl, inr, ℕ, true, List, [], ◌∷◌, ◌++◌, length, Some, Result, Ok, Err, refl, sym, ◌∙◌, ap, subst}
use Rattle.std.specs.Prelude.{All}
use Rattle.std.proofs.lemmas.List.{append_cancel_left}
use Rattle.std.proofs.lemmas.Option.{same_Some}
use Rattle.std.proofs.lemmas.List.Elements.{All-append, All-cons, All-nil, All-push, All-weaker}
use Rattle.std.specs.declared.alloc.AllocError.{AllocError}
use Rattle.rt_base.specs.declared.numbers.Moment.{Moment}
use Rattle.rt_commit.specs.Job.{commits}
use Rattle.rt_commit.specs.Lasting.{WasSent}
use Rattle.rt_commit.specs.Own.{HasReadFile, IsOwnNode}
use Rattle.rt_commit.specs.declared.job.Job.{Job}
use Rattle.rt_commit.specs.declared.job.JobStage.{JobStage}
use Rattle.rt_commit.specs.declared.job.JobStage.TheVariants as stage
use Rattle.rt_controller.specs.Controller.{Controlling}
use Rattle.rt_controller.specs.IsController.{IsController}
use Rattle.rt_controller.specs.Own.{IsItsUpload, PutsMore}
use Rattle.rt_controller.specs.Answers.{Handling}
use Rattle.rt_controller.specs.Right.{IsHandled, commit_job}
use Rattle.rt_controller.specs.Steps.{Handles}
use Rattle.rt_controller.specs.declared.handled.Handled.{Handled}
use Rattle.rt_controller.specs.declared.handled.Handled.TheVariants as handled
use Rattle.rt_controller.proofs.OwnAnswers.{request_answers}
use Rattle.rt_controller.proofs.OwnPuts.{request_puts, request_writes}
use Rattle.rt_controller.proofs.StartsAlone.{starts_at_machine}
use Rattle.rt_deep.specs.declared.deep_put.DeepPut.{DeepPut}
use Rattle.rt_ground.specs.DeepCalls as deep_calls
use Rattle.rt_ground.specs.StoreCalls.{own_by, seen_by, shared_meaning}
use Rattle.rt_lists.proofs.Members.{Has-push}
use Rattle.rt_live_names.specs.ControllerPart.{IsTaken}
use Rattle.rt_live_names.specs.Fronts.{Fronts, own_files, own_writes}
use Rattle.rt_live_names.specs.Names.{Names}
use Rattle.rt_model.specs.Starting.{Starting}
use Rattle.rt_model.specs.declared.asked.Asked.{Asked}
use Rattle.rt_model.specs.declared.node.Seen.{Seen}
use Rattle.rt_model.specs.declared.request.Request.{Request}
use Rattle.rt_past.specs.Replies.{IsReply}
use Rattle.rt_store.specs.Contents.{starting_of}
use Rattle.rt_store.specs.Meaning.{Own}
use Rattle.rt_live_controller.specs.Acting.{ControllerActs, IsActing, WasBegunIn, now_of}
use Rattle.rt_live_controller.specs.Begun.{HasBegun, HasWritten}
use Rattle.rt_live_controller.specs.Did.{listed, replies_of, reply_at_once, requests_of}
use Rattle.rt_live_controller.specs.declared.controller_did.ControllerDid.{ControllerDid}
use Rattle.rt_live_controller.specs.declared.controller_did.ControllerDid.TheVariants.{Heard}
use Rattle.rt_live_controller.proofs.Acts.{LocalThen, Moves, acts, calls_now, files_are, local_still, moves, owns_kept, replays_on, replies_then, requests_then, then, view_then}
use Rattle.rt_live_controller.proofs.Grown.{Grown, request_grown}
use Rattle.rt_live_controller.proofs.Listed.{message_of}
use Rattle.rt_live_controller.proofs.NewJobs.{IsFirst, NewJob, request_adds}

first_read : (files : List DeepPut) (q : Asked) (s : JobStage) → IsFirst s → HasReadFile files q s
first_read files q (stage.Check from end path) k = tt
first_read files q (stage.IdealRead w found) k = tt
first_read files q (stage.Done from commit) k = absurd k
first_read files q (stage.Next done) k = absurd k
first_read files q (stage.IdealSet w found ideal) k = absurd k
first_read files q stage.Ended k = absurd k

same_job : (xs : List Job) (x y : Job) → xs ++ x ∷ [] ≡ xs ++ y ∷ [] → x ≡ y
same_job xs x y e = let one : x ∷ [] ≡ y ∷ [] = append_cancel_left xs (x ∷ []) (y ∷ []) e in cc

module _ (n : Names) (a : ControllerActs) (c : Controlling) (f : Fronts) (r : Request) (now : Moment) (result : Result Handled AllocError) (told deep_told : ℕ)
    (is : IsActing n a) where
  abbrev s : Starting
  s = starting_of n.setup

  abbrev d : ControllerDid
  d = Heard r now result told deep_told

  abbrev Takes : Result Handled AllocError → Type 0
  Takes how =
      Handles (shared_meaning s a.fronts.store) (shared_meaning s f.store) (deep_calls.shared_meaning a.fronts.deep) (deep_calls.shared_meaning f.deep)
      a.controller r now c how

  abbrev b : ControllerActs
  b = then n a c f d

  -- the jobs
  jobs_all : (P : Job → Type 0) (how : Result Handled AllocError) → Takes how → All P a.controller.jobs
      → ((k : NewJob a.controller r c) (what : Handled) → how ≡ Ok what → P k.job) → All P c.jobs
  jobs_all P (Ok what) h all first =
      either
      (request_adds a.controller r now (shared_meaning s a.fronts.store) (shared_meaning s f.store) (deep_calls.shared_meaning a.fronts.deep)
      (deep_calls.shared_meaning f.deep) c what h)
    where
      either : (c.jobs ≡ a.controller.jobs) ⊎ NewJob a.controller r c → All P c.jobs
      either (inl same) = subst (All P) (sym same) all
      either (inr k) = subst (All P) (sym k.jobs) (All-push P a.controller.jobs k.job all (first k what refl))
  jobs_all P (Err refused) h all first = subst (λ (x : Controlling). All P x.jobs) (sym h.0) all

  -- a commit job began at its machine
  at_machine : (m : Moves s a.fronts f) (what : Handled) → result ≡ Ok what → Takes (Ok what) → (k : NewJob a.controller r c) → commits k.job.stage ≡ true
      → HasBegun (WasBegunIn n b) k.job.asked k.job.stage
  at_machine m what e h k committing =
      let at = starts_at_machine (shared_meaning s a.fronts.store) (shared_meaning s f.store) (deep_calls.shared_meaning a.fronts.deep)
      (deep_calls.shared_meaning f.deep) a.controller c r now what h (record { job = k.job; jobs = k.jobs; committing = committing }) in
      let job = commit_job a.controller r at.path at.machine in
      let same = same_job a.controller.jobs k.job job (sym k.jobs ∙ ap (λ (x : Handling). x.controller.jobs) at.started) in
      let was : WasBegunIn n b r.partition r.sequence at.machine.machine.offset at.path = record {
        earlier = a.did;
        heard = d;
        later = [];
        whole = refl;
        request = r;
        now = now;
        result = result;
        told = told;
        deep_told = deep_told;
        is = refl;
        was = now_of a;
        replayed = replays_on n a c f d is m;
        place = at.place;
        machine = at.machine;
        timely = at.timely;
        partition = refl;
        sequence = refl;
        offset = at.timely.offset;
      } in
      subst (λ (j : Job). HasBegun (WasBegunIn n b) j.asked j.stage) (sym same) was

  first_begun : (m : Moves s a.fronts f) (what : Handled) → result ≡ Ok what → Takes (Ok what) → (k : NewJob a.controller r c) (st : JobStage) → IsFirst st
      → k.job.stage ≡ st → HasBegun (WasBegunIn n b) k.job.asked k.job.stage
  first_begun m what e h k (stage.Check from end path) first at = at_machine m what e h k (ap commits at)
  first_begun m what e h k (stage.IdealRead w found) first at = subst (HasBegun (WasBegunIn n b) k.job.asked) (sym at) tt
  first_begun m what e h k (stage.Done from commit) first at = absurd first
  first_begun m what e h k (stage.Next done) first at = absurd first
  first_begun m what e h k (stage.IdealSet w found ideal) first at = absurd first
  first_begun m what e h k stage.Ended first at = absurd first

  -- what becomes its own
  kept : (how : Result Handled AllocError) → Takes how → Some (own_by f.store) ≡ Some (own_by a.fronts.store)
  kept (Ok what) h =
      request_writes (shared_meaning s a.fronts.store) (shared_meaning s f.store) (deep_calls.shared_meaning a.fronts.deep)
      (deep_calls.shared_meaning f.deep) a.controller c r now (Ok what) h
  kept (Err refused) h =
      request_writes (shared_meaning s a.fronts.store) (shared_meaning s f.store) (deep_calls.shared_meaning a.fronts.deep)
      (deep_calls.shared_meaning f.deep) a.controller c r now (Err tt) h

  put : (how : Result Handled AllocError) → Takes how
      → PutsMore (IsItsUpload r) (Some (deep_calls.own_by a.fronts.deep)) (Some (deep_calls.own_by f.deep))
  put (Ok what) h =
      request_puts (shared_meaning s a.fronts.store) (shared_meaning s f.store) (deep_calls.shared_meaning a.fronts.deep)
      (deep_calls.shared_meaning f.deep) a.controller c r now (Ok what) h
  put (Err refused) h =
      request_puts (shared_meaning s a.fronts.store) (shared_meaning s f.store) (deep_calls.shared_meaning a.fronts.deep)
      (deep_calls.shared_meaning f.deep) a.controller c r now (Err tt) h

  -- the answer that is given at once
  replied : (how : Result Handled AllocError) → result ≡ how → Takes how → All (IsReply (view_then n a c f d)) (listed (reply_at_once how))
  replied (Ok what) e h =
      by_what what
      (request_answers (view_then n a c f d) (shared_meaning s a.fronts.store) (shared_meaning s f.store) (deep_calls.shared_meaning a.fronts.deep)
      (deep_calls.shared_meaning f.deep) a.controller c r now what (record { history = refl; files = refl })
      (message_of (requests_then n a c f d) (replies_then n a c f d) r (Has-push (requests_of a.did) r)) h)
    where
      by_what : (what : Handled) → IsHandled (view_then n a c f d) what → All (IsReply (view_then n a c f d)) (listed (reply_at_once {E = AllocError} (Ok what)))
      by_what (handled.Reply reply) k = All-cons (IsReply (view_then n a c f d)) reply [] k (All-nil (IsReply (view_then n a c f d)))
      by_what (handled.Job number) k = All-nil (IsReply (view_then n a c f d))
  replied (Err refused) e h = All-nil (IsReply (view_then n a c f d))

  module _ (h : Takes result) (stream : f.stream ≡ a.fronts.stream) where
    grown : Grown (shared_meaning s a.fronts.store) (shared_meaning s f.store) (deep_calls.shared_meaning a.fronts.deep) (deep_calls.shared_meaning f.deep)
    grown = request_grown (shared_meaning s a.fronts.store) (shared_meaning s f.store) (deep_calls.shared_meaning a.fronts.deep) (deep_calls.shared_meaning f.deep)
        a.controller c r now result h

    same_own : Some (own_by f.store) ≡ Some (own_by a.fronts.store)
    same_own = kept result h

    puts : PutsMore (IsItsUpload r) (Some (deep_calls.own_by a.fronts.deep)) (Some (deep_calls.own_by f.deep))
    puts = put result h

    moved : Moves s a.fronts f
    moved = moves s (λ w. Unit {0}) (IsItsUpload r) a.fronts f grown (owns_kept (λ w. Unit {0}) (own_by a.fronts.store) (own_by f.store) same_own) puts stream

    same_writes : own_writes f ≡ own_writes a.fronts
    same_writes = ap (λ (o : Own). o.writes) (same_Some (own_by f.store) (own_by a.fronts.store) same_own)

    uploaded : (x : DeepPut) → IsItsUpload r x → IsTaken (requests_then n a c f d) x
    uploaded x u = record { request = r; taken = Has-push (requests_of a.did) r; uploads = u }

    local : LocalThen n a c f d
    local =
        let still = local_still n a c f d is moved in
        let view = view_then n a c f d in
        let W = WasBegunIn n b in
        record {
          writes = subst (All (λ (w : Seen). IsOwnNode view.files w.key w.node)) (sym same_writes) still.writes;
          puts = subst (All (IsTaken (requests_then n a c f d)))
              (sym (files_are (IsItsUpload r) (deep_calls.own_by a.fronts.deep) (deep_calls.own_by f.deep) puts))
              (All-append (IsTaken (requests_then n a c f d)) (own_files a.fronts) puts.0 still.puts
              (All-weaker (IsItsUpload r) (IsTaken (requests_then n a c f d)) uploaded puts.0 puts.2));
          replies = All-append (IsReply view) (replies_of a.did) (listed (reply_at_once result)) still.replies (replied result refl h);
          taken = jobs_all (λ j. WasSent view j.asked) result h still.taken
              (λ k what e. record {
                request = r;
                was_sent = message_of (requests_then n a c f d) (replies_then n a c f d) r (Has-push (requests_of a.did) r);
                answers = sym k.asked;
              });
          read = jobs_all (λ j. HasReadFile view.files j.asked j.stage) result h still.read (λ k what e. first_read view.files k.job.asked k.job.stage k.first);
          begun = jobs_all (λ j. HasBegun W j.asked j.stage) result h still.begun
              (λ k what e. first_begun moved what e (subst Takes e h) k k.job.stage k.first refl);
          written = subst (All (λ (w : Seen). HasWritten W w.key w.node)) (sym same_writes) still.written;
        }

    pub hears : told ≡ length f.store.seen → deep_told ≡ length f.deep.seen → IsController s (seen_by s f.store) c → IsActing n b
    hears shows deep_shows ready =
        acts n a c f d is moved (grown.once is.part.view.once) ready
        (sym shows, sym deep_shows, calls_now s a b (λ x y u v. Handles x y u v a.controller r now c result) moved h) local
