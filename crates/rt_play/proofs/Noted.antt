-- What is noted of a script's lines holds in the world behind them.
use Rattle.std.proofs.Common.{◌≡◌, ◌<◌, ◌≤◌, ℕ, false, List, ◌∷◌, ◌++◌, Option, Some, None, Ok, refl, sym, ◌∙◌, ap, subst, slice_get, ⊎_elim}
use Rattle.std.specs.Prelude.{IfSome}
use Rattle.std.proofs.lemmas.Bool.{eq-eqb, false≢true}
use Rattle.rt_base.specs.declared.numbers.ControllerId.{ControllerId}
use Rattle.rt_base.specs.declared.numbers.Offset.{Offset}
use Rattle.rt_base.specs.declared.numbers.Partition.{Partition}
use Rattle.rt_base.specs.declared.numbers.Sequence.{Sequence}
use Rattle.rt_commit.specs.Lasting.{commit_end}
use Rattle.rt_commit.specs.declared.job.Job.{Job}
use Rattle.rt_events.specs.declared.event.Event.{Event}
use Rattle.rt_events.specs.declared.event.Event.TheVariants as event
use Rattle.rt_events.specs.declared.outcome.Outcome.{Outcome}
use Rattle.rt_lists.proofs.Members.{Has-append_cases, Has-front, slice_get-append}
use Rattle.rt_lists.specs.Members.{Has}
use Rattle.rt_model.specs.History.{value_of}
use Rattle.rt_model.specs.Messages.{asked_of}
use Rattle.rt_model.specs.Metadata.{IsDeleted, node_key}
use Rattle.rt_model.specs.Tiled.{done_range, mark_of}
use Rattle.rt_model.specs.declared.node.Seen.{Seen}
use Rattle.rt_model.specs.declared.request.Request.{Request}
use Rattle.rt_model.specs.declared.request.RequestKind.TheVariants as kind
use Rattle.rt_model.specs.declared.sent.Sent.{Sent}
use Rattle.rt_model.specs.declared.setup.Setup.{Setup}
use Rattle.rt_play.proofs.Ranged.{node_range}
use Rattle.rt_play.proofs.Retired.{deleted_gone, gone_below, there_above}
use Rattle.rt_play.specs.Ledger.{AreBelow, Notes, Posted, Ranges, SaysDone, Segment, StandFrom, Working, exchange_posted}
use Rattle.rt_safety.proofs.JobsOn.{KeepsJob, Stays, believing_stays, controllers_stay, goes_stays, slot_stays}
use Rattle.rt_safety.proofs.Ways.{is_free, leaving}
use Rattle.rt_safety.specs.CommitRun.{is_crash}
use Rattle.rt_safety.specs.GoesOn.{GoesOn}
use Rattle.rt_safety.specs.Runs.{happens}
use Rattle.rt_state.specs.Finding.{request_at, request_in}
use Rattle.rt_state.specs.IsSafeWorld.{IsSafeWorld}
use Rattle.rt_state.specs.declared.state.State.{State}
use Rattle.rt_store.specs.Contents.{starting_of}
use Rattle.rt_unrefused.proofs.Answered.{IsFor}
use Rattle.rt_unrefused.proofs.JobSteps.{over, own_step}
use Rattle.rt_world.specs.Step.{Steps, way_of}

-- ---- what holds

-- a request is a commitEnd up to this offset
abbrev pub IsEnding : Request → Offset → Type 0
IsEnding request end = (path : List ℕ) × (request.kind ≡ kind.CommitEnd path) × (request.offset ≡ end)

-- a message is a request of this segment, and where an offset is noted a commitEnd up to it
pub record IsPosted (w : State) (x : Posted) : Type 0 where
  pub request : Request
  pub there : request_at w x.message ≡ Some request
  pub segment : record { partition = request.partition; sequence = request.sequence } ≡ x.segment
  pub end : IfSome x.end (IsEnding request)

-- a job is open for a request of this segment, of a partition of the cluster, and where an offset is noted commits it up to there
pub record IsAtWork (w : State) (x : Working) : Type 0 where
  pub request : Request
  pub segment : record { partition = request.partition; sequence = request.sequence } ≡ x.segment
  pub within : request.partition.0 < w.setup.partitions
  pub its : IsFor w x.controller x.job (asked_of request)
  pub end : IfSome x.end (λ y. commit_end its.job.stage ≡ Some y)

-- a segment was made DONE, over its range
pub record WasCommitted (ranges : Ranges) (w : State) (s : Segment) : Type 0 where
  pub within : s.partition.0 < w.setup.partitions
  pub write : Seen
  pub has : Has w.store.writes write
  pub of : write.key ≡ node_key s.partition s.sequence.0
  pub done : SaysDone (ranges s.partition s.sequence) write.node

-- a segment was deleted
abbrev pub WasDeleted : State → Segment → Type 0
WasDeleted w s = IsDeleted w.store.writes s.partition s.sequence.0

pub record Holds (ranges : Ranges) (w : State) (notes : Notes) : Type 0 where
  pub requests : (x : Posted) → Has notes.requests x → IsPosted w x
  pub jobs : (x : Working) → Has notes.jobs x → IsAtWork w x
  pub committed : (s : Segment) → Has notes.committed s → WasCommitted ranges w s
  pub deleted : (s : Segment) → Has notes.deleted s → WasDeleted w s

-- ---- in a later world

pub request_stays : (w v : State) (message : ℕ) (q : Request) → GoesOn w v → request_at w message ≡ Some q → request_at v message ≡ Some q
request_stays w v message q goes k = by_slot (slice_get w.sent message) refl k
  where
    by_slot : (o : Option Sent) → slice_get w.sent message ≡ o → request_in o ≡ Some q → request_at v message ≡ Some q
    by_slot None e f = absurd (cc)
    by_slot (Some m) e f =
        let front = goes.past.sent in
        ap request_in (ap (λ l. slice_get l message) front.1 ∙ slice_get-append w.sent front.0 message m e) ∙ f

pub posted_stays : (w v : State) (x : Posted) → GoesOn w v → IsPosted w x → IsPosted v x
posted_stays w v x goes k = record {
  request = k.request;
  there = request_stays w v x.message k.request goes k.there;
  segment = k.segment;
  end = k.end;
}

pub committed_stays : (ranges : Ranges) (w v : State) (s : Segment) → GoesOn w v → WasCommitted ranges w s → WasCommitted ranges v s
committed_stays ranges w v s goes k = record {
  within = subst (λ (x : Setup). s.partition.0 < x.partitions) (sym goes.setup) k.within;
  write = k.write;
  has = Has-front w.store.writes v.store.writes k.write goes.past.history k.has;
  of = k.of;
  done = k.done;
}

pub deleted_stays : (w v : State) (s : Segment) → GoesOn w v → WasDeleted w s → WasDeleted v s
deleted_stays w v s goes d = (d.0, Has-front w.store.writes v.store.writes d.0 goes.past.history d.1, d.2, d.3)

-- a job that goes on, up to the same offset
pub still_works : (w v : State) (x : Working) → GoesOn w v → (k : IsAtWork w x) → (its : IsFor v x.controller x.job (asked_of k.request))
    → commit_end its.job.stage ≡ commit_end k.its.job.stage → IsAtWork v x
still_works w v x goes k its same = record {
  request = k.request;
  segment = k.segment;
  within = subst (λ (s : Setup). k.request.partition.0 < s.partitions) (sym goes.setup) k.within;
  its = its;
  end = subst (λ (o : Option Offset). IfSome x.end (λ y. o ≡ Some y)) (sym same) k.end;
}

-- the same job
same_works : (w v : State) (x : Working) → GoesOn w v → (k : IsAtWork w x) → Stays w v x.controller x.job k.its.job → IsAtWork v x
same_works w v x goes k stays =
    still_works w v x goes k (record { job = k.its.job; there = stays k.its.there; asked = k.its.asked }) refl

-- a job is looked for among the controllers alone
pub job_kept : (w v : State) (x : Working) → GoesOn w v → v.controllers ≡ w.controllers → IsAtWork w x → IsAtWork v x
job_kept w v x goes same k = same_works w v x goes k (controllers_stay w v x.controller x.job k.its.job same)

-- an open job stays as it is through an event that is neither a crash of its controller nor its own step
module _ (w v : State) (c : ControllerId) (n : ℕ) (job : Job) (o : Outcome) (safe : IsSafeWorld w) where
  same_job : (d : ControllerId) (m : ℕ) → c.0 ≡ d.0 → n ≡ m → event.Job d m ≡ event.Job c n
  same_job d m e f =
      let id : ℕ → ControllerId = λ i. record { 0 = i } in
      ap (λ (i : ℕ). event.Job (id i) m) (sym e) ∙ ap (event.Job c) (sym f)

  by_way : (e : Event) → KeepsJob (way_of w e) c n job → Steps w e v (Ok o) → Stays w v c n job
  by_way e keeps (cost, due, h) = goes_stays w (way_of w e) c n job cost (v, o) safe keeps (is_free w e cost due) (leaving w e cost due) h

  open_stays : (e : Event) → Steps w e v (Ok o) → is_crash c (happens e o) ≡ false → (e ≡ event.Job c n → ⊥) → Stays w v c n job
  open_stays (event.Job d m) steps calm other =
      let did = own_step w v d m o steps in
      slot_stays w v c d n job did.node (record did.node { controller = did.new }) did.at did.controllers
      (λ i e. (over w v d m o safe did).stay n job (λ f. other (same_job d m i f)) e)
  open_stays (event.Lead d on) steps calm other = by_way (event.Lead d on) (λ old i. believing_stays old on n job) steps
  open_stays (event.CrashController d) steps calm other =
      by_way (event.CrashController d) (λ old i. absurd (false≢true (sym calm ∙ eq-eqb d.0 c.0 (sym i)))) steps
  open_stays (event.RestartController d) steps calm other = by_way (event.RestartController d) (λ old i e. e) steps
  open_stays e steps calm other = by_way e tt steps

pub job_stays : (w v : State) (x : Working) (e : Event) (o : Outcome) → IsSafeWorld w → GoesOn w v → Steps w e v (Ok o) → is_crash x.controller (happens e o) ≡ false
    → (e ≡ event.Job x.controller x.job → ⊥) → IsAtWork w x → IsAtWork v x
job_stays w v x e o safe goes steps calm other k =
    same_works w v x goes k (open_stays w v x.controller x.job k.its.job o safe e steps calm other)

-- ---- notes that stay

-- those that are no jobs
pub stays_but_jobs : (ranges : Ranges) (w v : State) (notes : Notes) (jobs : List Working) → GoesOn w v → Holds ranges w notes
    → ((x : Working) → Has jobs x → IsAtWork v x) → Holds ranges v (record notes { jobs = jobs })
stays_but_jobs ranges w v notes jobs goes k at = record {
  requests = λ x has. posted_stays w v x goes (k.requests x has);
  jobs = at;
  committed = λ s has. committed_stays ranges w v s goes (k.committed s has);
  deleted = λ s has. deleted_stays w v s goes (k.deleted s has);
}

pub stays_with_jobs : (ranges : Ranges) (w v : State) (notes : Notes) → GoesOn w v → ((x : Working) → Has notes.jobs x → IsAtWork w x → IsAtWork v x)
    → Holds ranges w notes → Holds ranges v notes
stays_with_jobs ranges w v notes goes at k = stays_but_jobs ranges w v notes notes.jobs goes k (λ x has. at x has (k.jobs x has))

-- more segments were committed
pub stays_and_more : (ranges : Ranges) (w : State) (notes : Notes) (more : List Segment) → Holds ranges w notes
    → ((s : Segment) → Has more s → WasCommitted ranges w s) → Holds ranges w (record notes { committed = more ++ notes.committed })
stays_and_more ranges w notes more k new = record {
  requests = k.requests;
  jobs = k.jobs;
  committed = λ s has. ⊎_elim (new s) (k.committed s) (Has-append_cases more notes.committed s has);
  deleted = k.deleted;
}

-- one more request was sent
pub stays_and_posted : (ranges : Ranges) (w : State) (notes : Notes) (p : Partition) (q : Sequence) (message : ℕ) → Holds ranges w notes
    → IsPosted w (record { message = message; segment = record { partition = p; sequence = q }; end = None }) → Holds ranges w (exchange_posted p q message notes)
stays_and_posted ranges w notes p q message k is = record {
  requests = λ x has. ⊎_elim (λ same. subst (IsPosted w) same is) (k.requests x) has;
  jobs = k.jobs;
  committed = k.committed;
  deleted = k.deleted;
}

-- one more was deleted
pub stays_and_deleted : (ranges : Ranges) (w : State) (notes : Notes) (s : Segment) → Holds ranges w notes → WasDeleted w s
    → Holds ranges w (record notes { deleted = s ∷ notes.deleted })
stays_and_deleted ranges w notes s k d = record {
  requests = k.requests;
  jobs = k.jobs;
  committed = k.committed;
  deleted = λ x has. ⊎_elim (λ (same : s ≡ x). subst (WasDeleted w) same d) (k.deleted x) has;
}

-- ---- where segments stand that were committed

-- the range of its Done write is the segment's
pub its_range : (ranges : Ranges) (w : State) (s : Segment) (c : WasCommitted ranges w s) → done_range c.write.node ≡ Some (ranges s.partition s.sequence)
its_range ranges w s c = node_range (ranges s.partition s.sequence) c.write.node c.done

-- where a node is there, each that isn't before it lies above the mark
pub stands_from : (ranges : Ranges) (w : State) (notes : Notes) (p : Partition) (q : Sequence) (seen : Seen) → IsSafeWorld w → Holds ranges w notes
    → value_of w.store.writes (node_key p q.0) ≡ Some seen → StandFrom ranges (mark_of w.store.writes) notes p q
stands_from ranges w notes p q seen safe k there s has same le =
    let c = k.committed s has in
    subst (λ (x : Partition). mark_of w.store.writes x ≤ (ranges s.partition s.sequence).start.0) same
    (there_above (starting_of w.setup) w.store.writes s.partition safe.safe.past.lawful c.within q.0 s.sequence.0 seen c.write (ranges s.partition s.sequence)
    (subst (λ (x : Partition). value_of w.store.writes (node_key x q.0) ≡ Some seen) (sym same) there) le c.has c.of (its_range ranges w s c))

-- what was committed and deleted lies below the mark
pub lie_below : (ranges : Ranges) (w : State) (notes : Notes) → IsSafeWorld w → Holds ranges w notes → AreBelow ranges (mark_of w.store.writes) notes
lie_below ranges w notes safe k s gone has =
    let c = k.committed s has in
    gone_below (starting_of w.setup) w.store.writes s.partition safe.safe.past.lawful c.within s.sequence.0 c.write (ranges s.partition s.sequence)
    (deleted_gone (starting_of w.setup) w.store.writes s.partition safe.safe.past.lawful c.within s.sequence.0 (k.deleted s gone)) c.has c.of
    (its_range ranges w s c)
