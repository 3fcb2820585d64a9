-- The numbers that are noted of an event of a safe world fit words of 64 bits.
use Rattle.std.proofs.Common.{◌≡◌, ◌<◌, ℕ, List, [], ◌∷◌, Option, Some, None, Ok, length, refl, sym, ◌∙◌, ap, subst, slice_get, arith}
use Rattle.std.proofs.lemmas.Bool.{ltb-true}
use Rattle.rt_base.specs.declared.numbers.ControllerId.{ControllerId}
use Rattle.rt_base.specs.declared.numbers.Instance.{Instance}
use Rattle.rt_base.specs.declared.numbers.Partition.{Partition}
use Rattle.rt_base.specs.declared.numbers.Sequence.{Sequence}
use Rattle.rt_commit.specs.declared.job.Job.{Job}
use Rattle.rt_controller.proofs.CallsOver.{handles_over}
use Rattle.rt_controller.specs.Controller.{Controlling}
use Rattle.rt_controller.specs.Steps.{Handles}
use Rattle.rt_controller.specs.declared.handled.Handled.{Handled}
use Rattle.rt_controller.specs.declared.handled.Handled.TheVariants as handled
use Rattle.rt_deep.specs.Meaning.{Told as ToldDeep}
use Rattle.rt_deep.specs.Memory.{means as deep_means}
use Rattle.rt_events.specs.Fits.{Fits}
use Rattle.rt_events.specs.declared.event.Event.{Event}
use Rattle.rt_events.specs.declared.event.Event.TheVariants as event
use Rattle.rt_events.specs.declared.outcome.Outcome.{Outcome}
use Rattle.rt_events.specs.declared.outcome.Outcome.TheVariants as came
use Rattle.rt_events.specs.declared.refusal.Refusal.TheVariants.{NoSuchNode}
use Rattle.rt_lists.proofs.Lists.{All-found}
use Rattle.rt_lists.proofs.Members.{Has-place, Has-push}
use Rattle.rt_lists.specs.Members.{Has}
use Rattle.rt_model.proofs.Histories.{value_of-last}
use Rattle.rt_model.proofs.Kept.{last_write-Has}
use Rattle.rt_model.specs.History.{value_of}
use Rattle.rt_model.specs.Metadata.{IsDoneStatus, listed_write, node_key}
use Rattle.rt_model.specs.declared.asked.Asked.{Asked}
use Rattle.rt_model.specs.declared.node.Key.{Key}
use Rattle.rt_model.specs.declared.node.Node.{Node}
use Rattle.rt_model.specs.declared.node.Node.TheVariants as node
use Rattle.rt_model.specs.declared.node.Seen.{Seen}
use Rattle.rt_model.specs.declared.replica_state.ReplicaState.{ReplicaState}
use Rattle.rt_model.specs.declared.request.Request.{Request}
use Rattle.rt_model.specs.declared.seg_meta.SegMeta.{SegMeta}
use Rattle.rt_model.specs.declared.setup.Setup.{Setup}
use Rattle.rt_model.specs.declared.status.Status.{Status}
use Rattle.rt_model.specs.declared.status.Status.TheVariants.{Abandoned, Done, InProgress}
use Rattle.rt_nodes.specs.declared.chore.Chore.TheVariants.{Retire}
use Rattle.rt_nodes.specs.declared.controller_node.ControllerNode.{ControllerNode}
use Rattle.rt_play.proofs.Deleted.{was_deleted}
use Rattle.rt_play.proofs.Known.{taken}
use Rattle.rt_play.specs.AnswerTexts.{IsWord}
use Rattle.rt_play.specs.NotedWords.{FitsWords, IsDoneWord, IsNodeWord}
use Rattle.rt_repair.specs.declared.retiring.RetireStep.{RetireStep}
use Rattle.rt_repair.specs.declared.retiring.RetireStep.TheVariants as step
use Rattle.rt_safety.proofs.Answering.{few_at}
use Rattle.rt_safety.proofs.JobsOn.{own_slot}
use Rattle.rt_safety.proofs.Later.{leads_on}
use Rattle.rt_safety.proofs.Runs.{leads_safe}
use Rattle.rt_safety.proofs.Worlds.{done_is_stored}
use Rattle.rt_safety.specs.Runs.{happens}
use Rattle.rt_state.proofs.Bounds.{few_sent, few_writes}
use Rattle.rt_state.proofs.NeedsNodes.{chore_needs}
use Rattle.rt_state.proofs.Possible.{only_passed}
use Rattle.rt_state.proofs.Sequences.{number_within}
use Rattle.rt_state.specs.Applying.{Next}
use Rattle.rt_state.specs.Finding.{has_partition, request_at}
use Rattle.rt_state.specs.IsSafe.{past_of}
use Rattle.rt_state.specs.IsSafeWorld.{IsSafeWorld}
use Rattle.rt_state.specs.Messages.{DeliversAt, after_step, handed}
use Rattle.rt_state.specs.Room.{no_cost, priced}
use Rattle.rt_state.specs.declared.state.State.{State}
use Rattle.rt_store.specs.Contents.{starting_of}
use Rattle.rt_store.specs.Meaning.{Told}
use Rattle.rt_store.specs.Memory.{means}
use Rattle.rt_unrefused.proofs.Requested.{requested}
use Rattle.rt_unrefused.proofs.StartedJobs.{job_started}
use Rattle.rt_world.proofs.KeepsMessages.{reply_sent, request_sent}
use Rattle.rt_world.specs.Step.{Steps}

module _ (w v : State) (safe : IsSafeWorld w) where
  -- a request
  sent_words : (i : Instance) (p : Partition) (q : Sequence) (o : Outcome) → IsSafeWorld v → Steps w (event.Report i p q) v (Ok o)
      → FitsWords (event.Report i p q) o
  sent_words i p q o later steps =
      let its = requested w v i p q o safe steps in
      let right = later.safe.past.requests its.request (request_sent v (length w.sent) its.request its.there) in
      let message : IsWord (length w.sent) = omega (arith, few_sent w safe) in
      let offset : IsWord its.request.offset.0 = omega (arith, right.within, few_at v its.request.partition later) in
      subst (FitsWords (event.Report i p q)) (sym its.told) (message, offset)

  -- a job that is started
  started_words : (m : ℕ) (c : ControllerId) (o : Outcome) → IsSafeWorld v → Steps w (event.Deliver m c) v (Ok o) → FitsWords (event.Deliver m c) o
  started_words m c o later (cost, due, h) = by_node (request_at w m) (slice_get w.controllers c.0) refl refl h
    where
      by_what : (q : Request) (n : ControllerNode) (new : Controlling) (store : Told) (deep : ToldDeep) (what : Handled) → request_at w m ≡ Some q
          → slice_get w.controllers c.0 ≡ Some n
          → Handles {E = Unit {0}} (means w.store) (means store) (deep_means w.deep) (deep_means deep) n.controller q w.moment new (Ok what)
          → (v, o) ≡ handed (after_step w c n new store deep) cost what → FitsWords (event.Deliver m c) o
      by_what q n new store deep (handled.Reply r) asks at f is = subst (FitsWords (event.Deliver m c)) (sym (ap (λ (x : Next). x.1) is)) tt
      by_what q n new store deep (handled.Job j) asks at f is =
          let its = job_started n.controller q w.moment (means w.store) (means store) (deep_means w.deep) (deep_means deep) new j f in
          let k = handles_over w.setup (past_of w) w.store store w.deep deep n.controller new q w.moment (handled.Job j) safe.safe.setup safe.safe.past
          (few_writes w safe) refl refl (request_sent w m q asks) (safe.safe.controllers c.0 n at).over f in
          let place = Has-place new.jobs its.job (subst (λ (js : List Job). Has js its.job) (sym its.jobs) (Has-push n.controller.jobs its.job)) in
          let below : its.job.number < new.started = All-found (λ (x : Job). x.number < new.started) new.jobs place.0 its.job k.over.numbered.below place.1 in
          let there : slice_get v.controllers c.0 ≡ Some (record n { controller = new }) =
          ap (λ (x : Next). slice_get x.0.controllers c.0) is ∙ own_slot w.controllers c.0 n (record n { controller = new }) at in
          let few : IsWord j = omega (arith, below, its.number, later.few.started c.0 (record n { controller = new }) there, later.few.events) in
          subst (FitsWords (event.Deliver m c)) (sym (ap (λ (x : Next). x.1) is)) few

      by_node : (r : Option Request) (n : Option ControllerNode) → request_at w m ≡ r → slice_get w.controllers c.0 ≡ n → DeliversAt r n w c cost (v, o) → FitsWords (event.Deliver m c) o
      by_node None n asks at f = absurd f
      by_node (Some q) None asks at f = absurd f
      by_node (Some q) (Some n) asks at (new, what, store, deep, f, is) = by_what q n new store deep what asks at f is

  -- a segment of which a node was written
  segment_words : (u : State) (p : Partition) (q : Sequence) (x : Seen) → IsSafeWorld u → p.0 < u.setup.partitions → Has u.store.writes x → x.key ≡ node_key p q.0
      → IsWord p.0 × IsWord q.0
  segment_words u p q x safe within has of =
      let lt = number_within (starting_of u.setup) u.store.writes p q.0 x safe.safe.past.lawful within has of in
      (omega (arith, within, safe.safe.setup.few_partitions), omega (arith, lt, few_writes u safe))

  -- a reply that is taken
  took_words : (m : ℕ) (o : Outcome) → Steps w (event.Reply m) v (Ok o) → FitsWords (event.Reply m) o
  took_words m o steps = by_told o refl
    where
      own : (i : Instance) (p : Partition) (q : Sequence) (stands : ReplicaState) → o ≡ came.Took i p q stands → IsWord p.0 × IsWord q.0
      own i p q stands is =
          let its = taken w v m o i p q stands steps is in
          let reply = safe.safe.past.replies its.reply (reply_sent w m its.reply its.there) in
          let request = safe.safe.past.requests reply.request reply.was_sent in
          let words = segment_words w reply.request.partition reply.request.sequence request.begun.0 safe request.partition request.begun.1 request.begun.2 in
          let partition : reply.request.partition ≡ p = ap (λ (a : Asked). a.partition) reply.answers ∙ its.partition in
          let sequence : reply.request.sequence ≡ q = ap (λ (a : Asked). a.sequence) reply.answers ∙ its.sequence in
          (subst (λ (x : Partition). IsWord x.0) partition words.0, subst (λ (x : Sequence). IsWord x.0) sequence words.1)

      by_told : (x : Outcome) → o ≡ x → FitsWords (event.Reply m) x
      by_told (came.Took i p q stands) is = own i p q stands is
      by_told other is = tt

  -- a segment that is deleted
  deleted_words : (c : ControllerId) (p : Partition) (o : Outcome) → IsSafeWorld v → v.setup ≡ w.setup → Steps w (event.Retain c p) v (Ok o)
      → FitsWords (event.Retain c p) o
  deleted_words c p o later same steps = by_told o refl
    where
      own : (q : Sequence) → o ≡ came.Retired (step.Deleted q) → IsWord q.0
      own q is =
          let gone = was_deleted w v c p o q safe steps is in
          let within : p.0 < w.setup.partitions = (chore_needs w c p Retire steps.0 safe steps.1).2 in
          (segment_words v p q gone.0 later (subst (λ (s : Setup). p.0 < s.partitions) (sym same) within) gone.1 gone.2).1

      by_step : (x : RetireStep) → o ≡ came.Retired x → FitsWords (event.Retain c p) (came.Retired x)
      by_step (step.Deleted q) is = own q is
      by_step other is = tt

      by_told : (x : Outcome) → o ≡ x → FitsWords (event.Retain c p) x
      by_told (came.Retired x) is = by_step x is
      by_told other is = tt

  -- a node that is shown
  shown_words : (p : Partition) (q : Sequence) (o : Outcome) → Steps w (event.ShowMeta p q) v (Ok o) → FitsWords (event.ShowMeta p q) o
  shown_words p q o steps =
      subst (FitsWords (event.ShowMeta p q)) (sym (ap (λ (x : Next). x.1) steps.2)) (by_value (value_of w.store.writes (node_key p q.0)) refl)
    where
      within : p.0 < w.setup.partitions
      within = ltb-true p.0 w.setup.partitions (only_passed (has_partition w p) NoSuchNode (priced w no_cost) steps.0 steps.1).0

      by_status : (m : SegMeta) (version : ℕ) (s : Status) → m.status ≡ s → Has w.store.writes (listed_write p (record { sequence = q; seen = record { version = version; meta = m } }))
          → IsDoneWord m s
      by_status m version (Done commit) is has =
          let stored = done_is_stored w p q (record { version = version; meta = m }) commit safe (has, subst IsDoneStatus (sym is) tt) is in
          let file = stored.right.file.within in
          let few = few_at w p safe in
          (omega (arith, file.0, file.1, few), omega (arith, file.1, few))
      by_status m version InProgress is has = tt
      by_status m version Abandoned is has = tt

      by_seen : (n : Node) (version : ℕ) → Has w.store.writes (record { key = node_key p q.0; version = version; node = n }) → IsNodeWord n
      by_seen (node.Meta m) version has = by_status m version m.status refl has
      by_seen (node.Ideal ideal) version has = tt
      by_seen node.Boot version has = tt
      by_seen node.Gone version has = tt

      own_write : (x : Seen) → x.key ≡ node_key p q.0 → x ≡ record { key = node_key p q.0; version = x.version; node = x.node }
      own_write x of = let one : Key → Seen = λ k. record { key = k; version = x.version; node = x.node } in ap one of

      by_value : (x : Option Seen) → value_of w.store.writes (node_key p q.0) ≡ x → FitsWords (event.ShowMeta p q) (came.Shown x)
      by_value None at = tt
      by_value (Some x) at =
          let has = last_write-Has w.store.writes (node_key p q.0) x (value_of-last w.store.writes (node_key p q.0) x at).0 in
          by_seen x.node x.version (subst (Has w.store.writes) (own_write x has.1) has.0)

pub fits_words : (w v : State) (e : Event) (o : Outcome) → IsSafeWorld w → Fits w.setup.schema e → Steps w e v (Ok o) → FitsWords e o
fits_words w v e o safe fits steps = by_event e fits steps
  where
    later : (x : Event) → Fits w.setup.schema x → Steps w x v (Ok o) → IsSafeWorld v
    later x f s = leads_safe w (happens x o ∷ []) v safe (v, (f, s), refl)

    by_event : (x : Event) → Fits w.setup.schema x → Steps w x v (Ok o) → FitsWords x o
    by_event (event.Report i p q) f s = sent_words w v safe i p q o (later (event.Report i p q) f s) s
    by_event (event.Deliver m c) f s = started_words w v safe m c o (later (event.Deliver m c) f s) s
    by_event (event.Reply m) f s = took_words w v safe m o s
    by_event (event.Retain c p) f s =
        deleted_words w v safe c p o (later (event.Retain c p) f s) (leads_on w (happens (event.Retain c p) o ∷ []) v safe (v, (f, s), refl)).setup s
    by_event (event.ShowMeta p q) f s = shown_words w v safe p q o s
    by_event other f s = tt
