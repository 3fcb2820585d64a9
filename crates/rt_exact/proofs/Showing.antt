-- A step of a world is one of what the world shows, where it looks at no groups.
use Rattle.std.proofs.Common.{◌≡◌, ℕ, [], ◌∷◌, ◌++◌, length, map, Option, Some, None, Ok, refl, sym, ◌∙◌, ap, slice_get}
use Rattle.std.proofs.lemmas.List.{length-map, map-append}
use Rattle.rt_base.specs.declared.numbers.ControllerId.{ControllerId}
use Rattle.rt_base.specs.declared.numbers.Instance.{Instance}
use Rattle.rt_base.specs.declared.numbers.Partition.{Partition}
use Rattle.rt_broker.specs.Asking.{Asking, asking}
use Rattle.rt_controller.specs.declared.handled.Handled.{Handled}
use Rattle.rt_controller.specs.declared.handled.Handled.TheVariants as handled
use Rattle.rt_deep.specs.Meaning.{Told as ToldDeep}
use Rattle.rt_events.specs.declared.outcome.Outcome.{Outcome}
use Rattle.rt_events.specs.declared.outcome.Outcome.TheVariants as told
use Rattle.rt_model.specs.declared.job_step.JobStep.{JobStep}
use Rattle.rt_model.specs.declared.query.Query.{Query}
use Rattle.rt_model.specs.declared.reply.Reply.{Reply}
use Rattle.rt_model.specs.declared.request.Request.{Request}
use Rattle.rt_store.specs.Meaning.{Told}
use Rattle.rt_stream.specs.Log.{Log}
use Rattle.rt_state.specs.Applying.{Next, comes, Applies}
use Rattle.rt_state.specs.Finding.{request_at, reply_at}
use Rattle.rt_state.specs.Jobs.{JobSteps, JobStepsAt, noted_set, stepped_by}
use Rattle.rt_state.specs.Messages.{Delivers, DeliversAt, Replies, RepliesAt, after_step, handed, node_took}
use Rattle.rt_state.specs.Nodes.{ControllerDoes, ControllerDoesAt, ServerCalls, ServerCallsAt, ServerDoes, ServerDoesAt, ServerFetches, ServerFetchesAt, ServerGets, ServerGetsAt, ServerStep}
use Rattle.rt_state.specs.Queries.{asked}
use Rattle.rt_nodes.specs.declared.chore.Chore.{Chore}
use Rattle.rt_state.specs.Repairs.{Keeps, KeepsAt, upkeep_at}
use Rattle.rt_state.specs.Requests.{AskStep, SendsAt, SendsRequest}
use Rattle.rt_state.specs.Room.{Due, counted}
use Rattle.rt_nodes.specs.declared.controller_node.ControllerNode.{ControllerNode}
use Rattle.rt_state.specs.declared.cost.Cost.{Cost}
use Rattle.rt_nodes.specs.declared.server_node.ServerNode.{ServerNode}
use Rattle.rt_state.specs.declared.state.State.{State}
use Rattle.rt_nodes.specs.declared.upkeep.Upkeep.{Upkeep}
use Rattle.rt_exact.specs.Shown.{query_shown, shown}
use Rattle.rt_exact.proofs.Queries.{asking_is_shown}

abbrev pub next_shown : Next → Next
next_shown x = (shown x.0, x.1)

-- where the one leads, the other leads to what is shown of it
abbrev pub Commutes : (Cost → Next → Type 0) → (Cost → Next → Type 0) → Type 0
Commutes goes shows = (cost : Cost) (x : Next) → goes cost x → shows cost (next_shown x)

pub applied_shown : (old new : State) (due due' : Due) (goes shows : Cost → Next → Type 0) (a : Outcome) → due' ≡ due → Commutes goes shows
    → Applies old due goes new (Ok a) → Applies (shown old) due' shows (shown new) (Ok a)
applied_shown old new due due' goes shows a e f (c, d, g) = (c, e ∙ d, f c (new, a) g)

pub comes_shown : (next after : Cost → Next) → ((cost : Cost) → next_shown (next cost) ≡ after cost) → Commutes (λ cost. comes (next cost)) (λ cost. comes (after cost))
comes_shown next after e cost x h = ap (λ z. next_shown z) h ∙ e cost

-- ---- a server's step

module _ (w : State) (i : Instance) where
  pub server_does_shown : (does : ServerStep) → Commutes (ServerDoes w i does) (ServerDoes (shown w) i does)
  server_does_shown does cost x h = by_node (slice_get w.servers i.0) h
    where
      by_node : (o : Option ServerNode) → ServerDoesAt o w i does cost x → ServerDoesAt o (shown w) i does cost (next_shown x)
      by_node None h = absurd h
      by_node (Some old) (n, d, e) = (n, d, ap (λ z. shown z) e)

  pub server_calls_shown : (does : Told → Told → ServerStep) → Commutes (ServerCalls w i does) (ServerCalls (shown w) i does)
  server_calls_shown does cost x h = by_node (slice_get w.servers i.0) h
    where
      by_node : (o : Option ServerNode) → ServerCallsAt o w i does cost x → ServerCallsAt o (shown w) i does cost (next_shown x)
      by_node None h = absurd h
      by_node (Some old) (n, s, d, e) = (n, s, d, ap (λ z. shown z) e)

  pub server_gets_shown : (does : ToldDeep → ToldDeep → ServerStep) → Commutes (ServerGets w i does) (ServerGets (shown w) i does)
  server_gets_shown does cost x h = by_node (slice_get w.servers i.0) h
    where
      by_node : (o : Option ServerNode) → ServerGetsAt o w i does cost x → ServerGetsAt o (shown w) i does cost (next_shown x)
      by_node None h = absurd h
      by_node (Some old) (n, s, d, e) = (n, s, d, ap (λ z. shown z) e)

  pub server_fetches_shown : (does : Log → Log → ServerStep) → Commutes (ServerFetches w i does) (ServerFetches (shown w) i does)
  server_fetches_shown does cost x h = by_node (slice_get w.servers i.0) h
    where
      by_node : (o : Option ServerNode) → ServerFetchesAt o w i does cost x → ServerFetchesAt o (shown w) i does cost (next_shown x)
      by_node None h = absurd h
      by_node (Some old) (n, s, d, e) = (n, s, d, ap (λ z. shown z) e)

  pub server_asks_shown : (asks : AskStep) → Commutes (SendsRequest w i asks) (SendsRequest (shown w) i asks)
  server_asks_shown asks cost x h = by_node (slice_get w.servers i.0) h
    where
      by_node : (o : Option ServerNode) → SendsAt o w i asks cost x → SendsAt o (shown w) i asks cost (next_shown x)
      by_node None h = absurd h
      by_node (Some old) (n, r, d, e) = (n, r, d, ap (λ z. next_shown z) e)

pub replies_shown : (w : State) (m : ℕ) → Commutes (Replies w m) (Replies (shown w) m)
replies_shown w m cost x h = by_reply (reply_at w m) h
  where
    by_reply : (o : Option Reply) → RepliesAt o w cost x → RepliesAt o (shown w) cost (next_shown x)
    by_reply None h = absurd h
    by_reply (Some r) h = server_does_shown w r.number.instance (λ old new outcome. (outcome, new) ≡ node_took old r) cost x h

-- ---- a controller's step

pub controller_does_shown : (w : State) (c : ControllerId) (does : ControllerNode → ControllerNode) (outcome : Outcome)
    → Commutes (ControllerDoes w c does outcome) (ControllerDoes (shown w) c does outcome)
controller_does_shown w c does outcome cost x h = by_node (slice_get w.controllers c.0) h
  where
    by_node : (o : Option ControllerNode) → ControllerDoesAt o w c does outcome cost x → ControllerDoesAt o (shown w) c does outcome cost (next_shown x)
    by_node None h = absurd h
    by_node (Some old) h = ap (λ z. next_shown z) h

handed_shown : (w : State) (cost : Cost) (what : Handled) → next_shown (handed w cost what) ≡ handed (shown w) cost what
handed_shown w cost (handled.Reply r) = refl
handed_shown w cost (handled.Job j) = refl

pub delivers_shown : (w : State) (m : ℕ) (c : ControllerId) → Commutes (Delivers w m c) (Delivers (shown w) m c)
delivers_shown w m c cost x h = by_request (request_at w m) (slice_get w.controllers c.0) h
  where
    by_request : (q : Option Request) (o : Option ControllerNode) → DeliversAt q o w c cost x → DeliversAt q o (shown w) c cost (next_shown x)
    by_request None o h = absurd h
    by_request (Some q) None h = absurd h
    by_request (Some q) (Some node) (a, did, s, d, makes, is) =
        (a, did, s, d, makes, ap (λ z. next_shown z) is ∙ handed_shown (after_step w c node a s d) cost did)

stepped_shown : (w : State) (cost : Cost) (step : JobStep) (o : Option Reply) → next_shown (stepped_by w cost step o) ≡ stepped_by (shown w) cost step o
stepped_shown w cost step None = refl
stepped_shown w cost step (Some r) = refl

pub jobs_shown : (w : State) (c : ControllerId) (j : ℕ) → Commutes (JobSteps w c j) (JobSteps (shown w) c j)
jobs_shown w c j cost x h = by_node (slice_get w.controllers c.0) h
  where
    by_node : (o : Option ControllerNode) → JobStepsAt o w c j cost x → JobStepsAt o (shown w) c j cost (next_shown x)
    by_node None h = absurd h
    by_node (Some node) (a, step, s, d, makes, is) = (
      a,
      step,
      s,
      d,
      makes,
      ap (λ z. next_shown z) is ∙ stepped_shown (noted_set (after_step w c node a s d) cost (length w.store.writes)) cost step step.reply,
    )

pub chores_shown : (w : State) (c : ControllerId) (p : Partition) (chore : Chore) → Commutes (Keeps w c p chore) (Keeps (shown w) c p chore)
chores_shown w c p chore cost x h = by_node (slice_get w.controllers c.0) (upkeep_at w c p) h
  where
    by_node : (o : Option ControllerNode) (v : Option Upkeep) → KeepsAt o v w c p chore cost x → KeepsAt o v (shown w) c p chore cost (next_shown x)
    by_node None v h = absurd h
    by_node (Some node) None h = absurd h
    by_node (Some node) (Some old) (new, s, steps, is) = (new, s, steps, ap (λ z. shown z) is)

-- ---- a query is asked

pub asked_shown : (w : State) (query : Query) (cost : Cost) → next_shown (asked w query cost) ≡ asked (shown w) query cost
asked_shown w query cost =
    let one : Asking = asking query w.setup in
    let qs = map-append query_shown w.queries (Some one ∷ []) ∙ ap (λ a. map query_shown w.queries ++ Some a ∷ []) (asking_is_shown query w.setup) in
    let count = sym (length-map w.queries query_shown) in
    λ t. (counted (record w { queries = qs t }) cost, told.Asked (count t))
