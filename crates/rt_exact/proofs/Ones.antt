-- What has one outcome: the ways in which a node's step is a world's have one where the node's step has.
use Rattle.std.proofs.Common.{◌≡◌, Ok, Err, Option, Some, None, sym, ◌∙◌, ap, subst, slice_get}
use Rattle.std.specs.Prelude.{slice_set, length}
use Rattle.rt_base.specs.declared.numbers.ControllerId.{ControllerId}
use Rattle.rt_base.specs.declared.numbers.Instance.{Instance}
use Rattle.rt_deep.specs.Meaning.{Told as ToldDeep}
use Rattle.rt_events.specs.declared.outcome.Outcome.{Outcome}
use Rattle.rt_events.specs.declared.outcome.Outcome.TheVariants as told
use Rattle.rt_events.specs.declared.refusal.Refusal.{Refusal}
use Rattle.rt_model.specs.declared.request.Request.{Request}
use Rattle.rt_store.specs.Meaning.{Told}
use Rattle.rt_stream.specs.Log.{Log}
use Rattle.rt_state.specs.Applying.{Next, comes, Applies}
use Rattle.rt_state.specs.Nodes.{ControllerDoes, ControllerDoesAt, ServerCalls, ServerCallsAt, ServerDoes, ServerDoesAt, ServerFetches, ServerFetchesAt, ServerGets, ServerGetsAt, ServerStep, with_server}
use Rattle.rt_state.specs.Requests.{AskStep, SendsAt, SendsRequest, sends}
use Rattle.rt_state.specs.Room.{Due, counted}
use Rattle.rt_nodes.specs.declared.controller_node.ControllerNode.{ControllerNode}
use Rattle.rt_state.specs.declared.cost.Cost.{Cost}
use Rattle.rt_nodes.specs.declared.server_node.ServerNode.{ServerNode}
use Rattle.rt_state.specs.declared.state.State.{State}

-- ---- an event

abbrev pub price : Cost → Due
price cost = Ok cost

abbrev refuse : Refusal → Due
refuse refusal = Err refusal

pub same_price : (a b : Cost) → price a ≡ price b → a ≡ b
same_price a b e = cc

pub not_refused : (cost : Cost) (refusal : Refusal) → price cost ≡ refuse refusal → ⊥
not_refused cost refusal e = cc

-- wherever it leads, it leads there alone
abbrev pub IsOne : (Cost → Next → Type 0) → Type 0
IsOne goes = (cost : Cost) (x y : Next) → goes cost x → goes cost y → x ≡ y

pub both : (x y : Next) → x.0 ≡ y.0 → x.1 ≡ y.1 → x ≡ y
both x y e f = λ t. (e t, f t)

pub applied_one : (old : State) (due : Due) (goes : Cost → Next → Type 0) (x y : State) (a b : Outcome) → IsOne goes
    → Applies old due goes x (Ok a) → Applies old due goes y (Ok b) → (a ≡ b) × (x ≡ y)
applied_one old due goes x y a b one (c, d, g) (e, f, h) =
    let one_cost : c ≡ e = same_price c e (sym d ∙ f) in
    let same : Next → Next → Type 0 = λ m n. m ≡ n in
    let z = one e (x, a) (y, b) (subst (λ k. goes k (x, a)) one_cost g) h in
    (ap (λ (n : Next). n.1) z, ap (λ (n : Next). n.0) z)

pub comes_one : (next : Cost → Next) → IsOne (λ cost. comes (next cost))
comes_one next cost x y e f = e ∙ sym f

-- ---- a server's step

abbrev pub IsOneStep : ServerStep → Type 0
IsOneStep does = (old m n : ServerNode) (a b : Outcome) → does old m a → does old n b → (m ≡ n) × (a ≡ b)

abbrev pub IsOneCall : {X : Type 0} → (X → X → ServerStep) → Type 0
IsOneCall {X} does = (t s u : X) (old m n : ServerNode) (a b : Outcome) → does t s old m a → does t u old n b → (s ≡ u) × (m ≡ n) × (a ≡ b)

abbrev pub IsOneAsk : AskStep → Type 0
IsOneAsk asks = (old m n : ServerNode) (q r : Request) → asks old m q → asks old n r → (m ≡ n) × (q ≡ r)

module _ (w : State) (i : Instance) where
  pub server_does_one : (does : ServerStep) → IsOneStep does → IsOne (ServerDoes w i does)
  server_does_one does one cost x y h k = by_node (slice_get w.servers i.0) h k
    where
      by_node : (o : Option ServerNode) → ServerDoesAt o w i does cost x → ServerDoesAt o w i does cost y → x ≡ y
      by_node None h k = absurd h
      by_node (Some old) (m, d, e) (n, f, g) =
          let z = one old m n x.1 y.1 d f in
          both x y (e ∙ ap (λ (s : ServerNode). counted (with_server w i s) cost) z.0 ∙ sym g) z.1

  pub server_calls_one : (does : Told → Told → ServerStep) → IsOneCall does → IsOne (ServerCalls w i does)
  server_calls_one does one cost x y h k = by_node (slice_get w.servers i.0) h k
    where
      next : Told → ServerNode → State
      next store s = counted (record w { servers = slice_set w.servers i.0 s; store = store }) cost

      by_node : (o : Option ServerNode) → ServerCallsAt o w i does cost x → ServerCallsAt o w i does cost y → x ≡ y
      by_node None h k = absurd h
      by_node (Some old) (m, s, d, e) (n, u, f, g) =
          let z = one w.store s u old m n x.1 y.1 d f in
          both x y (e ∙ (λ t. counted (record w { servers = slice_set w.servers i.0 (z.1 t); store = z.0 t }) cost) ∙ sym g) z.2

  pub server_gets_one : (does : ToldDeep → ToldDeep → ServerStep) → IsOneCall does → IsOne (ServerGets w i does)
  server_gets_one does one cost x y h k = by_node (slice_get w.servers i.0) h k
    where
      by_node : (o : Option ServerNode) → ServerGetsAt o w i does cost x → ServerGetsAt o w i does cost y → x ≡ y
      by_node None h k = absurd h
      by_node (Some old) (m, s, d, e) (n, u, f, g) =
          let z = one w.deep s u old m n x.1 y.1 d f in
          both x y (e ∙ (λ t. counted (record w { servers = slice_set w.servers i.0 (z.1 t); deep = z.0 t }) cost) ∙ sym g) z.2

  pub server_fetches_one : (does : Log → Log → ServerStep) → IsOneCall does → IsOne (ServerFetches w i does)
  server_fetches_one does one cost x y h k = by_node (slice_get w.servers i.0) h k
    where
      by_node : (o : Option ServerNode) → ServerFetchesAt o w i does cost x → ServerFetchesAt o w i does cost y → x ≡ y
      by_node None h k = absurd h
      by_node (Some old) (m, s, d, e) (n, u, f, g) =
          let z = one w.log s u old m n x.1 y.1 d f in
          both x y (e ∙ (λ t. counted (record w { servers = slice_set w.servers i.0 (z.1 t); log = z.0 t }) cost) ∙ sym g) z.2

  pub server_asks_one : (asks : AskStep) → IsOneAsk asks → IsOne (SendsRequest w i asks)
  server_asks_one asks one cost x y h k = by_node (slice_get w.servers i.0) h k
    where
      next : ServerNode → Request → Next
      next s r = (counted (sends (with_server w i s) r).0 cost, told.Sent (length w.sent) r)

      by_node : (o : Option ServerNode) → SendsAt o w i asks cost x → SendsAt o w i asks cost y → x ≡ y
      by_node None h k = absurd h
      by_node (Some old) (m, r, d, e) (n, s, f, g) =
          let z = one old m n r s d f in
          e ∙ (λ t. (counted (sends (with_server w i (z.0 t)) (z.1 t)).0 cost, told.Sent (length w.sent) (z.1 t))) ∙ sym g

-- ---- a controller's step

pub controller_does_one : (w : State) (c : ControllerId) (does : ControllerNode → ControllerNode) (outcome : Outcome) → IsOne (ControllerDoes w c does outcome)
controller_does_one w c does outcome cost x y h k = by_node (slice_get w.controllers c.0) h k
  where
    by_node : (o : Option ControllerNode) → ControllerDoesAt o w c does outcome cost x → ControllerDoesAt o w c does outcome cost y → x ≡ y
    by_node None h k = absurd h
    by_node (Some old) h k = h ∙ sym k
