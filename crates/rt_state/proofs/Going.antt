-- How a world goes on where one of its servers took a step, in the words of the step.
use Rattle.std.proofs.Common.{◌≡◌, slice_get, slice_set, Some, refl, sym, subst}
use Rattle.rt_base.specs.declared.numbers.Instance.{Instance}
use Rattle.rt_deep.specs.Meaning.{Told as ToldDeep}
use Rattle.rt_events.specs.declared.outcome.Outcome.{Outcome}
use Rattle.rt_model.specs.declared.request.Request.{Request}
use Rattle.rt_store.specs.Meaning.{Told}
use Rattle.rt_stream.specs.Log.{Log}
use Rattle.rt_state.specs.Applying.{Next}
use Rattle.rt_state.specs.Nodes.{ServerCalls, ServerCallsAt, ServerDoes, ServerDoesAt, ServerFetches, ServerFetchesAt, ServerGets, ServerGetsAt, ServerStep, with_server}
use Rattle.rt_state.specs.Requests.{AskStep, SendsAt, SendsRequest, sends}
use Rattle.rt_state.specs.Room.{counted, spent}
use Rattle.rt_state.specs.declared.cost.Cost.{Cost}
use Rattle.rt_state.specs.declared.counts.Counts.{Counts}
use Rattle.rt_nodes.specs.declared.server_node.ServerNode.{ServerNode}
use Rattle.rt_state.specs.declared.state.State.{State}

module _ (w : State) (i : Instance) (cost : Cost) (old new : ServerNode) (found : slice_get w.servers i.0 ≡ Some old) where
  pub server_does : (does : ServerStep) (outcome : Outcome) → does old new outcome → ServerDoes w i does cost (counted (with_server w i new) cost, outcome)
  server_does does outcome d =
      subst (λ o. ServerDoesAt o w i does cost (counted (with_server w i new) cost, outcome)) (sym found) (new, d, refl)

  pub server_calls : (does : Told → Told → ServerStep) (store : Told) (outcome : Outcome) (counts : Counts) → does w.store store old new outcome
      → counts ≡ spent w.counts cost → ServerCalls w i does cost (record w { servers = slice_set w.servers i.0 new; store = store; counts = counts }, outcome)
  server_calls does store outcome counts d spends =
      subst (λ k. ServerCalls w i does cost (record w { servers = slice_set w.servers i.0 new; store = store; counts = k }, outcome)) (sym spends)
      (subst (λ o. ServerCallsAt o w i does cost (counted (record w { servers = slice_set w.servers i.0 new; store = store }) cost, outcome)) (sym found)
      (new, store, d, refl))

  pub server_gets : (does : ToldDeep → ToldDeep → ServerStep) (deep : ToldDeep) (outcome : Outcome) (counts : Counts) → does w.deep deep old new outcome
      → counts ≡ spent w.counts cost → ServerGets w i does cost (record w { servers = slice_set w.servers i.0 new; deep = deep; counts = counts }, outcome)
  server_gets does deep outcome counts d spends =
      subst (λ k. ServerGets w i does cost (record w { servers = slice_set w.servers i.0 new; deep = deep; counts = k }, outcome)) (sym spends)
      (subst (λ o. ServerGetsAt o w i does cost (counted (record w { servers = slice_set w.servers i.0 new; deep = deep }) cost, outcome)) (sym found)
      (new, deep, d, refl))

  pub server_fetches : (does : Log → Log → ServerStep) (log : Log) (outcome : Outcome) (counts : Counts) → does w.log log old new outcome
      → counts ≡ spent w.counts cost → ServerFetches w i does cost (record w { servers = slice_set w.servers i.0 new; log = log; counts = counts }, outcome)
  server_fetches does log outcome counts d spends =
      subst (λ k. ServerFetches w i does cost (record w { servers = slice_set w.servers i.0 new; log = log; counts = k }, outcome)) (sym spends)
      (subst (λ o. ServerFetchesAt o w i does cost (counted (record w { servers = slice_set w.servers i.0 new; log = log }) cost, outcome)) (sym found)
      (new, log, d, refl))

  pub server_asks : (asks : AskStep) (request : Request) (s : State) (outcome : Outcome) (counts : Counts) → asks old new request
      → (s, outcome) ≡ sends (with_server w i new) request → counts ≡ spent s.counts cost
      → SendsRequest w i asks cost (record s { counts = counts }, outcome)
  server_asks asks request s outcome counts a sent spends =
      let x : Next = sends (with_server w i new) request in
      subst (λ k. SendsRequest w i asks cost (record s { counts = k }, outcome)) (sym spends)
      (subst (λ (y : Next). SendsRequest w i asks cost (counted y.0 cost, y.1)) (sym sent)
      (subst (λ o. SendsAt o w i asks cost (counted x.0 cost, x.1)) (sym found) (new, request, a, refl)))
