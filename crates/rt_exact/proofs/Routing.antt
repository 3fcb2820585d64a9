-- A partition that is routed: by one answer of the store, which looks at no groups.
use Rattle.std.proofs.Common.{◌≡◌, ℕ, inl, inr, List, length, map, Option, Some, None, Result, Ok, Err, refl, sym, ◌∙◌, ap, subst}
use Rattle.std.specs.Prelude.{slice_set}
use Rattle.std.proofs.lemmas.List.{map-set}
use Rattle.std.proofs.lemmas.Option.{none-some, same_Some}
use Rattle.rt_base.specs.declared.numbers.Partition.{Partition}
use Rattle.rt_broker.specs.Asking.{Asking, unasked, with_route}
use Rattle.rt_broker.specs.Routing.{Routes as BrokerRoutes}
use Rattle.rt_broker.specs.declared.refused.BrokerRefused.{BrokerRefused}
use Rattle.rt_broker.specs.declared.refused.BrokerRefused.TheVariants as broker
use Rattle.rt_broker.specs.declared.route.Route.TheVariants.{Planned, Failed}
use Rattle.rt_events.specs.declared.outcome.Outcome.{Outcome}
use Rattle.rt_events.specs.declared.outcome.Outcome.TheVariants as told
use Rattle.rt_model.specs.declared.node.Listed.{Listed}
use Rattle.rt_model.specs.Plan.{plan_of}
use Rattle.rt_store.specs.declared.refused.StoreRefused.{StoreRefused}
use Rattle.rt_store.specs.declared.refused.StoreRefused.TheVariants as store
use Rattle.rt_store.specs.Answers.{listing}
use Rattle.rt_store.specs.Calls.{Lists, IsExact, answer_on, told_on}
use Rattle.rt_store.specs.Meaning.{Told}
use Rattle.rt_store.specs.Memory.{means}
use Rattle.rt_store.proofs.Seeing.{told_exact}
use Rattle.rt_state.specs.Finding.{query_at}
use Rattle.rt_state.specs.Queries.{Routes, RoutesAt, routed_by}
use Rattle.rt_state.specs.Room.{counted}
use Rattle.rt_state.specs.declared.state.State.{State}
use Rattle.rt_exact.specs.Shown.{asking_shown, query_shown, shown}
use Rattle.rt_exact.proofs.Dues.{query_at_shown}
use Rattle.rt_exact.proofs.Ones.{IsOne, both}
use Rattle.rt_exact.proofs.Queries.{routed_shown, tried_shown, with_route_shown}
use Rattle.rt_exact.proofs.Showing.{Commutes, next_shown}

-- ---- one outcome

-- what is made of the store's answer
abbrev Made : Type 0
Made = Option (Asking × Outcome)

abbrev made : Asking → Partition → Result (List Listed) StoreRefused → Made
made a p (Ok nodes) =
    Some (with_route a p (Planned (map unasked (plan_of p nodes))), told.Routed (length (plan_of p nodes)))
made a p (Err store.Failed) = Some (with_route a p Failed, told.Failed)
made a p (Err store.NoNode) = None
made a p (Err (store.Exists found)) = None
made a p (Err (store.VersionChanged expected found)) = None
made a p (Err store.Memory) = None

record IsRouted (t u : Told) (a : Asking) (p : Partition) (b : Asking) (outcome : Outcome) : Type 0 where
  pub store : u ≡ told_on t (λ base. base)
  pub made_so : made a p (answer_on t (listing p)) ≡ Some (b, outcome)

listed : (t u : Told) (a b : Asking) (p : Partition) (outcome : Outcome) (result : Result (List Listed) StoreRefused) → Lists (means t) (means u) p result
    → made a p result ≡ Some (b, outcome) → IsRouted t u a p b outcome
listed t u a b p outcome result c e = by_cases (told_exact t u (listing p) (λ base. base) result c)
  where
    whole : Asking × Outcome
    whole = (b, outcome)

    by_cases : IsExact t u (listing p) (λ base. base) result → IsRouted t u a p b outcome
    by_cases (inl memory) = absurd (none-some whole (sym (ap (made a p) memory.0) ∙ e))
    by_cases (inr exact) = record { store = exact.1; made_so = ap (made a p) (sym exact.0) ∙ e }

routed : (t u : Told) (a b : Asking) (p : Partition) (answer : Result ℕ BrokerRefused) (outcome : Outcome) → BrokerRoutes (means t) (means u) a p b answer
    → routed_by answer ≡ Some outcome → IsRouted t u a p b outcome
routed t u a b p (Ok count) outcome r e =
    let told_so : told.Routed (length (plan_of p r.1.nodes)) ≡ outcome = ap (λ n. told.Routed n) (sym r.1.told) ∙ same_Some (told.Routed count) outcome e in
    listed t u a b p outcome (Ok r.1.nodes) r.1.listed (λ i. Some (sym r.1.noted i, told_so i))
routed t u a b p (Err broker.NotDue) outcome r e = absurd (none-some outcome e)
routed t u a b p (Err broker.StoreFault) outcome r e =
    let told_so : told.Failed ≡ outcome = same_Some told.Failed outcome e in
    listed t u a b p outcome (Err store.Failed) r.1 (λ i. Some (sym r.2 i, told_so i))
routed t u a b p (Err broker.Memory) outcome r e = absurd (none-some outcome e)

pub routes_one : (w : State) (q : ℕ) (p : Partition) → IsOne (Routes w q p)
routes_one w q p cost x y h k = by_query (query_at w q) h k
  where
    by_query : (o : Option Asking) → RoutesAt o w q p cost x → RoutesAt o w q p cost y → x ≡ y
    by_query None h k = absurd h
    by_query (Some a) (b, s, answer, r, tells, is) (b', u, answer', r', tells', is') =
        let left = routed w.store s a b p answer x.1 r tells in
        let right = routed w.store u a b' p answer' y.1 r' tells' in
        let one : Asking × Outcome = (b, x.1) in
        let other : Asking × Outcome = (b', y.1) in
        let same : one ≡ other = same_Some one other (sym left.made_so ∙ right.made_so) in
        let store = left.store ∙ sym right.store in
        both x y
        (is ∙ (λ i. counted (record w { queries = slice_set w.queries q (Some (same i).0); store = store i }) cost) ∙ sym is')
        (ap (λ (z : Asking × Outcome). z.1) same)

-- ---- what is shown of it

broker_shown : (t u : Told) (a b : Asking) (p : Partition) (answer : Result ℕ BrokerRefused) → BrokerRoutes (means t) (means u) a p b answer
    → BrokerRoutes (means t) (means u) (asking_shown a) p (asking_shown b) answer
broker_shown t u a b p (Ok count) (tried, r) = (
  tried_shown a p ∙ tried,
  record {
    nodes = r.nodes;
    listed = r.listed;
    noted = ap (λ z. asking_shown z) r.noted ∙ routed_shown a p (plan_of p r.nodes);
    told = r.told;
  },
)
broker_shown t u a b p (Err broker.NotDue) (tried, same, store) = (tried_shown a p ∙ tried, ap (λ z. asking_shown z) same, store)
broker_shown t u a b p (Err broker.StoreFault) (tried, lists, same) =
    (tried_shown a p ∙ tried, lists, ap (λ z. asking_shown z) same ∙ with_route_shown a p Failed)
broker_shown t u a b p (Err broker.Memory) (tried, same, lists) = (tried_shown a p ∙ tried, ap (λ z. asking_shown z) same, lists)

pub routes_shown : (w : State) (q : ℕ) (p : Partition) → Commutes (Routes w q p) (Routes (shown w) q p)
routes_shown w q p cost x h = by_query (query_at w q) refl h
  where
    by_query : (o : Option Asking) → query_at w q ≡ o → RoutesAt o w q p cost x → Routes (shown w) q p cost (next_shown x)
    by_query None at h = absurd h
    by_query (Some a) at (b, s, answer, r, tells, is) =
        subst (λ o. RoutesAt o (shown w) q p cost (next_shown x)) (sym (query_at_shown w q ∙ ap (λ o. query_shown o) at)) (
          asking_shown b,
          s,
          answer,
          broker_shown w.store s a b p answer r,
          tells,
          ap (λ z. shown z) is
              ∙ ap (λ qs. counted (record w { queries = qs; store = s }) cost) (map-set query_shown w.queries q (Some b)),
        )
