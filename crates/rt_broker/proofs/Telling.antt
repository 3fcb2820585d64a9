-- A partition that is routed over a store that tells everything.
use Rattle.std.proofs.Common.{◌≡◌, ℕ, inl, inr, List, length, map, Result, Ok, Err, refl, sym, ap, ◌∙◌}
use Rattle.rt_base.specs.declared.fault.Fault.{Fault}
use Rattle.rt_base.specs.declared.fault.Fault.TheVariants.{Nothing, Lost, Kept}
use Rattle.rt_base.specs.declared.numbers.Partition.{Partition}
use Rattle.rt_base.specs.Faults.{fault_of, met_by, answer_under, left_under}
use Rattle.rt_model.specs.declared.node.Listed.{Listed}
use Rattle.rt_model.specs.Metadata.{metadata_of}
use Rattle.rt_model.specs.Plan.{plan_of}
use Rattle.rt_store.specs.declared.refused.StoreRefused.{StoreRefused}
use Rattle.rt_store.specs.declared.refused.StoreRefused.TheVariants as store
use Rattle.rt_store.specs.Answers.{listing}
use Rattle.rt_store.specs.Calls.{Lists, IsExact, answer_on, told_on}
use Rattle.rt_store.specs.Meaning.{Told}
use Rattle.rt_store.specs.Memory.{means}
use Rattle.rt_store.proofs.Seeing.{told_exact}
use Rattle.rt_store.proofs.Told.{list_on}
use Rattle.rt_broker.specs.declared.refused.BrokerRefused.TheVariants.{StoreFault, Memory}
use Rattle.rt_broker.specs.declared.route.Route.TheVariants.{Planned}
use Rattle.rt_broker.specs.Asking.{Asking, unasked, with_route}
use Rattle.rt_broker.specs.Routing.{MayRunOut, Routes, RoutedNow, FailedNow, RanOutNow}

-- the answer that is no want of memory is the one answer
answered : (t u : Told) (p : Partition) (result : Result (List Listed) StoreRefused) → (result ≡ Err store.Memory → ⊥)
    → Lists (means t) (means u) p result → (result ≡ answer_on t (listing p)) × (u ≡ told_on t (λ base. base))
answered t u p result named c = by_cases (told_exact t u (listing p) (λ base. base) result c)
  where
    by_cases : IsExact t u (listing p) (λ base. base) result → (result ≡ answer_on t (listing p)) × (u ≡ told_on t (λ base. base))
    by_cases (inl memory) = absurd (named memory.0)
    by_cases (inr exact) = exact

pub routed_now : (t u : Told) (a b : Asking) (p : Partition) (count : ℕ) → Routes (means t) (means u) a p b (Ok count) → RoutedNow t u a p b count
routed_now t u a b p count r =
    let exact = answered t u p (Ok r.1.nodes) (λ e. cc) r.1.listed in
    let same : r.1.nodes ≡ metadata_of t.writes p = list_on t p r.1.nodes (sym exact.0) in
    record {
      noted = r.1.noted ∙ ap (λ nodes. with_route a p (Planned (map unasked (plan_of p nodes)))) same;
      told = r.1.told ∙ ap (λ nodes. length (plan_of p nodes)) same;
      store = exact.1;
    }

pub failed_now : (t u : Told) (a b : Asking) (p : Partition) → Routes (means t) (means u) a p b (Err StoreFault) → FailedNow t u a p b
failed_now t u a b p r =
    let exact = answered t u p (Err store.Failed) (λ e. cc) r.1 in
    record { met = sym exact.0; noted = r.2; store = exact.1 }

-- a list that was answered met no fault, and leaves the store as it was
abbrev listed_as : List Listed → Result (List Listed) StoreRefused
listed_as nodes = Ok nodes

abbrev left_at : Told → Fault → Told
left_at t fault = record { writes = left_under fault t.writes t.writes; faults = met_by fault t.faults }

unmet : (t : Told) (nodes listed : List Listed) (fault : Fault) → listed_as nodes ≡ answer_under store.Failed fault (listed_as listed)
    → left_at t fault ≡ t
unmet t nodes listed Nothing e = refl
unmet t nodes listed Lost e = absurd (cc)
unmet t nodes listed Kept e = absurd (cc)

abbrev out_of_memory : Result (List Listed) StoreRefused
out_of_memory = Err store.Memory

never_memory : (listed : List Listed) (fault : Fault) → out_of_memory ≡ answer_under store.Failed fault (listed_as listed) → ⊥
never_memory listed Nothing e = cc
never_memory listed Lost e = cc
never_memory listed Kept e = cc

ran_out : (t u : Told) (p : Partition) (answer : Result (List Listed) StoreRefused) → MayRunOut answer → Lists (means t) (means u) p answer → u ≡ t
ran_out t u p (Ok nodes) may c =
    let exact = answered t u p (Ok nodes) (λ e. cc) c in
    exact.1 ∙ unmet t nodes (metadata_of t.writes p) (fault_of t.faults.plan) exact.0
ran_out t u p (Err store.NoNode) may c = absurd may
ran_out t u p (Err (store.Exists found)) may c = absurd may
ran_out t u p (Err (store.VersionChanged expected found)) may c = absurd may
ran_out t u p (Err store.Failed) may c = absurd may
ran_out t u p (Err store.Memory) may c = by_cases (told_exact t u (listing p) (λ base. base) (Err store.Memory) c)
  where
    by_cases : IsExact t u (listing p) (λ base. base) (Err store.Memory) → u ≡ t
    by_cases (inl memory) = memory.1
    by_cases (inr exact) = absurd (never_memory (metadata_of t.writes p) (fault_of t.faults.plan) exact.0)

pub ran_out_now : (t u : Told) (a b : Asking) (p : Partition) → Routes (means t) (means u) a p b (Err Memory) → RanOutNow t u a b
ran_out_now t u a b p (tried, same, (answer, lists, may)) = record { asked = same; store = ran_out t u p answer may lists }
