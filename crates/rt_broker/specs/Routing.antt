-- How a partition is routed: by one list of its metadata.
use Rattle.std.specs.Prelude.{◌≡◌, ℕ, true, false, List, length, map, Result, Ok, Err}
use Rattle.rt_base.specs.declared.numbers.Partition.{Partition}
use Rattle.rt_model.specs.declared.node.Listed.{Listed}
use Rattle.rt_model.specs.Metadata.{metadata_of}
use Rattle.rt_model.specs.Plan.{plan_of}
use Rattle.rt_store.specs.declared.refused.StoreRefused.{StoreRefused}
use Rattle.rt_store.specs.declared.refused.StoreRefused.TheVariants as store
use Rattle.rt_store.specs.Answers.{listing}
use Rattle.rt_store.specs.Calls.{Lists, answer_on, told_on}
use Rattle.rt_store.specs.Meaning.{Told, Meaning}
use Rattle.rt_broker.specs.declared.refused.BrokerRefused.{BrokerRefused}
use Rattle.rt_broker.specs.declared.refused.BrokerRefused.TheVariants.{NotDue, StoreFault, Memory}
use Rattle.rt_broker.specs.declared.route.Route.TheVariants.{Failed, Planned}
use Rattle.rt_broker.specs.Asking.{Asking, is_tried, unasked, with_route}

-- the list was answered: its plan is noted, and the number of its pieces is told
pub record RoutesBy (old new : Meaning) (a : Asking) (p : Partition) (b : Asking) (count : ℕ) : Type 0 where
  pub nodes : List Listed
  pub listed : Lists old new p (Ok nodes)
  pub noted : b ≡ with_route a p (Planned (map unasked (plan_of p nodes)))
  pub told : count ≡ length (plan_of p nodes)

-- the answers of a list behind which memory may run out: one that was given, and the store's own want of memory. A
-- fault is never turned into want of memory
abbrev pub MayRunOut : Result (List Listed) StoreRefused → Type 0
MayRunOut (Ok nodes) = Unit {0}
MayRunOut (Err store.NoNode) = ⊥
MayRunOut (Err (store.Exists found)) = ⊥
MayRunOut (Err (store.VersionChanged expected found)) = ⊥
MayRunOut (Err store.Failed) = ⊥
MayRunOut (Err store.Memory) = Unit {0}

-- the partition wasn't tried yet, and then the store's answer decides; else nothing is done
abbrev pub Routes : Meaning → Meaning → Asking → Partition → Asking → Result ℕ BrokerRefused → Type 0
Routes old new a p b (Ok count) = (is_tried a p ≡ false) × RoutesBy old new a p b count
Routes old new a p b (Err NotDue) = (is_tried a p ≡ true) × (b ≡ a) × (new ≡ old)
Routes old new a p b (Err StoreFault) =
    (is_tried a p ≡ false) × Lists old new p (Err store.Failed) × (b ≡ with_route a p Failed)
Routes old new a p b (Err Memory) =
    (is_tried a p ≡ false) × (b ≡ a) × ((answer : Result (List Listed) StoreRefused) × Lists old new p answer × MayRunOut answer)

-- over a store that tells everything: the plan of the present metadata list is noted, and the store is as it was but for
-- the faults to come
pub record RoutedNow (t u : Told) (a : Asking) (p : Partition) (b : Asking) (count : ℕ) : Type 0 where
  pub noted : b ≡ with_route a p (Planned (map unasked (plan_of p (metadata_of t.writes p))))
  pub told : count ≡ length (plan_of p (metadata_of t.writes p))
  pub store : u ≡ told_on t (λ base. base)

-- the next planned fault was met
pub record FailedNow (t u : Told) (a : Asking) (p : Partition) (b : Asking) : Type 0 where
  pub met : answer_on t (listing p) ≡ Err store.Failed
  pub noted : b ≡ with_route a p Failed
  pub store : u ≡ told_on t (λ base. base)

-- memory ran out: no fault was met, and all is as before
pub record RanOutNow (t u : Told) (a b : Asking) : Type 0 where
  pub asked : b ≡ a
  pub store : u ≡ t
