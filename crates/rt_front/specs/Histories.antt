-- A history, and what a caller who holds a front knows of it.
use Rattle.std.specs.Prelude.{◌≡◌, ℕ, ◌<◌, ◌==◌, Bool, false, List, [], ◌∷◌, All}
use Rattle.std.specs.List.{filter, list_any}
use Rattle.atomic_table.specs.Seated.{TableId}
use Rattle.rt_front.specs.declared.entry.Entry.{Entry}

-- a history: the name of its chronicle, its entries, and the number of fronts with which it was founded
pub record History (T : Type 0) : Type 0 where
  pub chronicle : TableId
  pub log : List (Entry T)
  pub made : ℕ

-- what a front knows: the name of the chronicle, the entries that it has seen, and its numbers
pub record Known (T : Type 0) : Type 0 where
  pub chronicle : TableId
  pub seen : List (Entry T)
  pub numbers : List ℕ

-- a number is one of these
abbrev pub stands : ℕ → List ℕ → Bool
stands n numbers = list_any (λ m. m == n) numbers

-- each of these numbers is below the count of the fronts that were made
abbrev pub AreBelow : ℕ → List ℕ → Type 0
AreBelow made numbers = All (λ n. n < made) numbers

-- no number stands in both lists
abbrev pub ShareNone : List ℕ → List ℕ → Type 0
ShareNone ns ms = All (λ n. stands n ms ≡ false) ns

abbrev pub first_of : List ℕ → ℕ
first_of [] = 0
first_of (n ∷ numbers) = n

module _ {T : Type 0} where
  abbrev pub entry : ℕ → ℕ → T → Entry T
  entry front told what = record { front = front; told = told; what = what }

  abbrev pub history : TableId → List (Entry T) → ℕ → History T
  history chronicle log made = record { chronicle = chronicle; log = log; made = made }

  abbrev pub known : TableId → List (Entry T) → List ℕ → Known T
  known chronicle seen numbers = record { chronicle = chronicle; seen = seen; numbers = numbers }

  -- the entries that carry one of these numbers
  abbrev pub mine : List ℕ → List (Entry T) → List (Entry T)
  mine numbers log = filter (λ e. stands e.front numbers) log
