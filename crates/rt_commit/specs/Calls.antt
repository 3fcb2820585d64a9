-- The one call that a step makes, and what it may answer.
use Rattle.std.specs.Prelude.{◌≡◌, ℕ, ◌⊎◌, ◌≤◌, List, length, Option, Some, None, Result}
use Rattle.rt_model.specs.declared.node.Key.{Key}
use Rattle.rt_model.specs.declared.node.Node.{Node}
use Rattle.rt_model.specs.declared.node.Node.TheVariants as node
use Rattle.rt_model.specs.declared.node.Seen.{Seen}
use Rattle.rt_model.specs.Lawful.{IsLawful}
use Rattle.rt_model.specs.Lawful as lawful
use Rattle.rt_deep.specs.declared.deep_put.DeepPut.{DeepPut}
use Rattle.rt_deep.specs.declared.refused.DeepRefused.{DeepRefused}
use Rattle.rt_deep.specs.Calls as of_deep
use Rattle.rt_deep.specs.Meaning as of_deep_meaning
use Rattle.rt_store.specs.declared.refused.StoreRefused.{StoreRefused}
use Rattle.rt_store.specs.Calls.{Reads, SetsFrom, CreatesAfter, Sees}
use Rattle.rt_store.specs.Meaning.{Meaning}

pub data Call : Type 0 where
  calls_nothing : Call
  -- a file is put into the deep store, or got from a path
  puts : List ℕ → List ℕ → Call
  gets : List ℕ → Call
  -- a node of the store is read, set from a write that was read, or created after one
  reads : Key → Call
  sets : Seen → Node → Call
  creates : Key → Node → Seen → Call

pub data Answer : Type 0 where
  nothing : Answer
  put : Result (Unit {0}) DeepRefused → Answer
  got : Result (List ℕ) DeepRefused → Answer
  read : Result Seen StoreRefused → Answer
  set : Result ℕ StoreRefused → Answer
  created : Result (Unit {0}) StoreRefused → Answer

abbrev pub DeepMeaning : Type 0
DeepMeaning = of_deep_meaning.Meaning

-- the call is made of the store (s before, t after) or of the deep store (d before, e after), and an answer that it
-- could give has P; whichever isn't called stays
abbrev pub Makes : Meaning → Meaning → DeepMeaning → DeepMeaning → Call → (Answer → Type 0) → Type 0
Makes s t d e calls_nothing P = (t ≡ s) × (e ≡ d) × P nothing
Makes s t d e (puts path bytes) P =
    (answer : Result (Unit {0}) DeepRefused) × of_deep.Puts d e path bytes answer × (t ≡ s) × P (put answer)
Makes s t d e (gets path) P =
    (answer : Result (List ℕ) DeepRefused) × of_deep.Gets d e path answer × (t ≡ s) × P (got answer)
Makes s t d e (reads k) P = (answer : Result Seen StoreRefused) × Reads s t k answer × (e ≡ d) × P (read answer)
Makes s t d e (sets from n) P = (answer : Result ℕ StoreRefused) × SetsFrom s t from n answer × (e ≡ d) × P (set answer)
Makes s t d e (creates k n prior) P =
    (answer : Result (Unit {0}) StoreRefused) × CreatesAfter s t k n prior answer × (e ≡ d) × P (created answer)

-- the call is lawful over what the store's caller has seen
abbrev pub MayCall : List Seen → Call → Type 0
MayCall seen calls_nothing = Unit {0}
MayCall seen (puts path bytes) = Unit {0}
MayCall seen (gets path) = Unit {0}
MayCall seen (reads k) = Unit {0}
MayCall seen (sets from n) = IsLawful seen (lawful.set from n)
MayCall seen (creates k n prior) = IsLawful seen (lawful.create_after k n prior)

-- the number of entries of the ideal state that a call sets; none where it sets none
abbrev pub entries_in : Node → Option ℕ
entries_in (node.Ideal state) = Some (length state.entries)
entries_in (node.Meta m) = None
entries_in node.Boot = None
entries_in node.Gone = None

abbrev pub entries_set : Call → Option ℕ
entries_set calls_nothing = None
entries_set (puts path bytes) = None
entries_set (gets path) = None
entries_set (reads k) = None
entries_set (sets from n) = entries_in n
entries_set (creates k n prior) = None

-- ---- where memory ran out

-- nothing is written, whether or not the store was called
pub record Idles (old new : Meaning) (base : List Seen) : Type 0 where
  pub told : new.told ≡ old.told
  pub faults : old.faults ≤ new.faults
  pub seen : new.seen ≡ base
  pub own : new.own ≡ old.own

abbrev pub StoreIdles : Meaning → Meaning → Type 0
StoreIdles old new = (new ≡ old) ⊎ ((base : List Seen) × Sees old base × Idles old new base)

-- nothing is put
pub record DeepIdlesOn (old new : DeepMeaning) (base : List DeepPut) : Type 0 where
  pub told : new.told ≡ old.told
  pub faults : old.faults ≤ new.faults
  pub seen : new.seen ≡ base
  pub own : new.own ≡ old.own

abbrev pub DeepIdles : DeepMeaning → DeepMeaning → Type 0
DeepIdles old new = (new ≡ old) ⊎ ((base : List DeepPut) × of_deep.Sees old base × DeepIdlesOn old new base)

-- memory ran out: neither store has a write of this step
abbrev pub RanOut : Meaning → Meaning → DeepMeaning → DeepMeaning → Type 0
RanOut s t d e = StoreIdles s t × DeepIdles d e
