-- The index beside the list of writes: where each key's last write stands, and which keys are there.
use Rattle.std.specs.Prelude.{◌≡◌, ℕ, ◌+◌, ◌<◌, ◌≤◌, List, [], Bool, true, false, cond, Option, Some, None, is_some, slice_get}
use Rattle.std.specs.Ordering.{is_eq}
use Rattle.std.specs.BTreeMap.{BTreeMap, get}
use Rattle.std.specs.BTreeSet.{BTreeSet, contains}
use Rattle.rt_base.specs.declared.numbers.Partition.{Partition}
use Rattle.rt_base.specs.declared.numbers.Sequence.{Sequence}
use Rattle.rt_model.specs.declared.node.Key.{Key}
use Rattle.rt_model.specs.declared.node.Node.{Node}
use Rattle.rt_model.specs.declared.node.Node.TheVariants as node
use Rattle.rt_model.specs.declared.node.Seen.{Seen}
use Rattle.rt_model.specs.History.{writes_of, last_write, next_version, value_of}
use Rattle.rt_model.specs.Metadata.{node_key}
use Rattle.rt_store.specs.declared.index.Index.{Index}
use Rattle.rt_store.specs.declared.index.Latest.{Latest}
use Rattle.rt_store.specs.Order.{key_cmp}

-- the last write of a key, and that it stands at a place, with a version
pub record IsLatest (h : List Seen) (k : Key) (latest : Latest) : Type 0 where
  pub write : Seen
  pub last : last_write h k ≡ Some write
  pub stands : slice_get h latest.place ≡ Some write
  pub version : write.version ≡ latest.version
  pub count : latest.version + 1 ≡ next_version h k

abbrev pub IsLatestIn : List Seen → Key → Option Latest → Type 0
IsLatestIn h k None = writes_of h k ≡ []
IsLatestIn h k (Some latest) = IsLatest h k latest

-- the map has the last write of each key that was ever written, and no other key
abbrev pub IsMap : List Seen → BTreeMap Key Latest → Type 0
IsMap h m = (k : Key) → IsLatestIn h k (get key_cmp m k)

-- the set has the keys that have a value, and no other key
abbrev pub ArePresent : List Seen → BTreeSet Key → Type 0
ArePresent h s = (k : Key) → contains key_cmp s k ≡ is_some (value_of h k)

abbrev pub IsIndex : List Seen → Index → Type 0
IsIndex h i = IsMap h i.latest × ArePresent h i.present

-- a write of this node is no deletion
abbrev pub is_there : Node → Bool
is_there (node.Meta m) = true
is_there (node.Ideal i) = true
is_there node.Boot = true
is_there node.Gone = false

-- nothing is known of any key
abbrev pub IsBlank : Index → Type 0
IsBlank i = (k : Key) → (get key_cmp i.latest k ≡ None) × (contains key_cmp i.present k ≡ false)

-- each key is as before
abbrev pub IsSame : Index → Index → Type 0
IsSame i j = (k : Key) → (get key_cmp j.latest k ≡ get key_cmp i.latest k) × (contains key_cmp j.present k ≡ contains key_cmp i.present k)

-- a key has this last write, and is there or isn't; every other key is as before
abbrev pub Notes : Index → Index → Key → Latest → Bool → Type 0
Notes i j key latest is_there =
    (k : Key) → (get key_cmp j.latest k ≡ cond (is_eq (key_cmp key k)) (Some latest) (get key_cmp i.latest k))
    × (contains key_cmp j.present k ≡ cond (is_eq (key_cmp key k)) is_there (contains key_cmp i.present k))

-- the lowest sequence, from one on, of which the set has a partition's node
abbrev pub IsNext : BTreeSet Key → Partition → ℕ → Option Sequence → Type 0
IsNext s p from None = (t : ℕ) → from ≤ t → contains key_cmp s (node_key p t) ≡ false
IsNext s p from (Some next) =
    (from ≤ next.0)
    × (contains key_cmp s (node_key p next.0) ≡ true)
    × ((t : ℕ) → from ≤ t → t < next.0 → contains key_cmp s (node_key p t) ≡ false)
