-- A history of the store is the list of all its writes, the earliest first. A deletion is a write
-- whose node is `Gone`.
use Rattle.std.specs.Prelude.{◌≡◌, ℕ, Bool, true, false, List, [], ◌∷◌, ◌==◌, ◌&&◌, length, Option, Some, None, unwrap_or, slice_get}
use Rattle.std.specs.List.{filter}
use Rattle.rt_model.specs.declared.node.Key.{Key}
use Rattle.rt_model.specs.declared.node.Key.TheVariants as key
use Rattle.rt_model.specs.declared.node.Node.{Node}
use Rattle.rt_model.specs.declared.node.Node.TheVariants as node
use Rattle.rt_model.specs.declared.node.Seen.{Seen}

-- whether two keys are one
abbrev pub same_key : Key → Key → Bool
same_key (key.Meta p s) (key.Meta q t) = (p.0 == q.0) && (s.0 == t.0)
same_key (key.Boot i) (key.Boot j) = i.0 == j.0
same_key key.Ideal key.Ideal = true
same_key _ _ = false

-- the writes of a key, the earliest first
abbrev pub writes_of : List Seen → Key → List Seen
writes_of h k = filter (λ w. same_key w.key k) h

-- the last of some writes
abbrev pub last_of : List Seen → Option Seen
last_of [] = None
last_of (w ∷ ws) = Some (unwrap_or (last_of ws) w)

-- the last write of a key
abbrev pub last_write : List Seen → Key → Option Seen
last_write h k = last_of (writes_of h k)

-- the version that the next write of a key gets: the number of its writes so far
abbrev pub next_version : List Seen → Key → ℕ
next_version h k = length (writes_of h k)

-- each write's version is the number of the earlier writes of its key
abbrev pub IsVersioned : List Seen → Type 0
IsVersioned h =
    (k : Key) (i : ℕ) (w : Seen) → slice_get (writes_of h k) i ≡ Some w → w.version ≡ i

-- a write is the value of its key, unless it is a deletion
abbrev pub value_by : Node → Seen → Option Seen
value_by node.Gone w = None
value_by (node.Meta m) w = Some w
value_by (node.Ideal i) w = Some w
value_by node.Boot w = Some w

abbrev pub value_in : Option Seen → Option Seen
value_in None = None
value_in (Some w) = value_by w.node w

-- the value of a key: its last write, unless that is a deletion. A key is present where it has one
abbrev pub value_of : List Seen → Key → Option Seen
value_of h k = value_in (last_write h k)

-- the value of its key still has the version of a write that was read
abbrev pub HasVersion : ℕ → Option Seen → Type 0
HasVersion version None = ⊥
HasVersion version (Some w) = w.version ≡ version

abbrev pub Stands : List Seen → Seen → Type 0
Stands h from = HasVersion from.version (value_of h from.key)
