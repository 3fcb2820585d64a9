-- The store in memory: what it carries out.
use Rattle.std.specs.Prelude.{◌≡◌, ℕ, [], ◌∷◌, ◌++◌, Some, None, Result, Ok, Err}
use Rattle.rt_model.specs.declared.node.Key.{Key}
use Rattle.rt_model.specs.declared.node.Node.{Node}
use Rattle.rt_model.specs.History.{next_version}
use Rattle.rt_model.specs.Lawful.{write_of}
use Rattle.rt_store.specs.declared.refused.StoreRefused.{StoreRefused}
use Rattle.rt_store.specs.declared.refused.StoreRefused.TheVariants.{NoNode, Exists, VersionChanged, Failed, Memory}
use Rattle.rt_store.specs.Meaning.{Told, Meaning}
use Rattle.rt_base.specs.declared.fault.Fault.{Fault}
use Rattle.rt_base.specs.declared.fault.Fault.TheVariants.{Nothing, Lost, Kept}
use Rattle.rt_base.specs.Faults.{fault_of, answer_under, left_under}
use Rattle.rt_store.specs.Calls.{told_after}

-- it tells everything, and whoever calls it sees all writes
abbrev pub means : Told → Meaning
means t = record { told = Some t; seen = t.writes; own = None; faults = t.faults.met }

-- a key is written
abbrev pub with_write : Told → Key → Node → Told
with_write t k n = record t { writes = t.writes ++ write_of t.writes k n ∷ [] }

-- a refusal, but that a fault comes before it
abbrev pub refusal_under : Fault → StoreRefused → StoreRefused
refusal_under Nothing refused = refused
refusal_under Lost refused = Failed
refusal_under Kept refused = Failed

-- a call that writes this node
pub record WritesOnce (old new : Told) (k : Key) (n : Node) (result : Result ℕ StoreRefused) : Type 0 where
  pub answered : result ≡ answer_under Failed (fault_of old.faults.plan) (Ok (next_version old.writes k))
  pub told : new ≡ told_after old (left_under (fault_of old.faults.plan) old.writes (old.writes ++ write_of old.writes k n ∷ []))

-- the same, but that memory may run out, after which all is as before
abbrev pub WritesAs : Told → Told → Key → Node → Result ℕ StoreRefused → Type 0
WritesAs old new k n (Ok version) = WritesOnce old new k n (Ok version)
WritesAs old new k n (Err NoNode) = WritesOnce old new k n (Err NoNode)
WritesAs old new k n (Err (Exists found)) = WritesOnce old new k n (Err (Exists found))
WritesAs old new k n (Err (VersionChanged expected found)) =
    WritesOnce old new k n (Err (VersionChanged expected found))
WritesAs old new k n (Err Failed) = WritesOnce old new k n (Err Failed)
WritesAs old new k n (Err Memory) = new ≡ old
