-- A look at a partition and then a write of the boot node, by what the store means; and what is the caller's own of it.
use Rattle.std.specs.Prelude.{◌≡◌, ℕ, List, [], ◌∷◌, ◌++◌, Result, Ok, Err}
use Rattle.rt_base.specs.declared.numbers.Partition.{Partition}
use Rattle.rt_base.specs.declared.numbers.Instance.{Instance}
use Rattle.rt_model.specs.declared.node.Key.TheVariants as key
use Rattle.rt_model.specs.declared.node.Node.TheVariants as node
use Rattle.rt_model.specs.declared.node.Seen.{Seen}
use Rattle.rt_model.specs.declared.node.Listed.{Listed}
use Rattle.rt_store.specs.declared.refused.StoreRefused.{StoreRefused}
use Rattle.rt_store.specs.Meaning.{Meaning}
use Rattle.rt_store.specs.Calls.{Lists, Bumps}
use Rattle.rt_front.specs.Histories.{Known, mine}
use Rattle.rt_ground.specs.Histories.{whats}

-- a list that was answered, and then a boot
pub record Boots (old new : Meaning) (p : Partition) (i : Instance) (version : ℕ) : Type 0 where
  pub mid : Meaning
  pub listed : List Listed
  pub looks : Lists old mid p (Ok listed)
  pub boots : Bumps mid new i (Ok version)

abbrev pub BootsBy : Meaning → Meaning → Partition → Instance → Result ℕ StoreRefused → Type 0
BootsBy old new p i (Ok version) = Boots old new p i version
BootsBy old new p i (Err e) = Unit {0}

abbrev pub boot_write : Instance → ℕ → Seen
boot_write i version = record { key = key.Boot i; version = version; node = node.Boot }

-- the front has its numbers still, and of its own writes there is just this one more
pub record BootsAsOwn (before after : Known Seen) (i : Instance) (version : ℕ) : Type 0 where
  pub numbers : after.numbers ≡ before.numbers
  pub writes : whats (mine after.numbers after.seen) ≡ whats (mine before.numbers before.seen) ++ boot_write i version ∷ []
