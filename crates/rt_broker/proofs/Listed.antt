-- A list is answered, meets a fault or runs out of memory: it has no other refusal.
use Rattle.std.proofs.Common.{◌≡◌, ℕ, List, Result, Ok, Err}
use Rattle.rt_base.specs.declared.fault.Fault.{Fault}
use Rattle.rt_base.specs.declared.fault.Fault.TheVariants.{Nothing, Lost, Kept}
use Rattle.rt_base.specs.declared.numbers.Partition.{Partition}
use Rattle.rt_base.specs.Faults.{answer_under}
use Rattle.rt_model.specs.declared.node.Listed.{Listed}
use Rattle.rt_model.specs.Metadata.{metadata_of}
use Rattle.rt_store.specs.declared.refused.StoreRefused.{StoreRefused}
use Rattle.rt_store.specs.declared.refused.StoreRefused.TheVariants.{NoNode, Exists, VersionChanged, Failed}
use Rattle.rt_store.specs.Calls.{Lists}
use Rattle.rt_store.specs.Meaning.{Meaning}

abbrev refused_by : StoreRefused → Result (List Listed) StoreRefused
refused_by e = Err e

abbrev answered_by : List Listed → Result (List Listed) StoreRefused
answered_by nodes = Ok nodes

only_failed : (fault : Fault) (nodes : List Listed) (e : StoreRefused) → refused_by e ≡ answer_under Failed fault (answered_by nodes) → e ≡ Failed
only_failed Nothing nodes e is = absurd (cc)
only_failed Lost nodes e is = cc
only_failed Kept nodes e is = cc

pub never_no_node : (old new : Meaning) (p : Partition) → Lists old new p (Err NoNode) → ⊥
never_no_node old new p c =
    let is : NoNode ≡ Failed = only_failed c.fault (metadata_of c.base p) NoNode c.goes.answered in cc

pub never_exists : (old new : Meaning) (p : Partition) (found : ℕ) → Lists old new p (Err (Exists found)) → ⊥
never_exists old new p found c =
    let is : Exists found ≡ Failed = only_failed c.fault (metadata_of c.base p) (Exists found) c.goes.answered in cc

pub never_changed : (old new : Meaning) (p : Partition) (expected found : ℕ) → Lists old new p (Err (VersionChanged expected found)) → ⊥
never_changed old new p expected found c =
    let is : VersionChanged expected found ≡ Failed =
    only_failed c.fault (metadata_of c.base p) (VersionChanged expected found) c.goes.answered in cc
