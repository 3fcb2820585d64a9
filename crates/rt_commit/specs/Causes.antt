-- The cause of a failure: a fault of a store.
use Rattle.std.specs.Prelude.{◌<◌, ◌⊎◌}
use Rattle.rt_store.specs.Meaning.{Meaning}
use Rattle.rt_commit.specs.Calls.{DeepMeaning}

-- the count of faults of one of the stores rose
abbrev pub Rose : Meaning → Meaning → DeepMeaning → DeepMeaning → Type 0
Rose s t d e = (s.faults < t.faults) ⊎ (d.faults < e.faults)
