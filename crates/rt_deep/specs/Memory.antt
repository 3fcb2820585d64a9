-- The deep store in memory: what it carries out.
use Rattle.std.specs.Prelude.{◌≡◌, [], ◌∷◌, ◌++◌, Some, None, Result, Ok, Err}
use Rattle.rt_deep.specs.declared.deep_put.DeepPut.{DeepPut}
use Rattle.rt_deep.specs.declared.refused.DeepRefused.{DeepRefused}
use Rattle.rt_deep.specs.declared.refused.DeepRefused.TheVariants.{Absent, OtherBytes, Failed, Memory}
use Rattle.rt_deep.specs.Meaning.{Told, Meaning}
use Rattle.rt_base.specs.Faults.{fault_of, answer_under, left_under}
use Rattle.rt_deep.specs.Calls.{told_after}

-- it tells everything, and whoever calls it sees all files
abbrev pub means : Told → Meaning
means t = record { told = Some t; seen = t.files; own = None; faults = t.faults.met }

-- a file is put
abbrev pub with_file : Told → DeepPut → Told
with_file t put = record t { files = t.files ++ put ∷ [] }

-- a put at a path where nothing stands
pub record PutsOnce (old new : Told) (put : DeepPut) (result : Result (Unit {0}) DeepRefused) : Type 0 where
  pub answered : result ≡ answer_under Failed (fault_of old.faults.plan) (Ok tt)
  pub told : new ≡ told_after old (left_under (fault_of old.faults.plan) old.files (old.files ++ put ∷ []))

-- the same, but that memory may run out, after which all is as before
abbrev pub PutsNew : Told → Told → DeepPut → Result (Unit {0}) DeepRefused → Type 0
PutsNew old new put (Ok x) = PutsOnce old new put (Ok x)
PutsNew old new put (Err Absent) = PutsOnce old new put (Err Absent)
PutsNew old new put (Err (OtherBytes kept offered)) = PutsOnce old new put (Err (OtherBytes kept offered))
PutsNew old new put (Err Failed) = PutsOnce old new put (Err Failed)
PutsNew old new put (Err Memory) = new ≡ old
