-- Where memory runs out in a request, nothing is written and nothing is put.
use Rattle.std.proofs.Common.{◌≡◌, ℕ, inr, List, Option, Some, None, Result, Ok, Err, refl, sym, ◌∙◌, ap, subst}
use Rattle.rt_base.specs.declared.fault.Fault.{Fault}
use Rattle.rt_base.specs.declared.fault.Fault.TheVariants as fault
use Rattle.rt_base.specs.Faults.{fault_of, met_by, answer_under, left_under, Counts}
use Rattle.rt_model.specs.declared.node.Key.{Key}
use Rattle.rt_model.specs.declared.node.Seen.{Seen}
use Rattle.rt_deep.specs.declared.deep_put.DeepPut.{DeepPut}
use Rattle.rt_deep.specs.declared.refused.DeepRefused.{DeepRefused}
use Rattle.rt_deep.specs.declared.refused.DeepRefused.TheVariants as deep
use Rattle.rt_deep.specs.Answers.{putting, after_put}
use Rattle.rt_deep.specs.Calls as of_deep
use Rattle.rt_store.specs.declared.refused.StoreRefused.{StoreRefused}
use Rattle.rt_store.specs.declared.refused.StoreRefused.TheVariants.{NoNode, Exists, VersionChanged, Failed, Memory}
use Rattle.rt_store.specs.Answers.{reading}
use Rattle.rt_store.specs.Calls.{Reads, Meets, AreAll}
use Rattle.rt_store.specs.Meaning.{Meaning, Told}
use Rattle.rt_store.proofs.Owning.{gains_nothing}
use Rattle.rt_commit.specs.Calls.{StoreIdles, DeepIdles, DeepMeaning}
use Rattle.rt_commit.proofs.RunningOut.{memory_idles, deep_memory_idles, not_met}
use Rattle.rt_controller.specs.Steps.{MayRunOutReading}

-- ---- a read that was answered, after which memory ran out

abbrev some_told : Told → Option Told
some_told t = Some t

told_same :
    (old new : Option Told) (base seen : List Seen) → AreAll old base → Meets old new fault.Nothing seen → seen ≡ base → new ≡ old
told_same None new base seen all m e = m
told_same (Some t) new base seen all m e =
    m.1 ∙ ap (λ h. some_told (record { writes = h; faults = met_by (fault_of t.faults.plan) t.faults })) (e ∙ all)
    ∙ ap (λ p. some_told (record { writes = t.writes; faults = p })) (not_met t.faults (fault_of t.faults.plan) (sym m.0))

abbrev okay : Seen → Result Seen StoreRefused
okay w = Ok w

no_failure : (w : Seen) → okay w ≡ Err Failed → ⊥
no_failure w e = absurd (cc)

read_idles : (old new : Meaning) (k : Key) (w : Seen) → Reads old new k (Ok w) → StoreIdles old new
read_idles old new k w c = by_fault c.fault refl
  where
    by_fault : (f : Fault) → c.fault ≡ f → StoreIdles old new
    by_fault fault.Nothing e =
        let P : Fault → Type 0 = λ f. Meets old.told new.told f new.seen in
        let Q : Fault → Type 0 = λ f. Counts old.faults new.faults f in
        let seen : new.seen ≡ c.base = c.goes.seen ∙ ap (λ f. left_under f c.base c.base) e in
        inr (
          c.base,
          c.sees,
          record {
            told = told_same old.told new.told c.base new.seen c.sees.all (subst P e c.goes.meets) seen;
            faults = subst Q e c.goes.counts;
            seen = seen;
            own = gains_nothing old.own new.own c.base new.seen c.goes.own seen;
          },
        )
    by_fault fault.Lost e =
        absurd (no_failure w (c.goes.answered ∙ ap (λ f. answer_under Failed f (reading k c.base)) e))
    by_fault fault.Kept e =
        absurd (no_failure w (c.goes.answered ∙ ap (λ f. answer_under Failed f (reading k c.base)) e))

-- ---- the calls of a step

pub put_ran_out :
    (old new : DeepMeaning) (path bytes : List ℕ) (answer : Result (Unit {0}) DeepRefused)
    → of_deep.Puts old new path bytes answer → answer ≡ Err deep.Memory → DeepIdles old new
put_ran_out old new path bytes (Ok u) c e = absurd (cc)
put_ran_out old new path bytes (Err deep.Absent) c e = absurd (cc)
put_ran_out old new path bytes (Err (deep.OtherBytes kept offered)) c e = absurd (cc)
put_ran_out old new path bytes (Err deep.Failed) c e = absurd (cc)
put_ran_out old new path bytes (Err deep.Memory) c e =
    let file : DeepPut = record { path = path; bytes = bytes } in
    deep_memory_idles old new (putting file) (after_put file) c

pub read_ran_out :
    (old new : Meaning) (k : Key) (answer : Result Seen StoreRefused)
    → Reads old new k answer → MayRunOutReading answer → StoreIdles old new
read_ran_out old new k (Ok w) c m = read_idles old new k w c
read_ran_out old new k (Err NoNode) c m = absurd m
read_ran_out old new k (Err (Exists found)) c m = absurd m
read_ran_out old new k (Err (VersionChanged expected found)) c m = absurd m
read_ran_out old new k (Err Failed) c m = absurd m
read_ran_out old new k (Err Memory) c m = memory_idles old new (reading k) (λ base. base) c
