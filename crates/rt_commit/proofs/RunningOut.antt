-- Where memory runs out in a step, nothing is written and nothing is put.
use Rattle.std.proofs.Common.{◌≡◌, ℕ, inr, Bool, true, false, cond, nat_lt, length, List, Option, Some, None, Result, Ok, Err, refl, sym, ◌∙◌, ap, subst, arith}
use Rattle.rt_base.specs.declared.fault.Fault.{Fault}
use Rattle.rt_base.specs.declared.fault.Fault.TheVariants as fault
use Rattle.rt_base.specs.declared.numbers.Moment.{Moment}
use Rattle.rt_base.specs.Faults.{Planned, fault_of, met_by, answer_under, left_under, Counts}
use Rattle.rt_model.specs.declared.asked.Asked.{Asked}
use Rattle.rt_model.specs.declared.commit.Commit.{Commit}
use Rattle.rt_model.specs.declared.node.Key.{Key}
use Rattle.rt_model.specs.declared.node.Key.TheVariants as key
use Rattle.rt_model.specs.declared.node.Node.{Node}
use Rattle.rt_model.specs.declared.node.Seen.{Seen}
use Rattle.rt_model.specs.Entries.{entries_by}
use Rattle.rt_model.specs.Lawful as lawful
use Rattle.rt_deep.specs.declared.deep_put.DeepPut.{DeepPut}
use Rattle.rt_deep.specs.declared.refused.DeepRefused.{DeepRefused}
use Rattle.rt_deep.specs.declared.refused.DeepRefused.TheVariants as deep
use Rattle.rt_deep.specs.Answers.{getting}
use Rattle.rt_deep.specs.Calls as of_deep
use Rattle.rt_deep.specs.Meaning as deep_meaning
use Rattle.rt_deep.proofs.Owning.{gains_nothing}
use Rattle.rt_store.specs.declared.refused.StoreRefused.{StoreRefused}
use Rattle.rt_store.specs.declared.refused.StoreRefused.TheVariants.{NoNode, Exists, VersionChanged, Failed, Memory}
use Rattle.rt_store.specs.Answers.{reading, answer_of, after_call}
use Rattle.rt_store.specs.Calls.{Calls, Reads, SetsFrom, CreatesAfter, Meets, AreAll}
use Rattle.rt_store.specs.Meaning.{Meaning, Told}
use Rattle.rt_commit.specs.declared.work.Work.{Work}
use Rattle.rt_commit.specs.Calls.{StoreIdles, DeepIdles, DeepMeaning}
use Rattle.rt_commit.specs.Job.{Stepping, changes, after_done, after_next, after_read, after_set}
use Rattle.rt_commit.specs.Steps.{MayRunOut}

-- ---- a call that ran out of memory

pub memory_idles :
    {X : Type 0} (old new : Meaning) (answer : List Seen → Result X StoreRefused) (after : List Seen → List Seen)
    → Calls old new answer after (Err Memory) → StoreIdles old new
memory_idles old new answer after c =
    inr (c.base, c.sees, record { told = c.goes.told; faults = omega (arith, c.goes.faults); seen = c.goes.seen; own = c.goes.own })

pub deep_memory_idles :
    {X : Type 0} (old new : DeepMeaning) (answer : List DeepPut → Result X DeepRefused) (after : List DeepPut → List DeepPut)
    → of_deep.Calls old new answer after (Err deep.Memory) → DeepIdles old new
deep_memory_idles old new answer after c =
    inr (c.base, c.sees, record { told = c.goes.told; faults = omega (arith, c.goes.faults); seen = c.goes.seen; own = c.goes.own })

-- ---- a read that was answered, after which memory ran out

pub not_met : (p : Planned) (f : Fault) → f ≡ fault.Nothing → met_by f p ≡ p
not_met p f e = ap (λ g. met_by g p) e

abbrev some_files : deep_meaning.Told → Option deep_meaning.Told
some_files t = Some t

files_same :
    (old new : Option deep_meaning.Told) (base seen : List DeepPut) → of_deep.AreAll old base
    → of_deep.Meets old new fault.Nothing seen → seen ≡ base → new ≡ old
files_same None new base seen all m e = m
files_same (Some t) new base seen all m e =
    m.1 ∙ ap (λ h. some_files (record { files = h; faults = met_by (fault_of t.faults.plan) t.faults })) (e ∙ all)
    ∙ ap (λ p. some_files (record { files = t.files; faults = p })) (not_met t.faults (fault_of t.faults.plan) (sym m.0))

abbrev okay_bytes : List ℕ → Result (List ℕ) DeepRefused
okay_bytes b = Ok b

no_deep_failure : (b : List ℕ) → okay_bytes b ≡ Err deep.Failed → ⊥
no_deep_failure b e = absurd (cc)

get_idles : (old new : DeepMeaning) (path bytes : List ℕ) → of_deep.Gets old new path (Ok bytes) → DeepIdles old new
get_idles old new path bytes c = by_fault c.fault refl
  where
    by_fault : (f : Fault) → c.fault ≡ f → DeepIdles old new
    by_fault fault.Nothing e =
        let P : Fault → Type 0 = λ f. of_deep.Meets old.told new.told f new.seen in
        let Q : Fault → Type 0 = λ f. Counts old.faults new.faults f in
        let seen : new.seen ≡ c.base = c.goes.seen ∙ ap (λ f. left_under f c.base c.base) e in
        inr (
          c.base,
          c.sees,
          record {
            told = files_same old.told new.told c.base new.seen c.sees.all (subst P e c.goes.meets) seen;
            faults = subst Q e c.goes.counts;
            seen = seen;
            own = gains_nothing old.own new.own c.base new.seen c.goes.own seen;
          },
        )
    by_fault fault.Lost e =
        absurd (no_deep_failure bytes (c.goes.answered ∙ ap (λ f. answer_under deep.Failed f (getting path c.base)) e))
    by_fault fault.Kept e =
        absurd (no_deep_failure bytes (c.goes.answered ∙ ap (λ f. answer_under deep.Failed f (getting path c.base)) e))

-- ---- the calls of a step

pub get_ran_out :
    (old new : DeepMeaning) (path : List ℕ) (answer : Result (List ℕ) DeepRefused)
    → of_deep.Gets old new path answer → MayRunOut answer → DeepIdles old new
get_ran_out old new path (Ok bytes) c m = get_idles old new path bytes c
get_ran_out old new path (Err deep.Absent) c m = absurd m
get_ran_out old new path (Err (deep.OtherBytes kept offered)) c m = absurd m
get_ran_out old new path (Err deep.Failed) c m = absurd m
get_ran_out old new path (Err deep.Memory) c m = deep_memory_idles old new (getting path) (λ base. base) c

abbrev some_stepping : Stepping → Option Stepping
some_stepping x = Some x

went_on : (b : Bool) (x y : Stepping) → cond b (some_stepping x) (some_stepping y) ≡ None → ⊥
went_on true x y f = cc
went_on false x y f = cc

pub ideal_ran_out :
    (old new : Meaning) (q : Asked) (w : Work) (found : List ℕ) (answer : Result Seen StoreRefused)
    → Reads old new key.Ideal answer → after_read q w found answer ≡ None → StoreIdles old new
ideal_ran_out old new q w found (Ok ideal) c e = absurd (went_on (changes q w (entries_by ideal.node)) _ _ e)
ideal_ran_out old new q w found (Err NoNode) c e = absurd (cc)
ideal_ran_out old new q w found (Err (Exists version)) c e = absurd (cc)
ideal_ran_out old new q w found (Err (VersionChanged expected version)) c e = absurd (cc)
ideal_ran_out old new q w found (Err Failed) c e = absurd (cc)
ideal_ran_out old new q w found (Err Memory) c e = memory_idles old new (reading key.Ideal) (λ base. base) c

pub done_ran_out :
    (old new : Meaning) (from : Seen) (commit : Commit) (now : Moment) (n : Node) (answer : Result ℕ StoreRefused)
    → SetsFrom old new from n answer → after_done from commit now answer ≡ None → StoreIdles old new
done_ran_out old new from commit now n (Ok version) c e = absurd (cc)
done_ran_out old new from commit now n (Err NoNode) c e = absurd (cc)
done_ran_out old new from commit now n (Err (Exists found)) c e = absurd (cc)
done_ran_out old new from commit now n (Err (VersionChanged expected found)) c e = absurd (cc)
done_ran_out old new from commit now n (Err Failed) c e = absurd (cc)
done_ran_out old new from commit now n (Err Memory) c e =
    memory_idles old new (answer_of (λ w. w.version) (lawful.set from n)) (after_call (lawful.set from n)) c

pub next_ran_out :
    (old new : Meaning) (k : Key) (n : Node) (prior done : Seen) (answer : Result (Unit {0}) StoreRefused)
    → CreatesAfter old new k n prior answer → after_next done answer ≡ None → StoreIdles old new
next_ran_out old new k n prior done (Ok u) c e = absurd (cc)
next_ran_out old new k n prior done (Err NoNode) c e = absurd (cc)
next_ran_out old new k n prior done (Err (Exists found)) c e = absurd (cc)
next_ran_out old new k n prior done (Err (VersionChanged expected found)) c e = absurd (cc)
next_ran_out old new k n prior done (Err Failed) c e = absurd (cc)
next_ran_out old new k n prior done (Err Memory) c e =
    let call = lawful.create_after k n prior in
    memory_idles old new (answer_of (λ w. tt) call) (after_call call) c

pub set_ran_out :
    (old new : Meaning) (from : Seen) (n : Node) (w : Work) (found : List ℕ) (answer : Result ℕ StoreRefused)
    → SetsFrom old new from n answer → after_set w found answer ≡ None → StoreIdles old new
set_ran_out old new from n w found (Ok version) c e = absurd (cc)
set_ran_out old new from n w found (Err NoNode) c e = absurd (cc)
set_ran_out old new from n w found (Err (Exists version)) c e = absurd (cc)
set_ran_out old new from n w found (Err (VersionChanged expected version)) c e =
    absurd (went_on (nat_lt (length found) 9) _ _ e)
set_ran_out old new from n w found (Err Failed) c e = absurd (cc)
set_ran_out old new from n w found (Err Memory) c e =
    memory_idles old new (answer_of (λ x. x.version) (lawful.set from n)) (after_call (lawful.set from n)) c
