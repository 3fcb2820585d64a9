-- What is made of a call's one answer, over stores that tell everything, is what the call could answer.
use Rattle.std.proofs.Common.{◌≡◌, List, Option, Some, None, Result, Ok, Err, refl, sym, ◌∙◌}
use Rattle.std.proofs.lemmas.Option.{none-some}
use Rattle.rt_base.specs.declared.fault.Fault.TheVariants as fault
use Rattle.rt_base.specs.Faults.{fault_of}
use Rattle.rt_lists.proofs.Members.{front_same}
use Rattle.rt_model.specs.Lawful.{set, create_after}
use Rattle.rt_deep.specs.declared.deep_put.DeepPut.{DeepPut}
use Rattle.rt_deep.specs.declared.refused.DeepRefused.{DeepRefused}
use Rattle.rt_deep.specs.declared.refused.DeepRefused.TheVariants as deep
use Rattle.rt_deep.specs.Answers.{putting, getting, after_put}
use Rattle.rt_deep.specs.Calls as of_deep
use Rattle.rt_deep.specs.Files.{AreOnce}
use Rattle.rt_deep.specs.Memory as deep_memory
use Rattle.rt_store.specs.declared.refused.StoreRefused.TheVariants.{Failed, Memory}
use Rattle.rt_store.specs.Answers.{reading, answer_of, after_call}
use Rattle.rt_store.specs.Calls.{Calls, GoesBy, answer_on, told_on}
use Rattle.rt_store.specs.Meaning.{Told}
use Rattle.rt_store.specs.Memory.{means}
use Rattle.rt_store.proofs.Realized.{calls_told, counted}
use Rattle.rt_commit.specs.Calls as calls
use Rattle.rt_commit.specs.Calls.{Call, calls_nothing, puts, gets, reads, sets, creates, Answer, put, got, read, created, Makes}
use Rattle.rt_commit.specs.Told.{ToldDeep, store_after, deep_after, answer_to}
use Rattle.rt_commit.proofs.Telling.{RunsOut}

-- ---- the deep store

abbrev IsNamedDeep : {X : Type 0} → Result X DeepRefused → Type 0
IsNamedDeep (Ok x) = Unit {0}
IsNamedDeep (Err deep.Absent) = Unit {0}
IsNamedDeep (Err (deep.OtherBytes kept offered)) = Unit {0}
IsNamedDeep (Err deep.Failed) = Unit {0}
IsNamedDeep (Err deep.Memory) = ⊥

named_deep : {X Y : Type 0} (tell : Result X DeepRefused → Option Y) (answer : Result X DeepRefused) (y : Y) → tell (Err deep.Memory) ≡ None
    → tell answer ≡ Some y → IsNamedDeep answer
named_deep tell (Ok x) y none e = tt
named_deep tell (Err deep.Absent) y none e = tt
named_deep tell (Err (deep.OtherBytes kept offered)) y none e = tt
named_deep tell (Err deep.Failed) y none e = tt
named_deep tell (Err deep.Memory) y none e = absurd (none-some y (sym none ∙ e))

deep_goes_told : {X : Type 0} (t : ToldDeep) (answer : List DeepPut → Result X DeepRefused) (after : List DeepPut → List DeepPut) (result : Result X DeepRefused)
    → result ≡ of_deep.answer_on t answer → IsNamedDeep result
    → of_deep.GoesBy (deep_memory.means t) (deep_memory.means (of_deep.told_on t after)) (fault_of t.faults.plan) t.files (after t.files) (answer t.files) result
deep_goes_told t answer after (Ok x) e n =
    record { meets = (refl, refl); counts = counted t.faults (fault_of t.faults.plan); answered = e; seen = refl; own = refl }
deep_goes_told t answer after (Err deep.Absent) e n =
    record { meets = (refl, refl); counts = counted t.faults (fault_of t.faults.plan); answered = e; seen = refl; own = refl }
deep_goes_told t answer after (Err (deep.OtherBytes kept offered)) e n =
    record { meets = (refl, refl); counts = counted t.faults (fault_of t.faults.plan); answered = e; seen = refl; own = refl }
deep_goes_told t answer after (Err deep.Failed) e n =
    record { meets = (refl, refl); counts = counted t.faults (fault_of t.faults.plan); answered = e; seen = refl; own = refl }
deep_goes_told t answer after (Err deep.Memory) e n = absurd n

pub deep_calls_told : {X Y : Type 0} (t : ToldDeep) (answer : List DeepPut → Result X DeepRefused) (after : List DeepPut → List DeepPut)
    (tell : Result X DeepRefused → Option Y) (y : Y) → AreOnce t.files → tell (Err deep.Memory) ≡ None
    → tell (of_deep.answer_on t answer) ≡ Some y
    → of_deep.Calls (deep_memory.means t) (deep_memory.means (of_deep.told_on t after)) answer after (of_deep.answer_on t answer)
deep_calls_told t answer after tell y once none e =
    record {
      fault = fault_of t.faults.plan;
      base = t.files;
      sees = record { grows = front_same t.files; all = refl; once = once };
      goes = deep_goes_told t answer after (of_deep.answer_on t answer) refl (named_deep tell (of_deep.answer_on t answer) y none e);
    }

-- ---- a call

pub made_told : {Y : Type 0} (t : Told) (d : ToldDeep) (call : Call) (f : Answer → Option Y) (y : Y) → AreOnce d.files → RunsOut f call
    → f (answer_to t d call) ≡ Some y
    → Makes (means t) (means (store_after t call)) (deep_memory.means d) (deep_memory.means (deep_after d call)) call (λ a. f a ≡ Some y)
made_told t d calls_nothing f y once none e = (refl, refl, e)
made_told t d (puts path bytes) f y once none e =
    let file : DeepPut = record { path = path; bytes = bytes } in
    (_, deep_calls_told d (putting file) (after_put file) (λ a. f (put a)) y once none e, refl, e)
made_told t d (gets path) f y once none e =
    (_, deep_calls_told d (getting path) (λ base. base) (λ a. f (got a)) y once none e, refl, e)
made_told t d (reads k) f y once none e = (_, calls_told t (reading k) (λ base. base) (λ a. f (read a)) y none e, refl, e)
made_told t d (sets from n) f y once none e =
    (_, calls_told t (answer_of (λ w. w.version) (set from n)) (after_call (set from n)) (λ a. f (calls.set a)) y none e, refl, e)
made_told t d (creates k n prior) f y once none e =
    (_, calls_told t (answer_of (λ w. tt) (create_after k n prior)) (after_call (create_after k n prior)) (λ a. f (created a)) y none e, refl, e)
