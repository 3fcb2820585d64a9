-- Of stores that tell everything: what a call answers is no want of memory, so that it can be so answered.
use Rattle.std.proofs.Common.{◌≡◌, ◌==◌, ℕ, Bool, true, false, cond, List, Option, Some, None, Result, Ok, Err, refl}
use Rattle.std.proofs.lemmas.Option.{none-some}
use Rattle.std.specs.Prelude.{unwrap_or}
use Rattle.std.specs.Str.{bytes_eq}
use Rattle.rt_base.specs.Faults.{answer_under, fault_of}
use Rattle.rt_base.specs.declared.fault.Fault.{Fault}
use Rattle.rt_base.specs.declared.fault.Fault.TheVariants.{Nothing, Lost, Kept}
use Rattle.rt_base.specs.declared.numbers.Partition.{Partition}
use Rattle.rt_commit.proofs.Realized.{deep_calls_told}
use Rattle.rt_deep.specs.Answers as of_deep
use Rattle.rt_deep.specs.Calls as deep_calls
use Rattle.rt_deep.specs.Files.{AreOnce, file_of}
use Rattle.rt_deep.specs.Meaning.{Told as ToldDeep}
use Rattle.rt_deep.specs.Memory.{means as deep_means}
use Rattle.rt_deep.specs.declared.deep_put.DeepPut.{DeepPut}
use Rattle.rt_deep.specs.declared.refused.DeepRefused.{DeepRefused}
use Rattle.rt_deep.specs.declared.refused.DeepRefused.TheVariants as deep
use Rattle.rt_model.specs.History.{value_of}
use Rattle.rt_model.specs.Lawful.{Write, create, set, delete, create_after, bump, written_by}
use Rattle.rt_model.specs.declared.node.Key.{Key}
use Rattle.rt_model.specs.declared.node.Seen.{Seen}
use Rattle.rt_store.proofs.Realized.{calls_told}
use Rattle.rt_store.specs.Answers.{answer_by, answer_of, change_in, first_of, found_in, listing, presence_in, reading, refusal_of}
use Rattle.rt_store.specs.Calls.{answer_on, Calls, told_on}
use Rattle.rt_store.specs.Meaning.{Told}
use Rattle.rt_store.specs.Memory.{means}
use Rattle.rt_store.specs.declared.refused.StoreRefused.{StoreRefused}
use Rattle.rt_store.specs.declared.refused.StoreRefused.TheVariants.{NoNode, Exists, VersionChanged, Failed, Memory}

-- something is given
abbrev pub Gives : {X : Type 0} → Option X → Type 0
Gives {X} o = (x : X) × (o ≡ Some x)

-- ---- the store

abbrev named : {X : Type 0} → Result X StoreRefused → Option (Unit {0})
named (Err Memory) = None
named r = Some tt

-- an answer that is no want of memory
abbrev pub IsGiven : {X : Type 0} → Result X StoreRefused → Type 0
IsGiven r = named r ≡ Some tt

-- of such an answer something is made
pub given_gives : {X Y : Type 0} (f : Result X StoreRefused → Option Y) → ((x : X) → Gives (f (Ok x))) → Gives (f (Err NoNode))
    → ((found : ℕ) → Gives (f (Err (Exists found)))) → ((expected found : ℕ) → Gives (f (Err (VersionChanged expected found)))) → Gives (f (Err Failed))
    → (r : Result X StoreRefused) → IsGiven r → Gives (f r)
given_gives f ok none exists changed failed (Ok x) g = ok x
given_gives f ok none exists changed failed (Err NoNode) g = none
given_gives f ok none exists changed failed (Err (Exists found)) g = exists found
given_gives f ok none exists changed failed (Err (VersionChanged expected found)) g = changed expected found
given_gives f ok none exists changed failed (Err Failed) g = failed
given_gives f ok none exists changed failed (Err Memory) g = absurd (none-some tt g)

under_given : {X : Type 0} (f : Fault) (r : Result X StoreRefused) → IsGiven r → IsGiven (answer_under Failed f r)
under_given Nothing r g = g
under_given Lost r g = refl
under_given Kept r g = refl

found_given : (o : Option Seen) → IsGiven (found_in o)
found_given None = refl
found_given (Some w) = refl

abbrev refuses : Option StoreRefused → Result (Unit {0}) StoreRefused
refuses o = answer_by o tt

by_given : {X : Type 0} (o : Option StoreRefused) (x : X) → IsGiven (refuses o) → IsGiven (answer_by o x)
by_given None x g = refl
by_given (Some Memory) x g = absurd (none-some tt g)
by_given (Some refused) x g = refl

change_given : (expected : ℕ) (o : Option Seen) → IsGiven (refuses (change_in expected o))
change_given expected None = refl
change_given expected (Some w) = by_test (w.version == expected)
  where
    by_test : (b : Bool) → IsGiven (refuses (cond b None (Some (VersionChanged expected w.version))))
    by_test true = refl
    by_test false = refl

presence_given : (o : Option Seen) → IsGiven (refuses (presence_in o))
presence_given None = refl
presence_given (Some w) = refl

first_given : (o later : Option StoreRefused) → IsGiven (refuses o) → IsGiven (refuses later) → IsGiven (refuses (first_of o later))
first_given None later g h = h
first_given (Some refused) later g h = g

refusal_given : (h : List Seen) (call : Write) → IsGiven (refuses (refusal_of h call))
refusal_given h (create k n) = presence_given (value_of h k)
refusal_given h (set from n) = change_given from.version (value_of h from.key)
refusal_given h (delete from) = change_given from.version (value_of h from.key)
refusal_given h (create_after k n prior) =
    first_given (change_in prior.version (value_of h prior.key)) (presence_in (value_of h k)) (change_given prior.version (value_of h prior.key)) (presence_given (value_of h k))
refusal_given h (bump i) = refl

pub read_given : (t : Told) (k : Key) → IsGiven (answer_on t (reading k))
read_given t k = under_given (fault_of t.faults.plan) (reading k t.writes) (found_given (value_of t.writes k))

pub list_given : (t : Told) (p : Partition) → IsGiven (answer_on t (listing p))
list_given t p = under_given (fault_of t.faults.plan) (listing p t.writes) refl

pub write_given : {X : Type 0} (t : Told) (tell : Seen → X) (call : Write) → IsGiven (answer_on t (answer_of tell call))
write_given t tell call =
    under_given (fault_of t.faults.plan) (answer_of tell call t.writes)
    (by_given (refusal_of t.writes call) (tell (written_by t.writes call)) (refusal_given t.writes call))

-- and the call can be so answered
pub given_calls : {X : Type 0} (t : Told) (answer : List Seen → Result X StoreRefused) (after : List Seen → List Seen) → IsGiven (answer_on t answer)
    → Calls (means t) (means (told_on t after)) answer after (answer_on t answer)
given_calls t answer after g = calls_told t answer after named tt refl g

-- ---- the deep store

abbrev named_deep : {X : Type 0} → Result X DeepRefused → Option (Unit {0})
named_deep (Err deep.Memory) = None
named_deep r = Some tt

abbrev pub IsGivenDeep : {X : Type 0} → Result X DeepRefused → Type 0
IsGivenDeep r = named_deep r ≡ Some tt

-- of such an answer something is made
pub given_deep_gives : {X Y : Type 0} (f : Result X DeepRefused → Option Y) → ((x : X) → Gives (f (Ok x))) → Gives (f (Err deep.Absent))
    → ((kept offered : List ℕ) → Gives (f (Err (deep.OtherBytes kept offered)))) → Gives (f (Err deep.Failed)) → (r : Result X DeepRefused) → IsGivenDeep r → Gives (f r)
given_deep_gives f ok absent other failed (Ok x) g = ok x
given_deep_gives f ok absent other failed (Err deep.Absent) g = absent
given_deep_gives f ok absent other failed (Err (deep.OtherBytes kept offered)) g = other kept offered
given_deep_gives f ok absent other failed (Err deep.Failed) g = failed
given_deep_gives f ok absent other failed (Err deep.Memory) g = absurd (none-some tt g)

under_given_deep : {X : Type 0} (f : Fault) (r : Result X DeepRefused) → IsGivenDeep r → IsGivenDeep (answer_under deep.Failed f r)
under_given_deep Nothing r g = g
under_given_deep Lost r g = refl
under_given_deep Kept r g = refl

file_given : (o : Option DeepPut) → IsGivenDeep (of_deep.found_in o)
file_given None = refl
file_given (Some file) = refl

pub get_given : (t : ToldDeep) (path : List ℕ) → IsGivenDeep (deep_calls.answer_on t (of_deep.getting path))
get_given t path = under_given_deep (fault_of t.faults.plan) (of_deep.getting path t.files) (file_given (file_of t.files path))

offered_given : (o : Option DeepPut) (bytes : List ℕ) → IsGivenDeep (unwrap_or (of_deep.compared_in o bytes) (Ok tt))
offered_given None bytes = refl
offered_given (Some file) bytes = by_test (bytes_eq file.bytes bytes) _ _
  where
    by_test : (b : Bool) (kept offered : List ℕ) → IsGivenDeep (cond b (Ok (tt {0})) (Err (deep.OtherBytes kept offered)))
    by_test true kept offered = refl
    by_test false kept offered = refl

pub put_given : (t : ToldDeep) (path bytes : List ℕ) → IsGivenDeep (deep_calls.answer_on t (of_deep.putting (record { path = path; bytes = bytes })))
put_given t path bytes =
    let file : DeepPut = record { path = path; bytes = bytes } in
    under_given_deep (fault_of t.faults.plan) (of_deep.putting file t.files) (offered_given (file_of t.files path) bytes)

-- and the call can be so answered
pub given_deep_calls : {X : Type 0} (t : ToldDeep) → AreOnce t.files → (answer : List DeepPut → Result X DeepRefused) (after : List DeepPut → List DeepPut)
    → IsGivenDeep (deep_calls.answer_on t answer)
    → deep_calls.Calls (deep_means t) (deep_means (deep_calls.told_on t after)) answer after (deep_calls.answer_on t answer)
given_deep_calls t once answer after g = deep_calls_told t answer after named_deep tt once refl g
