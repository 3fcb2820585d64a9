-- What follows from the clause of any call, for whoever calls a store.
use Rattle.std.proofs.Common.{◌≡◌, ℕ, ◌⊎◌, inl, inr, List, [], ◌∷◌, ◌++◌, Option, Some, None, Result, Ok, Err, Bool, true, false, cond, eqb, eq-eqb, refl, sym, ◌∙◌, ap, subst, append_assoc}
use Rattle.std.proofs.lemmas.Bool.{eqb-true}
use Rattle.rt_base.specs.declared.numbers.Partition.{Partition}
use Rattle.rt_lists.specs.Members.{IsFront}
use Rattle.rt_model.specs.declared.node.Key.{Key}
use Rattle.rt_model.specs.declared.node.Seen.{Seen}
use Rattle.rt_model.specs.declared.node.Listed.{Listed}
use Rattle.rt_lists.specs.Members.{Has}
use Rattle.rt_model.specs.History.{HasVersion, value_of}
use Rattle.rt_model.specs.Metadata.{metadata_of}
use Rattle.rt_model.specs.Starting.{Starting}
use Rattle.rt_model.specs.Lawful.{Write, create, set, delete, create_after, bump, IsLawful, TakesEffect, written_by, IsLawfulStep, IsLawfulHistory}
use Rattle.rt_lists.proofs.Members.{Has-same}
use Rattle.rt_model.proofs.Lawful.{step_is_lawful}
use Rattle.rt_store.specs.declared.refused.StoreRefused.{StoreRefused}
use Rattle.rt_store.specs.declared.refused.StoreRefused.TheVariants.{NoNode, Exists, VersionChanged, Failed, Memory}
use Rattle.rt_store.specs.Meaning.{Told, Meaning}
use Rattle.rt_store.specs.Memory.{means}
use Rattle.rt_model.specs.Metadata.{listed_write}
use Rattle.rt_model.proofs.Listings.{listed_has}
use Rattle.rt_store.proofs.Listing.{value_has}
use Rattle.rt_store.specs.Answers.{found_in, reading, listing, change_in, presence_in, first_of, refusal_of, after_by, answer_of, after_call, Leaves}
use Rattle.rt_base.specs.declared.fault.Fault.{Fault}
use Rattle.rt_base.specs.Faults.{fault_of, answer_under, left_under}
use Rattle.rt_base.proofs.Planned.{left_cases, without_fault}
use Rattle.rt_store.specs.Calls.{Goes, GoesBy, Calls, Reads, Lists, told_after, answer_on, told_on, IsExact}

-- ---- the writes after a call

-- either nothing was written, or what the call writes
seen_after : {X : Type 0} (old new : Meaning) (fault : Fault) (base after : List Seen) (answer result : Result X StoreRefused)
    → GoesBy old new fault base after answer result → (new.seen ≡ base) ⊎ (new.seen ≡ after)
seen_after old new fault base after answer (Ok x) g = left_cases fault base after new.seen g.seen
seen_after old new fault base after answer (Err NoNode) g = left_cases fault base after new.seen g.seen
seen_after old new fault base after answer (Err (Exists found)) g = left_cases fault base after new.seen g.seen
seen_after old new fault base after answer (Err (VersionChanged expected found)) g = left_cases fault base after new.seen g.seen
seen_after old new fault base after answer (Err Failed) g = left_cases fault base after new.seen g.seen
seen_after old new fault base after answer (Err Memory) g = inl g.seen

grows_on : (h base now : List Seen) (more : List Seen) → IsFront h base → now ≡ base ++ more → IsFront h now
grows_on h base now more g e = (g.0 ++ more, e ∙ ap (λ (b : List Seen). b ++ more) g.1 ∙ append_assoc h g.0 more)

grows_same : (h base now : List Seen) → IsFront h base → now ≡ base → IsFront h now
grows_same h base now g e = (g.0, e ∙ g.1)

reading_grows : (h base now : List Seen) → IsFront h base → (now ≡ base) ⊎ (now ≡ base) → IsFront h now
reading_grows h base now g (inl e) = grows_same h base now g e
reading_grows h base now g (inr e) = grows_same h base now g e

-- what a write call leaves
after_cases : (call : Write) (base : List Seen) → (after_call call base ≡ base) ⊎ ((refusal_of base call ≡ None) × (after_call call base ≡ base ++ written_by base call ∷ []))
after_cases call base = by_refusal (refusal_of base call) refl
  where
    by_refusal : (o : Option StoreRefused) → refusal_of base call ≡ o → (after_by o base (written_by base call) ≡ base) ⊎ ((refusal_of base call ≡ None) × (after_by o base (written_by base call) ≡ base ++ written_by base call ∷ []))
    by_refusal None e = inr (e, refl)
    by_refusal (Some refused) e = inl refl

pub wrote_by : (call : Write) (base now : List Seen) → (now ≡ base) ⊎ (now ≡ after_call call base) → Leaves call base now
wrote_by call base now (inl e) = inl e
wrote_by call base now (inr e) = by_cases (after_cases call base)
  where
    by_cases : (after_call call base ≡ base) ⊎ ((refusal_of base call ≡ None) × (after_call call base ≡ base ++ written_by base call ∷ [])) → Leaves call base now
    by_cases (inl same) = inl (e ∙ same)
    by_cases (inr more) = inr (more.0, e ∙ more.1)

pub wrote_grows : (call : Write) (h base now : List Seen) → IsFront h base → Leaves call base now → IsFront h now
wrote_grows call h base now g (inl e) = grows_same h base now g e
wrote_grows call h base now g (inr w) = grows_on h base now (written_by base call ∷ []) g w.1

pub read_grows : (old new : Meaning) (k : Key) (result : Result Seen StoreRefused) → Reads old new k result → IsFront old.seen new.seen
read_grows old new k result c = reading_grows old.seen c.base new.seen c.sees.grows (seen_after old new c.fault c.base c.base (reading k c.base) result c.goes)

pub list_grows : (old new : Meaning) (p : Partition) (result : Result (List Listed) StoreRefused) → Lists old new p result → IsFront old.seen new.seen
list_grows old new p result c = reading_grows old.seen c.base new.seen c.sees.grows (seen_after old new c.fault c.base c.base (listing p c.base) result c.goes)

call_wrote : {X : Type 0} (tell : Seen → X) (old new : Meaning) (call : Write) (result : Result X StoreRefused) (c : Calls old new (answer_of tell call) (after_call call) result) → Leaves call c.base new.seen
call_wrote tell old new call result c = wrote_by call c.base new.seen (seen_after old new c.fault c.base (after_call call c.base) (answer_of tell call c.base) result c.goes)

pub write_grows : {X : Type 0} (tell : Seen → X) (old new : Meaning) (call : Write) (result : Result X StoreRefused) → Calls old new (answer_of tell call) (after_call call) result → IsFront old.seen new.seen
write_grows tell old new call result c = wrote_grows call old.seen c.base new.seen c.sees.grows (call_wrote tell old new call result c)

-- ---- what an answer shows

pub found_value : (o : Option Seen) (w : Seen) → Ok w ≡ found_in o → o ≡ Some w
found_value None w e = absurd (cc)
found_value (Some v) w e = cc

-- what was read was seen
pub read_seen : (old new : Meaning) (k : Key) (w : Seen) → Reads old new k (Ok w) → Has new.seen w × (w.key ≡ k)
read_seen old new k w c =
    let told = without_fault Failed c.fault (reading k c.base) (Ok w) c.base c.base new.seen (λ e. cc) c.goes.answered c.goes.seen in
    let has = value_has c.base k w (found_value (value_of c.base k) w told.0) in
    (Has-same c.base new.seen w (sym told.1) has.0, has.1)

abbrev pub answer : List Listed → Result (List Listed) StoreRefused
answer ls = Ok ls

pub same_ok : (xs ys : List Listed) → answer xs ≡ answer ys → xs ≡ ys
same_ok xs ys e = cc

-- what was listed was seen
pub list_seen : (old new : Meaning) (p : Partition) (ls : List Listed) (l : Listed) → Lists old new p (Ok ls) → Has ls l → Has new.seen (listed_write p l)
list_seen old new p ls l c has =
    let told = without_fault Failed c.fault (listing p c.base) (Ok ls) c.base c.base new.seen (λ e. cc) c.goes.answered c.goes.seen in
    let there = Has-same ls (metadata_of c.base p) l (same_ok ls (metadata_of c.base p) told.0) has in
    Has-same c.base new.seen (listed_write p l) (sym told.1) (listed_has c.base p l there)

-- ---- refusals

change_none : (expected : ℕ) (o : Option Seen) → change_in expected o ≡ None → HasVersion expected o
change_none expected None e = absurd (cc)
change_none expected (Some w) e = by_test (eqb w.version expected) refl e
  where
    by_test : (b : Bool) → eqb w.version expected ≡ b → cond b None (Some (VersionChanged expected w.version)) ≡ None → w.version ≡ expected
    by_test true same f = eqb-true w.version expected same
    by_test false other f = absurd (cc)

none_change : (expected : ℕ) (o : Option Seen) → HasVersion expected o → change_in expected o ≡ None
none_change expected None h = absurd h
none_change expected (Some w) h = rw (eq-eqb w.version expected h)

presence_none : (o : Option Seen) → presence_in o ≡ None → o ≡ None
presence_none None e = refl
presence_none (Some w) e = absurd (cc)

none_presence : (o : Option Seen) → o ≡ None → presence_in o ≡ None
none_presence o e = ap presence_in e

first_none : (a b : Option StoreRefused) → first_of a b ≡ None → (a ≡ None) × (b ≡ None)
first_none None b e = (refl, e)
first_none (Some refused) b e = absurd (cc)

pub effect_of : (h : List Seen) (call : Write) → refusal_of h call ≡ None → TakesEffect h call
effect_of h (create k n) e = presence_none (value_of h k) e
effect_of h (set from n) e = change_none from.version (value_of h from.key) e
effect_of h (delete from) e = change_none from.version (value_of h from.key) e
effect_of h (create_after k n prior) e =
    let both = first_none (change_in prior.version (value_of h prior.key)) (presence_in (value_of h k)) e in
    (change_none prior.version (value_of h prior.key) both.0, presence_none (value_of h k) both.1)
effect_of h (bump i) e = tt

pub of_effect : (h : List Seen) (call : Write) → TakesEffect h call → refusal_of h call ≡ None
of_effect h (create k n) e = none_presence (value_of h k) e
of_effect h (set from n) e = none_change from.version (value_of h from.key) e
of_effect h (delete from) e = none_change from.version (value_of h from.key) e
of_effect h (create_after k n prior) e =
    rw (none_change prior.version (value_of h prior.key) e.0) (none_presence (value_of h k) e.1)
of_effect h (bump i) e = refl

-- ---- lawful histories

lawful_same : (s : Starting) (g h : List Seen) → g ≡ h → IsLawfulHistory s h → IsLawfulHistory s g
lawful_same s g h e l = subst (IsLawfulHistory s) (sym e) l

lawful_read : (s : Starting) (base now : List Seen) → IsLawfulHistory s base → (now ≡ base) ⊎ (now ≡ base) → IsLawfulHistory s now
lawful_read s base now l (inl e) = lawful_same s now base e l
lawful_read s base now l (inr e) = lawful_same s now base e l

pub lawful_write : (s : Starting) (h base now : List Seen) (call : Write) → IsLawfulHistory s h → IsFront h base → IsLawfulHistory s base → IsLawful h call → Leaves call base now → IsLawfulHistory s now
lawful_write s h base now call seen g l may (inl e) = lawful_same s now base e l
lawful_write s h base now call seen g l may (inr w) =
    let P : List Seen → Type 0 = λ x. IsLawful x call in
    let step : IsLawfulStep s base (written_by base call) = record {
      later = seen.later;
      unseen = g.0;
      has_seen = g.1 ∙ ap (λ (x : List Seen). x ++ g.0) seen.whole;
      write = call;
      lawful = subst P seen.whole may;
      effect = effect_of base call w.0;
      wrote = refl;
    } in
    lawful_same s now (base ++ written_by base call ∷ []) w.1 (step_is_lawful s base (written_by base call) l step)

pub read_lawful : (s : Starting) (old new : Meaning) (k : Key) (result : Result Seen StoreRefused) → IsLawfulHistory s old.seen → Reads old new k result → IsLawfulHistory s new.seen
read_lawful s old new k result l c = lawful_read s c.base new.seen (c.sees.lawful s l) (seen_after old new c.fault c.base c.base (reading k c.base) result c.goes)

pub list_lawful : (s : Starting) (old new : Meaning) (p : Partition) (result : Result (List Listed) StoreRefused) → IsLawfulHistory s old.seen → Lists old new p result → IsLawfulHistory s new.seen
list_lawful s old new p result l c = lawful_read s c.base new.seen (c.sees.lawful s l) (seen_after old new c.fault c.base c.base (listing p c.base) result c.goes)

pub write_lawful : {X : Type 0} (tell : Seen → X) (s : Starting) (old new : Meaning) (call : Write) (result : Result X StoreRefused) → IsLawfulHistory s old.seen → IsLawful old.seen call
    → Calls old new (answer_of tell call) (after_call call) result → IsLawfulHistory s new.seen
write_lawful tell s old new call result l may c =
    lawful_write s old.seen c.base new.seen call l c.sees.grows (c.sees.lawful s l) may (call_wrote tell old new call result c)

-- ---- a store that tells everything

abbrev total : Told → Option Told
total t = Some t

same_told : (t new : Told) → total new ≡ total t → new ≡ t
same_told t new e = cc

goes_exact : {X : Type 0} (t new : Told) (fault : Fault) (base : List Seen) (answer : List Seen → Result X StoreRefused) (after : List Seen → List Seen) (result : Result X StoreRefused)
    → base ≡ t.writes → Goes (means t) (means new) fault base (after base) (answer base) result
    → (result ≡ answer_on t answer) × (new ≡ told_on t after)
goes_exact t new fault base answer after result all g =
    let told : new ≡ told_after t new.writes = same_told (told_after t new.writes) new g.meets.1 in (
      g.answered ∙ ap (λ f. answer_under Failed f (answer base)) g.meets.0 ∙ ap (λ h. answer_under Failed (fault_of t.faults.plan) (answer h)) all,
      told ∙ ap (told_after t) (g.seen ∙ ap (λ f. left_under f base (after base)) g.meets.0 ∙ ap (λ h. left_under (fault_of t.faults.plan) h (after h)) all),
    )

pub told_exact : {X : Type 0} (t new : Told) (answer : List Seen → Result X StoreRefused) (after : List Seen → List Seen) (result : Result X StoreRefused)
    → Calls (means t) (means new) answer after result → IsExact t new answer after result
told_exact t new answer after (Ok x) c = inr (goes_exact t new c.fault c.base answer after (Ok x) c.sees.all c.goes)
told_exact t new answer after (Err NoNode) c = inr (goes_exact t new c.fault c.base answer after (Err NoNode) c.sees.all c.goes)
told_exact t new answer after (Err (Exists found)) c = inr (goes_exact t new c.fault c.base answer after (Err (Exists found)) c.sees.all c.goes)
told_exact t new answer after (Err (VersionChanged expected found)) c =
    inr (goes_exact t new c.fault c.base answer after (Err (VersionChanged expected found)) c.sees.all c.goes)
told_exact t new answer after (Err Failed) c = inr (goes_exact t new c.fault c.base answer after (Err Failed) c.sees.all c.goes)
told_exact t new answer after (Err Memory) c = inl (refl, same_told t new c.goes.told)
