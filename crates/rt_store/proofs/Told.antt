-- What calls leave and answer over a store that tells everything.
use Rattle.std.proofs.Common.{◌≡◌, ℕ, ◌<◌, inl, inr, List, [], ◌∷◌, ◌++◌, Option, Some, None, Result, Ok, Err, Bool, true, false, cond, eqb, refl, sym, ap, subst, ◌∙◌}
use Rattle.rt_base.specs.declared.fault.Fault.{Fault}
use Rattle.rt_base.specs.declared.fault.Fault.TheVariants as fault
use Rattle.rt_base.specs.declared.numbers.Partition.{Partition}
use Rattle.rt_base.specs.Faults.{fault_of, answer_under, left_under}
use Rattle.rt_base.proofs.Planned.{left_cases, without_fault, fault_rose}
use Rattle.rt_lists.specs.Members.{Has, IsFront}
use Rattle.rt_lists.proofs.Members.{front_same, Has-same}
use Rattle.rt_model.specs.declared.node.Key.{Key}
use Rattle.rt_model.specs.declared.node.Seen.{Seen}
use Rattle.rt_model.specs.declared.node.Listed.{Listed}
use Rattle.rt_model.specs.History.{value_of}
use Rattle.rt_model.specs.Metadata.{metadata_of}
use Rattle.rt_model.specs.Starting.{Starting}
use Rattle.rt_model.specs.Lawful.{Write, create, set, delete, create_after, bump, IsLawful, TakesEffect, written_by, IsLawfulHistory}
use Rattle.rt_store.specs.declared.refused.StoreRefused.{StoreRefused}
use Rattle.rt_store.specs.declared.refused.StoreRefused.TheVariants.{NoNode, Exists, VersionChanged, Failed, Memory}
use Rattle.rt_store.specs.Meaning.{Told, Meaning}
use Rattle.rt_store.specs.Memory.{means}
use Rattle.rt_model.specs.Metadata.{listed_write}
use Rattle.rt_store.specs.Answers.{found_in, reading, listing, change_in, presence_in, first_of, refusal_of, answer_by, after_by, answer_of, after_call, Leaves}
use Rattle.rt_store.specs.Calls.{Goes, Calls, Reads, Lists, answer_on, told_on}
use Rattle.rt_store.specs.Outcome.{Wrote}
use Rattle.rt_store.proofs.Listing.{value_has}
use Rattle.rt_model.proofs.Listings.{listed_has}
use Rattle.rt_store.proofs.Seeing.{wrote_by, wrote_grows, lawful_write, found_value, same_ok, effect_of}

-- ---- what is left

pub leaves_on : (t : Told) (call : Write) → Leaves call t.writes (told_on t (after_call call)).writes
leaves_on t call =
    wrote_by call t.writes (told_on t (after_call call)).writes
    (left_cases (fault_of t.faults.plan) t.writes (after_call call t.writes) (told_on t (after_call call)).writes refl)

-- what holds of both outcomes of a write call holds after it
pub called : (t : Told) (call : Write) (P : List Seen → Type 0) → P t.writes
    → (refusal_of t.writes call ≡ None → P (t.writes ++ written_by t.writes call ∷ []))
    → P (told_on t (after_call call)).writes
called t call P before after = by_cases (leaves_on t call)
  where
    by_cases : Leaves call t.writes (told_on t (after_call call)).writes → P (told_on t (after_call call)).writes
    by_cases (inl e) = subst P (sym e) before
    by_cases (inr w) = subst P (sym w.1) (after w.0)

pub grows_on : (t : Told) (call : Write) → IsFront t.writes (told_on t (after_call call)).writes
grows_on t call = wrote_grows call t.writes t.writes (told_on t (after_call call)).writes (front_same t.writes) (leaves_on t call)

pub lawful_called : (s : Starting) (t : Told) (call : Write) → IsLawfulHistory s t.writes → IsLawful t.writes call
    → IsLawfulHistory s (told_on t (after_call call)).writes
lawful_called s t call l may =
    lawful_write s t.writes t.writes (told_on t (after_call call)).writes call l (front_same t.writes) l may (leaves_on t call)

kept : {X : Type 0} (f : Fault) (x : X) → left_under f x x ≡ x
kept fault.Nothing x = refl
kept fault.Lost x = refl
kept fault.Kept x = refl

-- a read and a list write nothing
pub read_same : (t : Told) → (told_on t (λ base. base)).writes ≡ t.writes
read_same t = kept (fault_of t.faults.plan) t.writes

-- ---- what is answered

answered_ok : {X Y : Type 0} (fault : Fault) (answer : Result X StoreRefused) (x : X) (base after : Y)
    → answer_under Failed fault answer ≡ Ok x → (Ok x ≡ answer) × (left_under fault base after ≡ after)
answered_ok fault answer x base after e = without_fault Failed fault answer (Ok x) base after (left_under fault base after) (λ f. cc) (sym e) refl

abbrev done : {X : Type 0} → X → Result X StoreRefused
done x = Ok x

by_refusal : {X : Type 0} (o : Option StoreRefused) (x y : X) → done x ≡ answer_by o y → (o ≡ None) × (x ≡ y)
by_refusal None x y e = (refl, cc)
by_refusal (Some refused) x y e = absurd (cc)

pub answered_wrote : {X : Type 0} (t : Told) (call : Write) (tell : Seen → X) (x : X)
    → answer_on t (answer_of tell call) ≡ Ok x → Wrote t call tell x
answered_wrote t call tell x e =
    let ok = answered_ok (fault_of t.faults.plan) (answer_of tell call t.writes) x t.writes (after_call call t.writes) e in
    let is = by_refusal (refusal_of t.writes call) x (tell (written_by t.writes call)) ok.0 in
    record {
      effect = effect_of t.writes call is.0;
      writes = ok.1 ∙ ap (λ o. after_by o t.writes (written_by t.writes call)) is.0;
      told = is.1;
    }

-- what was read is in the history, as the value of its key
pub read_on : (t : Told) (k : Key) (w : Seen) → answer_on t (reading k) ≡ Ok w
    → Has t.writes w × (w.key ≡ k) × (value_of t.writes k ≡ Some w)
read_on t k w e =
    let ok = answered_ok (fault_of t.faults.plan) (reading k t.writes) w t.writes t.writes e in
    let is = found_value (value_of t.writes k) w ok.0 in
    let has = value_has t.writes k w is in
    (has.0, has.1, is)

pub list_on : (t : Told) (p : Partition) (ls : List Listed) → answer_on t (listing p) ≡ Ok ls → ls ≡ metadata_of t.writes p
list_on t p ls e =
    let ok = answered_ok (fault_of t.faults.plan) (listing p t.writes) ls t.writes t.writes e in
    same_ok ls (metadata_of t.writes p) ok.0

-- and so is what was listed
pub listed_on : (t : Told) (p : Partition) (ls : List Listed) (l : Listed) → answer_on t (listing p) ≡ Ok ls → Has ls l
    → Has t.writes (listed_write p l)
listed_on t p ls l e has =
    listed_has t.writes p l (Has-same ls (metadata_of t.writes p) l (list_on t p ls e) has)

-- a write call that was answered took effect, and its write is the last that its caller has seen
pub answered_took : {X : Type 0} (tell : Seen → X) (old new : Meaning) (call : Write) (x : X)
    (c : Calls old new (answer_of tell call) (after_call call) (Ok x))
    → TakesEffect c.base call × (new.seen ≡ c.base ++ written_by c.base call ∷ []) × (x ≡ tell (written_by c.base call))
answered_took tell old new call x c =
    let told = without_fault Failed c.fault (answer_of tell call c.base) (Ok x) c.base (after_call call c.base) new.seen
    (λ f. cc) c.goes.answered c.goes.seen in
    let is = by_refusal (refusal_of c.base call) x (tell (written_by c.base call)) told.0 in
    (effect_of c.base call is.0, told.1 ∙ ap (λ o. after_by o c.base (written_by c.base call)) is.0, is.1)

-- ---- faults and refusals

no_fault_of_change : (expected : ℕ) (o : Option Seen) → change_in expected o ≡ Some Failed → ⊥
no_fault_of_change expected None e = cc
no_fault_of_change expected (Some w) e = by_test (eqb w.version expected) e
  where
    by_test : (b : Bool) → cond b None (Some (VersionChanged expected w.version)) ≡ Some Failed → ⊥
    by_test true f = cc
    by_test false f = cc

no_fault_of_presence : (o : Option Seen) → presence_in o ≡ Some Failed → ⊥
no_fault_of_presence None e = cc
no_fault_of_presence (Some w) e = cc

no_fault_of_two : (a b : Option StoreRefused) → (a ≡ Some Failed → ⊥) → (b ≡ Some Failed → ⊥) → first_of a b ≡ Some Failed → ⊥
no_fault_of_two None b f g e = g e
no_fault_of_two (Some refused) b f g e = f e

-- no call is refused by a fault that it didn't meet
no_fault : (h : List Seen) (call : Write) → refusal_of h call ≡ Some Failed → ⊥
no_fault h (create k n) e = no_fault_of_presence (value_of h k) e
no_fault h (set from n) e = no_fault_of_change from.version (value_of h from.key) e
no_fault h (delete from) e = no_fault_of_change from.version (value_of h from.key) e
no_fault h (create_after k n prior) e =
    no_fault_of_two (change_in prior.version (value_of h prior.key)) (presence_in (value_of h k))
    (no_fault_of_change prior.version (value_of h prior.key)) (no_fault_of_presence (value_of h k)) e
no_fault h (bump i) e = cc

abbrev failed : {X : Type 0} → Result X StoreRefused
failed = Err Failed

no_fault_by : {X : Type 0} (o : Option StoreRefused) (x : X) → (o ≡ Some Failed → ⊥) → answer_by o x ≡ failed → ⊥
no_fault_by None x f e = cc
no_fault_by (Some refused) x f e = f (cc)

no_fault_found : (o : Option Seen) → found_in o ≡ failed → ⊥
no_fault_found None e = cc
no_fault_found (Some w) e = cc

rose : {X : Type 0} (old new : Meaning) (answer : List Seen → Result X StoreRefused) (after : List Seen → List Seen)
    → ((base : List Seen) → answer base ≡ failed → ⊥) → Calls old new answer after failed → old.faults < new.faults
rose old new answer after never c =
    fault_rose Failed old.faults new.faults c.fault (answer c.base) failed (never c.base) c.goes.answered c.goes.counts refl

pub read_rose : (old new : Meaning) (k : Key) → Reads old new k failed → old.faults < new.faults
read_rose old new k c = rose old new (reading k) (λ base. base) (λ base. no_fault_found (value_of base k)) c

pub list_rose : (old new : Meaning) (p : Partition) → Lists old new p failed → old.faults < new.faults
list_rose old new p c = rose old new (listing p) (λ base. base) (λ base e. cc) c

pub write_rose : {X : Type 0} (tell : Seen → X) (old new : Meaning) (call : Write) → Calls old new (answer_of tell call) (after_call call) failed
    → old.faults < new.faults
write_rose tell old new call c =
    rose old new (answer_of tell call) (after_call call)
    (λ base. no_fault_by (refusal_of base call) (tell (written_by base call)) (no_fault base call)) c

abbrev refused_as : {X : Type 0} → StoreRefused → Result X StoreRefused
refused_as e = Err e

nothing_by : {X : Type 0} (o : Option StoreRefused) (x : X) (e : StoreRefused) (h : List Seen) (w : Seen)
    → refused_as e ≡ answer_by o x → after_by o h w ≡ h
nothing_by None x e h w is = absurd (cc)
nothing_by (Some refused) x e h w is = refl

goes_nothing : {X : Type 0} (tell : Seen → X) (old new : Meaning) (call : Write) (e : StoreRefused) (fault : Fault) (base : List Seen)
    → (e ≡ Failed → ⊥) → Goes old new fault base (after_call call base) (answer_of tell call base) (refused_as e) → new.seen ≡ base
goes_nothing tell old new call e fault base other g =
    let told = without_fault Failed fault (answer_of tell call base) (refused_as e) base (after_call call base) new.seen
    (λ is. other (cc)) g.answered g.seen in
    told.1 ∙ nothing_by (refusal_of base call) (tell (written_by base call)) e base (written_by base call) told.0

-- a write call that is refused, and not by a fault, leaves what it found
pub refused_nothing : {X : Type 0} (tell : Seen → X) (old new : Meaning) (call : Write) (e : StoreRefused)
    (c : Calls old new (answer_of tell call) (after_call call) (refused_as e)) → (e ≡ Failed → ⊥) → new.seen ≡ c.base
refused_nothing tell old new call Memory c other = c.goes.seen
refused_nothing tell old new call Failed c other = absurd (other refl)
refused_nothing tell old new call NoNode c other = goes_nothing tell old new call NoNode c.fault c.base other c.goes
refused_nothing tell old new call (Exists found) c other = goes_nothing tell old new call (Exists found) c.fault c.base other c.goes
refused_nothing tell old new call (VersionChanged expected found) c other =
    goes_nothing tell old new call (VersionChanged expected found) c.fault c.base other c.goes

-- and so the writes of a store that tells everything
pub refused_nothing_told : {X : Type 0} (tell : Seen → X) (t new : Told) (call : Write) (e : StoreRefused)
    → Calls (means t) (means new) (answer_of tell call) (after_call call) (refused_as e) → (e ≡ Failed → ⊥) → new.writes ≡ t.writes
refused_nothing_told tell t new call e c other = refused_nothing tell (means t) (means new) call e c other ∙ c.sees.all
