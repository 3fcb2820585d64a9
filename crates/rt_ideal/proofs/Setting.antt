-- What each step sets.
use Rattle.std.proofs.Common.{◌≡◌, ◌+◌, Bool, true, false, cond, ◌&&◌, ◌||◌, not, eqb, List, [], ◌∷◌, map, Option, Some, None, option_map, refl, sym, ◌∙◌, ap, subst, arith}
use Rattle.std.proofs.lemmas.Bool.{eqb-true, ne_eqb, and_parts, and_from, cond-true, cond-false, true≢false}
use Rattle.rt_base.specs.declared.numbers.Partition.{Partition}
use Rattle.rt_base.specs.declared.numbers.Sequence.{Sequence}
use Rattle.rt_base.specs.declared.numbers.Instance.{Instance}
use Rattle.rt_model.specs.declared.ideal_state.IdealEntry.{IdealEntry}
use Rattle.rt_model.specs.declared.ideal_state.Mode.{Mode}
use Rattle.rt_model.specs.declared.ideal_state.Mode.TheVariants.{Consuming, Online}
use Rattle.rt_model.specs.Ideal.{next_sequence, is_of, is_of_instance, has_entry, mode_of, is_before, with_entry, consuming, with_consuming, turned_online, commit_step_of, goes_on, add_consuming_of, offline_mode, turned_offline, set_offline_of, remove_segment_of}
use Rattle.rt_model.proofs.Entries.{is_of-same}
use Rattle.rt_ideal.specs.Setting.{consuming_on}

or_false : (a b : Bool) → (a || b) ≡ false → (a ≡ false) × (b ≡ false)
or_false true b e = absurd (true≢false e)
or_false false b e = (refl, e)

and_false : (a b : Bool) → b ≡ false → (a && b) ≡ false
and_false true b e = e
and_false false b e = refl

false_and : (a b : Bool) → a ≡ false → (a && b) ≡ false
false_and true b e = absurd (true≢false e)
false_and false b e = refl

-- ---- entries that are turned

-- the modes of an instance's entries are turned, where the entries stay its own
mode_mapped :
    (f : IdealEntry → IdealEntry) (g : Mode → Mode) (es : List IdealEntry) (p : Partition) (t : Sequence) (i : Instance)
    → ((e : IdealEntry) → is_of_instance p t i (f e) ≡ is_of_instance p t i e)
    → ((e : IdealEntry) → is_of_instance p t i e ≡ true → (f e).mode ≡ g e.mode)
    → mode_of (map f es) p t i ≡ option_map g (mode_of es p t i)
mode_mapped f g [] p t i keeps turns = refl
mode_mapped f g (e ∷ es) p t i keeps turns = by_name (is_of_instance p t i e) refl (mode_mapped f g es p t i keeps turns)
  where
    by_name :
        (b : Bool) → is_of_instance p t i e ≡ b → mode_of (map f es) p t i ≡ option_map g (mode_of es p t i)
        → mode_of (map f (e ∷ es)) p t i ≡ option_map g (mode_of (e ∷ es) p t i)
    by_name true is later =
        cond-true (is_of_instance p t i (f e)) (Some (f e).mode) (mode_of (map f es) p t i) (keeps e ∙ is)
        ∙ ap (λ m. Some m) (turns e is)
        ∙ ap (option_map g) (sym (cond-true (is_of_instance p t i e) (Some e.mode) (mode_of es p t i) is))
    by_name false is later =
        cond-false (is_of_instance p t i (f e)) (Some (f e).mode) (mode_of (map f es) p t i) (keeps e ∙ is)
        ∙ later
        ∙ ap (option_map g) (sym (cond-false (is_of_instance p t i e) (Some e.mode) (mode_of es p t i) is))

unturned : (o : Option Mode) → option_map (λ m. m) o ≡ o
unturned None = refl
unturned (Some m) = refl

online_of : (p : Partition) (s t : Sequence) (i : Instance) (e : IdealEntry) → is_of_instance p t i (turned_online p s e) ≡ is_of_instance p t i e
online_of p s t i e = by_test (is_of p s e)
  where
    by_test : (b : Bool) → is_of_instance p t i (cond b (record e { mode = Online }) e) ≡ is_of_instance p t i e
    by_test true = refl
    by_test false = refl

online_has : (p : Partition) (s t : Sequence) (es : List IdealEntry) → has_entry (map (turned_online p s) es) p t ≡ has_entry es p t
online_has p s t [] = refl
online_has p s t (e ∷ es) = by_test (is_of p s e) (online_has p s t es)
  where
    by_test :
        (b : Bool) → has_entry (map (turned_online p s) es) p t ≡ has_entry es p t
        → (is_of p t (cond b (record e { mode = Online }) e) || has_entry (map (turned_online p s) es) p t) ≡ (is_of p t e || has_entry es p t)
    by_test true later = ap (λ b. is_of p t e || b) later
    by_test false later = ap (λ b. is_of p t e || b) later

own_online : (p : Partition) (s : Sequence) (i : Instance) (es : List IdealEntry)
    → mode_of (map (turned_online p s) es) p s i ≡ option_map (λ m. Online) (mode_of es p s i)
own_online p s i es =
    mode_mapped (turned_online p s) (λ m. Online) es p s i (online_of p s s i)
    (λ e is. ap (λ b. (cond b (record e { mode = Online }) e).mode) (and_parts (is_of p s e) (eqb e.instance.0 i.0) is).0)

other_online : (p : Partition) (s : Sequence) (i : Instance) (es : List IdealEntry)
    → mode_of (map (turned_online p s) es) p (next_sequence s) i ≡ mode_of es p (next_sequence s) i
other_online p s i es =
    mode_mapped (turned_online p s) (λ m. m) es p (next_sequence s) i (online_of p s (next_sequence s) i) unchanged
    ∙ unturned (mode_of es p (next_sequence s) i)
  where
    unchanged : (e : IdealEntry) → is_of_instance p (next_sequence s) i e ≡ true → (turned_online p s e).mode ≡ e.mode
    unchanged e is =
        let named = (and_parts (is_of p (next_sequence s) e) (eqb e.instance.0 i.0) is).0 in
        let later = eqb-true e.sequence.0 (s.0 + 1) (and_parts (eqb e.partition.0 p.0) (eqb e.sequence.0 (s.0 + 1)) named).1 in
        let other : eqb e.sequence.0 s.0 ≡ false = ne_eqb e.sequence.0 s.0 (λ same. omega (arith, later, same)) in
        ap (λ b. (cond b (record e { mode = Online }) e).mode) (and_false (eqb e.partition.0 p.0) (eqb e.sequence.0 s.0) other)

-- ---- entries that are added

none_mode : (es : List IdealEntry) (p : Partition) (t : Sequence) (i : Instance) → has_entry es p t ≡ false → mode_of es p t i ≡ None
none_mode [] p t i h = refl
none_mode (e ∷ es) p t i h =
    let both = or_false (is_of p t e) (has_entry es p t) h in
    cond-false (is_of_instance p t i e) (Some e.mode) (mode_of es p t i) (false_and (is_of p t e) (eqb e.instance.0 i.0) both.0)
    ∙ none_mode es p t i both.1

mode_skips : (x : IdealEntry) (es : List IdealEntry) (p : Partition) (t : Sequence) (i : Instance) → is_of_instance p t i x ≡ false
    → mode_of (with_entry x es) p t i ≡ mode_of es p t i
mode_skips x [] p t i other = cond-false (is_of_instance p t i x) (Some x.mode) None other
mode_skips x (e ∷ es) p t i other = by_place (is_before x e) (mode_skips x es p t i other)
  where
    by_place :
        (b : Bool) → mode_of (with_entry x es) p t i ≡ mode_of es p t i
        → mode_of (cond b (x ∷ e ∷ es) (e ∷ with_entry x es)) p t i ≡ mode_of (e ∷ es) p t i
    by_place true later = cond-false (is_of_instance p t i x) (Some x.mode) (mode_of (e ∷ es) p t i) other
    by_place false later = ap (λ o. cond (is_of_instance p t i e) (Some e.mode) o) later

abbrev Consumes : Option Mode → Type 0
Consumes None = Unit {0}
Consumes (Some m) = m ≡ Consuming

mode_gains : (x : IdealEntry) (es : List IdealEntry) (p : Partition) (t : Sequence) (i : Instance)
    → is_of_instance p t i x ≡ true → x.mode ≡ Consuming → Consumes (mode_of es p t i)
    → mode_of (with_entry x es) p t i ≡ Some Consuming
mode_gains x [] p t i named is was = cond-true (is_of_instance p t i x) (Some x.mode) None named ∙ ap (λ m. Some m) is
mode_gains x (e ∷ es) p t i named is was = by_place (is_before x e) (by_name (is_of_instance p t i e) was (mode_gains x es p t i named is))
  where
    by_name :
        (b : Bool) → Consumes (cond b (Some e.mode) (mode_of es p t i))
        → (Consumes (mode_of es p t i) → mode_of (with_entry x es) p t i ≡ Some Consuming)
        → cond b (Some e.mode) (mode_of (with_entry x es) p t i) ≡ Some Consuming
    by_name true so later = ap (λ m. Some m) so
    by_name false so later = later so

    by_place :
        (b : Bool) → mode_of (e ∷ with_entry x es) p t i ≡ Some Consuming
        → mode_of (cond b (x ∷ e ∷ es) (e ∷ with_entry x es)) p t i ≡ Some Consuming
    by_place true later = cond-true (is_of_instance p t i x) (Some x.mode) (mode_of (e ∷ es) p t i) named ∙ ap (λ m. Some m) is
    by_place false later = later

consumes_on : (is : List Instance) (i : Instance) → Consumes (consuming_on is i)
consumes_on [] i = tt
consumes_on (j ∷ is) i = by_test (eqb j.0 i.0) (consumes_on is i)
  where
    by_test : (b : Bool) → Consumes (consuming_on is i) → Consumes (cond b (Some Consuming) (consuming_on is i))
    by_test true later = refl
    by_test false later = later

consuming_mode : (es : List IdealEntry) (p : Partition) (t : Sequence) (is : List Instance) (i : Instance) → has_entry es p t ≡ false
    → mode_of (with_consuming es p t is) p t i ≡ consuming_on is i
consuming_mode es p t [] i none = none_mode es p t i none
consuming_mode es p t (j ∷ is) i none = by_test (eqb j.0 i.0) refl (consuming_mode es p t is i none)
  where
    by_test :
        (b : Bool) → eqb j.0 i.0 ≡ b → mode_of (with_consuming es p t is) p t i ≡ consuming_on is i
        → mode_of (with_consuming es p t (j ∷ is)) p t i ≡ cond b (Some Consuming) (consuming_on is i)
    by_test true same before =
        mode_gains (consuming p t j) (with_consuming es p t is) p t i
        (and_from (is_of p t (consuming p t j)) (eqb j.0 i.0) (is_of-same p t (consuming p t j) refl refl) same)
        refl (subst Consumes (sym before) (consumes_on is i))
    by_test false other before =
        mode_skips (consuming p t j) (with_consuming es p t is) p t i (and_false (is_of p t (consuming p t j)) (eqb j.0 i.0) other)
        ∙ before

before_next : (es : List IdealEntry) (p : Partition) (s : Sequence) (is : List Instance) (i : Instance)
    → mode_of (with_consuming es p (next_sequence s) is) p s i ≡ mode_of es p s i
before_next es p s [] i = refl
before_next es p s (j ∷ is) i =
    let later : eqb (s.0 + 1) s.0 ≡ false = ne_eqb (s.0 + 1) s.0 (λ same. omega (arith, same)) in
    let x = consuming p (next_sequence s) j in
    mode_skips x (with_consuming es p (next_sequence s) is) p s i
    (false_and (is_of p s x) (eqb j.0 i.0) (and_false (eqb p.0 p.0) (eqb (s.0 + 1) s.0) later))
    ∙ before_next es p s is i

-- ---- the steps

pub commit_serves : (es : List IdealEntry) (p : Partition) (s : Sequence) (next : List Instance) (i : Instance)
    → mode_of (commit_step_of es p s next) p s i ≡ option_map (λ m. Online) (mode_of es p s i)
commit_serves es p s next i = by_tests (has_entry es p s) (has_entry es p (next_sequence s)) refl
  where
    by_tests :
        (b c : Bool) → has_entry es p s ≡ b
        → mode_of (cond b (cond c (map (turned_online p s) es) (with_consuming (map (turned_online p s) es) p (next_sequence s) next)) es) p s i
        ≡ option_map (λ m. Online) (mode_of es p s i)
    by_tests true true has = own_online p s i es
    by_tests true false has = before_next (map (turned_online p s) es) p s next i ∙ own_online p s i es
    by_tests false c has =
        none_mode es p s i has ∙ sym (ap (option_map (λ m. Online)) (none_mode es p s i has))

pub commit_consumes : (es : List IdealEntry) (p : Partition) (s : Sequence) (next : List Instance) (i : Instance)
    → has_entry es p s ≡ true → has_entry es p (next_sequence s) ≡ false
    → mode_of (commit_step_of es p s next) p (next_sequence s) i ≡ consuming_on next i
commit_consumes es p s next i has none =
    ap (λ (b : Bool). mode_of (cond b (cond (has_entry es p (next_sequence s)) (map (turned_online p s) es) (with_consuming (map (turned_online p s) es) p (next_sequence s) next)) es) p (next_sequence s) i) has
    ∙ ap (λ (c : Bool). mode_of (cond c (map (turned_online p s) es) (with_consuming (map (turned_online p s) es) p (next_sequence s) next)) p (next_sequence s) i) none
    ∙ consuming_mode (map (turned_online p s) es) p (next_sequence s) next i (online_has p s (next_sequence s) es ∙ none)

pub commit_leaves : (es : List IdealEntry) (p : Partition) (s : Sequence) (next : List Instance) (i : Instance)
    → has_entry es p (next_sequence s) ≡ true
    → mode_of (commit_step_of es p s next) p (next_sequence s) i ≡ mode_of es p (next_sequence s) i
commit_leaves es p s next i has = by_tests (has_entry es p s) (has_entry es p (next_sequence s)) has
  where
    by_tests :
        (b c : Bool) → c ≡ true
        → mode_of (cond b (cond c (map (turned_online p s) es) (with_consuming (map (turned_online p s) es) p (next_sequence s) next)) es) p (next_sequence s) i
        ≡ mode_of es p (next_sequence s) i
    by_tests true true h = other_online p s i es
    by_tests true false h = absurd (true≢false (sym h))
    by_tests false c h = refl

pub commit_nothing : (es : List IdealEntry) (p : Partition) (s : Sequence) (next : List Instance)
    → has_entry es p s ≡ false → commit_step_of es p s next ≡ es
commit_nothing es p s next none =
    ap (λ (b : Bool). cond b (cond (has_entry es p (next_sequence s)) (map (turned_online p s) es) (with_consuming (map (turned_online p s) es) p (next_sequence s) next)) es) none

pub add_consumes : (es : List IdealEntry) (p : Partition) (s : Sequence) (is : List Instance) (i : Instance)
    → has_entry es p s ≡ false → goes_on es p s.0 ≡ true
    → mode_of (add_consuming_of es p s is) p s i ≡ consuming_on is i
add_consumes es p s is i none on =
    ap (λ (b : Bool). mode_of (cond b es (cond (goes_on es p s.0) (with_consuming es p s is) es)) p s i) none
    ∙ ap (λ (c : Bool). mode_of (cond c (with_consuming es p s is) es) p s i) on
    ∙ consuming_mode es p s is i none

pub add_has : (es : List IdealEntry) (p : Partition) (s : Sequence) (is : List Instance)
    → has_entry es p s ≡ true → add_consuming_of es p s is ≡ es
add_has es p s is has = ap (λ (b : Bool). cond b es (cond (goes_on es p s.0) (with_consuming es p s is) es)) has

pub add_off : (es : List IdealEntry) (p : Partition) (s : Sequence) (is : List Instance)
    → goes_on es p s.0 ≡ false → add_consuming_of es p s is ≡ es
add_off es p s is off =
    ap (λ (c : Bool). cond (has_entry es p s) es (cond c (with_consuming es p s is) es)) off ∙ by_test (has_entry es p s)
  where
    by_test : (b : Bool) → cond b es es ≡ es
    by_test true = refl
    by_test false = refl

pub offline_turns : (es : List IdealEntry) (p : Partition) (s : Sequence) (i : Instance)
    → mode_of (set_offline_of es p s i) p s i ≡ option_map offline_mode (mode_of es p s i)
offline_turns es p s i =
    mode_mapped (turned_offline p s i) offline_mode es p s i (λ e. by_test e (is_of_instance p s i e))
    (λ e is. ap (λ b. (cond b (record e { mode = offline_mode e.mode }) e).mode) is)
  where
    by_test : (e : IdealEntry) (b : Bool) → is_of_instance p s i (cond b (record e { mode = offline_mode e.mode }) e) ≡ is_of_instance p s i e
    by_test e true = refl
    by_test e false = refl

pub remove_takes : (es : List IdealEntry) (p : Partition) (s : Sequence) → has_entry (remove_segment_of es p s) p s ≡ false
remove_takes [] p s = refl
remove_takes (e ∷ es) p s = by_name (is_of p s e) refl (remove_takes es p s)
  where
    by_name :
        (b : Bool) → is_of p s e ≡ b → has_entry (remove_segment_of es p s) p s ≡ false
        → has_entry (cond (not b) (e ∷ remove_segment_of es p s) (remove_segment_of es p s)) p s ≡ false
    by_name true is later = later
    by_name false is later = ap (λ b. b || has_entry (remove_segment_of es p s) p s) is ∙ later
