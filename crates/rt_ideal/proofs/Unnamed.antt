-- Each step leaves alone the entries that it doesn't name.
use Rattle.std.proofs.Common.{◌≡◌, Bool, true, false, cond, ◌||◌, not, List, [], ◌∷◌, map, refl, sym, ◌∙◌, ap}
use Rattle.std.proofs.lemmas.Bool.{or_right, cond-false}
use Rattle.rt_base.specs.declared.numbers.Partition.{Partition}
use Rattle.rt_base.specs.declared.numbers.Sequence.{Sequence}
use Rattle.rt_base.specs.declared.numbers.Instance.{Instance}
use Rattle.rt_model.specs.declared.ideal_state.IdealEntry.{IdealEntry}
use Rattle.rt_model.specs.declared.ideal_state.Mode.TheVariants.{Online}
use Rattle.rt_model.specs.Ideal.{next_sequence, is_of, is_of_instance, has_entry, is_before, with_entry, consuming, with_consuming, turned_online, commit_step_of, goes_on, add_consuming_of, offline_mode, turned_offline, set_offline_of, remove_segment_of}
use Rattle.rt_model.proofs.Entries.{is_of-same}
use Rattle.rt_ideal.specs.Others.{others, is_of_two}

-- ---- entries that are added

drop_named : (named : IdealEntry → Bool) (e : IdealEntry) (xs : List IdealEntry) → named e ≡ true → cond (not (named e)) (e ∷ xs) xs ≡ xs
drop_named named e xs is = ap (λ b. cond (not b) (e ∷ xs) xs) is

others_entry : (named : IdealEntry → Bool) (x : IdealEntry) (es : List IdealEntry) → named x ≡ true → others named (with_entry x es) ≡ others named es
others_entry named x [] is = drop_named named x [] is
others_entry named x (e ∷ es) is = by_place (is_before x e) (others_entry named x es is)
  where
    by_place : (b : Bool) → others named (with_entry x es) ≡ others named es → others named (cond b (x ∷ e ∷ es) (e ∷ with_entry x es)) ≡ others named (e ∷ es)
    by_place true later = drop_named named x (others named (e ∷ es)) is
    by_place false later = ap (λ xs. cond (not (named e)) (e ∷ xs) xs) later

others_consuming :
    (named : IdealEntry → Bool) (es : List IdealEntry) (p : Partition) (s : Sequence) (is : List Instance)
    → ((i : Instance) → named (consuming p s i) ≡ true) → others named (with_consuming es p s is) ≡ others named es
others_consuming named es p s [] all = refl
others_consuming named es p s (i ∷ is) all =
    others_entry named (consuming p s i) (with_consuming es p s is) (all i) ∙ others_consuming named es p s is all

-- ---- entries that are turned

others_map :
    (named : IdealEntry → Bool) (f : IdealEntry → IdealEntry) (es : List IdealEntry)
    → ((e : IdealEntry) → named (f e) ≡ named e) → ((e : IdealEntry) → named e ≡ false → f e ≡ e)
    → others named (map f es) ≡ others named es
others_map named f [] keeps same = refl
others_map named f (e ∷ es) keeps same = by_name (named e) refl (others_map named f es keeps same)
  where
    by_name : (b : Bool) → named e ≡ b → others named (map f es) ≡ others named es → others named (map f (e ∷ es)) ≡ others named (e ∷ es)
    by_name true is later =
        drop_named named (f e) (others named (map f es)) (keeps e ∙ is) ∙ later ∙ sym (drop_named named e (others named es) is)
    by_name false is later =
        ap (λ x. cond (not (named x)) (x ∷ others named (map f es)) (others named (map f es))) (same e is)
        ∙ ap (λ xs. cond (not (named e)) (e ∷ xs) xs) later

or_false : (a b : Bool) → (a || b) ≡ false → a ≡ false
or_false false b e = refl
or_false true b e = e

online_named : (p : Partition) (s : Sequence) (e : IdealEntry) → is_of_two p s (turned_online p s e) ≡ is_of_two p s e
online_named p s e = by_test (is_of p s e)
  where
    by_test : (b : Bool) → is_of_two p s (cond b (record e { mode = Online }) e) ≡ is_of_two p s e
    by_test true = refl
    by_test false = refl

online_same : (p : Partition) (s : Sequence) (e : IdealEntry) → is_of_two p s e ≡ false → turned_online p s e ≡ e
online_same p s e other =
    cond-false (is_of p s e) (record e { mode = Online }) e (or_false (is_of p s e) (is_of p (next_sequence s) e) other)

offline_named : (p : Partition) (s : Sequence) (i : Instance) (e : IdealEntry) → is_of_instance p s i (turned_offline p s i e) ≡ is_of_instance p s i e
offline_named p s i e = by_test (is_of_instance p s i e)
  where
    by_test : (b : Bool) → is_of_instance p s i (cond b (record e { mode = offline_mode e.mode }) e) ≡ is_of_instance p s i e
    by_test true = refl
    by_test false = refl

offline_same : (p : Partition) (s : Sequence) (i : Instance) (e : IdealEntry) → is_of_instance p s i e ≡ false → turned_offline p s i e ≡ e
offline_same p s i e other = cond-false (is_of_instance p s i e) (record e { mode = offline_mode e.mode }) e other

-- ---- the steps

pub commit_others :
    (es : List IdealEntry) (p : Partition) (s : Sequence) (next : List Instance)
    → others (is_of_two p s) (commit_step_of es p s next) ≡ others (is_of_two p s) es
commit_others es p s next = by_tests (has_entry es p s) (has_entry es p (next_sequence s))
  where
    turned : others (is_of_two p s) (map (turned_online p s) es) ≡ others (is_of_two p s) es
    turned = others_map (is_of_two p s) (turned_online p s) es (online_named p s) (online_same p s)

    added : (i : Instance) → is_of_two p s (consuming p (next_sequence s) i) ≡ true
    added i =
        or_right (is_of p s (consuming p (next_sequence s) i)) (is_of p (next_sequence s) (consuming p (next_sequence s) i))
        (is_of-same p (next_sequence s) (consuming p (next_sequence s) i) refl refl)

    by_tests :
        (b c : Bool)
        → others (is_of_two p s) (cond b (cond c (map (turned_online p s) es) (with_consuming (map (turned_online p s) es) p (next_sequence s) next)) es)
        ≡ others (is_of_two p s) es
    by_tests false c = refl
    by_tests true true = turned
    by_tests true false =
        others_consuming (is_of_two p s) (map (turned_online p s) es) p (next_sequence s) next added ∙ turned

pub add_others :
    (es : List IdealEntry) (p : Partition) (s : Sequence) (is : List Instance)
    → others (is_of p s) (add_consuming_of es p s is) ≡ others (is_of p s) es
add_others es p s is = by_tests (has_entry es p s) (goes_on es p s.0)
  where
    by_tests : (b c : Bool) → others (is_of p s) (cond b es (cond c (with_consuming es p s is) es)) ≡ others (is_of p s) es
    by_tests true c = refl
    by_tests false true = others_consuming (is_of p s) es p s is (λ i. is_of-same p s (consuming p s i) refl refl)
    by_tests false false = refl

pub offline_others :
    (es : List IdealEntry) (p : Partition) (s : Sequence) (i : Instance)
    → others (is_of_instance p s i) (set_offline_of es p s i) ≡ others (is_of_instance p s i) es
offline_others es p s i = others_map (is_of_instance p s i) (turned_offline p s i) es (offline_named p s i) (offline_same p s i)

pub remove_others :
    (es : List IdealEntry) (p : Partition) (s : Sequence)
    → others (is_of p s) (remove_segment_of es p s) ≡ others (is_of p s) es
remove_others [] p s = refl
remove_others (e ∷ es) p s = by_name (is_of p s e) refl (remove_others es p s)
  where
    by_name :
        (b : Bool) → is_of p s e ≡ b → others (is_of p s) (remove_segment_of es p s) ≡ others (is_of p s) es
        → others (is_of p s) (cond (not b) (e ∷ remove_segment_of es p s) (remove_segment_of es p s))
        ≡ cond (not b) (e ∷ others (is_of p s) es) (others (is_of p s) es)
    by_name true is later = later
    by_name false is later =
        ap (λ c. cond (not c) (e ∷ others (is_of p s) (remove_segment_of es p s)) (others (is_of p s) (remove_segment_of es p s))) is
        ∙ ap (λ xs. e ∷ xs) later
