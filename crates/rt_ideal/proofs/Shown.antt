-- The text of a state has each entry once.
use Rattle.std.proofs.Common.{◌≡◌, ℕ, ◌<◌, ◌^◌, inl, inr, Bool, true, false, cond, eqb, ltb, List, [], ◌∷◌, ◌++◌, Some, None, Ordering, Less, Equal, Greater, nat_cmp, refl, sym, ◌∙◌, ap, subst, arith}
use Rattle.std.specs.Cmp.Lexicographic.{slice_cmp}
use Rattle.std.specs.Fmt.{decimal}
use Rattle.std.specs.Ordering.{match_ordering, ordering_reverse}
use Rattle.std.specs.Str.{bytes_eq}
use Rattle.std.specs.Str.Parse.{AllDigits}
use Rattle.std.proofs.lemmas.Bool.{eq-eqb, ltb-true, both_ways}
use Rattle.std.proofs.lemmas.Cmp.{nat_list_cmp_total}
use Rattle.std.proofs.lemmas.Fmt.{decimal_is_IsNumeral, decimal_injective}
use Rattle.std.proofs.lemmas.Slice.Eq.{bytes_eq-Decides}
use Rattle.std.proofs.lemmas.Str.Parse.{digit_from_value}
use Rattle.serde_json.specs.Data.{Data, object, string, Members, no_members, member, put}
use Rattle.serde_json.specs.Find.{get_member}
use Rattle.serde_json.proofs.Views.{get_member-put, get_member-put_other}
use Rattle.rt_base.specs.declared.numbers.Partition.{Partition}
use Rattle.rt_base.specs.declared.numbers.Sequence.{Sequence}
use Rattle.rt_base.specs.declared.numbers.Instance.{Instance}
use Rattle.rt_lists.specs.Members.{Has}
use Rattle.rt_model.specs.declared.ideal_state.IdealEntry.{IdealEntry}
use Rattle.rt_model.specs.Ideal.{is_before}
use Rattle.rt_model.specs.Order.{IsBeforeAll, IsAscending}
use Rattle.rt_ideal.specs.Shown.{shown_at, AreWords, IsBelow, IsInOrder, AreInOrder}
use Rattle.rt_ideal.specs.Text.{segment_text, instance_text, mode_text, members_in, with_entry_text, with_entries_text}

-- ---- keys that differ

abbrev NoSlash : List ℕ → Type 0
NoSlash [] = Unit {0}
NoSlash (b ∷ bs) = (b ≡ 47 → ⊥) × NoSlash bs

digits_without : (ds : List ℕ) → AllDigits 10 ds → NoSlash ds
digits_without [] d = tt
digits_without (c ∷ cs) d = (λ e. omega (arith, e, digit_from_value c d.0), digits_without cs d.1)

decimal_without : (n : ℕ) → n < 2 ^ 32 → NoSlash (decimal n)
decimal_without n small =
    let wide : n < 2 ^ 64 = omega (arith, small) in
    digits_without (decimal n) (decimal_is_IsNumeral n wide).0.1

heads : (x y : ℕ) (xs ys : List ℕ) → x ∷ xs ≡ y ∷ ys → x ≡ y
heads x y xs ys e = cc

tails : (x y : ℕ) (xs ys : List ℕ) → x ∷ xs ≡ y ∷ ys → xs ≡ ys
tails x y xs ys e = cc

conses : (x y : ℕ) (xs ys : List ℕ) → x ≡ y → xs ≡ ys → x ∷ xs ≡ y ∷ ys
conses x y xs ys e f = cc

first_slash : (ds es xs ys : List ℕ) → NoSlash ds → NoSlash es → ds ++ 47 ∷ xs ≡ es ++ 47 ∷ ys → (ds ≡ es) × (xs ≡ ys)
first_slash [] [] xs ys d e same = (refl, tails 47 47 xs ys same)
first_slash [] (y ∷ es) xs ys d e same = absurd (e.0 (sym (heads 47 y xs (es ++ 47 ∷ ys) same)))
first_slash (x ∷ ds) [] xs ys d e same = absurd (d.0 (heads x 47 (ds ++ 47 ∷ xs) ys same))
first_slash (x ∷ ds) (y ∷ es) xs ys d e same =
    let r = first_slash ds es xs ys d.1 e.1 (tails x y (ds ++ 47 ∷ xs) (es ++ 47 ∷ ys) same) in
    (conses x y ds es (heads x y (ds ++ 47 ∷ xs) (es ++ 47 ∷ ys) same) r.0, r.1)

one_number : (m n : ℕ) → m < 2 ^ 32 → n < 2 ^ 32 → decimal m ≡ decimal n → m ≡ n
one_number m n a b e =
    let c : m < 2 ^ 64 = omega (arith, a) in
    let d : n < 2 ^ 64 = omega (arith, b) in
    decimal_injective m n c d e

one_segment : (p q : Partition) (s t : Sequence) → p.0 < 2 ^ 32 → q.0 < 2 ^ 32 → s.0 < 2 ^ 32 → t.0 < 2 ^ 32
    → segment_text p s ≡ segment_text q t → (p.0 ≡ q.0) × (s.0 ≡ t.0)
one_segment p q s t a b c d e =
    let parts = first_slash (decimal p.0) (decimal q.0) (decimal s.0) (decimal t.0) (decimal_without p.0 a) (decimal_without q.0 b) e in
    (one_number p.0 q.0 a b parts.0, one_number s.0 t.0 c d parts.1)

one_instance : (i j : Instance) → i.0 < 2 ^ 32 → j.0 < 2 ^ 32 → instance_text i ≡ instance_text j → i.0 ≡ j.0
one_instance i j a b e = one_number i.0 j.0 a b (tails 115 115 (decimal i.0) (decimal j.0) e)

-- ---- entries that differ

not_before : (a b : IdealEntry) → is_before a b ≡ true → a.partition.0 ≡ b.partition.0 → a.sequence.0 ≡ b.sequence.0
    → a.instance.0 ≡ b.instance.0 → ⊥
not_before a b h p s i =
    let reached : is_before a b ≡ ltb a.instance.0 b.instance.0 =
    ap (λ c. cond c (cond (eqb a.sequence.0 b.sequence.0) (ltb a.instance.0 b.instance.0) (ltb a.sequence.0 b.sequence.0)) (ltb a.partition.0 b.partition.0)) (eq-eqb a.partition.0 b.partition.0 p)
    ∙ ap (λ c. cond c (ltb a.instance.0 b.instance.0) (ltb a.sequence.0 b.sequence.0)) (eq-eqb a.sequence.0 b.sequence.0 s) in
    let below : a.instance.0 < b.instance.0 = ltb-true a.instance.0 b.instance.0 (sym reached ∙ h) in
    omega (arith, below, i)

-- none of these entries stands under both keys
abbrev AreElsewhere : List ℕ → List ℕ → List IdealEntry → Type 0
AreElsewhere k l [] = Unit {0}
AreElsewhere k l (e ∷ es) =
    (k ≡ segment_text e.partition e.sequence → l ≡ instance_text e.instance → ⊥) × AreElsewhere k l es

elsewhere : (a : IdealEntry) (es : List IdealEntry) → IsBeforeAll a es → AreWords (a ∷ es)
    → AreElsewhere (segment_text a.partition a.sequence) (instance_text a.instance) es
elsewhere a [] before words = tt
elsewhere a (e ∷ es) before words =
    let own = words.3 in (
      λ same_k same_l.
          let at = one_segment a.partition e.partition a.sequence e.sequence words.0 own.0 words.1 own.1 same_k in
          not_before a e before.0 at.0 at.1 (one_instance a.instance e.instance words.2 own.2 same_l),
      elsewhere a es before.1 (words.0, words.1, words.2, own.3),
    )

-- ---- what is put

shown_here : (ms : Members) (e : IdealEntry)
    → shown_at (segment_text e.partition e.sequence) (instance_text e.instance) (with_entry_text ms e) ≡ Some (string (mode_text e.mode))
shown_here ms e =
    let k = segment_text e.partition e.sequence in
    let l = instance_text e.instance in
    let inner = put l (string (mode_text e.mode)) (members_in (get_member k ms)) in
    ap (λ o. get_member l (members_in o)) (get_member-put k (object inner) ms)
    ∙ get_member-put l (string (mode_text e.mode)) (members_in (get_member k ms))

shown_other : (k l : List ℕ) (ms : Members) (e : IdealEntry)
    → (k ≡ segment_text e.partition e.sequence → l ≡ instance_text e.instance → ⊥)
    → shown_at k l (with_entry_text ms e) ≡ shown_at k l ms
shown_other k l ms e other = by_test (bytes_eq k (segment_text e.partition e.sequence)) refl
  where
    by_test : (b : Bool) → bytes_eq k (segment_text e.partition e.sequence) ≡ b → shown_at k l (with_entry_text ms e) ≡ shown_at k l ms
    by_test true is =
        let at = segment_text e.partition e.sequence in
        let same : k ≡ at = (bytes_eq-Decides k at).0 is in
        let inner = put (instance_text e.instance) (string (mode_text e.mode)) (members_in (get_member at ms)) in
        ap (λ t. get_member l (members_in (get_member t (with_entry_text ms e)))) same
        ∙ ap (λ o. get_member l (members_in o)) (get_member-put at (object inner) ms)
        ∙ get_member-put_other l (instance_text e.instance) (string (mode_text e.mode)) (members_in (get_member at ms)) (other same)
        ∙ ap (λ t. get_member l (members_in (get_member t ms))) (sym same)
    by_test false is =
        let at = segment_text e.partition e.sequence in
        let inner = put (instance_text e.instance) (string (mode_text e.mode)) (members_in (get_member at ms)) in
        ap (λ o. get_member l (members_in o))
        (get_member-put_other k at (object inner) ms (λ same. both_ways (bytes_eq k at) is ((bytes_eq-Decides k at).1 same)))

all_other : (k l : List ℕ) (ms : Members) (es : List IdealEntry) → AreElsewhere k l es → shown_at k l (with_entries_text ms es) ≡ shown_at k l ms
all_other k l ms [] other = refl
all_other k l ms (e ∷ es) other = all_other k l (with_entry_text ms e) es other.1 ∙ shown_other k l ms e other.0

all_shown : (ms : Members) (es : List IdealEntry) (e : IdealEntry) → IsAscending es → AreWords es → Has es e
    → shown_at (segment_text e.partition e.sequence) (instance_text e.instance) (with_entries_text ms es) ≡ Some (string (mode_text e.mode))
all_shown ms [] e order words has = absurd has
all_shown ms (d ∷ es) e order words (inl same) =
    subst (λ (x : IdealEntry). shown_at (segment_text x.partition x.sequence) (instance_text x.instance) (with_entries_text ms (d ∷ es)) ≡ Some (string (mode_text x.mode))) same
    (all_other (segment_text d.partition d.sequence) (instance_text d.instance) (with_entry_text ms d) es (elsewhere d es order.0 words)
    ∙ shown_here ms d)
all_shown ms (d ∷ es) e order words (inr has) = all_shown (with_entry_text ms d) es e order.1 words.3 has

all_elsewhere : (k l : List ℕ) (es : List IdealEntry)
    → ((e : IdealEntry) → Has es e → k ≡ segment_text e.partition e.sequence → l ≡ instance_text e.instance → ⊥)
    → AreElsewhere k l es
all_elsewhere k l [] none = tt
all_elsewhere k l (e ∷ es) none = (none e (inl refl), all_elsewhere k l es (λ d has. none d (inr has)))

-- ---- the order of keys

below_put : (j k : List ℕ) (d : Data) (ms : Members) → slice_cmp nat_cmp j k ≡ Less → IsBelow j ms → IsBelow j (put k d ms)
below_put j k d no_members first below = (first, tt)
below_put j k d (member l e ms) first below = by_order (slice_cmp nat_cmp k l) (below_put j k d ms first below.1)
  where
    by_order :
        (o : Ordering) → IsBelow j (put k d ms)
        → IsBelow j (match_ordering o (member k d (member l e ms)) (member l d ms) (member l e (put k d ms)))
    by_order Less later = (first, below)
    by_order Equal later = below
    by_order Greater later = (below.0, later)

below_later : (k l : List ℕ) (ms : Members) → slice_cmp nat_cmp k l ≡ Less → IsBelow l ms → IsBelow k ms
below_later k l no_members first below = tt
below_later k l (member m e ms) first below = (nat_list_cmp_total.trans k l m first below.0, below_later k l ms first below.1)

order_put : (k : List ℕ) (d : Data) (ms : Members) → IsInOrder ms → IsInOrder (put k d ms)
order_put k d no_members order = (tt, tt)
order_put k d (member l e ms) order = by_order (slice_cmp nat_cmp k l) refl (order_put k d ms order.1)
  where
    by_order :
        (o : Ordering) → slice_cmp nat_cmp k l ≡ o → IsInOrder (put k d ms)
        → IsInOrder (match_ordering o (member k d (member l e ms)) (member l d ms) (member l e (put k d ms)))
    by_order Less is later = ((is, below_later k l ms is order.0), order)
    by_order Equal is later = order
    by_order Greater is later =
        (below_put l k d ms (nat_list_cmp_total.antisymm l k ∙ ap ordering_reverse is) order.0, later)

inner_put : (k : List ℕ) (d : Data) (ms : Members) → IsInOrder (members_in (Some d)) → AreInOrder ms → AreInOrder (put k d ms)
inner_put k d no_members own order = (own, tt)
inner_put k d (member l e ms) own order = by_order (slice_cmp nat_cmp k l) (inner_put k d ms own order.1)
  where
    by_order :
        (o : Ordering) → AreInOrder (put k d ms)
        → AreInOrder (match_ordering o (member k d (member l e ms)) (member l d ms) (member l e (put k d ms)))
    by_order Less later = (own, order)
    by_order Equal later = (own, order.1)
    by_order Greater later = (order.0, later)

inner_got : (k : List ℕ) (ms : Members) → AreInOrder ms → IsInOrder (members_in (get_member k ms))
inner_got k no_members order = tt
inner_got k (member l e ms) order = by_order (slice_cmp nat_cmp k l) (inner_got k ms order.1)
  where
    by_order :
        (o : Ordering) → IsInOrder (members_in (get_member k ms))
        → IsInOrder (members_in (match_ordering o (get_member k ms) (Some e) (get_member k ms)))
    by_order Less later = later
    by_order Equal later = order.0
    by_order Greater later = later

entry_order : (ms : Members) (e : IdealEntry) → IsInOrder ms → AreInOrder ms → IsInOrder (with_entry_text ms e) × AreInOrder (with_entry_text ms e)
entry_order ms e outer inner =
    let k = segment_text e.partition e.sequence in
    let d = put (instance_text e.instance) (string (mode_text e.mode)) (members_in (get_member k ms)) in (
      order_put k (object d) ms outer,
      inner_put k (object d) ms (order_put (instance_text e.instance) (string (mode_text e.mode)) (members_in (get_member k ms)) (inner_got k ms inner)) inner,
    )

all_order : (ms : Members) (es : List IdealEntry) → IsInOrder ms → AreInOrder ms → IsInOrder (with_entries_text ms es) × AreInOrder (with_entries_text ms es)
all_order ms [] outer inner = (outer, inner)
all_order ms (e ∷ es) outer inner =
    let r = entry_order ms e outer inner in all_order (with_entry_text ms e) es r.0 r.1

-- ---- the text

pub text_shows : (es : List IdealEntry) (e : IdealEntry) → IsAscending es → AreWords es → Has es e
    → shown_at (segment_text e.partition e.sequence) (instance_text e.instance) (with_entries_text no_members es) ≡ Some (string (mode_text e.mode))
text_shows es e order words has = all_shown no_members es e order words has

pub text_shows_no_more : (es : List IdealEntry) (k l : List ℕ)
    → ((e : IdealEntry) → Has es e → k ≡ segment_text e.partition e.sequence → l ≡ instance_text e.instance → ⊥)
    → shown_at k l (with_entries_text no_members es) ≡ None
text_shows_no_more es k l none = all_other k l no_members es (all_elsewhere k l es none)

pub text_in_order : (es : List IdealEntry) → IsInOrder (with_entries_text no_members es) × AreInOrder (with_entries_text no_members es)
text_in_order es = all_order no_members es tt tt
