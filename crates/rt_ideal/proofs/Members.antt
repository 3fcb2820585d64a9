-- The members of an object, beside the entries of the map in which they are collected.
use Rattle.std.proofs.Common.{◌≡◌, ℕ, ◌+◌, ◌<◌, length, get_or, drop, drop-cons, add-one, List, [], ◌∷◌, Option, Some, option_map, String, BTreeMap, Global, Ordering, Less, Equal, Greater, string_bytes, string_cmp, nat_cmp, is_eq, cond, Bool, true, false, ◌||◌, true≢false, refl, sym, ap, ◌∙◌}
use Rattle.std.proofs.lemmas.Cmp.{nat_list_cmp_total}
use Rattle.std.proofs.lemmas.Map.Text.{is_eq-slice_cmp}
use Rattle.std.proofs.lemmas.Slice.Eq.{bytes_eq-Decides}
use Rattle.std.specs.Cmp.Lexicographic.{slice_cmp}
use Rattle.std.specs.List.{AllByRecursion}
use Rattle.std.specs.List.Sorted.{IsStrictlySortedBy}
use Rattle.std.specs.Map.{keys_of, remove_entry, lookup}
use Rattle.std.specs.Ordering.{match_ordering}
use Rattle.std.specs.BTreeMap.{is_at, insert_entry}
use Rattle.serde_json.specs.Data.{Data, null, boolean, number, string, array, object, Members, no_members, member, put}
use Rattle.serde_json.specs.Find.{get_member}
use Rattle.serde_json.specs.View.{view, members_view}
use Rattle.serde_json.specs.Written.{has_float, members_have_float, compact_text}
use Rattle.serde_json.specs.declared.value.Value.{Value, Object}
use Rattle.serde_json.proofs.Views.{Entry, members_view-insert_entry, view-lookup, view-Object}
use Rattle.rt_model.specs.declared.ideal_state.IdealEntry.{IdealEntry}
use Rattle.rt_ideal.specs.Text.{members_in, segment_text, instance_text, mode_text, with_entry_text, with_entries_text, state_text}

-- the order of a text against a key
abbrev pub order : List ℕ → String Global → Ordering
order k q = slice_cmp nat_cmp k (string_bytes q)

-- the text is below each of these keys
abbrev IsBelow : List ℕ → List Entry → Type 0
IsBelow k es = AllByRecursion (λ q. order k q ≡ Less) (keys_of es)

below_by_first : (k : List ℕ) (first : String Global) (es : List Entry) → order k first ≡ Less → AllByRecursion (λ q. string_cmp first q ≡ Less) (keys_of es) → IsBelow k es
below_by_first k first [] h a = tt
below_by_first k first (e ∷ es) h a =
    (nat_list_cmp_total.trans k (string_bytes first) (string_bytes e.0) h a.0, below_by_first k first es h a.1)

below_by_equal : (k : List ℕ) (first : String Global) (es : List Entry) → order k first ≡ Equal → AllByRecursion (λ q. string_cmp first q ≡ Less) (keys_of es) → IsBelow k es
below_by_equal k first [] h a = tt
below_by_equal k first (e ∷ es) h a =
    (nat_list_cmp_total.congr k (string_bytes first) (string_bytes e.0) h ∙ a.0, below_by_equal k first es h a.1)

-- a text below all keys is none of them
nothing_removed : (k : List ℕ) (es : List Entry) → IsBelow k es → remove_entry (is_at (order k)) es ≡ es
nothing_removed k [] b = refl
nothing_removed k (e ∷ es) b = rw b.0 (ap (λ (l : List Entry). e ∷ l) (nothing_removed k es b.1))

-- and it goes first
put_first : (k : List ℕ) (d : Data) (es : List Entry) → IsBelow k es → put k d (members_view es) ≡ member k d (members_view es)
put_first k d [] b = refl
put_first k d (e ∷ es) b = rw b.0

put_removed_at : (o : Ordering) (k : List ℕ) (d : Data) (e : Entry) (es : List Entry) → order k e.0 ≡ o
    → AllByRecursion (λ q. string_cmp e.0 q ≡ Less) (keys_of es)
    → put k d (members_view (remove_entry (is_at (order k)) es)) ≡ put k d (members_view es)
    → put k d (members_view (cond (is_eq o) es (e ∷ remove_entry (is_at (order k)) es))) ≡ put k d (members_view (e ∷ es))
put_removed_at Less k d e es is above later = ap (λ (l : List Entry). put k d (members_view (e ∷ l))) (nothing_removed k es (below_by_first k e.0 es is above))
put_removed_at Equal k d e es is above later =
    let same : k ≡ string_bytes e.0 = (bytes_eq-Decides k (string_bytes e.0)).0 (sym (is_eq-slice_cmp k (string_bytes e.0)) ∙ ap is_eq is) in
    put_first k d es (below_by_equal k e.0 es is above) ∙ rw is (ap (λ (t : List ℕ). member t d (members_view es)) same)
put_removed_at Greater k d e es is above later = rw is (ap (member (string_bytes e.0) (view e.1)) later)

-- what is put at a key does not ask what stood there
pub put_removed : (k : List ℕ) (d : Data) (es : List Entry) → IsStrictlySortedBy string_cmp (keys_of es)
    → put k d (members_view (remove_entry (is_at (order k)) es)) ≡ put k d (members_view es)
unfolding IsStrictlySortedBy
put_removed k d [] s = refl
put_removed k d (e ∷ es) s = put_removed_at (order k e.0) k d e es refl s.0 (put_removed k d es s.1)

-- after an insert the member stands there
pub put_inserted : (es : List Entry) (k : String Global) (v : Value) → members_view (insert_entry string_cmp es k v) ≡ put (string_bytes k) (view v) (members_view es)
put_inserted es k v = members_view-insert_entry es k v

-- what a look-up finds
pub view_found : (k : List ℕ) (es : List Entry) → option_map view (lookup (is_at (order k)) es) ≡ get_member k (members_view es)
view_found k es = view-lookup k es

or_false : (a b : Bool) → (a || b) ≡ false → (a ≡ false) × (b ≡ false)
or_false true b e = absurd (true≢false e)
or_false false b e = (refl, e)

false_or : (a b : Bool) → a ≡ false → b ≡ false → (a || b) ≡ false
false_or a b e h = rw (e, h)

no_float_put_at : (o : Ordering) (k l : List ℕ) (d e : Data) (ms : Members) → has_float d ≡ false → has_float e ≡ false → members_have_float ms ≡ false
    → members_have_float (put k d ms) ≡ false
    → members_have_float (match_ordering o (member k d (member l e ms)) (member l d ms) (member l e (put k d ms))) ≡ false
no_float_put_at Less k l d e ms hd he hm later = false_or (has_float d) _ hd (false_or (has_float e) _ he hm)
no_float_put_at Equal k l d e ms hd he hm later = false_or (has_float d) _ hd hm
no_float_put_at Greater k l d e ms hd he hm later = false_or (has_float e) _ he later

no_float_put : (k : List ℕ) (d : Data) (ms : Members) → has_float d ≡ false → members_have_float ms ≡ false → members_have_float (put k d ms) ≡ false
no_float_put k d no_members hd hm = false_or (has_float d) false hd refl
no_float_put k d (member l e ms) hd hm =
    let parts = or_false (has_float e) (members_have_float ms) hm in
    no_float_put_at (slice_cmp nat_cmp k l) k l d e ms hd parts.0 parts.1 (no_float_put k d ms hd parts.1)

abbrev NoFloatIn : Option Data → Type 0
NoFloatIn o = members_have_float (members_in o) ≡ false

no_float_value : (d : Data) → has_float d ≡ false → NoFloatIn (Some d)
no_float_value null h = refl
no_float_value (boolean b) h = refl
no_float_value (number n) h = refl
no_float_value (string s) h = refl
no_float_value (array ds) h = refl
no_float_value (object ms) h = h

no_float_in_at : (o : Ordering) (rest : Option Data) (d : Data) → has_float d ≡ false → NoFloatIn rest → NoFloatIn (match_ordering o rest (Some d) rest)
no_float_in_at Less rest d h later = later
no_float_in_at Equal rest d h later = no_float_value d h
no_float_in_at Greater rest d h later = later

no_float_in : (k : List ℕ) (ms : Members) → members_have_float ms ≡ false → NoFloatIn (get_member k ms)
no_float_in k no_members h = refl
no_float_in k (member l d ms) h =
    let parts = or_false (has_float d) (members_have_float ms) h in
    no_float_in_at (slice_cmp nat_cmp k l) (get_member k ms) d parts.0 (no_float_in k ms parts.1)

-- no number is ever put
pub no_float_entry : (ms : Members) (e : IdealEntry) → members_have_float ms ≡ false → members_have_float (with_entry_text ms e) ≡ false
no_float_entry ms e h =
    let segment = segment_text e.partition e.sequence in
    no_float_put segment _ ms (no_float_put (instance_text e.instance) (string (mode_text e.mode)) (members_in (get_member segment ms)) refl (no_float_in segment ms h)) h

-- the members of a value that is an object
pub members_in_object : (v : Option Value) (x : Value) (m : BTreeMap (String Global) Value) → v ≡ Some x → x ≡ Object m → members_view m.entries ≡ members_in (option_map view v)
members_in_object v x m e h = rw (e, h, view-Object m)

-- an entry that is put into its segment's members, which are put back
pub entry_written :
    (key : List ℕ) (segment name : String Global) (mode : Value) (instances : BTreeMap (String Global) Value) (taken rest after : List Entry) (ms : Members) (e : IdealEntry)
    → key ≡ string_bytes segment
    → string_bytes segment ≡ segment_text e.partition e.sequence
    → string_bytes name ≡ instance_text e.instance
    → view mode ≡ string (mode_text e.mode)
    → members_view taken ≡ members_in (get_member key ms)
    → ((d : Data) → put key d (members_view rest) ≡ put key d ms)
    → instances.entries ≡ insert_entry string_cmp taken name mode
    → after ≡ insert_entry string_cmp rest segment (Object instances)
    → members_view after ≡ with_entry_text ms e
entry_written key segment name mode instances taken rest after ms e is_key at_segment at_name at_mode was others inner outer =
    let inside : members_view instances.entries ≡ put (instance_text e.instance) (string (mode_text e.mode)) (members_in (get_member (segment_text e.partition e.sequence) ms)) =
    ap members_view inner ∙ put_inserted taken name mode ∙ rw (at_name, at_mode, was, is_key, at_segment) in
    let back : put (string_bytes segment) (view (Object instances)) (members_view rest) ≡ put (string_bytes segment) (view (Object instances)) ms =
    rw is_key at (others (view (Object instances))) in
    ap members_view outer ∙ put_inserted rest segment (Object instances) ∙ back ∙ rw (at_segment, view-Object instances, inside)

-- one entry more is put
pub entries_left : (ms : Members) (es : List IdealEntry) (i : ℕ) (d : IdealEntry) → i < length es
    → with_entries_text ms (drop i es) ≡ with_entries_text (with_entry_text ms (get_or es i d)) (drop (i + 1) es)
entries_left ms es i d h = rw (drop-cons es i d, add-one)

-- what was put is the text of all entries
pub text_done :
    (m : BTreeMap (String Global) Value) (es rest : List IdealEntry) (bytes : List ℕ)
    → with_entries_text no_members es ≡ with_entries_text (members_view m.entries) rest
    → rest ≡ []
    → members_have_float (members_view m.entries) ≡ false
    → (has_float (view (Object m)) ≡ false → bytes ≡ compact_text (view (Object m)))
    → bytes ≡ state_text es
text_done m es rest bytes left none no_float written =
    let whole : with_entries_text no_members es ≡ members_view m.entries = left ∙ ap (with_entries_text (members_view m.entries)) none in
    let object_view = view-Object m in
    written (ap has_float object_view ∙ no_float) ∙ ap compact_text object_view ∙ ap (λ ms. compact_text (object ms)) (sym whole)
