-- The breach that is answered is the one of the least byte.
use Rattle.std.proofs.Common.{◌≡◌, ℕ, ◌≤◌, Bool, true, false, ◌||◌, ◌⊎◌, inl, inr, List, [], ◌∷◌, ◌++◌, map, Option, Some, None, if◌then◌else◌, refl, ap, sym, ◌∙◌, subst, true≢false, append_assoc, arith}
use Rattle.std.proofs.lemmas.Bool.{or_parts}
use Rattle.std.proofs.lemmas.List.{append-nil}
use Rattle.std.proofs.lemmas.Option.{same_Some, none-some}
use Rattle.rt_lists.specs.Members.{Has}
use Rattle.rt_lists.proofs.Members.{Has-append_left, Has-append_right, map-Has}
use Rattle.rt_grammar.specs.declared.parts.ItemAt.{ItemAt}
use Rattle.rt_grammar.specs.declared.parts.GroupAt.{GroupAt}
use Rattle.rt_grammar.specs.declared.parts.KeyAt.{KeyAt}
use Rattle.rt_grammar.specs.declared.parts.Parts.{Parts}
use Rattle.rt_sql.specs.Breaches as breaches
use Rattle.rt_sql.specs.Breaches.{IsBreach, IsFirstBreach, no_aggregate}
use Rattle.rt_sql.specs.Rules.{has_aggregate, first_byte, may_stand, ungrouped, is_grouped, repeated, is_selected, is_group, stray, first_of, breach}
use Rattle.rt_sql.proofs.Rising.{Rising, item_byte, group_byte, key_byte, bytes_of}

-- Numbers that ascend

at_least : (n : ℕ) (bs : List ℕ) (b : ℕ) → Rising n bs → Has bs b → n ≤ b
at_least n [] b r h = absurd h
at_least n (c ∷ bs) b (first, rest) (inl e) = subst (λ m. n ≤ m) e first
at_least n (c ∷ bs) b (first, rest) (inr h) = let later = at_least c bs b rest h in omega (arith, first, later)

over : (n : ℕ) (xs ys : List ℕ) (x y : ℕ) → Rising n (xs ++ ys) → Has xs x → Has ys y → x ≤ y
over n [] ys x y r h k = absurd h
over n (c ∷ xs) ys x y (first, rest) (inl e) k = subst (λ m. m ≤ y) e (at_least c (xs ++ ys) y rest (Has-append_right xs ys y k))
over n (c ∷ xs) ys x y (first, rest) (inr h) k = over c xs ys x y rest h k

front_rises : (n : ℕ) (xs ys : List ℕ) → Rising n (xs ++ ys) → Rising n xs
front_rises n [] ys r = tt
front_rises n (c ∷ xs) ys (first, rest) = (first, front_rises c xs ys rest)

back_rises : (n : ℕ) (xs ys : List ℕ) → Rising n (xs ++ ys) → (m : ℕ) × Rising m ys
back_rises n [] ys r = (n, r)
back_rises n (c ∷ xs) ys (first, rest) = back_rises c xs ys rest

-- The first of a list that fails a test

module _ {X : Type 0} (ok : X → Bool) (byte : X → ℕ) where
  abbrev first_bad : List X → Option ℕ
  first_bad [] = None
  first_bad (x ∷ xs) = if ok x then first_bad xs else Some (byte x)

  bad_found : (xs : List X) (b : ℕ) → first_bad xs ≡ Some b → (x : X) × Has xs x × (ok x ≡ false) × (byte x ≡ b)
  bad_found [] b e = absurd (none-some b e)
  bad_found (x ∷ xs) b e = by (ok x) refl e (λ f. bad_found xs b f)
    where
      by : (o : Bool) → ok x ≡ o → (if o then first_bad xs else Some (byte x)) ≡ Some b → (first_bad xs ≡ Some b → (y : X) × Has xs y × (ok y ≡ false) × (byte y ≡ b)) →
          (y : X) × Has (x ∷ xs) y × (ok y ≡ false) × (byte y ≡ b)
      by true same e ih = let r = ih e in (r.0, inr r.1, r.2, r.3)
      by false same e ih = (x, inl refl, same, same_Some (byte x) b e)

  bad_least : (n : ℕ) (xs : List X) (b : ℕ) → Rising n (map byte xs) → first_bad xs ≡ Some b → (y : X) → Has xs y → ok y ≡ false → b ≤ byte y
  bad_least n [] b r e y h bad = absurd h
  bad_least n (x ∷ xs) b r e y h bad = by (ok x) refl e h (λ f k. bad_least (byte x) xs b r.1 f y k bad)
    where
      by : (o : Bool) → ok x ≡ o → (if o then first_bad xs else Some (byte x)) ≡ Some b → (x ≡ y) ⊎ Has xs y → (first_bad xs ≡ Some b → Has xs y → b ≤ byte y) → b ≤ byte y
      by true same e (inl is) ih = absurd (true≢false (sym same ∙ ap ok is ∙ bad))
      by true same e (inr h) ih = ih e h
      by false same e (inl is) ih = subst (λ m. m ≤ byte y) (same_Some (byte x) b e) (subst (λ m. m ≤ byte y) (ap byte (sym is)) (omega arith))
      by false same e (inr h) ih = subst (λ m. m ≤ byte y) (same_Some (byte x) b e) (at_least (byte x) (map byte xs) (byte y) r.1 (map-Has byte xs y h))

  bad_none : (xs : List X) → first_bad xs ≡ None → (y : X) → Has xs y → ok y ≡ false → ⊥
  bad_none [] e y h bad = h
  bad_none (x ∷ xs) e y h bad = by (ok x) refl e h (λ f k. bad_none xs f y k bad)
    where
      by : (o : Bool) → ok x ≡ o → (if o then first_bad xs else Some (byte x)) ≡ None → (x ≡ y) ⊎ Has xs y → (first_bad xs ≡ None → Has xs y → ⊥) → ⊥
      by true same e (inl is) ih = true≢false (sym same ∙ ap ok is ∙ bad)
      by true same e (inr h) ih = ih e h
      by false same e h ih = none-some (byte x) (sym e)

abbrev item_stands : List GroupAt → ItemAt → Bool
item_stands gs i = may_stand gs i.item

abbrev key_stands : List ItemAt → List GroupAt → KeyAt → Bool
key_stands is gs k = is_selected k.key.item is || is_group k.key.item gs

ungrouped_is : (gs : List GroupAt) (is : List ItemAt) → ungrouped gs is ≡ first_bad (item_stands gs) item_byte is
ungrouped_is gs [] = refl
ungrouped_is gs (x ∷ is) = ap (λ o. if may_stand gs x.item then o else Some x.byte) (ungrouped_is gs is)

stray_is : (is : List ItemAt) (gs : List GroupAt) (ks : List KeyAt) → stray is gs ks ≡ first_bad (key_stands is gs) key_byte ks
stray_is is gs [] = refl
stray_is is gs (k ∷ ks) = ap (λ o. if key_stands is gs k then o else Some k.byte) (stray_is is gs ks)

neither : (a b : Bool) → a ≡ false → b ≡ false → (a || b) ≡ false
neither true b e f = e
neither false b e f = f

-- The first name that has come before

-- a name of these that stands among those before it, and among some that came first
record IsAgain (first gs : List GroupAt) (found : GroupAt) : Type 0 where
  before : List GroupAt
  after : List GroupAt
  whole : gs ≡ before ++ found ∷ after
  again : is_grouped found.column.name (first ++ before) ≡ true

again_here : (first : List GroupAt) (g : GroupAt) (gs : List GroupAt) → is_grouped g.column.name first ≡ true → IsAgain first (g ∷ gs) g
again_here first g gs e = record { before = []; after = gs; whole = refl; again = ap (is_grouped g.column.name) (append-nil first) ∙ e }

again_later : (first : List GroupAt) (g : GroupAt) (gs : List GroupAt) (found : GroupAt) → IsAgain (first ++ g ∷ []) gs found → IsAgain first (g ∷ gs) found
again_later first g gs found h =
    record { before = g ∷ h.before; after = h.after; whole = ap (λ xs. g ∷ xs) h.whole; again = ap (is_grouped found.column.name) (sym (append_assoc first (g ∷ []) h.before)) ∙ h.again }

again_cases : (first : List GroupAt) (g : GroupAt) (gs : List GroupAt) (found : GroupAt) (before after : List GroupAt) → g ∷ gs ≡ before ++ found ∷ after →
    is_grouped found.column.name (first ++ before) ≡ true → ((g ≡ found) × (is_grouped g.column.name first ≡ true)) ⊎ IsAgain (first ++ g ∷ []) gs found
again_cases first g gs found [] after e again =
    let same : g ≡ found = cc in
    inl (same, ap (λ (h : GroupAt). is_grouped h.column.name first) same ∙ ap (is_grouped found.column.name) (sym (append-nil first)) ∙ again)
again_cases first g gs found (x ∷ before) after e again =
    let same : g ≡ x = cc in
    let rest : gs ≡ before ++ found ∷ after = cc in
    inr (record {
      before = before;
      after = after;
      whole = rest;
      again = ap (is_grouped found.column.name) (append_assoc first (g ∷ []) before ∙ ap (λ y. first ++ y ∷ before) same) ∙ again;
    })

again_has : (first gs : List GroupAt) (found : GroupAt) → IsAgain first gs found → Has gs found
again_has first gs found h = subst (λ xs. Has xs found) (sym h.whole) (Has-append_right h.before (found ∷ h.after) found (inl refl))

again_found : (first gs : List GroupAt) (b : ℕ) → repeated first gs ≡ Some b → (found : GroupAt) × IsAgain first gs found × (found.byte ≡ b)
again_found first [] b e = absurd (none-some b e)
again_found first (g ∷ gs) b e = by (is_grouped g.column.name first) refl e (λ f. again_found (first ++ g ∷ []) gs b f)
  where
    by : (o : Bool) → is_grouped g.column.name first ≡ o → (if o then Some g.byte else repeated (first ++ g ∷ []) gs) ≡ Some b →
        (repeated (first ++ g ∷ []) gs ≡ Some b → (found : GroupAt) × IsAgain (first ++ g ∷ []) gs found × (found.byte ≡ b)) → (found : GroupAt) × IsAgain first (g ∷ gs) found × (found.byte ≡ b)
    by true same e ih = (g, again_here first g gs same, same_Some g.byte b e)
    by false same e ih = let r = ih e in (r.0, again_later first g gs r.0 r.1, r.2)

again_least : (n : ℕ) (first gs : List GroupAt) (b : ℕ) → Rising n (map group_byte gs) → repeated first gs ≡ Some b → (found : GroupAt) → IsAgain first gs found → b ≤ found.byte
again_least n first [] b r e found h = absurd (none-some b e)
again_least n first (g ∷ gs) b r e found h =
    by (is_grouped g.column.name first) refl e (again_cases first g gs found h.before h.after h.whole h.again) (λ f k. again_least g.byte (first ++ g ∷ []) gs b r.1 f found k)
  where
    by : (o : Bool) → is_grouped g.column.name first ≡ o → (if o then Some g.byte else repeated (first ++ g ∷ []) gs) ≡ Some b →
        ((g ≡ found) × (is_grouped g.column.name first ≡ true)) ⊎ IsAgain (first ++ g ∷ []) gs found → (repeated (first ++ g ∷ []) gs ≡ Some b → IsAgain (first ++ g ∷ []) gs found → b ≤ found.byte) → b ≤ found.byte
    by true same e (inl is) ih = subst (λ m. m ≤ found.byte) (same_Some g.byte b e) (subst (λ m. m ≤ found.byte) (ap group_byte (sym is.0)) (omega arith))
    by true same e (inr k) ih = subst (λ m. m ≤ found.byte) (same_Some g.byte b e) (at_least g.byte (map group_byte gs) found.byte r.1 (map-Has group_byte gs found (again_has (first ++ g ∷ []) gs found k)))
    by false same e (inl is) ih = absurd (true≢false (sym is.1 ∙ same))
    by false same e (inr k) ih = ih e k

again_none : (first gs : List GroupAt) → repeated first gs ≡ None → (found : GroupAt) → IsAgain first gs found → ⊥
again_none first [] e found h = again_has first [] found h
again_none first (g ∷ gs) e found h =
    by (is_grouped g.column.name first) refl e (again_cases first g gs found h.before h.after h.whole h.again) (λ f k. again_none (first ++ g ∷ []) gs f found k)
  where
    by : (o : Bool) → is_grouped g.column.name first ≡ o → (if o then Some g.byte else repeated (first ++ g ∷ []) gs) ≡ None →
        ((g ≡ found) × (is_grouped g.column.name first ≡ true)) ⊎ IsAgain (first ++ g ∷ []) gs found → (repeated (first ++ g ∷ []) gs ≡ None → IsAgain (first ++ g ∷ []) gs found → ⊥) → ⊥
    by true same e h ih = none-some g.byte (sym e)
    by false same e (inl is) ih = true≢false (sym is.1 ∙ same)
    by false same e (inr k) ih = ih e k

-- All rules

one_of_two : (x y : Option ℕ) (b : ℕ) → first_of x y ≡ Some b → (x ≡ Some b) ⊎ ((x ≡ None) × (y ≡ Some b))
one_of_two (Some n) y b e = inl e
one_of_two None y b e = inr (refl, e)

none_of_two : (x y : Option ℕ) → first_of x y ≡ None → (x ≡ None) × (y ≡ None)
none_of_two (Some n) y e = absurd (none-some n (sym e))
none_of_two None y e = (refl, e)

-- what is answered where an item is an aggregate
abbrev ruled : Parts → Option ℕ
ruled p = first_of (ungrouped p.groups p.items) (first_of (repeated [] p.groups) (stray p.items p.groups p.order))

-- where no item is one
first_item : (p : Parts) (is : List ItemAt) (b : ℕ) → p.items ≡ is → has_aggregate p.items ≡ false → first_byte is ≡ Some b → IsBreach p b
first_item p [] b is none e = absurd (none-some b e)
first_item p (x ∷ xs) b is none e = subst (IsBreach p) (same_Some x.byte b e) (no_aggregate x xs is none)

-- a name among the items
from_ungrouped : (p : Parts) (b : ℕ) → ungrouped p.groups p.items ≡ Some b → (found : ItemAt) × Has p.items found × (may_stand p.groups found.item ≡ false) × (found.byte ≡ b)
from_ungrouped p b e = bad_found (item_stands p.groups) item_byte p.items b (sym (ungrouped_is p.groups p.items) ∙ e)

-- a name of GROUP BY
from_repeated : (p : Parts) (b : ℕ) → repeated [] p.groups ≡ Some b → (found : GroupAt) × IsAgain [] p.groups found × (found.byte ≡ b)
from_repeated p b e = again_found [] p.groups b e

-- a key
from_stray : (p : Parts) (b : ℕ) → stray p.items p.groups p.order ≡ Some b → (found : KeyAt) × Has p.order found × (key_stands p.items p.groups found ≡ false) × (found.byte ≡ b)
from_stray p b e = bad_found (key_stands p.items p.groups) key_byte p.order b (sym (stray_is p.items p.groups p.order) ∙ e)

ruled_found : (p : Parts) (b : ℕ) → ruled p ≡ Some b → IsBreach p b
ruled_found p b e = elim (one_of_two (ungrouped p.groups p.items) (first_of (repeated [] p.groups) (stray p.items p.groups p.order)) b e) [
  | inl u ↦ let f = from_ungrouped p b u in subst (IsBreach p) f.3 (breaches.ungrouped f.0 f.1 f.2)
  | inr later ↦ elim (one_of_two (repeated [] p.groups) (stray p.items p.groups p.order) b later.1) [
    | inl r ↦ let f = from_repeated p b r in subst (IsBreach p) f.2 (breaches.repeated f.1.before f.0 f.1.after f.1.whole f.1.again)
    | inr last ↦
        let f = from_stray p b last.1 in
        let parts = or_parts (is_selected f.0.key.item p.items) (is_group f.0.key.item p.groups) f.2 in
        subst (IsBreach p) f.3 (breaches.stray f.0 f.1 parts.0 parts.1)
  ]
]

pub breach_found : (p : Parts) (b : ℕ) → breach p ≡ Some b → IsBreach p b
breach_found p b e = by (has_aggregate p.items) refl e
  where
    by : (o : Bool) → has_aggregate p.items ≡ o → (if o then ruled p else first_byte p.items) ≡ Some b → IsBreach p b
    by true same e = ruled_found p b e
    by false same e = first_item p p.items b refl same e

-- the bytes of breaches are bytes of parts
item_in : (p : Parts) (found : ItemAt) → Has p.items found → Has (map item_byte p.items) found.byte
item_in p found h = map-Has item_byte p.items found h

group_in : (p : Parts) (found : GroupAt) → IsAgain [] p.groups found → Has (map group_byte p.groups ++ map key_byte p.order) found.byte
group_in p found h = Has-append_left (map group_byte p.groups) (map key_byte p.order) found.byte (map-Has group_byte p.groups found (again_has [] p.groups found h))

key_in : (p : Parts) (found : KeyAt) → Has p.order found → Has (map key_byte p.order) found.byte
key_in p found h = map-Has key_byte p.order found h

key_in_both : (p : Parts) (found : KeyAt) → Has p.order found → Has (map group_byte p.groups ++ map key_byte p.order) found.byte
key_in_both p found h = Has-append_right (map group_byte p.groups) (map key_byte p.order) found.byte (key_in p found h)

breach_in : (p : Parts) {o : ℕ} → IsBreach p o → Has (bytes_of p) o
breach_in p (no_aggregate x xs e none) = Has-append_left (map item_byte p.items) _ x.byte (subst (λ is. Has (map item_byte is) x.byte) (sym e) (inl refl))
breach_in p (breaches.ungrouped found h bad) = Has-append_left (map item_byte p.items) _ found.byte (item_in p found h)
breach_in p (breaches.repeated before found after e again) =
    Has-append_right (map item_byte p.items) _ found.byte (group_in p found (record { before = before; after = after; whole = e; again = again }))
breach_in p (breaches.stray found h a b) = Has-append_right (map item_byte p.items) _ found.byte (key_in_both p found h)

-- where no item is an aggregate, the first item begins before all else
least_first : (p : Parts) (is : List ItemAt) (b o : ℕ) → p.items ≡ is → Rising 0 (bytes_of p) → first_byte is ≡ Some b → Has (bytes_of p) o → b ≤ o
least_first p [] b o is r e h = absurd (none-some b e)
least_first p (x ∷ xs) b o is r e h =
    let more = map group_byte p.groups ++ map key_byte p.order in
    subst (λ m. m ≤ o) (same_Some x.byte b e)
    (first_least x.byte (map item_byte xs ++ more) o (subst (λ ys. Rising 0 (map item_byte ys ++ more)) is r) (subst (λ ys. Has (map item_byte ys ++ more) o) is h))
  where
    first_least : (c : ℕ) (bs : List ℕ) (o : ℕ) → Rising 0 (c ∷ bs) → Has (c ∷ bs) o → c ≤ o
    first_least c bs o r (inl e) = subst (λ m. c ≤ m) e (omega arith)
    first_least c bs o r (inr h) = at_least c bs o r.1 h

-- an item's byte is below all bytes behind the items
item_below : (p : Parts) (b o : ℕ) → Rising 0 (bytes_of p) → ungrouped p.groups p.items ≡ Some b → Has (map group_byte p.groups ++ map key_byte p.order) o → b ≤ o
item_below p b o r e h =
    let f = from_ungrouped p b e in
    subst (λ m. m ≤ o) f.3 (over 0 (map item_byte p.items) (map group_byte p.groups ++ map key_byte p.order) f.0.byte o r (item_in p f.0 f.1) h)

least_item : (p : Parts) (b : ℕ) (found : ItemAt) → Rising 0 (bytes_of p) → ruled p ≡ Some b → Has p.items found → may_stand p.groups found.item ≡ false → b ≤ found.byte
least_item p b found r e h bad = elim (one_of_two (ungrouped p.groups p.items) (first_of (repeated [] p.groups) (stray p.items p.groups p.order)) b e) [
  | inl u ↦ bad_least (item_stands p.groups) item_byte 0 p.items b (front_rises 0 (map item_byte p.items) _ r) (sym (ungrouped_is p.groups p.items) ∙ u) found h bad
  | inr later ↦ absurd (bad_none (item_stands p.groups) item_byte p.items (sym (ungrouped_is p.groups p.items) ∙ later.0) found h bad)
]

least_group : (p : Parts) (b : ℕ) (found : GroupAt) → Rising 0 (bytes_of p) → ruled p ≡ Some b → IsAgain [] p.groups found → b ≤ found.byte
least_group p b found r e h = elim (one_of_two (ungrouped p.groups p.items) (first_of (repeated [] p.groups) (stray p.items p.groups p.order)) b e) [
  | inl u ↦ item_below p b found.byte r u (group_in p found h)
  | inr later ↦ elim (one_of_two (repeated [] p.groups) (stray p.items p.groups p.order) b later.1) [
    | inl again ↦
        let back = back_rises 0 (map item_byte p.items) (map group_byte p.groups ++ map key_byte p.order) r in
        again_least back.0 [] p.groups b (front_rises back.0 (map group_byte p.groups) (map key_byte p.order) back.1) again found h
    | inr last ↦ absurd (again_none [] p.groups last.0 found h)
  ]
]

least_key : (p : Parts) (b : ℕ) (found : KeyAt) → Rising 0 (bytes_of p) → ruled p ≡ Some b → Has p.order found → key_stands p.items p.groups found ≡ false → b ≤ found.byte
least_key p b found r e h bad = elim (one_of_two (ungrouped p.groups p.items) (first_of (repeated [] p.groups) (stray p.items p.groups p.order)) b e) [
  | inl u ↦ item_below p b found.byte r u (key_in_both p found h)
  | inr later ↦
      let back = back_rises 0 (map item_byte p.items) (map group_byte p.groups ++ map key_byte p.order) r in
      elim (one_of_two (repeated [] p.groups) (stray p.items p.groups p.order) b later.1) [
        | inl again ↦
            let f = from_repeated p b again in
            subst (λ m. m ≤ found.byte) f.2 (over back.0 (map group_byte p.groups) (map key_byte p.order) f.0.byte found.byte back.1 (map-Has group_byte p.groups f.0 (again_has [] p.groups f.0 f.1)) (key_in p found h))
        | inr last ↦
            let keys = back_rises back.0 (map group_byte p.groups) (map key_byte p.order) back.1 in
            bad_least (key_stands p.items p.groups) key_byte keys.0 p.order b keys.1 (sym (stray_is p.items p.groups p.order) ∙ last.1) found h bad
      ]
]

ruled_least : (p : Parts) (b : ℕ) {o : ℕ} → has_aggregate p.items ≡ true → Rising 0 (bytes_of p) → ruled p ≡ Some b → IsBreach p o → b ≤ o
ruled_least p b has r e (no_aggregate x xs is none) = absurd (true≢false (sym has ∙ none))
ruled_least p b has r e (breaches.ungrouped found h bad) = least_item p b found r e h bad
ruled_least p b has r e (breaches.repeated before found after is again) = least_group p b found r e (record { before = before; after = after; whole = is; again = again })
ruled_least p b has r e (breaches.stray found h a c) = least_key p b found r e h (neither (is_selected found.key.item p.items) (is_group found.key.item p.groups) a c)

-- what is answered is the first breach
pub first_breach : (p : Parts) (b : ℕ) → Rising 0 (bytes_of p) → breach p ≡ Some b → IsFirstBreach p b
first_breach p b r e = (breach_found p b e, λ o is. by (has_aggregate p.items) refl e o is)
  where
    by : (t : Bool) → has_aggregate p.items ≡ t → (if t then ruled p else first_byte p.items) ≡ Some b → (o : ℕ) → IsBreach p o → b ≤ o
    by true same e o is = ruled_least p b same r e is
    by false same e o is = least_first p p.items b o refl r e (breach_in p is)

ruled_none : (p : Parts) {o : ℕ} → has_aggregate p.items ≡ true → ruled p ≡ None → IsBreach p o → ⊥
ruled_none p has e (no_aggregate x xs is none) = true≢false (sym has ∙ none)
ruled_none p has e (breaches.ungrouped found h bad) =
    let first = none_of_two (ungrouped p.groups p.items) (first_of (repeated [] p.groups) (stray p.items p.groups p.order)) e in
    bad_none (item_stands p.groups) item_byte p.items (sym (ungrouped_is p.groups p.items) ∙ first.0) found h bad
ruled_none p has e (breaches.repeated before found after is again) =
    let first = none_of_two (ungrouped p.groups p.items) (first_of (repeated [] p.groups) (stray p.items p.groups p.order)) e in
    let later = none_of_two (repeated [] p.groups) (stray p.items p.groups p.order) first.1 in
    again_none [] p.groups later.0 found (record { before = before; after = after; whole = is; again = again })
ruled_none p has e (breaches.stray found h a c) =
    let first = none_of_two (ungrouped p.groups p.items) (first_of (repeated [] p.groups) (stray p.items p.groups p.order)) e in
    let later = none_of_two (repeated [] p.groups) (stray p.items p.groups p.order) first.1 in
    bad_none (key_stands p.items p.groups) key_byte p.order (sym (stray_is p.items p.groups p.order) ∙ later.1) found h (neither (is_selected found.key.item p.items) (is_group found.key.item p.groups) a c)

-- where nothing is answered of some items, no rule is broken
pub no_breach : (p : Parts) (x : ItemAt) (xs : List ItemAt) → p.items ≡ x ∷ xs → breach p ≡ None → (o : ℕ) → IsBreach p o → ⊥
no_breach p x xs some e o is = by (has_aggregate p.items) refl e
  where
    by : (t : Bool) → has_aggregate p.items ≡ t → (if t then ruled p else first_byte p.items) ≡ None → ⊥
    by true same e = ruled_none p same e is
    by false same e = none-some x.byte (sym e ∙ ap first_byte some)
