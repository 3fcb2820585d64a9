-- Steps of the loops over ids.
use Rattle.std.proofs.Common.{◌≡◌, ℕ, zero, suc, ◌+◌, ◌*◌, ◌-◌, ◌/◌, ◌<◌, ◌≤◌, Bool, true, false, cond, ltb, List, [], ◌∷◌, ◌++◌, Option, Some, None, length, get_or, set, take, drop, refl, sym, ap, ◌∙◌, inl, inr, arith}
use Rattle.std.specs.Prelude.{◌&&◌, ◌||◌, ◌==◌, nat_lt}
use Rattle.std.proofs.lemmas.List.{drop_more, drop_all, take_more, get_or-set_same, get_or-set_other, length-set}
use Rattle.std.proofs.lemmas.Nat.{mul-le}
use Rattle.std.specs.List.{All, Contains}
use Rattle.std.proofs.lemmas.List.Elements.{All-cons}
use Rattle.std.proofs.lemmas.Option.{none-some}
use Rattle.std.proofs.lemmas.Bool.{eqb-true, cases_Bool, cases_eq, eq-eqb, ltb-true, false≢true}
use Rattle.rt_pack.specs.Bits.{number_of}
use Rattle.rt_segment.specs.Reading.{first_past, are_clear, has_id, first_unused}

abbrev some_number : ℕ → Option ℕ
some_number n = Some n

-- ---- ids past a cardinality

pub past_more : (cardinality row : ℕ) (ids : List ℕ) (d : ℕ) → row < length ids →
    first_past cardinality row (drop row ids) ≡ cond (ltb (get_or ids row d) cardinality) (first_past cardinality (row + 1) (drop (row + 1) ids)) (Some row)
past_more cardinality row ids d lt = ap (first_past cardinality row) (drop_more ids row d lt)

pub past_end : (cardinality row : ℕ) (ids : List ℕ) → length ids ≤ row → first_past cardinality row (drop row ids) ≡ None
past_end cardinality row ids le = ap (first_past cardinality row) (drop_all row ids le)

-- ---- spare bits

first_bit : (bit : ℕ) (bits : List ℕ) → number_of 1 (bit ∷ bits) ≡ bit
first_bit bit bits = omega arith

pub clear_more : (bits : List ℕ) (i : ℕ) → i < length bits → are_clear (drop i bits) ≡ ((number_of 1 (drop (i * 1) bits) == 0) && are_clear (drop (i + 1) bits))
clear_more bits i lt =
    let e = drop_more bits i 0 lt in
    let one : i * 1 ≡ i = omega arith in
    let bit : number_of 1 (drop (i * 1) bits) ≡ get_or bits i 0 = ap (λ n. number_of 1 (drop n bits)) one ∙ ap (λ bs. number_of 1 bs) e ∙ first_bit (get_or bits i 0) (drop (i + 1) bits) in
    ap are_clear e ∙ ap (λ b. (b == 0) && are_clear (drop (i + 1) bits)) (sym bit)

pub clear_end : (bits : List ℕ) (i : ℕ) → length bits ≤ i → are_clear (drop i bits) ≡ true
clear_end bits i le = ap are_clear (drop_all i bits le)

-- ---- unused values

or_push : (a b c : Bool) → (a || (b || c)) ≡ ((a || b) || c)
or_push true b c = refl
or_push false b c = refl

or_none : (b : Bool) → (b || false) ≡ b
or_none true = refl
or_none false = refl

has_push : (id : ℕ) (ids : List ℕ) (other : ℕ) → has_id id (ids ++ other ∷ []) ≡ (has_id id ids || (other == id))
has_push id [] other = or_none (other == id)
has_push id (x ∷ ids) other = ap (λ b. (x == id) || b) (has_push id ids other) ∙ or_push (x == id) (has_id id ids) (other == id)

pub has_more : (id : ℕ) (ids : List ℕ) (i d : ℕ) → i < length ids → has_id id (take (i + 1) ids) ≡ (has_id id (take i ids) || (get_or ids i d == id))
has_more id ids i d lt = ap (has_id id) (take_more ids i d lt) ∙ has_push id (take i ids) (get_or ids i d)

pub unused_more : (count id : ℕ) (ids : List ℕ) → id < count → first_unused (count - id) id ids ≡ cond (has_id id ids) (first_unused (count - (id + 1)) (id + 1) ids) (Some id)
unused_more count id ids lt =
    let k : count - id ≡ suc (count - (id + 1)) = omega arith in
    ap (λ n. first_unused n id ids) k

pub unused_end : (count id : ℕ) (ids : List ℕ) → count ≤ id → first_unused (count - id) id ids ≡ None
unused_end count id ids le =
    let k : count - id ≡ 0 = omega arith in
    ap (λ n. first_unused n id ids) k

or_true : (b : Bool) → (b || true) ≡ true
or_true true = refl
or_true false = refl

eqb_other : (x y : ℕ) (b : Bool) → (x == y) ≡ b → (x ≡ y → ⊥) → b ≡ false
eqb_other x y true e apart = absurd (apart (eqb-true x y e))
eqb_other x y false e apart = refl

-- one mark more
pub marked_more : (used : List Bool) (ids : List ℕ) (i : ℕ) → i < length ids → All (λ id. id < length used) ids →
    ((id : ℕ) → id < length used → get_or used id false ≡ has_id id (take i ids)) →
    (id : ℕ) → id < length (set used (get_or ids i 0) true) → get_or (set used (get_or ids i 0) true) id false ≡ has_id id (take (i + 1) ids)
marked_more used ids i lt known so_far id in_range =
    let x = get_or ids i 0 in
    let inside : x < length used = known i 0 lt in
    let within : id < length used = omega (arith, length-set used x true) in
    elim (cases_eq x id) [
      | inl same ↦ ap (λ k. get_or (set used x true) k false) (sym same) ∙ get_or-set_same used x true false inside
          ∙ sym (has_more id ids i 0 lt ∙ ap (λ b. has_id id (take i ids) || b) (ap (λ k. x == k) (sym same) ∙ eq-eqb x x refl) ∙ or_true (has_id id (take i ids)))
      | inr apart ↦ get_or-set_other used x id true false (λ e. apart (sym e)) ∙ so_far id within
          ∙ sym (has_more id ids i 0 lt ∙ ap (λ b. has_id id (take i ids) || b) (eqb_other x id (x == id) refl apart) ∙ or_none (has_id id (take i ids)))
    ]

some_is : (x y : ℕ) → some_number x ≡ some_number y → x ≡ y
some_is x y e = cc

-- a row past the cardinality is a row
pub past_within : (cardinality from : ℕ) (ids : List ℕ) (row : ℕ) → first_past cardinality from ids ≡ Some row → row < from + length ids
past_within cardinality from [] row e = absurd cc
past_within cardinality from (id ∷ ids) row e = elim (cases_Bool (nat_lt id cardinality)) [
  | inl below ↦ omega (arith, past_within cardinality (from + 1) ids row (sym (ap (λ b. cond b (first_past cardinality (from + 1) ids) (Some from)) below) ∙ e))
  | inr past ↦ omega (arith, some_is from row (sym (ap (λ b. cond b (first_past cardinality (from + 1) ids) (Some from)) past) ∙ e))
]

eighths : (a b : ℕ) → a ≤ b → a / 8 ≤ (b + 7) / 8
eighths a b le = omega (arith, le)

-- the bits of a row stand within those of all
pub bits_within : (width row rows : ℕ) → row < rows → row * width / 8 ≤ (rows * width + 7) / 8
bits_within width row rows lt = eighths (row * width) (rows * width) (mul-le row width rows width (omega arith) (omega arith))

none_past_at : (cardinality id : ℕ) (ids : List ℕ) → id < cardinality → All (λ id. id < cardinality) ids → All (λ id. id < cardinality) (id ∷ ids)
none_past_at cardinality id ids lt rest = All-cons (λ id. id < cardinality) id ids lt rest

-- where no row is past the cardinality, all ids are below it
pub none_past : (cardinality from : ℕ) (ids : List ℕ) → first_past cardinality from ids ≡ None → All (λ id. id < cardinality) ids
none_past cardinality from [] e k d l = absurd (omega arith)
none_past cardinality from (id ∷ ids) e k d l = elim (cases_Bool (nat_lt id cardinality)) [
  | inl below ↦ none_past_at cardinality id ids (ltb-true _ _ below) (none_past cardinality (from + 1) ids (sym (ap (λ b. cond b (first_past cardinality (from + 1) ids) (Some from)) below) ∙ e)) k d l
  | inr past ↦ absurd (none-some from (sym e ∙ ap (λ b. cond b (first_past cardinality (from + 1) ids) (Some from)) past))
]

has_stands : (id : ℕ) (ids : List ℕ) → has_id id ids ≡ true → Contains ids id
has_stands id [] e = absurd (false≢true e)
has_stands id (x ∷ ids) e = elim (cases_Bool (x == id)) [
  | inl same ↦ (0, omega arith, eqb-true x id same)
  | inr apart ↦ let rest = has_stands id ids (sym (ap (λ b. b || has_id id ids) apart) ∙ e) in (suc rest.0, omega (arith, rest.1), rest.2)
]

-- where none is unused, each value is that of a row
pub none_unused : (count from : ℕ) (ids : List ℕ) → first_unused count from ids ≡ None → (id : ℕ) → from ≤ id → id < from + count → Contains ids id
none_unused zero from ids e id low high = absurd (omega arith)
none_unused (suc more) from ids e id low high = elim (cases_Bool (has_id from ids)) [
  | inr unused ↦ absurd (none-some from (sym e ∙ ap (λ b. cond b (first_unused more (from + 1) ids) (Some from)) unused))
  | inl used ↦ elim (cases_eq from id) [
    | inl same ↦ has_stands id ids (ap (λ k. has_id k ids) (sym same) ∙ used)
    | inr apart ↦ none_unused more (from + 1) ids (sym (ap (λ b. cond b (first_unused more (from + 1) ids) (Some from)) used) ∙ e) id (omega arith) (omega arith)
  ]
]

pub all_used : (count : ℕ) (ids : List ℕ) → first_unused count 0 ids ≡ None → (id : ℕ) → id < count → Contains ids id
all_used count ids e id lt = none_unused count 0 ids e id (omega arith) (omega arith)
