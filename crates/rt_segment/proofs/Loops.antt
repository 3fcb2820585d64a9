-- Lists that are read item by item: what was read, then what is read of the rest, is what is read of all.
use Rattle.std.proofs.Common.{◌≡◌, ℕ, suc, ◌+◌, ◌-◌, ◌<◌, ◌≤◌, Bool, true, false, List, [], ◌∷◌, ◌++◌, Option, Some, length, slice_get, Result, Ok, Err, refl, sym, ap, ◌∙◌, append_assoc, arith}
use Rattle.std.proofs.lemmas.List.{append-nil, length_push, get_or_push}
use Rattle.std.proofs.lemmas.Option.{slice_get-get_or}
use Rattle.rt_dict.specs.Values.{is_past_last}
use Rattle.rt_segment.specs.declared.segment_refused.SegmentRefused.{SegmentRefused}
use Rattle.rt_segment.specs.declared.segment_refused.SegmentRefused.TheVariants.{Truncated, Magic, NotCanonical, Digest, Limit, Memory}
use Rattle.rt_segment.specs.Cursor.{Cursor, Read, ◌>>=◌, Refuses, breach}
use Rattle.rt_segment.specs.Reading.{values_at}

abbrev pub with_front : {X : Type 0} → List X → Read (List X) → Read (List X)
with_front front (Ok x) = Ok (front ++ x.0, x.1)
with_front front (Err e) = Err e

abbrev pub last_in : {X : Type 0} → List X → Option X
last_in xs = slice_get xs (length xs - 1)

last_push : {X : Type 0} (xs : List X) (x : X) → last_in (xs ++ x ∷ []) ≡ Some x
last_push xs x =
    let size = length_push xs x in
    let place : length (xs ++ x ∷ []) - 1 ≡ length xs = omega arith in
    ap (λ i. slice_get (xs ++ x ∷ []) i) place ∙ slice_get-get_or (xs ++ x ∷ []) (length xs) x (omega arith) ∙ ap Some (get_or_push xs x x (length xs) refl)

pub regroup : {X : Type 0} (front : List X) (x : X) (r : Read (List X)) → with_front front (r >>= λ xs. Ok (x ∷ xs.0, xs.1)) ≡ with_front (front ++ x ∷ []) r
regroup front x (Ok y) = ap (λ xs. Ok (xs, y.1)) (sym (append_assoc front (x ∷ []) y.0))
regroup front x (Err e) = refl

-- a fault that a call refused is that of all, where that of the rest is
pub refused : {X Y : Type 0} (e : SegmentRefused) (r : Result X SegmentRefused) (all : Result Y SegmentRefused) → Refuses e r → ((f : SegmentRefused) → r ≡ Err f → all ≡ Err f) → Refuses e all
refused Memory r all h same = tt
refused Truncated r all h same = same Truncated h
refused Magic r all h same = same Magic h
refused (NotCanonical byte) r all h same = same (NotCanonical byte) h
refused Digest r all h same = same Digest h
refused Limit r all h same = same Limit h

module _ {K : Type 0} (below : K → K → Bool) (at : Cursor → Read K) where
  abbrev left : List K → ℕ → Cursor → Read (List K)
  left front n c = with_front front (values_at below at n (last_in front) c)

  pub value_taken : (front : List K) (count i : ℕ) (c : Cursor) (v : K) (d : Cursor) (all : Read (List K)) → i < count → at c ≡ Ok (v, d) → is_past_last below front v ≡ true
      → left front (count - i) c ≡ all → left (front ++ v ∷ []) (count - (i + 1)) d ≡ all
  unfolding values_at
  value_taken front count i c v d all lt h past so_far =
      let k : count - i ≡ suc (count - (i + 1)) = omega arith in
      let last : last_in (front ++ v ∷ []) ≡ Some v = last_push front v in
      let one : left front (count - i) c ≡ with_front (front ++ v ∷ []) (values_at below at (count - (i + 1)) (Some v) d) = rw (k, h, past) (regroup front v (values_at below at (count - (i + 1)) (Some v) d)) in
      ap (λ o. with_front (front ++ v ∷ []) (values_at below at (count - (i + 1)) o d)) last ∙ sym one ∙ so_far

  pub value_wrong : (front : List K) (count i : ℕ) (c : Cursor) (v : K) (d : Cursor) (all : Read (List K)) → i < count → at c ≡ Ok (v, d) → is_past_last below front v ≡ false
      → left front (count - i) c ≡ all → all ≡ breach c
  unfolding values_at
  value_wrong front count i c v d all lt h past so_far =
      let k : count - i ≡ suc (count - (i + 1)) = omega arith in
      let one : left front (count - i) c ≡ breach c = rw (k, h, past) refl in
      sym so_far ∙ one

  pub value_refused : (front : List K) (count i : ℕ) (c : Cursor) (e : SegmentRefused) (all : Read (List K)) → i < count → Refuses e (at c)
      → left front (count - i) c ≡ all → Refuses e all
  unfolding values_at
  value_refused front count i c e all lt h so_far =
      let k : count - i ≡ suc (count - (i + 1)) = omega arith in
      refused e (at c) all h (λ f told. sym so_far ∙ rw (k, told) refl)

  pub values_done : (front : List K) (count i : ℕ) (c : Cursor) (all : Read (List K)) → count ≤ i → left front (count - i) c ≡ all → all ≡ Ok (front, c)
  unfolding values_at
  values_done front count i c all le so_far =
      let k : count - i ≡ 0 = omega arith in
      let one : left front (count - i) c ≡ Ok (front, c) = rw k (ap (λ xs. Ok (xs, c)) (append-nil front)) in
      sym so_far ∙ one
