-- Tests of texts, and faults that are passed on.
use Rattle.std.proofs.Common.{◌≡◌, ℕ, true, false, List, Result, Err, ap, inl, inr}
use Rattle.std.specs.Str.{IsUtf8, is_utf8}
use Rattle.std.proofs.lemmas.Bool.{cases_Bool}
use Rattle.std.proofs.lemmas.Str.{IsUtf8-from_is_utf8, is_utf8-from_IsUtf8}
use Rattle.rt_segment.specs.declared.segment_refused.SegmentRefused.{SegmentRefused}
use Rattle.rt_segment.specs.declared.segment_refused.SegmentRefused.TheVariants.{Truncated, Magic, NotCanonical, Digest, Limit, Memory}
use Rattle.rt_segment.specs.Cursor.{Refuses}

pub text_is : (bytes : List ℕ) → IsUtf8 bytes → is_utf8 bytes ≡ true
text_is bytes h = is_utf8-from_IsUtf8 bytes h

pub text_is_not : (bytes : List ℕ) → (IsUtf8 bytes → ⊥) → is_utf8 bytes ≡ false
text_is_not bytes h = elim (cases_Bool (is_utf8 bytes)) [
  | inl told ↦ absurd (h (IsUtf8-from_is_utf8 bytes told))
  | inr not_so ↦ not_so
]

-- a fault is a refusal by itself
pub refuses_itself : {Y : Type 0} (e : SegmentRefused) (read : Result Y SegmentRefused) → read ≡ Err e → Refuses e read
refuses_itself Memory read h = tt
refuses_itself Truncated read h = h
refuses_itself Magic read h = h
refuses_itself (NotCanonical byte) read h = h
refuses_itself Digest read h = h
refuses_itself Limit read h = h

abbrev fault : {Y : Type 0} → SegmentRefused → Result Y SegmentRefused
fault e = Err e

-- equal faults refuse alike
pub breaks : {Y : Type 0} (e f : SegmentRefused) → e ≡ f → fault {Y = Y} e ≡ fault f
breaks e f same = ap fault same
