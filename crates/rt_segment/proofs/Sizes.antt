-- How many bytes values take in a file, and a file itself.
use Rattle.std.proofs.Common.{◌≡◌, ℕ, ◌+◌, false, List, [], ◌++◌, Some, length, slice_get, take, refl, ap, arith}
use Rattle.std.specs.List.{flat_map}
use Rattle.std.proofs.lemmas.List.{append-nil, length-append}
use Rattle.sha2.specs.Sha256.{sha256}
use Rattle.sha2.proofs.Facts256.{length-sha256}
use Rattle.rt_segment.specs.Spelling.{capped, values_spelled}
use Rattle.rt_segment.proofs.Rows.{written_more}

pub no_extremes : {K : Type 0} (spelled : K → List ℕ) (vs : List K) → values_spelled spelled false vs ≡ flat_map spelled vs
no_extremes spelled vs = append-nil (flat_map spelled vs)

-- one value more
pub size_more : {K : Type 0} (spelled : K → List ℕ) (vs : List K) (i : ℕ) (v : K) (size one : ℕ) → slice_get vs i ≡ Some v → size ≡ capped (length (flat_map spelled (take i vs))) → one ≡ capped (length (spelled v)) → capped (size + one) ≡ capped (length (flat_map spelled (take (i + 1) vs)))
size_more spelled vs i v size one at so_far e =
    let whole = written_more spelled [] (flat_map spelled (take i vs)) (flat_map spelled (take i vs) ++ spelled v) vs i v at refl refl in
    omega (arith, so_far, e, length-append (flat_map spelled (take i vs)) (spelled v), ap length whole)

-- a body, and its digest behind it
pub with_digest : (body : List ℕ) → length (body ++ sha256 body) ≡ length body + 32
with_digest body = omega (arith, length-append body (sha256 body), length-sha256 body)
