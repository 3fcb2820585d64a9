-- What several reads, or several writes, come to.
use Rattle.std.proofs.Common.{
  ◌≡◌,
  ℕ,
  ◌≤◌,
  List,
  ◌++◌,
  Option,
  Some,
  None,
  refl,
  sym,
  ap,
  arith,
  append_assoc,
}
use Rattle.rt_base.specs.Source.{put_back}
use Rattle.rt_base.specs.Sink.{added}

-- two pieces that were read are one
pub put_back_more : (first second : List ℕ) (left : Option (List ℕ))
    → put_back first (put_back second left) ≡ put_back (first ++ second) left
put_back_more first second None = refl
put_back_more first second (Some rest) = ap Some (sym (append_assoc first second rest))

-- two pieces that were written are one
pub added_more : (taken : Option (List ℕ)) (first second : List ℕ)
    → added (added taken first) second ≡ added taken (first ++ second)
added_more None first second = refl
added_more (Some bytes) first second = ap Some (append_assoc bytes first second)
