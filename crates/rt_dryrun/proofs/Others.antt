-- The other servers that are up.
use Rattle.std.proofs.Common.{◌≡◌, ℕ, ◌+◌, Bool, true, false, cond, List, [], ◌∷◌, ◌++◌, add-one, sym, ap, ◌∙◌}
use Rattle.std.proofs.lemmas.List.{append-nil}
use Rattle.rt_base.specs.declared.numbers.Instance.{Instance}
use Rattle.rt_state.specs.declared.state.State.{State}
use Rattle.rt_dryrun.specs.Peers.{is_other, numbered, others_below}

abbrev with_one : State → Instance → ℕ → Bool → List Instance
with_one w i n b = others_below w i n ++ cond b (numbered n ∷ []) []

more : (w : State) (i : Instance) (n : ℕ) → others_below w i (n + 1) ≡ with_one w i n (is_other w i n)
more w i n = ap (others_below w i) (add-one n)

-- a server more
pub other_more : (w : State) (i : Instance) (n : ℕ) (items : List Instance) → items ≡ others_below w i n → is_other w i n ≡ true
    → items ++ numbered n ∷ [] ≡ others_below w i (n + 1)
other_more w i n items e is =
    ap (λ (xs : List Instance). xs ++ numbered n ∷ []) e ∙ sym (more w i n ∙ ap (with_one w i n) is)

-- this one, or a server that is down
pub other_less : (w : State) (i : Instance) (n : ℕ) (items : List Instance) → items ≡ others_below w i n → is_other w i n ≡ false
    → items ≡ others_below w i (n + 1)
other_less w i n items e is =
    e ∙ sym (more w i n ∙ ap (with_one w i n) is ∙ append-nil (others_below w i n))
