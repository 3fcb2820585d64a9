-- Terms behind NOTs.
use Rattle.std.proofs.Common.{◌≡◌, ℕ, suc, ◌-◌, ◌+◌, ◌<◌, arith, refl, subst, sym}
use Rattle.rt_model.specs.Tree.{Tree, Not}
use Rattle.rt_grammar.specs.Nested.{under}

-- one NOT less is left, and one more is read
pub under_step : (nots i : ℕ) (t : Tree) → i < nots → under (nots - (i + 1)) (Not t) ≡ under (nots - i) t
under_step nots i t h =
    let e : nots - i ≡ suc (nots - (i + 1)) = omega arith in
    subst (λ n. under (nots - (i + 1)) (Not t) ≡ under n t) (sym e) refl
