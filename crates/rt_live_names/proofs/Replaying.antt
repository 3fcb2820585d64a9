-- A replay goes on, and stays one by weaker steps.
use Rattle.std.proofs.Common.{List, [], ◌∷◌, ◌++◌, refl, subst}
use Rattle.rt_live_names.specs.Replays.{Replays}

module _ {D N : Type 0} where
  pub replays_more : (step : N → D → N → Type 0) (a b c : N) (ds : List D) (d : D) → Replays step a ds b → step b d c → Replays step a (ds ++ d ∷ []) c
  replays_more step a b c [] d same s = (c, subst (λ (x : N). step x d c) same s, refl)
  replays_more step a b c (x ∷ xs) d r s = (r.0, r.1, replays_more step r.0 b c xs d r.2 s)

  pub replays_as : (S T : N → D → N → Type 0) (a b : N) (ds : List D) → ((x : N) (d : D) (y : N) → S x d y → T x d y) → Replays S a ds b → Replays T a ds b
  replays_as S T a b [] weaker same = same
  replays_as S T a b (x ∷ xs) weaker r = (r.0, weaker a x r.0 r.1, replays_as S T r.0 b xs weaker r.2)
