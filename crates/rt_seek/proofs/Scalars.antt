-- The whole numbers of values that ids stand for.
use Rattle.std.proofs.Common.{◌≡◌, ℕ, zero, suc, List, [], ◌∷◌, map, None, refl}
use Rattle.rt_schema.specs.declared.value.Value.{Value}
use Rattle.rt_agg.specs.Reading.{scalar_of}
use Rattle.rt_seek.specs.Scalars.{led, scalar_on}
use Rattle.rt_seek.proofs.Held.{no_scalar}

-- values of a kind that has no whole numbers
pub none_led : {K : Type 0} (f : K → Value) → ((x : K) → scalar_of (f x) ≡ None) → (xs : List K) (ids : List ℕ) (row : ℕ) → None ≡ scalar_on (led (map f xs) ids) row
none_led f none xs [] row = refl
none_led f none xs (id ∷ ids) zero = no_scalar f none xs id
none_led f none xs (id ∷ ids) (suc row) = none_led f none xs ids row
