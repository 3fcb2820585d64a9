-- A table's name without its suffix.
use Rattle.std.proofs.Common.{◌≡◌, ℕ, List, ◌++◌, codes, sym, refl}
use Rattle.std.proofs.lemmas.Bool.{cond-false, false_from_ne_true}
use Rattle.std.proofs.lemmas.Bool.Decides.{Decides-eqb}
use Rattle.std.proofs.lemmas.Slice.Eq.{ends_is}
use Rattle.rt_schema.specs.TableText.{base_name}

pub no_suffix : (name : List ℕ) → ((front : List ℕ) → name ≡ front ++ codes "_REALTIME" → ⊥) → name ≡ base_name name
no_suffix name none = sym (cond-false _ _ _ (false_from_ne_true _ (λ e. none _ ((ends_is Decides-eqb name (codes "_REALTIME") _ refl).0 e))))
