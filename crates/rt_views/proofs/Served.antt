-- What servers serve of pieces, one by one.
use Rattle.std.proofs.Common.{◌≡◌, ℕ, ◌+◌, ◌<◌, ◌≤◌, true, List, [], ◌∷◌, ◌++◌, length, drop, get_or, Option, Some, None, option_map, sym, ap, ◌∙◌}
use Rattle.std.specs.Prelude.{IfSome}
use Rattle.std.proofs.lemmas.Bool.{leb-true}
use Rattle.rt_base.specs.declared.numbers.Instance.{Instance}
use Rattle.rt_base.specs.declared.numbers.Offset.{Offset}
use Rattle.rt_model.specs.declared.piece.Piece.{Piece}
use Rattle.rt_schema.proofs.Lists.{drop_next, map_all_more, map_all_none}
use Rattle.rt_views.specs.Plans.{ends_behind, first_of, or_else}
use Rattle.rt_views.specs.Views.{all_from, found_from}
use Rattle.rt_views.specs.declared.found.Found.{Found}
use Rattle.rt_state.specs.declared.state.State.{State}

pub in_order : (start : Offset) (end : Option Offset) → ends_behind start end ≡ true → IfSome end (λ e. start.0 ≤ e.0)
in_order start None h = tt
in_order start (Some e) h = leb-true start.0 e.0 h

-- ---- the first server that has something

module _ {X : Type 0} where
  first_next : (f : Instance → Option X) (is : List Instance) (k : ℕ) (i : Instance) (o : Option X) → k < length is → i ≡ get_or is k i → o ≡ f i → first_of f (drop k is) ≡ or_else o (first_of f (drop (k + 1) is))
  first_next f is k i o within at gives = ap (first_of f) (drop_next is k i within at) ∙ ap (λ (x : Option X). or_else x (first_of f (drop (k + 1) is))) (sym gives)

  -- this one hasn't
  pub first_later : (f : Instance → Option X) (is : List Instance) (k : ℕ) (i : Instance) (all : Option X) → k < length is → i ≡ get_or is k i → None ≡ f i → first_of f (drop k is) ≡ all → first_of f (drop (k + 1) is) ≡ all
  first_later f is k i all within at gives was = sym (first_next f is k i None within at gives) ∙ was

-- ---- each piece of one server

pub all_more : (w : State) (i : Instance) (pieces : List Piece) (k : ℕ) (piece : Piece) (found : Found) (all : List Found) (before : Option (List Found)) → k < length pieces → piece ≡ get_or pieces k piece → Some found ≡ found_from w i piece
    → before ≡ option_map (λ later. all ++ later) (all_from w (drop k pieces) i) → before ≡ option_map (λ later. (all ++ found ∷ []) ++ later) (all_from w (drop (k + 1) pieces) i)
all_more w i pieces k piece found all before within at gives was = map_all_more (found_from w i) pieces k piece found all before within at gives was

pub all_none : (w : State) (i : Instance) (pieces : List Piece) (k : ℕ) (piece : Piece) (all : List Found) (before : Option (List Found)) → k < length pieces → piece ≡ get_or pieces k piece → None ≡ found_from w i piece
    → before ≡ option_map (λ later. all ++ later) (all_from w (drop k pieces) i) → None ≡ before
all_none w i pieces k piece all before within at gives was = map_all_none (found_from w i) pieces k piece all before within at gives was
