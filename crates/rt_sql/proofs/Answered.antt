-- What the check of filters answers of their faults and of the kinds of columns.
use Rattle.std.proofs.Common.{◌≡◌, Option, Some, None, refl}
use Rattle.std.specs.Option.{is_none}
use Rattle.std.specs.Result.{is_ok, result_ok}
use Rattle.rt_schema.specs.declared.column.Kind.{Kind}
use Rattle.rt_model.specs.Checked.{Fault}
use Rattle.rt_filter.specs.Refusal.{kind_or_refused, refused_by}

-- a filter is taken where it has no fault
pub fault_is_refused : (fault : Option Fault) → is_ok (refused_by fault) ≡ is_none fault
fault_is_refused None = refl
fault_is_refused (Some fault) = refl

-- what is answered of a column is its kind
pub kind_is_answered : (kind : Option Kind) → result_ok (kind_or_refused kind) ≡ kind
kind_is_answered None = refl
kind_is_answered (Some kind) = refl
