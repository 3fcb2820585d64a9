-- What a fault of a predicate is answered by.
use Rattle.std.specs.Prelude.{Option, Some, None, Result, Ok, Err}
use Rattle.rt_schema.specs.declared.column.Kind.{Kind}
use Rattle.rt_filter.specs.declared.filter_refused.FilterRefused.{FilterRefused}
use Rattle.rt_filter.specs.declared.filter_refused.FilterRefused.TheVariants as refused
use Rattle.rt_model.specs.Checked.{Fault, NoColumn, WrongType}

abbrev pub refusal_of : Fault → FilterRefused
refusal_of NoColumn = refused.NoColumn
refusal_of WrongType = refused.WrongType

abbrev pub refused_by : Option Fault → Result (Unit {0}) FilterRefused
refused_by None = Ok tt
refused_by (Some fault) = Err (refusal_of fault)

abbrev pub kind_or_refused : Option Kind → Result Kind FilterRefused
kind_or_refused None = Err refused.NoColumn
kind_or_refused (Some kind) = Ok kind
