use Rattle.std.proofs.Common.{sym, ◌∙◌, subst, arith}
use Rattle.std.specs.List.{Contains}
use Rattle.rt_segment.proofs.column_reader.read_column.Goals as goal

pub make-requires-clause-used : goal.make-requires-clause-used
make-requires-clause-used c = λ id lt.
    subst (λ xs. Contains xs id) (c.deref.ensures.value ∙ sym c.of.ensures) (c.in_ok-check_used.ensures.used id (omega (arith, lt, c.in_ok-dictionary.ensures.count)))
