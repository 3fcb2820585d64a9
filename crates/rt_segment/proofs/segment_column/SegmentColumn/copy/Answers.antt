use Rattle.std.proofs.Common.{◌≡◌, ◌<◌, ◌++◌, ap, sym, ◌∙◌, subst}
use Rattle.std.specs.List.{Contains}
use Rattle.rt_segment.specs.Column.{count_in}
use Rattle.rt_segment.proofs.segment_column.SegmentColumn.copy.Goals as goal

pub make-requires-clause-used : goal.make-requires-clause-used
make-requires-clause-used c = λ id lt.
    let ids : c.of.result ≡ c.self.inside.ids = c.of.ensures ∙ c.in_ok-extend_from_slice.ensures.items ∙ ap (λ xs. xs ++ c.as_slice.result.now) c.new-ids.ensures.items ∙ c.as_slice.ensures in
    let known : id < count_in c.self.inside.dictionary = subst (λ d. id < count_in d) (c.in_ok-copy-2.ensures {u = tt}) lt in
    subst (λ xs. Contains xs id) (sym ids) (c.self.invariant.0.used id known)
