use Rattle.std.proofs.Common.{◌≡◌, ◌<◌, ap, sym, ◌∙◌, Some, length, slice_get, arith}
use Rattle.std.specs.Option.{is_some}
use Rattle.rt_postings.specs.Postings.{postings_of}
use Rattle.rt_segment.specs.Column.{count_in}
use Rattle.rt_segment.proofs.Rows.{at_some, length_postings, docs_at}
use Rattle.rt_segment.proofs.segment_column.SegmentColumn.docs.Goals as goal

pub docs-requires : goal.docs-requires
docs-requires c =
    let inside = c.self.inside in
    let are = at_some inside.postings c.in-Some.postings (postings_of inside.ids (count_in inside.dictionary)) c.in-Some.is c.self.invariant.1 in
    omega (arith, ap length are, length_postings inside.ids (count_in inside.dictionary), ap (λ s. count_in s.dictionary) c.self.view_is, c.requires)

pub returns-in-Some-clause-some : goal.returns-in-Some-clause-some
returns-in-Some-clause-some c =
    let inside = c.self.inside in
    let count = count_in inside.dictionary in
    let are = at_some inside.postings c.in-Some.postings (postings_of inside.ids count) c.in-Some.is c.self.invariant.1 in
    let known : c.args.id < count = omega (arith, ap (λ s. count_in s.dictionary) c.self.view_is, c.requires) in
    let at : slice_get (postings_of inside.ids count) c.args.id ≡ Some c.docs.result.now = ap (λ ls. slice_get ls c.args.id) (sym are) ∙ c.docs.ensures in
    rw (← c.self.view_is) (ap is_some c.in-Some.is, docs_at inside.ids count c.args.id c.docs.result.now known at)
