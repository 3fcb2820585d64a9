use Rattle.std.proofs.Common.{ap, ◌∙◌}
use Rattle.rt_postings.specs.Words.{marks_of}
use Rattle.rt_postings.proofs.Marks.{marks_zeros}
use Rattle.rt_postings.proofs.doc_set.DocSet.empty.Goals as goal

pub returns : goal.returns
returns c = ap (λ words. marks_of c.args.rows words) (c.in_ok-words.ensures.items_if_clones_equal (λ y e. e)) ∙ marks_zeros c.args.rows c.div_ceil.result
