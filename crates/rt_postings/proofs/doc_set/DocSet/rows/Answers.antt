use Rattle.std.proofs.Common.{sym, ◌∙◌, ap, length}
use Rattle.rt_postings.proofs.Marks.{length_marks}
use Rattle.rt_postings.proofs.doc_set.DocSet.rows.Goals as goal

pub returns : goal.returns
returns c = sym (length_marks c.self.inside.rows c.self.inside.words.items) ∙ ap length c.self.view_is
