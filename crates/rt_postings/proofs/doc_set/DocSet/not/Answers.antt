use Rattle.std.proofs.Common.{◌∙◌, ap, map, not}
use Rattle.std.proofs.lemmas.List.{with_items_is}
use Rattle.rt_postings.specs.Words.{marked, marks_of}
use Rattle.rt_postings.proofs.Marks.{marks_not}
use Rattle.rt_postings.proofs.doc_set.DocSet.not.Goals as goal

pub returns : goal.returns
returns c =
    let rows = c.self.inside.rows in
    ap (λ ws. marks_of rows ws) (with_items_is c.self.inside.words c.not_words.new.words (c.not_words.auto.words ∙ c.deref_mut.ensures.len))
    ∙ marks_not rows c.self.inside.words.items c.not_words.new.words
    (λ r l. c.not_words.ensures.within r l ∙ ap (λ ws. not (marked ws r)) c.deref_mut.ensures.value)
    ∙ ap (λ s. map not s) c.self.view_is
