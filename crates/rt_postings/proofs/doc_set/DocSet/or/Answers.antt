use Rattle.std.proofs.Common.{◌≡◌, ◌+◌, ◌/◌, ℕ, List, ap, length, ◌∙◌, sym, subst, get_or, bit_or}
use Rattle.std.proofs.lemmas.List.{with_items_is}
use Rattle.std.specs.Prelude.{◌||◌}
use Rattle.std.specs.Vec.{with_items}
use Rattle.rt_postings.specs.DocSet.{either}
use Rattle.rt_postings.specs.Words.{marked, marks_of, NoneMarkedFrom}
use Rattle.rt_postings.proofs.Marks.{length_marks, marked_or, marks_or, clear_or}
use Rattle.rt_postings.proofs.doc_set.DocSet.or.Goals as goal
use Rattle.rt_postings.proofs.doc_set.DocSet.or.Goals.{After-deref, After-or_words}

-- both sets have as many rows, and so as many words
same_rows : (c : After-deref) → c.self.inside.rows ≡ c.other.inside.rows
same_rows c =
    sym (length_marks c.self.inside.rows c.self.inside.words.items) ∙ ap length c.self.view_is ∙ c.requires
    ∙ sym (ap length c.other.view_is) ∙ length_marks c.other.inside.rows c.other.inside.words.items

same_words : (c : After-deref) → length c.self.inside.words.items ≡ length c.other.inside.words.items
same_words c = c.self.invariant.0 ∙ ap (λ n. (n + 63) / 64) (same_rows c) ∙ sym c.other.invariant.0

pub or_words-requires : goal.or_words-requires
or_words-requires c =
    ap length c.deref_mut.ensures.value ∙ same_words (goal.at.or_words-requires c).After-deref ∙ sym (ap length c.deref.ensures.value)

-- the new words, and their rows
new_words : (c : After-or_words) → (with_items c.self.inside.words c.or_words.new.words).items ≡ c.or_words.new.words
new_words c = with_items_is c.self.inside.words c.or_words.new.words (c.or_words.auto.words ∙ c.deref_mut.ensures.len)

new_marks : (c : After-or_words) → length c.self.inside.words.items ≡ length c.other.inside.words.items → (r : ℕ) →
    marked c.or_words.new.words r ≡ (marked c.self.inside.words.items r || marked c.other.inside.words.items r)
new_marks c same =
    marked_or c.self.inside.words.items c.other.inside.words.items c.or_words.new.words (c.or_words.auto.words ∙ ap length c.deref_mut.ensures.value) same
    (λ k l. c.or_words.ensures k l ∙ ap (λ ws. bit_or (get_or ws k 0) (get_or c.deref.result.now k 0)) c.deref_mut.ensures.value
    ∙ ap (λ ws. bit_or (get_or c.self.inside.words.items k 0) (get_or ws k 0)) c.deref.ensures.value)

pub invariant_of-self : goal.invariant_of-self
invariant_of-self c =
    let d = (goal.at.invariant_of-self c).After-deref in
    let e = (goal.at.invariant_of-self c).After-or_words in (
      ap length (new_words e) ∙ c.or_words.auto.words ∙ ap length c.deref_mut.ensures.value ∙ c.self.invariant.0,
      subst (λ (ws : List ℕ). NoneMarkedFrom ws c.self.inside.rows) (sym (new_words e))
          (clear_or c.self.inside.rows c.self.inside.words.items c.other.inside.words.items c.or_words.new.words c.self.invariant.1 (subst (λ n. NoneMarkedFrom c.other.inside.words.items n) (sym (same_rows d)) c.other.invariant.1) (new_marks e (same_words d))),
    )

pub returns : goal.returns
returns c =
    let d = (goal.at.returns c).After-deref in
    let e = (goal.at.returns c).After-or_words in
    ap (λ ws. marks_of c.self.inside.rows ws) (new_words e)
    ∙ marks_or c.self.inside.rows c.self.inside.words.items c.other.inside.words.items c.or_words.new.words (new_marks e (same_words d))
    ∙ ap (λ s. either s (marks_of c.self.inside.rows c.other.inside.words.items)) c.self.view_is
    ∙ ap (λ s. either c.args.self.now s) (ap (λ n. marks_of n c.other.inside.words.items) (same_rows d) ∙ c.other.view_is)
