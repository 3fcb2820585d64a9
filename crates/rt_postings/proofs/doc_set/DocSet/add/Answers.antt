use Rattle.std.proofs.Common.{◌≡◌, ◌<◌, ◌/◌, ◌%◌, ◌*◌, ◌^◌, true, arith, ap, length, ◌∙◌, refl, get_or, set, bit_or}
use Rattle.std.proofs.lemmas.List.{length-set, get_or_read}
use Rattle.rt_postings.proofs.Marks.{length_marks, marks_added, clear_added}
use Rattle.rt_postings.proofs.doc_set.DocSet.add.Goals as goal
use Rattle.rt_postings.proofs.doc_set.DocSet.add.Goals.{After-index_mut}

pub index_mut-requires : goal.index_mut-requires
index_mut-requires c = omega (arith, length_marks c.self.inside.rows c.self.inside.words.items, ap length c.self.view_is)

-- the row is below the row count, and its word is there
row_within : (c : After-index_mut) → c.args.row < c.self.inside.rows
row_within c = omega (arith, length_marks c.self.inside.rows c.self.inside.words.items, ap length c.self.view_is, c.requires)

word_within : (c : After-index_mut) → c.args.row / 64 < length c.self.inside.words.items
word_within c = omega (arith, row_within c, c.self.invariant.0)

word_is : (c : After-index_mut) →
    bit_or c.index_mut.result.now (1 * 2 ^ (c.args.row % 64) % 2 ^ 64) ≡ bit_or (get_or c.self.inside.words.items (c.args.row / 64) 0) (1 * 2 ^ (c.args.row % 64) % 2 ^ 64)
word_is c =
    let row = c.args.row in
    ap (λ w. bit_or w (1 * 2 ^ (row % 64) % 2 ^ 64)) (get_or_read c.self.inside.words.items (row / 64) c.index_mut.result.now (word_within c) c.index_mut.ensures.value 0)

pub invariant_of-self : goal.invariant_of-self
invariant_of-self c =
    let at = goal.at.invariant_of-self c in
    let words = c.self.inside.words.items in
    let row = c.args.row in (
      length-set words (row / 64) (bit_or c.index_mut.result.now (1 * 2 ^ (row % 64) % 2 ^ 64)) ∙ c.self.invariant.0,
      clear_added c.self.inside.rows words row (row / 64) (bit_or c.index_mut.result.now (1 * 2 ^ (row % 64) % 2 ^ 64))
          (row_within at.After-index_mut) refl (word_within at.After-index_mut) (word_is at.After-index_mut) c.self.invariant.1,
    )

pub returns : goal.returns
returns c =
    let at = goal.at.returns c in
    let words = c.self.inside.words.items in
    let row = c.args.row in
    marks_added c.self.inside.rows words row (row / 64) (bit_or c.index_mut.result.now (1 * 2 ^ (row % 64) % 2 ^ 64))
    (row_within at.After-index_mut) refl (word_within at.After-index_mut) (word_is at.After-index_mut)
    ∙ ap (λ s. set s row true) c.self.view_is
