use Rattle.std.proofs.Common.{◌/◌, ◌%◌, ◌<◌, arith, ap, length, ◌∙◌, sym}
use Rattle.std.proofs.lemmas.List.{get_or_read}
use Rattle.std.proofs.lemmas.Bool.{le-ltb}
use Rattle.std.proofs.lemmas.Nat.Bits.{shr_and_one}
use Rattle.std.specs.Prelude.{◌==◌}
use Rattle.std.specs.Int.{bit_at}
use Rattle.rt_postings.specs.DocSet.{has_row}
use Rattle.rt_postings.proofs.Marks.{has_is}
use Rattle.rt_postings.proofs.doc_set.DocSet.has.Goals as goal

pub returns-then-row-self : goal.returns-then-row-self
returns-then-row-self c =
    let words = c.self.inside.words.items in
    let row = c.args.row in
    let within : row / 64 < length words = omega (arith, c.if-row-self.true, c.self.invariant.0) in
    ap (λ b. b == 1) (shr_and_one c.index.result.now (row % 64))
    ∙ ap (λ w. bit_at w (row % 64) == 1) (get_or_read words (row / 64) c.index.result.now within c.index.ensures 0)
    ∙ sym (has_is c.self.inside.rows words row c.self.invariant.1)
    ∙ ap (λ s. has_row s row) c.self.view_is

pub returns-else-row-self : goal.returns-else-row-self
returns-else-row-self c =
    le-ltb c.args.row c.self.inside.rows c.if-row-self.false
    ∙ sym (c.self.invariant.1 c.args.row c.if-row-self.false)
    ∙ sym (has_is c.self.inside.rows c.self.inside.words.items c.args.row c.self.invariant.1)
    ∙ ap (λ s. has_row s c.args.row) c.self.view_is
