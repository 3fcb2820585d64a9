use Rattle.std.proofs.Common.{◌≡◌, ◌<◌, ◌/◌, ◌%◌, ◌*◌, ◌+◌, ◌^◌, ℕ, List, arith, ap, subst, length, bit_and, get_or}
use Rattle.std.proofs.lemmas.List.{get_or_read}
use Rattle.std.proofs.lemmas.Option.{IfSome_then}
use Rattle.std.proofs.lemmas.Nat.{and_le_r}
use Rattle.rt_postings.specs.Words.{NoneMarkedFrom, IsMarkedNext}
use Rattle.rt_postings.proofs.Scans.{found_first, found_later, none_later, next_is, none_is, none_then}
use Rattle.rt_postings.proofs.doc_set.DocSet.next_from.Goals as goal
use Rattle.rt_postings.proofs.doc_set.DocSet.next_from.Goals.{After-index}

-- the word of the row from the row on
first_is : (c : After-index) →
    bit_and c.index.result.now (18446744073709551615 * 2 ^ (c.args.row % 64) % 2 ^ 64) ≡ bit_and (get_or c.self.inside.words.items (c.args.row / 64) 0) (18446744073709551615 * 2 ^ (c.args.row % 64) % 2 ^ 64)
first_is c =
    let row = c.args.row in
    let words = c.self.inside.words.items in
    let within : row / 64 < length words = omega (arith, c.if-row-self.false, c.self.invariant.0) in
    ap (λ w. bit_and w (18446744073709551615 * 2 ^ (row % 64) % 2 ^ 64)) (get_or_read words (row / 64) c.index.result.now within c.index.ensures 0)

pub returns-then-row-self-clause-none : goal.returns-then-row-self-clause-none
returns-then-row-self-clause-none c =
    none_is c.self.inside.rows c.self.inside.words.items c.args.self.now c.args.row c.self.invariant.1 c.self.view_is (λ r l. c.self.invariant.1 r (omega (arith, c.if-row-self.true)))

pub returns-then-first-ne0-clause-found : goal.returns-then-first-ne0-clause-found
returns-then-first-ne0-clause-found c =
    let row = c.args.row in
    let first = bit_and c.index.result.now (18446744073709551615 * 2 ^ (row % 64) % 2 ^ 64) in
    let fits : first < 2 ^ 64 = omega (arith, and_le_r c.index.result.now (18446744073709551615 * 2 ^ (row % 64) % 2 ^ 64)) in
    next_is c.self.inside.rows c.self.inside.words.items c.args.self.now row _ c.self.invariant.1 c.self.view_is
    (found_first c.self.inside.words.items row first (first_is (goal.at.returns-then-first-ne0-clause-found c).After-index) c.if-first-ne0.true fits)

pub returns-clause-found : goal.returns-clause-found
returns-clause-found c =
    let row = c.args.row in
    let words = c.self.inside.words.items in
    let first = bit_and c.index.result.now (18446744073709551615 * 2 ^ (row % 64) % 2 ^ 64) in
    IfSome_then c.first_marked.result c.first_marked.ensures.found (λ found next.
    next_is c.self.inside.rows words c.args.self.now row found c.self.invariant.1 c.self.view_is
    (found_later words row first found (first_is (goal.at.returns-clause-found c).After-index) c.if-first-ne0.false
    (subst (λ (ws : List ℕ). IsMarkedNext ws (64 * (row / 64 + 1)) found) c.deref.ensures.value next)))

pub returns-clause-none : goal.returns-clause-none
returns-clause-none c =
    let row = c.args.row in
    let words = c.self.inside.words.items in
    let first = bit_and c.index.result.now (18446744073709551615 * 2 ^ (row % 64) % 2 ^ 64) in
    none_then c.first_marked.result
    (λ none. none_is c.self.inside.rows words c.args.self.now row c.self.invariant.1 c.self.view_is
    (none_later words row first (first_is (goal.at.returns-clause-none c).After-index) c.if-first-ne0.false
    (subst (λ (ws : List ℕ). NoneMarkedFrom ws (64 * (row / 64 + 1))) c.deref.ensures.value none)))
    c.first_marked.ensures.none
