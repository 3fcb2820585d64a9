use Rattle.std.proofs.Common.{◌≡◌, ℕ, ◌*◌, ◌<◌, ◌≤◌, false}
use Rattle.rt_postings.specs.Words.{marked}
use Rattle.rt_postings.proofs.doc_words.first_marked.Given as goal

abbrev pub invariant-loop-k : goal.invariant-loop-k
invariant-loop-k l = (r : ℕ) → 64 * l.from ≤ r → r < 64 * l.k → marked l.words r ≡ false
