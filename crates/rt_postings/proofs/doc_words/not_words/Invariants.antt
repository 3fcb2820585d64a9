use Rattle.std.proofs.Common.{get_or}
use Rattle.std.specs.Int.{bit_not, w64}
use Rattle.rt_postings.proofs.InPlace.{IsDone}
use Rattle.rt_postings.proofs.doc_words.not_words.Given as goal

abbrev pub invariant-loop-word : goal.invariant-loop-word
invariant-loop-word l = IsDone (λ k. bit_not w64 (get_or l.initial.words k 0)) l.initial.words l.words l.word-index
