use Rattle.std.proofs.Common.{bit_and, get_or}
use Rattle.rt_postings.proofs.InPlace.{IsDone}
use Rattle.rt_postings.proofs.doc_words.and_words.Given as goal

abbrev pub invariant-loop-k : goal.invariant-loop-k
invariant-loop-k l = IsDone (λ k. bit_and (get_or l.initial.words k 0) (get_or l.others k 0)) l.initial.words l.words l.k
