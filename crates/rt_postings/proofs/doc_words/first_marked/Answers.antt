use Rattle.std.proofs.Common.{arith, ◌*◌}
use Rattle.rt_postings.proofs.Scans.{found_here}
use Rattle.rt_postings.proofs.doc_words.first_marked.Goals as goal

pub returns-then-word-ne0-clause-found : goal.returns-then-word-ne0-clause-found
returns-then-word-ne0-clause-found c =
    found_here c.args.words.now (64 * c.args.from) c.loop-k.k (omega arith) c.if-word-ne0.true (omega (arith, c.type_inv.words c.loop-k.k)) c.loop-k.invariant (omega arith)
