use Rattle.std.proofs.Common.{arith, rules, ◌∙◌}
use Rattle.rt_postings.proofs.Scans.{turned, masked_within, masked_beyond}
use Rattle.rt_postings.proofs.doc_words.not_words.Goals as goal

pub returns-then-filled-ne0-clause-within : goal.returns-then-filled-ne0-clause-within
returns-then-filled-ne0-clause-within c row below =
    masked_within c.loop-word.words c.args.rows row (omega arith) (omega arith) below
    ∙ turned c.args.words.now c.loop-word.words c.args.rows c.loop-word.word-index row (omega arith) (omega arith) c.loop-word.invariant below (search rules)

pub returns-then-filled-ne0-clause-beyond : goal.returns-then-filled-ne0-clause-beyond
returns-then-filled-ne0-clause-beyond c = masked_beyond c.loop-word.words c.args.rows (omega arith) (omega arith)

pub returns-else-filled-ne0-clause-within : goal.returns-else-filled-ne0-clause-within
returns-else-filled-ne0-clause-within c row below =
    turned c.args.words.now c.loop-word.words c.args.rows c.loop-word.word-index row (omega arith) (omega arith) c.loop-word.invariant below (search rules)
