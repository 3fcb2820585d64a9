use Rattle.std.proofs.Common.{arith}
use Rattle.std.proofs.lemmas.Result.{err_from_is_err_and}
use Rattle.rt_segment.proofs.Rows.{docs_taken, docs_refused, docs_done}
use Rattle.rt_segment.proofs.postings_reader.check_postings.Goals as goal

pub returns-in_err-check_docs : goal.returns-in_err-check_docs
returns-in_err-check_docs c =
    let p = err_from_is_err_and c.from_residual.result c.from_residual.ensures.1 in
    rw (p.1, p.2) (docs_refused c.args.postings.now c.loop-id.id c.docs.result.now c.docs.ensures c.loop-id.cursor _ c.loop-id.invariant _ c.in_err-check_docs.ensures)

pub loop-id-preserved : goal.loop-id-preserved
loop-id-preserved c = docs_taken c.args.postings.now c.loop-id.id c.docs.result.now c.docs.ensures c.loop-id.cursor _ c.loop-id.invariant c.check_docs.new.cursor c.in_ok-check_docs.ensures

pub returns : goal.returns
returns c = docs_done c.args.postings.now c.loop-id.id c.loop-id.cursor _ (omega (arith, c.loop-id-test.false, c.requires)) c.loop-id.invariant
