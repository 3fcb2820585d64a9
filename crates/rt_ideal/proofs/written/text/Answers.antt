use Rattle.std.proofs.Common.{◌∙◌}
use Rattle.std.proofs.lemmas.List.{drop_all}
use Rattle.rt_ideal.proofs.Members.{entries_left, text_done, no_float_entry}
use Rattle.rt_ideal.proofs.written.text.Goals as goal

pub loop-entry-preserved : goal.loop-entry-preserved
loop-entry-preserved c = record {
  left = rw c.in_ok-write_entry.ensures.written (c.loop-entry.invariant.left ∙ entries_left _ _ _ _ c.loop-entry-test.true);
  no_float = rw c.in_ok-write_entry.ensures.written (no_float_entry _ _ c.loop-entry.invariant.no_float);
  ordered = c.in_ok-write_entry.ensures.ordered;
}

pub returns : goal.returns
returns c =
    c.of.ensures
    ∙ text_done c.loop-entry.segments c.args.state.now.entries _ _
    c.loop-entry.invariant.left
    (drop_all c.loop-entry.entry-index c.as_slice-entry-items.result.now c.loop-entry-test.false)
    c.loop-entry.invariant.no_float
    (λ h. c.in_ok-to_string.ensures.text h)
