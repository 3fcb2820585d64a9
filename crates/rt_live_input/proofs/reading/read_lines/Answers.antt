use Rattle.std.proofs.Common.{◌∙◌}
use Rattle.rt_live_input.proofs.Gathered.{adds_more, adds_setup, gathers_stop}
use Rattle.rt_live_input.proofs.reading.read_lines.Goals as goal

pub loop-number-preserved : goal.loop-number-preserved
loop-number-preserved c =
    let before = c.loop-number.invariant in
    record {
      setup = adds_setup c.loop-number.input c.add_line.new.input (c.in-Some.number, c.in-Some.line.now) before.setup c.in-Ok.ensures;
      same = adds_more c.loop-number.input c.add_line.new.input c.loop-number.lines.lines c.next.new.self.lines (c.in-Some.number, c.in-Some.line.now) c.in-Some.ensures.line c.in-Ok.ensures ∙ before.same;
    }

pub returns-in-Err : goal.returns-in-Err
returns-in-Err c =
    let before = c.loop-number.invariant in
    gathers_stop c.loop-number.input c.add_line.new.input c.loop-number.lines.lines c.next.new.self.lines (c.in-Some.number, c.in-Some.line.now) _ c.in-Err.fault c.in-Some.ensures.line before.same c.in-Err.ensures
