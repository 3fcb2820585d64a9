use Rattle.rt_live_input.proofs.Gathered.{adds_setup}
use Rattle.rt_live_input.proofs.reading.read_calm.Goals as goal

pub read_lines-requires : goal.read_lines-requires
read_lines-requires c = adds_setup c.args.input c.add_line.new.input (c.args.number, c.args.line.now) c.requires c.in-Ok.ensures
