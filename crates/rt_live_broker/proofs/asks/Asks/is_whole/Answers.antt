use Rattle.std.proofs.Common.{◌∙◌, sym}
use Rattle.rt_live_broker.proofs.Wholes.{all_same}
use Rattle.rt_live_broker.proofs.asks.Asks.is_whole.Goals as goal

pub returns-then-is_empty : goal.returns-then-is_empty
returns-then-is_empty c = λ is. record {
  missing = c.is_empty.ensures.0 c.if-is_empty.true;
  ranges = all_same c.args.answer.now.ranges c.args.self.now.whole (sym c.eq.ensures ∙ is);
}
