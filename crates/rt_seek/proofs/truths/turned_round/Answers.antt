use Rattle.std.proofs.Common.{ap, ◌∙◌, map, not, drop, length}
use Rattle.std.proofs.lemmas.List.{take_at}
use Rattle.rt_seek.proofs.truths.turned_round.Goals as goal

pub returns : goal.returns
returns c =
    take_at c.turn_round.new.truths (drop (length c.turn_round.new.truths) c.args.truths.items) c.args.truths.len (c.turn_round.auto.truths ∙ c.deref_mut.ensures.len)
    ∙ c.turn_round.ensures ∙ ap (map not) c.deref_mut.ensures.value
