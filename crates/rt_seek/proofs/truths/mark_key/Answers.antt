use Rattle.std.proofs.Common.{refl, arith}
use Rattle.std.proofs.lemmas.Option.{slice_get_within}
use Rattle.rt_seek.proofs.Keys.{marked_id, marked_none}
use Rattle.rt_seek.proofs.truths.mark_key.Goals as goal

pub bounds-truths-id : goal.bounds-truths-id
bounds-truths-id g c = omega (arith, c.requires, slice_get_within c.args.dict.now c.in-Some.id c.args.key.now ((c.in-Some.ensures c.in-Some.id).0 refl))

pub returns-in-Some : goal.returns-in-Some
returns-in-Some g c = marked_id g.met.K.Key.order c.args.dict.now c.args.truths.now c.args.key.now c.in-Some.id c.requires c.in-Some.ensures

pub returns-in_default : goal.returns-in_default
returns-in_default g c = marked_none g.met.K.Key.order c.args.dict.now c.args.truths.now c.args.key.now c.requires c.in_default.ensures
