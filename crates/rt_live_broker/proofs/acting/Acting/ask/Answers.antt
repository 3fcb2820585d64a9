use Rattle.std.proofs.Common.{refl}
use Rattle.rt_live_broker.proofs.Acts.{asks_valid, is_given, notes}
use Rattle.rt_live_broker.proofs.acting.Acting.ask.Goals as goal

pub give-requires-clause-valid : goal.give-requires-clause-valid
give-requires-clause-valid g c = asks_valid _ _ _ c.in-Some.begun c.self.invariant c.in-Some.is

pub invariant_of-self-in_err-got : goal.invariant_of-self-in_err-got
invariant_of-self-in_err-got g c = is_given _ _ _ c.give.new.feeds.items _ c.self.invariant c.in-Some.is c.give.ensures.feeds c.give.ensures.more

pub invariant_of-self-2 : goal.invariant_of-self-2
invariant_of-self-2 g c =
    notes _ _ _ c.give.new.feeds.items c.in-Some.begun c.note-2.new.self c.args.piece c.args.from c.in_ok-got.got c.note-2.result c.note.new.self
    c.self.invariant c.in-Some.is c.give.ensures.feeds c.give.ensures.more c.in_ok-got.ensures.given
    (c.note-2.ensures.notes c.args.piece c.args.from c.in_ok-got.got refl) c.note-2.ensures.same c.note.ensures
