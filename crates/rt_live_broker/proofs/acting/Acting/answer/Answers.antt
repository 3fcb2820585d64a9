use Rattle.std.proofs.Common.{subst, sym}
use Rattle.rt_live_broker.specs.Asks.{IsNext, Keeps, Opened, answers_of}
use Rattle.rt_live_broker.proofs.Acts.{answers, asks_next}
use Rattle.rt_live_broker.proofs.acting.Acting.answer.Goals as goal

pub keep-requires : goal.keep-requires
keep-requires g c =
    subst (λ (o : Opened). IsNext c.self.inside.asks c.self.inside.mids o.query) (sym c.begun.view_is) (asks_next _ _ _ _ c.self.invariant c.in-Some.is)

pub invariant_of-self-2 : goal.invariant_of-self-2
invariant_of-self-2 g c =
    let keeps = subst (λ (o : Opened). Keeps c.self.inside.asks o.query c.in_ok-answer.answer c.in_ok-kept.kept
    (answers_of c.self.inside.mids c.self.inside.answers) (answers_of c.keep.new.mids c.keep.new.answers)) c.begun.view_is c.in_ok-kept.ensures.kept in
    answers _ _ _ _ c.in_ok-answer.answer c.in_ok-kept.kept c.end.new.slot c.keep.new.mids c.keep.new.answers c.note.new.diary
    c.self.invariant c.in-Some.is c.in_ok-answer.ensures keeps c.end.ensures c.note.ensures
