use Rattle.rt_macros.proofs.Doing.{does_then}
use Rattle.rt_macros.specs.Querying.{AnswersNow, AsksAll}
use Rattle.rt_macros.proofs.querying.ask_and_answer.Goals as goal

pub returns : goal.returns
returns c =
    does_then (AsksAll c.args.number) (λ done. AnswersNow c.args.number) c.args.world.now.state c.ask_all.new.world c.answer_now.new.world tt
    c.answer_now.result c.in_ok-ask_all.ensures c.answer_now.ensures
