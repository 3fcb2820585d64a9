use Rattle.rt_macros.proofs.Doing.{does_then}
use Rattle.rt_macros.specs.Querying.{AsksAndAnswers, RoutesAll}
use Rattle.rt_macros.proofs.querying.finish_query.Goals as goal

pub returns : goal.returns
returns c =
    does_then (RoutesAll c.args.number) (λ done. AsksAndAnswers c.args.number) c.args.world.now.state c.route_all.new.world c.ask_and_answer.new.world tt
    c.ask_and_answer.result c.in_ok-route_all.ensures c.ask_and_answer.ensures
