use Rattle.std.proofs.Common.{subst, Err}
use Rattle.rt_entry.specs.Serving.{AnswersGroups}
use Rattle.rt_entry.specs.declared.refused.ServeRefused.{ServeRefused}
use Rattle.rt_server.specs.Serving.{serve}
use Rattle.rt_live_server.proofs.Gives.{gives_none}
use Rattle.rt_live_server.proofs.acting.Acting.got.Goals as goal

pub returns-in-Err-NotServed : goal.returns-in-Err-NotServed
returns-in-Err-NotServed g c =
    let none = c.in-Err-NotServed in
    let answer = subst (λ (e : ServeRefused). AnswersGroups c.args.query.now (serve c.self.inside.server.table c.args.piece) (Err e)) none.field-0-is none.ensures in
    gives_none _ _ c.args.query.now c.args.piece none.field-0-0 c.self.view_is c.if-not-self.false answer
