use Rattle.std.proofs.Common.{subst}
use Rattle.std.specs.Prelude.{Result, Ok, Err, IfOk}
use Rattle.rt_model.specs.Setup.{IsSetup}
use Rattle.rt_live_join.specs.Joined.{HasJoined, joined_now}
use Rattle.rt_live_join.specs.Putting.{IsPutTogether}
use Rattle.rt_live_join.proofs.Joins.{ends_back, ends_there, few_links, has_joined, one_history, some_links}
use Rattle.rt_live_join.proofs.joining.join_all.Goals as goal

-- an answer, where there is one, is so too
if_ok : {X E : Type 0} (P Q : X → Type 0) → ((x : X) → P x → Q x) → (r : Result X E) → IfOk r P → IfOk r Q
if_ok P Q each (Ok x) p = each x p
if_ok P Q each (Err e) p = tt

pub put_together-requires-clause-history : goal.put_together-requires-clause-history
put_together-requires-clause-history g c =
    one_history g.K.Cluster.names g.J.Naming.starting c.in-Ok.posting c.ended_others-others.result
    (c.in-Ok.ensures {u = tt}) c.ended_others-others.ensures

pub put_together-requires-clause-some : goal.put_together-requires-clause-some
put_together-requires-clause-some g c =
    some_links g.K.Cluster.names g.J.Naming.starting c.in-Ok.posting c.ended_others-others.result
    (c.in-Ok.ensures {u = tt}) c.ended_others-others.ensures (subst IsSetup c.requires.setup.0 c.requires.setup.1)

pub put_together-requires-clause-few : goal.put_together-requires-clause-few
put_together-requires-clause-few g c =
    few_links g.K.Cluster.names g.J.Naming.starting c.in-Ok.posting c.ended_others-others.result
    (c.in-Ok.ensures {u = tt}) c.ended_others-others.ensures (subst IsSetup c.requires.setup.0 c.requires.setup.1)

pub put_together-requires-clause-servers : goal.put_together-requires-clause-servers
put_together-requires-clause-servers g c =
    ends_there g.K.Cluster.names g.J.Naming.starting c.in-Ok.posting c.ended_others-others.result
    (c.in-Ok.ensures {u = tt}) c.ended_others-others.ensures

pub put_together-requires-clause-controllers : goal.put_together-requires-clause-controllers
put_together-requires-clause-controllers g c =
    ends_back g.K.Cluster.names g.J.Naming.starting c.in-Ok.posting c.ended_others-others.result
    (c.in-Ok.ensures {u = tt}) c.ended_others-others.ensures

pub returns-in-Ok : goal.returns-in-Ok
returns-in-Ok g c =
    let n = g.K.Cluster.names in
    let s = g.J.Naming.starting in
    let others = c.ended_others-others.result in
    if_ok (IsPutTogether s g.J.Naming.callers c.args.journal c.in-Ok.posting others)
    (λ joined. HasJoined n s c.args.journal (joined_now joined))
    (λ joined put.
    has_joined n s c.in-Ok.posting others (c.in-Ok.ensures {u = tt}) c.ended_others-others.ensures
    g.J.Naming.callers c.args.journal joined put c.requires.ground.0 c.requires.ground.1 c.requires.few)
    c.put_together.result c.put_together.ensures
