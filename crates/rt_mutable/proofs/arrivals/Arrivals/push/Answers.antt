use Rattle.std.proofs.Common.{◌∷◌, [], ◌++◌, length, sym, ap, ◌∙◌, arith}
use Rattle.rt_mutable.specs.Arrivals.{id_among}
use Rattle.rt_mutable.proofs.Arriving.{hold_push, id_small, id_arrived}
use Rattle.rt_mutable.proofs.arrivals.Arrivals.push.Goals as goal

pub overflow_cast-id : goal.overflow_cast-id
overflow_cast-id g c =
    let small = id_small g.met.K.Eq.laws g.met.K.ColumnKey.exact c.self.inside.keys.keys c.self.inside.ids.items c.args.key.now c.self.invariant in
    omega (arith, small, ap length c.self.view_is, c.in_ok-id.ensures.id)

pub overflow_cast-result : goal.overflow_cast-result
overflow_cast-result g c =
    let small = id_small g.met.K.Eq.laws g.met.K.ColumnKey.exact c.self.inside.keys.keys c.self.inside.ids.items c.args.key.now c.self.invariant in
    omega (arith, small, ap length c.self.view_is, c.in_ok-id.ensures.id)

pub invariant_of-self-2 : goal.invariant_of-self-2
invariant_of-self-2 g c =
    let ids = c.push_reserved.ensures.items ∙ (λ j. c.in_ok-reserve_row.ensures.items j ++ c.in_ok-id.ensures.id j ∷ []) in
    (hold_push g.met.K.Eq.laws g.met.K.ColumnKey.exact c.self.inside.keys.keys c.id_or_new.new.keys.keys c.self.inside.ids.items c.push_reserved.new.self.items c.args.key.now c.self.invariant
    (omega (arith, ap length c.self.view_is)) c.in_ok-id.ensures.keys ids).arrivals

pub returns-clause-values : goal.returns-clause-values
returns-clause-values g c =
    let ids = c.push_reserved.ensures.items ∙ (λ j. c.in_ok-reserve_row.ensures.items j ++ c.in_ok-id.ensures.id j ∷ []) in
    (hold_push g.met.K.Eq.laws g.met.K.ColumnKey.exact c.self.inside.keys.keys c.id_or_new.new.keys.keys c.self.inside.ids.items c.push_reserved.new.self.items c.args.key.now c.self.invariant
    (omega (arith, ap length c.self.view_is)) c.in_ok-id.ensures.keys ids).values
    ∙ ap (λ vs. vs ++ c.args.key.now ∷ []) c.self.view_is

pub returns-clause-id : goal.returns-clause-id
returns-clause-id g c =
    let ids = c.push_reserved.ensures.items ∙ (λ j. c.in_ok-reserve_row.ensures.items j ++ c.in_ok-id.ensures.id j ∷ []) in
    let held = hold_push g.met.K.Eq.laws g.met.K.ColumnKey.exact c.self.inside.keys.keys c.id_or_new.new.keys.keys c.self.inside.ids.items c.push_reserved.new.self.items c.args.key.now c.self.invariant
    (omega (arith, ap length c.self.view_is)) c.in_ok-id.ensures.keys ids in
    c.in_ok-id.ensures.id
    ∙ sym (id_arrived g.met.K.Eq.laws g.met.K.ColumnKey.exact c.self.inside.keys.keys c.args.key.now)
    ∙ ap (λ ks. id_among g.K.PartialEq.eq ks c.args.key.now) (sym c.in_ok-id.ensures.keys ∙ held.arrivals.arrived)
