use Rattle.std.proofs.Common.{◌≡◌, ℕ, ◌+◌, List, ◌∷◌, length, ap, sym, arith, ◌∙◌}
use mathlib.Core.List.{reverse}
use Rattle.rt_ground.specs.declared.appended.Appended.{Appended}
use Rattle.rt_live_producer.proofs.Own.{appended, appends, last_first}
use Rattle.rt_live_producer.proofs.seat.ProducerSeat.turn.Goals as goal

pub invariant_of-self : goal.invariant_of-self
invariant_of-self g c =
    let row = c.in-Some-get.row.now in
    let rows = c.self.inside.rows in
    let count : length rows ≡ c.in-Some.place + 1 = omega (arith, c.in-Some.ensures) in
    let left = last_first rows c.in-Some.place row c.in-Some-get.ensures.some count ∙ ap (λ (xs : List Appended). row ∷ reverse xs) (sym c.truncate.ensures) in
    appends g.K.Cluster.names _ _ c.append.new.self row (appended row.partition c.as_slice.result.now) _ c.in-Ok._offset c.self.invariant left
    (ap (λ (m : List ℕ). appended row.partition m) c.as_slice.ensures.bytes) c.in-Ok.ensures
