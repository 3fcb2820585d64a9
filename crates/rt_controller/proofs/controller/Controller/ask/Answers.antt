-- A segment without a machine is answered by its metadata.
use Rattle.std.proofs.Common.{◌≡◌, ◌<◌, List, None, true, sym, ◌∙◌, ap, arith}
use Rattle.rt_base.specs.declared.limits.TheConstants.{LAST_NUMBER}
use Rattle.rt_controller.specs.declared.segment_machine.SegmentMachine.{SegmentMachine}
use Rattle.rt_commit.specs.Assignment.{is_replica}
use Rattle.rt_controller.specs.Controller.{Controlling, machine_place}
use Rattle.rt_controller.proofs.Parts.{asks_none, asked_none}
use Rattle.rt_controller.proofs.controller.Controller.ask.Goals as goal

pub returns-in-None : goal.returns-in-None
returns-in-None g c =
    λ d.
    let r = c.args.request.now in
    let assigned : is_replica c.args.self.now.assigned r.partition r.number.instance ≡ true =
    ap (λ (v : Controlling). is_replica v.assigned r.partition r.number.instance) (sym c.self.view_is)
    ∙ sym c.is_replica.ensures ∙ c.if-not-is_replica.false in
    let small : r.sequence.0 < LAST_NUMBER = omega (arith, c.if-sequence-ge-LAST_NUMBER.false) in
    let none : machine_place c.args.self.now.machines r.partition r.sequence ≡ None =
    ap (λ (v : Controlling). machine_place v.machines r.partition r.sequence) (sym c.self.view_is)
    ∙ ap (λ (ms : List SegmentMachine). machine_place ms r.partition r.sequence) (sym c.as_slice.ensures.value)
    ∙ sym c.machine_place.ensures ∙ c.in-None.is in
    asked_none (g.S.Store.meaning c.args.store.now) (g.S.Store.meaning c.read-answer.new.self) d c.args.self.now r c.args.now c.args.ask
    c.after_read.new.self c.after_read.result assigned small none
    (asks_none (g.S.Store.meaning c.args.store.now) (g.S.Store.meaning c.read-answer.new.self) d c.args.self.now r c.args.now c.args.ask
    c.read-answer.result c.after_read.new.self c.after_read.result c.read-answer.ensures c.after_read.ensures)
