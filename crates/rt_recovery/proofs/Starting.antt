-- A world that was started anew has no replica and no machine, so that nothing is said of any.
use Rattle.std.proofs.Common.{◌≡◌, ℕ, List, [], Option, Some, None, refl, sym, ◌∙◌, ap, subst, slice_get}
use Rattle.std.proofs.lemmas.Option.{none-some}
use Rattle.rt_base.specs.declared.numbers.ControllerId.{ControllerId}
use Rattle.rt_controller.specs.declared.segment_machine.SegmentMachine.{SegmentMachine}
use Rattle.rt_entry.specs.declared.entry.Entry.{Entry}
use Rattle.rt_entry.specs.declared.entry.Entry.TheVariants.{Replica}
use Rattle.rt_lists.specs.Members.{Has}
use Rattle.rt_nodes.specs.declared.controller_node.ControllerNode.{ControllerNode}
use Rattle.rt_server.specs.Table.{Segment}
use Rattle.rt_server.proofs.LastingTables.{at}
use Rattle.rt_state.specs.declared.state.State.{State}
use Rattle.rt_world.specs.Reading.{leader_in}
use Rattle.rt_calm.specs.Again.{machine_of, machines_by, machines_in}
use Rattle.rt_recovery.specs.ByRows.{IsByRows}
use Rattle.rt_recovery.specs.Fresh.{IsFresh}

fresh_machines : (cs : List ControllerNode) (c : Option ControllerId)
    → ((i : ℕ) (n : ControllerNode) → slice_get cs i ≡ Some n → n.controller.machines ≡ []) → machines_by cs c ≡ []
fresh_machines cs None none = refl
fresh_machines cs (Some c) none = by_node (slice_get cs c.0) refl
  where
    by_node : (o : Option ControllerNode) → slice_get cs c.0 ≡ o → machines_in o ≡ []
    by_node None there = refl
    by_node (Some n) there = none c.0 n there

pub fresh_by_rows : (w : State) → IsFresh w → IsByRows w
fresh_by_rows w f =
    record {
      replicas = λ i n there s r has. absurd (subst (λ (es : List (Segment × Entry)). Has es (at s (Replica r))) (f.servers i n there).empty has);
      machines =
          λ s m is.
          absurd (none-some m
          (sym (ap (λ (ms : List SegmentMachine). machine_of ms s.0 s.1) (fresh_machines w.controllers (leader_in w) f.controllers)) ∙ is));
    }
