-- What crashes and restarts keep.
use Rattle.std.proofs.Common.{◌≡◌, ℕ, Bool, true, false, Result, Ok, Err, Some, None, refl, sym, ◌∙◌, ap, subst, slice_get, not}
use Rattle.rt_base.specs.declared.numbers.ControllerId.{ControllerId}
use Rattle.rt_base.specs.declared.numbers.Instance.{Instance}
use Rattle.rt_controller.proofs.Lasts.{crashes_over}
use Rattle.rt_entry.specs.declared.refused.ServerRefused.{ServerRefused}
use Rattle.rt_entry.specs.declared.refused.ServerRefused.TheVariants.{NotDue, BadFile, StoreFault, Memory}
use Rattle.rt_events.specs.declared.outcome.Outcome.{Outcome}
use Rattle.rt_events.specs.declared.outcome.Outcome.TheVariants as told
use Rattle.rt_events.specs.declared.refusal.Refusal.TheVariants.{NoSuchNode, NothingToDo}
use Rattle.rt_model.specs.Lawful.{bump}
use Rattle.rt_past.specs.IsPast.{IsPast}
use Rattle.rt_past.specs.Past.{with_history}
use Rattle.rt_server.specs.Calls.{Restarts}
use Rattle.rt_server.specs.Lasting.{IsEmpty}
use Rattle.rt_server.specs.Table.{ServerState}
use Rattle.rt_server.proofs.LastingCalls.{crashed_over, restarts_over}
use Rattle.rt_server.proofs.LastingGrows.{server_grows}
use Rattle.rt_server.proofs.LastingNeeds.{restarts_drawn}
use Rattle.rt_server.proofs.Stepped.{came}
use Rattle.rt_store.specs.Meaning.{Meaning, Told}
use Rattle.rt_store.specs.Memory.{means}
use Rattle.rt_state.specs.Finding.{has_server, is_server_up, is_up}
use Rattle.rt_state.specs.IsSafe.{past_of}
use Rattle.rt_state.specs.IsSafeWorld.{IsSafeWorld}
use Rattle.rt_state.specs.Lives.{node_crashed, NodeCrashes, controller_crashed, restart_server_due, NodeRestarts, controller_restarted}
use Rattle.rt_state.specs.Room.{no_cost, priced}
use Rattle.rt_state.specs.declared.cost.Cost.{Cost}
use Rattle.rt_nodes.specs.declared.server_node.ServerNode.{ServerNode}
use Rattle.rt_state.specs.declared.state.State.{State}
use Rattle.rt_world.proofs.Owing.{IsServerOf, ServerWrites, StepKeeps}
use Rattle.rt_state.proofs.Possible.{only_passed}
use Rattle.rt_world.proofs.Stores.{wrote_told, writes_called}
use Rattle.rt_world.specs.Way as way

-- ---- crashes

node_crash_keeps : (w : State) (i : ℕ) (n : ServerNode) → IsPast w.setup (past_of w) → IsServerOf w (past_of w) i n → IsServerOf w (past_of w) i (node_crashed n)
node_crash_keeps w i n right k =
    record {
      at = record { over = crashed_over w.setup (past_of w) right n.server k.at.over; placed = k.at.placed; down = λ e. refl };
      drawn = k.drawn;
    }

pub crash_server_keeps : (w : State) (i : Instance) → IsSafeWorld w → StepKeeps w (way.alone i NodeCrashes)
crash_server_keeps w i s = λ old new o e k step. subst (IsServerOf w (past_of w) i.0) (sym step.0) (node_crash_keeps w i.0 old s.safe.past k)

pub crash_controller_keeps : (w : State) (c : ControllerId) → StepKeeps w (way.turns c controller_crashed told.Down)
crash_controller_keeps w c =
    λ n k. (record { over = crashes_over w.setup (past_of w) n.controller k.over; placed = k.placed; partitions = k.partitions; upkeep = k.upkeep }, refl)

-- ---- restarts

pub restart_controller_keeps : (w : State) (c : ControllerId) → StepKeeps w (way.turns c controller_restarted (told.Up None))
restart_controller_keeps w c = λ n k. (record { over = k.over; placed = k.placed; partitions = k.partitions; upkeep = k.upkeep }, refl)

-- a server that restarts is the same instance, and holds what it held
record IsSameAs (old new : ServerState) : Type 0 where
  instance : new.numbers.instance ≡ old.numbers.instance
  table : new.table ≡ old.table

all_same : (old new : ServerState) → new ≡ old → IsSameAs old new
all_same old new e = record { instance = ap (λ (s : ServerState). s.numbers.instance) e; table = ap (λ (s : ServerState). s.table) e }

restarted_same : (before after : Meaning) (old new : ServerState) (answer : Result ℕ ServerRefused) → Restarts before after old new answer → IsSameAs old new
restarted_same before after old new (Ok version) (r, b, e, w) =
    let c = came old new _ version e in
    record { instance = ap (λ (s : ServerState). s.numbers.instance) c.3; table = ap (λ (s : ServerState). s.table) c.3 }
restarted_same before after old new (Err Memory) (r, b, e, w) = all_same old new e.1
restarted_same before after old new (Err NotDue) (r, b, e, w) = all_same old new e.1
restarted_same before after old new (Err StoreFault) (r, b, e, w) = all_same old new e.1
restarted_same before after old new (Err (BadFile wanted found)) (r, b, e, w) = all_same old new e.1

not_up : (b : Bool) → not b ≡ true → b ≡ false
not_up true e = absurd (cc)
not_up false e = refl

node_restart_keeps : (w : State) (i : Instance) (old new : ServerNode) (store : Told) (o : Outcome) → IsSafeWorld w → slice_get w.servers i.0 ≡ Some old
    → not (is_server_up w i) ≡ true → IsServerOf w (past_of w) i.0 old → NodeRestarts w.store store old new o → ServerWrites w i.0 new store
node_restart_keeps w i old new store o s there down k (answer, restarts, told, up) =
    let a = past_of w in
    let b = with_history a store.writes in
    let was_down : old.up ≡ false = ap is_up (sym there) ∙ not_up (is_server_up w i) down in
    let empty : IsEmpty old.server = k.at.down was_down in
    let past = writes_called w.setup a (bump old.server.numbers.instance) store.writes s.safe.past
    (wrote_told (λ v. v.version) w.store store (bump old.server.numbers.instance) restarts.0 restarts.1) tt tt in
    let same = restarted_same (means w.store) (means store) old.server new.server answer restarts in
    record {
      past = past;
      server =
          record {
            at =
                record {
                  over =
                      restarts_over w.setup b past.right old.server (server_grows w.setup a b old.server past.grows k.at.over)
                      (means w.store) (means store) new.server refl answer empty restarts;
                  placed = ap (λ (j : Instance). j.0) same.instance ∙ k.at.placed;
                  down = λ e. same.table ∙ empty;
                };
            drawn = restarts_drawn w.setup a (means w.store) (means store) old.server new.server w.sent k.at.over refl k.drawn answer restarts;
          };
    }

pub restart_server_keeps : (w : State) (i : Instance) (cost : Cost) → IsSafeWorld w → restart_server_due w i ≡ Ok cost → StepKeeps w (way.calls i NodeRestarts)
restart_server_keeps w i cost s due =
    let there = only_passed (has_server w i) NoSuchNode _ cost due in
    let down = only_passed (not (is_server_up w i)) NothingToDo (priced w no_cost) cost there.1 in
    λ old new store o e k step. node_restart_keeps w i old new store o s e down.0 k step
