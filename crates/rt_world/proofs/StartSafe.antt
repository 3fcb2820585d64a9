-- The first world of a cluster is safe.
use Rattle.std.proofs.Common.{◌≡◌, ℕ, zero, suc, ◌≤◌, ◌==◌, Bool, true, false, cond, [], ◌∷◌, Some, None, refl, sym, subst, slice_get, length, arith, length-append}
use Rattle.std.specs.Prelude.{replicate}
use Rattle.std.proofs.lemmas.Bool.{true≢false}
use Rattle.std.proofs.lemmas.List.{length-replicate}
use Rattle.std.proofs.lemmas.Nat.{mul-le}
use Rattle.std.proofs.lemmas.Option.{none-some, same_Some}
use Rattle.rt_broker.specs.IsAsked.{messages_in}
use Rattle.rt_controller.specs.Controller.{Controlling, beginning, believing}
use Rattle.rt_controller.specs.Lasting.{IsControllerOver}
use Rattle.rt_controller.proofs.Lasts.{begins_over, believes_over}
use Rattle.rt_model.specs.declared.setup.Setup.{Setup}
use Rattle.rt_model.specs.Setup.{IsSetup}
use Rattle.rt_nodes.specs.declared.upkeep.Upkeep.{Upkeep}
use Rattle.rt_past.specs.IsPast.{fresh_past}
use Rattle.rt_past.proofs.Starts.{past_starts}
use Rattle.rt_server.proofs.LastingStarts.{fresh_over}
use Rattle.rt_state.specs.IsSafe.{IsServerAt, HasDrawn, IsUpkeepAt, IsControllerAt, IsQueryAt}
use Rattle.rt_state.specs.IsSafeWorld.{HasStarted, IsSafeWorld}
use Rattle.rt_state.specs.Places.{AreAt}
use Rattle.rt_state.specs.Start.{start, fresh_server, fresh_servers, fresh_upkeep, fresh_controlling, fresh_controller, fresh_controllers}
use Rattle.rt_world.proofs.Places.{at_none, at_push}

-- ---- servers

servers_length : (setup : Setup) (n : ℕ) → length (fresh_servers setup n) ≡ n
servers_length setup zero = refl
servers_length setup (suc i) = omega (arith, length-append (fresh_servers setup i) (fresh_server setup i ∷ []), servers_length setup i)

servers_start : (setup : Setup) (n : ℕ) → IsSetup setup → n ≤ setup.servers → AreAt (IsServerAt setup (fresh_past setup)) (fresh_servers setup n)
servers_start setup zero is le = at_none (IsServerAt setup (fresh_past setup))
servers_start setup (suc i) is le =
    at_push (IsServerAt setup (fresh_past setup)) (fresh_servers setup i) (fresh_server setup i)
    (record {
      over = fresh_over setup (record { 0 = i }) is (omega (arith, le));
      placed = sym (servers_length setup i);
      down = λ e. absurd (true≢false e);
    })
    (servers_start setup i is (omega (arith, le)))

drawn_start : (setup : Setup) (n : ℕ) → AreAt (HasDrawn (fresh_past setup)) (fresh_servers setup n)
drawn_start setup n i x e = λ q has. absurd has

-- ---- controllers

controllers_length : (setup : Setup) (n : ℕ) → length (fresh_controllers setup n) ≡ n
controllers_length setup zero = refl
controllers_length setup (suc c) =
    omega (arith, length-append (fresh_controllers setup c) (fresh_controller setup c ∷ []), controllers_length setup c)

-- what is true with a belief and without one
by_belief : (P : Controlling → Type 0) (setup : Setup) (c : ℕ) → P (beginning (record { 0 = c }) setup) → P (believing (beginning (record { 0 = c }) setup) true)
    → P (fresh_controlling setup c)
by_belief P setup c without with = at (c == 0)
  where
    at : (b : Bool) → P (cond b (believing (beginning (record { 0 = c }) setup) true) (beginning (record { 0 = c }) setup))
    at true = with
    at false = without

-- nothing is under way, whichever partition it is
nothing_at : (setup : Setup) (p : ℕ) → IsUpkeepAt setup (fresh_past setup) p (record { repair = None; retirement = None })
nothing_at setup p = record { repair = tt; repair_goes = tt; repairs_its = tt; retirement = tt; retirement_goes = tt; retires_its = tt }

upkeep_from : (setup : Setup) (p n i : ℕ) (x : Upkeep) → slice_get (fresh_upkeep n) i ≡ Some x → IsUpkeepAt setup (fresh_past setup) p x
upkeep_from setup p zero i x e = absurd (none-some x e)
upkeep_from setup p (suc n) zero x e = subst (IsUpkeepAt setup (fresh_past setup) p) (same_Some _ x e) (nothing_at setup p)
upkeep_from setup p (suc n) (suc i) x e = upkeep_from setup p n i x e

upkeep_start : (setup : Setup) (n : ℕ) → AreAt (IsUpkeepAt setup (fresh_past setup)) (fresh_upkeep n)
upkeep_start setup n i x e = upkeep_from setup i n i x e

controllers_start : (setup : Setup) (n : ℕ) → AreAt (IsControllerAt setup (fresh_past setup)) (fresh_controllers setup n)
controllers_start setup zero = at_none (IsControllerAt setup (fresh_past setup))
controllers_start setup (suc c) =
    let began = begins_over setup (fresh_past setup) (record { 0 = c }) in
    at_push (IsControllerAt setup (fresh_past setup)) (fresh_controllers setup c) (fresh_controller setup c)
    (record {
      over =
          by_belief (IsControllerOver setup (fresh_past setup)) setup c began
          (believes_over setup (fresh_past setup) (beginning (record { 0 = c }) setup) true began);
      placed = by_belief (λ x. x.id.0 ≡ length (fresh_controllers setup c)) setup c (sym (controllers_length setup c)) (sym (controllers_length setup c));
      partitions = length-replicate setup.partitions _;
      upkeep = upkeep_start setup setup.partitions;
    })
    (controllers_start setup c)

-- no job was started
started_none : (setup : Setup) (n : ℕ) → AreAt (HasStarted 0) (fresh_controllers setup n)
started_none setup zero = at_none (HasStarted 0)
started_none setup (suc c) =
    at_push (HasStarted 0) (fresh_controllers setup c) (fresh_controller setup c)
    (by_belief (λ x. x.started ≤ 0) setup c (omega arith) (omega arith)) (started_none setup c)

-- ---- all of it

none_appended : (n : ℕ) → messages_in (replicate n []) ≡ 0
none_appended zero = refl
none_appended (suc n) = omega (arith, none_appended n)

pub start_safe : (setup : Setup) → IsSetup setup → IsSafeWorld (start setup)
start_safe setup is =
    record {
      safe =
          record {
            setup = is;
            past = past_starts setup;
            all_servers = servers_length setup setup.servers;
            servers = servers_start setup setup.servers is (omega arith);
            drawn = drawn_start setup setup.servers;
            all_controllers = controllers_length setup setup.controllers;
            controllers = controllers_start setup setup.controllers;
            queries = at_none (IsQueryAt setup (fresh_past setup));
          };
      few =
          record {
            events = omega arith;
            written = omega arith;
            sent = omega arith;
            appended = omega (arith, none_appended setup.partitions);
            asked = omega arith;
            started = started_none setup setup.controllers;
            unanswered = refl;
            few_unanswered = omega arith;
            uploads = omega arith;
            stored = omega (arith, mul-le setup.partitions setup.table.replication 64 8 is.few_partitions is.few_replicas);
            moment = is.start;
          };
    }
