-- A message that comes to the end of a partition keeps a world safe.
use Rattle.std.proofs.Common.{◌≡◌, ℕ, zero, suc, ◌+◌, ◌<◌, ◌≤◌, List, [], ◌∷◌, Ok, refl, ap, subst, length, arith, length-append}
use Rattle.std.proofs.lemmas.Bool.{ltb-true}
use Rattle.rt_base.specs.declared.numbers.Partition.{Partition}
use Rattle.rt_broker.specs.IsAsked.{messages_in}
use Rattle.rt_events.specs.declared.refusal.Refusal.TheVariants.{NoSuchNode}
use Rattle.rt_past.specs.Past.{with_log}
use Rattle.rt_past.proofs.Ways.{past_logs}
use Rattle.rt_stream.specs.Log.{Log, with_message}
use Rattle.rt_stream.proofs.Growth.{log_message}
use Rattle.rt_state.specs.Finding.{has_partition}
use Rattle.rt_state.specs.IsSafe.{past_of}
use Rattle.rt_state.specs.IsSafeWorld.{IsSafeWorld}
use Rattle.rt_state.specs.Room.{message_cost, priced}
use Rattle.rt_state.specs.Stream.{produce_due, produced}
use Rattle.rt_state.specs.declared.cost.Cost.{Cost}
use Rattle.rt_state.specs.declared.state.State.{State}
use Rattle.rt_world.proofs.Few.{few_after, none_started}
use Rattle.rt_state.proofs.Possible.{only_passed, HasRoom, priced_room}
use Rattle.rt_world.proofs.Sets.{safe_grows}

abbrev numbered : ℕ → Partition
numbered n = record { 0 = n }

messages_more : (log : Log) (p : ℕ) (message : List ℕ) → messages_in (with_message log (numbered p) message) ≤ messages_in log + 1
messages_more [] p message = omega arith
messages_more (messages ∷ log) zero message = omega (arith, length-append messages (message ∷ []))
messages_more (messages ∷ log) (suc p) message = omega (arith, messages_more log p message)

pub produce_keeps : (w : State) (p : Partition) (message : List ℕ) (cost : Cost) → IsSafeWorld w → produce_due w p message ≡ Ok cost
    → IsSafeWorld (produced w p message cost).0
produce_keeps w p message cost s possible =
    let there = only_passed (has_partition w p) NoSuchNode (priced w (message_cost (length message))) cost possible in
    let room = priced_room w (message_cost (length message)) cost there.1 in
    let log = with_message w.log p message in
    let within : p.0 < length w.log = omega (arith, ltb-true p.0 w.setup.partitions there.0, s.safe.past.partitions) in
    let g = past_logs w.setup (past_of w) log (log_message w.log p message within) s.safe.past in
    record {
      safe = safe_grows w.setup (past_of w) (with_log (past_of w) log) w.servers w.controllers w.queries s.safe g.0 g.1 s.safe.drawn;
      few =
          few_after w (produced w p message cost).0 cost (subst (HasRoom w) room.0 room.1)
          (record {
            setup = refl;
            events = refl;
            written = omega arith;
            sent = omega arith;
            appended = messages_more w.log p.0 message;
            asked = omega arith;
            started = none_started w s.few;
            unanswered = omega (arith, s.few.unanswered, ap (λ (c : Cost). c.queries) room.0);
            few_unanswered = omega arith;
            uploads = refl;
            stored = omega arith;
            moment = omega arith;
          })
          s.few;
    }
