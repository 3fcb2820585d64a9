-- An answer that is given in a safe world is right.
use Rattle.std.proofs.Common.{◌≡◌, ℕ, zero, suc, ◌<◌, ◌≤◌, List, [], ◌∷◌, length, get_or, Option, Some, None, Result, Ok, refl, sym, ◌∙◌, ap, subst, arith}
use Rattle.rt_assign.specs.Placement.{replicas_of}
use Rattle.rt_base.specs.declared.numbers.Partition.{Partition}
use Rattle.rt_broker.specs.Answering.{AreServed}
use Rattle.rt_broker.specs.Asking.{Asking}
use Rattle.rt_broker.specs.IsAsked.{messages_in}
use Rattle.rt_broker.specs.declared.refused.BrokerRefused.{BrokerRefused}
use Rattle.rt_broker.proofs.Answered.{asked_served}
use Rattle.rt_broker.proofs.Right.{answer_right}
use Rattle.rt_events.specs.declared.event.Event.TheVariants as event
use Rattle.rt_events.specs.declared.outcome.Outcome.TheVariants as told
use Rattle.rt_model.specs.Setup.{IsSetup}
use Rattle.rt_model.specs.declared.answer.Answer.{Answer}
use Rattle.rt_model.specs.declared.setup.Setup.{Setup}
use Rattle.rt_state.specs.Applying.{Next}
use Rattle.rt_state.specs.Finding.{query_at}
use Rattle.rt_safety.specs.IsAnswered.{IsAnswered}
use Rattle.rt_state.specs.IsSafe.{past_of}
use Rattle.rt_state.specs.IsSafeWorld.{IsSafeWorld}
use Rattle.rt_state.specs.Queries.{AnswersAt, IsAnswerOf}
use Rattle.rt_safety.specs.Runs.{Turn, happens, TurnsTo, Runs}
use Rattle.rt_stream.specs.Log.{Log, messages_of}
use Rattle.rt_world.specs.Step.{Steps}
use Rattle.rt_state.specs.declared.cost.Cost.{Cost}
use Rattle.rt_state.specs.declared.state.State.{State}
use Rattle.rt_world.proofs.KeepsQueries.{asked_there}
use Rattle.rt_safety.proofs.Later.{runs_are_safe}

abbrev given : Answer → Result Answer BrokerRefused
given answer = Ok answer

pub few_messages : (w : State) → IsSafeWorld w → messages_in w.log < 9223372036854775808
few_messages w s = omega (arith, s.few.appended, s.few.events)

one_within : (log : Log) (i : ℕ) → length (get_or log i []) ≤ messages_in log
one_within [] i = omega arith
one_within (ms ∷ log) zero = omega arith
one_within (ms ∷ log) (suc i) = omega (arith, one_within log i)

pub few_at : (w : State) (p : Partition) → IsSafeWorld w → length (messages_of w.log p) < 9223372036854775808
few_at w p s = omega (arith, one_within w.log p.0, few_messages w s)

-- what was served of a query that is there is of the stream
pub are_served : (w : State) (q : ℕ) (a : Asking) → IsSafeWorld w → query_at w q ≡ Some a → AreServed w.setup.schema w.log a
are_served w q a s there = asked_served w.setup (past_of w) a (asked_there w q a s.safe there).over s.safe.past (few_messages w s)

answer_of : (w : State) (q : ℕ) (a : Asking) (answer : Answer) → IsSafeWorld w → query_at w q ≡ Some a → IsAnswerOf a answer → IsAnswered w q answer
answer_of w q a answer s there k =
    let over = (asked_there w q a s.safe there).over in
    record {
      asked = a;
      there = there;
      over = over;
      right =
          answer_right a (given answer) k.ranges k.missing k.rows w.setup.schema w.log (are_served w q a s there);
      assigned =
          λ p. ap (λ n. replicas_of p n a.servers) over.replication ∙ ap (λ n. replicas_of p w.setup.table.replication n) over.servers;
      missing = k.causes;
    }

same_answer : (a b : Answer) → told.Answered a ≡ told.Answered b → a ≡ b
same_answer a b e = cc

answered_at : (w : State) (q : ℕ) (answer : Answer) (cost : Cost) (x : Next) (o : Option Asking) → IsSafeWorld w → query_at w q ≡ o → AnswersAt o w q cost x
    → x.1 ≡ told.Answered answer → IsAnswered w q answer
answered_at w q answer cost x None s there h e = absurd h
answered_at w q answer cost x (Some a) s there (found, right, is) e =
    answer_of w q a answer s there
    (subst (IsAnswerOf a) (same_answer found answer (sym (ap (λ (y : Next). y.1) is) ∙ e)) right)

pub answers_right : (old new : State) (q : ℕ) (answer : Answer) → IsSafeWorld old → Steps old (event.Answer q) new (Ok (told.Answered answer)) → IsAnswered old q answer
answers_right old new q answer s (cost, due, h) = answered_at old q answer cost (new, told.Answered answer) (query_at old q) s refl h refl

pub answers_in_runs : (setup : Setup) (turns : List Turn) (w next : State) (q : ℕ) (answer : Answer) → IsSetup setup → Runs setup turns w
    → TurnsTo w (happens (event.Answer q) (told.Answered answer)) next → IsAnswered w q answer
answers_in_runs setup turns w next q answer is run t = answers_right w next q answer (runs_are_safe setup turns w is run) t.1
