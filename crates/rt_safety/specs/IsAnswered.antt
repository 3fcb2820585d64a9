-- When a query of a world is answered rightly.
use Rattle.std.specs.Prelude.{◌≡◌, ℕ, Option, Some}
use Rattle.rt_assign.specs.Placement.{replicas_of}
use Rattle.rt_base.specs.declared.numbers.Partition.{Partition}
use Rattle.rt_base.specs.declared.numbers.Sequence.{Sequence}
use Rattle.rt_broker.specs.Answering.{IsMissing, routed_of}
use Rattle.rt_broker.specs.Asking.{Asking, assigned_at}
use Rattle.rt_broker.specs.IsAsked.{IsAsked}
use Rattle.rt_lists.specs.Members.{Has}
use Rattle.rt_model.specs.RightAnswer.{IsRightAnswer}
use Rattle.rt_model.specs.declared.answer.Answer.{Answer}
use Rattle.rt_state.specs.Finding.{query_at}
use Rattle.rt_state.specs.IsSafe.{past_of}
use Rattle.rt_state.specs.declared.state.State.{State}

-- the answer aggregates each row of the ranges that it names once, of the stream as it now is. Each plan is that of a metadata list that
-- the store had, and each range that was served is its piece's. A partition is missing only where its route met a fault, and a piece only
-- where every assigned replica was asked for it, and was down or didn't serve it
pub record IsAnswered (w : State) (q : ℕ) (answer : Answer) : Type 0 where
  pub asked : Asking
  pub there : query_at w q ≡ Some asked
  pub over : IsAsked w.setup (past_of w) asked
  pub right : IsRightAnswer w.setup.schema w.log asked.query (routed_of asked) answer
  pub assigned : (p : Partition) → assigned_at asked p ≡ replicas_of p w.setup.table.replication w.setup.servers
  pub missing : (p : Partition) (s : Option Sequence) → Has answer.missing (p, s) → IsMissing asked p s
