-- What a run of a cluster comes to, for its reader.
use Rattle.std.specs.Prelude.{◌≡◌, ℕ, All, List, length, map, slice_get, Some}
use Rattle.std.specs.List.{range_with_len}
use Rattle.rt_base.specs.declared.numbers.Offset.{Offset}
use Rattle.rt_ground.specs.StoreCalls.{seen_by}
use Rattle.rt_ground.specs.StreamCalls.{log_of}
use Rattle.rt_live_names.specs.BrokerPart.{Answered}
use Rattle.rt_live_names.specs.Fronts.{Fronts, callers_of}
use Rattle.rt_live_names.specs.Names.{Names}
use Rattle.rt_model.specs.Aggregate.{aggregate}
use Rattle.rt_model.specs.declared.answer.Answer.{Answer}
use Rattle.rt_model.specs.declared.query.Query.{Query}
use Rattle.rt_store.specs.Contents.{starting_of}
use Rattle.rt_live_end.specs.Ended.{Ended}
use Rattle.rt_live_end.specs.Ends.{ends_in}
use Rattle.rt_live_end.specs.Input.{all_rows}
use Rattle.rt_live_end.specs.Meeting.{HasFirst}
use Rattle.rt_live_end.specs.Right.{IsRight}
use Rattle.rt_live_names.specs.Whole.{IsWhole, lengths_in, whole_ranges}

-- the nodes of one cluster have ended, and what they came to is right. A caller that has the numbers of all of them
-- shows the one history of each store
pub record RunsRightly (n : Names) (met : Fronts) : Type 0 where
  pub ended : Ended
  pub shown : ended.met ≡ met
  pub numbers : HasFirst (callers_of n.setup) met
  pub right : IsRight n ended

-- and all of the input is committed, as the store's whole history tells it, and all queries were answered, in their
-- order, with nothing left out
pub record EndsRightly (n : Names) (met : Fronts) (answers : List Answer) (ends : List Offset) : Type 0 where
  pub runs : RunsRightly n met
  pub committed : ends ≡ ends_in n.setup.partitions (seen_by (starting_of n.setup) met.store)
  pub lengths : ends ≡ lengths_in n.setup.partitions n.rows
  pub answered : map (λ (x : Answered). x.answer) runs.ended.broker.answers ≡ answers
  pub queries : map (λ (x : Answered). x.query) runs.ended.broker.answers ≡ range_with_len 0 (length n.queries)
  pub whole : All (λ (x : Answered). IsWhole (whole_ranges n) x.answer) runs.ended.broker.answers

-- a query has its answer: it leaves nothing out, and aggregates all rows of the input
pub record IsAnsweredOverAll (n : Names) (answers : List Answer) (k : ℕ) (query : Query) : Type 0 where
  pub answer : Answer
  pub there : slice_get answers k ≡ Some answer
  pub whole : IsWhole (whole_ranges n) answer
  pub rows : answer.rows ≡ aggregate query (all_rows n.setup.schema (log_of n.setup.partitions n.rows))
