-- The answer that a world gives to a query, as a function of what the world shows.
use Rattle.std.specs.Prelude.{ℕ, Option, Some, None}
use Rattle.rt_broker.specs.Answering.{routed_of, rows_held, rows_in_log, served_of}
use Rattle.rt_broker.specs.Asking.{Asking}
use Rattle.rt_model.specs.declared.answer.Answer.{Answer}
use Rattle.rt_model.specs.Aggregate.{result_rows}
use Rattle.rt_model.specs.RightAnswer.{missing_of, named_ranges}
use Rattle.rt_state.specs.Finding.{query_at}
use Rattle.rt_state.specs.declared.state.State.{State}

-- the ranges that were served and what is missing, by the plan of each partition; and the result rows of the stream's rows in the
-- ranges that were served
abbrev pub answer_of : State → Asking → Answer
answer_of w a =
    record {
      ranges = named_ranges (routed_of a);
      missing = missing_of (routed_of a);
      rows = result_rows a.query (rows_held (rows_in_log w.setup.schema w.log a.query) (served_of a));
    }

abbrev pub answer_by : State → Option Asking → Option Answer
answer_by w None = None
answer_by w (Some a) = Some (answer_of w a)

abbrev pub answer_to : State → ℕ → Option Answer
answer_to w q = answer_by w (query_at w q)
