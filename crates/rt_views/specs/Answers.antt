-- The answers over the present plans of a world.
use Rattle.std.specs.Prelude.{List, map}
use Rattle.rt_hybrid.specs.Sides.{hybrid_rows}
use Rattle.rt_hybrid.specs.Table.{OfflineTable}
use Rattle.rt_model.specs.Aggregate.{aggregate}
use Rattle.rt_model.specs.RightAnswer.{missing_of, named_ranges}
use Rattle.rt_model.specs.declared.answer.Answer.{Answer}
use Rattle.rt_model.specs.declared.answer.ResultRow.{ResultRow}
use Rattle.rt_model.specs.declared.query.Query.{Query}
use Rattle.rt_upconf.specs.declared.upsert_config.UpsertConfig.{UpsertConfig}
use Rattle.rt_views.specs.Placing.{latest_viewed}
use Rattle.rt_views.specs.Views.{routed_of, rows_viewed, views_each, views_whole}
use Rattle.rt_views.specs.declared.view.View.{View}
use Rattle.rt_state.specs.declared.state.State.{State}

-- the ranges that were served and the pieces that were not, with these result rows
abbrev pub answer_with : List View → List ResultRow → Answer
answer_with views rows = record { ranges = named_ranges (map routed_of views); missing = missing_of (map routed_of views); rows = rows }

-- the answer to a query over the latest rows, by partition
abbrev pub latest_answer : State → UpsertConfig → Query → Answer
latest_answer w config query = answer_with (views_whole w) (aggregate query (latest_viewed w.setup.schema config (views_whole w)))

-- the answer to a query over the offline rows at or before the boundary, and the realtime rows past it
abbrev pub hybrid_answer : State → OfflineTable → Query → Answer
hybrid_answer w table query = answer_with (views_each w) (aggregate query (hybrid_rows table (rows_viewed w.setup.schema (views_each w))))
