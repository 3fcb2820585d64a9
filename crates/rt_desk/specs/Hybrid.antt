-- `offline TEXT` and `hybrid TEXT`: rows that are pushed beside the stream, and the answer over both. Without a table, since the
-- settings name no fitting time column, both are refused whatever their text.
use Rattle.std.specs.Prelude.{◌≡◌, ℕ, List, length, nat_lt, Option, None, Some, Result, Ok, Err}
use Rattle.rt_base.specs.declared.limits.TheConstants.{MOST_EVENTS}
use Rattle.rt_base.specs.declared.which.Which.TheVariants.{Events}
use Rattle.rt_desk.specs.Telling.{Changed, Counts, changed}
use Rattle.rt_events.specs.declared.refusal.Refusal.{Refusal}
use Rattle.rt_events.specs.declared.refusal.Refusal.TheVariants.{Limit}
use Rattle.rt_hybrid.specs.Pushes.{Pushes}
use Rattle.rt_hybrid.specs.Table.{OfflineTable, boundary_of}
use Rattle.rt_hybrid.specs.declared.hybrid_refused.HybridRefused.TheVariants as refused
use Rattle.rt_macros.specs.Doing.{Act, Choose, Gives, PassesOver, Reached, Refuses, Then}
use Rattle.rt_model.specs.declared.query.Query.{Query}
use Rattle.rt_report.specs.BrokerTexts.{noquery_text}
use Rattle.rt_report.specs.FurtherTexts.{hybrid_text, nooffline_text, offline_text}
use Rattle.rt_script.specs.declared.query_text.QueryText.{QueryText}
use Rattle.rt_script.specs.declared.query_text.QueryText.TheVariants as asked
use Rattle.rt_views.specs.Answers.{hybrid_answer}
use Rattle.rt_state.specs.declared.state.State.{State}

-- ---- offline

-- the rows of a text are pushed, or it has none
abbrev pub PushesRows : List ℕ → OfflineTable → OfflineTable → Option ℕ → Type 0
PushesRows text old new (Some rows) = Pushes text old new (Ok rows)
PushesRows text old new None = Pushes text old new (Err refused.NotRows)

-- how many rows there were, or that there were none
abbrev pub pushed_text : Option ℕ → List ℕ
pushed_text (Some rows) = offline_text rows
pushed_text None = nooffline_text 2

pub record Pushed (rows : List ℕ) (old new : OfflineTable) (text : List ℕ) : Type 0 where
  pub count : Option ℕ
  pub pushes : PushesRows rows old new count
  pub told : text ≡ pushed_text count

pub record PushTold (rows : List ℕ) (old : OfflineTable) (done : Unit {0}) (w : State) (v : Reached) (result : Result (Changed OfflineTable) Refusal) : Type 0 where
  pub new : OfflineTable
  pub text : List ℕ
  pub pushed : Pushed rows old new text
  pub tells : Gives (changed new text) w v result

-- each push counts as an event, so there are never too many of them
abbrev pub PushLine : List ℕ → OfflineTable → Act (Changed OfflineTable)
PushLine rows table w = Choose (nat_lt (length table.files) MOST_EVENTS) (Then PassesOver (PushTold rows table) w) (Refuses (Limit Events) w)

-- ---- hybrid

abbrev pub GivesHybrid : OfflineTable → Query → Unit {0} → Act (List ℕ)
GivesHybrid table query done w = Gives (hybrid_text (boundary_of table) (hybrid_answer w table query)) w

abbrev pub HybridQuery : OfflineTable → Query → Act (List ℕ)
HybridQuery table query w = Then PassesOver (GivesHybrid table query) w

abbrev pub HybridBy : OfflineTable → QueryText → Act (List ℕ)
HybridBy table (asked.Query query) w = HybridQuery table query w
HybridBy table (asked.Refused number) w = Counts (noquery_text number) w

abbrev pub HybridTold : Option OfflineTable → QueryText → Act (List ℕ)
HybridTold None text w = Counts (nooffline_text 1) w
HybridTold (Some table) text w = HybridBy table text w
