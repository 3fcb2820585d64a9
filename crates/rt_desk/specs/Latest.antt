-- `latest TEXT`: the answer over the latest row of each key, where the table has upsert settings.
use Rattle.std.specs.Prelude.{ℕ, List, Option, None, Some}
use Rattle.rt_desk.specs.Telling.{Counts}
use Rattle.rt_events.specs.declared.refusal.Refusal.TheVariants.{NothingToDo}
use Rattle.rt_macros.specs.Doing.{Act, Gives, PassesOver, Refuses, Then}
use Rattle.rt_model.specs.declared.query.Query.{Query}
use Rattle.rt_report.specs.BrokerTexts.{noquery_text}
use Rattle.rt_report.specs.FurtherTexts.{latest_text}
use Rattle.rt_script.specs.declared.query_text.QueryText.{QueryText}
use Rattle.rt_script.specs.declared.query_text.QueryText.TheVariants as asked
use Rattle.rt_upconf.specs.declared.upsert_config.UpsertConfig.{UpsertConfig}
use Rattle.rt_views.specs.Answers.{latest_answer}

abbrev pub GivesLatest : UpsertConfig → Query → Unit {0} → Act (List ℕ)
GivesLatest config query done w = Gives (latest_text (latest_answer w config query)) w

abbrev pub LatestQuery : UpsertConfig → Query → Act (List ℕ)
LatestQuery config query w = Then PassesOver (GivesLatest config query) w

abbrev pub LatestBy : UpsertConfig → QueryText → Act (List ℕ)
LatestBy config (asked.Query query) w = LatestQuery config query w
LatestBy config (asked.Refused number) w = Counts (noquery_text number) w

abbrev pub LatestTold : Option UpsertConfig → QueryText → Act (List ℕ)
LatestTold None text w = Refuses NothingToDo w
LatestTold (Some config) text w = LatestBy config text w
