-- What is told of rows beside the stream, and of the answers over them and over the latest rows, is one.
use Rattle.std.proofs.Common.{◌≡◌, ℕ, List, [], ◌∷◌, ◌++◌, length, map, filter, nat_lt, Option, Some, None, option_map, refl, sym, ◌∙◌, ap, subst}
use Rattle.std.proofs.lemmas.List.{length-map, map-append}
use Rattle.std.proofs.lemmas.Option.{none-some, same_Some}
use Rattle.rt_base.specs.declared.limits.TheConstants.{MOST_EVENTS}
use Rattle.rt_base.specs.declared.which.Which.TheVariants.{Events}
use Rattle.rt_desk.specs.Hybrid.{GivesHybrid, HybridBy, HybridTold, PushLine, PushTold, PushesRows, pushed_text}
use Rattle.rt_desk.specs.Latest.{GivesLatest, LatestBy, LatestTold}
use Rattle.rt_desk.proofs.OneTelling.{OneBy, SameRows, SameTable, choose_by, counts_one, gives_by, refuses_by, then_by}
use Rattle.rt_events.specs.declared.refusal.Refusal.TheVariants.{NothingToDo, Limit}
use Rattle.rt_exact.specs.Acts.{AreOne}
use Rattle.rt_exact.specs.Alike.{AreAlike}
use Rattle.rt_exact.proofs.Acts.{gives_one, passes_over_one, refuses_one, then_one}
use Rattle.rt_hybrid.specs.Batch.{rows_pushed}
use Rattle.rt_hybrid.specs.Pushes.{Gains}
use Rattle.rt_hybrid.specs.Sides.{hybrid_rows, is_before, is_past}
use Rattle.rt_hybrid.specs.Table.{OfflineTable, boundary_of, day_before, greatest_of, offline_rows, rows_of_files, time_of}
use Rattle.rt_macros.specs.Doing.{PassesOver, Refuses, Then}
use Rattle.rt_model.specs.Aggregate.{aggregate}
use Rattle.rt_model.specs.declared.query.Query.{Query}
use Rattle.rt_report.specs.BrokerTexts.{noquery_text}
use Rattle.rt_report.specs.FurtherTexts.{hybrid_text, latest_text, nooffline_text}
use Rattle.rt_scan.specs.Filled.{rows_as}
use Rattle.rt_schema.specs.declared.row.Row.{Row}
use Rattle.rt_schema.specs.declared.schema.Schema.{Schema}
use Rattle.rt_script.specs.declared.query_text.QueryText.{QueryText}
use Rattle.rt_script.specs.declared.query_text.QueryText.TheVariants as asked
use Rattle.rt_segment.specs.Segment.{SealedSegment}
use Rattle.rt_upconf.specs.declared.upsert_config.UpsertConfig.{UpsertConfig}
use Rattle.rt_views.specs.Answers.{answer_with, hybrid_answer, latest_answer}
use Rattle.rt_views.specs.Views.{rows_viewed, views_each}
use Rattle.rt_state.specs.declared.state.State.{State}

-- ---- tables

joined : List (List Row) → List Row
joined [] = []
joined (rows ∷ more) = rows ++ joined more

rows_joined : (schema : Schema) (files : List SealedSegment) → rows_of_files schema files ≡ joined (map (rows_as schema) files)
unfolding joined
rows_joined schema [] = refl
rows_joined schema (file ∷ files) = ap (λ rows. rows_as schema file ++ rows) (rows_joined schema files)

module _ (a b : OfflineTable) (same : SameRows a b) where
  same_offline : offline_rows a ≡ offline_rows b
  same_offline = rows_joined a.schema a.files ∙ ap (λ rs. joined rs) same.rows ∙ sym (rows_joined b.schema b.files)

  same_boundary : boundary_of a ≡ boundary_of b
  same_boundary = λ t. option_map day_before (greatest_of (map (time_of (same.time t)) (same_offline t)))

  same_sides : (rows : List Row) → hybrid_rows a rows ≡ hybrid_rows b rows
  same_sides rows = λ t.
      filter (λ row. is_before (same_boundary t) (time_of (same.time t) row)) (same_offline t)
      ++ filter (λ row. is_past (same_boundary t) (time_of (same.time t) row)) rows

  same_count : length a.files ≡ length b.files
  same_count =
      sym (length-map a.files (rows_as a.schema)) ∙ ap (λ (rs : List (List Row)). length rs) same.rows ∙ length-map b.files (rows_as b.schema)

-- ---- rows that are pushed

abbrev counted : ℕ → Option ℕ
counted count = Some count

-- of two pushes: the same was answered, and the tables behind them have the same rows
pub record PushedAlike (a b : OfflineTable) (m n : Option ℕ) : Type 0 where
  pub tables : SameRows a b
  pub counts : m ≡ n

gains_rows : (text : List ℕ) (rows : List Row) (old new : OfflineTable) → Gains text rows old new
    → map (rows_as new.schema) new.files ≡ map (rows_as old.schema) old.files ++ rows ∷ []
gains_rows text rows old new g =
    let at : OfflineTable → List (List Row) = λ t. map (rows_as t.schema) t.files in
    ap at g.behind ∙ map-append (rows_as old.schema) old.files (g.file ∷ []) ∙ ap (λ rs. map (rows_as old.schema) old.files ++ rs ∷ []) g.is_file.rows

pushed_alike : (text : List ℕ) (a b c d : OfflineTable) (m n : Option ℕ) → SameRows a b → PushesRows text a c m → PushesRows text b d n → PushedAlike c d m n
pushed_alike text a b c d (Some m) (Some n) same (rows, read, count, g) (more, read', count', g') =
    let one : rows ≡ more = same_Some rows more (sym read ∙ ap (λ schema. rows_pushed schema text) same.schema ∙ read') in
    let behind = λ (t : OfflineTable). t.schema in
    let schema : c.schema ≡ d.schema = ap behind g.behind ∙ same.schema ∙ sym (ap behind g'.behind) in
    let time : c.time ≡ d.time = ap (λ (t : OfflineTable). t.time) g.behind ∙ same.time ∙ sym (ap (λ (t : OfflineTable). t.time) g'.behind) in
    record {
      tables =
          record {
            schema = schema;
            time = time;
            rows = gains_rows text rows a c g ∙ (λ t. same.rows t ++ one t ∷ []) ∙ sym (gains_rows text more b d g');
          };
      counts = ap counted (count ∙ ap (λ (rs : List Row). length rs) one ∙ sym count');
    }
pushed_alike text a b c d (Some m) None same (rows, read, count, g) (none, h) =
    absurd (none-some rows (sym none ∙ sym (ap (λ schema. rows_pushed schema text) same.schema) ∙ read))
pushed_alike text a b c d None (Some n) same (none, h) (rows, read, count, g) =
    absurd (none-some rows (sym none ∙ ap (λ schema. rows_pushed schema text) same.schema ∙ read))
pushed_alike text a b c d None None same (none, h) (none', h') =
    record { tables = subst (λ t. SameRows t d) (sym h) (subst (λ t. SameRows a t) (sym h') same); counts = refl }

push_one : (rows : List ℕ) (a b : OfflineTable) (w v : State) → AreAlike w v → SameRows a b → OneBy SameRows (PushTold rows a tt w) (PushTold rows b tt v)
push_one rows a b w v k same x y r s h g =
    let z = pushed_alike rows a b h.new g.new h.pushed.count g.pushed.count same h.pushed.pushes g.pushed.pushes in
    let text : h.text ≡ g.text = h.pushed.told ∙ ap (λ o. pushed_text o) z.counts ∙ sym g.pushed.told in
    gives_by SameRows h.new g.new h.text g.text w v k text z.tables x y r s h.tells g.tells

pub push_line_one : (rows : List ℕ) (a b : OfflineTable) (w v : State) → AreAlike w v → SameRows a b → OneBy SameRows (PushLine rows a w) (PushLine rows b v)
push_line_one rows a b w v k same =
    choose_by SameRows (nat_lt (length a.files) MOST_EVENTS) (nat_lt (length b.files) MOST_EVENTS) (Then PassesOver (PushTold rows a) w) (Refuses (Limit Events) w)
    (Then PassesOver (PushTold rows b) v) (Refuses (Limit Events) v) (ap (λ n. nat_lt n MOST_EVENTS) (same_count a b same))
    (then_by SameRows PassesOver PassesOver (PushTold rows a) (PushTold rows b) w v (passes_over_one w v k) (λ done u t l. push_one rows a b u t l same))
    (refuses_by SameRows (Limit Events) w v k)

-- ---- hybrid

hybrid_same : (a b : OfflineTable) (query : Query) (w v : State) → AreAlike w v → SameRows a b → hybrid_answer w a query ≡ hybrid_answer v b query
hybrid_same a b query w v k same =
    ap (λ u. hybrid_answer u a query) k.same
    ∙ ap (λ rows. answer_with (views_each v) (aggregate query rows)) (same_sides a b same (rows_viewed v.setup.schema (views_each v)))

hybrid_by : (a b : OfflineTable) (text : QueryText) (w v : State) → AreAlike w v → SameRows a b → AreOne (HybridBy a text w) (HybridBy b text v)
hybrid_by a b (asked.Query query) w v k same =
    then_one PassesOver PassesOver (GivesHybrid a query) (GivesHybrid b query) w v (passes_over_one w v k)
    (λ done u t l.
    let boundary = same_boundary a b same in
    let answer = hybrid_same a b query u t l same in
    gives_one (hybrid_text (boundary_of a) (hybrid_answer u a query)) (hybrid_text (boundary_of b) (hybrid_answer t b query)) u t l
    (λ i. hybrid_text (boundary i) (answer i)))
hybrid_by a b (asked.Refused number) w v k same = counts_one (noquery_text number) w v k

pub hybrid_one : (o p : Option OfflineTable) (text : QueryText) (w v : State) → AreAlike w v → SameTable o p → AreOne (HybridTold o text w) (HybridTold p text v)
hybrid_one None None text w v k same = counts_one (nooffline_text 1) w v k
hybrid_one None (Some b) text w v k same = absurd same
hybrid_one (Some a) None text w v k same = absurd same
hybrid_one (Some a) (Some b) text w v k same = hybrid_by a b text w v k same

-- ---- latest

latest_by : (config : UpsertConfig) (text : QueryText) (w v : State) → AreAlike w v → AreOne (LatestBy config text w) (LatestBy config text v)
latest_by config (asked.Query query) w v k =
    let text : State → List ℕ = λ u. latest_text (latest_answer u config query) in
    then_one PassesOver PassesOver (GivesLatest config query) (GivesLatest config query) w v (passes_over_one w v k)
    (λ done u t l. gives_one (text u) (text t) u t l (ap text l.same))
latest_by config (asked.Refused number) w v k = counts_one (noquery_text number) w v k

pub latest_one : (o : Option UpsertConfig) (text : QueryText) (w v : State) → AreAlike w v → AreOne (LatestTold o text w) (LatestTold o text v)
latest_one None text w v k = refuses_one NothingToDo w v k
latest_one (Some config) text w v k = latest_by config text w v k
