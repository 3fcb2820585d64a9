-- Each script has a report, and each generated run.
use Rattle.std.proofs.Common.{◌≡◌, ℕ, Bool, true, false, List, [], ◌∷◌, ◌++◌, ◌%◌, length, Option, Some, None, Result, Ok, Err, nat_lt, refl, sym, ◌∙◌, ap, subst}
use Rattle.std.specs.Prelude.{IfOk, IfSome}
use Rattle.rt_base.specs.declared.limits.TheConstants.{MOST_EVENTS}
use Rattle.rt_base.specs.declared.which.Which.TheVariants.{Events}
use Rattle.rt_desk.specs.Forcing.{ForceCommitTold, PauseTold, ResumeTold}
use Rattle.rt_desk.specs.Hybrid.{PushLine, PushTold, PushesRows}
use Rattle.rt_desk.specs.Rehearsing.{LoadedTold, RehearseTold, StepTold}
use Rattle.rt_desk.specs.Saying.{FurtherTold, LineTold, OfflineTold, with_plan}
use Rattle.rt_desk.specs.Telling.{Changed, Told, changed, told}
use Rattle.rt_desk.specs.declared.desk.Desk.{Desk}
use Rattle.rt_events.specs.declared.refusal.Refusal.{Refusal}
use Rattle.rt_events.specs.declared.refusal.Refusal.TheVariants.{Limit, NothingToDo}
use Rattle.rt_hybrid.specs.Table.{OfflineTable}
use Rattle.rt_lines.proofs.Headers.{header_taken}
use Rattle.rt_lines.specs.Header.{NumberedLine, TableSaid, setup_in, tables_of, then_ok}
use Rattle.rt_lines.specs.Lines.{ScriptLines, script_lines}
use Rattle.rt_lines.specs.declared.line_reason.LineReason.TheVariants as reason
use Rattle.rt_lines.specs.declared.play_fault.PlayFault.{PlayFault}
use Rattle.rt_lines.specs.declared.play_fault.PlayFault.TheVariants as fault
use Rattle.rt_events.specs.declared.event.Event.TheVariants.{Produce}
use Rattle.rt_macros.specs.Doing.{Choose, Gives, Passed, PassesOver, Reached, Refuses, Then, stays}
use Rattle.rt_macros.specs.Settling.{Settles}
use Rattle.rt_macros.specs.declared.settling.TheConstants.{MOST_ROUNDS}
use Rattle.rt_made.proofs.Headers.{header_named}
use Rattle.rt_made.specs.Named.{HasTextNames}
use Rattle.rt_model.specs.Checked.{IsQuery}
use Rattle.rt_model.specs.Setup.{IsSetup}
use Rattle.rt_model.specs.declared.query.Query.{Query}
use Rattle.rt_model.specs.declared.setup.Setup.{Setup}
use Rattle.rt_play.proofs.Beginnings.{beginning_taken, cluster_schema}
use Rattle.rt_play.proofs.Coming.{Comes, IsReached, each_from_comes, first_reached, gives_comes, passed_comes, refuses_comes, then_comes, turns_reached}
use Rattle.rt_play.proofs.ComingLines.{line_told_comes}
use Rattle.rt_play.proofs.ComingMacros.{query_comes, settles_comes}
use Rattle.rt_play.proofs.Desks.{beside_desk, puts_desk}
use Rattle.rt_play.proofs.HybridTables.{start_is}
use Rattle.rt_play.proofs.LineReads.{same_told, told_or, was_then}
use Rattle.rt_play.proofs.OneGenerated.{said_fits, setup_has, setup_named}
use Rattle.rt_play.proofs.ScriptRuns.{line_keeps, line_leads}
use Rattle.rt_play.specs.Beginning.{beginning_behind, beginning_of, desk_by, desk_of, going_from, hybrid_by, with_desk}
use Rattle.rt_play.specs.Generating.{AsksQuery, Asks, IsGenerated, IsGeneratedBy, ProducesRow, ProducesRows, RunsGenerated, SettlesAndAsks, generated_query, generated_setup, next_number, query_said, report_by, row_text}
use Rattle.rt_play.specs.Going.{Going}
use Rattle.rt_play.specs.Report.{IsReport, IsReportBehind, IsReportFrom, Report, Runs as LineRuns, Stops, fault_at, said_at, stopped}
use Rattle.rt_play.specs.declared.beginning.Beginning.{Beginning}
use Rattle.rt_play.specs.declared.generating.Generated.{Generated}
use Rattle.rt_schema.specs.Schema.{IsSchema}
use Rattle.rt_schema.specs.declared.schema.Schema.{Schema}
use Rattle.rt_script.proofs.LinesFit.{line_fits}
use Rattle.rt_script.specs.Line.{FitsLine, line_in}
use Rattle.rt_script.specs.declared.further.Further.{Further}
use Rattle.rt_script.specs.declared.further.Further.TheVariants as further
use Rattle.rt_script.specs.declared.line.Line.{Line}
use Rattle.rt_script.specs.declared.line.Line.TheVariants as line
use Rattle.rt_state.specs.Start.{start}
use Rattle.rt_state.specs.declared.state.State.{State}
use Rattle.rt_upconf.specs.Upsert.{time_column_of, upsert_of}
use Rattle.rt_upconf.specs.declared.upsert_config.UpsertConfig.{UpsertConfig}
use Rattle.rt_upconf.specs.declared.upsert_refused.UpsertRefused.{UpsertRefused}

-- ---- the hybrid table on the desk

-- it is of this schema, if there is one
abbrev IsOfSchema : Schema → Desk → Type 0
IsOfSchema schema desk = IfSome desk.hybrid (λ table. table.schema ≡ schema)

-- rows that are pushed come into a table of the same schema
rows_schema : (rows : List ℕ) (old new : OfflineTable) (count : Option ℕ) → PushesRows rows old new count → new.schema ≡ old.schema
rows_schema rows old new None h = ap (λ (t : OfflineTable). t.schema) h.1
rows_schema rows old new (Some n) h = ap (λ (t : OfflineTable). t.schema) h.3.behind

push_schema : (rows : List ℕ) (table : OfflineTable) (w : State) (v : Reached) (x : Changed OfflineTable) → PushTold rows table tt w v (Ok x) → x.part.schema ≡ table.schema
push_schema rows table w v x h =
    ap (λ (c : Changed OfflineTable). c.part.schema) (same_told x (changed h.new h.text) h.tells.1) ∙ rows_schema rows table h.new h.pushed.count h.pushed.pushes

line_schema : (rows : List ℕ) (table : OfflineTable) (w : State) (v : Reached) (b : Bool) (x : Changed OfflineTable)
    → Choose b (Then PassesOver (PushTold rows table) w) (Refuses (Limit Events) w) v (Ok x) → x.part.schema ≡ table.schema
line_schema rows table w v true x h =
    let t = was_then PassesOver (PushTold rows table) w v x h in push_schema rows table t.between.world t.last x t.further
line_schema rows table w v false x h = absurd (told_or x (Limit Events) h.1)

offline_desk : (schema : Schema) (rows : List ℕ) (desk after : Desk) (table : Option OfflineTable) (w : State) (v : Reached) (text : List ℕ) → desk.hybrid ≡ table
    → OfflineTold rows desk table w v (Ok (told after text)) → IsOfSchema schema desk → IsOfSchema schema after
offline_desk schema rows desk after None w v text e h k = subst (IsOfSchema schema) (sym (beside_desk desk after _ w v text h)) k
offline_desk schema rows desk after (Some table) w v text e h k =
    let p = puts_desk (λ new. record desk { hybrid = Some new }) after (PushLine rows table) w v text h in
    let of : table.schema ≡ schema = subst (λ (o : Option OfflineTable). IfSome o (λ t. t.schema ≡ schema)) e k in
    subst (IsOfSchema schema) (sym p.same) (line_schema rows table w p.between (nat_lt (length table.files) MOST_EVENTS) p.part p.came ∙ of)

further_desk : (schema : Schema) (said : Further) (desk after : Desk) (w : State) (v : Reached) (text : List ℕ) → FurtherTold said desk w v (Ok (told after text))
    → IsOfSchema schema desk → IsOfSchema schema after
further_desk schema (further.Latest asked) desk after w v text h k = subst (IsOfSchema schema) (sym (beside_desk desk after _ w v text h)) k
further_desk schema (further.Offline rows) desk after w v text h k = offline_desk schema rows desk after desk.hybrid w v text refl h k
further_desk schema (further.Hybrid asked) desk after w v text h k = subst (IsOfSchema schema) (sym (beside_desk desk after _ w v text h)) k
further_desk schema further.Pause desk after w v text h k = subst (IsOfSchema schema) (sym (puts_desk (λ on. record desk { pause = on }) after PauseTold w v text h).same) k
further_desk schema further.Resume desk after w v text h k = subst (IsOfSchema schema) (sym (puts_desk (λ on. record desk { pause = on }) after ResumeTold w v text h).same) k
further_desk schema further.ForceCommit desk after w v text h k =
    subst (IsOfSchema schema) (sym (puts_desk (λ jobs. record desk { jobs = jobs }) after (ForceCommitTold desk.jobs) w v text h).same) k
further_desk schema (further.ForceStatus job) desk after w v text h k = subst (IsOfSchema schema) (sym (beside_desk desk after _ w v text h)) k
further_desk schema (further.Peer i p q) desk after w v text h k = subst (IsOfSchema schema) (sym (beside_desk desk after _ w v text h)) k
further_desk schema (further.Rehearse servers keep) desk after w v text h k =
    subst (IsOfSchema schema) (sym (puts_desk (with_plan desk) after (RehearseTold servers keep desk.rehearsing) w v text h).same) k
further_desk schema (further.Loaded i p q) desk after w v text h k =
    subst (IsOfSchema schema) (sym (puts_desk (with_plan desk) after (LoadedTold i p q desk.rehearsing) w v text h).same) k
further_desk schema further.Step desk after w v text h k =
    subst (IsOfSchema schema) (sym (puts_desk (with_plan desk) after (StepTold desk.rehearsing) w v text h).same) k

line_desk : (schema : Schema) (said : Line) (desk after : Desk) (w : State) (v : Reached) (text : List ℕ) → LineTold said desk w v (Ok (told after text))
    → IsOfSchema schema desk → IsOfSchema schema after
line_desk schema (line.Event e) desk after w v text h k = subst (IsOfSchema schema) (sym (beside_desk desk after _ w v text h)) k
line_desk schema (line.Macro m) desk after w v text h k = subst (IsOfSchema schema) (sym (beside_desk desk after _ w v text h)) k
line_desk schema (line.NoQuery number) desk after w v text h k = subst (IsOfSchema schema) (sym (beside_desk desk after _ w v text h)) k
line_desk schema (line.Further f) desk after w v text h k = further_desk schema f desk after w v text h k

-- ---- all lines

abbrev HasReport : List NumberedLine → Going → Type 0
HasReport lines g = (report : Report) × IsReportFrom lines g report

-- a world that a run of a cluster comes to, of this setup, and a desk of its schema beside it
record IsReady (setup : Setup) (g : Going) : Type 0 where
  reached : IsReached g.world
  same : g.world.setup ≡ setup
  table : IsOfSchema setup.schema g.desk

module _ (setup : Setup) (is : IsSetup setup) where
  -- the next line stops the run
  stops_here : (first : NumberedLine) (lines : List NumberedLine) (g : Going) (v : Reached) (why : PlayFault) → Stops first.0 (said_at g first) g v why
      → HasReport (first ∷ lines) g
  stops_here first lines g v why stops = (
    record { texts = []; stop = Some why },
    record {
      runs = record { front = []; rest = first ∷ lines; turns = []; last = g; whole = refl; run = (refl, refl, refl) };
      stopped_by = v;
      stops = (why, stops, refl);
    },
  )

  lines_come : (lines : List NumberedLine) (g : Going) → IsReady setup g → HasReport lines g
  lines_come [] g k = (
    record { texts = []; stop = None },
    record {
      runs = record { front = []; rest = []; turns = []; last = g; whole = refl; run = (refl, refl, refl) };
      stopped_by = stays g.world;
      stops = (refl, refl);
    },
  )
  lines_come (first ∷ lines) g k =
      by_said (said_at g first) refl (line_fits g.world.setup.schema g.world.setup.table.name first.1) (λ h ready. lines_come lines h ready)
    where
      goes_on : (said : Line) → said_at g first ≡ Some said → (v : Reached) (t : Told) → LineTold said g.desk g.world v (Ok t)
          → ((h : Going) → IsReady setup h → HasReport lines h) → HasReport (first ∷ lines) g
      goes_on said e v t came further =
          let h : Going = record { world = v.world; desk = t.part } in
          let run = subst (λ (o : Option Line). LineRuns o g v.turns h t.text) (sym e) came in
          let keeps = line_keeps first g v.turns h t.text k.reached.safe run in
          let rest = further h
          (record {
            reached = turns_reached g.world v.world v.turns k.reached (line_leads first g v.turns h t.text run);
            same = keeps.1 ∙ k.same;
            table = line_desk setup.schema said g.desk t.part g.world v t.text came k.table;
          }) in
          let others = rest.1 in (
            record { texts = t.text ∷ rest.0.texts; stop = rest.0.stop },
            record {
              runs = record {
                front = first ∷ others.runs.front;
                rest = others.runs.rest;
                turns = v.turns ++ others.runs.turns;
                last = others.runs.last;
                whole = ap (λ ls. first ∷ ls) others.runs.whole;
                run = record {
                  own = v.turns;
                  between = h;
                  text = t.text;
                  more = others.runs.turns;
                  others = rest.0.texts;
                  first = run;
                  then_others = others.runs.run;
                  taken = refl;
                  whole = refl;
                };
              };
              stopped_by = others.stopped_by;
              stops = others.stops;
            },
          )

      by_told : (said : Line) → said_at g first ≡ Some said → (v : Reached) (r : Result Told Refusal) → LineTold said g.desk g.world v r
          → ((h : Going) → IsReady setup h → HasReport lines h) → HasReport (first ∷ lines) g
      by_told said e v (Ok t) came further = goes_on said e v t came further
      by_told said e v (Err refusal) came further =
          stops_here first lines g v (fault_at first.0 refusal)
          (subst (λ (o : Option Line). Stops first.0 o g v (fault_at first.0 refusal)) (sym e) (refusal, came, refl))

      by_said : (o : Option Line) → said_at g first ≡ o → IfSome o (FitsLine g.world.setup.schema) → ((h : Going) → IsReady setup h → HasReport lines h)
          → HasReport (first ∷ lines) g
      by_said None e fits further =
          stops_here first lines g (stays g.world) (fault.Refused first.0 reason.BadLine)
          (subst (λ (o : Option Line). Stops first.0 o g (stays g.world) (fault.Refused first.0 reason.BadLine)) (sym e) (refl, refl))
      by_said (Some said) e fits further =
          let schema = subst (λ (s : Setup). IsSchema s.schema) (sym k.same) is.schema in
          let table = subst (λ (s : Setup). IfSome g.desk.hybrid (λ t. t.schema ≡ s.schema)) (sym k.same) k.table in
          let x = line_told_comes said g.desk g.world fits schema table k.reached in
          by_told said e x.last x.told x.came further

-- ---- the beginning

hybrid_schema : (schema : Schema) (name : Option (List ℕ)) → IfSome (hybrid_by schema name) (λ table. table.schema ≡ schema)
hybrid_schema schema None = tt
hybrid_schema schema (Some name) = start_is schema name

desk_schema : (said : TableSaid) → IfOk (desk_of said) (IsOfSchema said.schema)
desk_schema said = by_upsert (upsert_of said.schema said.schema_text said.table_text)
  where
    by_upsert : (r : Result (Option UpsertConfig) UpsertRefused) → IfOk (desk_by said r) (IsOfSchema said.schema)
    by_upsert (Ok upsert) = hybrid_schema said.schema (time_column_of said.table_text)
    by_upsert (Err why) = tt

abbrev Begun : Type 0
Begun = Result (Beginning × List NumberedLine) PlayFault

abbrev begun : Beginning → List NumberedLine → Begun
begun x lines = Ok (x, lines)

-- the first desk is of the cluster's schema
begins_so : (script : ScriptLines) (x : Beginning) (lines : List NumberedLine) → beginning_of script ≡ begun x lines → IsOfSchema x.setup.schema x.desk
begins_so script x lines e = by_tables (tables_of script) e
  where
    same : (y : Beginning) (ls : List NumberedLine) → begun y ls ≡ begun x lines → y ≡ x
    same y ls f = ap (λ (z : Beginning × List NumberedLine). z.0) (same_begun (y, ls) (x, lines) f)
      where
        same_begun : (a b : Beginning × List NumberedLine) → (let read : Beginning × List NumberedLine → Begun = λ z. Ok z in read a ≡ read b) → a ≡ b
        same_begun a b g = cc

    by_setup : (said : TableSaid) (mid : ScriptLines) (desk : Desk) (r : Result (Setup × List NumberedLine) PlayFault) → setup_in said mid ≡ r → IsOfSchema said.schema desk
        → with_desk desk r ≡ begun x lines → IsOfSchema x.setup.schema x.desk
    by_setup said mid desk (Ok y) s k h =
        let of = cluster_schema said mid (record { lines = y.1; after = mid.after }) y.0 (s, refl) in
        subst (λ (z : Beginning). IsOfSchema z.setup.schema z.desk) (same (record { setup = y.0; desk = desk }) y.1 h)
        (subst (λ (schema : Schema). IsOfSchema schema desk) (sym of) k)
    by_setup said mid desk (Err why) s k h = absurd (let bad : Err why ≡ begun x lines = h in cc)

    by_desk : (said : TableSaid) (mid : ScriptLines) (d : Result Desk PlayFault) → IfOk d (IsOfSchema said.schema)
        → then_ok d (λ desk. with_desk desk (setup_in said mid)) ≡ begun x lines → IsOfSchema x.setup.schema x.desk
    by_desk said mid (Ok desk) k h = by_setup said mid desk (setup_in said mid) refl k h
    by_desk said mid (Err why) k h = absurd (let bad : Err why ≡ begun x lines = h in cc)

    by_tables : (t : Result (TableSaid × List NumberedLine) PlayFault)
        → then_ok t (λ said. beginning_behind said.0 (record { lines = said.1; after = script.after })) ≡ begun x lines → IsOfSchema x.setup.schema x.desk
    by_tables (Ok said) h = by_desk said.0 (record { lines = said.1; after = script.after }) (desk_of said.0) (desk_schema said.0) h
    by_tables (Err why) h = absurd (let bad : Err why ≡ begun x lines = h in cc)

-- ---- a script

pub report_comes : (input : List ℕ) → (report : Report) × IsReport input report
report_comes input = by_beginning (beginning_of (script_lines input)) refl
  where
    by_beginning : (b : Begun) → beginning_of (script_lines input) ≡ b → (report : Report) × IsReportBehind b report
    by_beginning (Ok (x, lines)) e =
        let taken = beginning_taken (script_lines input) x lines e in
        let is = header_taken (script_lines input) x.setup lines taken in
        let reached = first_reached x.setup is (header_named (script_lines input) x.setup lines taken) in
        lines_come x.setup is lines (going_from x) (record { reached = reached; same = refl; table = begins_so (script_lines input) x lines e })
    by_beginning (Err why) e = (stopped why, refl)

-- ---- a generated run

produce_rows : (asked : Generated) (w : State) → Comes w (ProducesRows asked w)
produce_rows asked w =
    each_from_comes (ProducesRow asked.partitions) 0 asked.rows asked.seed w
    (λ at x u.
    then_comes (Passed _) (λ done. Gives (next_number x)) u (passed_comes (Produce (record { 0 = at % asked.partitions }) (row_text (next_number x))) u tt)
    (λ done v. gives_comes (next_number x) v))

asks_query : (query : Option Query) (w : State) → IfSome query (λ q. IsQuery w.setup.schema q) → Comes w (AsksQuery query w)
asks_query (Some query) w fits = query_comes query w fits
asks_query None w fits = refuses_comes NothingToDo w

-- a query that is said is one over the schema
query_fits : (schema : Schema) (said : Option Line) → IfSome said (FitsLine schema) → IfSome (query_said said) (λ q. IsQuery schema q)
query_fits schema said fits = by_query (query_said said) refl
  where
    by_query : (o : Option Query) → query_said said ≡ o → IfSome o (λ q. IsQuery schema q)
    by_query None e = tt
    by_query (Some query) e = said_fits schema said query fits e

runs_generated : (asked : Generated) (w : State) → Comes w (RunsGenerated asked w)
runs_generated asked w =
    then_comes (ProducesRows asked) (λ x. SettlesAndAsks) w (produce_rows asked w)
    (λ x u.
    then_comes (Settles false MOST_ROUNDS) (λ quiet. Asks) u (settles_comes false MOST_ROUNDS u)
    (λ quiet v. asks_query (query_said (line_in v.setup generated_query)) v
    (query_fits v.setup.schema (line_in v.setup generated_query) (line_fits v.setup.schema v.setup.table.name generated_query))))

pub generated_comes : (asked : Generated) → (report : Report) × IsGenerated asked report
generated_comes asked = by_setup (generated_setup asked) refl
  where
    by_setup : (r : Result Setup PlayFault) → generated_setup asked ≡ r → (report : Report) × IsGeneratedBy asked r report
    by_setup (Ok setup) e =
        let is = subst (λ (s : Result Setup PlayFault). IfOk s IsSetup) e (setup_has asked) in
        let named = subst (λ (s : Result Setup PlayFault). IfOk s (λ t. HasTextNames t.schema)) e (setup_named asked) in
        let x = runs_generated asked (start setup) (first_reached setup is named) in
        (report_by asked.partitions x.last.world x.told, record { last = x.last; told = x.told; run = x.came; same = refl })
    by_setup (Err why) e = (stopped why, refl)
