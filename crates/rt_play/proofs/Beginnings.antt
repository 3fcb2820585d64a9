-- How the header of a script, its desk and its first world begin a report.
use Rattle.std.proofs.Common.{◌≡◌, ℕ, false, List, [], ◌∷◌, Option, Some, None, Result, Ok, Err, refl, ap, sym, ◌∙◌, subst}
use Rattle.std.specs.Prelude.{IfOk}
use Rattle.rt_base.specs.Sink.{SinkMeaning}
use Rattle.rt_base.specs.declared.which.Which.{Which}
use Rattle.rt_desk.specs.declared.desk.Desk.{Desk}
use Rattle.rt_lines.specs.Cluster.{cluster_fault, cluster_of}
use Rattle.rt_lines.specs.Header.{NumberedLine, Reads, TableSaid, header_of, if_well_formed, next_line, setup_at, setup_in, setup_with, tables_of, then_ok, with_rest}
use Rattle.rt_lines.specs.Lines.{ScriptLines, script_lines}
use Rattle.rt_lines.specs.declared.play_fault.PlayFault.{PlayFault}
use Rattle.rt_lines.specs.declared.play_fault.PlayFault.TheVariants.{Usage, Refused, ReadFault, WriteFault, Memory, Limit}
use Rattle.rt_model.specs.declared.setup.Setup.{Setup}
use Rattle.rt_play.proofs.Tellings.{nothing_put}
use Rattle.rt_play.specs.Beginning.{beginning_behind, beginning_of, desk_of, going_from, with_desk}
use Rattle.rt_play.specs.Going.{Going}
use Rattle.rt_play.specs.Plays.{Tells, TellsAll, TellsFront, TellsFrom, TellsInput, going}
use Rattle.rt_play.specs.Report.{FrontRuns, IsFrontBehind, IsFrontOfReport, IsReportBehind, stopped}
use Rattle.rt_play.specs.declared.beginning.Beginning.{Beginning}
use Rattle.rt_play.specs.declared.play_end.PlayEnd.{PlayEnd}
use Rattle.rt_schema.specs.declared.schema.Schema.{Schema}
use Rattle.rt_schema.specs.declared.table.Table.{Table}
use Rattle.rt_world.specs.Kept.{Kept}
use Rattle.rt_state.specs.Start.{start}

abbrev Read : Type 0
Read = Result (Beginning × List NumberedLine) PlayFault

-- ---- a header that is taken

abbrev kept : Read → Result (Setup × List NumberedLine) PlayFault
kept (Ok x) = Ok (x.0.setup, x.1)
kept (Err why) = Err why

with_desk_kept : (desk : Desk) (r : Result (Setup × List NumberedLine) PlayFault) → kept (with_desk desk r) ≡ r
with_desk_kept desk (Ok x) = refl
with_desk_kept desk (Err why) = refl

pub beginning_taken : (script : ScriptLines) (beginning : Beginning) (lines : List NumberedLine) → beginning_of script ≡ Ok (beginning, lines) → header_of script ≡ Ok (beginning.setup, lines)
beginning_taken script beginning lines e = by (tables_of script) e
  where
    by_desk : (d : Result Desk PlayFault) (r : Result (Setup × List NumberedLine) PlayFault) → then_ok d (λ desk. with_desk desk r) ≡ Ok (beginning, lines) → r ≡ Ok (beginning.setup, lines)
    by_desk (Ok desk) r h = sym (with_desk_kept desk r) ∙ ap kept h
    by_desk (Err why) r h = absurd (let bad : Err why ≡ Ok (beginning, lines) = h in cc)

    by : (t : Result (TableSaid × List NumberedLine) PlayFault) → then_ok t (λ said. beginning_behind said.0 (record { lines = said.1; after = script.after })) ≡ Ok (beginning, lines)
        → then_ok t (λ said. setup_in said.0 (record { lines = said.1; after = script.after })) ≡ Ok (beginning.setup, lines)
    by (Ok said) h = by_desk (desk_of said.0) (setup_in said.0 (record { lines = said.1; after = script.after })) h
    by (Err why) h = absurd (let bad : Err why ≡ Ok (beginning, lines) = h in cc)

-- ---- the report

pub nothing_behind : (read : Read) → IsFrontBehind read []
nothing_behind (Ok x) = record { front = []; rest = x.1; turns = []; last = going_from x.0; whole = refl; run = (refl, refl, refl) }
nothing_behind (Err why) = refl

-- nothing was written where memory ran out before the first line
pub none_told : (lines : List NumberedLine) (g : Going) (s : SinkMeaning) → TellsFront (FrontRuns lines g) s s
none_told lines g s = record { texts = []; is = record { front = []; rest = lines; turns = []; last = g; whole = refl; run = (refl, refl, refl) }; puts = nothing_put s }

abbrev TellsBehind : Read → SinkMeaning → SinkMeaning → Result PlayEnd PlayFault → Type 0
TellsBehind read old new result = Tells (IsReportBehind read) (IsFrontBehind read) old new result

stops_at : (why : PlayFault) (s : SinkMeaning) → TellsAll (IsReportBehind (Err why)) s s (Some why)
stops_at why s = record { report = stopped why; is = refl; stop = refl; puts = nothing_put s }

read_as : (input : List ℕ) (script : ScriptLines) (read : Read) → script ≡ script_lines input → beginning_of script ≡ read → beginning_of (script_lines input) ≡ read
read_as input script read is e = sym (ap beginning_of is) ∙ e

-- nothing of a report was written
pub nothing_reported : (input : List ℕ) (s : SinkMeaning) → TellsFront (IsFrontOfReport input) s s
nothing_reported input s = record { texts = []; is = nothing_behind (beginning_of (script_lines input)); puts = nothing_put s }

pub beginning_stops : (fault : PlayFault) (input : List ℕ) (script new : ScriptLines) (s : SinkMeaning) → script ≡ script_lines input → Reads (beginning_of script) script new (Err fault)
    → TellsInput input s s (Err fault)
beginning_stops (Refused line reason) input script new s is reads =
    subst (λ r. TellsBehind r s s (Err (Refused line reason))) (sym (read_as input script _ is reads)) (stops_at (Refused line reason) s)
beginning_stops (Limit which) input script new s is reads =
    subst (λ r. TellsBehind r s s (Err (Limit which))) (sym (read_as input script _ is reads)) (stops_at (Limit which) s)
beginning_stops Memory input script new s is reads = nothing_reported input s
beginning_stops Usage input script new s is reads = absurd reads
beginning_stops ReadFault input script new s is reads = absurd reads
beginning_stops WriteFault input script new s is reads = absurd reads

-- the report of a script is that of its lines, from the first world and desk on
pub beginning_passed : (input : List ℕ) (script : ScriptLines) (beginning : Beginning) (lines : List NumberedLine) (old new : SinkMeaning) (result : Result PlayEnd PlayFault)
    → script ≡ script_lines input → beginning_of script ≡ Ok (beginning, lines) → TellsFrom lines (going_from beginning) old new result → TellsInput input old new result
beginning_passed input script beginning lines old new result is e tells =
    subst (λ r. TellsBehind r old new result) (sym (read_as input script (Ok (beginning, lines)) is e)) tells

-- the lines run from the world that was made
pub made_tells : (world : Kept) (beginning : Beginning) (lines : List NumberedLine) (old new : SinkMeaning) (result : Result PlayEnd PlayFault) → world ≡ record { state = start beginning.setup; spent = false }
    → TellsFrom lines (going world beginning.desk) old new result → TellsFrom lines (going_from beginning) old new result
made_tells world beginning lines old new result made tells = subst (λ (w : Kept). TellsFrom lines (going w beginning.desk) old new result) made tells

-- ---- the schema of a cluster line's setup

by_limit : (P : Option Which → Type 0) → P None → ((which : Which) → P (Some which)) → (o : Option Which) → P o
by_limit P none some None = none
by_limit P none some (Some which) = some which

line_schema : {C : Type 0} (schema : Schema) (line : ℕ) (o : Option C) (f : C → Result Setup PlayFault) → ((c : C) → IfOk (f c) (λ setup. setup.schema ≡ schema))
    → IfOk (if_well_formed line o f) (λ setup. setup.schema ≡ schema)
line_schema schema line None f each = tt
line_schema schema line (Some c) f each = each c

at_schema : (schema : Schema) (table : Table) (line : NumberedLine) → IfOk (setup_at schema table line) (λ setup. setup.schema ≡ schema)
at_schema schema table line =
    line_schema schema line.0 (cluster_of line.1) (λ c. setup_with schema table line.0 c (cluster_fault c table.replication))
    (λ c. by_limit (λ o. IfOk (setup_with schema table line.0 c o) (λ setup. setup.schema ≡ schema)) refl (λ which. tt) (cluster_fault c table.replication))

rest_schema : (schema : Schema) (lines : List NumberedLine) (r : Result Setup PlayFault) → IfOk r (λ setup. setup.schema ≡ schema) → IfOk (with_rest lines r) (λ x. x.0.schema ≡ schema)
rest_schema schema lines (Ok setup) h = h
rest_schema schema lines (Err why) h = tt

next_schema : (schema : Schema) (table : Table) (after : ℕ) (lines : List NumberedLine) → IfOk (next_line (setup_at schema table) after lines) (λ x. x.0.schema ≡ schema)
next_schema schema table after [] = tt
next_schema schema table after (line ∷ lines) = rest_schema schema lines (setup_at schema table line) (at_schema schema table line)

pub cluster_schema : (said : TableSaid) (mid new : ScriptLines) (setup : Setup) → Reads (setup_in said mid) mid new (Ok setup) → setup.schema ≡ said.schema
cluster_schema said mid new setup reads =
    subst (λ (r : Result (Setup × List NumberedLine) PlayFault). IfOk r (λ x. x.0.schema ≡ said.schema)) reads.0 (next_schema said.schema said.table mid.after mid.lines)
