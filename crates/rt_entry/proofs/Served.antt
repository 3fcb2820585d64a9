-- What is served of an entry.
use Rattle.std.proofs.Common.{◌≡◌, ℕ, true, List, [], ◌∷◌, map, Option, Some, None, Result, Ok, Err, IfSome, refl, sym, ap, subst, ◌∙◌}
use Rattle.rt_base.specs.declared.range.Range.{Range}
use Rattle.rt_schema.specs.declared.column.Column.{Column}
use Rattle.rt_schema.specs.declared.row.Row.{Row}
use Rattle.rt_schema.specs.declared.schema.Schema.{Schema}
use Rattle.rt_mutable.specs.Column.{Shape}
use Rattle.rt_mutable.specs.Consuming.{Consuming, shape_of}
use Rattle.rt_segment.specs.Segment.{SealedSegment, are_columns, rows_of}
use Rattle.rt_model.specs.declared.piece.Piece.{Piece}
use Rattle.rt_model.specs.declared.query.Query.{Query}
use Rattle.rt_model.specs.declared.setup.Setup.{Setup}
use Rattle.rt_model.specs.Checked.{IsQuery}
use Rattle.rt_model.specs.Aggregate.{taken}
use Rattle.rt_agg.specs.declared.served.Served.{Served}
use Rattle.rt_agg.specs.Grouped.{Holds}
use Rattle.rt_scan.specs.Scanned.{FitsConsuming, FitsSealed, rows_before}
use Rattle.rt_consumer.specs.declared.consumer.Consumer.{Consumer}
use Rattle.rt_consumer.specs.declared.settings.Settings.{Settings}
use Rattle.rt_consumer.specs.declared.phase.Phase.{Phase}
use Rattle.rt_consumer.specs.declared.phase.Phase.TheVariants as phase
use Rattle.rt_consumer.specs.Consumer.{HaveColumns, IsPhase}
use Rattle.rt_consumer.specs.Serving as replica
use Rattle.rt_entry.specs.declared.entry.Entry.{Entry}
use Rattle.rt_entry.specs.declared.entry.Entry.TheVariants.{Replica, Committed}
use Rattle.rt_entry.specs.declared.refused.ServeRefused.{ServeRefused}
use Rattle.rt_entry.specs.declared.refused.ServeRefused.TheVariants.{NotServed}
use Rattle.rt_entry.specs.declared.served_rows.ServedRows.{ServedRows}
use Rattle.rt_entry.specs.Entry.{IsEntry, file_in, rows_in}
use Rattle.rt_entry.specs.Serving.{FitsEntry, FitsPhase, AnswersGroups, AnswersRows, file_range, rows_range, serve_entry, serve_file, serve_loaded, serve_phase, serve_rows, served_over}

-- ---- what is looked at

abbrev the_rows : Consuming → Option Consuming
the_rows rows = Some rows

abbrev the_file : SealedSegment → Option SealedSegment
the_file file = Some file

abbrev not_held : Result ServedRows ServeRefused
not_held = Err (NotServed None)

phase_rows : (piece : Piece) (p : Phase) (rows : Consuming) → replica.held_in p ≡ the_rows rows → serve_phase piece p ≡ serve_rows piece rows
phase_rows piece (phase.Unsealed o) rows e = ap (serve_rows piece) (unwrapped o.rows rows e)
  where
    unwrapped : (a b : Consuming) → the_rows a ≡ the_rows b → a ≡ b
    unwrapped a b e = cc
phase_rows piece (phase.Retained kept) rows e = absurd (cc)
phase_rows piece (phase.Committed kept) rows e = absurd (cc)
phase_rows piece (phase.Discarded d) rows e = absurd (cc)

entry_rows : (piece : Piece) (x : Entry) (rows : Consuming) → rows_in x ≡ the_rows rows → serve_entry piece x ≡ serve_rows piece rows
entry_rows piece (Replica r) rows e = phase_rows piece r.phase rows e
entry_rows piece (Committed c) rows e = absurd (cc)

same_file : (piece : Piece) (a b : SealedSegment) → the_file a ≡ the_file b → serve_file piece a ≡ serve_file piece b
same_file piece a b e = ap (serve_file piece) (unwrapped a b e)
  where
    unwrapped : (a b : SealedSegment) → the_file a ≡ the_file b → a ≡ b
    unwrapped a b e = cc

phase_file : (piece : Piece) (p : Phase) (file : SealedSegment) → replica.file_in p ≡ the_file file → serve_phase piece p ≡ serve_file piece file
phase_file piece (phase.Unsealed o) file e = absurd (cc)
phase_file piece (phase.Retained kept) file e = same_file piece kept.file file e
phase_file piece (phase.Committed kept) file e = same_file piece kept.file file e
phase_file piece (phase.Discarded d) file e = absurd (cc)

loaded_file : (piece : Piece) (o : Option SealedSegment) (file : SealedSegment) → o ≡ the_file file → serve_loaded piece o ≡ serve_file piece file
loaded_file piece None file e = absurd (cc)
loaded_file piece (Some f) file e = same_file piece f file e

entry_file : (piece : Piece) (x : Entry) (file : SealedSegment) → file_in x ≡ the_file file → serve_entry piece x ≡ serve_file piece file
entry_file piece (Replica r) file e = phase_file piece r.phase file e
entry_file piece (Committed c) file e = loaded_file piece c.file file e

phase_none : (piece : Piece) (p : Phase) → replica.held_in p ≡ None → replica.file_in p ≡ None → serve_phase piece p ≡ not_held
phase_none piece (phase.Unsealed o) rows file = absurd (cc)
phase_none piece (phase.Retained kept) rows file = absurd (cc)
phase_none piece (phase.Committed kept) rows file = absurd (cc)
phase_none piece (phase.Discarded d) rows file = refl

loaded_none : (piece : Piece) (o : Option SealedSegment) → o ≡ None → serve_loaded piece o ≡ not_held
loaded_none piece None e = refl
loaded_none piece (Some f) e = absurd (cc)

pub entry_none : (piece : Piece) (x : Entry) → rows_in x ≡ None → file_in x ≡ None → serve_entry piece x ≡ not_held
entry_none piece (Replica r) rows file = phase_none piece r.phase rows file
entry_none piece (Committed c) rows file = loaded_none piece c.file file

-- ---- the answers

pub groups_by_rows : (query : Query) (piece : Piece) (x : Entry) (rows : Consuming) (result : Result Served ServeRefused)
    → rows_in x ≡ the_rows rows → AnswersGroups query (serve_rows piece rows) result → AnswersGroups query (serve_entry piece x) result
groups_by_rows query piece x rows result e h = subst (λ wanted. AnswersGroups query wanted result) (sym (entry_rows piece x rows e)) h

pub groups_by_file : (query : Query) (piece : Piece) (x : Entry) (file : SealedSegment) (result : Result Served ServeRefused)
    → file_in x ≡ the_file file → AnswersGroups query (serve_file piece file) result → AnswersGroups query (serve_entry piece x) result
groups_by_file query piece x file result e h = subst (λ wanted. AnswersGroups query wanted result) (sym (entry_file piece x file e)) h

pub rows_by_rows : (piece : Piece) (x : Entry) (rows : Consuming) (result : Result ServedRows ServeRefused)
    → rows_in x ≡ the_rows rows → AnswersRows (serve_rows piece rows) result → AnswersRows (serve_entry piece x) result
rows_by_rows piece x rows result e h = subst (λ wanted. AnswersRows wanted result) (sym (entry_rows piece x rows e)) h

pub rows_by_file : (piece : Piece) (x : Entry) (file : SealedSegment) (result : Result ServedRows ServeRefused)
    → file_in x ≡ the_file file → AnswersRows (serve_file piece file) result → AnswersRows (serve_entry piece x) result
rows_by_file piece x file result e h = subst (λ wanted. AnswersRows wanted result) (sym (entry_file piece x file e)) h

abbrev served : Range → List Row → ServedRows
served range rows = record { range = range; rows = rows }

-- groups of the rows of a range serve its piece
pub groups_of_rows : (query : Query) (piece : Piece) (held : Consuming) (range : Range) (answer : Served) → rows_range piece held ≡ Ok range
    → answer.range ≡ range → Holds query (taken query (rows_before range.end held)) answer.groups → AnswersGroups query (serve_rows piece held) (Ok answer)
groups_of_rows query piece held range answer is over holds =
    (served range (rows_before range.end held), ap (λ o. served_over o (λ end. rows_before end held)) is, over, holds)

pub groups_of_file : (query : Query) (piece : Piece) (file : SealedSegment) (range : Range) (answer : Served) → file_range piece file ≡ Ok range
    → answer.range ≡ range → Holds query (taken query (rows_of file)) answer.groups → AnswersGroups query (serve_file piece file) (Ok answer)
groups_of_file query piece file range answer is over holds =
    (served range (rows_of file), ap (λ o. served_over o (λ end. rows_of file)) is, over, holds)

-- ---- queries fit

pub rows_fit : (query : Query) (x : Entry) (rows : Consuming) → FitsEntry query x → rows_in x ≡ the_rows rows → FitsConsuming query rows
rows_fit query (Replica r) rows fits e = by_phase r.phase fits e
  where
    by_phase : (p : Phase) → FitsPhase query p → replica.held_in p ≡ the_rows rows → FitsConsuming query rows
    by_phase (phase.Unsealed o) fits e = subst (FitsConsuming query) (unwrapped o.rows rows e) fits
      where
        unwrapped : (a b : Consuming) → the_rows a ≡ the_rows b → a ≡ b
        unwrapped a b e = cc
    by_phase (phase.Retained kept) fits e = absurd (cc)
    by_phase (phase.Committed kept) fits e = absurd (cc)
    by_phase (phase.Discarded d) fits e = absurd (cc)
rows_fit query (Committed c) rows fits e = absurd (cc)

file_by : (query : Query) (a b : SealedSegment) → the_file a ≡ the_file b → FitsSealed query a → FitsSealed query b
file_by query a b e fits = subst (FitsSealed query) (unwrapped a b e) fits
  where
    unwrapped : (a b : SealedSegment) → the_file a ≡ the_file b → a ≡ b
    unwrapped a b e = cc

phase_file_fits : (query : Query) (p : Phase) (file : SealedSegment) → FitsPhase query p → replica.file_in p ≡ the_file file → FitsSealed query file
phase_file_fits query (phase.Unsealed o) file fits e = absurd (cc)
phase_file_fits query (phase.Retained kept) file fits e = file_by query kept.file file e fits
phase_file_fits query (phase.Committed kept) file fits e = file_by query kept.file file e fits
phase_file_fits query (phase.Discarded d) file fits e = absurd (cc)

loaded_file_fits : (query : Query) (o : Option SealedSegment) (file : SealedSegment) → IfSome o (FitsSealed query) → o ≡ the_file file → FitsSealed query file
loaded_file_fits query None file fits e = absurd (cc)
loaded_file_fits query (Some f) file fits e = file_by query f file e fits

pub file_fits : (query : Query) (x : Entry) (file : SealedSegment) → FitsEntry query x → file_in x ≡ the_file file → FitsSealed query file
file_fits query (Replica r) file fits e = phase_file_fits query r.phase file fits e
file_fits query (Committed c) file fits e = loaded_file_fits query c.file file fits e

abbrev names : List Shape → List (List ℕ)
names shapes = map (λ shape. shape.name) shapes

shape_names : (indexed : List (List ℕ)) (cs : List Column) → map (λ (shape : Shape). shape.name) (map (shape_of indexed) cs) ≡ map (λ (column : Column). column.name) cs
shape_names indexed [] = refl
shape_names indexed (c ∷ cs) = ap (λ rest. c.name ∷ rest) (shape_names indexed cs)

shape_kinds : (indexed : List (List ℕ)) (cs : List Column) → map (λ (shape : Shape). shape.kind) (map (shape_of indexed) cs) ≡ map (λ (column : Column). column.kind) cs
shape_kinds indexed [] = refl
shape_kinds indexed (c ∷ cs) = ap (λ rest. c.kind ∷ rest) (shape_kinds indexed cs)

consuming_fits : (query : Query) (settings : Settings) (rows : Consuming) → IsQuery settings.schema query → HaveColumns settings rows → FitsConsuming query rows
consuming_fits query settings rows is have =
    record {
      schema = settings.schema;
      parsed = is;
      names = ap (map (λ (shape : Shape). shape.name)) have ∙ shape_names settings.indexed settings.schema.columns;
      kinds = ap (map (λ (shape : Shape). shape.kind)) have ∙ shape_kinds settings.indexed settings.schema.columns;
    }

phase_fits : (query : Query) (r : Consumer) (p : Phase) → IsQuery r.settings.schema query → IsPhase r.settings r.partition r.sequence r.start p → FitsPhase query p
phase_fits query r (phase.Unsealed o) is k = consuming_fits query r.settings o.rows is k.0.columns
phase_fits query r (phase.Retained kept) is k = record { schema = r.settings.schema; parsed = is; columns = k.columns }
phase_fits query r (phase.Committed kept) is k = record { schema = r.settings.schema; parsed = is; columns = k.columns }
phase_fits query r (phase.Discarded d) is k = tt

loaded_fits : (query : Query) (schema : Schema) (o : Option SealedSegment) → IsQuery schema query
    → IfSome o (λ file. are_columns file.columns schema.columns ≡ true) → IfSome o (FitsSealed query)
loaded_fits query schema None is k = tt
loaded_fits query schema (Some file) is k = record { schema = schema; parsed = is; columns = k }

pub entry_fits : (query : Query) (setup : Setup) (x : Entry) → IsQuery setup.schema query → IsEntry setup x → FitsEntry query x
entry_fits query setup (Replica r) is k =
    phase_fits query r r.phase (subst (λ (s : Settings). IsQuery s.schema query) (sym k.1) is) k.0.phase
entry_fits query setup (Committed c) is k = loaded_fits query setup.schema c.file is k
