-- What a server serves are the stream's rows.
use Rattle.std.proofs.Common.{◌≡◌, ◌+◌, ◌==◌, ◌≤◌, ℕ, Bool, true, false, cond, nat_le, List, [], ◌∷◌, ◌++◌, length, map, filter, Option, Some, None, Result, Ok, Err, IfSome, refl, sym, ap, subst, ◌∙◌, append-nil, arith}
use Rattle.std.proofs.lemmas.Bool.{cond-false, eqb-true, leb-true, le-ltb}
use Rattle.std.proofs.lemmas.List.Elements.{filter-append}
use Rattle.rt_base.specs.declared.numbers.Offset.{Offset}
use Rattle.rt_base.specs.declared.numbers.Partition.{Partition}
use Rattle.rt_base.specs.declared.numbers.Sequence.{Sequence}
use Rattle.rt_schema.specs.Row.{row_of, rows_in}
use Rattle.rt_schema.specs.declared.row.Row.{Row}
use Rattle.rt_schema.specs.declared.schema.Schema.{Schema}
use Rattle.rt_mutable.specs.Consuming.{Consuming, Placed, is_before}
use Rattle.rt_segment.specs.Segment.{SealedSegment, rows_of}
use Rattle.rt_stream.specs.Log.{Log, messages_of}
use Rattle.rt_scan.specs.Scanned.{rows_before}
use Rattle.rt_model.specs.declared.piece.Piece.{Piece}
use Rattle.rt_model.specs.declared.seg_meta.SeenMeta.{SeenMeta}
use Rattle.rt_model.specs.declared.setup.Setup.{Setup}
use Rattle.rt_past.specs.Past.{Past}
use Rattle.rt_past.specs.View.{IsSound}
use Rattle.rt_consumer.specs.declared.consumer.Consumer.{Consumer}
use Rattle.rt_consumer.specs.declared.phase.Phase.{Phase}
use Rattle.rt_consumer.specs.declared.phase.Phase.TheVariants as phase
use Rattle.rt_consumer.specs.declared.settings.Settings.{Settings}
use Rattle.rt_consumer.specs.Consumer.{IsConsumer, IsPhase, settings_of}
use Rattle.rt_replica.specs.Held.{messages_between, placed_from, placed_row}
use Rattle.rt_replica.specs.HeldSoFar.{HoldsFileSoFar, HoldsInSoFar, HoldsSoFar, IsHeldSoFar}
use Rattle.rt_replica.proofs.Places.{all_before, between_append, length_between, placed_append, rows_placed}
use Rattle.rt_replica.proofs.SoFar.{file_forget, forget, starts}
use Rattle.rt_entry.specs.declared.entry.Entry.{Entry}
use Rattle.rt_entry.specs.declared.entry.Entry.TheVariants.{Replica, Committed}
use Rattle.rt_entry.specs.declared.refused.ServeRefused.{ServeRefused}
use Rattle.rt_entry.specs.declared.refused.ServeRefused.TheVariants.{NotServed}
use Rattle.rt_entry.specs.declared.served_rows.ServedRows.{ServedRows}
use Rattle.rt_entry.specs.Entry.{IsEntry}
use Rattle.rt_entry.specs.Serving.{file_end, range_to, rows_end, serve_entry, serve_file, serve_loaded, serve_phase, serve_rows, served_over}
use Rattle.rt_server.specs.Given.{AreRowsSoFar, IsRangeOf}
use Rattle.rt_server.specs.Kept.{IsServer}
use Rattle.rt_server.specs.Lasting.{IsLoaded, IsServerOver}
use Rattle.rt_server.specs.LastingRows.{AreRightRows}
use Rattle.rt_server.specs.Own.{IsOwnServer}
use Rattle.rt_server.specs.Serving.{serve, serve_at}
use Rattle.rt_server.specs.Table.{Segment, ServerState, entry_of}
use Rattle.rt_server.proofs.LastingCommits.{of_setup_entry}
use Rattle.rt_server.proofs.LastingEntries.{found_over}
use Rattle.rt_server.proofs.OwnPuts.{found_own}
use Rattle.rt_server.proofs.Trues.{IsTrueEntry, entry_true, own_true}

-- ---- the rows before an offset

none_at : (end : Offset) (o : Option Row) (offset : ℕ) (placed : List Placed) → end.0 ≤ offset → filter (is_before end) placed ≡ [] → filter (is_before end) (placed_row offset o ++ placed) ≡ []
none_at end None offset placed le e = e
none_at end (Some row) offset placed le e = cond-false _ _ _ (le-ltb offset end.0 le) ∙ e

none_before : (end : Offset) (schema : Schema) (offset : ℕ) (ms : List (List ℕ)) → end.0 ≤ offset → filter (is_before end) (placed_from schema offset ms) ≡ []
none_before end schema offset [] le = refl
none_before end schema offset (m ∷ ms) le =
    none_at end (row_of schema m) offset (placed_from schema (offset + 1) ms) le (none_before end schema (offset + 1) ms (omega (arith, le)))

-- the rows of a range of the stream, out of those that are held
pub rows_right : (schema : Schema) (ms : List (List ℕ)) (start end : Offset) (rows : Consuming) → HoldsSoFar schema ms start rows → start.0 ≤ end.0 → end.0 ≤ rows.end.0
    → rows_before end rows ≡ rows_in schema ms start.0 end.0
rows_right schema ms start end rows h order below =
    let first = messages_between ms start.0 end.0 in
    let rest = messages_between ms end.0 rows.end.0 in
    let size : start.0 + length first ≡ end.0 = omega (arith, order, length_between ms start.0 end.0 order (omega (arith, order, below, h.within))) in
    let parts : rows.rows ≡ placed_from schema start.0 first ++ placed_from schema end.0 rest =
    h.all
    ∙ ap (placed_from schema start.0) (between_append ms start.0 end.0 rows.end.0 order below)
    ∙ placed_append schema start.0 first rest
    ∙ ap (λ n. placed_from schema start.0 first ++ placed_from schema n rest) size in
    let before : filter (is_before end) rows.rows ≡ placed_from schema start.0 first =
    ap (filter (is_before end)) parts
    ∙ filter-append (is_before end) (placed_from schema start.0 first) (placed_from schema end.0 rest)
    ∙ ap (λ ps. filter (is_before end) (placed_from schema start.0 first) ++ ps) (none_before end schema end.0 rest (omega arith))
    ∙ append-nil (filter (is_before end) (placed_from schema start.0 first))
    ∙ all_before end schema start.0 first (omega (arith, size)) in
    ap (map (λ (p : Placed). p.row)) before ∙ rows_placed schema start.0 first

-- ---- the range

abbrev pub served : ServedRows → Result ServedRows ServeRefused
served x = Ok x

abbrev unserved : Offset → Result ServedRows ServeRefused
unserved x = Err (NotServed (Some x))

same_served : (a b : ServedRows) → served a ≡ served b → a ≡ b
same_served a b e = cc

not_served : (x : Offset) (a : ServedRows) → unserved x ≡ served a → ⊥
not_served x a e = cc

abbrev rows_at : Offset → Offset → List Row → ServedRows
rows_at start end rows = record { range = record { start = start; end = end }; rows = rows }

-- the end up to which a piece is served, and that its start is the held one
pub record IsRange (piece : Piece) (start : Offset) (o : Option Offset) (rows : Offset → List Row) (x : ServedRows) : Type 0 where
  pub end : Offset
  pub ends : o ≡ Some end
  pub first : piece.start ≡ start
  pub is : rows_at piece.start end (rows end) ≡ x

same_offset : (a b : Offset) → a.0 ≡ b.0 → a ≡ b
same_offset a b e = ap (λ n. record { 0 = n }) e

served_is : (piece : Piece) (start reached : Offset) (o : Option Offset) (rows : Offset → List Row) (x : ServedRows)
    → served_over (range_to piece start reached o) rows ≡ served x → IsRange piece start o rows x
served_is piece start reached None rows x e = absurd (not_served reached x e)
served_is piece start reached (Some end) rows x e = by (piece.start.0 == start.0) refl e
  where
    by : (b : Bool) → (piece.start.0 == start.0) ≡ b
        → served_over (cond b (Ok (record { start = piece.start; end = end })) (Err (NotServed (Some reached)))) rows ≡ served x
        → IsRange piece start (Some end) rows x
    by true same e = record {
      end = end;
      ends = refl;
      first = same_offset piece.start start (eqb-true piece.start.0 start.0 same);
      is = same_served (rows_at piece.start end (rows end)) x e;
    }
    by false other e = absurd (not_served reached x e)

abbrev an_end : Offset → Option Offset
an_end x = Some x

same_end : (a b : Offset) → an_end a ≡ an_end b → a ≡ b
same_end a b e = cc

no_end : (a : Offset) → None ≡ an_end a → ⊥
no_end a e = cc

-- how far rows by column are served
ends_rows : (rows : Consuming) (start end : Offset) (o : Option Offset) → start.0 ≤ rows.end.0 → IfSome o (λ e. start.0 ≤ e.0) → rows_end rows o ≡ an_end end
    → (start.0 ≤ end.0) × (end.0 ≤ rows.end.0) × IfSome o (λ e. end ≡ e)
ends_rows rows start end None held order e =
    let same = same_end rows.end end e in (omega (arith, held, ap (λ (x : Offset). x.0) same), omega (arith, ap (λ (x : Offset). x.0) same), tt)
ends_rows rows start end (Some x) held order e = by (nat_le x.0 rows.end.0) refl e
  where
    by : (b : Bool) → nat_le x.0 rows.end.0 ≡ b → cond b (an_end x) None ≡ an_end end → (start.0 ≤ end.0) × (end.0 ≤ rows.end.0) × (end ≡ x)
    by true le e =
        let same = same_end x end e in
        (omega (arith, order, ap (λ (y : Offset). y.0) same), omega (arith, leb-true x.0 rows.end.0 le, ap (λ (y : Offset). y.0) same), sym same)
    by false gt e = absurd (no_end end e)

-- sealed rows are served whole
ends_file : (file : SealedSegment) (end : Offset) (o : Option Offset) → file_end file o ≡ an_end end → (file.range.end ≡ end) × IfSome o (λ e. end ≡ e)
ends_file file end None e = (same_end file.range.end end e, tt)
ends_file file end (Some x) e = by (x.0 == file.range.end.0) refl e
  where
    by : (b : Bool) → (x.0 == file.range.end.0) ≡ b → cond b (an_end x) None ≡ an_end end → (file.range.end ≡ end) × (end ≡ x)
    by true is e =
        let same = same_end x end e in
        (sym (same_offset x file.range.end (eqb-true x.0 file.range.end.0 is)) ∙ same, sym same)
    by false other e = absurd (no_end end e)

-- ---- what is held so far

-- the held start is the piece's, and the rows are those so far
pub record IsServedFrom (schema : Schema) (ms : List (List ℕ)) (piece : Piece) (start : Offset) (x : ServedRows) : Type 0 where
  pub first : piece.start ≡ start
  pub rows : AreRowsSoFar schema ms piece x

-- a file is served whole, where the piece is its range
pub record IsServedWhole (piece : Piece) (file : SealedSegment) (x : ServedRows) : Type 0 where
  pub first : piece.start ≡ file.range.start
  pub range : IsRangeOf piece x.range
  pub end : file.range.end ≡ x.range.end
  pub rows : x.rows ≡ rows_of file

module _ (piece : Piece) (x : ServedRows) where
  pub file_whole : (file : SealedSegment) → serve_file piece file ≡ served x → IsServedWhole piece file x
  file_whole file e =
      let r = served_is piece file.range.start file.range.end (file_end file piece.end) (λ end. rows_of file) x e in
      let ends = ends_file file r.end piece.end r.ends in
      subst (IsServedWhole piece file) r.is
      (record { first = r.first; range = record { start = refl; end = ends.1 }; end = ends.0; rows = refl })

module _ (schema : Schema) (ms : List (List ℕ)) (piece : Piece) (x : ServedRows) (order : IfSome piece.end (λ end. piece.start.0 ≤ end.0)) where
  rows_served : (start : Offset) (rows : Consuming) → rows.start ≡ start → HoldsSoFar schema ms start rows → serve_rows piece rows ≡ served x → IsServedFrom schema ms piece start x
  rows_served start rows first h e =
      let r = served_is piece rows.start rows.end (rows_end rows piece.end) (λ end. rows_before end rows) x e in
      let at : piece.start ≡ start = r.first ∙ first in
      let ends = ends_rows rows piece.start r.end piece.end (omega (arith, h.ordered, ap (λ (y : Offset). y.0) at)) order r.ends in
      subst (IsServedFrom schema ms piece start) r.is
      (record {
        first = at;
        rows = record {
          range = record { start = refl; end = ends.2 };
          ordered = ends.0;
          within = omega (arith, ends.1, h.within, ap (λ (y : Offset). y.0) at);
          rows = rows_right schema ms start r.end rows h (omega (arith, ends.0, ap (λ (y : Offset). y.0) at)) ends.1
              ∙ ap (λ (y : Offset). rows_in schema ms y.0 r.end.0) (sym at);
        };
      })

  file_served : (start : Offset) (file : SealedSegment) → file.range.start ≡ start → HoldsFileSoFar schema ms start file → serve_file piece file ≡ served x
      → IsServedFrom schema ms piece start x
  file_served start file first h e =
      let w = file_whole piece x file e in
      let at : piece.start ≡ start = w.first ∙ first in
      let from : x.range.start.0 ≡ start.0 = ap (λ (y : Offset). y.0) (w.range.start ∙ at) in
      let to : file.range.end.0 ≡ x.range.end.0 = ap (λ (y : Offset). y.0) w.end in
      record {
        first = at;
        rows = record {
          range = w.range;
          ordered = omega (arith, h.ordered, from, to);
          within = omega (arith, h.within, from, to);
          rows = w.rows ∙ h.rows ∙ ap (λ n. rows_in schema ms start.0 n) to ∙ ap (λ n. rows_in schema ms n x.range.end.0) (sym from);
        };
      }

  phase_served : (settings : Settings) (p : Partition) (q : Sequence) (start : Offset) (ph : Phase) → IsPhase settings p q start ph → HoldsInSoFar schema ms start ph
      → serve_phase piece ph ≡ served x → IsServedFrom schema ms piece start x
  phase_served settings p q start (phase.Unsealed o) is h e = rows_served start o.rows is.0.first h e
  phase_served settings p q start (phase.Retained kept) is h e = file_served start kept.file is.first h e
  phase_served settings p q start (phase.Committed kept) is h e = file_served start kept.file is.first h e
  phase_served settings p q start (phase.Discarded d) is h e = absurd (cc)

-- rows so far are right where they begin within the messages
pub rows_back : (schema : Schema) (ms : List (List ℕ)) (piece : Piece) (start : Offset) (x : ServedRows) → start.0 ≤ length ms → IsServedFrom schema ms piece start x
    → AreRightRows schema ms piece x
rows_back schema ms piece start x le k =
    let from : x.range.start.0 ≡ start.0 = ap (λ (y : Offset). y.0) (k.rows.range.start ∙ k.first) in
    record {
      start = k.rows.range.start;
      end = k.rows.range.end;
      ordered = k.rows.ordered;
      within = omega (arith, k.rows.within, le, from);
      rows = k.rows.rows;
    }

-- ---- an entry

-- a replica of a server by its rules serves the rows that it holds so far
pub replica_served : (setup : Setup) (log : Log) (p : Partition) (r : Consumer) (piece : Piece) (x : ServedRows) → IfSome piece.end (λ end. piece.start.0 ≤ end.0)
    → IsConsumer r → r.settings ≡ settings_of setup → r.partition ≡ p → IsHeldSoFar log r → serve_phase piece r.phase ≡ served x
    → IsServedFrom setup.schema (messages_of log p) piece r.start x
replica_served setup log p r piece x order is same at held e =
    subst (λ (y : Settings). IsServedFrom y.schema (messages_of log p) piece r.start x) same
    (subst (λ z. IsServedFrom r.settings.schema (messages_of log z) piece r.start x) at
    (phase_served r.settings.schema (messages_of log r.partition) piece x order r.settings r.partition r.sequence r.start r.phase is.phase held e))

loaded_served : (setup : Setup) (past : Past) (p : Partition) (q : Sequence) (done : SeenMeta) (o : Option SealedSegment) (piece : Piece) (x : ServedRows)
    → IfSome piece.end (λ end. piece.start.0 ≤ end.0) → IfSome o (IsLoaded setup past p q done) → serve_loaded piece o ≡ served x
    → AreRightRows setup.schema (messages_of past.log p) piece x
loaded_served setup past p q done None piece x order l e = absurd (cc)
loaded_served setup past p q done (Some file) piece x order l e =
    let so_far = file_forget setup.schema (messages_of past.log p) done.meta.start file l.held in
    rows_back setup.schema (messages_of past.log p) piece done.meta.start x (omega (arith, l.held.ordered, l.held.within))
    (file_served setup.schema (messages_of past.log p) piece x order done.meta.start file l.kept.first so_far e)

module _ (setup : Setup) (past : Past) (p : Partition) (q : Sequence) (piece : Piece) (x : ServedRows) (order : IfSome piece.end (λ end. piece.start.0 ≤ end.0)) where
  pub entry_served : (e : Entry) → IsEntry setup e → IsTrueEntry setup past (p, q) e → serve_entry piece e ≡ served x
      → AreRightRows setup.schema (messages_of past.log p) piece x
  entry_served (Replica r) own k e =
      let from = replica_served setup past.log p r piece x order own.0 k.1.settings (ap (λ (s : Segment). s.0) k.0) (forget past.log r k.1.held) e in
      rows_back setup.schema (messages_of past.log p) piece r.start x
      (subst (λ z. r.start.0 ≤ length (messages_of past.log z)) (ap (λ (s : Segment). s.0) k.0) (starts past.log r k.1.held)) from
  entry_served (Committed c) own k e = loaded_served setup past p q c.done c.file piece x order k.loaded e

  pub at_served : (s : ServerState) → s.setup ≡ setup → IsServer s.setup s.table → (o : Option Entry) → entry_of s.table p q ≡ o
      → ((e : Entry) → entry_of s.table p q ≡ Some e → IsTrueEntry setup past (p, q) e) → serve_at piece o ≡ served x
      → AreRightRows setup.schema (messages_of past.log p) piece x
  at_served s of kept None found trues e = absurd (cc)
  at_served s of kept (Some y) found trues e = entry_served y (of_setup_entry setup s p q y of kept found) (trues y found) e

-- ---- the table

pub serves_right : (setup : Setup) (past : Past) (s : ServerState) → IsServerOver setup past s → (piece : Piece) (x : ServedRows)
    → IfSome piece.end (λ end. piece.start.0 ≤ end.0) → serve s.table piece ≡ Ok x → AreRightRows setup.schema (messages_of past.log piece.partition) piece x
serves_right setup past s k piece x order e =
    let p = piece.partition in
    let q = piece.sequence in
    at_served setup past p q piece x order s k.of_setup k.kept (entry_of s.table p q) refl
    (λ y found. entry_true setup past s.numbers.instance s.numbers.incarnation (p, q) y (found_over setup past s k p q y found)) e

-- so it is of what is its own, over a sound past
pub serves_sound : (setup : Setup) (past : Past) (s : ServerState) → IsSound setup past → IsOwnServer setup past s → (piece : Piece) (x : ServedRows)
    → IfSome piece.end (λ end. piece.start.0 ≤ end.0) → serve s.table piece ≡ Ok x → AreRightRows setup.schema (messages_of past.log piece.partition) piece x
serves_sound setup past s sound k piece x order e =
    let p = piece.partition in
    let q = piece.sequence in
    at_served setup past p q piece x order s k.of_setup k.kept (entry_of s.table p q) refl
    (λ y found. own_true setup past sound s.numbers.instance s.numbers.incarnation (p, q) y (found_own setup past s k p q y found)) e
