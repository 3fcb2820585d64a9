-- What a server gives of a piece is right by what is its own, and the stream's over a sound past.
use Rattle.std.proofs.Common.{◌≡◌, ◌<◌, ◌≤◌, ◌⊎◌, inl, inr, Option, Some, None, IfSome, Ok, refl, sym, ap, subst, ◌∙◌, arith}
use Rattle.rt_base.specs.declared.numbers.Offset.{Offset}
use Rattle.rt_base.specs.declared.numbers.Partition.{Partition}
use Rattle.rt_schema.specs.Row.{rows_in}
use Rattle.rt_segment.specs.Segment.{SealedSegment}
use Rattle.rt_stream.specs.Log.{messages_of}
use Rattle.rt_model.specs.declared.piece.Piece.{Piece}
use Rattle.rt_model.specs.declared.query.Query.{Query}
use Rattle.rt_model.specs.declared.setup.Setup.{Setup}
use Rattle.rt_agg.specs.declared.served.Served.{Served}
use Rattle.rt_past.specs.Past.{Past}
use Rattle.rt_past.specs.Segments.{IsBegun}
use Rattle.rt_past.specs.View.{IsSound}
use Rattle.rt_consumer.specs.declared.consumer.Consumer.{Consumer}
use Rattle.rt_consumer.specs.Consumer.{IsConsumer}
use Rattle.rt_replica.specs.Own.{IsOwnReplica}
use Rattle.rt_replica.proofs.Begins.{sound_begun_within}
use Rattle.rt_entry.specs.declared.entry.CommittedSegment.{CommittedSegment}
use Rattle.rt_entry.specs.declared.entry.Entry.{Entry}
use Rattle.rt_entry.specs.declared.entry.Entry.TheVariants.{Replica, Committed}
use Rattle.rt_entry.specs.declared.served_rows.ServedRows.{ServedRows}
use Rattle.rt_entry.specs.Entry.{IsEntry}
use Rattle.rt_entry.specs.Serving.{AnswersGroups, serve_entry, serve_loaded, serve_phase}
use Rattle.rt_server.specs.Given.{IsFromFile, IsFromReplica, IsGivenRight, IsRightAnswer}
use Rattle.rt_server.specs.LastingRows.{AreRightRows}
use Rattle.rt_server.specs.Lasting.{IsLoaded}
use Rattle.rt_server.specs.Own.{IsHad, IsOwnCommitted, IsOwnEntry, IsOwnServer}
use Rattle.rt_server.specs.Serving.{serve, serve_at}
use Rattle.rt_server.specs.Table.{Segment, ServerState, entry_of, segment_of}
use Rattle.rt_server.proofs.LastingCommits.{of_setup_entry}
use Rattle.rt_server.proofs.LastingServes.{file_whole, replica_served, rows_back, served}
use Rattle.rt_server.proofs.LastingEntries.{at_segment}
use Rattle.rt_server.proofs.OwnPuts.{found_own}
use Rattle.rt_server.proofs.Trues.{had_loaded, told_was}

-- ---- by what is its own

-- where the rows of a piece of a partition of the setup come from
pub record IsFrom (setup : Setup) (view : Past) (piece : Piece) (x : ServedRows) : Type 0 where
  pub partition : piece.partition.0 < setup.partitions
  pub from : IsFromReplica setup view piece x ⊎ IsFromFile setup view piece x

module _ (setup : Setup) (view : Past) (s : ServerState) (k : IsOwnServer setup view s) (piece : Piece) (x : ServedRows) (order : IfSome piece.end (λ end. piece.start.0 ≤ end.0)) where
  abbrev here : Segment
  here = (piece.partition, piece.sequence)

  file_from : (c : CommittedSegment) (o : Option SealedSegment) → IsOwnCommitted setup view s.numbers.instance piece.partition piece.sequence c
      → IfSome o (IsHad setup view piece.partition piece.sequence c.done) → serve_loaded piece o ≡ served x → IsFrom setup view piece x
  file_from c None own had e = absurd (cc)
  file_from c (Some file) own had e =
      let w = file_whole piece x file e in
      record {
        partition = own.partition;
        from = inr (record {
          done = c.done;
          told = own.done;
          file = file;
          had = had;
          range = w.range;
          whole = (w.range.start ∙ w.first, sym w.end);
          rows = w.rows;
        });
      }

  replica_from : (r : Consumer) → IsConsumer r → segment_of r ≡ here → IsOwnReplica setup view s.numbers.instance s.numbers.incarnation r → serve_phase piece r.phase ≡ served x
      → IsFrom setup view piece x
  replica_from r is of own e =
      let at : r.partition ≡ piece.partition = ap (λ (a : Segment). a.0) of in
      let from = replica_served setup view.log piece.partition r piece x order is own.settings at own.held e in
      let begun : IsBegun view.history piece.partition piece.sequence r.start = at_segment (λ a b. IsBegun view.history a b r.start) (segment_of r) here of own.begun in
      record {
        partition = subst (λ (z : Partition). z.0 < setup.partitions) at own.partition;
        from = inl (record {
          begun = subst (IsBegun view.history piece.partition piece.sequence) (sym from.first) begun;
          rows = from.rows;
        });
      }

  entry_from : (e : Entry) → IsEntry setup e → IsOwnEntry setup view s.numbers.instance s.numbers.incarnation here e → serve_entry piece e ≡ served x → IsFrom setup view piece x
  entry_from (Replica r) is own e = replica_from r is.0 own.0 own.1 e
  entry_from (Committed c) is own e = file_from c c.file own own.had e

  at_from : (o : Option Entry) → entry_of s.table piece.partition piece.sequence ≡ o → serve_at piece o ≡ served x → IsFrom setup view piece x
  at_from None found e = absurd (cc)
  at_from (Some y) found e =
      entry_from y (of_setup_entry setup s piece.partition piece.sequence y k.of_setup k.kept found) (found_own setup view s k piece.partition piece.sequence y found) e

  pub rows_from : serve s.table piece ≡ served x → IsFrom setup view piece x
  rows_from e = at_from (entry_of s.table piece.partition piece.sequence) refl e

pub gives_right : (setup : Setup) (view : Past) (s : ServerState) (query : Query) (piece : Piece) (answer : Served) → IsOwnServer setup view s
    → IfSome piece.end (λ end. piece.start.0 ≤ end.0) → AnswersGroups query (serve s.table piece) (Ok answer) → IsGivenRight setup view query piece answer
gives_right setup view s query piece answer k order (rows, is, range, groups) =
    let from = rows_from setup view s k piece rows order is in
    record { partition = from.partition; rows = rows; range = range; groups = groups; from = from.from }

-- ---- over a sound past

module _ (setup : Setup) (past : Past) (k : IsSound setup past) (piece : Piece) (x : ServedRows) (within : piece.partition.0 < setup.partitions) where
  abbrev Right : Type 0
  Right = AreRightRows setup.schema (messages_of past.log piece.partition) piece x

  replica_is_right : IsFromReplica setup past piece x → Right
  replica_is_right r =
      rows_back setup.schema (messages_of past.log piece.partition) piece piece.start x
      (sound_begun_within setup past piece.partition k within piece.sequence piece.start r.begun) (record { first = refl; rows = r.rows })

  file_is_right : IsFromFile setup past piece x → Right
  file_is_right f =
      let was = told_was setup past k piece.partition piece.sequence f.done f.told in
      let l : IsLoaded setup past piece.partition piece.sequence f.done f.file = had_loaded setup past k piece.partition piece.sequence f.done within was f.file f.had in
      let from : x.range.start.0 ≡ f.done.meta.start.0 = ap (λ (y : Offset). y.0) (f.whole.0 ∙ l.kept.first) in
      let to : f.file.range.end.0 ≡ x.range.end.0 = ap (λ (y : Offset). y.0) (sym f.whole.1) in
      record {
        start = f.range.start;
        end = f.range.end;
        ordered = omega (arith, l.held.ordered, from, to);
        within = omega (arith, l.held.within, to);
        rows =
            f.rows ∙ l.held.rows ∙ ap (λ n. rows_in setup.schema (messages_of past.log piece.partition) f.done.meta.start.0 n) to
            ∙ ap (λ n. rows_in setup.schema (messages_of past.log piece.partition) n x.range.end.0) (sym from);
      }

  from_is_right : IsFromReplica setup past piece x ⊎ IsFromFile setup past piece x → Right
  from_is_right (inl r) = replica_is_right r
  from_is_right (inr f) = file_is_right f

pub given_is_right : (setup : Setup) (past : Past) (query : Query) (piece : Piece) (answer : Served) → IsSound setup past → IsGivenRight setup past query piece answer
    → IsRightAnswer setup past query piece answer
given_is_right setup past query piece answer k g =
    record { rows = g.rows; range = g.range; groups = g.groups; right = from_is_right setup past k piece g.rows g.partition g.from }
