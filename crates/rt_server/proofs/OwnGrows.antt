-- What a server has of its own, and what it gave, stays so in a view that has all of the earlier one.
use Rattle.std.proofs.Common.{◌⊎◌, inl, inr, ℕ, List, ◌++◌, filter_map, sym, ap, subst, ◌∙◌, arith}
use Rattle.std.proofs.lemmas.List.{length-append}
use Rattle.rt_base.specs.declared.numbers.Instance.{Instance}
use Rattle.rt_base.specs.declared.numbers.Partition.{Partition}
use Rattle.rt_base.specs.declared.numbers.Sequence.{Sequence}
use Rattle.rt_schema.specs.Row.{row_of}
use Rattle.rt_segment.specs.Segment.{SealedSegment}
use Rattle.rt_stream.specs.Log.{messages_of}
use Rattle.rt_model.specs.declared.piece.Piece.{Piece}
use Rattle.rt_model.specs.declared.query.Query.{Query}
use Rattle.rt_model.specs.declared.seg_meta.SeenMeta.{SeenMeta}
use Rattle.rt_model.specs.declared.setup.Setup.{Setup}
use Rattle.rt_agg.specs.declared.served.Served.{Served}
use Rattle.rt_past.specs.Past.{Past}
use Rattle.rt_past.specs.View.{Within}
use Rattle.rt_past.proofs.Growth.{begun_grows, incarnation_grows, stands_grows}
use Rattle.rt_replica.proofs.KeepsOwn.{own_within, placed_within, told_within}
use Rattle.rt_replica.proofs.Places.{between_more}
use Rattle.rt_entry.specs.declared.entry.CommittedSegment.{CommittedSegment}
use Rattle.rt_entry.specs.declared.entry.Entry.{Entry}
use Rattle.rt_entry.specs.declared.entry.Entry.TheVariants.{Replica, Committed}
use Rattle.rt_entry.specs.declared.served_rows.ServedRows.{ServedRows}
use Rattle.rt_server.specs.Given.{AreRowsSoFar, IsFromFile, IsFromReplica, IsGivenRight}
use Rattle.rt_server.specs.Own.{IsHad, IsOwnCommitted, IsOwnEntry, IsOwnServer}
use Rattle.rt_server.specs.Table.{Segment, ServerState}
use Rattle.rt_server.proofs.LastingGrows.{if_each, loaded_grows, targets_grow}

module _ (setup : Setup) (a b : Past) (g : Within a b) where
  had_grows : (p : Partition) (q : Sequence) (done : SeenMeta) (file : SealedSegment) → IsHad setup a p q done file → IsHad setup b p q done file
  had_grows p q done file (inl l) = inl (loaded_grows setup a b g.log p q done file l)
  had_grows p q done file (inr k) =
      inr (record {
        commit = k.commit;
        status = k.status;
        bytes = k.bytes;
        stands = stands_grows a.files b.files k.commit.path k.bytes g.files k.stands;
        read = k.read;
        header = k.header;
        columns = k.columns;
      })

  committed_grows : (i : Instance) (p : Partition) (q : Sequence) (c : CommittedSegment) → IsOwnCommitted setup a i p q c → IsOwnCommitted setup b i p q c
  committed_grows i p q c k =
      record {
        partition = k.partition;
        placed = placed_within setup a b g i p q k.placed;
        done = told_within setup a b g p q c.done k.done;
        had = if_each (IsHad setup a p q c.done) (IsHad setup b p q c.done) c.file (had_grows p q c.done) k.had;
      }

  own_entry_grows : (i : Instance) (incarnation : ℕ) (s : Segment) (e : Entry) → IsOwnEntry setup a i incarnation s e → IsOwnEntry setup b i incarnation s e
  own_entry_grows i incarnation s (Replica r) k = (k.0, own_within setup a b g i incarnation r k.1)
  own_entry_grows i incarnation s (Committed c) k = committed_grows i s.0 s.1 c k

  pub own_server_grows : (s : ServerState) → IsOwnServer setup a s → IsOwnServer setup b s
  own_server_grows s k =
      record {
        of_setup = k.of_setup;
        kept = k.kept;
        incarnation = incarnation_grows a.history b.history s.numbers.instance s.numbers.incarnation g.history k.incarnation;
        targets = targets_grow a.history b.history s.numbers.instance s.table.targets g.history k.targets;
        entries = λ x has. own_entry_grows s.numbers.instance s.numbers.incarnation x.0 x.1 (k.entries x has);
      }

  -- ---- what was given

  rows_grow : (ms more : List (List ℕ)) (piece : Piece) (x : ServedRows) → AreRowsSoFar setup.schema ms piece x → AreRowsSoFar setup.schema (ms ++ more) piece x
  rows_grow ms more piece x k =
      record {
        range = k.range;
        ordered = k.ordered;
        within = omega (arith, k.within, length-append ms more);
        rows = k.rows ∙ ap (filter_map (row_of setup.schema)) (sym (between_more ms more x.range.start.0 x.range.end.0 k.ordered k.within));
      }

  from_grows : (piece : Piece) (x : ServedRows) → IsFromReplica setup a piece x ⊎ IsFromFile setup a piece x → IsFromReplica setup b piece x ⊎ IsFromFile setup b piece x
  from_grows piece x (inl r) =
      let more = g.log.messages piece.partition in
      inl (record {
        begun = begun_grows a.history b.history piece.partition piece.sequence piece.start g.history r.begun;
        rows = subst (λ ms. AreRowsSoFar setup.schema ms piece x) (sym more.1) (rows_grow (messages_of a.log piece.partition) more.0 piece x r.rows);
      })
  from_grows piece x (inr f) =
      inr (record {
        done = f.done;
        told = told_within setup a b g piece.partition piece.sequence f.done f.told;
        file = f.file;
        had = had_grows piece.partition piece.sequence f.done f.file f.had;
        range = f.range;
        whole = f.whole;
        rows = f.rows;
      })

  pub given_grows : (query : Query) (piece : Piece) (answer : Served) → IsGivenRight setup a query piece answer → IsGivenRight setup b query piece answer
  given_grows query piece answer k =
      record { partition = k.partition; rows = k.rows; range = k.range; groups = k.groups; from = from_grows piece k.rows k.from }
