-- What a server has of committed segments and what it ever gave is right over the past of an ended cluster.
use Rattle.std.proofs.Common.{◌≡◌, ℕ, List, Option, Some, None, IfSome, refl, sym, ap, ◌∙◌, subst, arith, slice_get}
use Rattle.rt_agg.specs.Grouped.{Holds}
use Rattle.rt_agg.specs.declared.served.Served.{Served}
use Rattle.rt_base.specs.declared.numbers.Offset.{Offset}
use Rattle.rt_base.specs.declared.numbers.Partition.{Partition}
use Rattle.rt_base.specs.declared.numbers.Sequence.{Sequence}
use Rattle.rt_base.specs.declared.range.Range.{Range}
use Rattle.rt_broker.specs.IsAsked.{IsRightGot, IsRightServed}
use Rattle.rt_broker.specs.Noting.{IsEnd}
use Rattle.rt_broker.specs.declared.piece_given.PieceGiven.{PieceGiven}
use Rattle.rt_broker.specs.declared.piece_got.PieceGot.{PieceGot}
use Rattle.rt_broker.specs.declared.piece_got.PieceGot.TheVariants as got
use Rattle.rt_entry.specs.declared.entry.Entry.{Entry}
use Rattle.rt_consumer.specs.declared.consumer.Consumer.{Consumer}
use Rattle.rt_lists.specs.Members.{Has}
use Rattle.rt_lists.proofs.Members.{place-Has}
use Rattle.rt_live_names.specs.Names.{Names}
use Rattle.rt_live_names.specs.ServerPart.{IsGivenOver, IsGotRight, ServerPart, server_view}
use Rattle.rt_model.specs.Aggregate.{taken}
use Rattle.rt_model.specs.declared.piece.Piece.{Piece}
use Rattle.rt_model.specs.declared.query.Query.{Query}
use Rattle.rt_model.specs.declared.setup.Setup.{Setup}
use Rattle.rt_past.specs.Past.{Past}
use Rattle.rt_schema.specs.Row.{rows_in}
use Rattle.rt_schema.specs.declared.row.Row.{Row}
use Rattle.rt_replica.specs.Held.{IsHeld}
use Rattle.rt_server.specs.Given.{IsRightAnswer}
use Rattle.rt_server.specs.LastingRows.{CommittedRows, IsRightCommitted, committed_rows}
use Rattle.rt_server.specs.Own.{IsOwnServer}
use Rattle.rt_server.specs.Table.{entry_of, replica_of}
use Rattle.rt_server.proofs.Giving.{given_is_right}
use Rattle.rt_server.proofs.LastingCommits.{commits_sound}
use Rattle.rt_server.proofs.OwnGrows.{given_grows, own_server_grows}
use Rattle.rt_server.proofs.OwnPuts.{replica_own}
use Rattle.rt_server.proofs.Trues.{own_held}
use Rattle.rt_stream.specs.Log.{messages_of}
use Rattle.rt_live_end.specs.Ended.{Ended, IsEnded, gave_by, gave_in}
use Rattle.rt_live_end.specs.Right.{IsGivenRightly, IsRightGift, past_of}
use Rattle.rt_live_end.proofs.Callers.{server_part}
use Rattle.rt_live_end.proofs.Members.{all_has}
use Rattle.rt_live_end.proofs.Sound.{ended_sound, server_within}

module _ (n : Names) (e : Ended) (k : IsEnded n e) where
  abbrev past : Past
  past = past_of n e

  own_over : (a : ServerPart) → Has e.servers a → IsOwnServer n.setup past a.server
  own_over a has = own_server_grows n.setup (server_view n a) past (server_within n e k a has) a.server (server_part n e k a has).own

  -- ---- committed entries and replicas

  pub commits_right : (a : ServerPart) (p : Partition) (q : Sequence) (x : Entry) (c : CommittedRows) → Has e.servers a → entry_of a.server.table p q ≡ Some x
      → committed_rows x ≡ Some c → IsRightCommitted n.setup past p q c
  commits_right a p q x c has found rows = commits_sound n.setup past a.server p q x c (ended_sound n e k) (own_over a has) found rows

  pub replicas_held : (a : ServerPart) (p : Partition) (q : Sequence) (r : Consumer) → Has e.servers a → replica_of a.server.table p q ≡ Some r → IsHeld past.log r
  replicas_held a p q r has found =
      own_held n.setup past (ended_sound n e k) a.server.numbers.instance a.server.numbers.incarnation r
      (replica_own n.setup past a.server (own_over a has) p q r found).2

  -- ---- pieces

  gift : (a : ServerPart) (query : Query) (piece : Piece) (what : PieceGot) → Has e.servers a → IsGotRight n (server_view n a) query piece what
      → IsRightGift n past query piece what
  gift a query piece (got.Served served) has g =
      given_is_right n.setup past query piece served (ended_sound n e k)
      (given_grows n.setup (server_view n a) past (server_within n e k a has) query piece served g)
  gift a query piece got.NotServed has g = tt
  gift a query piece got.Down has g = tt

  pub gives_rightly : (a : ServerPart) (g : PieceGiven) → Has e.servers a → Has a.given g → IsGivenRightly n past g
  gives_rightly a g has given =
      let o = all_has (IsGivenOver n (server_view n a)) a.given g (server_part n e k a has).gives given in
      record { query = o.query; asked = o.asked; right = gift a o.query g.piece g.got has o.right }

  -- a server that gave something is there
  pub giver : (i : ℕ) (g : PieceGiven) → Has (gave_by e.servers i) g → (a : ServerPart) × Has e.servers a × Has a.given g
  giver i g has = by_place (slice_get e.servers i) refl has
    where
      by_place : (o : Option ServerPart) → slice_get e.servers i ≡ o → Has (gave_in o) g → (a : ServerPart) × Has e.servers a × Has a.given g
      by_place None at none = absurd none
      by_place (Some a) at given = (a, place-Has e.servers i a at, given)

-- ---- as the broker has it

module _ (setup : Setup) (past : Past) (query : Query) (piece : Piece) (s : Served) (a : IsRightAnswer setup past query piece s) where
  abbrev messages : List (List ℕ)
  messages = messages_of past.log piece.partition

  first : s.range.start ≡ a.rows.range.start
  first = ap (λ (r : Range). r.start) a.range

  last : s.range.end ≡ a.rows.range.end
  last = ap (λ (r : Range). r.end) a.range

  ends : (o : Option Offset) → IfSome o (λ (end : Offset). a.rows.range.end ≡ end) → IsEnd o s.range.end
  ends None h = tt
  ends (Some end) h = last ∙ h

  its_rows : a.rows.rows ≡ rows_in setup.schema messages s.range.start.0 s.range.end.0
  its_rows =
      a.right.rows
      ∙ ap (λ (o : Offset). rows_in setup.schema messages o.0 a.rows.range.end.0) (sym first)
      ∙ ap (λ (o : Offset). rows_in setup.schema messages s.range.start.0 o.0) (sym last)

  served_right : IsRightServed setup past query piece s
  served_right = record {
    range = record {
      start = first ∙ a.right.start;
      end = ends piece.end a.right.end;
      order = omega (arith, a.right.ordered, ap (λ (o : Offset). o.0) first, ap (λ (o : Offset). o.0) last);
    };
    within = omega (arith, a.right.within, ap (λ (o : Offset). o.0) last);
    rows = subst (λ (rows : List Row). Holds query (taken query rows) s.groups) its_rows a.groups;
  }

pub got_right : (n : Names) (over : Past) (query : Query) (piece : Piece) (what : PieceGot) → IsRightGift n over query piece what
    → IsRightGot n.setup over query piece what
got_right n over query piece (got.Served served) g = served_right n.setup over query piece served g
got_right n over query piece got.NotServed g = tt
got_right n over query piece got.Down g = tt
