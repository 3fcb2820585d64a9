-- A step of the broker that is due can be made, over a store that tells everything.
use Rattle.std.proofs.Common.{◌≡◌, ◌==◌, ◌-◌, ◌<◌, ◌≤◌, ℕ, arith, Bool, true, false, cond, List, drop, length, map, Option, Some, None, Result, Ok, Err, refl, slice_get, subst, sym, take}
use Rattle.std.proofs.lemmas.List.{length-drop, length-take}
use Rattle.std.specs.Prelude.{IfSome}
use Rattle.rt_agg.specs.Grouped.{Grouped, Holds}
use Rattle.rt_base.specs.Faults.{answer_under, fault_of}
use Rattle.rt_base.specs.declared.fault.Fault.TheVariants.{Nothing, Lost, Kept}
use Rattle.rt_base.specs.declared.fault.Fault.{Fault}
use Rattle.rt_base.specs.declared.numbers.Offset.{Offset}
use Rattle.rt_base.specs.declared.numbers.Partition.{Partition}
use Rattle.rt_base.specs.declared.range.Range.{Range}
use Rattle.rt_broker.proofs.Causes.{answer_caused}
use Rattle.rt_broker.specs.Answering.{routed_of, rows_held, rows_in_log, served_of}
use Rattle.rt_broker.specs.Asking.{Asking, is_answer_due, is_tried, unasked, with_route}
use Rattle.rt_broker.specs.declared.piece_got.PieceGot.TheVariants as got
use Rattle.rt_broker.specs.declared.piece_got.PieceGot.{PieceGot}
use Rattle.rt_broker.specs.declared.refused.BrokerRefused.TheVariants as broker
use Rattle.rt_broker.specs.declared.refused.BrokerRefused.{BrokerRefused}
use Rattle.rt_broker.specs.declared.route.Route.TheVariants as route
use Rattle.rt_consumer.specs.declared.phase.Phase.TheVariants as phase
use Rattle.rt_consumer.specs.declared.phase.Phase.{Phase}
use Rattle.rt_entry.specs.Serving.{file_end, file_range, range_to, rows_end, rows_range, serve_file, serve_loaded, serve_phase, served_over}
use Rattle.rt_entry.specs.declared.entry.Entry.TheVariants.{Replica, Committed}
use Rattle.rt_entry.specs.declared.entry.Entry.{Entry}
use Rattle.rt_entry.specs.declared.refused.ServeRefused.TheVariants.{NotServed, Memory}
use Rattle.rt_entry.specs.declared.refused.ServeRefused.{ServeRefused}
use Rattle.rt_entry.specs.declared.served_rows.ServedRows.{ServedRows}
use Rattle.rt_events.specs.declared.outcome.Outcome.TheVariants as told
use Rattle.rt_events.specs.declared.outcome.Outcome.{Outcome}
use Rattle.rt_model.specs.Aggregate.{result_rows, taken}
use Rattle.rt_model.specs.Checked.{IsQuery}
use Rattle.rt_model.specs.Match.{passes}
use Rattle.rt_model.specs.Metadata.{metadata_of}
use Rattle.rt_model.specs.Plan.{plan_of}
use Rattle.rt_model.specs.RightAnswer.{missing_of, named_ranges}
use Rattle.rt_model.specs.declared.answer.Answer.{Answer}
use Rattle.rt_model.specs.declared.piece.Piece.{Piece}
use Rattle.rt_model.specs.declared.query.Query.{Query}
use Rattle.rt_model.specs.declared.setup.Setup.{Setup}
use Rattle.rt_nodes.specs.Queries.{Gives, GivesIf, GivesUp, QueryRoutes}
use Rattle.rt_nodes.specs.declared.server_node.ServerNode.{ServerNode}
use Rattle.rt_safety.proofs.Alike.{alike_answered}
use Rattle.rt_safety.proofs.Answering.{are_served, few_at}
use Rattle.rt_safety.proofs.Given.{given_calls, list_given}
use Rattle.rt_safety.proofs.Grouping.{groups_of_messages}
use Rattle.rt_schema.specs.declared.row.Row.{Row}
use Rattle.rt_segment.specs.Segment.{SealedSegment}
use Rattle.rt_server.proofs.LastingServes.{serves_right}
use Rattle.rt_server.specs.Serving.{serve, serve_at}
use Rattle.rt_server.specs.Table.{entry_of}
use Rattle.rt_state.specs.Finding.{query_at}
use Rattle.rt_state.specs.IsSafe.{past_of}
use Rattle.rt_state.specs.IsSafeWorld.{IsSafeWorld}
use Rattle.rt_state.specs.Queries.{IsAnswerOf}
use Rattle.rt_state.specs.declared.state.State.{State}
use Rattle.rt_store.specs.Answers.{listing}
use Rattle.rt_store.specs.Calls.{Lists, told_on}
use Rattle.rt_store.specs.Meaning.{Told}
use Rattle.rt_store.specs.Memory.{means}
use Rattle.rt_store.specs.declared.refused.StoreRefused.TheVariants as store
use Rattle.rt_stream.specs.Log.{messages_of}

-- ---- a route

pub routes_can : (t : Told) (a : Asking) (p : Partition) → is_tried a p ≡ false → (b : Asking) × (u : Told) × (o : Outcome) × QueryRoutes p t u a b o
routes_can t a p untried = by_fault (fault_of t.faults.plan) (given_calls t (listing p) (λ base. base) (list_given t p))
  where
    u : Told
    u = told_on t (λ base. base)

    by_fault : (f : Fault) → Lists (means t) (means u) p (answer_under store.Failed f (Ok (metadata_of t.writes p)))
        → (b : Asking) × (u : Told) × (o : Outcome) × QueryRoutes p t u a b o
    by_fault Nothing lists =
        let plan = plan_of p (metadata_of t.writes p) in (
          with_route a p (route.Planned (map unasked plan)),
          u,
          told.Routed (length plan),
          (Ok (length plan), (untried, record { nodes = metadata_of t.writes p; listed = lists; noted = refl; told = refl }), refl),
        )
    by_fault Lost lists = (with_route a p route.Failed, u, told.Failed, (Err broker.StoreFault, (untried, lists, refl), refl))
    by_fault Kept lists = (with_route a p route.Failed, u, told.Failed, (Err broker.StoreFault, (untried, lists, refl), refl))

-- ---- a piece

-- what is to be served is served, or isn't
abbrev IsServed : Result ServedRows ServeRefused → Type 0
IsServed (Ok rows) = Unit {0}
IsServed (Err (NotServed reached)) = Unit {0}
IsServed (Err Memory) = ⊥

abbrev IsRanged : Result Range ServeRefused → Type 0
IsRanged (Ok range) = Unit {0}
IsRanged (Err (NotServed reached)) = Unit {0}
IsRanged (Err Memory) = ⊥

to_ranged : (piece : Piece) (start reached : Offset) (o : Option Offset) → IsRanged (range_to piece start reached o)
to_ranged piece start reached None = tt
to_ranged piece start reached (Some end) = by_test (piece.start.0 == start.0)
  where
    by_test : (b : Bool) → IsRanged (cond b (Ok (record { start = piece.start; end = end })) (Err (NotServed (Some reached))))
    by_test true = tt
    by_test false = tt

over_served : (r : Result Range ServeRefused) (rows : Offset → List Row) → IsRanged r → IsServed (served_over r rows)
over_served (Ok range) rows ranged = tt
over_served (Err (NotServed reached)) rows ranged = tt
over_served (Err Memory) rows ranged = ranged

file_served : (piece : Piece) (file : SealedSegment) → IsServed (serve_file piece file)
file_served piece file = over_served (file_range piece file) _ (to_ranged piece file.range.start file.range.end (file_end file piece.end))

phase_served : (piece : Piece) (ph : Phase) → IsServed (serve_phase piece ph)
phase_served piece (phase.Unsealed o) = over_served (rows_range piece o.rows) _ (to_ranged piece o.rows.start o.rows.end (rows_end o.rows piece.end))
phase_served piece (phase.Retained kept) = file_served piece kept.file
phase_served piece (phase.Committed kept) = file_served piece kept.file
phase_served piece (phase.Discarded d) = tt

loaded_served : (piece : Piece) (o : Option SealedSegment) → IsServed (serve_loaded piece o)
loaded_served piece None = tt
loaded_served piece (Some file) = file_served piece file

at_served : (piece : Piece) (o : Option Entry) → IsServed (serve_at piece o)
at_served piece None = tt
at_served piece (Some (Replica r)) = phase_served piece r.phase
at_served piece (Some (Committed c)) = loaded_served piece c.file

module _ (n : ServerNode) (piece : Piece) (query : Query) (group : (rows : ServedRows) → serve n.server.table piece ≡ Ok rows → (g : Grouped) × Holds query (taken query rows.rows) g) where
  up_can : (r : Result ServedRows ServeRefused) → serve n.server.table piece ≡ r → IsServed r → (what : PieceGot) × GivesUp n piece query what
  up_can (Ok rows) e served =
      let g = group rows e in
      (got.Served (record { range = rows.range; groups = g.0 }), (rows, e, refl, g.1))
  up_can (Err (NotServed reached)) e served = (got.NotServed, (reached, e))
  up_can (Err Memory) e served = absurd served

  if_can : (b : Bool) → (what : PieceGot) × GivesIf b n piece query what
  if_can false = (got.Down, refl)
  if_can true = up_can (serve n.server.table piece) refl (at_served piece (entry_of n.server.table piece.partition piece.sequence))

-- what a server serves are rows of the stream, and the broker asks for what can be read of them
pub gives_can : (w : State) (i : ℕ) (n : ServerNode) (piece : Piece) (query : Query) → IsSafeWorld w → slice_get w.servers i ≡ Some n
    → IfSome piece.end (λ end. piece.start.0 ≤ end.0) → IsQuery n.server.setup.schema query → (what : PieceGot) × Gives n piece query what
gives_can w i n piece query s stands order is_query = if_can n piece query group n.up
  where
    group : (rows : ServedRows) → serve n.server.table piece ≡ Ok rows → (g : Grouped) × Holds query (taken query rows.rows) g
    group rows e =
        let over = (s.safe.servers i n stands).over in
        let ms = messages_of w.log piece.partition in
        let right = serves_right w.setup (past_of w) n.server over piece rows order e in
        let range = take (rows.range.end.0 - rows.range.start.0) (drop rows.range.start.0 ms) in
        let of_schema = subst (λ (x : Setup). IsQuery x.schema query) over.of_setup is_query in
        let few : length range < 9223372036854775808 =
        omega (
          arith,
          length-take (rows.range.end.0 - rows.range.start.0) (drop rows.range.start.0 ms),
          length-drop rows.range.start.0 ms,
          few_at w piece.partition s,
        ) in
        subst (λ (rs : List Row). (g : Grouped) × Holds query (taken query rs) g) (sym right.rows)
        (groups_of_messages w.setup.schema query of_schema (passes query.filter) range few)

-- ---- an answer

abbrev given : Answer → Result Answer BrokerRefused
given answer = Ok answer

-- the served groups hold the rows of the stream, and whatever else they hold is answered alike
pub answers_can : (w : State) (q : ℕ) (a : Asking) → IsSafeWorld w → query_at w q ≡ Some a → is_answer_due a ≡ true → (answer : Answer) × IsAnswerOf a answer
answers_can w q a s there due =
    let served = are_served w q a s there in
    let rows = rows_in_log w.setup.schema w.log a.query in
    let answer : Answer =
    record { ranges = named_ranges (routed_of a); missing = missing_of (routed_of a); rows = result_rows a.query (rows_held rows (served_of a)) } in (
      answer,
      record {
        ranges = refl;
        missing = refl;
        rows = λ others held few. alike_answered a.query rows others (served_of a) served.held held served.few few;
        causes = answer_caused a (given answer) due refl;
      },
    )
