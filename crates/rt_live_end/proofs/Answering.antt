-- Each answer of an ended cluster is right.
use Rattle.std.proofs.Common.{◌≡◌, ◌<◌, ℕ, inl, inr, List, length, Some, None, refl, sym, ap, ◌∙◌, subst, arith, slice_get}
use Rattle.std.proofs.lemmas.Option.{same_Some}
use Rattle.rt_base.specs.declared.numbers.Partition.{Partition}
use Rattle.rt_broker.specs.IsAsked.{IsAsked, IsRightGot, messages_in}
use Rattle.rt_broker.specs.IsAskedBy.{AreRightGiven, IsAskedBy}
use Rattle.rt_broker.specs.Answering.{AreServed, routed_of}
use Rattle.rt_broker.specs.declared.piece_asked.PieceAsked.{PieceAsked}
use Rattle.rt_broker.proofs.Answered.{lawfully_served}
use Rattle.rt_broker.proofs.Given.{asked_lasts, asked_right, refused_by}
use Rattle.rt_ground.specs.Histories.{whats}
use Rattle.rt_ground.specs.StreamCalls.{log_of}
use Rattle.rt_lists.specs.Members.{Has}
use Rattle.rt_lists.proofs.Members.{Has-same, front_then}
use Rattle.rt_live_names.specs.BrokerPart.{Answered, IsAnswered, IsPlanSince, broker_view, given_by}
use Rattle.rt_live_names.specs.Names.{Names}
use Rattle.rt_model.specs.Aggregate.{aggregate}
use Rattle.rt_model.specs.RightAnswer.{missing_of, rows_of}
use Rattle.rt_model.specs.declared.node.Seen.{Seen}
use Rattle.rt_model.specs.declared.query.Query.{Query}
use Rattle.rt_past.specs.Past.{Past}
use Rattle.rt_schema.specs.declared.row.Row.{Row}
use Rattle.rt_store.specs.Contents.{starting_of}
use Rattle.rt_stream.specs.Log.{Log}
use Rattle.rt_live_end.specs.Ended.{Ended, IsAnswerIn, IsEnded, gave_by}
use Rattle.rt_live_end.specs.Input.{all_rows}
use Rattle.rt_live_end.specs.Right.{IsAnsweredRightly, IsPlannedSince, past_of}
use Rattle.rt_live_names.specs.Whole.{IsWhole, whole_ranges}
use Rattle.rt_live_end.proofs.Giving.{giver, gives_rightly, got_right}
use Rattle.rt_live_end.proofs.Members.{all_has}
use Rattle.rt_live_end.proofs.Owns.{stream_is_input}
use Rattle.rt_live_end.proofs.Planning.{has_every_commit, was_planned}
use Rattle.rt_live_end.proofs.Sound.{broker_within, past_view}
use Rattle.rt_live_end.proofs.Streaming.{few_messages, whole_rows}

module _ (n : Names) (e : Ended) (k : IsEnded n e) where
  abbrev past : Past
  past = past_of n e

  pub log_is_input : past.log ≡ log_of n.setup.partitions n.rows
  log_is_input = ap (log_of n.setup.partitions) (stream_is_input n e k)

  few : messages_in past.log < 9223372036854775808
  few = omega (arith, ap (λ (l : Log). messages_in l) log_is_input, few_messages n.setup.partitions n.rows, k.few)

  -- what was given in an asking is right for the query of it
  given_right : (query asking : ℕ) (text : Query) → slice_get n.queries query ≡ Some text → AreRightGiven n.setup past (gave_by e.servers) query asking text
  given_right query asking text at i g has of_query of_asking =
      let a = giver n e k i g has in
      let right = gives_rightly n e k a.0 g a.1 a.2 in
      let same : right.query ≡ text = same_Some right.query text (sym right.asked ∙ ap (slice_get n.queries) of_query ∙ at) in
      subst (λ (q : Query). IsRightGot n.setup past q g.piece g.got) same (got_right n past right.query g.piece g.got right.right)

  answered_by : (x : Answered) → IsAnswerIn e x → IsAnswered n e.broker.fronts e.broker.fed x
  answered_by x (inl has) = all_has (IsAnswered n e.broker.fronts e.broker.fed) e.broker.answers x k.broker.answers has
  answered_by x (inr has) = all_has (IsAnswered n e.broker.fronts e.broker.fed) e.broker.mids x k.broker.mids has

  plan_lasts : (began : List Seen) (p : Partition) (xs : List PieceAsked) → IsPlanSince began (broker_view n e.broker.fronts).history p xs
      → IsPlanSince began past.history p xs
  plan_lasts began p xs s = record {
    seen = s.seen;
    since = s.since;
    front = front_then s.seen (broker_view n e.broker.fronts).history past.history s.front (broker_within n e k).history;
    plan = s.plan;
  }

  -- no partition is missing whole
  whole : (x : Answered) → IsAnswered n e.broker.fronts e.broker.fed x → (p : Partition) → Has x.answer.missing (p, None) → ⊥
  whole x y p has = y.tried p (y.answer.causes p None has)

  planned_since : (x : Answered) → IsAnswered n e.broker.fronts e.broker.fed x → length x.asked.routes ≡ n.setup.partitions → (p : Partition)
      → p.0 < n.setup.partitions → IsPlannedSince x.began past.history x.asked p
  planned_since x y long p inside =
      let plan = was_planned x.asked p (omega (arith, long, inside))
      (λ has. whole x y p (Has-same (missing_of (routed_of x.asked)) x.answer.missing (p, None) (sym y.answer.missing) has)) in
      let since = plan_lasts x.began p plan.0 (y.since p plan.0 plan.1) in
      record {
        pieces = plan.0;
        route = plan.1;
        since = since;
        commits =
            has_every_commit (starting_of n.setup) past.history (past_view n e k).lawful (whats e.met.store.seen, refl) p inside x.began plan.0 since;
      }

  pub answers_right : (x : Answered) → IsAnswerIn e x → IsAnsweredRightly n e x
  answers_right x is =
      let y = answered_by x is in
      let asked : IsAskedBy n.setup past (gave_by e.servers) x.query x.asking x.asked =
      asked_lasts n.setup (broker_view n e.broker.fronts) past (given_by e.broker.fed) (gave_by e.servers) x.query x.asking x.asked (broker_within n e k).history k.given y.asked in
      let right : IsAsked n.setup past x.asked =
      asked_right n.setup past (gave_by e.servers) x.query x.asking x.asked (given_right x.query x.asking x.asked.query y.query) asked in
      let view = past_view n e k in
      let served : AreServed n.setup.schema past.log x.asked = lawfully_served n.setup past x.asked right view.partitions view.lawful few in
      record {
        query = y.query;
        right = y.answer.right n.setup.schema past.log served;
        planned = planned_since x y right.partitions;
        routed = whole x y;
        refused = λ p s has. refused_by n.setup past (gave_by e.servers) x.query x.asking x.asked p s asked (y.answer.causes p (Some s) has);
      }

  -- an answer that leaves nothing out aggregates all rows of the input
  pub whole_answers : (x : Answered) → IsAnswerIn e x → IsWhole (whole_ranges n) x.answer
      → x.answer.rows ≡ aggregate x.asked.query (all_rows n.setup.schema (log_of n.setup.partitions n.rows))
  whole_answers x is whole =
      let log : Log = log_of n.setup.partitions n.rows in
      (answers_right x is).right.rows
      ∙ ap (λ (l : Log). aggregate x.asked.query (rows_of n.setup.schema l x.answer.ranges)) log_is_input
      ∙ ap (λ rs. aggregate x.asked.query (rows_of n.setup.schema log rs)) whole.ranges
      ∙ ap (λ (rows : List Row). aggregate x.asked.query rows) (whole_rows n.setup.schema log)
