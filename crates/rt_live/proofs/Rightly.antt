-- Nodes that were joined, whose ends are those of the whole input, ended rightly.
use Rattle.std.proofs.Common.{◌≡◌, ◌∙◌, ℕ, Bool, true, false, IfOk, List, All, Result, Ok, Err, ap, length, map, refl, subst, sym}
use Rattle.std.specs.List.{range_with_len}
use Rattle.std.proofs.lemmas.List.{length-map}
use Rattle.atomic_table.specs.Seated.{TableId}
use Rattle.rt_base.specs.declared.numbers.Offset.{Offset}
use Rattle.rt_ground.specs.StoreCalls.{seen_by}
use Rattle.rt_live_end.proofs.Rightly.{ended_right}
use Rattle.rt_live_end.specs.Ends.{ends_in}
use Rattle.rt_live_end.specs.Headline.{EndsRightly}
use Rattle.rt_live_end.specs.Meeting.{HasFirst}
use Rattle.rt_live_input.specs.declared.input.Input.{Input}
use Rattle.rt_live_join.specs.Joined.{HasJoined, JoinedNow}
use Rattle.rt_live_links.specs.declared.all_links.Links.{Links}
use Rattle.rt_live_names.specs.BrokerPart.{Answered, BrokerPart}
use Rattle.rt_live_names.specs.Fronts.{Fronts, callers_of}
use Rattle.rt_live_names.specs.Names.{Names}
use Rattle.rt_live_names.specs.Whole.{IsWhole, lengths_in, whole_ranges}
use Rattle.rt_live_nodes.specs.Founding.{names_of}
use Rattle.rt_model.specs.declared.answer.Answer.{Answer}
use Rattle.rt_store.specs.Contents.{starting_of}
use Rattle.rt_live.specs.Drained.{was_drained}
use Rattle.rt_live.specs.Printed.{printed}
use Rattle.rt_live.specs.Run.{AnswersEachFirst, HasRun, HasRunBy, journal_of}

abbrev answer_in : Answered → Answer
answer_in x = x.answer

abbrev query_in : Answered → ℕ
query_in x = x.query

module _ (n : Names) (journal : Bool) (joined : JoinedNow) (has : HasJoined n (starting_of n.setup) journal joined) where
  -- the one caller has the numbers of all, and each entry is of one of them
  pub has_all : joined.met.store.numbers ≡ range_with_len 0 (callers_of n.setup)
  has_all = ap (λ (f : Fronts). f.store.numbers) (sym has.met) ∙ has.numbers.store

  -- the answers are those of the broker's part
  answered : map answer_in has.ended.broker.answers ≡ joined.answers
  answered = ap (λ (b : BrokerPart). map answer_in b.answers) has.of_broker ∙ has.broker.is_answers

  in_order : length joined.answers ≡ length n.queries → map query_in has.ended.broker.answers ≡ range_with_len 0 (length n.queries)
  in_order all =
      let of_part : map query_in has.broker.part.answers ≡ range_with_len 0 (length has.broker.part.answers) = has.broker.order in
      let count : length has.broker.part.answers ≡ length n.queries =
      sym (length-map has.broker.part.answers answer_in) ∙ ap (λ (xs : List Answer). length xs) has.broker.is_answers ∙ all in
      ap (λ (b : BrokerPart). map query_in b.answers) has.of_broker ∙ of_part ∙ ap (range_with_len 0) count

  ends_rightly : (ends : List Offset) → ends ≡ ends_in n.setup.partitions (seen_by (starting_of n.setup) joined.met.store)
      → ends ≡ lengths_in n.setup.partitions n.rows → length joined.answers ≡ length n.queries → EndsRightly n joined.met joined.answers ends
  ends_rightly ends committed lengths all = record {
    runs = record {
      ended = has.ended;
      shown = has.met;
      numbers = subst (HasFirst (callers_of n.setup)) has.met has.numbers;
      right = ended_right n has.ended has.is;
    };
    committed = committed;
    lengths = lengths;
    answered = answered;
    queries = in_order all;
    whole = subst (λ (b : BrokerPart). All (λ (x : Answered). IsWhole (whole_ranges n) x.answer) b.answers) (sym has.of_broker) has.broker.whole;
  }

  -- so this is a run of theirs
  pub has_run : (ends : List Offset) (text : List ℕ) → ends ≡ ends_in n.setup.partitions (seen_by (starting_of n.setup) joined.met.store)
      → ends ≡ lengths_in n.setup.partitions n.rows → length joined.answers ≡ length n.queries → AnswersEachFirst journal n joined
      → was_drained joined ≡ true → text ≡ printed joined.answers ends (journal_of journal (seen_by (starting_of n.setup) joined.met.store) joined)
      → HasRunBy n journal ends joined.met text
  unfolding ends_rightly
  has_run ends text committed lengths all first drained is = record {
    joined = joined;
    has = has;
    shown = refl;
    rightly = ends_rightly ends committed lengths all;
    same = refl;
    first = first;
    drained = drained;
    prints = is;
  }

  -- and what is handed on of it, where it is
  pub has_run_if : {X E : Type 0} (ends : List Offset) → ends ≡ ends_in n.setup.partitions (seen_by (starting_of n.setup) joined.met.store)
      → ends ≡ lengths_in n.setup.partitions n.rows → length joined.answers ≡ length n.queries → AnswersEachFirst journal n joined
      → was_drained joined ≡ true → (r : Result X E) (ends_by : X → List Offset) (met_by : X → Fronts) (text_by : X → List ℕ) → IfOk r (λ x. ends_by x ≡ ends)
      → IfOk r (λ x. met_by x ≡ joined.met)
      → IfOk r (λ x. text_by x ≡ printed joined.answers ends (journal_of journal (seen_by (starting_of n.setup) joined.met.store) joined))
      → IfOk r (λ x. HasRunBy n journal (ends_by x) (met_by x) (text_by x))
  has_run_if ends committed lengths all first drained (Ok x) ends_by met_by text_by e m t =
      subst (λ (es : List Offset). HasRunBy n journal es (met_by x) (text_by x)) (sym e)
      (subst (λ (f : Fronts). HasRunBy n journal ends f (text_by x)) (sym m) (has_run ends (text_by x) committed lengths all first drained t))
  has_run_if ends committed lengths all first drained (Err y) ends_by met_by text_by e m t = tt

-- nodes whose names are those of an input ran over it
pub over_input : {X E : Type 0} (input : Input) (links : Links) (asked : List TableId) (n : Names) (journal : Bool) → n ≡ names_of input links asked
    → (r : Result X E) (ends_by : X → List Offset) (met_by : X → Fronts) (text_by : X → List ℕ)
    → IfOk r (λ x. HasRunBy n journal (ends_by x) (met_by x) (text_by x)) → IfOk r (λ x. HasRun input journal (ends_by x) (met_by x) (text_by x))
over_input input links asked n journal is (Ok x) ends_by met_by text_by k = record {
  names = n;
  over = record {
    setup = ap (λ (m : Names). m.setup) is;
    rows = ap (λ (m : Names). m.rows) is;
    queries = ap (λ (m : Names). m.queries) is;
  };
  by = k;
}
over_input input links asked n journal is (Err y) ends_by met_by text_by k = tt

-- a test of both tells of the first answers where a journal is asked for
pub each_first : (n : Names) (journal : Bool) (joined : JoinedNow) → (journal ≡ true → length joined.mids ≡ length n.queries)
    → AnswersEachFirst journal n joined
each_first n true joined all = all refl
each_first n false joined all = tt
