-- The answer of a query in a safe world is the one that the world shows.
use Rattle.std.proofs.Common.{◌≡◌, ℕ, Option, Some, None, refl, sym, ◌∙◌, ap, subst}
use Rattle.std.proofs.lemmas.List.{map-set}
use Rattle.std.proofs.lemmas.Option.{same_Some}
use Rattle.rt_broker.specs.Answering.{AreHeld, rows_held, rows_in_log, served_of}
use Rattle.rt_broker.specs.Asking.{Asking}
use Rattle.rt_events.specs.declared.outcome.Outcome.TheVariants as told
use Rattle.rt_model.specs.Aggregate.{result_rows}
use Rattle.rt_model.specs.RightAnswer.{missing_of, named_ranges}
use Rattle.rt_model.specs.declared.answer.Answer.{Answer}
use Rattle.rt_safety.proofs.Answering.{are_served}
use Rattle.rt_state.specs.Applying.{Next}
use Rattle.rt_state.specs.Finding.{query_at}
use Rattle.rt_state.specs.IsSafeWorld.{IsSafeWorld}
use Rattle.rt_state.specs.Queries.{Answers, AnswersAt, IsAnswerOf, closed}
use Rattle.rt_state.specs.Room.{counted, with_query_closed}
use Rattle.rt_state.specs.declared.cost.Cost.{Cost}
use Rattle.rt_state.specs.declared.state.State.{State}
use Rattle.rt_exact.specs.Alike.{AreAlike}
use Rattle.rt_exact.specs.Answered.{answer_by, answer_of, answer_to}
use Rattle.rt_exact.specs.Rows.{HoldTheSame}
use Rattle.rt_exact.specs.Shown.{asking_shown, query_shown, shown}
use Rattle.rt_exact.proofs.Dues.{query_at_shown}
use Rattle.rt_exact.proofs.Ones.{IsOne}
use Rattle.rt_exact.proofs.Queries.{of_range, routed_of_shown, rows_shown}
use Rattle.rt_exact.proofs.Showing.{Commutes, next_shown}

-- ---- the answer

is_answer : (w : State) (q : ℕ) (a : Asking) (answer : Answer) → IsSafeWorld w → query_at w q ≡ Some a → IsAnswerOf a answer → answer ≡ answer_of w a
is_answer w q a answer s there k =
    let served = are_served w q a s there in
    let rows = k.rows (rows_in_log w.setup.schema w.log a.query) served.held served.few in
    λ t. record { ranges = k.ranges t; missing = k.missing t; rows = rows t }

answer_shown : (w : State) (a : Asking) → answer_of (shown w) (asking_shown a) ≡ answer_of w a
answer_shown w a =
    let routed = routed_of_shown a in
    let rows = rows_shown (rows_in_log w.setup.schema w.log a.query) (of_range w.setup.schema w.log a.query) a in
    λ t. record { ranges = named_ranges (routed t); missing = missing_of (routed t); rows = result_rows a.query (rows t) }

-- ---- the step

abbrev ShowsAt : Option Asking → State → ℕ → Cost → Next → Type 0
ShowsAt None w q cost x = ⊥
ShowsAt (Some a) w q cost x = x ≡ (closed w q cost, told.Answered (answer_of w a))

abbrev pub AnswerShows : State → ℕ → Cost → Next → Type 0
AnswerShows w q cost x = ShowsAt (query_at w q) w q cost x

pub answer_shows_one : (w : State) (q : ℕ) → IsOne (AnswerShows w q)
answer_shows_one w q cost x y h k = by_query (query_at w q) h k
  where
    by_query : (o : Option Asking) → ShowsAt o w q cost x → ShowsAt o w q cost y → x ≡ y
    by_query None h k = absurd h
    by_query (Some a) h k = h ∙ sym k

pub answers_shown : (w : State) (q : ℕ) → IsSafeWorld w → Commutes (Answers w q) (AnswerShows (shown w) q)
answers_shown w q s cost x h = by_query (query_at w q) refl h
  where
    by_query : (o : Option Asking) → query_at w q ≡ o → AnswersAt o w q cost x → AnswerShows (shown w) q cost (next_shown x)
    by_query None at h = absurd h
    by_query (Some a) at (answer, right, is) =
        let queries = map-set query_shown w.queries q None in
        let same = is_answer w q a answer s at right ∙ sym (answer_shown w a) in
        subst (λ o. ShowsAt o (shown w) q cost (next_shown x)) (sym (query_at_shown w q ∙ ap (λ o. query_shown o) at))
        (ap (λ z. next_shown z) is
        ∙ (λ t. (counted (record w { queries = queries t; counts = with_query_closed w.counts }) cost, told.Answered (same t))))

-- the world behind an answer is one, whatever the answer
pub answered_world : (w : State) (q : ℕ) (cost : Cost) (x y : Next) → Answers w q cost x → Answers w q cost y → x.0 ≡ y.0
answered_world w q cost x y h k = by_query (query_at w q) h k
  where
    by_query : (o : Option Asking) → AnswersAt o w q cost x → AnswersAt o w q cost y → x.0 ≡ y.0
    by_query None h k = absurd h
    by_query (Some a) (answer, right, is) (other, also, is') = ap (λ (z : Next). z.0) is ∙ sym (ap (λ (z : Next). z.0) is')

-- what is told of an answer is the answer to the query
pub answered_so : (w : State) (q : ℕ) (cost : Cost) (x : Next) (answer : Answer) → IsSafeWorld w → Answers w q cost x → x.1 ≡ told.Answered answer
    → answer_to w q ≡ Some answer
answered_so w q cost x answer s h e = by_query (query_at w q) refl h
  where
    same : (a b : Answer) → told.Answered a ≡ told.Answered b → a ≡ b
    same a b f = cc

    by_query : (o : Option Asking) → query_at w q ≡ o → AnswersAt o w q cost x → answer_to w q ≡ Some answer
    by_query None at h = absurd h
    by_query (Some a) at (found, right, is) =
        let told_so = same found answer (sym (ap (λ (z : Next). z.1) is) ∙ e) in
        ap (λ o. answer_by w o) at ∙ ap (λ (z : Answer). Some z) (sym (is_answer w q a found s at right) ∙ told_so)

-- ---- groups of two worlds

asked_alike : (w v : State) (q : ℕ) (a b : Asking) → shown w ≡ shown v → query_at w q ≡ Some a → query_at v q ≡ Some b → asking_shown a ≡ asking_shown b
asked_alike w v q a b same e f =
    same_Some (asking_shown a) (asking_shown b)
    (ap (λ o. query_shown o) (sym e) ∙ sym (query_at_shown w q) ∙ ap (λ u. query_at u q) same ∙ query_at_shown v q ∙ ap (λ o. query_shown o) f)

pub rows_alike : (w v : State) (q : ℕ) (a b : Asking) → AreAlike w v → query_at w q ≡ Some a → query_at v q ≡ Some b → HoldTheSame a b
rows_alike w v q a b k e f =
    let one = asked_alike w v q a b k.same e f in
    let query : a.query ≡ b.query = ap (λ (x : Asking). x.query) one in
    let rows = rows_in_log w.setup.schema w.log a.query in
    let path : rows ≡ rows_in_log v.setup.schema v.log b.query = λ t. rows_in_log (k.same t).setup.schema (k.same t).log (query t) in
    let ranges = of_range w.setup.schema w.log a.query in
    record {
      rows = rows;
      left = (are_served w q a k.left e).held;
      right = subst (λ r. AreHeld b.query r (served_of b)) (sym path) (are_served v q b k.right f).held;
      same = sym (rows_shown rows ranges a) ∙ ap (λ x. rows_held rows (served_of x)) one ∙ rows_shown rows ranges b;
    }
