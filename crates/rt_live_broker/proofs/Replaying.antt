-- What is true of a broker by what it did stays true as its fronts show more, and with each thing that it does.
use Rattle.std.proofs.Common.{◌≡◌, ℕ, zero, suc, ◌+◌, List, [], ◌∷◌, ◌++◌, All, length, Option, Some, None, Result, sym, ap, subst, ◌∙◌, arith}
use Rattle.std.specs.Prelude.{IfSome}
use Rattle.std.specs.List.{range_with_len}
use Rattle.std.proofs.lemmas.List.{length-append, map-append}
use Rattle.std.proofs.lemmas.List.Elements.{All-push}
use Rattle.rt_base.specs.declared.numbers.Instance.{Instance}
use Rattle.rt_base.specs.declared.numbers.Partition.{Partition}
use Rattle.rt_base.specs.declared.range.Range.{Range}
use Rattle.rt_broker.specs.Asking.{asking}
use Rattle.rt_broker.specs.IsAskedBy.{GivesMore, IsGiven}
use Rattle.rt_broker.specs.declared.piece_given.PieceGiven.{PieceGiven}
use Rattle.rt_broker.specs.declared.piece_got.PieceGot.{PieceGot}
use Rattle.rt_broker.specs.declared.refused.BrokerRefused.{BrokerRefused}
use Rattle.rt_broker.proofs.Given.{asked_lasts}
use Rattle.rt_broker.proofs.Lasting.{asked_noted, asked_routed, asking_begins}
use Rattle.rt_front.specs.Histories.{Known}
use Rattle.rt_lists.specs.Members.{IsFront}
use Rattle.rt_lists.proofs.Members.{front_then}
use Rattle.rt_live_broker.specs.Asks.{opened}
use Rattle.rt_live_broker.specs.Replayed.{AreInOrder, Began, IsOpen, IsReplayed, Replayed, Sight, sight}
use Rattle.rt_live_broker.specs.Steps.{AnswersOne, BeginsToAsk, BrokerStep, Closes, NotesOne, RoutesOne, answered}
use Rattle.rt_live_names.specs.Whole.{IsWhole}
use Rattle.rt_live_broker.specs.declared.did.BrokerDid.{BrokerDid}
use Rattle.rt_live_broker.specs.declared.did.BrokerDid.TheVariants as did
use Rattle.rt_live_broker.specs.declared.kept.AnswerKept.{AnswerKept}
use Rattle.rt_live_broker.specs.declared.kept.AnswerKept.TheVariants.{First, Last, Again}
use Rattle.rt_live_broker.proofs.Since.{none_begins, none_noted, none_routed, query_noted, query_routed, since_begins, since_grows, since_noted, since_routed}
use Rattle.rt_live_names.specs.BrokerPart.{Answered, IsAnswered, broker_view, given_by}
use Rattle.rt_live_names.specs.Fronts.{Fronts}
use Rattle.rt_live_names.specs.Names.{Names}
use Rattle.rt_live_names.specs.Showed.{ShowsMore}
use Rattle.rt_live_names.proofs.Showing.{showed_grows}
use Rattle.rt_model.specs.declared.node.Seen.{Seen}
use Rattle.rt_model.specs.declared.piece.Piece.{Piece}
use Rattle.rt_store.specs.Contents.{starting_of}

-- ---- a step is still one when more is shown

pub record SeesOn (old new : Sight) : Type 0 where
  pub store : ShowsMore old.store new.store
  pub given : GivesMore old.given new.given

pub step_later : (n : Names) (whole : List (Partition × Range)) (v w : Sight) → SeesOn v w → (a : Replayed) (d : BrokerDid) (b : Replayed)
    → BrokerStep n whole v a d b → BrokerStep n whole w a d b
step_later n whole v w more a (did.Looked p q told result) b s = record {
  before = s.before;
  after = s.after;
  showed = showed_grows (starting_of n.setup) v.store w.store a.told 0 s.before more.store s.showed;
  shows = showed_grows (starting_of n.setup) v.store w.store told 0 s.after more.store s.shows;
  step = s.step;
  now = s.now;
}
step_later n whole v w more a (did.Asked query asking told) b s = record {
  closed = s.closed;
  text = s.text;
  is = s.is;
  number = s.number;
  same = s.same;
  before = s.before;
  showed = showed_grows (starting_of n.setup) v.store w.store a.told 0 s.before more.store s.showed;
  now = s.now;
}
step_later n whole v w more a (did.Routed p told result) b s = record {
  current = s.current;
  is = s.is;
  before = s.before;
  after = s.after;
  begins = s.begins;
  since = s.since;
  showed = showed_grows (starting_of n.setup) v.store w.store a.told 0 s.before more.store s.showed;
  shows = showed_grows (starting_of n.setup) v.store w.store told 0 s.after more.store s.shows;
  asked = s.asked;
  step = s.step;
  met = s.met;
  now = s.now;
}
step_later n whole v w more a (did.Noted piece from got) b s = record {
  current = s.current;
  is = s.is;
  gave = more.given from.0 _ s.gave;
  asked = s.asked;
  result = s.result;
  step = s.step;
  now = s.now;
}
step_later n whole v w more a (did.Answered kept) b s = s

-- ---- what is true lasts

pub answered_grows : (n : Names) (f k : Fronts) (fed gave : List (Known PieceGiven)) → IsFront (broker_view n f).history (broker_view n k).history
    → GivesMore (given_by fed) (given_by gave) → (x : Answered) → IsAnswered n f fed x → IsAnswered n k gave x
answered_grows n f k fed gave seen gives x a = record {
  query = a.query;
  asked = asked_lasts n.setup (broker_view n f) (broker_view n k) (given_by fed) (given_by gave) x.query x.asking x.asked seen gives a.asked;
  since = since_grows x.began (broker_view n f).history (broker_view n k).history x.asked seen a.since;
  tried = a.tried;
  answer = a.answer;
}

open_grows : (n : Names) (f k : Fronts) (fed gave : List (Known PieceGiven)) → IsFront (broker_view n f).history (broker_view n k).history
    → GivesMore (given_by fed) (given_by gave) → (o : Option Began) → IfSome o (IsOpen n f fed) → IfSome o (IsOpen n k gave)
open_grows n f k fed gave seen gives None a = tt
open_grows n f k fed gave seen gives (Some o) a = record {
  query = a.query;
  asked = asked_lasts n.setup (broker_view n f) (broker_view n k) (given_by fed) (given_by gave) o.opened.query o.opened.asking o.opened.asked seen gives a.asked;
  began = front_then o.began (broker_view n f).history (broker_view n k).history a.began seen;
  since = since_grows o.began (broker_view n f).history (broker_view n k).history o.opened.asked seen a.since;
  tried = a.tried;
}

all_as : {X : Type 0} (P Q : X → Type 0) (xs : List X) → ((x : X) → P x → Q x) → All P xs → All Q xs
all_as P Q xs each all = λ k x at. each _ (all k x at)

pub replayed_grows : (n : Names) (f k : Fronts) (fed gave : List (Known PieceGiven)) (ranges : List (Partition × Range)) (a : Replayed)
    → IsFront (broker_view n f).history (broker_view n k).history → GivesMore (given_by fed) (given_by gave)
    → IsReplayed n f fed ranges a → IsReplayed n k gave ranges a
replayed_grows n f k fed gave ranges a seen gives r = record {
  current = open_grows n f k fed gave seen gives a.current r.current;
  mids = all_as (IsAnswered n f fed) (IsAnswered n k gave) a.mids (answered_grows n f k fed gave seen gives) r.mids;
  answers = all_as (IsAnswered n f fed) (IsAnswered n k gave) a.answers (answered_grows n f k fed gave seen gives) r.answers;
  whole = r.whole;
  mids_order = r.mids_order;
  firsts = r.firsts;
  order = r.order;
}

-- ---- each step keeps what is true

range_more : (a n j : ℕ) → a + n ≡ j → range_with_len a (suc n) ≡ range_with_len a n ++ j ∷ []
range_more a zero j e = let same : a ≡ j = omega arith in ap (λ (k : ℕ). k ∷ []) same
range_more a (suc n) j e = ap (λ (l : List ℕ). a ∷ l) (range_more (a + 1) n j (omega arith))

module _ (n : Names) (f : Fronts) (fed : List (Known PieceGiven)) (ranges : List (Partition × Range)) where
  -- an asking that is open in the place of another one
  abbrev with_open : Replayed → Option Began → ℕ → ℕ → Replayed
  with_open a o askings told = record a { current = o; askings = askings; told = told }

  opens : (a : Replayed) (o : Option Began) (askings told : ℕ) → IsReplayed n f fed ranges a → IfSome o (IsOpen n f fed) → IsReplayed n f fed ranges (with_open a o askings told)
  opens a o askings told r is = record {
    current = is;
    mids = r.mids;
    answers = r.answers;
    whole = r.whole;
    mids_order = r.mids_order;
    firsts = r.firsts;
    order = r.order;
  }

  is_open : (a : Replayed) (o : Began) → IsReplayed n f fed ranges a → a.current ≡ Some o → IsOpen n f fed o
  is_open a o r is = subst (λ (c : Option Began). IfSome c (IsOpen n f fed)) is r.current

  abbrev history : List Seen
  history = (broker_view n f).history

  asks_on : (a : Replayed) (query number told : ℕ) (b : Replayed) → BeginsToAsk n (sight n f fed).store a query number told b
      → IsReplayed n f fed ranges a → IsReplayed n f fed ranges b
  asks_on a query number told b s r =
      let o : Began = record { opened = opened query number (asking s.text n.setup); began = s.before.seen } in
      let is : IsOpen n f fed o = record {
        query = s.is;
        asked = asking_begins n.setup (broker_view n f) (IsGiven (given_by fed) query number) s.text;
        began = s.showed.whole;
        since = since_begins s.before.seen history s.text n.setup;
        tried = none_begins s.text n.setup;
      } in
      subst (λ (x : Replayed). IsReplayed n f fed ranges x) (sym s.now) (opens a (Some o) (a.askings + 1) a.told r is)

  routes_on : (a : Replayed) (p : Partition) (told : ℕ) (result : Result ℕ BrokerRefused) (b : Replayed) → RoutesOne (starting_of n.setup) (sight n f fed).store a p told result b
      → IsReplayed n f fed ranges a → IsReplayed n f fed ranges b
  routes_on a p told result b s r =
      let o = s.current in
      let was : IsOpen n f fed o = is_open a o r s.is in
      let old = o.opened.asked in
      let next : Began = record { opened = opened o.opened.query o.opened.asking s.asked; began = o.began } in
      let is : IsOpen n f fed next = record {
        query = was.query ∙ ap (λ q. Some q) (sym (query_routed s.before s.after old s.asked p result s.step));
        asked = asked_routed n.setup (broker_view n f) (λ text. IsGiven (given_by fed) o.opened.query o.opened.asking) s.before s.after old s.asked p result s.step s.begins s.shows.whole was.asked;
        began = was.began;
        since = since_routed o.began history s.before s.after old s.asked p result s.step s.met s.since s.shows.whole was.since;
        tried = none_routed s.before s.after old s.asked p result s.step s.met was.tried;
      } in
      subst (λ (x : Replayed). IsReplayed n f fed ranges x) (sym s.now) (opens a (Some next) a.askings told r is)

  notes_on : (a : Replayed) (piece : Piece) (from : Instance) (got : PieceGot) (b : Replayed) → NotesOne (sight n f fed) a piece from got b
      → IsReplayed n f fed ranges a → IsReplayed n f fed ranges b
  notes_on a piece from got b s r =
      let o = s.current in
      let was : IsOpen n f fed o = is_open a o r s.is in
      let old = o.opened.asked in
      let next : Began = record { opened = opened o.opened.query o.opened.asking s.asked; began = o.began } in
      let is : IsOpen n f fed next = record {
        query = was.query ∙ ap (λ q. Some q) (sym (query_noted old s.asked piece from got s.result s.step));
        asked = asked_noted n.setup (broker_view n f) (λ text. IsGiven (given_by fed) o.opened.query o.opened.asking) old s.asked piece from got s.result s.step s.gave was.asked;
        began = was.began;
        since = since_noted o.began history old s.asked piece from got s.result s.step was.since;
        tried = none_noted old s.asked piece from got s.result s.step was.tried;
      } in
      subst (λ (x : Replayed). IsReplayed n f fed ranges x) (sym s.now) (opens a (Some next) a.askings a.told r is)

  abbrev place_of : Answered → ℕ
  place_of x = x.query

  in_order : (xs : List Answered) (x : Answered) → AreInOrder xs → x.query ≡ length xs → AreInOrder (xs ++ x ∷ [])
  in_order xs x order at =
      let longer : suc (length xs) ≡ length (xs ++ x ∷ []) = omega (arith, length-append xs (x ∷ [])) in
      map-append place_of xs (x ∷ [])
      ∙ ap (λ (l : List ℕ). l ++ x.query ∷ []) order
      ∙ sym (range_more 0 (length xs) x.query (omega (arith, at)))
      ∙ ap (λ (k : ℕ). range_with_len 0 k) longer

  closes_on : (a : Replayed) (x : Answered) (kept : AnswerKept) (b : Replayed) → Closes ranges a x kept b → IsAnswered n f fed x → IsReplayed n f fed ranges a → IsReplayed n f fed ranges b
  closes_on a x First b c is r =
      subst (λ (y : Replayed). IsReplayed n f fed ranges y) (sym c.2) (record {
        current = tt;
        mids = All-push (IsAnswered n f fed) a.mids x r.mids is;
        answers = r.answers;
        whole = r.whole;
        mids_order = in_order a.mids x r.mids_order c.0;
        firsts = All-push (λ (y : Answered). y.asking ≡ y.query) a.mids x r.firsts c.1;
        order = r.order;
      })
  closes_on a x Last b c is r =
      subst (λ (y : Replayed). IsReplayed n f fed ranges y) (sym c.2) (record {
        current = tt;
        mids = r.mids;
        answers = All-push (IsAnswered n f fed) a.answers x r.answers is;
        whole = All-push (λ (y : Answered). IsWhole ranges y.answer) a.answers x r.whole c.1;
        mids_order = r.mids_order;
        firsts = r.firsts;
        order = in_order a.answers x r.order c.0;
      })
  closes_on a x Again b c is r = subst (λ (y : Replayed). IsReplayed n f fed ranges y) (sym c) (opens a None a.askings a.told r tt)

  answers_on : (a : Replayed) (kept : AnswerKept) (b : Replayed) → AnswersOne ranges a kept b → IsReplayed n f fed ranges a → IsReplayed n f fed ranges b
  answers_on a kept b s r =
      let o = s.current in
      let was : IsOpen n f fed o = is_open a o r s.is in
      let is : IsAnswered n f fed (answered o s.answer) = record { query = was.query; asked = was.asked; since = was.since; tried = was.tried; answer = s.made } in
      closes_on a (answered o s.answer) kept b s.closes is r

  pub step_keeps : (a : Replayed) (d : BrokerDid) (b : Replayed) → BrokerStep n ranges (sight n f fed) a d b → IsReplayed n f fed ranges a → IsReplayed n f fed ranges b
  step_keeps a (did.Looked p q told result) b s r = subst (λ (x : Replayed). IsReplayed n f fed ranges x) (sym s.now) (opens a a.current a.askings told r r.current)
  step_keeps a (did.Asked query number told) b s r = asks_on a query number told b s r
  step_keeps a (did.Routed p told result) b s r = routes_on a p told result b s r
  step_keeps a (did.Noted piece from got) b s r = notes_on a piece from got b s r
  step_keeps a (did.Answered kept) b s r = answers_on a kept b s r
