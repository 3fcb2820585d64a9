-- A broker does one thing more.
use Rattle.std.proofs.Common.{◌≡◌, ℕ, ◌+◌, ◌<◌, ◌≤◌, true, List, [], ◌∷◌, ◌++◌, map, length, Option, Some, None, Result, Err, refl, sym, ap, subst, ◌∙◌, arith, slice_get, All}
use Rattle.std.specs.Prelude.{IfSome, option_map}
use Rattle.std.proofs.lemmas.List.{length-append, length-map, map-append}
use Rattle.std.proofs.lemmas.Option.{get_or_from_slice_get, slice_get_within}
use Rattle.rt_base.specs.declared.numbers.Instance.{Instance}
use Rattle.rt_base.specs.declared.numbers.Partition.{Partition}
use Rattle.rt_base.specs.declared.numbers.Sequence.{Sequence}
use Rattle.rt_broker.specs.Asking.{asking as first_asking}
use Rattle.rt_broker.specs.IsAskedBy.{GivesMore}
use Rattle.rt_broker.specs.Noting.{Notes}
use Rattle.rt_broker.specs.Routing.{Routes}
use Rattle.rt_broker.specs.declared.piece_given.PieceGiven.{PieceGiven}
use Rattle.rt_broker.specs.declared.piece_got.PieceGot.{PieceGot}
use Rattle.rt_broker.specs.declared.refused.BrokerRefused.{BrokerRefused}
use Rattle.rt_broker.specs.declared.refused.BrokerRefused.TheVariants.{StoreFault}
use Rattle.rt_front.specs.Histories.{Known}
use Rattle.rt_front.specs.declared.entry.Entry.{Entry}
use Rattle.rt_ground.specs.StoreCalls.{own_by, shared_meaning}
use Rattle.rt_ground.specs.Histories.{whats}
use Rattle.rt_lists.specs.Members.{Has, IsFront}
use Rattle.rt_lists.proofs.Members.{front_same}
use Rattle.rt_live_broker.specs.Acting.{ActingNow, IsActing, IsEndedBroker, IsOfCluster, IsQuiet, IsShownBy}
use Rattle.rt_live_broker.specs.Asks.{Answers, AreAskedOnce, HasFirst, IsAskedOnce, IsNext, Keeps, Opened, answers_of, opened}
use Rattle.rt_live_broker.specs.Feeds.{AreFeeds}
use Rattle.rt_live_broker.specs.Replayed.{Began, IsOpen, Replayed, at_first, sight}
use Rattle.rt_live_broker.specs.Steps.{BrokerStep, answered}
use Rattle.rt_live_names.specs.Whole.{IsWhole, whole_ranges}
use Rattle.rt_live_broker.specs.declared.asks.Asks.{Asks}
use Rattle.rt_live_broker.specs.declared.did.BrokerDid.{BrokerDid}
use Rattle.rt_live_broker.specs.declared.did.BrokerDid.TheVariants as did
use Rattle.rt_live_broker.specs.declared.kept.AnswerKept.{AnswerKept}
use Rattle.rt_live_broker.specs.declared.kept.AnswerKept.TheVariants.{First, Last, Again}
use Rattle.rt_live_broker.proofs.Keeping.{quiet_on, read_own, route_grows, route_own, same_own, shown_now, shows_more}
use Rattle.rt_live_broker.proofs.Replaying.{SeesOn, replayed_grows, step_keeps, step_later}
use Rattle.rt_live_names.specs.BrokerPart.{Answered, IsAnswerOf, IsAnswered, broker_view, given_by}
use Rattle.rt_live_names.specs.Fronts.{Fronts, fronts}
use Rattle.rt_live_names.specs.Names.{Names}
use Rattle.rt_live_names.specs.Replays.{Replays}
use Rattle.rt_live_names.specs.Showed.{Showed, shown_by}
use Rattle.rt_live_names.proofs.Replaying.{replays_as, replays_more}
use Rattle.rt_live_names.proofs.Showing.{showed_grows}
use Rattle.rt_model.specs.Checked.{IsQuery}
use Rattle.rt_model.specs.Starting.{Starting}
use Rattle.rt_model.specs.declared.answer.Answer.{Answer}
use Rattle.rt_model.specs.declared.node.Key.TheVariants as key
use Rattle.rt_model.specs.declared.node.Seen.{Seen}
use Rattle.rt_model.specs.declared.piece.Piece.{Piece}
use Rattle.rt_model.specs.declared.query.Query.{Query}
use Rattle.rt_model.specs.declared.setup.Setup.{Setup}
use Rattle.rt_store.specs.Calls.{Reads}
use Rattle.rt_store.specs.Contents.{starting_of}
use Rattle.rt_store.specs.declared.refused.StoreRefused.{StoreRefused}
use Rattle.rt_store.proofs.Seeing.{read_grows}

-- ---- its fronts show more

-- nothing is its own, and what it is told of is what it was told of before and maybe more
pub record Moves (n : Names) (f k : Fronts) (fed gave : List (Known PieceGiven)) : Type 0 where
  pub quiet : IsQuiet n k
  pub feeds : AreFeeds n gave
  pub seen : IsFront (broker_view n f).history (broker_view n k).history
  pub own : own_by k.store ≡ own_by f.store
  pub gives : GivesMore (given_by fed) (given_by gave)

sees_on : (n : Names) (f k : Fronts) (fed gave : List (Known PieceGiven)) → Moves n f k fed gave → SeesOn (sight n f fed) (sight n k gave)
sees_on n f k fed gave m = record { store = shows_more (starting_of n.setup) f.store k.store m.seen m.own; given = m.gives }

replays_later : (n : Names) (f k : Fronts) (fed gave : List (Known PieceGiven)) (ds : List BrokerDid) (a b : Replayed) → Moves n f k fed gave
    → Replays (BrokerStep n (whole_ranges n) (sight n f fed)) a ds b → Replays (BrokerStep n (whole_ranges n) (sight n k gave)) a ds b
replays_later n f k fed gave ds a b m r =
    replays_as (BrokerStep n (whole_ranges n) (sight n f fed)) (BrokerStep n (whole_ranges n) (sight n k gave)) a b ds
    (step_later n (whole_ranges n) (sight n f fed) (sight n k gave) (sees_on n f k fed gave m)) r

pub stays : (n : Names) (f : Fronts) (fed : List (Known PieceGiven)) → IsQuiet n f → AreFeeds n fed → Moves n f f fed fed
stays n f fed quiet feeds = record { quiet = quiet; feeds = feeds; seen = front_same (broker_view n f).history; own = refl; gives = λ i g h. h }

-- what it was given more of changes nothing else
pub is_given : (s : Starting) (n : Names) (old : ActingNow) (gave : List (Known PieceGiven)) (current : Option Opened) → IsActing s n old → old.current ≡ current → AreFeeds n gave
    → GivesMore (given_by old.fed) (given_by gave) → IsActing s n (record old { fed = gave; current = current })
is_given s n old gave current is same feeds gives =
    let m : Moves n old.fronts old.fronts old.fed gave = record { quiet = is.quiet; feeds = feeds; seen = front_same (broker_view n old.fronts).history; own = refl; gives = gives } in
    record {
      cluster = is.cluster;
      quiet = is.quiet;
      feeds = feeds;
      first = is.first;
      once = λ journal few. subst (λ (c : Option Opened). IsAskedOnce c old.askings (length old.mids)) same (is.once journal few);
      now = is.now;
      shown = record {
        current = is.shown.current ∙ same;
        askings = is.shown.askings;
        told = is.shown.told;
        mids = is.shown.mids;
        answers = is.shown.answers;
      };
      replays = replays_later n old.fronts old.fronts old.fed gave old.did at_first is.now m is.replays;
      right = replayed_grows n old.fronts old.fronts old.fed gave (whole_ranges n) is.now m.seen gives is.right;
    }

-- ---- it does one thing more

pub acts : (s : Starting) (n : Names) (old new : ActingNow) (d : BrokerDid) (is : IsActing s n old) (b : Replayed) → Moves n old.fronts new.fronts old.fed new.fed → new.asks ≡ old.asks
    → (0 < length new.answers → HasFirst new.asks new.mids) → AreAskedOnce new.asks new.current new.askings new.mids → IsShownBy b new → new.did ≡ old.did ++ d ∷ [] → BrokerStep n (whole_ranges n) (sight n new.fronts new.fed) is.now d b → IsActing s n new
acts s n old new d is b m asks first once shown noted step =
    let now = BrokerStep n (whole_ranges n) (sight n new.fronts new.fed) in
    record {
      cluster = subst (λ (x : Asks). IsOfCluster s n x) (sym asks) is.cluster;
      quiet = m.quiet;
      feeds = m.feeds;
      first = first;
      once = once;
      now = b;
      shown = shown;
      replays = subst (λ (ds : List BrokerDid). Replays now at_first ds b) (sym noted)
          (replays_more now at_first is.now b old.did d (replays_later n old.fronts new.fronts old.fed new.fed old.did at_first is.now m is.replays) step);
      right = step_keeps n new.fronts new.fed (whole_ranges n) is.now d b step
          (replayed_grows n old.fronts new.fronts old.fed new.fed (whole_ranges n) is.now m.seen m.gives is.right);
    }

-- ---- what its store showed it before

pub showed_before : (n : Names) (f k : Fronts) (fed gave : List (Known PieceGiven)) (told : ℕ) → IsQuiet n f → Moves n f k fed gave → told ≡ length f.store.seen
    → Showed (starting_of n.setup) (shown_by (starting_of n.setup) k.store) told 0 (shared_meaning (starting_of n.setup) f.store)
showed_before n f k fed gave told quiet m count =
    let s = starting_of n.setup in
    showed_grows s (shown_by s f.store) (shown_by s k.store) told 0 (shared_meaning s f.store) (sees_on n f k fed gave m).store
    (shown_now s f.store told count quiet.writes)

-- ---- what is open

none_open : (o : Option Began) → option_map (λ x. x.opened) o ≡ None → o ≡ None
none_open None e = refl
none_open (Some o) e = absurd (cc)

abbrev some_opened : Opened → Option Opened
some_opened o = Some o

some_open : (o : Option Began) (was : Opened) → option_map (λ x. x.opened) o ≡ Some was → (x : Began) × (o ≡ Some x) × (x.opened ≡ was)
some_open None was e = absurd (cc)
some_open (Some o) was e = let same : some_opened o.opened ≡ some_opened was = e in (o, refl, cc)

-- ---- it looks at a segment

pub looks : (s : Starting) (n : Names) (old : ActingNow) (store : Known Seen) (p : Partition) (q : Sequence) (told : ℕ) (result : Result Seen StoreRefused) (noted : List BrokerDid)
    → IsActing s n old → Reads (shared_meaning s old.fronts.store) (shared_meaning s store) (key.Meta p q) result → told ≡ length store.seen
    → noted ≡ old.did ++ did.Looked p q told result ∷ [] → IsActing s n (record old { fronts = fronts store old.fronts.deep old.fronts.stream; did = noted })
looks s n old store p q told result noted is r count more =
    let t = starting_of n.setup in
    let before = shared_meaning t old.fronts.store in
    let after = shared_meaning t store in
    let read : Reads before after (key.Meta p q) result =
    subst (λ (u : Starting). Reads (shared_meaning u old.fronts.store) (shared_meaning u store) (key.Meta p q) result) (sym is.cluster.starting) r in
    let own = same_own t old.fronts.store store (read_own before after (key.Meta p q) result read) in
    let k = fronts store old.fronts.deep old.fronts.stream in
    let quiet = quiet_on n old.fronts k is.quiet own refl refl in
    let m : Moves n old.fronts k old.fed old.fed = record { quiet = quiet; feeds = is.feeds; seen = read_grows before after (key.Meta p q) result read; own = own; gives = λ i g h. h } in
    acts s n old (record old { fronts = k; did = noted }) (did.Looked p q told result) is (record is.now { told = told }) m refl is.first is.once
    (record { current = is.shown.current; askings = is.shown.askings; told = count; mids = is.shown.mids; answers = is.shown.answers })
    more (record {
      before = before;
      after = after;
      showed = showed_before n old.fronts k old.fed old.fed is.now.told is.quiet m is.shown.told;
      shows = shown_now t store told count quiet.writes;
      step = read;
      now = refl;
    })

-- ---- it begins to ask

pub begins : (s : Starting) (n : Names) (old : ActingNow) (query number told : ℕ) (text : Query) (current : Option Opened) (askings : ℕ) (noted : List BrokerDid)
    → IsActing s n old → old.current ≡ None → IsNext old.asks old.mids query → slice_get old.asks.queries query ≡ Some text → number ≡ old.askings → told ≡ length old.fronts.store.seen
    → current ≡ Some (opened query number (first_asking text old.asks.setup)) → askings ≡ old.askings + 1 → noted ≡ old.did ++ did.Asked query number told ∷ []
    → IsActing s n (record old { current = current; askings = askings; did = noted })
begins s n old query number told text current askings noted is closed next at numbered count started one more =
    let t = starting_of n.setup in
    let before = shared_meaning t old.fronts.store in
    let fresh : current ≡ Some (opened query number (first_asking text n.setup)) =
    started ∙ ap (λ (x : Setup). Some (opened query number (first_asking text x))) is.cluster.setup in
    let b : Replayed = record is.now {
      current = Some (record { opened = opened query number (first_asking text n.setup); began = before.seen });
      askings = is.now.askings + 1;
    } in
    acts s n old (record old { current = current; askings = askings; did = noted }) (did.Asked query number told) is b
    (stays n old.fronts old.fed is.quiet is.feeds) refl is.first
    (λ journal few.
    let all : old.askings ≡ length old.mids = subst (λ (c : Option Opened). IsAskedOnce c old.askings (length old.mids)) closed (is.once journal few) in
    subst (λ (c : Option Opened). IsAskedOnce c askings (length old.mids)) (sym started)
    (next journal few, numbered ∙ all, one ∙ ap (λ (k : ℕ). k + 1) all))
    (record {
      current = sym fresh;
      askings = ap (λ (k : ℕ). k + 1) is.shown.askings ∙ sym one;
      told = is.shown.told;
      mids = is.shown.mids;
      answers = is.shown.answers;
    })
    more (record {
      closed = none_open is.now.current (is.shown.current ∙ closed);
      text = text;
      is = ap (λ (xs : List Query). slice_get xs query) (sym is.cluster.queries) ∙ at;
      number = numbered ∙ sym is.shown.askings;
      same = count ∙ sym is.shown.told;
      before = before;
      showed = shown_now t old.fronts.store is.now.told is.shown.told is.quiet.writes;
      now = refl;
    })

-- ---- it goes on

abbrev went_on : Began → Opened → Began
went_on o next = record { opened = opened o.opened.query o.opened.asking next.asked; began = o.began }

-- the same asking, in its next state
same_asking : (was next : Opened) → next.query ≡ was.query → next.asking ≡ was.asking → opened was.query was.asking next.asked ≡ next
same_asking was next query number =
    ap (λ (q : ℕ). opened q was.asking next.asked) (sym query) ∙ ap (λ (k : ℕ). opened next.query k next.asked) (sym number)

shown_next : (n : Names) (old new : ActingNow) (now : Replayed) (o : Began) (was next : Opened) (told : ℕ) → IsShownBy now old → o.opened ≡ was
    → (next.query ≡ was.query) × (next.asking ≡ was.asking) → told ≡ length new.fronts.store.seen → new.current ≡ Some next → new.askings ≡ old.askings → new.mids ≡ old.mids
    → new.answers ≡ old.answers → IsShownBy (record now { current = Some (went_on o next); told = told }) new
shown_next n old new now o was next told shown here same count current askings mids answers = record {
  current =
      ap (λ (x : Opened). some_opened (opened x.query x.asking next.asked)) here
      ∙ ap some_opened (same_asking was next same.0 same.1)
      ∙ sym current;
  askings = shown.askings ∙ sym askings;
  told = count;
  mids = shown.mids ∙ sym mids;
  answers = shown.answers ∙ sym answers;
}

once_next : (old : ActingNow) (was next : Opened) → AreAskedOnce old.asks old.current old.askings old.mids → old.current ≡ Some was
    → (next.query ≡ was.query) × (next.asking ≡ was.asking) → AreAskedOnce old.asks (Some next) old.askings old.mids
once_next old was next once at same = λ journal few.
    let is : IsAskedOnce (Some was) old.askings (length old.mids) =
    subst (λ (c : Option Opened). IsAskedOnce c old.askings (length old.mids)) at (once journal few) in
    (same.0 ∙ is.0, same.1 ∙ is.1, is.2)

pub routes : (s : Starting) (n : Names) (old : ActingNow) (store : Known Seen) (was next : Opened) (p : Partition) (told : ℕ) (result : Result ℕ BrokerRefused) (noted : List BrokerDid)
    → IsActing s n old → old.current ≡ Some was → Routes (shared_meaning s old.fronts.store) (shared_meaning s store) was.asked p next.asked result
    → (result ≡ Err StoreFault → ⊥) → (next.query ≡ was.query) × (next.asking ≡ was.asking) → told ≡ length store.seen
    → noted ≡ old.did ++ did.Routed p told result ∷ []
    → IsActing s n (record old { fronts = fronts store old.fronts.deep old.fronts.stream; current = Some next; did = noted })
routes s n old store was next p told result noted is at r met same count more =
    let t = starting_of n.setup in
    let before = shared_meaning t old.fronts.store in
    let after = shared_meaning t store in
    let routed : Routes before after was.asked p next.asked result =
    subst (λ (u : Starting). Routes (shared_meaning u old.fronts.store) (shared_meaning u store) was.asked p next.asked result) (sym is.cluster.starting) r in
    let own = same_own t old.fronts.store store (route_own before after was.asked next.asked p result routed) in
    let k = fronts store old.fronts.deep old.fronts.stream in
    let quiet = quiet_on n old.fronts k is.quiet own refl refl in
    let m : Moves n old.fronts k old.fed old.fed = record { quiet = quiet; feeds = is.feeds; seen = route_grows before after was.asked next.asked p result routed; own = own; gives = λ i g h. h } in
    let found = some_open is.now.current was (is.shown.current ∙ at) in
    let o : Began = found.0 in
    let new : ActingNow = record old { fronts = k; current = Some next; did = noted } in
    let opens = subst (λ (c : Option Began). IfSome c (IsOpen n old.fronts old.fed)) found.1 is.right.current in
    acts s n old new (did.Routed p told result) is (record is.now { current = Some (went_on o next); told = told }) m refl is.first (once_next old was next is.once at same)
    (shown_next n old new is.now o was next told is.shown found.2 same count refl refl refl refl)
    more (record {
      current = o;
      is = found.1;
      before = before;
      after = after;
      begins = (whats old.fronts.store.seen, refl);
      since = opens.began;
      showed = showed_before n old.fronts k old.fed old.fed is.now.told is.quiet m is.shown.told;
      shows = shown_now t store told count quiet.writes;
      asked = next.asked;
      step = subst (λ (x : Opened). Routes before after x.asked p next.asked result) (sym found.2) routed;
      met = met;
      now = refl;
    })

pub notes : (s : Starting) (n : Names) (old : ActingNow) (gave : List (Known PieceGiven)) (was next : Opened) (piece : Piece) (from : Instance) (got : PieceGot)
    (result : Result (Unit {0}) BrokerRefused) (noted : List BrokerDid)
    → IsActing s n old → old.current ≡ Some was → AreFeeds n gave → GivesMore (given_by old.fed) (given_by gave)
    → Has (given_by gave from.0) (record { query = was.query; asking = was.asking; piece = piece; got = got })
    → Notes was.asked piece from got next.asked result → (next.query ≡ was.query) × (next.asking ≡ was.asking)
    → noted ≡ old.did ++ did.Noted piece from got ∷ [] → IsActing s n (record old { fed = gave; current = Some next; did = noted })
notes s n old gave was next piece from got result noted is at feeds gives given step same more =
    let m : Moves n old.fronts old.fronts old.fed gave = record { quiet = is.quiet; feeds = feeds; seen = front_same (broker_view n old.fronts).history; own = refl; gives = gives } in
    let found = some_open is.now.current was (is.shown.current ∙ at) in
    let o : Began = found.0 in
    let new : ActingNow = record old { fed = gave; current = Some next; did = noted } in
    acts s n old new (did.Noted piece from got) is (record is.now { current = Some (went_on o next) }) m refl is.first (once_next old was next is.once at same)
    (shown_next n old new is.now o was next is.now.told is.shown found.2 same is.shown.told refl refl refl refl)
    more (record {
      current = o;
      is = found.1;
      gave = subst (λ (x : Opened). Has (given_by gave from.0) (record { query = x.query; asking = x.asking; piece = piece; got = got })) (sym found.2) given;
      asked = next.asked;
      result = result;
      step = subst (λ (x : Opened). Notes x.asked piece from got next.asked result) (sym found.2) step;
      now = refl;
    })

-- ---- it answers

abbrev answer_in : Answered → Answer
answer_in x = x.answer

more_answers : (xs : List Answered) (ys zs : List Answer) (x : Answered) → map (λ z. z.answer) xs ≡ ys → zs ≡ ys ++ x.answer ∷ [] → map (λ z. z.answer) (xs ++ x ∷ []) ≡ zs
more_answers xs ys zs x same more = map-append answer_in xs (x ∷ []) ∙ ap (λ (l : List Answer). l ++ x.answer ∷ []) same ∙ sym more

same_length : (xs : List Answered) (ys : List Answer) → map (λ z. z.answer) xs ≡ ys → length ys ≡ length xs
same_length xs ys same = ap (λ (l : List Answer). length l) (sym same) ∙ length-map xs answer_in

abbrev ended_by : ActingNow → Option Opened → List Answer → List Answer → List BrokerDid → ActingNow
ended_by old current mids lasts noted = record old { current = current; mids = mids; answers = lasts; did = noted }

pub answers : (s : Starting) (n : Names) (old : ActingNow) (was : Opened) (answer : Answer) (kept : AnswerKept) (current : Option Opened) (mids lasts : List Answer) (noted : List BrokerDid)
    → IsActing s n old → old.current ≡ Some was → IsAnswerOf was.asked answer
    → Keeps old.asks was.query answer kept (answers_of old.mids old.answers) (answers_of mids lasts) → current ≡ None
    → noted ≡ old.did ++ did.Answered kept ∷ [] → IsActing s n (record old { current = current; mids = mids; answers = lasts; did = noted })
answers s n old was answer kept current mids lasts noted is at made keeps closed more = by_kept kept keeps more
  where
    found : (x : Began) × (is.now.current ≡ Some x) × (x.opened ≡ was)
    found = some_open is.now.current was (is.shown.current ∙ at)

    right : IsAnswerOf found.0.opened.asked answer
    right = subst (λ (x : Opened). IsAnswerOf x.asked answer) (sym found.2) made

    place : found.0.opened.query ≡ was.query
    place = ap (λ (x : Opened). x.query) found.2

    same_mids : mids ≡ old.mids → HasFirst old.asks old.mids → 0 < length lasts → HasFirst old.asks mids
    same_mids same first some = subst (λ (xs : List Answer). HasFirst old.asks xs) (sym same) first

    -- the query that is being asked, while one waits for its first answer
    once : old.asks.journal ≡ true → length old.mids < length old.asks.queries → IsAskedOnce (Some was) old.askings (length old.mids)
    once journal few = subst (λ (c : Option Opened). IsAskedOnce c old.askings (length old.mids)) at (is.once journal few)

    -- none is then being asked
    one_more : length old.mids < length old.asks.queries → mids ≡ old.mids ++ answer ∷ [] → AreAskedOnce old.asks current old.askings mids
    one_more some same = λ journal few.
        let was_so = once journal some in
        let all : old.askings ≡ length mids =
        omega (arith, was_so.2, length-append old.mids (answer ∷ []), ap (λ (xs : List Answer). length xs) same) in
        subst (λ (c : Option Opened). IsAskedOnce c old.askings (length mids)) (sym closed) all

    -- each has its first answer
    none_left : HasFirst old.asks old.mids → mids ≡ old.mids → AreAskedOnce old.asks current old.askings mids
    none_left first same = λ journal few. absurd (omega (arith, first journal, few, ap (λ (xs : List Answer). length xs) same))

    longer : answers_of mids lasts ≡ answers_of (old.mids ++ answer ∷ []) old.answers → 0 < length lasts → HasFirst old.asks mids
    longer now some journal =
        let same : mids ≡ old.mids ++ answer ∷ [] = ap (λ (z : Answers). z.mids) now in
        let others : lasts ≡ old.answers = ap (λ (z : Answers). z.answers) now in
        let had : 0 < length old.answers = subst (λ (xs : List Answer). 0 < length xs) others some in
        let most : length old.asks.queries ≤ length old.mids = is.first had journal in
        omega (arith, most, length-append old.mids (answer ∷ []), ap (λ (xs : List Answer). length xs) same)

    same_both : answers_of mids lasts ≡ answers_of old.mids old.answers → 0 < length lasts → HasFirst old.asks mids
    same_both now some =
        let others : lasts ≡ old.answers = ap (λ (z : Answers). z.answers) now in
        let had : 0 < length old.answers = subst (λ (xs : List Answer). 0 < length xs) others some in
        same_mids (ap (λ (z : Answers). z.mids) now) (is.first had) some

    by_kept : (how : AnswerKept) → Keeps old.asks was.query answer how (answers_of old.mids old.answers) (answers_of mids lasts)
        → noted ≡ old.did ++ did.Answered how ∷ [] → IsActing s n (record old { current = current; mids = mids; answers = lasts; did = noted })
    by_kept First k more =
        let x = answered found.0 answer in
        acts s n old (ended_by old current mids lasts noted) (did.Answered First) is (record is.now { current = None; mids = is.now.mids ++ x ∷ [] })
        (stays n old.fronts old.fed is.quiet is.feeds) refl (longer k.2) (one_more k.1 (ap (λ (z : Answers). z.mids) k.2))
        (record {
          current = sym closed;
          askings = is.shown.askings;
          told = is.shown.told;
          mids = more_answers is.now.mids old.mids mids x is.shown.mids (ap (λ (z : Answers). z.mids) k.2);
          answers = is.shown.answers ∙ sym (ap (λ (z : Answers). z.answers) k.2);
        })
        more
        (record {
          current = found.0;
          is = found.1;
          answer = answer;
          made = right;
          closes =
              let was_so = once k.0 k.1 in
              (place ∙ was_so.0 ∙ same_length is.now.mids old.mids is.shown.mids, ap (λ (x : Opened). x.asking) found.2 ∙ was_so.1 ∙ sym was_so.0 ∙ sym place, refl);
        })
    by_kept Last k more =
        let x = answered found.0 answer in
        acts s n old (ended_by old current mids lasts noted) (did.Answered Last) is (record is.now { current = None; answers = is.now.answers ++ x ∷ [] })
        (stays n old.fronts old.fed is.quiet is.feeds) refl (same_mids (ap (λ (z : Answers). z.mids) k.3) k.1)
        (none_left k.1 (ap (λ (z : Answers). z.mids) k.3))
        (record {
          current = sym closed;
          askings = is.shown.askings;
          told = is.shown.told;
          mids = is.shown.mids ∙ sym (ap (λ (z : Answers). z.mids) k.3);
          answers = more_answers is.now.answers old.answers lasts x is.shown.answers (ap (λ (z : Answers). z.answers) k.3);
        })
        more
        (record {
          current = found.0;
          is = found.1;
          answer = answer;
          made = right;
          closes = (place ∙ k.0 ∙ same_length is.now.answers old.answers is.shown.answers, subst (λ w. IsWhole w answer) is.cluster.whole k.2, refl);
        })
    by_kept Again k more =
        acts s n old (ended_by old current mids lasts noted) (did.Answered Again) is (record is.now { current = None })
        (stays n old.fronts old.fed is.quiet is.feeds) refl (same_both k.1) (none_left k.0 (ap (λ (z : Answers). z.mids) k.1))
        (record {
          current = sym closed;
          askings = is.shown.askings;
          told = is.shown.told;
          mids = is.shown.mids ∙ sym (ap (λ (z : Answers). z.mids) k.1);
          answers = is.shown.answers ∙ sym (ap (λ (z : Answers). z.answers) k.1);
        })
        more
        (record { current = found.0; is = found.1; answer = answer; made = right; closes = refl })

-- ---- it starts and ends

none_all : {X : Type 0} (P : X → Type 0) → All P []
none_all P = λ k d h. absurd (omega arith)

first_of : (s : Starting) (n : Names) (f : Fronts) (fed : List (Known PieceGiven)) (asks : Asks) → IsOfCluster s n asks → IsQuiet n f → f.store.seen ≡ [] → AreFeeds n fed
    → IsActing s n (record { fronts = f; fed = fed; asks = asks; current = None; askings = 0; mids = []; answers = []; did = [] })
first_of s n f fed asks cluster quiet unseen feeds = record {
  cluster = cluster;
  quiet = quiet;
  feeds = feeds;
  first = λ some. absurd (omega arith);
  once = λ journal few. refl;
  now = at_first;
  shown = record { current = refl; askings = refl; told = ap (λ (xs : List (Entry Seen)). length xs) (sym unseen); mids = refl; answers = refl };
  replays = refl;
  right = record {
    current = tt;
    mids = none_all (IsAnswered n f fed);
    answers = none_all (IsAnswered n f fed);
    whole = none_all (λ x. IsWhole (whole_ranges n) x.answer);
    mids_order = refl;
    firsts = none_all (λ (x : Answered). x.asking ≡ x.query);
    order = refl;
  };
}

pub starts : (s : Starting) (n : Names) (f : Fronts) (fed : List (Known PieceGiven)) (asks : Asks) (mids lasts : List Answer) (noted : List BrokerDid) → IsOfCluster s n asks → IsQuiet n f → f.store.seen ≡ []
    → AreFeeds n fed → mids ≡ [] → lasts ≡ [] → noted ≡ []
    → IsActing s n (record { fronts = f; fed = fed; asks = asks; current = None; askings = 0; mids = mids; answers = lasts; did = noted })
starts s n f fed asks mids lasts noted cluster quiet unseen feeds no_mids no_lasts nothing =
    subst (λ (x : List Answer). IsActing s n (record { fronts = f; fed = fed; asks = asks; current = None; askings = 0; mids = x; answers = lasts; did = noted })) (sym no_mids)
    (subst (λ (x : List Answer). IsActing s n (record { fronts = f; fed = fed; asks = asks; current = None; askings = 0; mids = []; answers = x; did = noted })) (sym no_lasts)
    (subst (λ (x : List BrokerDid). IsActing s n (record { fronts = f; fed = fed; asks = asks; current = None; askings = 0; mids = []; answers = []; did = x })) (sym nothing)
    (first_of s n f fed asks cluster quiet unseen feeds)))

pub ends : (s : Starting) (n : Names) (a : ActingNow) → IsActing s n a → IsEndedBroker n a.fronts a.fed a.mids a.answers
ends s n a is = record {
  part = record { fronts = a.fronts; fed = a.fed; answers = is.now.answers; mids = is.now.mids };
  is_fronts = refl;
  is_fed = refl;
  is_mids = is.shown.mids;
  is_answers = is.shown.answers;
  is = record {
    caller = is.quiet.caller;
    answers = is.right.answers;
    mids = is.right.mids;
    writes = is.quiet.writes;
    puts = is.quiet.puts;
    appends = is.quiet.appends;
  };
  mids_order = is.right.mids_order;
  firsts = is.right.firsts;
  order = is.right.order;
  whole = is.right.whole;
  feeds = is.feeds;
  did = a.did;
  now = is.now;
  replays = is.replays;
  replayed = (refl, refl);
  told = is.shown.told;
}

-- ---- the query that is being asked is one of the cluster's, and the next while one waits for its first answer

pub asks_next : (s : Starting) (n : Names) (old : ActingNow) (was : Opened) → IsActing s n old → old.current ≡ Some was → IsNext old.asks old.mids was.query
asks_next s n old was is at = λ journal few.
    let once : IsAskedOnce (Some was) old.askings (length old.mids) = subst (λ (c : Option Opened). IsAskedOnce c old.askings (length old.mids)) at (is.once journal few) in
    once.0

one_valid : (P : Query → Type 0) (xs : List Query) (i : ℕ) (x : Query) → All P xs → slice_get xs i ≡ Some x → P x
one_valid P xs i x all at = subst P (get_or_from_slice_get xs i x x at) (all i x (slice_get_within xs i x at))

pub asks_of : (s : Starting) (n : Names) (old : ActingNow) (was : Opened) → IsActing s n old → old.current ≡ Some was → slice_get n.queries was.query ≡ Some was.asked.query
asks_of s n old was is at =
    let found = some_open is.now.current was (is.shown.current ∙ at) in
    let opens = subst (λ (c : Option Began). IfSome c (IsOpen n old.fronts old.fed)) found.1 is.right.current in
    subst (λ (x : Opened). slice_get n.queries x.query ≡ Some x.asked.query) found.2 opens.query

pub asks_valid : (s : Starting) (n : Names) (old : ActingNow) (was : Opened) → IsActing s n old → old.current ≡ Some was → IsQuery n.setup.schema was.asked.query
asks_valid s n old was is at = one_valid (IsQuery n.setup.schema) n.queries was.query was.asked.query is.cluster.valid (asks_of s n old was is at)
