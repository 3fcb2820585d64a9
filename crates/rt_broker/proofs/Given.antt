-- What lasts of a query over what its broker has seen, and what follows where all that was given is right.
use Rattle.std.proofs.Common.{◌≡◌, ℕ, List, map, Option, Some, None, refl, sym, subst}
use Rattle.rt_base.specs.declared.numbers.Instance.{Instance}
use Rattle.rt_base.specs.declared.numbers.Partition.{Partition}
use Rattle.rt_base.specs.declared.numbers.Sequence.{Sequence}
use Rattle.rt_lists.specs.Members.{Has, IsFront}
use Rattle.rt_lists.proofs.Members.{front_same, map-Has}
use Rattle.rt_model.specs.declared.piece.Piece.{Piece}
use Rattle.rt_model.specs.declared.setup.Setup.{Setup}
use Rattle.rt_model.specs.Metadata.{metadata_of}
use Rattle.rt_past.specs.Past.{Past}
use Rattle.rt_broker.specs.declared.piece_asked.PieceAnswer.{PieceAnswer}
use Rattle.rt_broker.specs.declared.piece_asked.PieceAsked.{PieceAsked}
use Rattle.rt_broker.specs.declared.piece_given.PieceGiven.{PieceGiven}
use Rattle.rt_broker.specs.declared.piece_got.PieceGot.{PieceGot}
use Rattle.rt_broker.specs.declared.route.Route.{Route}
use Rattle.rt_broker.specs.declared.route.Route.TheVariants.{Untried, Failed, Planned}
use Rattle.rt_broker.specs.Answering.{IsRefused, RefusedBy}
use Rattle.rt_broker.specs.Asking.{Asking, plan_in, route_at}
use Rattle.rt_broker.specs.IsAsked.{AreKnownAnswers, IsAsked, IsPlan, IsRightNoted, IsRoute}
use Rattle.rt_broker.specs.IsAskedBy.{Given, GivesMore, IsGiven, IsAskedBy, AreRightGiven, GaveNothing, IsRefusedBy}
use Rattle.rt_broker.proofs.Lasting.{asked_follows}
use Rattle.rt_broker.proofs.Rising.{AreOf, each_of, one_of, plan_is_of}

abbrev given_of : ℕ → ℕ → Piece → PieceGot → PieceGiven
given_of query n piece what = record { query = query; asking = n; piece = piece; got = what }

-- what a broker has seen grows, and more is given
pub asked_lasts : (setup : Setup) (a b : Past) (given more : Given) (query n : ℕ) (asked : Asking) → IsFront a.history b.history
    → GivesMore given more → IsAskedBy setup a given query n asked → IsAskedBy setup b more query n asked
asked_lasts setup a b given more query n asked front g k =
    asked_follows setup a b (IsGiven given query n) (IsGiven more query n) front (λ piece y f. g y.from.0 (given_of query n piece y.got) f) asked k

-- where all that was given is right, what was noted is right
pub asked_right : (setup : Setup) (past : Past) (given : Given) (query n : ℕ) (a : Asking) → AreRightGiven setup past given query n a.query
    → IsAskedBy setup past given query n a → IsAsked setup past a
asked_right setup past given query n a g k =
    asked_follows setup past past (IsGiven given query n) (IsRightNoted setup past a.query) (front_same past.history)
    (λ piece y f. g y.from.0 (given_of query n piece y.got) f refl refl) a k

-- ---- what is missing was refused

-- a piece of the plan is of the partition, and each server that was asked for it gave so
planned_given : (setup : Setup) (past : Past) (given : Given) (query n : ℕ) (p : Partition) (x : PieceAsked) (o : Option Route)
    → ((route : Route) → o ≡ Some route → IsRoute setup past (IsGiven given query n) p route) → Has (plan_in o) x
    → (x.piece.partition ≡ p) × AreKnownAnswers (IsGiven given query n) x.piece x.answers
planned_given setup past given query n p x None k h = absurd h
planned_given setup past given query n p x (Some Untried) k h = absurd h
planned_given setup past given query n p x (Some Failed) k h = absurd h
planned_given setup past given query n p x (Some (Planned xs)) k h =
    let plan : IsPlan setup past (IsGiven given query n) p xs = k (Planned xs) refl in
    let of = subst (AreOf p) (sym plan.plan) (plan_is_of p (metadata_of plan.seen p)) in (
      one_of p (map (λ z. z.piece) xs) x.piece of (map-Has (λ z. z.piece) xs x h),
      each_of (λ z. AreKnownAnswers (IsGiven given query n) z.piece z.answers) xs x plan.known h,
    )

refused_given : (given : Given) (query n : ℕ) (piece : Piece) (ys : List PieceAnswer) (i : Instance) → AreKnownAnswers (IsGiven given query n) piece ys
    → RefusedBy ys i → GaveNothing given query n piece i
refused_given given query n piece ys i k (y, has, from, refused) =
    record {
      got = y.got;
      gave = subst (λ (j : Instance). Has (given j.0) (given_of query n piece y.got)) from (each_of (IsGiven given query n piece) ys y k has);
      refused = refused;
    }

pub refused_by : (setup : Setup) (past : Past) (given : Given) (query n : ℕ) (a : Asking) (p : Partition) (s : Sequence) → IsAskedBy setup past given query n a
    → IsRefused a p s → IsRefusedBy given query n a p s
refused_by setup past given query n a p s k r =
    let found = planned_given setup past given query n p r.asked (route_at a p) (k.routes p) r.planned in
    record {
      piece = r.asked.piece;
      partition = found.0;
      sequence = r.sequence;
      refused = λ i assigned. refused_given given query n r.asked.piece r.asked.answers i found.1 (r.refused i assigned);
    }
