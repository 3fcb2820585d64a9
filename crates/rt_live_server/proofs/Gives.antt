-- What a server gives of a piece, by what it was just before.
use Rattle.std.proofs.Common.{◌≡◌, ◌∙◌, ◌<◌, ◌≤◌, ℕ, List, [], ◌∷◌, ◌++◌, true, ap, arith, length, sym, subst, Err, Option}
use Rattle.std.proofs.lemmas.List.{length-append, length-map}
use Rattle.rt_base.specs.declared.numbers.Offset.{Offset}
use Rattle.rt_broker.specs.declared.piece_given.PieceGiven.{PieceGiven}
use Rattle.rt_broker.specs.declared.piece_got.PieceGot.{PieceGot}
use Rattle.rt_broker.specs.declared.piece_got.PieceGot.TheVariants as got
use Rattle.rt_entry.specs.Serving.{AnswersGroups}
use Rattle.rt_entry.specs.declared.refused.ServeRefused.TheVariants.{NotServed}
use Rattle.rt_front.specs.Histories.{Known, known}
use Rattle.rt_front.specs.declared.entry.Entry.{Entry}
use Rattle.rt_ground.specs.Histories.{whats}
use Rattle.rt_lists.specs.Members.{Has}
use Rattle.rt_lists.proofs.Members.{Has-push, Has-same}
use Rattle.rt_model.specs.declared.piece.Piece.{Piece}
use Rattle.rt_model.specs.declared.query.Query.{Query}
use Rattle.rt_server.specs.Serving.{serve}
use Rattle.rt_live_server.specs.Acting.{ActingNow}
use Rattle.rt_live_server.specs.Did.{given_in, given_of}
use Rattle.rt_live_server.specs.Steps.{GivesBy}
use Rattle.rt_live_server.specs.declared.did.ServerDid.{ServerDid}
use Rattle.rt_live_server.specs.declared.did.ServerDid.TheVariants.{Took, Passed, Saw, Moved, Loaded, Measured, Consumed, Forced, Built, Asked, Gave, Crashed, Restarted}

abbrev Gives : ActingNow → Query → Piece → PieceGot → Type 0
Gives a query piece got = GivesBy a.up query a.server.table piece got

pub gives_in : (a b : ActingNow) (query : Query) (piece : Piece) (got : PieceGot) → a ≡ b → Gives b query piece got → Gives a query piece got
gives_in a b query piece got same h = subst (λ (x : ActingNow). Gives x query piece got) (sym same) h

-- one that is up has nothing of the piece
pub gives_none : (a b : ActingNow) (query : Query) (piece : Piece) (reached : Option Offset) → a ≡ b → a.up ≡ true
    → AnswersGroups query (serve a.server.table piece) (Err (NotServed reached)) → Gives b query piece got.NotServed
gives_none a b query piece reached same up h =
    subst (λ (x : ActingNow). Gives x query piece got.NotServed) same
    (subst (λ u. GivesBy u query a.server.table piece got.NotServed) (sym up) (reached, h))

-- ---- what the broker is told

one_at_most : (d : ServerDid) → length (given_in d) ≤ 1
one_at_most (Took reply) = omega arith
one_at_most (Passed envelope) = omega arith
one_at_most (Saw told result) = omega arith
one_at_most (Moved p q now told result) = omega arith
one_at_most (Loaded p q told result) = omega arith
one_at_most (Measured p told result) = omega arith
one_at_most (Consumed p q max now told result) = omega arith
one_at_most (Forced p q result) = omega arith
one_at_most (Built p q result) = omega arith
one_at_most (Asked p q result) = omega arith
one_at_most (Gave given) = omega arith
one_at_most Crashed = omega arith
one_at_most (Restarted told result) = omega arith

few_given : (did : List ServerDid) → length (given_of did) ≤ length did
few_given [] = omega arith
few_given (d ∷ ds) = omega (arith, one_at_most d, few_given ds, length-append (given_in d) (given_of ds))

-- the history of what was given has room where the diary has
pub few_pieces : (log : List (Entry PieceGiven)) (did : List ServerDid) (most : ℕ) → whats log ≡ given_of did → length did < most → length log < most
few_pieces log did most gave room =
    let size : length log ≡ length (given_of did) = sym (length-map log (λ (e : Entry PieceGiven). e.what)) ∙ ap (λ (gs : List PieceGiven). length gs) gave in
    omega (arith, size, few_given did, room)

abbrev piece_given : ℕ → ℕ → Piece → PieceGot → PieceGiven
piece_given query asking piece got = record { query = query; asking = asking; piece = piece; got = got }

-- what was noted last stands in the front
pub told_it : (log : List (Entry PieceGiven)) (before front : Known PieceGiven) (old : List PieceGiven) (given : PieceGiven) (query asking : ℕ) (piece : Piece) → front ≡ known before.chronicle log before.numbers → whats log ≡ old ++ given ∷ []
    → given.query ≡ query → given.asking ≡ asking → given.piece ≡ piece → Has (whats front.seen) (piece_given query asking piece given.got)
told_it log before front old given query asking piece shown noted is_query is_asking is_piece =
    let is : given ≡ piece_given query asking piece given.got =
    ap (λ x. piece_given x given.asking given.piece given.got) is_query ∙ ap (λ x. piece_given query x given.piece given.got) is_asking
    ∙ ap (λ x. piece_given query asking x given.got) is_piece in
    let all : whats front.seen ≡ old ++ given ∷ [] = ap (λ (k : Known PieceGiven). whats k.seen) shown ∙ noted in
    subst (λ (g : PieceGiven). Has (whats front.seen) g) is (Has-same (old ++ given ∷ []) (whats front.seen) given (sym all) (Has-push old given))
