-- The steps of a server, one for each thing that it does: its own call, over what the store, the deep store or the
-- stream was to its caller before it and after it.
use Rattle.std.specs.Prelude.{◌≡◌, ℕ, Bool, true, false, [], Option, Some, Ok, Err, is_ok, length, slice_get}
use Rattle.rt_base.specs.declared.numbers.Offset.{Offset}
use Rattle.rt_broker.specs.declared.piece_given.PieceGiven.{PieceGiven}
use Rattle.rt_broker.specs.declared.piece_got.PieceGot.{PieceGot}
use Rattle.rt_broker.specs.declared.piece_got.PieceGot.TheVariants as got
use Rattle.rt_deep.specs.Meaning.{Meaning as DeepMeaning}
use Rattle.rt_entry.specs.Serving.{AnswersGroups}
use Rattle.rt_entry.specs.declared.refused.ServeRefused.TheVariants.{NotServed}
use Rattle.rt_ground.specs.StreamCalls.{log_of, seen_by}
use Rattle.rt_link.specs.declared.envelope.Envelope.{Envelope}
use Rattle.rt_link.specs.declared.envelope.Envelope.TheVariants.{Asks, Replies}
use Rattle.rt_live_names.specs.Fronts.{Fronts, own_writes}
use Rattle.rt_live_names.specs.Names.{Names}
use Rattle.rt_live_names.specs.Showed.{
  DeepShowed,
  DeepShown,
  Showed,
  Shown,
  StreamShowed,
  StreamShown,
  deep_shown_by,
  shown_by,
  stream_shown_by,
}
use Rattle.rt_model.specs.Starting.{Starting}
use Rattle.rt_model.specs.declared.piece.Piece.{Piece}
use Rattle.rt_model.specs.declared.query.Query.{Query}
use Rattle.rt_model.specs.declared.setup.Setup.{Setup}
use Rattle.rt_server.specs.Calls.{
  Asks as AsksNext,
  Forces,
  InTable,
  Restarts,
  Seals,
  SeesIdeal,
  Takes,
  Transits,
  crashed,
  replied_in,
}
use Rattle.rt_server.specs.Download.{Downloads}
use Rattle.rt_server.specs.Fresh.{fresh}
use Rattle.rt_server.specs.Serving.{serve}
use Rattle.rt_server.specs.Table.{Segments, ServerState}
use Rattle.rt_store.specs.Meaning.{Meaning}
use Rattle.rt_stream.specs.Feed.{FeedMeaning, Measures}
use Rattle.rt_stream.specs.Log.{Log}
use Rattle.rt_live_server.specs.declared.did.ServerDid.{ServerDid}
use Rattle.rt_live_server.specs.declared.did.ServerDid.TheVariants.{
  Took,
  Passed,
  Saw,
  Moved,
  Loaded,
  Measured,
  Consumed,
  Forced,
  Built,
  Asked,
  Gave,
  Crashed,
  Restarted,
}

-- how much its fronts showed a server so far: of the store, and how many of its writes were the server's own; of the deep
-- store; and of the stream, with each partition's messages
pub record SeenSoFar : Type 0 where
  pub told : ℕ
  pub wrote : ℕ
  pub deep_told : ℕ
  pub stream_told : ℕ
  pub log : Log

abbrev pub nothing_seen : ℕ → SeenSoFar
nothing_seen partitions = record { told = 0; wrote = 0; deep_told = 0; stream_told = 0; log = log_of partitions [] }

-- all that they show now
abbrev pub seen_so_far : Starting → Fronts → SeenSoFar
seen_so_far s f = record {
  told = length f.store.seen;
  wrote = length (own_writes f);
  deep_told = length f.deep.seen;
  stream_told = length f.stream.seen;
  log = seen_by s.partitions f.stream;
}

-- what is replayed: the server, whether it is up, and how much it has seen
pub record ServerNow : Type 0 where
  pub server : ServerState
  pub up : Bool
  pub seen : SeenSoFar

abbrev pub first_now : Setup → ℕ → ServerNow
first_now setup k = record {
  server = fresh setup (record { 0 = k });
  up = true;
  seen = nothing_seen setup.partitions;
}

-- what the store, the deep store and the stream show now
pub record Sights : Type 0 where
  pub store : Shown
  pub deep : DeepShown
  pub stream : StreamShown

abbrev pub sights : Starting → Fronts → Sights
sights s f = record {
  store = shown_by s f.store;
  deep = deep_shown_by f.deep;
  stream = stream_shown_by s.partitions f.stream;
}

-- ---- over what a step is told of the store, the deep store and the stream

-- a step over the store, which showed so many entries after it; how many of them are the server's own is as the step
-- left it
pub record OverStore (s : Starting) (shown : Shown) (told : ℕ) (a b : SeenSoFar) (Step : Meaning → Meaning → Type 0)
    : Type 0 where
  pub before : Meaning
  pub after : Meaning
  pub began : Showed s shown a.told a.wrote before
  pub ended : Showed s shown told b.wrote after
  pub step : Step before after
  pub now : b ≡ record a { told = told; wrote = b.wrote }

-- over the deep store, to which it puts nothing
pub record OverDeep (shown : DeepShown) (told : ℕ) (a b : SeenSoFar) (Step : DeepMeaning → DeepMeaning → Type 0)
    : Type 0 where
  pub before : DeepMeaning
  pub after : DeepMeaning
  pub began : DeepShowed shown a.deep_told 0 before
  pub ended : DeepShowed shown told 0 after
  pub step : Step before after
  pub now : b ≡ record a { deep_told = told }

-- and over the stream, to which it appends nothing
pub record OverStream (partitions : ℕ) (shown : StreamShown) (told : ℕ) (a b : SeenSoFar)
    (Step : FeedMeaning → FeedMeaning → Type 0) : Type 0 where
  pub before : FeedMeaning
  pub after : FeedMeaning
  pub began : StreamShowed partitions shown a.stream_told before
  pub same : before.seen ≡ a.log
  pub ended : StreamShowed partitions shown told after
  pub step : Step before after
  pub now : b ≡ record a { stream_told = told; log = after.seen }

-- ---- what is given of a piece

-- a server that is up gives what it serves, and one that is down nothing
abbrev pub GivesBy : Bool → Query → Segments → Piece → PieceGot → Type 0
GivesBy true query t piece (got.Served served) = AnswersGroups query (serve t piece) (Ok served)
GivesBy true query t piece got.NotServed =
    (reached : Option Offset) × AnswersGroups query (serve t piece) (Err (NotServed reached))
GivesBy true query t piece got.Down = ⊥
GivesBy false query t piece (got.Served served) = ⊥
GivesBy false query t piece got.NotServed = ⊥
GivesBy false query t piece got.Down = Unit {0}

-- it is asked by a query of the cluster
pub record Gives (n : Names) (a : ServerNow) (given : PieceGiven) : Type 0 where
  pub query : Query
  pub asked : slice_get n.queries given.query ≡ Some query
  pub gives : GivesBy a.up query a.server.table given.piece given.got

-- ---- what is passed by

-- a server passes by what is no reply, and replies while it is down
abbrev pub PassesBy : Bool → Envelope → Type 0
PassesBy up (Asks request) = Unit {0}
PassesBy up (Replies reply) = up ≡ false

-- ---- the steps

-- a server that is down does nothing of its own until it comes up again
abbrev pub StaysUp : ServerNow → ServerNow → Type 0
StaysUp a b = (a.up ≡ true) × (b.up ≡ true)

-- it calls none of the three
abbrev pub Still : ServerNow → ServerNow → Type 0
Still a b = StaysUp a b × (b.seen ≡ a.seen)

abbrev pub ServerStep : Names → Starting → Sights → ServerNow → ServerDid → ServerNow → Type 0
ServerStep n s shown a (Took reply) b =
    Still a b × (b.server.table ≡ (replied_in a.server.table reply).1) × InTable a.server b.server
ServerStep n s shown a (Passed envelope) b = (b ≡ a) × PassesBy a.up envelope
ServerStep n s shown a (Saw told result) b =
    StaysUp a b
    × OverStore s shown.store told a.seen b.seen (λ before after. SeesIdeal before after a.server b.server result)
ServerStep n s shown a (Moved p q now told result) b =
    StaysUp a b
    × OverStore s shown.store told a.seen b.seen
    (λ before after. Transits before after a.server b.server p q now result)
ServerStep n s shown a (Loaded p q told result) b =
    StaysUp a b
    × OverDeep shown.deep told a.seen b.seen
    (λ before after. Downloads before after a.server.setup.schema a.server.table b.server.table p q result)
    × InTable a.server b.server
ServerStep n s shown a (Measured p told result) b =
    StaysUp a b × (b.server ≡ a.server)
    × OverStream s.partitions shown.stream told a.seen b.seen (λ before after. Measures before after p result)
ServerStep n s shown a (Consumed p q max now told result) b =
    StaysUp a b
    × OverStream s.partitions shown.stream told a.seen b.seen
    (λ before after. Takes before after a.server.table b.server.table p q max now result)
    × InTable a.server b.server
ServerStep n s shown a (Forced p q result) b =
    Still a b × Forces a.server.table b.server.table p q result × InTable a.server b.server
ServerStep n s shown a (Built p q result) b =
    Still a b × Seals a.server.table b.server.table p q result × InTable a.server b.server
ServerStep n s shown a (Asked p q result) b =
    Still a b × (b.server.setup ≡ a.server.setup)
    × AsksNext a.server.numbers b.server.numbers a.server.table b.server.table p q result
ServerStep n s shown a (Gave given) b = (b ≡ a) × Gives n a given
ServerStep n s shown a Crashed b = b ≡ record a { server = crashed a.server; up = false }
ServerStep n s shown a (Restarted told result) b =
    (a.up ≡ false) × (b.up ≡ is_ok result)
    × OverStore s shown.store told a.seen b.seen (λ before after. Restarts before after a.server b.server result)
