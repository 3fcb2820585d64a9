-- What all ways of events leave but those of controllers.
use Rattle.std.proofs.Common.{◌≡◌, ◌⊎◌, inl, inr, ℕ, ◌≤◌, List, [], ◌∷◌, ◌++◌, Option, Some, None, refl, sym, subst, arith, slice_get}
use Rattle.std.specs.Prelude.{slice_set}
use Rattle.rt_base.specs.declared.numbers.Instance.{Instance}
use Rattle.rt_base.specs.declared.numbers.Partition.{Partition}
use Rattle.rt_base.specs.declared.numbers.Sequence.{Sequence}
use Rattle.rt_broker.specs.Asking.{Asking, piece_at}
use Rattle.rt_deep.specs.Meaning.{Told as ToldDeep}
use Rattle.rt_lists.proofs.Members.{front_push, front_same}
use Rattle.rt_lists.specs.Members.{IsFront}
use Rattle.rt_model.specs.Lawful.{bump, Write, written_by}
use Rattle.rt_model.specs.declared.node.Seen.{Seen}
use Rattle.rt_model.specs.declared.piece.Piece.{Piece}
use Rattle.rt_model.specs.declared.reply.Reply.{Reply}
use Rattle.rt_model.specs.declared.request.Request.{Request}
use Rattle.rt_model.specs.declared.sent.Sent.TheVariants as sent
use Rattle.rt_nodes.specs.declared.server_node.ServerNode.{ServerNode}
use Rattle.rt_past.proofs.Growth.{grows_same}
use Rattle.rt_past.specs.Past.{Grows}
use Rattle.rt_safety.proofs.Adds.{Adds, adds_quietly, adds_request, grows_history, grows_sent, same_files, same_log}
use Rattle.rt_safety.proofs.Ways.{counted_so, Counts, IsFree, Leaving}
use Rattle.rt_safety.specs.Counted.{bytes_of}
use Rattle.rt_state.specs.Applying.{Next}
use Rattle.rt_state.specs.Finding.{query_at, reply_at}
use Rattle.rt_state.specs.IsSafe.{past_of}
use Rattle.rt_state.specs.IsSafeWorld.{IsSafeWorld}
use Rattle.rt_state.specs.Messages.{node_took, Replies, RepliesAt}
use Rattle.rt_state.specs.Nodes.{ServerCalls, ServerCallsAt, ServerDoes, ServerDoesAt, ServerFetches, ServerFetchesAt, ServerGets, ServerGetsAt, ServerStep, with_server}
use Rattle.rt_state.specs.Queries.{Answers, AnswersAt, closed, Pieces, PiecesAt, PiecesOf, Routes, RoutesAt, with_query}
use Rattle.rt_state.specs.Requests.{AskStep, SendsAt, SendsRequest}
use Rattle.rt_state.specs.Room.{counted}
use Rattle.rt_state.specs.declared.cost.Cost.{Cost}
use Rattle.rt_state.specs.declared.state.State.{State}
use Rattle.rt_store.specs.Answers.{Leaves}
use Rattle.rt_store.specs.Meaning.{Told}
use Rattle.rt_stream.specs.Log.{Log}
use Rattle.rt_world.proofs.KeepsQueries.{routed_reads}
use Rattle.rt_world.specs.Way.{Goes, Way}
use Rattle.rt_world.specs.Way as way

-- a way of no controller
abbrev pub IsSpare : Way → Type 0
IsSpare (way.turns c does told) = ⊥
IsSpare (way.handles m c) = ⊥
IsSpare (way.works c j) = ⊥
IsSpare (way.keeps c p chore) = ⊥
IsSpare other = Unit {0}

-- the setup and the controllers stay, a server's incarnation is written at most, and a request sent; the clock never goes back, and all
-- that there was is there still
pub record Spares (w : State) (cost : Cost) (new : State) : Type 0 where
  pub setup : new.setup ≡ w.setup
  pub controllers : new.controllers ≡ w.controllers
  pub written : (new.store.writes ≡ w.store.writes) ⊎ ((j : Instance) × Leaves (bump j) w.store.writes new.store.writes)
  pub sent : ((new.sent ≡ w.sent) × (cost.uploads ≡ 0)) ⊎ ((q : Request) × (new.sent ≡ w.sent ++ sent.Request q ∷ []) × (bytes_of q.kind ≡ cost.uploads))
  pub counts : Counts w cost new
  pub moment : w.moment.0 ≤ new.moment.0
  pub past : IsSafeWorld w → Grows (past_of w) (past_of new)

-- nothing is written or sent, and no time goes by
still : (w : State) (cost : Cost) (new : State) → new.setup ≡ w.setup → new.controllers ≡ w.controllers → new.store.writes ≡ w.store.writes → new.sent ≡ w.sent
    → new.moment.0 ≡ w.moment.0 → cost.uploads ≡ 0 → Counts w cost new → Grows (past_of w) (past_of new) → Spares w cost new
still w cost new setup controllers written sent moment free counts past =
    record {
      setup = setup;
      controllers = controllers;
      written = inl written;
      sent = inl (sent, free);
      counts = counts;
      moment = omega (arith, moment);
      past = λ s. past;
    }

leaves_front : (call : Write) (h now : List Seen) → Leaves call h now → IsFront h now
leaves_front call h now (inl same) = subst (IsFront h) (sym same) (front_same h)
leaves_front call h now (inr (free, more)) = subst (IsFront h) (sym more) (front_push h (written_by h call))

module _ (w : State) (cost : Cost) (x : Next) where
  -- ---- servers

  alone_spares : (i : Instance) (does : ServerStep) → cost.uploads ≡ 0 → ServerDoes w i does cost x → Spares w cost x.0
  alone_spares i does free h = by_node (slice_get w.servers i.0) h
    where
      by_node : (n : Option ServerNode) → ServerDoesAt n w i does cost x → Spares w cost x.0
      by_node None h = absurd h
      by_node (Some old) (new, step, is) =
          subst (Spares w cost) (sym is) (still w cost (counted (with_server w i new) cost) refl refl refl refl refl free (counted_so w cost _ refl) (grows_same (past_of w)))

  looks_spares : (i : Instance) (does : Log → Log → ServerStep) → cost.uploads ≡ 0 → Leaving w cost (way.looks i does) → ServerFetches w i does cost x → Spares w cost x.0
  looks_spares i does free same h = by_node (slice_get w.servers i.0) h
    where
      by_node : (n : Option ServerNode) → ServerFetchesAt n w i does cost x → Spares w cost x.0
      by_node None h = absurd h
      by_node (Some old) (new, log, step, is) =
          subst (Spares w cost) (sym is)
          (still w cost (counted (record w { servers = slice_set w.servers i.0 new; log = log }) cost) refl refl refl refl refl free (counted_so w cost _ refl)
          (same_log (past_of w) log (same old new log x.1 step)))

  calls_spares : (i : Instance) (does : Told → Told → ServerStep) → cost.uploads ≡ 0 → Leaving w cost (way.calls i does) → ServerCalls w i does cost x → Spares w cost x.0
  calls_spares i does free writes h = by_node (slice_get w.servers i.0) h
    where
      by_node : (n : Option ServerNode) → ServerCallsAt n w i does cost x → Spares w cost x.0
      by_node None h = absurd h
      by_node (Some old) (new, store, step, is) =
          let wrote = writes old new store x.1 step in
          subst (Spares w cost) (sym is)
          (record {
            setup = refl;
            controllers = refl;
            written = inr wrote;
            sent = inl (refl, free);
            counts = counted_so w cost _ refl;
            moment = omega arith;
            past = λ s. grows_history (past_of w) store.writes (leaves_front (bump wrote.0) w.store.writes store.writes wrote.1);
          })

  gets_spares : (i : Instance) (does : ToldDeep → ToldDeep → ServerStep) → cost.uploads ≡ 0 → Leaving w cost (way.gets i does) → ServerGets w i does cost x → Spares w cost x.0
  gets_spares i does free same h = by_node (slice_get w.servers i.0) h
    where
      by_node : (n : Option ServerNode) → ServerGetsAt n w i does cost x → Spares w cost x.0
      by_node None h = absurd h
      by_node (Some old) (new, deep, step, is) =
          subst (Spares w cost) (sym is)
          (still w cost (counted (record w { servers = slice_set w.servers i.0 new; deep = deep }) cost) refl refl refl refl refl free (counted_so w cost _ refl)
          (same_files (past_of w) deep.files (same old new deep x.1 step)))

  sends_spares : (i : Instance) (asks : AskStep) → Leaving w cost (way.sends i asks) → SendsRequest w i asks cost x → Spares w cost x.0
  sends_spares i asks bytes h = by_node (slice_get w.servers i.0) refl h
    where
      by_node : (n : Option ServerNode) → slice_get w.servers i.0 ≡ n → SendsAt n w i asks cost x → Spares w cost x.0
      by_node None at h = absurd h
      by_node (Some old) at (new, request, step, is) =
          subst (λ (y : Next). Spares w cost y.0) (sym is)
          (record {
            setup = refl;
            controllers = refl;
            written = inl refl;
            sent = inr (request, refl, bytes old new request at step);
            counts = counted_so w cost _ refl;
            moment = omega arith;
            past = λ s. grows_sent (past_of w) (sent.Request request);
          })

  takes_spares : (m : ℕ) → cost.uploads ≡ 0 → Replies w m cost x → Spares w cost x.0
  takes_spares m free h = by_found (reply_at w m) h
    where
      by_found : (o : Option Reply) → RepliesAt o w cost x → Spares w cost x.0
      by_found None h = absurd h
      by_found (Some r) h = alone_spares r.number.instance (λ old new outcome. (outcome, new) ≡ node_took old r) free h

  -- ---- the broker

  routes_spares : (q : ℕ) (p : Partition) → cost.uploads ≡ 0 → Routes w q p cost x → Spares w cost x.0
  routes_spares q p free h = by_query (query_at w q) h
    where
      by_query : (o : Option Asking) → RoutesAt o w q p cost x → Spares w cost x.0
      by_query None h = absurd h
      by_query (Some a) (b, store, answer, routed, told, is) =
          let same : store.writes ≡ w.store.writes = routed_reads w store a b p answer x.1 routed told in
          subst (Spares w cost) (sym is)
          (still w cost (counted (record w { queries = slice_set w.queries q (Some b); store = store }) cost) refl refl same refl refl free (counted_so w cost _ refl)
          (grows_history (past_of w) store.writes (subst (IsFront w.store.writes) (sym same) (front_same w.store.writes))))

  serves_spares : (q : ℕ) (p : Partition) (s : Sequence) (i : Instance) → cost.uploads ≡ 0 → Pieces w q p s i cost x → Spares w cost x.0
  serves_spares q p s i free h = by_query (query_at w q) h
    where
      by_piece : (a : Asking) (o : Option Piece) (n : Option ServerNode) → PiecesOf o n a w q i cost x → Spares w cost x.0
      by_piece a None n h = absurd h
      by_piece a (Some piece) None h = absurd h
      by_piece a (Some piece) (Some n) (b, what, gives, notes, is) =
          subst (λ (y : Next). Spares w cost y.0) (sym is)
          (still w cost (counted (with_query w q (Some b)) cost) refl refl refl refl refl free (counted_so w cost _ refl) (grows_same (past_of w)))

      by_query : (o : Option Asking) → PiecesAt o w q p s i cost x → Spares w cost x.0
      by_query None h = absurd h
      by_query (Some a) h = by_piece a (piece_at a p s) (slice_get w.servers i.0) h

  closes_spares : (q : ℕ) → cost.uploads ≡ 0 → Answers w q cost x → Spares w cost x.0
  closes_spares q free h = by_query (query_at w q) h
    where
      by_query : (o : Option Asking) → AnswersAt o w q cost x → Spares w cost x.0
      by_query None h = absurd h
      by_query (Some a) (answer, right, is) =
          subst (λ (y : Next). Spares w cost y.0) (sym is) (still w cost (closed w q cost) refl refl refl refl refl free (record { events = refl; uploads = refl; stored = refl }) (grows_same (past_of w)))

  -- ---- any way but a controller's

  pub spares : (y : Way) → IsSpare y → IsFree cost y → Leaving w cost y → Goes w y cost x → Spares w cost x.0
  spares (way.alone i does) spare free left h = alone_spares i does free h
  spares (way.looks i does) spare free left h = looks_spares i does free left h
  spares (way.calls i does) spare free left h = calls_spares i does free left h
  spares (way.gets i does) spare free left h = gets_spares i does free left h
  spares (way.sends i asks) spare free left h = sends_spares i asks left h
  spares (way.takes m) spare free left h = takes_spares m free h
  spares (way.routes q p) spare free left h = routes_spares q p free h
  spares (way.serves q p s i) spare free left h = serves_spares q p s i free h
  spares (way.closes q) spare free left h = closes_spares q free h
  spares (way.outside next) spare free left h =
      subst (λ (y : Next). Spares w cost y.0) (sym h)
      (record {
        setup = left.setup;
        controllers = left.controllers;
        written = inl left.written;
        sent = inl (left.sent, free);
        counts = left.counts;
        moment = left.moment;
        past = left.past;
      })
  spares y spare free left h = absurd spare

-- ---- so it adds to a safe world

pub spares_add : (w : State) (cost : Cost) (new : State) → IsSafeWorld w → Spares w cost new → Adds w new
spares_add w cost new s k = by_sent k.sent
  where
    by_sent : ((new.sent ≡ w.sent) × (cost.uploads ≡ 0)) ⊎ ((q : Request) × (new.sent ≡ w.sent ++ sent.Request q ∷ []) × (bytes_of q.kind ≡ cost.uploads)) → Adds w new
    by_sent (inl same) = adds_quietly w new k.setup same.0 (k.past s)
    by_sent (inr (q, more, bytes)) = adds_request w new q k.setup more (k.past s)
