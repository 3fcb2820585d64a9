-- A server's own step, with a look at the stream, with a call of a store or without one, keeps a world safe.
use Rattle.std.proofs.Common.{◌≡◌, ℕ, Ok, Option, Some, None, refl, sym, ap, subst, arith, slice_get}
use Rattle.std.specs.Prelude.{slice_set}
use Rattle.rt_base.specs.declared.numbers.Instance.{Instance}
use Rattle.rt_deep.specs.Meaning.{Told as ToldDeep}
use Rattle.rt_past.specs.Past.{with_history}
use Rattle.rt_store.specs.Meaning.{Told}
use Rattle.rt_stream.specs.Log.{Log}
use Rattle.rt_state.specs.Applying.{Next}
use Rattle.rt_state.specs.IsSafe.{IsSafeOver, past_of}
use Rattle.rt_state.specs.IsSafeWorld.{IsFewOver, IsSafeWorld}
use Rattle.rt_state.specs.Nodes.{ServerStep, ServerDoesAt, ServerDoes, ServerFetchesAt, ServerFetches, ServerCallsAt, ServerCalls, ServerGetsAt, ServerGets}
use Rattle.rt_state.specs.Room.{no_cost, priced, spent, counted}
use Rattle.rt_state.specs.declared.cost.Cost.{Cost}
use Rattle.rt_nodes.specs.declared.server_node.ServerNode.{ServerNode}
use Rattle.rt_state.specs.declared.state.State.{State}
use Rattle.rt_world.proofs.Few.{few_after, none_started}
use Rattle.rt_world.proofs.KeepsClock.{free_keeps}
use Rattle.rt_world.proofs.Owing.{IsServerOf, StepKeeps}
use Rattle.rt_state.proofs.Possible.{HasRoom, priced_room}
use Rattle.rt_world.proofs.Sets.{drawn_same, safe_grows, server_set}
use Rattle.rt_world.specs.Way as way

pub server_of : (w : State) (i : ℕ) (n : ServerNode) → IsSafeWorld w → slice_get w.servers i ≡ Some n → IsServerOf w (past_of w) i n
server_of w i n s e = record { at = s.safe.servers i n e; drawn = s.safe.drawn i n e }

-- ---- alone

pub server_does_keeps : (w : State) (i : Instance) (does : ServerStep) (cost : Cost) (x : Next) → IsSafeWorld w → priced w no_cost ≡ Ok cost
    → StepKeeps w (way.alone i does) → ServerDoes w i does cost x → IsSafeWorld x.0
server_does_keeps w i does cost x s possible keeps h = by_node (slice_get w.servers i.0) refl h
  where
    by_node : (n : Option ServerNode) → slice_get w.servers i.0 ≡ n → ServerDoesAt n w i does cost x → IsSafeWorld x.0
    by_node None e h = absurd h
    by_node (Some old) e (new, step, is) =
        let k = keeps old new x.1 e (server_of w i.0 old s e) step in
        subst IsSafeWorld (sym is)
        (record {
          safe = server_set w.setup (past_of w) w.servers w.controllers w.queries i.0 new s.safe k.at k.drawn;
          few = free_keeps w cost s possible;
        })

-- ---- with a look at the stream

pub server_fetches_keeps : (w : State) (i : Instance) (does : Log → Log → ServerStep) (cost : Cost) (x : Next) → IsSafeWorld w → priced w no_cost ≡ Ok cost
    → StepKeeps w (way.looks i does) → ServerFetches w i does cost x → IsSafeWorld x.0
server_fetches_keeps w i does cost x s possible keeps h = by_node (slice_get w.servers i.0) refl h
  where
    by_node : (n : Option ServerNode) → slice_get w.servers i.0 ≡ n → ServerFetchesAt n w i does cost x → IsSafeWorld x.0
    by_node None e h = absurd h
    by_node (Some old) e (new, log, step, is) =
        let a = past_of w in
        let k = keeps old new log x.1 e (server_of w i.0 old s e) step in
        let same : record a { log = log } ≡ a = ap (λ log. record a { log = log }) k.0 in
        let safe = server_set w.setup a w.servers w.controllers w.queries i.0 new s.safe k.1.at k.1.drawn in
        subst IsSafeWorld (sym is)
        (record {
          safe = subst (λ b. IsSafeOver w.setup b (slice_set w.servers i.0 new) w.controllers w.queries) (sym same) safe;
          few = subst (λ b. IsFewOver w.setup b w.controllers w.queries (spent w.counts cost) w.moment) (sym same) (free_keeps w cost s possible);
        })

-- ---- with a call of the store

pub server_calls_keeps : (w : State) (i : Instance) (does : Told → Told → ServerStep) (cost : Cost) (x : Next) → IsSafeWorld w → priced w no_cost ≡ Ok cost
    → StepKeeps w (way.calls i does) → ServerCalls w i does cost x → IsSafeWorld x.0
server_calls_keeps w i does cost x s possible keeps h = by_node (slice_get w.servers i.0) refl h
  where
    by_node : (n : Option ServerNode) → slice_get w.servers i.0 ≡ n → ServerCallsAt n w i does cost x → IsSafeWorld x.0
    by_node None e h = absurd h
    by_node (Some old) e (new, store, step, is) =
        let a = past_of w in
        let k = keeps old new store x.1 e (server_of w i.0 old s e) step in
        let b = with_history a store.writes in
        let room = priced_room w no_cost cost possible in
        let grown = safe_grows w.setup a b w.servers w.controllers w.queries s.safe k.past.grows k.past.right (drawn_same a b w.servers refl s.safe.drawn) in
        subst IsSafeWorld (sym is)
        (record {
          safe = server_set w.setup b w.servers w.controllers w.queries i.0 new grown k.server.at k.server.drawn;
          few =
              few_after w (counted (record w { servers = slice_set w.servers i.0 new; store = store }) cost) cost (subst (HasRoom w) room.0 room.1)
              (record {
                setup = refl;
                events = refl;
                written = k.past.few;
                sent = omega arith;
                appended = omega arith;
                asked = omega arith;
                started = none_started w s.few;
                unanswered = omega (arith, s.few.unanswered, ap (λ (c : Cost). c.queries) room.0);
                few_unanswered = omega arith;
                uploads = refl;
                stored = omega arith;
                moment = omega arith;
              })
              s.few;
        })

-- ---- with a look at a file

pub server_gets_keeps : (w : State) (i : Instance) (does : ToldDeep → ToldDeep → ServerStep) (cost : Cost) (x : Next) → IsSafeWorld w → priced w no_cost ≡ Ok cost
    → StepKeeps w (way.gets i does) → ServerGets w i does cost x → IsSafeWorld x.0
server_gets_keeps w i does cost x s possible keeps h = by_node (slice_get w.servers i.0) refl h
  where
    by_node : (n : Option ServerNode) → slice_get w.servers i.0 ≡ n → ServerGetsAt n w i does cost x → IsSafeWorld x.0
    by_node None e h = absurd h
    by_node (Some old) e (new, deep, step, is) =
        let a = past_of w in
        let k = keeps old new deep x.1 e (server_of w i.0 old s e) step in
        let same : record a { files = deep.files } ≡ a = ap (λ files. record a { files = files }) k.0 in
        let safe = server_set w.setup a w.servers w.controllers w.queries i.0 new s.safe k.1.at k.1.drawn in
        subst IsSafeWorld (sym is)
        (record {
          safe = subst (λ b. IsSafeOver w.setup b (slice_set w.servers i.0 new) w.controllers w.queries) (sym same) safe;
          few = subst (λ b. IsFewOver w.setup b w.controllers w.queries (spent w.counts cost) w.moment) (sym same) (free_keeps w cost s possible);
        })
