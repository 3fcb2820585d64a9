-- A `settle` is refused by a limit alone.
use Rattle.std.proofs.Common.{◌≡◌, ◌<◌, ◌≤◌, ◌||◌, ◌&&◌, ◌==◌, ℕ, zero, suc, Bool, true, false, cond, List, [], ◌∷◌, Option, Some, None, Result, Ok, Err, nat_le, nat_lt, refl, sym, ◌∙◌, ap, subst, arith, slice_get, get_or}
use Rattle.std.specs.List.{position}
use Rattle.std.proofs.lemmas.Bool.{and_parts, eqb-true, false≢true, le-ltb, lt-ltb}
use Rattle.std.proofs.lemmas.List.Quantifiers.{position-Some}
use Rattle.std.proofs.lemmas.Option.{none-some, same_Some, slice_get-get_or}
use Rattle.rt_base.specs.declared.gate.NodeId.TheVariants.{Server}
use Rattle.rt_base.specs.declared.limits.TheConstants.{LAST_NUMBER}
use Rattle.rt_base.specs.declared.numbers.ControllerId.{ControllerId}
use Rattle.rt_base.specs.declared.numbers.Instance.{Instance}
use Rattle.rt_consumer.specs.declared.consumer.Consumer.{Consumer}
use Rattle.rt_events.specs.declared.event.Event.TheVariants as event
use Rattle.rt_events.specs.declared.outcome.Outcome.{Outcome}
use Rattle.rt_events.specs.declared.refusal.Refusal.{Refusal}
use Rattle.rt_events.specs.declared.refusal.Refusal.TheVariants.{NoSuchMessage, NoSuchNode, NodeDown, NothingToDo, Limit, Memory}
use Rattle.rt_macros.specs.Doing.{Act, Attempted, Choose, Gives, HappensBy, Passed, Reached, Refuses, Then}
use Rattle.rt_macros.specs.Exchanging.{AfterReport}
use Rattle.rt_macros.specs.Settling.{AfterRequest, AfterRound, BuildAndExchange, BuildTurn, ConsumeTurn, DownloadTurn, Downloads, ExchangeTurn, ReplicaTurn, ReplicasHeld, ReplicasOfAll, ReplicasTurn, Requests, Round, SegmentAt, ServerTurn, ServersTurn, Settles, SettlesIn, TransitTurn, Transits, TransitsAndDownloads, WithLeader, may_consume}
use Rattle.rt_macros.specs.declared.settling.TheConstants.{BATCH, MOST_ROUNDS}
use Rattle.rt_model.specs.declared.setup.Setup.{Setup}
use Rattle.rt_nodes.specs.Reading.{leads, stands}
use Rattle.rt_nodes.specs.Replicas.{builds_now, passes, takes_now}
use Rattle.rt_nodes.specs.Requests.{asks_due}
use Rattle.rt_nodes.specs.declared.controller_node.ControllerNode.{ControllerNode}
use Rattle.rt_consumer.specs.Requests.{size_in}
use Rattle.rt_state.specs.Finding.{find_server, has_partition, has_server, is_controller_up, is_server_up, is_up_controller, replica_at}
use Rattle.rt_state.specs.IsSafeWorld.{IsSafeWorld}
use Rattle.rt_state.specs.Requests.{report_by}
use Rattle.rt_state.specs.Room.{Found, no_cost, only_if, priced, then_due, upload_cost}
use Rattle.rt_state.specs.Servers.{moves_at, wants_at}
use Rattle.rt_state.specs.declared.state.State.{State}
use Rattle.rt_unrefused.proofs.Exchanging.{Done, IsIn, finishes, then_in}
use Rattle.rt_unrefused.proofs.Goes.{Ends, GoesTo, attempted_to, choose_to, each_from_to, each_to, gives_to, passed_to, refuses_to, then_to}
use Rattle.rt_unrefused.proofs.Only.{IsQuiet, Only, only_dropped, only_met, only_priced, only_refused, only_test, only_then, quiet_priced}
use Rattle.rt_unrefused.proofs.Segments.{held_within, transits_within, wanted_within}
use Rattle.rt_unrefused.proofs.Up.{build_up, consume_up, download_up, see_up, server_is, transit_up}
use Rattle.rt_unrefused.specs.Refused.{IsLimit}
use Rattle.rt_world.specs.Reading.{due_transits_of, either, held_in, leader_in, leading_place, then_at, up_in, wanted_in}
use Rattle.rt_world.specs.Step.{due_of}

-- ---- events of a server that is up

abbrev is_found : Found
is_found = Ok tt

found_both : (a b c : Bool) → a ≡ true → b ≡ true → c ≡ true → only_if (a && b) NoSuchNode (only_if c NodeDown is_found) ≡ is_found
found_both true true true e f g = refl
found_both true true false e f g = absurd (false≢true g)
found_both true false c e f g = absurd (false≢true f)
found_both false b c e f g = absurd (false≢true e)

module _ (w : State) (i : Instance) (s : SegmentAt) (up : is_server_up w i ≡ true) (within : s.0.0 < w.setup.partitions) where
  found : find_server w i s.0 ≡ is_found
  found = found_both (has_server w i) (has_partition w s.0) (is_server_up w i) (server_is w i up) (lt-ltb s.0.0 w.setup.partitions within) up

  -- one that a test decides
  tested : (b : Bool) → Only IsQuiet (then_due (find_server w i s.0) (only_if b NothingToDo (priced w no_cost)))
  tested b =
      only_then IsQuiet (find_server w i s.0) (only_if b NothingToDo (priced w no_cost)) found
      (only_test IsQuiet b NothingToDo (priced w no_cost) (λ no. tt) (quiet_priced w no_cost))

  transit_quiet : Only IsQuiet (due_of w (event.Transit i s.0 s.1))
  transit_quiet = only_dropped IsQuiet _ (tested (moves_at w i s.0 s.1))

  download_quiet : Only IsQuiet (due_of w (event.Download i s.0 s.1))
  download_quiet = only_dropped IsQuiet _ (tested (wants_at w i s.0 s.1))

  consume_quiet : (max : ℕ) → Only IsQuiet (due_of w (event.Consume i s.0 s.1 max))
  consume_quiet max = only_dropped IsQuiet _ (tested (passes (takes_now max) (replica_at w i s.0 s.1)))

  build_quiet : Only IsQuiet (due_of w (event.Build i s.0 s.1))
  build_quiet = only_dropped IsQuiet _ (tested (passes builds_now (replica_at w i s.0 s.1)))

  asks_quiet : (o : Option Consumer) → Only IsQuiet (report_by w o)
  asks_quiet None = only_refused IsQuiet NothingToDo tt
  asks_quiet (Some r) =
      let price = priced w (upload_cost (size_in r.phase)) in
      only_test IsQuiet (asks_due r) NothingToDo price (λ no. tt) (quiet_priced w (upload_cost (size_in r.phase)))

  report_quiet : Only IsQuiet (due_of w (event.Report i s.0 s.1))
  report_quiet =
      only_dropped IsQuiet _ (only_then IsQuiet (find_server w i s.0) (report_by w (replica_at w i s.0 s.1)) found (asks_quiet (replica_at w i s.0 s.1)))

see_limited : (w : State) (i : Instance) → is_server_up w i ≡ true → Only IsLimit (due_of w (event.See i))
see_limited w i up =
    let there = only_if (is_server_up w i) NodeDown (priced w no_cost) in
    only_dropped IsLimit (only_if (has_server w i) NoSuchNode there)
    (only_met IsLimit (has_server w i) NoSuchNode there (server_is w i up) (only_met IsLimit (is_server_up w i) NodeDown (priced w no_cost) up (only_priced w no_cost)))

-- ---- the controller that is asked

-- what is at a place that passes a test
leading_up : (test : ControllerNode → Bool) → ((n : ControllerNode) → test n ≡ true → n.up ≡ true) → (ns : List ControllerNode) (place : ℕ)
    → position test ns ≡ Some place → is_up_controller (slice_get ns place) ≡ true
leading_up test f [] place e = absurd (none-some place e)
leading_up test f (n ∷ ns) place e =
    let k = position-Some test (n ∷ ns) place n e in
    ap is_up_controller (slice_get-get_or (n ∷ ns) place n k.0) ∙ f (get_or (n ∷ ns) place n) k.1

leads_up : (n : ControllerNode) → leads n ≡ true → n.up ≡ true
leads_up n e = (and_parts n.up n.controller.leads e).0

placed_up : (w : State) (place : ℕ) → leading_place w ≡ Some place → is_up_controller (slice_get w.controllers place) ≡ true
placed_up w place e = by_first (position leads w.controllers) refl e
  where
    by_first : (o : Option ℕ) → position leads w.controllers ≡ o → either o (position stands w.controllers) ≡ Some place
        → is_up_controller (slice_get w.controllers place) ≡ true
    by_first None first e = leading_up stands (λ n up. up) w.controllers place e
    by_first (Some p) first e = leading_up leads leads_up w.controllers place (first ∙ e)

leader_up : (w : State) (c : ControllerId) → leader_in w ≡ Some c → is_controller_up w c ≡ true
leader_up w c e = by_place (leading_place w) refl e
  where
    some_controller : ControllerId → Option ControllerId
    some_controller d = Some d

    by_number : (place : ℕ) (b : Bool) → cond b (Some (record { 0 = place })) None ≡ Some c → place ≡ c.0
    by_number place true e = ap (λ (d : ControllerId). d.0) (same_Some (record { 0 = place }) c e)
    by_number place false e = absurd (none-some c e)

    by_place : (o : Option ℕ) → leading_place w ≡ o → then_at o ≡ Some c → is_controller_up w c ≡ true
    by_place None at e = absurd (none-some c e)
    by_place (Some place) at e =
        let same = by_number place (nat_le place LAST_NUMBER) e in
        ap (λ n. is_up_controller (slice_get w.controllers n)) (sym same) ∙ placed_up w place at

-- ---- the first part of a round

module _ (i : Instance) (setup : Setup) where
  -- a safe world of the cluster, in which the server is up
  abbrev Stands : State → Type 0
  Stands u = IsIn setup u × (is_server_up u i ≡ true)

  abbrev Within : SegmentAt → Type 0
  Within s = s.0.0 < setup.partitions

  in_world : (u : State) (s : SegmentAt) → IsIn setup u → Within s → s.0.0 < u.setup.partitions
  in_world u s k within = subst (λ (x : Setup). s.0.0 < x.partitions) (sym k.setup) within

  of_cluster : (u : State) (s : SegmentAt) → IsIn setup u → s.0.0 < u.setup.partitions → Within s
  of_cluster u s k within = subst (λ (x : Setup). s.0.0 < x.partitions) k.setup within

  transits : (busy : Bool) (u : State) → Stands u → GoesTo (λ b. Stands) (Transits i busy u)
  transits busy u k =
      each_to Stands Within (TransitTurn i) (due_transits_of u i) busy u k (λ s has. of_cluster u s k.0 (transits_within u i k.0.safe s has))
      (λ s b x within l.
      attempted_to Stands (event.Transit i s.0 s.1) b x l (transit_quiet x i s l.1 (in_world x s l.0 within))
      (λ v o steps. (then_in setup x v (event.Transit i s.0 s.1) o l.0 tt steps, transit_up x v i s o steps l.1)))

  downloads : (busy : Bool) (u : State) → Stands u → GoesTo (λ b. Stands) (Downloads i busy u)
  downloads busy u k =
      each_to Stands Within (DownloadTurn i) (wanted_in u i) busy u k (λ s has. of_cluster u s k.0 (wanted_within u i k.0.safe s has))
      (λ s b x within l.
      attempted_to Stands (event.Download i s.0 s.1) b x l (download_quiet x i s l.1 (in_world x s l.0 within))
      (λ v o steps. (then_in setup x v (event.Download i s.0 s.1) o l.0 tt steps, download_up x v i s o steps l.1)))

  sees : (busy : Bool) (u : State) → Stands u → GoesTo (λ b. Stands) (Then (Passed (event.See i)) (λ done. TransitsAndDownloads i busy) u)
  sees busy u k =
      then_to (λ done. Stands) (λ b. Stands) (Passed (event.See i)) (λ done. TransitsAndDownloads i busy) u
      (passed_to Stands (event.See i) u (see_limited u i k.1) (λ v o steps. (then_in setup u v (event.See i) o k.0 tt steps, see_up u v i o steps k.1)))
      (λ done x l. then_to (λ b. Stands) (λ b. Stands) (Transits i busy) (Downloads i) x (transits busy x l) (λ b y m. downloads b y m))

  -- ---- the second part

  consumes : (paused : Bool) (s : SegmentAt) (busy : Bool) (u : State) → Within s → Stands u → GoesTo (λ b. Stands) (ConsumeTurn paused i s busy u)
  consumes paused s busy u within k =
      choose_to (λ b. Stands) (may_consume paused u i s) (Attempted (event.Consume i s.0 s.1 BATCH) busy u) (Gives busy u)
      (λ may.
      attempted_to Stands (event.Consume i s.0 s.1 BATCH) busy u k (consume_quiet u i s k.1 (in_world u s k.0 within) BATCH)
      (λ v o steps. (then_in setup u v (event.Consume i s.0 s.1 BATCH) o k.0 tt steps, consume_up u v i s BATCH o steps k.1)))
      (λ no. gives_to (λ b. Stands) busy u k)

  builds : (s : SegmentAt) (busy : Bool) (u : State) → Within s → Stands u → GoesTo (λ b. Stands) (BuildTurn i s busy u)
  builds s busy u within k =
      attempted_to Stands (event.Build i s.0 s.1) busy u k (build_quiet u i s k.1 (in_world u s k.0 within))
      (λ v o steps. (then_in setup u v (event.Build i s.0 s.1) o k.0 tt steps, build_up u v i s o steps k.1))

  requests : (s : SegmentAt) (c : ControllerId) (busy : Bool) (u : State) → Within s → Stands u → is_controller_up u c ≡ true
      → GoesTo (λ b. Stands) (Requests i s c busy u)
  requests s c busy u within k leads v r t =
      subst (λ (z : Reached). Ends (λ b. Stands) z.world r) (sym t.whole) (by_told t.told t.came.by t.further)
    where
      due : Only IsQuiet (due_of u (event.Report i s.0 s.1))
      due = report_quiet u i s k.1 (in_world u s k.0 within)

      by_told : (told : Result Outcome Refusal) → HappensBy (event.Report i s.0 s.1) u t.between told → AfterRequest c busy told t.between.world t.last r
          → Ends (λ b. Stands) t.last.world r
      by_told (Ok o) (steps, is) h =
          then_to (Done setup i) (λ b. Stands) (AfterReport c o) (λ exchanged. Gives true) t.between.world
          (finishes setup u t.between.world i s.0 s.1 c o k.0 leads steps) (λ x z l. gives_to (λ b. Stands) true z l) t.last r h
      by_told (Err NothingToDo) (denied, is) h =
          gives_to (λ b. Stands) busy t.between.world (subst (λ (z : Reached). Stands z.world) (sym is) k) t.last r h
      by_told (Err NoSuchMessage) (denied, is) h = absurd (due NoSuchMessage denied)
      by_told (Err NoSuchNode) (denied, is) h = absurd (due NoSuchNode denied)
      by_told (Err NodeDown) (denied, is) h = absurd (due NodeDown denied)
      by_told (Err (Limit which)) (denied, is) h = refuses_to (λ b. Stands) (Limit which) t.between.world tt t.last r h
      by_told (Err Memory) (denied, is) h = absurd (due Memory denied)

  with_leader : (s : SegmentAt) (o : Option ControllerId) (busy : Bool) (u : State) → Within s → Stands u
      → ((c : ControllerId) → o ≡ Some c → is_controller_up u c ≡ true) → GoesTo (λ b. Stands) (WithLeader i s o busy u)
  with_leader s (Some c) busy u within k up = requests s c busy u within k (up c refl)
  with_leader s None busy u within k up = gives_to (λ b. Stands) busy u k

  replica_turn : (paused : Bool) (s : SegmentAt) (busy : Bool) (u : State) → Within s → Stands u → GoesTo (λ b. Stands) (ReplicaTurn paused i s busy u)
  replica_turn paused s busy u within k =
      then_to (λ b. Stands) (λ b. Stands) (ConsumeTurn paused i s busy) (BuildAndExchange i s) u (consumes paused s busy u within k)
      (λ b x l.
      then_to (λ d. Stands) (λ d. Stands) (BuildTurn i s b) (ExchangeTurn i s) x (builds s b x within l)
      (λ d y m. with_leader s (leader_in y) d y within m (λ c is. leader_up y c is)))

  replicas : (paused : Bool) (busy : Bool) (u : State) → Stands u → GoesTo (λ b. Stands) (ReplicasHeld paused i busy u)
  replicas paused busy u k =
      each_to Stands Within (ReplicaTurn paused i) (held_in u i) busy u k (λ s has. of_cluster u s k.0 (held_within u i k.0.safe s has))
      (λ s b x within l. replica_turn paused s b x within l)

-- ---- a round

module _ (setup : Setup) where
  abbrev Stays : Bool → State → Type 0
  Stays b u = IsIn setup u

  abbrev server : ℕ → Instance
  server at = record { 0 = at }

  -- the server may go down later
  alone : (i : Instance) (r : Result Bool Refusal) (u : State) → Ends (λ b. Stands i setup) u r → Ends Stays u r
  alone i (Ok b) u k = k.0
  alone i (Err refusal) u k = k

  server_turn : (at : ℕ) (busy : Bool) (u : State) → IsIn setup u → GoesTo Stays (ServerTurn at busy u)
  server_turn at busy u k =
      choose_to Stays (up_in u (Server (server at))) (Then (Passed (event.See (server at))) (λ done. TransitsAndDownloads (server at) busy) u) (Gives busy u)
      (λ up v r h. alone (server at) r v.world (sees (server at) setup busy u (k, up) v r h)) (λ down. gives_to Stays busy u k)

  replicas_turn : (paused : Bool) (at : ℕ) (busy : Bool) (u : State) → IsIn setup u → GoesTo Stays (ReplicasTurn paused at busy u)
  replicas_turn paused at busy u k =
      choose_to Stays (up_in u (Server (server at))) (ReplicasHeld paused (server at) busy u) (Gives busy u)
      (λ up v r h. alone (server at) r v.world (replicas (server at) setup paused busy u (k, up) v r h)) (λ down. gives_to Stays busy u k)

  round : (paused : Bool) (u : State) → IsIn setup u → GoesTo Stays (Round paused u)
  round paused u k =
      then_to Stays Stays (ServersTurn false) (ReplicasOfAll paused) u
      (each_from_to (λ n. Stays) ServerTurn 0 u.setup.servers false u.setup.servers u (omega arith) k (λ n b x lt l. server_turn n b x l))
      (λ b x l.
      each_from_to (λ n. Stays) (ReplicasTurn paused) 0 x.setup.servers b x.setup.servers x (omega arith) l (λ n d y lt m. replicas_turn paused n d y m))

  after_round : (further : Act Bool) (busy : Bool) (u : State) → IsIn setup u → ((x : State) → IsIn setup x → GoesTo Stays (further x))
      → GoesTo Stays (AfterRound further busy u)
  after_round further true u k f = f u k
  after_round further false u k f = gives_to Stays true u k

  settles_in : (paused : Bool) (rounds : ℕ) (u : State) → IsIn setup u → GoesTo Stays (SettlesIn paused rounds u)
  settles_in paused zero u k = gives_to Stays false u k
  settles_in paused (suc rounds) u k =
      then_to Stays Stays (Round paused) (AfterRound (SettlesIn paused rounds)) u (round paused u k)
      (λ busy x l. after_round (SettlesIn paused rounds) busy x l (λ y m. settles_in paused rounds y m))

-- some rounds, and no more than the most
some_rounds : (rounds : ℕ) → 1 ≤ rounds → rounds ≤ MOST_ROUNDS → ((rounds == 0) || nat_lt MOST_ROUNDS rounds) ≡ false
some_rounds rounds some few = both (rounds == 0) (nat_lt MOST_ROUNDS rounds) (by_test (rounds == 0) refl) (le-ltb MOST_ROUNDS rounds few)
  where
    by_test : (b : Bool) → (rounds == 0) ≡ b → b ≡ false
    by_test true e = absurd (omega (arith, some, eqb-true rounds 0 e))
    by_test false e = refl

    both : (a b : Bool) → a ≡ false → b ≡ false → (a || b) ≡ false
    both false false e f = refl
    both true b e f = absurd (false≢true (sym e))
    both false true e f = absurd (false≢true (sym f))

pub settles_to : (paused : Bool) (rounds : ℕ) (w : State) → IsSafeWorld w → 1 ≤ rounds → rounds ≤ MOST_ROUNDS
    → GoesTo (λ b u. IsIn w.setup u) (Settles paused rounds w)
settles_to paused rounds w safe some few =
    subst (λ (b : Bool). GoesTo (λ b u. IsIn w.setup u) (Choose b (Refuses NothingToDo w) (SettlesIn paused rounds w))) (sym (some_rounds rounds some few))
    (settles_in w.setup paused rounds w (record { safe = safe; setup = refl }))

pub settle_refused : (paused : Bool) (rounds : ℕ) (w : State) (v : Reached) (refusal : Refusal) → IsSafeWorld w → 1 ≤ rounds → rounds ≤ MOST_ROUNDS
    → Settles paused rounds w v (Err refusal) → IsLimit refusal
settle_refused paused rounds w v refusal safe some few h = settles_to paused rounds w safe some few v (Err refusal) h
