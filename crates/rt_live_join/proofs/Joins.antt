-- All that the nodes left, put together: they have ended.
use Rattle.std.proofs.Common.{◌≡◌, ◌<◌, ◌≤◌, ◌^◌, ℕ, ◌+◌, Bool, List, [], ◌∷◌, ◌++◌, append_assoc, length, map, Some}
use Rattle.std.proofs.Common.{refl, sym, ap, ◌∙◌, subst, arith, slice_get}
use Rattle.std.specs.Prelude.{All}
use Rattle.std.proofs.lemmas.List.{length-append, length-map, map-append}
use Rattle.std.proofs.lemmas.List.Elements.{All-push, All-same}
use mathlib.Core.List.{map-map}
use Rattle.rt_broker.specs.IsAskedBy.{GivesMore}
use Rattle.rt_broker.specs.declared.piece_given.PieceGiven.{PieceGiven}
use Rattle.rt_front.specs.Histories.{History, Known}
use Rattle.rt_ground.specs.Histories.{whats}
use Rattle.rt_ground.specs.declared.caller.Caller.{Caller}
use Rattle.rt_ground.proofs.Entries.{whats_front}
use Rattle.rt_lists.specs.Members.{IsFront}
use Rattle.rt_live_controller.specs.Acting.{part_of as controller_part}
use Rattle.rt_live_end.specs.Ended.{AreControllerParts, AreServerParts, Ended, IsEnded, fronts_of, gave_by}
use Rattle.rt_live_end.specs.Meeting.{HasFirst, HasMet}
use Rattle.rt_live_end.proofs.Meeting.{first_alone, first_told, met_itself, told_more}
use Rattle.rt_live_end.proofs.Parts.{gave_more}
use Rattle.rt_live_links.specs.Gathered.{AreEnds}
use Rattle.rt_live_links.proofs.Places.{mapped, unmapped}
use Rattle.rt_live_names.specs.BrokerPart.{given_by}
use Rattle.rt_live_names.specs.ControllerPart.{ControllerPart, IsControllerPart}
use Rattle.rt_live_names.specs.Fronts.{AreOfCaller, Fronts, broker_caller, callers_of, controller_caller}
use Rattle.rt_live_names.specs.Fronts.{repairer_caller, server_caller}
use Rattle.rt_live_names.specs.Names.{Names}
use Rattle.rt_live_names.specs.OtherParts.{IsRepairerPart}
use Rattle.rt_live_names.specs.ServerPart.{IsServerPart, ServerPart}
use Rattle.rt_live_server.specs.Acting.{part_of as server_part}
use Rattle.rt_live_server.specs.Seat.{SeatNow}
use Rattle.rt_model.specs.Setup.{IsSetup}
use Rattle.rt_model.specs.Starting.{Starting}
use Rattle.rt_store.specs.Contents.{starting_of}
use Rattle.rt_live_join.specs.Feeding.{AreOfOneHistory}
use Rattle.rt_live_join.specs.Joined.{HasJoined, joined_now}
use Rattle.rt_live_join.specs.Leaving.{AreOthersLeft, IsPostingLeft}
use Rattle.rt_live_join.specs.Left.{ControllerLeft, fronts_by}
use Rattle.rt_live_join.specs.Meeting.{AreOfCallersFrom}
use Rattle.rt_live_join.specs.Parted.{controller_had, server_had}
use Rattle.rt_live_join.specs.Putting.{IsPutTogether, joined_as, others_in}
use Rattle.rt_live_join.specs.declared.joined.Joined.{Joined}
use Rattle.rt_live_join.specs.declared.others.Others.{Others}
use Rattle.rt_live_join.specs.declared.posting.Posting.{Posting}
use Rattle.rt_live_join.proofs.Ends.{controller_ends, server_ends}
use Rattle.rt_live_join.proofs.Feeds.{given_at, one_by}
use Rattle.rt_live_join.proofs.Ground.{told_ground}
use Rattle.rt_live_join.proofs.Linked.{linked}
use Rattle.rt_live_join.proofs.Meets.{callers_from, callers_then, met_all, numbers_all}
use Rattle.rt_live_join.proofs.Parting.{many_links}
use Rattle.rt_live_join.proofs.Queues.{queues_between}
use Rattle.rt_live_join.proofs.Shows.{heard_shown}

module _ {R J : Type 0} (n : Names) (s : Starting) (posting : Posting R J) (others : Others R J)
    (are : IsPostingLeft n s posting) (is : AreOthersLeft n others) where
  abbrev servers : List SeatNow
  servers = are.servers.nodes

  abbrev controllers : List ControllerLeft
  controllers = are.controllers.nodes

  abbrev server_parts : List ServerPart
  server_parts = map (λ (a : SeatNow). server_part a.acting) servers

  abbrev controller_parts : List ControllerPart
  controller_parts = map (λ (a : ControllerLeft). controller_part a.acts) controllers

  each_server : AreServerParts n server_parts
  each_server k a at =
      let x = unmapped (λ (b : SeatNow). server_part b.acting) servers k a at in
      let y = are.servers.each k x.0 x.1 in
      (ap (λ (b : ServerPart). b.number) x.2 ∙ y.number, subst (IsServerPart n) (sym x.2) y.ended.acting.part)

  each_controller : AreControllerParts n controller_parts
  each_controller k a at =
      let x = unmapped (λ (b : ControllerLeft). controller_part b.acts) controllers k a at in
      let y = are.controllers.each k x.0 x.1 in
      (ap (λ (b : ControllerPart). b.number) x.2 ∙ y.number, subst (IsControllerPart n) (sym x.2) y.ended.acts.part)

  -- ---- what can be put together

  many_servers : length posting.servers.links.items ≡ n.setup.servers
  many_servers = many_links server_had servers posting.servers.links.items are.servers.are.links ∙ are.servers.many

  many_controllers : length posting.controllers.links.items ≡ n.setup.controllers
  many_controllers =
      many_links controller_had controllers posting.controllers.links.items are.controllers.are.links
      ∙ are.controllers.many

  pub some_links :
      IsSetup n.setup → (1 ≤ length posting.servers.links.items) × (1 ≤ length posting.controllers.links.items)
  some_links setup =
      (omega (arith, many_servers, setup.some_servers), omega (arith, many_controllers, setup.some_controllers))

  pub few_links : IsSetup n.setup
      → (length posting.servers.links.items < 2 ^ 32) × (length posting.controllers.links.items < 2 ^ 32)
  few_links setup =
      (omega (arith, many_servers, setup.few_servers), omega (arith, many_controllers, setup.few_controllers))

  pub ends_there : AreEnds posting.controllers.links.items posting.servers.links.items
  ends_there =
      server_ends n s servers controllers are.servers.each are.controllers.each posting.servers.links.items
      posting.controllers.links.items are.servers.are.links are.controllers.are.links are.controllers.many

  pub ends_back : AreEnds posting.servers.links.items posting.controllers.links.items
  ends_back =
      controller_ends n s servers controllers are.servers.each are.controllers.each posting.servers.links.items
      posting.controllers.links.items are.servers.are.links are.controllers.are.links are.servers.many

  -- the history of the server at a place
  server_at : (k : ℕ) (p : History PieceGiven) → slice_get posting.servers.own.items k ≡ Some p
      → (a : SeatNow) × (slice_get servers k ≡ Some a) × (p ≡ a.pieces)
  server_at k p at =
      unmapped (λ (a : SeatNow). a.pieces) servers k p
      (ap (λ (ps : List (History PieceGiven)). slice_get ps k) (sym are.servers.are.own) ∙ at)

  pub one_history : AreOfOneHistory posting.servers.own.items others.broker.feeds.items
  one_history =
      one_by n.asked posting.servers.own.items others.broker.feeds.items
      (λ k p at.
      let a = server_at k p at in
      let is_left = are.servers.each k a.0 a.1 in
      ap (λ (q : History PieceGiven). q.chronicle) a.2 ∙ is_left.ended.seat.asked ∙ ap n.asked is_left.number)
      (λ k f at. is.broker.feeds k f at)

  -- ---- whom the caller met

  abbrev of_servers : List Fronts
  of_servers = map (λ (a : ServerPart). a.fronts) server_parts

  abbrev of_controllers : List Fronts
  of_controllers = map (λ (a : ControllerPart). a.fronts) controller_parts

  abbrev last : List Fronts
  last = fronts_by others.repairer ∷ fronts_by others.broker.caller ∷ []

  fronts_of_servers : map fronts_by posting.servers.callers.items ≡ of_servers
  fronts_of_servers =
      are.servers.are.callers
      ∙ sym (map-map (λ (a : ServerPart). a.fronts) (λ (a : SeatNow). server_part a.acting) servers)

  fronts_of_controllers : map fronts_by posting.controllers.callers.items ≡ of_controllers
  fronts_of_controllers =
      are.controllers.are.callers
      ∙ sym (map-map (λ (a : ControllerPart). a.fronts) (λ (a : ControllerLeft). controller_part a.acts) controllers)

  in_order : map fronts_by (others_in posting others) ≡ of_servers ++ (of_controllers ++ last)
  in_order =
      let first : List (Caller R J) = posting.servers.callers.items in
      let second : List (Caller R J) = posting.controllers.callers.items in
      map-append fronts_by (first ++ second) (others.repairer ∷ others.broker.caller ∷ [])
      ∙ ap (λ (fs : List Fronts). fs ++ last) (map-append fronts_by first second)
      ∙ append_assoc (map fronts_by first) (map fronts_by second) last
      ∙ ap (λ (fs : List Fronts). fs ++ (map fronts_by second ++ last)) fronts_of_servers
      ∙ ap (λ (fs : List Fronts). of_servers ++ (fs ++ last)) fronts_of_controllers

  -- their numbers

  many_of_servers : length of_servers ≡ n.setup.servers
  many_of_servers =
      length-map server_parts (λ (a : ServerPart). a.fronts)
      ∙ length-map servers (λ (a : SeatNow). server_part a.acting)
      ∙ are.servers.many

  many_of_controllers : length of_controllers ≡ n.setup.controllers
  many_of_controllers =
      length-map controller_parts (λ (a : ControllerPart). a.fronts)
      ∙ length-map controllers (λ (a : ControllerLeft). controller_part a.acts)
      ∙ are.controllers.many

  of_server : (k : ℕ) (f : Fronts) → slice_get of_servers k ≡ Some f → AreOfCaller (1 + k) f
  of_server k f at =
      let x = unmapped (λ (a : ServerPart). a.fronts) server_parts k f at in
      let y = each_server k x.0 x.1 in
      subst (λ (g : Fronts). AreOfCaller (1 + k) g) (sym x.2)
      (subst (λ m. AreOfCaller (server_caller m) x.0.fronts) y.0 y.1.caller)

  of_controller : (k : ℕ) (f : Fronts) → slice_get of_controllers k ≡ Some f
      → AreOfCaller ((1 + length of_servers) + k) f
  of_controller k f at =
      let x = unmapped (λ (a : ControllerPart). a.fronts) controller_parts k f at in
      let y = each_controller k x.0 x.1 in
      let number : controller_caller n.setup x.0.number ≡ (1 + length of_servers) + k =
      omega (arith, y.0, many_of_servers) in
      subst (λ (g : Fronts). AreOfCaller ((1 + length of_servers) + k) g) (sym x.2)
      (subst (λ m. AreOfCaller m x.0.fronts) number y.1.caller)

  of_repairer : AreOfCaller (repairer_caller n.setup) (fronts_by others.repairer)
  of_repairer =
      subst (λ (f : Fronts). AreOfCaller (repairer_caller n.setup) f) is.repairer.has is.repairer.mends.part.caller

  of_broker : AreOfCaller (broker_caller n.setup) (fronts_by others.broker.caller)
  of_broker = subst (λ (f : Fronts). AreOfCaller (broker_caller n.setup) f) is.broker.is_fronts is.broker.is.caller

  of_last : AreOfCallersFrom ((1 + length of_servers) + length of_controllers) last
  of_last =
      let first : repairer_caller n.setup ≡ (1 + length of_servers) + length of_controllers =
      omega (arith, many_of_servers, many_of_controllers) in
      let second : broker_caller n.setup ≡ ((1 + length of_servers) + length of_controllers) + 1 =
      omega (arith, many_of_servers, many_of_controllers) in (
        subst (λ m. AreOfCaller m (fronts_by others.repairer)) first of_repairer,
        (subst (λ m. AreOfCaller m (fronts_by others.broker.caller)) second of_broker, tt),
      )

  all_numbers : AreOfCallersFrom 1 (map fronts_by (others_in posting others))
  all_numbers =
      subst (λ (fs : List Fronts). AreOfCallersFrom 1 fs) (sym in_order)
      (callers_then 1 of_servers (of_controllers ++ last) (callers_from 1 of_servers of_server)
      (callers_then (1 + length of_servers) of_controllers last
      (callers_from (1 + length of_servers) of_controllers of_controller) of_last))

  -- ---- all of it

  module _ (callers : ℕ) (journal : Bool) (joined : Joined R J)
      (put : IsPutTogether s callers journal posting others joined) where
    abbrev new : Fronts
    new = fronts_by joined.caller

    abbrev met_ones : List Fronts
    met_ones = map fronts_by (others_in posting others)

    has_numbers : HasFirst (callers_of n.setup) new
    has_numbers =
        let many : length met_ones ≡ length of_servers + (length of_controllers + 2) =
        ap length in_order
        ∙ length-append of_servers (of_controllers ++ last)
        ∙ ap (λ m. length of_servers + m) (length-append of_controllers last) in
        let all : 1 + length met_ones ≡ callers_of n.setup =
        omega (arith, many, many_of_servers, many_of_controllers) in
        subst (λ m. HasFirst m new) all
        (first_told (1 + length met_ones) put.met.met new put.met.told
        (numbers_all 1 (fronts_by others.producer) put.met.met met_ones put.met.meets
        (first_alone (fronts_by others.producer) is.producer.caller) all_numbers))

    abbrev ended : Ended
    ended = record {
      servers = server_parts;
      controllers = controller_parts;
      repairer = fronts_by others.repairer;
      producer = fronts_by others.producer;
      broker = is.broker.part;
      met = new;
    }

    given : GivesMore (given_by is.broker.part.fed) (gave_by server_parts)
    given =
        subst (λ (fed : List (Known PieceGiven)). GivesMore (given_by fed) (gave_by server_parts))
        (sym is.broker.is_fed)
        (gave_more others.broker.feeds.items server_parts
        (λ k f at.
        let p = given_at posting.servers.own.items others.broker.feeds.items put.given k f at in
        let a = server_at k p.0 p.1 in
        let is_left = are.servers.each k a.0 a.1 in (
          server_part a.0.acting,
          mapped (λ (b : SeatNow). server_part b.acting) servers k a.0 a.1,
          subst (λ (gs : List PieceGiven). IsFront (whats f.seen) gs)
              (ap (λ (q : History PieceGiven). whats q.log) a.2 ∙ is_left.ended.seat.gave)
              (whats_front f.seen p.0.log p.2),
        )))

    all_fronts : fronts_of ended ≡ fronts_by others.producer ∷ met_ones
    all_fronts =
        ap (λ (f : Fronts). fronts_by others.producer
        ∷ (of_servers ++ (of_controllers ++ fronts_by others.repairer ∷ f ∷ []))) is.broker.is_fronts
        ∙ ap (λ (fs : List Fronts). fronts_by others.producer ∷ fs) (sym in_order)

    has_met : All (HasMet new) (fronts_of ended)
    has_met =
        let own : Fronts = fronts_by others.producer in
        let alone : All (HasMet own) (own ∷ []) =
        All-push (HasMet own) [] own (λ k d lt. absurd (omega (arith, lt))) (met_itself own) in
        All-same (HasMet new) (fronts_of ended) (own ∷ met_ones) all_fronts
        (told_more put.met.met new (own ∷ met_ones) put.met.told
        (met_all own put.met.met (own ∷ []) met_ones put.met.meets alone))

    module _ (starts : starting_of n.setup ≡ s) (many : callers ≡ callers_of n.setup)
        (few : length n.rows < 2 ^ 63) where
      is_ended : IsEnded n ended
      is_ended = record {
        servers = length-map servers (λ (a : SeatNow). server_part a.acting) ∙ are.servers.many;
        each_server = each_server;
        controllers = length-map controllers (λ (a : ControllerLeft). controller_part a.acts) ∙ are.controllers.many;
        each_controller = each_controller;
        repairer = subst (IsRepairerPart n) is.repairer.has is.repairer.mends.part;
        producer = is.producer;
        broker = is.broker.is;
        met = has_met;
        ground = told_ground n s callers new starts many put.ground;
        linked =
            linked n s servers controllers are.servers.each are.controllers.each posting.servers.links.items
            posting.controllers.links.items are.servers.are.links are.controllers.are.links put.shows.of_servers
            put.shows.of_controllers put.shows.back put.shows.there ended refl refl;
        given = given;
        few = few;
      }

      has_all : HasJoined n s journal
          (joined_now (joined_as joined.caller put.shown others.broker.mids others.broker.answers))
      has_all = record {
        servers = servers;
        each_server = are.servers.each;
        controllers = controllers;
        each_controller = are.controllers.each;
        repairer = is.repairer.acts;
        mends = is.repairer.mends;
        ended = ended;
        is = is_ended;
        of_servers = refl;
        of_controllers = refl;
        of_repairer = sym is.repairer.has;
        asks = fronts_by others.broker.caller;
        fed = others.broker.feeds.items;
        broker = is.broker;
        of_broker = refl;
        met = refl;
        numbers = has_numbers;
        heard =
            heard_shown n journal controllers posting.controllers.own.items put.shown.heard are.controllers.each
            are.controllers.are.own put.shows.heard;
        to_controllers =
            queues_between server_had servers posting.servers.links.items controller_had controllers
            posting.controllers.links.items put.shows.of_controllers put.shown.to_controllers are.servers.are.links
            are.controllers.are.links ends_there ends_back put.shows.there put.shows.to_controllers;
        to_servers =
            queues_between controller_had controllers posting.controllers.links.items server_had servers
            posting.servers.links.items put.shows.of_servers put.shown.to_servers are.controllers.are.links
            are.servers.are.links ends_back ends_there put.shows.back put.shows.to_servers;
      }

      pub has_joined : HasJoined n s journal (joined_now joined)
      has_joined = subst (λ (j : Joined R J). HasJoined n s journal (joined_now j)) (sym put.is) has_all
