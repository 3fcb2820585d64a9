-- A server that acts does one thing more, and keeps all that it can say by itself.
use Rattle.std.proofs.Common.{◌≡◌, ◌∙◌, ap, sym, subst, refl, false, List, [], ◌∷◌, ◌++◌, All, map}
use Rattle.std.proofs.lemmas.List.Elements.{All-append, All-same, All-weaker}
use Rattle.rt_base.specs.declared.numbers.Instance.{Instance}
use Rattle.rt_deep.specs.Files.{AreOnce}
use Rattle.rt_ground.specs.Histories.{whats}
use Rattle.rt_ground.specs.StoreCalls.{seen_by}
use Rattle.rt_ground.specs.StreamCalls.{sent_to}
use Rattle.rt_ground.specs.declared.appended.Appended.{Appended}
use Rattle.rt_ground.proofs.Streams.{length_log}
use Rattle.rt_live_names.specs.Fronts.{AreOfCaller, Fronts, own_files, own_messages, own_writes, server_caller}
use Rattle.rt_live_names.specs.Names.{Names}
use Rattle.rt_live_names.specs.Quiet.{AreUndone}
use Rattle.rt_live_names.specs.Replays.{Replays}
use Rattle.rt_live_names.specs.ServerPart.{IsGivenOver, IsServerPart, server_view}
use Rattle.rt_live_names.proofs.Replaying.{replays_as, replays_more}
use Rattle.rt_model.specs.Lawful.{IsLawfulHistory}
use Rattle.rt_model.specs.Starting.{Starting}
use Rattle.rt_model.specs.declared.setup.Setup.{Setup}
use Rattle.rt_past.specs.Past.{Past}
use Rattle.rt_past.specs.View.{IsView, Within}
use Rattle.rt_replica.specs.Own.{IsOwnRequest}
use Rattle.rt_replica.proofs.KeepsOwn.{own_request_within}
use Rattle.rt_server.specs.Lasting.{IsEmpty}
use Rattle.rt_server.specs.Own.{IsOwnServer}
use Rattle.rt_server.specs.Table.{ServerState}
use Rattle.rt_server.proofs.OwnGrows.{own_server_grows}
use Rattle.rt_store.specs.Contents.{starting_of}
use Rattle.rt_stream.specs.Feed.{FeedOwn}
use Rattle.rt_live_server.specs.Acting.{ActingNow, IsActing, now_of, part_of}
use Rattle.rt_live_server.specs.Did.{given_in, given_of, replies_in, replies_of, requests_in, requests_of}
use Rattle.rt_live_server.specs.Steps.{ServerStep, first_now, sights}
use Rattle.rt_live_server.specs.declared.did.ServerDid.{ServerDid}
use Rattle.rt_live_server.proofs.Gathering.{gathered_front, gathered_then}
use Rattle.rt_live_server.proofs.Growing.{given_within, view_within}
use Rattle.rt_live_server.proofs.Stepping.{SightsMore, step_later}

abbrev pub view_at : Names → ActingNow → Past
view_at n a = server_view n (part_of a)

-- what the fronts saw more: nothing but what commits nothing is the caller's own
pub record SeesOn (s : Starting) (old new : Fronts) : Type 0 where
  pub more : SightsMore (sights s old) (sights s new)
  pub lawful : IsLawfulHistory s (seen_by s old.store) → IsLawfulHistory s (seen_by s new.store)
  pub once : AreOnce (whats old.deep.seen) → AreOnce (whats new.deep.seen)
  pub undone : AreUndone (own_writes old) → AreUndone (own_writes new)
  pub puts : own_files new ≡ own_files old

-- ---- what of its fronts a server says

no_messages : (own old : List Appended) → map sent_to own ≡ map sent_to old → old ≡ [] → own ≡ []
no_messages [] old e none = refl
no_messages (a ∷ more) [] e none = absurd (cc)
no_messages (a ∷ more) (b ∷ bs) e none = absurd (cc)

module _ (n : Names) (s : Starting) (is : starting_of n.setup ≡ s) (old new : ActingNow) (sees : SeesOn s old.fronts new.fronts) (number : new.number ≡ old.number) (k : IsServerPart n (part_of old)) where
  caller_kept : AreOfCaller (server_caller new.number) new.fronts
  caller_kept =
      let as_old = subst (λ i. AreOfCaller (server_caller i) old.fronts) (sym number) k.caller in
      record {
        store = sees.more.store.numbers ∙ as_old.store;
        deep = sees.more.deep.numbers ∙ as_old.deep;
        stream = ap (λ (o : FeedOwn). o.numbers) sees.more.stream.own ∙ as_old.stream;
      }

  appends_kept : own_messages new.fronts ≡ []
  appends_kept = no_messages (own_messages new.fronts) (own_messages old.fronts) (ap (λ (o : FeedOwn). o.messages) sees.more.stream.own) k.appends

  view_kept : IsView n.setup (view_at n new)
  view_kept =
      let lawful = sees.lawful (subst (λ (x : Starting). IsLawfulHistory x (seen_by x old.fronts.store)) is k.view.lawful) in
      record {
        partitions = length_log n.setup.partitions (whats new.fronts.stream.seen);
        lawful = subst (λ (x : Starting). IsLawfulHistory x (seen_by x new.fronts.store)) (sym is) lawful;
        once = sees.once k.view.once;
      }

-- ---- one thing more

-- what is a server's own, in the place of an earlier one
abbrev pub OwnsAs : Setup → Past → ServerState → ServerState → Type 0
OwnsAs setup view old new = IsOwnServer setup view new × (new.numbers.instance ≡ old.numbers.instance)

-- what one thing more changes, and what it owes
pub record DoesOne (n : Names) (s : Starting) (old new : ActingNow) (d : ServerDid) : Type 0 where
  pub number : new.number ≡ old.number
  pub did : new.did ≡ old.did ++ d ∷ []
  pub sees : SeesOn s old.fronts new.fronts
  pub own : IsView n.setup (view_at n new) → IsOwnServer n.setup (view_at n new) old.server → OwnsAs n.setup (view_at n new) old.server new.server
  pub asks : IsOwnServer n.setup (view_at n new) old.server → All (IsOwnRequest n.setup (view_at n new)) (requests_in d)
  pub gives : IsOwnServer n.setup (view_at n new) old.server → All (IsGivenOver n (view_at n new)) (given_in d)
  pub step : ServerStep n s (sights s new.fronts) (now_of s old) d (now_of s new)
  pub down : (old.up ≡ false → IsEmpty old.server) → new.up ≡ false → IsEmpty new.server

module _ (n : Names) (s : Starting) (old new : ActingNow) (d : ServerDid) (k : IsActing n s old) (does : DoesOne n s old new d) where
  within : Within (view_at n old) (view_at n new)
  within =
      view_within n s old.fronts new.fronts (requests_of old.did) (requests_of new.did) (replies_of old.did) (replies_of new.did) k.starting does.sees.more
      (gathered_front requests_in old.did new.did d does.did) (gathered_front replies_in old.did new.did d does.did)

  owned : IsOwnServer n.setup (view_at n new) old.server
  owned = own_server_grows n.setup (view_at n old) (view_at n new) within old.server k.part.own

  asked : All (IsOwnRequest n.setup (view_at n new)) (requests_of new.did)
  asked =
      let P = IsOwnRequest n.setup (view_at n new) in
      All-same P (requests_of new.did) (requests_of old.did ++ requests_in d) (gathered_then requests_in old.did new.did d does.did)
      (All-append P (requests_of old.did) (requests_in d)
      (All-weaker (IsOwnRequest n.setup (view_at n old)) P (own_request_within n.setup (view_at n old) (view_at n new) within) (requests_of old.did) k.part.asks)
      (does.asks owned))

  gave : All (IsGivenOver n (view_at n new)) (given_of new.did)
  gave =
      let P = IsGivenOver n (view_at n new) in
      All-same P (given_of new.did) (given_of old.did ++ given_in d) (gathered_then given_in old.did new.did d does.did)
      (All-append P (given_of old.did) (given_in d)
      (All-weaker (IsGivenOver n (view_at n old)) P (given_within n (view_at n old) (view_at n new) within) (given_of old.did) k.part.gives)
      (does.gives owned))

  part_kept : IsServerPart n (part_of new)
  part_kept =
      let view = view_kept n s k.starting old new does.sees does.number k.part in
      let own = does.own view owned in
      record {
        caller = caller_kept n s k.starting old new does.sees does.number k.part;
        instance = ap (λ (i : Instance). i.0) own.1 ∙ k.part.instance ∙ sym does.number;
        view = view;
        own = own.0;
        asks = asked;
        gives = gave;
        undone = does.sees.undone k.part.undone;
        puts = does.sees.puts ∙ k.part.puts;
        appends = appends_kept n s k.starting old new does.sees does.number k.part;
      }

  replays_kept : Replays (ServerStep n s (sights s new.fronts)) (first_now n.setup new.number) new.did (now_of s new)
  replays_kept =
      let step = ServerStep n s (sights s new.fronts) in
      let first = first_now n.setup old.number in
      let before : Replays step first old.did (now_of s old) =
      replays_as (ServerStep n s (sights s old.fronts)) step first (now_of s old) old.did (step_later n s (sights s old.fronts) (sights s new.fronts) does.sees.more) k.replays in
      subst (λ i. Replays step (first_now n.setup i) new.did (now_of s new)) (sym does.number)
      (subst (λ (ds : List ServerDid). Replays step first ds (now_of s new)) (sym does.did) (replays_more step first (now_of s old) (now_of s new) old.did d before does.step))

  pub acts : IsActing n s new
  acts = record { starting = k.starting; part = part_kept; replays = replays_kept; down = does.down k.down }
