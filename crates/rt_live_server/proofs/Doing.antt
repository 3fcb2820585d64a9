-- Each thing that a server does keeps what it can say by itself.
use Rattle.std.proofs.Common.{◌≡◌, ◌∙◌, ◌<◌, ap, sym, subst, refl, ℕ, Bool, true, false, List, [], ◌∷◌, ◌++◌, All, length, Option, Some, None, Result, Ok, Err, IfSome}
use Rattle.std.specs.Prelude.{is_ok, slice_get, ◌≤◌}
use Rattle.std.proofs.lemmas.Bool.{false≢true}
use Rattle.std.proofs.lemmas.List.Elements.{All-append, All-cons, All-nil, All-same}
use Rattle.rt_base.specs.declared.numbers.Instance.{Instance}
use Rattle.rt_base.specs.declared.numbers.Moment.{Moment}
use Rattle.rt_base.specs.declared.numbers.Offset.{Offset}
use Rattle.rt_base.specs.declared.numbers.Partition.{Partition}
use Rattle.rt_base.specs.declared.numbers.Sequence.{Sequence}
use Rattle.rt_broker.specs.declared.piece_given.PieceGiven.{PieceGiven}
use Rattle.rt_broker.specs.declared.piece_got.PieceGot.{PieceGot}
use Rattle.rt_broker.specs.declared.piece_got.PieceGot.TheVariants as got
use Rattle.rt_deep.specs.declared.deep_put.DeepPut.{DeepPut}
use Rattle.rt_deep.specs.Meaning.{Own as DeepOwn}
use Rattle.rt_entry.specs.Calls.{Comes, Step, answered_as}
use Rattle.rt_entry.specs.declared.refused.ServerRefused.{ServerRefused}
use Rattle.rt_entry.specs.declared.refused.ServerRefused.TheVariants.{NotDue, StoreFault, BadFile, Memory}
use Rattle.rt_front.specs.Histories.{Known}
use Rattle.rt_ground.specs.DeepCalls as deep_ground
use Rattle.rt_ground.specs.StoreCalls.{own_by, seen_by, shared_meaning}
use Rattle.rt_ground.specs.StreamCalls as stream_ground
use Rattle.rt_ground.specs.declared.appended.Appended.{Appended}
use Rattle.rt_link.specs.declared.envelope.Envelope.{Envelope}
use Rattle.rt_lists.specs.Members.{Has, IsFront}
use Rattle.rt_lists.proofs.Members.{Has-push, Has-same, front_same}
use Rattle.rt_live_names.specs.Fronts.{Fronts, own_writes}
use Rattle.rt_live_names.specs.Names.{Names}
use Rattle.rt_live_names.specs.Quiet.{AreUndone}
use Rattle.rt_live_names.specs.ServerPart.{IsGivenOver, IsGotRight}
use Rattle.rt_live_names.specs.Showed.{DeepShowsMore, ShowsMore, StreamShowsMore, deep_shown_by, shown_by, stream_shown_by}
use Rattle.rt_model.specs.Lawful.{IsLawfulHistory, bump}
use Rattle.rt_model.specs.Metadata.{IsDone}
use Rattle.rt_model.specs.Starting.{Starting}
use Rattle.rt_model.specs.declared.node.Seen.{Seen}
use Rattle.rt_model.specs.declared.piece.Piece.{Piece}
use Rattle.rt_model.specs.declared.query.Query.{Query}
use Rattle.rt_model.specs.declared.replica_state.ReplicaState.{ReplicaState}
use Rattle.rt_model.specs.declared.reply.Reply.{Reply}
use Rattle.rt_model.specs.declared.request.Request.{Request}
use Rattle.rt_past.specs.Past.{with_request}
use Rattle.rt_replica.specs.Own.{IsOwnRequest}
use Rattle.rt_consumer.specs.Requests.{Requests}
use Rattle.rt_consumer.specs.declared.consumer.Consumer.{Consumer}
use Rattle.rt_consumer.specs.declared.refused.ReplicaRefused.{ReplicaRefused}
use Rattle.rt_consumer.specs.declared.refused.ReplicaRefused.TheVariants as replica
use Rattle.rt_model.specs.declared.setup.Setup.{Setup}
use Rattle.rt_msgs.specs.Numbered.{Numbered}
use Rattle.rt_server.specs.Calls.{Asks, Forces, InTable, Restarts, Seals, SeesIdeal, Takes, ThroughAt, Transits, answered_by, crashed, replied_in, restarted_in}
use Rattle.rt_server.specs.Download.{Downloads}
use Rattle.rt_server.specs.Lasting.{IsEmpty}
use Rattle.rt_server.specs.Own.{IsOwnServer}
use Rattle.rt_server.specs.Table.{Segments, ServerState, replica_of}
use Rattle.rt_server.proofs.Giving.{gives_right}
use Rattle.rt_server.proofs.OwnAsks.{asks_own}
use Rattle.rt_server.proofs.OwnCalls.{crashed_own, forces_kept, replies_kept, restarts_own, seals_kept, sees_own, takes_own}
use Rattle.rt_server.proofs.OwnDownloads.{downloads_own}
use Rattle.rt_server.proofs.OwnGrows.{own_server_grows}
use Rattle.rt_server.proofs.OwnTransits.{transits_own}
use Rattle.rt_server.proofs.SeesLawfully.{sees_keeps, transits_keeps}
use Rattle.rt_server.proofs.Unchanged.{asks_stay}
use Rattle.rt_store.specs.Meaning.{Own}
use Rattle.rt_store.proofs.Owning.{with_own}
use Rattle.rt_store.proofs.Seeing.{write_grows, write_lawful}
use Rattle.rt_stream.specs.Feed.{Measures}
use Rattle.rt_stream.specs.declared.feed.FeedRefused.{FeedRefused}
use Rattle.rt_stream.proofs.Growth.{log_same}
use Rattle.rt_live_server.specs.Acting.{ActingNow, IsActing}
use Rattle.rt_live_server.specs.Did.{replies_in, replies_of, requests_in, requests_of}
use Rattle.rt_live_server.specs.Steps.{GivesBy, PassesBy}
use Rattle.rt_live_server.specs.declared.did.ServerDid.{ServerDid}
use Rattle.rt_live_server.specs.declared.did.ServerDid.TheVariants.{Took, Passed, Saw, Moved, Loaded, Measured, Consumed, Forced, Built, Asked, Gave, Crashed, Restarted}
use Rattle.rt_live_server.proofs.Acts.{OwnsAs, SeesOn, acts, view_at}
use Rattle.rt_live_server.proofs.Gathering.{gathered_then}
use Rattle.rt_live_server.proofs.Growing.{asked_within, reply_sent, request_sent}
use Rattle.rt_live_server.proofs.Showing.{DeepKeeps, FeedKeeps, bumps_undone, deep_own_same, downloads_keep, sees_same, shows_files, shows_messages, shows_read, shows_written, takes_keep, transits_same}
use Rattle.rt_live_server.proofs.Stepping.{over_deep, over_store, over_stream, with_deep, with_store, with_stream}

-- ---- what the fronts see more

store_same : (s : Starting) (front : Known Seen) → ShowsMore (shown_by s front) (shown_by s front)
store_same s front = shows_read s front front (front_same (seen_by s front)) refl

deep_same : (front : Known DeepPut) → DeepShowsMore (deep_shown_by front) (deep_shown_by front)
deep_same front = record { seen = front_same (deep_shown_by front).seen; numbers = refl; files = front_same (deep_ground.own_by front).files }

stream_same : (n : ℕ) (front : Known Appended) → StreamShowsMore (stream_shown_by n front) (stream_shown_by n front)
stream_same n front = record { seen = log_same (stream_ground.seen_by n front); own = refl }

no_more : (s : Starting) (f : Fronts) → SeesOn s f f
no_more s f = record {
  more = record { store = store_same s f.store; deep = deep_same f.deep; stream = stream_same s.partitions f.stream };
  lawful = λ l. l;
  once = λ o. o;
  undone = λ u. u;
  puts = refl;
}

store_more : (s : Starting) (f : Fronts) (store : Known Seen) → ShowsMore (shown_by s f.store) (shown_by s store)
    → (IsLawfulHistory s (seen_by s f.store) → IsLawfulHistory s (seen_by s store)) → (AreUndone (own_writes f) → AreUndone (own_writes (with_store f store)))
    → SeesOn s f (with_store f store)
store_more s f store more lawful undone = record {
  more = record { store = more; deep = deep_same f.deep; stream = stream_same s.partitions f.stream };
  lawful = lawful;
  once = λ o. o;
  undone = undone;
  puts = refl;
}

read_more : (s : Starting) (f : Fronts) (store : Known Seen) → IsFront (seen_by s f.store) (seen_by s store)
    → (IsLawfulHistory s (seen_by s f.store) → IsLawfulHistory s (seen_by s store)) → own_by store ≡ own_by f.store → SeesOn s f (with_store f store)
read_more s f store front lawful own =
    store_more s f store (shows_read s f.store store front own) lawful (λ u. subst AreUndone (sym (ap (λ (o : Own). o.writes) own)) u)

deep_more : (s : Starting) (f : Fronts) (deep : Known DeepPut) → DeepKeeps (deep_ground.shared_meaning f.deep) (deep_ground.shared_meaning deep) → SeesOn s f (with_deep f deep)
deep_more s f deep k = record {
  more = record { store = store_same s f.store; deep = shows_files f.deep deep k; stream = stream_same s.partitions f.stream };
  lawful = λ l. l;
  once = k.once;
  undone = λ u. u;
  puts = ap (λ (o : DeepOwn). o.files) (deep_own_same f.deep deep k);
}

stream_more : (s : Starting) (f : Fronts) (stream : Known Appended) → FeedKeeps (stream_ground.shared_meaning s.partitions f.stream) (stream_ground.shared_meaning s.partitions stream)
    → SeesOn s f (with_stream f stream)
stream_more s f stream k = record {
  more = record { store = store_same s f.store; deep = deep_same f.deep; stream = shows_messages s.partitions f.stream stream k };
  lawful = λ l. l;
  once = λ o. o;
  undone = λ u. u;
  puts = refl;
}

-- ---- what becomes of one that acts

abbrev pub with_did : ActingNow → List ServerDid → ActingNow
with_did a did = record a { did = did }

abbrev pub with_server : ActingNow → ServerState → List ServerDid → ActingNow
with_server a server did = record a { server = server; did = did }

abbrev pub over_fronts : ActingNow → ServerState → Fronts → List ServerDid → ActingNow
over_fronts a server f did = record a { server = server; fronts = f; did = did }

stays_up : {X : Type 0} (up : Bool) → up ≡ true → up ≡ false → X
stays_up up is isnt = absurd (false≢true (sym isnt ∙ is))

abbrev state : Setup → Numbered → Segments → ServerState
state setup numbers table = record { setup = setup; numbers = numbers; table = table }

same_state : (a b : ServerState) → a.setup ≡ b.setup → a.numbers ≡ b.numbers → a.table ≡ b.table → a ≡ b
same_state a b of numbers table =
    ap (λ x. state x a.numbers a.table) of ∙ ap (λ x. state b.setup x a.table) numbers ∙ ap (λ x. state b.setup b.numbers x) table

-- ---- what a restart leaves

abbrev instance_in : ServerState → Step ServerState ℕ → Instance
instance_in old (Ok p) = p.1.numbers.instance
instance_in old (Err e) = old.numbers.instance

anew_instance : (old : ServerState) (answer : Result ℕ ServerRefused) → instance_in old (restarted_in old answer) ≡ old.numbers.instance
anew_instance old (Ok version) = refl
anew_instance old (Err e) = refl

same_instance : (old new : ServerState) (answer : Result ℕ ServerRefused) (result : Result ℕ ServerRefused) → Comes (restarted_in old answer) old new result
    → new.numbers.instance ≡ old.numbers.instance
same_instance old new answer (Ok x) h = sym (ap (instance_in old) h) ∙ anew_instance old answer
same_instance old new answer (Err Memory) h = ap (λ (x : ServerState). x.numbers.instance) h.1
same_instance old new answer (Err NotDue) h = ap (λ (x : ServerState). x.numbers.instance) h.1
same_instance old new answer (Err StoreFault) h = ap (λ (x : ServerState). x.numbers.instance) h.1
same_instance old new answer (Err (BadFile wanted found)) h = ap (λ (x : ServerState). x.numbers.instance) h.1

-- a refused restart leaves an empty server
stays_empty : (old new : ServerState) (answer : Result ℕ ServerRefused) (result : Result ℕ ServerRefused) → Comes (restarted_in old answer) old new result
    → IsEmpty old → is_ok result ≡ false → IsEmpty new
stays_empty old new answer (Ok x) h empty isnt = absurd (false≢true (sym isnt))
stays_empty old new answer (Err Memory) h empty isnt = ap (λ (x : ServerState). x.table) h.1 ∙ empty
stays_empty old new answer (Err NotDue) h empty isnt = ap (λ (x : ServerState). x.table) h.1 ∙ empty
stays_empty old new answer (Err StoreFault) h empty isnt = ap (λ (x : ServerState). x.table) h.1 ∙ empty
stays_empty old new answer (Err (BadFile wanted found)) h empty isnt = ap (λ (x : ServerState). x.table) h.1 ∙ empty

abbrev some_own : Own → Option Own
some_own o = Some o

same_own : (a b : Own) → some_own a ≡ some_own b → a ≡ b
same_own a b e = cc

wrote_more : (store : Known Seen) (own : Own) (more : List Seen) → some_own (own_by store) ≡ with_own own more → (own_by store).writes ≡ own.writes ++ more
wrote_more store own more e = ap (λ (o : Own). o.writes) (same_own (own_by store) (record { numbers = own.numbers; writes = own.writes ++ more }) e)

-- the caller's own, with what commits nothing
more_undone : (old new more : List Seen) (own : Own) (is : old ≡ own.writes) → new ≡ own.writes ++ more → AreUndone old → AreUndone more → AreUndone new
more_undone old new more own is e u v =
    All-same (λ w. IsDone w.node → ⊥) new (old ++ more) (e ∙ ap (λ (ws : List Seen). ws ++ more) (sym is)) (All-append (λ w. IsDone w.node → ⊥) old more u v)

-- ---- a request that wasn't made

abbrev refuse : ServerRefused → Result Request ServerRefused
refuse e = Err e

refused_answer : (answer : Result Request ReplicaRefused) (e : ServerRefused) → refuse e ≡ answered_as answer → (x : ReplicaRefused) × (answer ≡ Err x)
refused_answer (Ok x) e is = absurd (cc)
refused_answer (Err x) e is = (x, refl)

none_drawn : (r next : Consumer) (before after : Numbered) (x : ReplicaRefused) → Requests r next before after (Err x) → after ≡ before
none_drawn r next before after replica.NotDue h = h.2
none_drawn r next before after replica.Memory h = h.2

through_none : (o : Option Consumer) (before after : Numbered) (old new : Segments) (p : Partition) (q : Sequence) (e : ServerRefused)
    → ThroughAt o (after ≡ before) (λ r next answer. Requests r next before after answer) old new p q (Err e) → after ≡ before
through_none None before after old new p q e h = h.0
through_none (Some r) before after old new p q e h =
    let x = refused_answer h.1 e h.3 in
    none_drawn r h.0 before after x.0 (subst (Requests r h.0 before after) x.1 h.2)

-- it changes nothing
asks_refused : (old new : ServerState) (p : Partition) (q : Sequence) (e : ServerRefused) → new.setup ≡ old.setup
    → Asks old.numbers new.numbers old.table new.table p q (Err e) → new ≡ old
asks_refused old new p q e of h =
    let table = asks_stay old.numbers new.numbers old.table new.table p q e h in
    let numbers = through_none (replica_of old.table p q) old.numbers new.numbers old.table new.table p q e h in
    same_state new old of numbers table

abbrev pub Owns : Names → ActingNow → ServerState → Type 0
Owns n new server = IsOwnServer n.setup (view_at n new) server

module _ (n : Names) (s : Starting) (a : ActingNow) (k : IsActing n s a) (did : List ServerDid) where
  shown_store : (new : ActingNow) → (view_at n new).history ≡ seen_by s new.fronts.store
  shown_store new = ap (λ (x : Starting). seen_by x new.fronts.store) k.starting

  shown_stream : (new : ActingNow) → (view_at n new).log ≡ stream_ground.seen_by s.partitions new.fronts.stream
  shown_stream new = ap (λ (x : Starting). stream_ground.seen_by x.partitions new.fronts.stream) k.starting

  -- what asks and gives nothing
  no_asks : (new : ActingNow) → Owns n new a.server → All (IsOwnRequest n.setup (view_at n new)) []
  no_asks new own = All-nil (IsOwnRequest n.setup (view_at n new))

  no_gives : (new : ActingNow) → Owns n new a.server → All (IsGivenOver n (view_at n new)) []
  no_gives new own = All-nil (IsGivenOver n (view_at n new))

  -- ---- over the store

  module _ (store : Known Seen) (server : ServerState) (told : ℕ) (t : told ≡ length store.seen) where
    abbrev on_store : ActingNow
    on_store = over_fronts a server (with_store a.fronts store) did

    pub saw : (result : Result ℕ ServerRefused) → a.up ≡ true → did ≡ a.did ++ Saw told result ∷ []
        → SeesIdeal (shared_meaning s a.fronts.store) (shared_meaning s store) a.server server result → IsActing n s on_store
    saw result up noted h =
        let new = on_store in
        let before = shared_meaning s a.fronts.store in
        let after = shared_meaning s store in
        let keeps = sees_keeps s before after a.server server result h in
        let sees = read_more s a.fronts store keeps.grows keeps.lawful (sees_same s a.fronts.store store a.server server result h) in
        acts n s a new (Saw told result) k
        (record {
          number = refl;
          did = noted;
          sees = sees;
          own = λ view own.
              let kept = sees_own n.setup (view_at n new) before after a.server server result (shown_store new) own h in
              (kept.0, ap (λ (x : Numbered). x.instance) kept.1);
          asks = no_asks new;
          gives = no_gives new;
          step = ((up, up), over_store s a.fronts store told (λ before after. SeesIdeal before after a.server server result) t sees.more.store h);
          down = λ empty isnt. stays_up a.up up isnt;
        })

    pub moved : (p : Partition) (q : Sequence) (now : Moment) (result : Result ReplicaState ServerRefused) → a.up ≡ true → p.0 < n.setup.partitions
        → did ≡ a.did ++ Moved p q now told result ∷ []
        → Transits (shared_meaning s a.fronts.store) (shared_meaning s store) a.server server p q now result → IsActing n s on_store
    moved p q now result up within noted h =
        let new = on_store in
        let before = shared_meaning s a.fronts.store in
        let after = shared_meaning s store in
        let keeps = transits_keeps s before after a.server server p q now result h in
        let sees = read_more s a.fronts store keeps.grows keeps.lawful (transits_same s a.fronts.store store a.server server p q now result h) in
        acts n s a new (Moved p q now told result) k
        (record {
          number = refl;
          did = noted;
          sees = sees;
          own = λ view own.
              let kept = transits_own n.setup (view_at n new) before after a.server server p q now result (shown_store new) view (λ mode target. within) own h in
              (kept.0, ap (λ (x : Numbered). x.instance) kept.1);
          asks = no_asks new;
          gives = no_gives new;
          step = ((up, up), over_store s a.fronts store told (λ before after. Transits before after a.server server p q now result) t sees.more.store h);
          down = λ empty isnt. stays_up a.up up isnt;
        })

  -- ---- over the deep store

  pub loaded : (deep : Known DeepPut) (server : ServerState) (told : ℕ) → told ≡ length deep.seen → (p : Partition) (q : Sequence) (result : Result ℕ ServerRefused)
      → a.up ≡ true → did ≡ a.did ++ Loaded p q told result ∷ []
      → Downloads (deep_ground.shared_meaning a.fronts.deep) (deep_ground.shared_meaning deep) a.server.setup.schema a.server.table server.table p q result
      → InTable a.server server → IsActing n s (over_fronts a server (with_deep a.fronts deep) did)
  loaded deep server told t p q result up noted h only =
      let new = over_fronts a server (with_deep a.fronts deep) did in
      let before = deep_ground.shared_meaning a.fronts.deep in
      let after = deep_ground.shared_meaning deep in
      let sees = deep_more s a.fronts deep (downloads_keep before after a.server.setup.schema a.server.table server.table p q result h) in
      acts n s a new (Loaded p q told result) k
      (record {
        number = refl;
        did = noted;
        sees = sees;
        own = λ view own. (
          downloads_own n.setup (view_at n new) before after a.server server p q refl own result h only,
          ap (λ (x : Numbered). x.instance) only.1,
        );
        asks = no_asks new;
        gives = no_gives new;
        step = (
          (up, up),
          over_deep s a.fronts deep told (λ before after. Downloads before after a.server.setup.schema a.server.table server.table p q result) t sees.more.deep k.part.puts
              (sees.puts ∙ k.part.puts) h,
          only,
        );
        down = λ empty isnt. stays_up a.up up isnt;
      })

  -- ---- over the stream

  pub measured : (stream : Known Appended) (told : ℕ) → told ≡ length stream.seen → (p : Partition) (result : Result Offset FeedRefused) → a.up ≡ true
      → did ≡ a.did ++ Measured p told result ∷ []
      → Measures (stream_ground.shared_meaning s.partitions a.fronts.stream) (stream_ground.shared_meaning s.partitions stream) p result
      → IsActing n s (over_fronts a a.server (with_stream a.fronts stream) did)
  measured stream told t p result up noted h =
      let new = over_fronts a a.server (with_stream a.fronts stream) did in
      let sees = stream_more s a.fronts stream (record { grows = h.grows; own = h.own }) in
      acts n s a new (Measured p told result) k
      (record {
        number = refl;
        did = noted;
        sees = sees;
        own = λ view own. (own, refl);
        asks = no_asks new;
        gives = no_gives new;
        step = ((up, up), refl, over_stream s a.fronts stream told (λ before after. Measures before after p result) t sees.more.stream h);
        down = λ empty isnt. stays_up a.up up isnt;
      })

  pub consumed : (stream : Known Appended) (server : ServerState) (told : ℕ) → told ≡ length stream.seen
      → (p : Partition) (q : Sequence) (max : ℕ) (now : Moment) (result : Result (Unit {0}) ServerRefused) → a.up ≡ true → did ≡ a.did ++ Consumed p q max now told result ∷ []
      → Takes (stream_ground.shared_meaning s.partitions a.fronts.stream) (stream_ground.shared_meaning s.partitions stream) a.server.table server.table p q max now result
      → InTable a.server server → IsActing n s (over_fronts a server (with_stream a.fronts stream) did)
  consumed stream server told t p q max now result up noted h only =
      let new = over_fronts a server (with_stream a.fronts stream) did in
      let before = stream_ground.shared_meaning s.partitions a.fronts.stream in
      let after = stream_ground.shared_meaning s.partitions stream in
      let sees = stream_more s a.fronts stream (takes_keep before after a.server.table server.table p q max now result h) in
      acts n s a new (Consumed p q max now told result) k
      (record {
        number = refl;
        did = noted;
        sees = sees;
        own = λ view own. (
          takes_own n.setup (view_at n new) a.server server p q only own before after max now result (shown_stream new) h,
          ap (λ (x : Numbered). x.instance) only.1,
        );
        asks = no_asks new;
        gives = no_gives new;
        step = (
          (up, up),
          over_stream s a.fronts stream told (λ before after. Takes before after a.server.table server.table p q max now result) t sees.more.stream h,
          only,
        );
        down = λ empty isnt. stays_up a.up up isnt;
      })

  -- ---- of the server alone

  module _ (server : ServerState) where
    abbrev after_it : ActingNow
    after_it = with_server a server did

    pub forced : (p : Partition) (q : Sequence) (result : Result (Unit {0}) ServerRefused) → a.up ≡ true → did ≡ a.did ++ Forced p q result ∷ []
        → Forces a.server.table server.table p q result → InTable a.server server → IsActing n s after_it
    forced p q result up noted h only =
        let new = after_it in
        acts n s a new (Forced p q result) k
        (record {
          number = refl;
          did = noted;
          sees = no_more s a.fronts;
          own = λ view own. (forces_kept n.setup (view_at n new) a.server server p q only own result h, ap (λ (x : Numbered). x.instance) only.1);
          asks = no_asks new;
          gives = no_gives new;
          step = (((up, up), refl), h, only);
          down = λ empty isnt. stays_up a.up up isnt;
        })

    pub built : (p : Partition) (q : Sequence) (result : Result (Unit {0}) ServerRefused) → a.up ≡ true → did ≡ a.did ++ Built p q result ∷ []
        → Seals a.server.table server.table p q result → InTable a.server server → IsActing n s after_it
    built p q result up noted h only =
        let new = after_it in
        acts n s a new (Built p q result) k
        (record {
          number = refl;
          did = noted;
          sees = no_more s a.fronts;
          own = λ view own. (seals_kept n.setup (view_at n new) a.server server p q only own result h, ap (λ (x : Numbered). x.instance) only.1);
          asks = no_asks new;
          gives = no_gives new;
          step = (((up, up), refl), h, only);
          down = λ empty isnt. stays_up a.up up isnt;
        })

    -- a reply is taken
    pub took : (reply : Reply) (result : Bool) → a.up ≡ true → did ≡ a.did ++ Took reply ∷ []
        → (result, server.table) ≡ replied_in a.server.table reply → InTable a.server server → IsActing n s after_it
    took reply result up noted h only =
        let new = after_it in
        let has : Has (replies_of did) reply =
        Has-same (replies_of a.did ++ reply ∷ []) (replies_of did) reply (sym (gathered_then replies_in a.did did (Took reply) noted)) (Has-push (replies_of a.did) reply) in
        acts n s a new (Took reply) k
        (record {
          number = refl;
          did = noted;
          sees = no_more s a.fronts;
          own = λ view own. (
            replies_kept n.setup (view_at n new) a.server server reply result only own (reply_sent (requests_of did) (replies_of did) reply has) h,
            ap (λ (x : Numbered). x.instance) only.1,
          );
          asks = no_asks new;
          gives = no_gives new;
          step = (((up, up), refl), ap (λ (x : Bool × Segments). x.1) h, only);
          down = λ empty isnt. stays_up a.up up isnt;
        })

    -- a request is made, or none
    asked_by : (p : Partition) (q : Sequence) (result : Result Request ServerRefused) → did ≡ a.did ++ Asked p q result ∷ [] → server.setup ≡ a.server.setup
        → Asks a.server.numbers server.numbers a.server.table server.table p q result → Owns n after_it a.server
        → OwnsAs n.setup (view_at n after_it) a.server server × All (IsOwnRequest n.setup (view_at n after_it)) (requests_in (Asked p q result))
    asked_by p q (Ok request) noted of h own =
        let new = after_it in
        let view = view_at n new in
        let asked = asks_own n.setup view a.server server p q request own of h in
        let has : Has (requests_of did) request =
        Has-same (requests_of a.did ++ request ∷ []) (requests_of did) request (sym (gathered_then requests_in a.did did (Asked p q (Ok request)) noted)) (Has-push (requests_of a.did) request) in
        let within = asked_within view request (request_sent (requests_of did) (replies_of did) request has) in (
          (
            own_server_grows n.setup (with_request view request) view within server asked.server,
            ap (λ (x : Numbered). x.instance) asked.numbers,
          ),
          All-cons (IsOwnRequest n.setup view) request [] asked.asked (All-nil (IsOwnRequest n.setup view)),
        )
    asked_by p q (Err e) noted of h own =
        let new = after_it in
        let same = asks_refused a.server server p q e of h in (
          (subst (IsOwnServer n.setup (view_at n new)) (sym same) own, ap (λ (x : ServerState). x.numbers.instance) same),
          All-nil (IsOwnRequest n.setup (view_at n new)),
        )

    pub asked : (p : Partition) (q : Sequence) (result : Result Request ServerRefused) → a.up ≡ true → did ≡ a.did ++ Asked p q result ∷ []
        → server.setup ≡ a.server.setup → Asks a.server.numbers server.numbers a.server.table server.table p q result → IsActing n s after_it
    asked p q result up noted of h =
        let new = after_it in
        acts n s a new (Asked p q result) k
        (record {
          number = refl;
          did = noted;
          sees = no_more s a.fronts;
          own = λ view own. (asked_by p q result noted of h own).0;
          asks = λ own. (asked_by p q result noted of h own).1;
          gives = no_gives new;
          step = (((up, up), refl), of, h);
          down = λ empty isnt. stays_up a.up up isnt;
        })

  -- an envelope is passed by
  pub passed : (envelope : Envelope) → PassesBy a.up envelope → did ≡ a.did ++ Passed envelope ∷ [] → IsActing n s (with_did a did)
  passed envelope by noted =
      let new = with_did a did in
      acts n s a new (Passed envelope) k
      (record {
        number = refl;
        did = noted;
        sees = no_more s a.fronts;
        own = λ view own. (own, refl);
        asks = no_asks new;
        gives = no_gives new;
        step = (refl, by);
        down = λ empty isnt. empty isnt;
      })

  -- ---- a piece is given

  got_right : (new : ActingNow) (up : Bool) (query : Query) (piece : Piece) (got : PieceGot) → IfSome piece.end (λ end. piece.start.0 ≤ end.0)
      → GivesBy up query a.server.table piece got → Owns n new a.server → IsGotRight n (view_at n new) query piece got
  got_right new true query piece (got.Served served) order h own = gives_right n.setup (view_at n new) a.server query piece served own order h
  got_right new true query piece got.NotServed order h own = tt
  got_right new true query piece got.Down order h own = absurd h
  got_right new false query piece (got.Served served) order h own = absurd h
  got_right new false query piece got.NotServed order h own = absurd h
  got_right new false query piece got.Down order h own = tt

  pub gave : (given : PieceGiven) (query : Query) → did ≡ a.did ++ Gave given ∷ [] → slice_get n.queries given.query ≡ Some query
      → IfSome given.piece.end (λ end. given.piece.start.0 ≤ end.0) → GivesBy a.up query a.server.table given.piece given.got → IsActing n s (with_did a did)
  gave given query noted at order h =
      let new = with_did a did in
      acts n s a new (Gave given) k
      (record {
        number = refl;
        did = noted;
        sees = no_more s a.fronts;
        own = λ view own. (own, refl);
        asks = no_asks new;
        gives = λ own.
            All-cons (IsGivenOver n (view_at n new)) given []
            (record { query = query; asked = at; right = got_right new a.up query given.piece given.got order h own })
            (All-nil (IsGivenOver n (view_at n new)));
        step = (refl, record { query = query; asked = at; gives = h });
        down = λ empty isnt. empty isnt;
      })

  -- ---- a crash, and a restart

  abbrev crashed_now : ActingNow
  crashed_now = record a { server = crashed a.server; up = false; did = did }

  crashed_of : did ≡ a.did ++ Crashed ∷ [] → IsActing n s crashed_now
  crashed_of noted =
      let new = crashed_now in
      acts n s a new Crashed k
      (record {
        number = refl;
        did = noted;
        sees = no_more s a.fronts;
        own = λ view own. (crashed_own n.setup (view_at n new) a.server own, refl);
        asks = no_asks new;
        gives = no_gives new;
        step = refl;
        down = λ empty isnt. refl;
      })

  pub crashes : (server : ServerState) → server ≡ crashed a.server → did ≡ a.did ++ Crashed ∷ [] → IsActing n s (record a { server = server; up = false; did = did })
  crashes server is noted = subst (λ (x : ServerState). IsActing n s (record a { server = x; up = false; did = did })) (sym is) (crashed_of noted)

  abbrev restarted_now : ServerState → Bool → Known Seen → ActingNow
  restarted_now server up store = record a { server = server; up = up; fronts = with_store a.fronts store; did = did }

  pub restarted : (store : Known Seen) (server : ServerState) (told : ℕ) (up : Bool) (result : Result ℕ ServerRefused) → told ≡ length store.seen
      → a.up ≡ false → up ≡ is_ok result → did ≡ a.did ++ Restarted told result ∷ []
      → Restarts (shared_meaning s a.fronts.store) (shared_meaning s store) a.server server result → IsActing n s (restarted_now server up store)
  restarted store server told up result t isnt is noted h =
      let new = restarted_now server up store in
      let before = shared_meaning s a.fronts.store in
      let after = shared_meaning s store in
      let i = a.server.numbers.instance in
      let more = bumps_undone s a.fronts.store store i h.0 h.1 in
      let grows = write_grows (λ w. w.version) before after (bump i) h.0 h.1 in
      let shows = shows_written s a.fronts.store store grows more.more more.own in
      let sees = store_more s a.fronts store shows
      (λ l. write_lawful (λ w. w.version) s before after (bump i) h.0 l tt h.1)
      (λ u. more_undone (own_writes a.fronts) (own_writes new.fronts) more.more (own_by a.fronts.store) refl (wrote_more store (own_by a.fronts.store) more.more more.own) u more.undone) in
      acts n s a new (Restarted told result) k
      (record {
        number = refl;
        did = noted;
        sees = sees;
        own = λ view own. (
          restarts_own n.setup (view_at n new) before after a.server server result (shown_store new) (k.down isnt) own h,
          same_instance a.server server (answered_by h.0) result h.2,
        );
        asks = no_asks new;
        gives = no_gives new;
        step = (isnt, is, over_store s a.fronts store told (λ before after. Restarts before after a.server server result) t shows h);
        down = λ empty off. stays_empty a.server server (answered_by h.0) result h.2 (empty isnt) (sym is ∙ off);
      })
