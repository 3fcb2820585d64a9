-- The past of an ended cluster is sound: each view lies within it, each file is right, and each commit is stored.
use Rattle.std.proofs.Common.{◌≡◌, ◌⊎◌, ℕ, inl, inr, List, [], ◌∷◌, ◌++◌, map, Some, refl, sym, ap, ◌∙◌, subst}
use Rattle.std.proofs.lemmas.Option.{same_Some}
use Rattle.rt_base.specs.declared.header.Header.{Header}
use Rattle.rt_base.specs.declared.numbers.Offset.{Offset}
use Rattle.rt_base.specs.declared.numbers.Partition.{Partition}
use Rattle.rt_base.specs.declared.numbers.Sequence.{Sequence}
use Rattle.rt_base.specs.declared.range.Range.{Range}
use Rattle.rt_commit.specs.Own.{IsOwnNode, IsOwnStatus}
use Rattle.rt_deep.specs.declared.deep_put.DeepPut.{DeepPut}
use Rattle.rt_ground.specs.Histories.{whats}
use Rattle.rt_ground.proofs.Streams.{length_log}
use Rattle.rt_lists.specs.Members.{Has}
use Rattle.rt_lists.proofs.Members.{Has-append_cases, Has-append_left, Has-append_right, Has-map, map-Has}
use Rattle.rt_live_names.specs.ControllerPart.{ControllerPart, IsTaken, controller_view}
use Rattle.rt_live_names.specs.Fronts.{Fronts, messages, own_files, own_writes, viewed}
use Rattle.rt_live_names.specs.Names.{Names}
use Rattle.rt_live_names.specs.ServerPart.{ServerPart, server_view}
use Rattle.rt_live_names.proofs.Viewing.{view_grows}
use Rattle.rt_model.specs.Metadata.{IsDone, listed_write}
use Rattle.rt_model.specs.Starting.{starting_contents}
use Rattle.rt_model.specs.declared.asked.Asked.{Asked}
use Rattle.rt_model.specs.declared.commit.Commit.{Commit}
use Rattle.rt_model.specs.declared.node.Seen.{Seen}
use Rattle.rt_model.specs.declared.reply.Reply.{Reply}
use Rattle.rt_model.specs.declared.reply.ReplyStatus.{ReplyStatus}
use Rattle.rt_model.specs.declared.reply.ReplyStatus.TheVariants as status
use Rattle.rt_model.specs.declared.request.Request.{Request}
use Rattle.rt_model.specs.declared.request.RequestKind.{RequestKind}
use Rattle.rt_model.specs.declared.request.RequestKind.TheVariants as kind
use Rattle.rt_model.specs.declared.seg_meta.SeenMeta.{SeenMeta}
use Rattle.rt_model.specs.declared.sent.Sent.{Sent}
use Rattle.rt_model.specs.declared.sent.Sent.TheVariants as sent
use Rattle.rt_model.specs.declared.setup.Setup.{Setup}
use Rattle.rt_model.specs.declared.status.Status.{Status}
use Rattle.rt_model.specs.declared.status.Status.TheVariants.{Done}
use Rattle.rt_model.proofs.Starts.{start_undone}
use Rattle.rt_past.specs.Past.{Past}
use Rattle.rt_past.specs.Files.{IsRightFile, IsStored, header_by, header_in, header_named}
use Rattle.rt_past.specs.IsPast.{IsRightUpload}
use Rattle.rt_past.specs.Replies.{IsReply, IsStatus}
use Rattle.rt_past.specs.Segments.{WasDone}
use Rattle.rt_past.specs.View.{Carries, IsNamed, IsSound, IsView, Within}
use Rattle.rt_past.proofs.Growth.{named_grows, reply_within, right_file_within}
use Rattle.rt_past.proofs.Uploads.{found_file}
use Rattle.rt_past.proofs.Ways.{one_reply}
use Rattle.rt_replica.specs.Own.{IsOwnKind, IsOwnRequest}
use Rattle.rt_segment.specs.Spelling.{header_of}
use Rattle.rt_segment.proofs.FileLaws.{spelled_read}
use Rattle.rt_store.specs.Contents.{starting_of}
use Rattle.rt_live_end.specs.Ended.{Ended, IsEnded, fronts_of}
use Rattle.rt_live_end.specs.Right.{past_of, replies_of, requests_of}
use Rattle.rt_live_end.proofs.Callers.{controller_part, met_all, server_part}
use Rattle.rt_live_end.proofs.Members.{all_has, flat_has, has_flat}
use Rattle.rt_live_end.proofs.Owns.{commit_controllers, file_controllers}

-- ---- messages

messages_in : (qs more : List Request) (rs others : List Reply) → ((q : Request) → Has qs q → Has more q) → ((r : Reply) → Has rs r → Has others r)
    → (m : Sent) → Has (messages qs rs) m → Has (messages more others) m
messages_in qs more rs others requests replies m has = by_place (Has-append_cases (map sent.Request qs) (map sent.Reply rs) m has)
  where
    by_place : Has (map sent.Request qs) m ⊎ Has (map sent.Reply rs) m → Has (messages more others) m
    by_place (inl here) =
        let q = Has-map sent.Request qs m here in
        subst (Has (messages more others)) q.2
        (Has-append_left (map sent.Request more) (map sent.Reply others) (sent.Request q.0) (map-Has sent.Request more q.0 (requests q.0 q.1)))
    by_place (inr there) =
        let r = Has-map sent.Reply rs m there in
        subst (Has (messages more others)) r.2
        (Has-append_right (map sent.Request more) (map sent.Reply others) (sent.Reply r.0) (map-Has sent.Reply others r.0 (replies r.0 r.1)))

no_request : (q : Request) (r : Reply) → sent.Request q ≡ sent.Reply r → ⊥
no_request q r e = cc

-- a reply among them is one of the replies
reply_among : (qs : List Request) (rs : List Reply) (r : Reply) → Has (messages qs rs) (sent.Reply r) → Has rs r
reply_among qs rs r has = by_place (Has-append_cases (map sent.Request qs) (map sent.Reply rs) (sent.Reply r) has)
  where
    by_place : Has (map sent.Request qs) (sent.Reply r) ⊎ Has (map sent.Reply rs) (sent.Reply r) → Has rs r
    by_place (inl here) = let q = Has-map sent.Request qs (sent.Reply r) here in absurd (no_request q.0 r q.2)
    by_place (inr there) = let x = Has-map sent.Reply rs (sent.Reply r) there in subst (Has rs) (one_reply x.0 r x.2) x.1

-- ---- a file that a commit names

-- a right file with this header
record IsHeaded (setup : Setup) (past : Past) (h : Header) (p : Partition) (s : Sequence) (start end : Offset) (bytes : List ℕ) : Type 0 where
  right : IsRightFile setup past p s start end bytes
  header : header_of right.file.segment ≡ h

headed : (setup : Setup) (past : Past) (p : Partition) (s : Sequence) (start end : Offset) (bytes : List ℕ) (right : IsRightFile setup past p s start end bytes) (h : Header)
    → header_in bytes ≡ Some h → IsHeaded setup past h h.partition h.sequence h.range.start h.range.end bytes
headed setup past p s start end bytes right h e =
    let f = right.file in
    let read : header_in bytes ≡ Some (header_of f.segment) = ap header_in f.spelled ∙ ap header_by (spelled_read f.segment f.«sealed») in
    let same : header_of f.segment ≡ h = same_Some (header_of f.segment) h (sym read ∙ e) in
    let partition : p ≡ h.partition = sym f.header.0 ∙ ap (λ (x : Header). x.partition) same in
    let sequence : s ≡ h.sequence = sym f.header.1 ∙ ap (λ (x : Header). x.sequence) same in
    let range = sym f.header.2 ∙ ap (λ (x : Header). x.range) same in
    let first : start ≡ h.range.start = ap (λ (x : Range). x.start) range in
    let last : end ≡ h.range.end = ap (λ (x : Range). x.end) range in
    subst (λ (z : Offset). IsHeaded setup past h h.partition h.sequence h.range.start z bytes) last
    (subst (λ (z : Offset). IsHeaded setup past h h.partition h.sequence z end bytes) first
    (subst (λ (z : Sequence). IsHeaded setup past h h.partition z start end bytes) sequence
    (subst (λ (z : Partition). IsHeaded setup past h z s start end bytes) partition (record { right = right; header = same }))))

-- where every file is right, the file that a commit names is stored
pub named_stored : (setup : Setup) (past : Past) (p : Partition) (s : Sequence) (start : Offset) (commit : Commit)
    → ((f : DeepPut) → Has past.files f → IsRightUpload setup past f) → IsNamed past.files p s start commit → IsStored setup past p s start commit
named_stored setup past p s start commit right k =
    let f : DeepPut = record { path = commit.path; bytes = k.bytes } in
    let u : IsRightUpload setup past f = right f (found_file past.files commit.path f k.stands).0 in
    let x = headed setup past u.request.partition u.request.sequence u.start u.request.offset k.bytes u.right (header_named p s start commit) k.header in
    record { bytes = k.bytes; stands = k.stands; right = x.right; header = x.header }

-- ---- replies

carried : (past : Past) (q : Request) (s : ReplyStatus) (done : SeenMeta) → IsStatus past q s → Carries s done → WasDone past.history q.partition q.sequence done
carried past q (status.Keep seen) done was same = subst (WasDone past.history q.partition q.sequence) same was
carried past q (status.CommitSuccess seen) done was same = subst (WasDone past.history q.partition q.sequence) same was
carried past q _ done was none = absurd none

-- ---- the past of an ended cluster

abbrev own_status : (files : List DeepPut) (p : Partition) (s : Sequence) (meta : SeenMeta) (t : Status) → Type 0
own_status files p s seen t = IsOwnStatus files p s seen.meta t

module _ (n : Names) (e : Ended) (k : IsEnded n e) where
  abbrev past : Past
  past = past_of n e

  within : (f : Fronts) (qs : List Request) (rs : List Reply) → Has (fronts_of e) f → ((q : Request) → Has qs q → Has (requests_of e.servers) q)
      → ((r : Reply) → Has rs r → Has (replies_of e.controllers) r) → Within (viewed n.setup f qs rs) past
  within f qs rs node requests replies =
      let m = met_all n e k f node in
      view_grows n.setup f.store e.met.store f.deep e.met.deep f.stream e.met.stream (messages qs rs) (messages (requests_of e.servers) (replies_of e.controllers))
      m.store.seen m.deep.seen m.stream.seen (messages_in qs (requests_of e.servers) rs (replies_of e.controllers) requests replies)

  server_node : (a : ServerPart) → Has e.servers a → Has (fronts_of e) a.fronts
  server_node a has =
      inr (Has-append_left (map (λ (x : ServerPart). x.fronts) e.servers)
      (map (λ (x : ControllerPart). x.fronts) e.controllers ++ (e.repairer ∷ e.broker.fronts ∷ [])) a.fronts
      (map-Has (λ (x : ServerPart). x.fronts) e.servers a has))

  controller_node : (a : ControllerPart) → Has e.controllers a → Has (fronts_of e) a.fronts
  controller_node a has =
      inr (Has-append_right (map (λ (x : ServerPart). x.fronts) e.servers)
      (map (λ (x : ControllerPart). x.fronts) e.controllers ++ (e.repairer ∷ e.broker.fronts ∷ [])) a.fronts
      (Has-append_left (map (λ (x : ControllerPart). x.fronts) e.controllers) (e.repairer ∷ e.broker.fronts ∷ []) a.fronts
      (map-Has (λ (x : ControllerPart). x.fronts) e.controllers a has)))

  pub broker_node : Has (fronts_of e) e.broker.fronts
  broker_node =
      inr (Has-append_right (map (λ (x : ServerPart). x.fronts) e.servers)
      (map (λ (x : ControllerPart). x.fronts) e.controllers ++ (e.repairer ∷ e.broker.fronts ∷ [])) e.broker.fronts
      (Has-append_right (map (λ (x : ControllerPart). x.fronts) e.controllers) (e.repairer ∷ e.broker.fronts ∷ []) e.broker.fronts (inr (inl refl))))

  pub server_within : (a : ServerPart) → Has e.servers a → Within (server_view n a) past
  server_within a has =
      within a.fronts a.requests a.replies (server_node a has) (λ q asked. flat_has (λ (x : ServerPart). x.requests) e.servers a q has asked)
      (λ r took. let c = k.linked.replies a r has took in flat_has (λ (x : ControllerPart). x.replies) e.controllers c.0 r c.1 c.2)

  pub controller_within : (a : ControllerPart) → Has e.controllers a → Within (controller_view n a) past
  controller_within a has =
      within a.fronts a.requests a.replies (controller_node a has) (λ q took. let s = k.linked.requests a q has took in flat_has (λ (x : ServerPart). x.requests) e.servers s.0 q s.1 s.2)
      (λ r made. flat_has (λ (x : ControllerPart). x.replies) e.controllers a r has made)

  pub broker_within : Within (viewed n.setup e.broker.fronts [] []) past
  broker_within = within e.broker.fronts [] [] broker_node (λ q none. absurd none) (λ r none. absurd none)

  pub past_view : IsView n.setup past
  past_view = record {
    partitions = length_log n.setup.partitions (whats e.met.stream.seen);
    lawful = k.ground.store.1.entries.history;
    once = k.ground.deep.1;
  }

  -- ---- files

  asked_right : (a : ServerPart) (q : Request) (path bytes : List ℕ) → Has e.servers a → IsOwnRequest n.setup (server_view n a) q → q.kind ≡ kind.Upload path bytes
      → (start : Offset) × IsRightFile n.setup past q.partition q.sequence start q.offset bytes
  asked_right a q path bytes has own is =
      let kind_is : IsOwnKind n.setup (server_view n a) q own.start (kind.Upload path bytes) =
      subst (λ (x : RequestKind). IsOwnKind n.setup (server_view n a) q own.start x) is own.kind in
      (own.start, right_file_within n.setup (server_view n a) past q.partition q.sequence own.start q.offset bytes (server_within a has) kind_is.1)

  pub files_right : (f : DeepPut) → Has past.files f → IsRightUpload n.setup past f
  files_right f has =
      let x = file_controllers n e k f has in
      let part = controller_part n e k x.controller x.node in
      let t = all_has (IsTaken x.controller.requests) (own_files x.controller.fronts) f part.puts x.own in
      let a = k.linked.requests x.controller t.request x.node t.taken in
      let own = all_has (IsOwnRequest n.setup (server_view n a.0)) a.0.requests t.request (server_part n e k a.0 a.1).asks a.2 in
      let right = asked_right a.0 t.request f.path f.bytes a.1 own t.uploads in
      record {
        request = t.request;
        was_sent =
            Has-append_left (map sent.Request (requests_of e.servers)) (map sent.Reply (replies_of e.controllers)) (sent.Request t.request)
            (map-Has sent.Request (requests_of e.servers) t.request (flat_has (λ (y : ServerPart). y.requests) e.servers a.0 t.request a.1 a.2));
        uploads = t.uploads;
        start = right.0;
        right = right.1;
      }

  -- ---- commits

  done_named : (p : Partition) (s : Sequence) (seen : SeenMeta) (commit : Commit) → seen.meta.status ≡ Done commit → IsDone (listed_write p (record { sequence = s; seen = seen })).node
      → Has (starting_contents (starting_of n.setup)) (listed_write p (record { sequence = s; seen = seen })) ⊎ Has (whats e.met.store.seen) (listed_write p (record { sequence = s; seen = seen }))
      → IsNamed past.files p s seen.meta.start commit
  done_named p s seen commit is done (inl starting) = absurd (start_undone (starting_of n.setup) (listed_write p (record { sequence = s; seen = seen })) starting done)
  done_named p s seen commit is done (inr later) =
      let w : Seen = listed_write p (record { sequence = s; seen = seen }) in
      let x = commit_controllers n e k w later done in
      let files : List DeepPut = (controller_view n x.controller).files in
      let own : IsOwnNode files w.key w.node =
      all_has (λ (v : Seen). IsOwnNode files v.key v.node) (own_writes x.controller.fronts) w (controller_part n e k x.controller x.node).writes x.own in
      let named : IsNamed files p s seen.meta.start commit = subst (own_status files p s seen) is own in
      named_grows files past.files p s seen.meta.start commit (controller_within x.controller x.node).files named

  pub commits_stored : (p : Partition) (s : Sequence) (seen : SeenMeta) (commit : Commit) → WasDone past.history p s seen → seen.meta.status ≡ Done commit
      → IsStored n.setup past p s seen.meta.start commit
  commits_stored p s seen commit was is =
      named_stored n.setup past p s seen.meta.start commit files_right
      (done_named p s seen commit is was.1
      (Has-append_cases (starting_contents (starting_of n.setup)) (whats e.met.store.seen) (listed_write p (record { sequence = s; seen = seen })) was.0))

  -- ---- replies

  pub replies_told : (r : Reply) (seen : SeenMeta) → Has past.sent (sent.Reply r) → Carries r.status seen → WasDone past.history r.partition r.sequence seen
  replies_told r seen has carries =
      let a = has_flat (λ (x : ControllerPart). x.replies) e.controllers r (reply_among (requests_of e.servers) (replies_of e.controllers) r has) in
      let y = reply_within (controller_view n a.0) past r (controller_within a.0 a.1)
      (all_has (IsReply (controller_view n a.0)) a.0.replies r (controller_part n e k a.0 a.1).replies a.2) in
      let of : y.request.partition ≡ r.partition = ap (λ (x : Asked). x.partition) y.answers in
      let at : y.request.sequence ≡ r.sequence = ap (λ (x : Asked). x.sequence) y.answers in
      subst (λ (z : Sequence). WasDone past.history r.partition z seen) at
      (subst (λ (z : Partition). WasDone past.history z y.request.sequence seen) of (carried past y.request r.status seen y.status carries))

  pub ended_sound : IsSound n.setup past
  ended_sound = record {
    view = past_view;
    done = λ p s seen commit inside was is. commits_stored p s seen commit was is;
    told = replies_told;
  }
