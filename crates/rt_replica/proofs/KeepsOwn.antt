-- What a replica has of its own is kept by its steps, over what its server has itself seen, sent and taken.
use Rattle.std.proofs.Common.{◌≡◌, ◌<◌, inl, inr, ℕ, true, List, Some, None, refl, sym, subst, arith}
use Rattle.rt_base.specs.declared.numbers.Instance.{Instance}
use Rattle.rt_base.specs.declared.numbers.Moment.{Moment}
use Rattle.rt_base.specs.declared.numbers.Offset.{Offset}
use Rattle.rt_base.specs.declared.numbers.Partition.{Partition}
use Rattle.rt_base.specs.declared.numbers.Sequence.{Sequence}
use Rattle.rt_lists.proofs.Members.{Has-front}
use Rattle.rt_schema.specs.declared.schema.Schema.{Schema}
use Rattle.rt_segment.specs.Segment.{SealedSegment}
use Rattle.rt_stream.specs.Log.{messages_of}
use Rattle.rt_model.specs.declared.request.Request.{Request}
use Rattle.rt_model.specs.declared.request.RequestKind.{RequestKind}
use Rattle.rt_model.specs.declared.request.RequestKind.TheVariants as kind
use Rattle.rt_model.specs.declared.request.RequestNumber.{RequestNumber}
use Rattle.rt_model.specs.declared.seg_meta.SeenMeta.{SeenMeta}
use Rattle.rt_model.specs.declared.seg_meta.SegMeta.{SegMeta}
use Rattle.rt_model.specs.declared.sent.Sent.TheVariants as sent
use Rattle.rt_model.specs.declared.setup.Setup.{Setup}
use Rattle.rt_past.specs.Past.{Past, with_request}
use Rattle.rt_past.specs.Segments.{IsBegun, IsBegunAs}
use Rattle.rt_past.specs.View.{Within}
use Rattle.rt_past.proofs.Growth.{begun_as_grows, begun_grows, done_grows, entry_grows, length_grows, right_file_within, upload_path_grows}
use Rattle.rt_consumer.specs.declared.phase.Phase.{Phase}
use Rattle.rt_consumer.specs.declared.phase.Phase.TheVariants as phase
use Rattle.rt_consumer.specs.declared.waited.Waited.{Waited}
use Rattle.rt_consumer.specs.declared.consumer.Consumer.{Consumer}
use Rattle.rt_consumer.specs.Batch.{consumed}
use Rattle.rt_consumer.specs.Consumer.{IsConsumer, cur, cur_in, extends_in, number_of, started_of}
use Rattle.rt_consumer.specs.Requests.{IsSealedOf, filed, forced, kind_in, learned, request_with, stopped}
use Rattle.rt_replica.specs.HeldSoFar.{HoldsInSoFar, IsHeldSoFar, IsReached}
use Rattle.rt_replica.specs.Lasting.{IsAskedIn, WasAsked}
use Rattle.rt_replica.specs.Own.{IsOwnKind, IsOwnReplica, IsOwnRequest, IsOwnToldIn, IsPlaced, IsUp, WasTold}
use Rattle.rt_replica.proofs.Asking.{extend_in_right, just_asked, kind_in_right}
use Rattle.rt_replica.proofs.HoldingSoFar.{batch_held, built_held, held_grows, learned_held}
use Rattle.rt_replica.proofs.Lasts.{asked_within, uploaded_within, waits_within}
use Rattle.rt_replica.proofs.OthersSoFar.{forced_held, started_held, stopped_held}
use Rattle.rt_replica.proofs.Told.{built_moves, consumed_moves, forced_moves, learned_moves, stopped_moves, told_in_each}

-- ---- over what has all of a view

module _ (setup : Setup) (a b : Past) (g : Within a b) where
  pub placed_within : (i : Instance) (p : Partition) (s : Sequence) → IsPlaced setup a.history i p s → IsPlaced setup b.history i p s
  placed_within i p s (inl h) = inl (record {
    write = h.write;
    is = record { has = Has-front a.history b.history h.write g.history h.is.has; is_ideal = h.is.is_ideal };
    entry = h.entry;
    has = h.has;
    names = h.names;
  })
  placed_within i p s (inr both) = inr (both.0, entry_grows a.history b.history p s g.history both.1)

  pub told_within : (p : Partition) (s : Sequence) (done : SeenMeta) → WasTold a p s done → WasTold b p s done
  told_within p s done (inl was) = inl (done_grows a.history b.history p s done g.history was)
  told_within p s done (inr c) = inr (record { reply = c.reply; taken = g.sent (sent.Reply c.reply) c.taken; segment = c.segment; carries = c.carries })

  up_within : (i : Instance) (incarnation : ℕ) (p : Partition) (s : Sequence) (start x : Offset) (built : SealedSegment) (path : List ℕ)
      → IsUp setup a i incarnation p s start x built path → IsUp setup b i incarnation p s start x built path
  up_within i incarnation p s start x built path (inl up) = inl (uploaded_within setup a b g i incarnation p s start x built path up)
  up_within i incarnation p s start x built path (inr w) = inr (record {
    reply = w.reply;
    taken = g.sent (sent.Reply w.reply) w.taken;
    status = w.status;
    own = w.own;
    asked = asked_within setup a b g i incarnation p s x w.reply.number _ w.asked;
  })

  pub own_within : (i : Instance) (incarnation : ℕ) (r : Consumer) → IsOwnReplica setup a i incarnation r → IsOwnReplica setup b i incarnation r
  own_within i incarnation r k =
      let p = r.partition in
      let s = r.sequence in
      record {
        settings = k.settings;
        partition = k.partition;
        placed = placed_within i p s k.placed;
        begun = begun_grows a.history b.history p s r.start g.history k.begun;
        named = begun_as_grows a.history b.history p s r.name g.history k.named;
        held = held_grows a.log b.log r g.log k.held;
        told =
            told_in_each (WasTold a p s) (WasTold b p s) (IsUp setup a i incarnation p s r.start) (IsUp setup b i incarnation p s r.start)
            (told_within p s) (up_within i incarnation p s r.start) r.phase k.told;
        waited = waits_within setup a b g i incarnation p s r.name r.phase r.waited k.waited;
      }

  kind_within : (q : Request) (start : Offset) (asks : RequestKind) → IsOwnKind setup a q start asks → IsOwnKind setup b q start asks
  kind_within q start kind.Stopped k = k
  kind_within q start (kind.Consumed reason) k = k
  kind_within q start kind.CommitStart k = k
  kind_within q start (kind.Extend millis) k = k
  kind_within q start (kind.Upload path bytes) k = (
    upload_path_grows a.history b.history q.partition q.sequence q.number path g.history k.0,
    right_file_within setup a b q.partition q.sequence start q.offset bytes g k.1,
  )
  kind_within q start (kind.CommitEnd path) (built, up) =
      (built, up_within q.number.instance q.number.incarnation q.partition q.sequence start q.offset built path up)

  pub own_request_within : (q : Request) → IsOwnRequest setup a q → IsOwnRequest setup b q
  own_request_within q k = record {
    partition = k.partition;
    placed = placed_within q.number.instance q.partition q.sequence k.placed;
    start = k.start;
    begun = begun_grows a.history b.history q.partition q.sequence k.start g.history k.begun;
    within = omega (arith, k.within, length_grows a.log b.log q.partition g.log);
    kind = kind_within q k.start q.kind k.kind;
  }

-- ---- its own steps

-- a replica that begins, of a segment that this server has seen placed with it and created
pub started_own : (setup : Setup) (view : Past) (i : Instance) (incarnation : ℕ) (p : Partition) (q : Sequence) (meta : SegMeta) (now : Moment)
    → p.0 < setup.partitions → IsPlaced setup view.history i p q → IsBegun view.history p q meta.start → IsBegunAs view.history p q meta.name
    → IsOwnReplica setup view i incarnation (started_of setup p q meta now)
started_own setup view i incarnation p q meta now within placed begun named = record {
  settings = refl;
  partition = within;
  placed = placed;
  begun = begun;
  named = named;
  held = started_held setup p q meta now view.log;
  told = tt;
  waited = tt;
}

module _ (setup : Setup) (view : Past) (i : Instance) (incarnation : ℕ) (r : Consumer) (k : IsOwnReplica setup view i incarnation r) where
  abbrev Was : SeenMeta → Type 0
  Was = WasTold view r.partition r.sequence

  abbrev Up : Offset → SealedSegment → List ℕ → Type 0
  Up = IsUp setup view i incarnation r.partition r.sequence r.start

  abbrev Owns : Consumer → Type 0
  Owns = IsOwnReplica setup view i incarnation

  moved_own : (ph : Phase) → IsHeldSoFar view.log (record r { phase = ph; waited = None }) → IsOwnToldIn setup view i incarnation r.partition r.sequence r.start ph
      → Owns (record r { phase = ph; waited = None })
  moved_own ph held told = record {
    settings = k.settings;
    partition = k.partition;
    placed = k.placed;
    begun = k.begun;
    named = k.named;
    held = held;
    told = told;
    waited = tt;
  }

  pub consumed_own : (max : ℕ) (now : Moment) (new : Consumer) → consumed r max now view.log ≡ Some new → Owns new
  consumed_own max now new e =
      consumed_moves Was Up r (IsHeldSoFar view.log) Owns k k.told moved_own view.log max now new e (batch_held r max now view.log new k.held e)

  pub forced_own : (n : Phase) → forced r.phase ≡ Some n → Owns (record r { phase = n; waited = None })
  forced_own n e = forced_moves Was Up r (IsHeldSoFar view.log) Owns k k.told moved_own n e (forced_held r n view.log e k.held)

  pub stopped_own : (n : Phase) → stopped r.phase ≡ Some n → Owns (record r { phase = n; waited = None })
  stopped_own n e = stopped_moves Was Up r (IsHeldSoFar view.log) Owns k k.told moved_own n e (stopped_held r n view.log e k.held)

  pub built_own : (file : SealedSegment) → IsSealedOf r r.phase file → Owns (record r { phase = filed r.phase file; waited = None })
  built_own file b = built_moves Was Up r (IsHeldSoFar view.log) Owns k k.told moved_own file (built_held r file view.log b k.held)

  pub learned_own : (done : SeenMeta) (end : Offset) → Was done → Owns (learned r r.phase done end)
  learned_own done end w = learned_moves Was Up r (IsHeldSoFar view.log) Owns k k.told moved_own done end w (learned_held r done end view.log k.held)

-- ---- what it asks

held_reached : (schema : Schema) (ms : List (List ℕ)) (start : Offset) (ph : Phase) → HoldsInSoFar schema ms start ph → IsReached ms start (cur_in ph)
held_reached schema ms start (phase.Unsealed o) h = h.within
held_reached schema ms start (phase.Retained kept) h = h.within
held_reached schema ms start (phase.Committed kept) h = h.within
held_reached schema ms start (phase.Discarded d) h = h.1

module _ (setup : Setup) (view : Past) (i : Instance) (incarnation : ℕ) (r : Consumer) (c : IsConsumer r) (k : IsOwnReplica setup view i incarnation r) (number : RequestNumber)
    (mine : number.instance ≡ i) (now : number.incarnation ≡ incarnation) where
  own_of : (q : RequestKind) → IsOwnKind setup view (request_with r number q) r.start q → IsOwnRequest setup view (request_with r number q)
  own_of q own = record {
    partition = k.partition;
    placed = subst (λ j. IsPlaced setup view.history j r.partition r.sequence) (sym mine) k.placed;
    start = r.start;
    begun = k.begun;
    within = held_reached r.settings.schema (messages_of view.log r.partition) r.start r.phase k.held;
    kind = own;
  }

  pub request_own : (q : RequestKind) → kind_in r.name number r.phase ≡ Some q → IsOwnRequest setup view (request_with r number q)
  request_own q e =
      own_of q (kind_in_right setup view i incarnation r k number mine now r.phase q e c.phase k.held k.told)

  pub extend_own : (millis : ℕ) → extends_in r.phase ≡ true → IsOwnRequest setup view (request_with r number (kind.Extend millis))
  extend_own millis e =
      own_of (kind.Extend millis) (extend_in_right setup view i incarnation r k number mine now r.phase millis e c.phase)

-- once it is sent, it is waited for
pub waits_own : (setup : Setup) (view : Past) (i : Instance) (incarnation : ℕ) (r : Consumer) (number : RequestNumber) (q : RequestKind) (w : Waited)
    → IsOwnReplica setup view i incarnation r → number.instance ≡ i → number.incarnation ≡ incarnation → number_of w ≡ number → IsAskedIn r.name r.phase w q
    → Within view (with_request view (request_with r number q))
    → IsOwnReplica setup (with_request view (request_with r number q)) i incarnation (record r { waited = Some w })
waits_own setup view i incarnation r number q w k mine now e is g =
    let later = with_request view (request_with r number q) in
    let l = own_within setup view later g i incarnation r k in
    record {
      settings = l.settings;
      partition = l.partition;
      placed = l.placed;
      begun = l.begun;
      named = l.named;
      held = l.held;
      told = l.told;
      waited = (
        q,
        subst (λ n. WasAsked later i incarnation r.partition r.sequence (cur r) n q) (sym e) (just_asked view i incarnation r number q mine now),
        is,
      );
    }
