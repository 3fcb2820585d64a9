-- A controller does one thing more.
use Rattle.std.proofs.Common.{◌≡◌, ℕ, ◌+◌, List, [], ◌∷◌, ◌++◌, length, append-nil, append_assoc, Option, Some, refl, sym, ◌∙◌, ap, subst}
use Rattle.std.proofs.lemmas.List.{length-append, length-map}
use Rattle.std.proofs.lemmas.List.Elements.{All-nil}
use Rattle.std.proofs.lemmas.Option.{same_Some}
use Rattle.rt_base.specs.declared.numbers.Offset.{Offset}
use Rattle.rt_base.specs.declared.numbers.Partition.{Partition}
use Rattle.rt_base.specs.declared.numbers.Sequence.{Sequence}
use Rattle.rt_commit.specs.Own.{OwnsMore}
use Rattle.rt_controller.specs.Controller.{Controlling}
use Rattle.rt_controller.specs.IsController.{IsController}
use Rattle.rt_controller.specs.Own.{PutsMore}
use Rattle.rt_deep.specs.Files.{AreOnce}
use Rattle.rt_deep.specs.Meaning as deep
use Rattle.rt_deep.specs.declared.deep_put.DeepPut.{DeepPut}
use Rattle.rt_front.specs.Histories.{Known, mine}
use Rattle.rt_front.specs.declared.entry.Entry.{Entry}
use Rattle.rt_ground.specs.Histories.{whats}
use Rattle.rt_ground.specs.DeepCalls as deep_calls
use Rattle.rt_ground.specs.StoreCalls.{own_by, seen_by, shared_meaning}
use Rattle.rt_ground.specs.StreamCalls.{seen_by as stream_seen}
use Rattle.rt_ground.specs.declared.appended.Appended.{Appended}
use Rattle.rt_ground.proofs.Streams.{length_log}
use Rattle.rt_lists.proofs.Members.{Has-append_left, front_same}
use Rattle.rt_live_names.specs.ControllerPart.{controller_view}
use Rattle.rt_live_names.specs.Fronts.{Fronts, own_files, own_writes, viewed}
use Rattle.rt_live_names.specs.Names.{Names}
use Rattle.rt_live_names.specs.Replays.{Replays}
use Rattle.rt_live_names.specs.Showed.{DeepShowed, DeepShowsMore, Showed, ShowsMore, deep_shown_by, shown_by}
use Rattle.rt_live_names.proofs.Replaying.{replays_as, replays_more}
use Rattle.rt_live_names.proofs.Showing.{deep_showed_grows, showed_grows}
use Rattle.rt_model.specs.Starting.{Starting, starting_contents}
use Rattle.rt_model.specs.declared.node.Seen.{Seen}
use Rattle.rt_model.specs.declared.reply.Reply.{Reply}
use Rattle.rt_model.specs.declared.request.Request.{Request}
use Rattle.rt_store.specs.Contents.{starting_of}
use Rattle.rt_store.specs.Meaning.{Meaning, Own}
use Rattle.rt_past.specs.Past.{Past}
use Rattle.rt_past.specs.View.{Within}
use Rattle.rt_past.proofs.Growth.{grows_same}
use Rattle.rt_stream.specs.Feed.{Grows as GrowsLog}
use Rattle.rt_live_controller.specs.Acting.{ControllerActs, IsActing, StepOf, WasBegunIn, now_of, part_of}
use Rattle.rt_live_controller.specs.Begun.{WasBegun}
use Rattle.rt_live_controller.specs.Did.{replies_in, replies_of, requests_in, requests_of}
use Rattle.rt_live_controller.specs.ControllerSteps.{CallsSo, ControllerNow, ControllerStep, Sight, first_now, sight_by}
use Rattle.rt_live_controller.proofs.Grown.{Grown}
use Rattle.rt_live_controller.proofs.Keeping.{IsLocal, local_on}
use Rattle.rt_live_controller.proofs.Listed.{all_in_more, messages_more}
use Rattle.rt_live_controller.specs.declared.controller_did.ControllerDid.{ControllerDid}
use Rattle.rt_live_controller.specs.declared.controller_did.ControllerDid.TheVariants.{Believed, Heard, Passed, Worked}

-- ---- what its stores showed earlier they show when they show more

pub record SeesOn (s t : Sight) : Type 0 where
  pub store : ShowsMore s.store t.store
  pub deep : DeepShowsMore s.deep t.deep

calls_later : (s : Starting) (sight later : Sight) (a b : ControllerNow) (Step : Meaning → Meaning → deep.Meaning → deep.Meaning → Type 0)
    → SeesOn sight later → CallsSo s sight a b Step → CallsSo s later a b Step
calls_later s sight later a b Step on k = record {
  before = k.before;
  after = k.after;
  deep_before = k.deep_before;
  deep_after = k.deep_after;
  was = showed_grows s sight.store later.store a.told a.wrote k.before on.store k.was;
  is = showed_grows s sight.store later.store b.told b.wrote k.after on.store k.is;
  deep_was = deep_showed_grows sight.deep later.deep a.deep_told a.put k.deep_before on.deep k.deep_was;
  deep_is = deep_showed_grows sight.deep later.deep b.deep_told b.put k.deep_after on.deep k.deep_is;
  step = k.step;
}

pub step_later : (s : Starting) (sight later : Sight) → SeesOn sight later → (a : ControllerNow) (d : ControllerDid) (b : ControllerNow)
    → ControllerStep s sight a d b → ControllerStep s later a d b
step_later s sight later on a Believed b h = h
step_later s sight later on a (Heard request now result told deep_told) b h = (h.0, h.1, calls_later s sight later a b _ on h.2)
step_later s sight later on a (Passed envelope) b h = h
step_later s sight later on a (Worked job now result told deep_told) b h = (h.0, h.1, calls_later s sight later a b _ on h.2)

-- ---- how a commit began stays so

module _ (A B : ControllerNow → ControllerDid → ControllerNow → Type 0) (on : (a : ControllerNow) (d : ControllerDid) (b : ControllerNow) → A a d b → B a d b) where
  pub begun_later : (first : ControllerNow) (did : List ControllerDid) (d : ControllerDid) (p : Partition) (q : Sequence) (end : Offset) (path : List ℕ)
      → WasBegun A first did p q end path → WasBegun B first (did ++ d ∷ []) p q end path
  begun_later first did d p q end path k = record {
    earlier = k.earlier;
    heard = k.heard;
    later = k.later ++ d ∷ [];
    whole = ap (λ (ds : List ControllerDid). ds ++ d ∷ []) k.whole ∙ append_assoc k.earlier (k.heard ∷ k.later) (d ∷ []);
    request = k.request;
    now = k.now;
    result = k.result;
    told = k.told;
    deep_told = k.deep_told;
    is = k.is;
    was = k.was;
    replayed = replays_as A B first k.was k.earlier on k.replayed;
    place = k.place;
    machine = k.machine;
    timely = k.timely;
    partition = k.partition;
    sequence = k.sequence;
    offset = k.offset;
  }

-- ---- what a front shows now

pub shows_now : (s : Starting) (f : Known Seen) → Showed s (shown_by s f) (length f.seen) (length (own_by f).writes) (shared_meaning s f)
shows_now s f = record {
  whole = front_same (seen_by s f);
  told_is = length-append (starting_contents s) (whats f.seen)
      ∙ ap (λ n. length (starting_contents s) + n) (length-map f.seen (λ (e : Entry Seen). e.what));
  writes = (own_by f).writes;
  own = refl;
  mine = front_same (own_by f).writes;
  count = refl;
  free = (refl, refl);
}

pub deep_shows_now : (f : Known DeepPut) → DeepShowed (deep_shown_by f) (length f.seen) (length (deep_calls.own_by f).files) (deep_calls.shared_meaning f)
deep_shows_now f = record {
  whole = front_same (whats f.seen);
  told_is = length-map f.seen (λ (e : Entry DeepPut). e.what);
  files = (deep_calls.own_by f).files;
  own = refl;
  mine = front_same (deep_calls.own_by f).files;
  count = refl;
  free = (refl, refl);
}

-- ---- a call over shared stores

-- what a call showed and made the caller's own
pub record Moves (s : Starting) (old new : Fronts) : Type 0 where
  pub store : ShowsMore (shown_by s old.store) (shown_by s new.store)
  pub deep : DeepShowsMore (deep_shown_by old.deep) (deep_shown_by new.deep)
  pub stream : new.stream ≡ old.stream

pub sees_on : (s : Starting) (old new : Fronts) → Moves s old new → SeesOn (sight_by s old) (sight_by s new)
sees_on s old new m = record { store = m.store; deep = m.deep }

pub calls_now : (s : Starting) (a b : ControllerActs) (Step : Meaning → Meaning → deep.Meaning → deep.Meaning → Type 0) → Moves s a.fronts b.fronts
    → Step (shared_meaning s a.fronts.store) (shared_meaning s b.fronts.store) (deep_calls.shared_meaning a.fronts.deep) (deep_calls.shared_meaning b.fronts.deep)
    → CallsSo s (sight_by s b.fronts) (now_of a) (now_of b) Step
calls_now s a b Step m step = record {
  before = shared_meaning s a.fronts.store;
  after = shared_meaning s b.fronts.store;
  deep_before = deep_calls.shared_meaning a.fronts.deep;
  deep_after = deep_calls.shared_meaning b.fronts.deep;
  was = showed_grows s (shown_by s a.fronts.store) (shown_by s b.fronts.store) _ _ (shared_meaning s a.fronts.store) m.store (shows_now s a.fronts.store);
  is = shows_now s b.fronts.store;
  deep_was = deep_showed_grows (deep_shown_by a.fronts.deep) (deep_shown_by b.fronts.deep) _ _ (deep_calls.shared_meaning a.fronts.deep) m.deep
      (deep_shows_now a.fronts.deep);
  deep_is = deep_shows_now b.fronts.deep;
  step = step;
}

-- ---- what becomes the caller's own

pub owns_kept : (P : Seen → Type 0) (o n : Own) → Some n ≡ Some o → OwnsMore P (Some o) (Some n)
owns_kept P o n e =
    let with_writes : List Seen → Option Own = λ ws. Some (record { numbers = o.numbers; writes = ws }) in
    ([], e ∙ ap with_writes (sym (append-nil o.writes)), All-nil P)

pub puts_kept : (P : DeepPut → Type 0) (o n : deep.Own) → Some n ≡ Some o → PutsMore P (Some o) (Some n)
puts_kept P o n e =
    let with_files : List DeepPut → Option deep.Own = λ fs. Some (record { numbers = o.numbers; files = fs }) in
    ([], e ∙ ap with_files (sym (append-nil o.files)), All-nil P)

pub files_are : (P : DeepPut → Type 0) (o n : deep.Own) (k : PutsMore P (Some o) (Some n)) → n.files ≡ o.files ++ k.0
files_are P o n (more, is, all) = ap (λ (x : deep.Own). x.files) (same_Some n _ is)

writes_are : (P : Seen → Type 0) (o n : Own) (k : OwnsMore P (Some o) (Some n)) → n.writes ≡ o.writes ++ k.0
writes_are P o n (more, is, all) = ap (λ (x : Own). x.writes) (same_Some n _ is)

pub moves : (s : Starting) (P : Seen → Type 0) (Q : DeepPut → Type 0) (old new : Fronts)
    → Grown (shared_meaning s old.store) (shared_meaning s new.store) (deep_calls.shared_meaning old.deep) (deep_calls.shared_meaning new.deep)
    → OwnsMore P (Some (own_by old.store)) (Some (own_by new.store))
    → PutsMore Q (Some (deep_calls.own_by old.deep)) (Some (deep_calls.own_by new.deep)) → new.stream ≡ old.stream → Moves s old new
moves s P Q old new grown owns puts stream = record {
  store = record {
    seen = grown.history;
    numbers = ap (λ (x : Own). x.numbers) (same_Some (own_by new.store) _ owns.1);
    writes = (owns.0, writes_are P (own_by old.store) (own_by new.store) owns);
  };
  deep = record {
    seen = grown.files;
    numbers = ap (λ (x : deep.Own). x.numbers) (same_Some (deep_calls.own_by new.deep) _ puts.1);
    files = (puts.0, files_are Q (deep_calls.own_by old.deep) (deep_calls.own_by new.deep) puts);
  };
  stream = stream;
}

-- ---- one thing more

module _ (n : Names) (a : ControllerActs) (c : Controlling) (f : Fronts) (d : ControllerDid) where
  abbrev pub then : ControllerActs
  then = record { number = a.number; controller = c; fronts = f; did = a.did ++ d ∷ [] }

  abbrev pub requests_then : List Request
  requests_then = requests_of a.did ++ requests_in d

  abbrev pub replies_then : List Reply
  replies_then = replies_of a.did ++ replies_in d

  abbrev pub view_then : Past
  view_then = viewed n.setup f requests_then replies_then

  abbrev pub LocalThen : Type 0
  LocalThen = IsLocal view_then (own_writes f) (own_files f) requests_then replies_then (WasBegunIn n then) c.jobs

  abbrev LocalBy : List Request → List Reply → Type 0
  LocalBy rs ps = IsLocal (viewed n.setup f rs ps) (own_writes f) (own_files f) rs ps (WasBegunIn n then) c.jobs

  step_on : Moves (starting_of n.setup) a.fronts f → (x : ControllerNow) (e : ControllerDid) (y : ControllerNow) → StepOf n a x e y → StepOf n then x e y
  step_on m x e y h =
      step_later (starting_of n.setup) (sight_by (starting_of n.setup) a.fronts) (sight_by (starting_of n.setup) f)
      (record { store = m.store; deep = m.deep }) x e y h

  pub replays_on : IsActing n a → Moves (starting_of n.setup) a.fronts f → Replays (StepOf n then) (first_now n.setup a.number) a.did (now_of a)
  replays_on is m = replays_as (StepOf n a) (StepOf n then) (first_now n.setup a.number) (now_of a) a.did (step_on m) is.replays

  pub was_begun_on : Moves (starting_of n.setup) a.fronts f → (p : Partition) (q : Sequence) (end : Offset) (path : List ℕ)
      → WasBegunIn n a p q end path → WasBegunIn n then p q end path
  was_begun_on m p q end path k = begun_later (StepOf n a) (StepOf n then) (step_on m) (first_now n.setup a.number) a.did d p q end path k

  pub local_before : IsActing n a → IsLocal (controller_view n (part_of a)) (own_writes a.fronts) (own_files a.fronts) (requests_of a.did) (replies_of a.did)
      (WasBegunIn n a) a.controller.jobs
  local_before is = record {
    writes = is.part.writes;
    puts = is.part.puts;
    replies = is.part.replies;
    taken = is.taken;
    read = is.read;
    begun = is.begun;
    written = is.written;
  }

  log_on : Moves (starting_of n.setup) a.fronts f → GrowsLog (controller_view n (part_of a)).log view_then.log
  log_on m =
      subst (λ (k : Known Appended). GrowsLog (controller_view n (part_of a)).log (stream_seen n.setup.partitions k)) (sym m.stream)
      (grows_same (controller_view n (part_of a))).log

  within_then : Moves (starting_of n.setup) a.fronts f → Within (controller_view n (part_of a)) view_then
  within_then m = record {
    log = log_on m;
    history = m.store.seen;
    files = m.deep.seen;
    sent = messages_more (requests_of a.did) requests_then (replies_of a.did) replies_then
        (λ r h. Has-append_left (requests_of a.did) (requests_in d) r h) (λ r h. Has-append_left (replies_of a.did) (replies_in d) r h);
  }

  -- what was so is so still
  pub local_still : IsActing n a → Moves (starting_of n.setup) a.fronts f
      → IsLocal view_then (own_writes a.fronts) (own_files a.fronts) requests_then (replies_of a.did) (WasBegunIn n then) a.controller.jobs
  local_still is m =
      local_on (controller_view n (part_of a)) view_then (own_writes a.fronts) (own_files a.fronts) (requests_of a.did) requests_then (replies_of a.did)
      (WasBegunIn n a) (WasBegunIn n then) a.controller.jobs (within_then m) (λ r h. Has-append_left (requests_of a.did) (requests_in d) r h)
      (was_begun_on m) (local_before is)

  pub acts : IsActing n a → Moves (starting_of n.setup) a.fronts f → AreOnce (whats f.deep.seen)
      → IsController (starting_of n.setup) (seen_by (starting_of n.setup) f.store) c
      → ControllerStep (starting_of n.setup) (sight_by (starting_of n.setup) f) (now_of a) d (now_of then) → LocalThen → IsActing n then
  acts is m once ready step local =
      let requests = all_in_more requests_in a.did d in
      let replies = all_in_more replies_in a.did d in
      let all : LocalBy (requests_of (a.did ++ d ∷ [])) (replies_of (a.did ++ d ∷ [])) =
      subst (λ (rs : List Request). LocalBy rs (replies_of (a.did ++ d ∷ []))) (sym requests)
      (subst (λ (ps : List Reply). LocalBy requests_then ps) (sym replies) local) in
      record {
        ready = ready;
        replays = replays_more (StepOf n then) (first_now n.setup a.number) (now_of a) (now_of then) a.did d (replays_on is m) step;
        part = record {
          caller = record {
            store = m.store.numbers ∙ is.part.caller.store;
            deep = m.deep.numbers ∙ is.part.caller.deep;
            stream = ap (λ (k : Known Appended). k.numbers) m.stream ∙ is.part.caller.stream;
          };
          view = record { partitions = length_log n.setup.partitions (whats f.stream.seen); lawful = ready.lawful; once = once };
          writes = all.writes;
          puts = all.puts;
          replies = all.replies;
          appends = ap (λ (k : Known Appended). whats (mine k.numbers k.seen)) m.stream ∙ is.part.appends;
        };
        taken = all.taken;
        read = all.read;
        begun = all.begun;
        written = all.written;
      }
