-- A step stays one when the store, the deep store and the stream show more.
use Rattle.std.proofs.Common.{◌≡◌, ◌∙◌, ap, sym, refl, ℕ, List, [], length, ◌+◌}
use Rattle.std.proofs.lemmas.List.{length-append, length-map}
use Rattle.rt_deep.specs.Meaning.{Meaning as DeepMeaning}
use Rattle.rt_deep.specs.declared.deep_put.DeepPut.{DeepPut}
use Rattle.rt_front.specs.Histories.{Known}
use Rattle.rt_front.specs.declared.entry.Entry.{Entry}
use Rattle.rt_ground.specs.DeepCalls as deep_ground
use Rattle.rt_ground.specs.Histories.{whats}
use Rattle.rt_ground.specs.StoreCalls.{own_by, seen_by, shared_meaning}
use Rattle.rt_ground.specs.StreamCalls as stream_ground
use Rattle.rt_ground.specs.declared.appended.Appended.{Appended}
use Rattle.rt_lists.proofs.Members.{front_same}
use Rattle.rt_live_names.specs.Fronts.{Fronts}
use Rattle.rt_live_names.specs.Names.{Names}
use Rattle.rt_live_names.specs.Showed.{DeepShowed, DeepShown, DeepShowsMore, Showed, Shown, ShowsMore, StreamShowed, StreamShown, StreamShowsMore, deep_shown_by, shown_by, stream_shown_by}
use Rattle.rt_live_names.proofs.Showing.{deep_showed_grows, showed_grows, stream_showed_grows}
use Rattle.rt_model.specs.Starting.{Starting, starting_contents}
use Rattle.rt_model.specs.declared.node.Seen.{Seen}
use Rattle.rt_store.specs.Meaning.{Meaning}
use Rattle.rt_stream.specs.Feed.{FeedMeaning}
use Rattle.rt_stream.proofs.Growth.{log_same}
use Rattle.rt_live_server.specs.Steps.{OverDeep, OverStore, OverStream, SeenSoFar, ServerNow, ServerStep, Sights, seen_so_far}
use Rattle.rt_live_server.specs.declared.did.ServerDid.{ServerDid}
use Rattle.rt_live_server.specs.declared.did.ServerDid.TheVariants.{Took, Passed, Saw, Moved, Loaded, Measured, Consumed, Forced, Built, Asked, Gave, Crashed, Restarted}

-- all that is shown, more
pub record SightsMore (old new : Sights) : Type 0 where
  pub store : ShowsMore old.store new.store
  pub deep : DeepShowsMore old.deep new.deep
  pub stream : StreamShowsMore old.stream new.stream

-- ---- more is shown

store_later : (s : Starting) (old new : Shown) (told : ℕ) (a b : SeenSoFar) (Step : Meaning → Meaning → Type 0) → ShowsMore old new → OverStore s old told a b Step
    → OverStore s new told a b Step
store_later s old new told a b Step more h = record {
  before = h.before;
  after = h.after;
  began = showed_grows s old new a.told a.wrote h.before more h.began;
  ended = showed_grows s old new told b.wrote h.after more h.ended;
  step = h.step;
  now = h.now;
}

deep_later : (old new : DeepShown) (told : ℕ) (a b : SeenSoFar) (Step : DeepMeaning → DeepMeaning → Type 0) → DeepShowsMore old new → OverDeep old told a b Step
    → OverDeep new told a b Step
deep_later old new told a b Step more h = record {
  before = h.before;
  after = h.after;
  began = deep_showed_grows old new a.deep_told 0 h.before more h.began;
  ended = deep_showed_grows old new told 0 h.after more h.ended;
  step = h.step;
  now = h.now;
}

stream_later : (n : ℕ) (old new : StreamShown) (told : ℕ) (a b : SeenSoFar) (Step : FeedMeaning → FeedMeaning → Type 0) → StreamShowsMore old new → OverStream n old told a b Step
    → OverStream n new told a b Step
stream_later n old new told a b Step more h = record {
  before = h.before;
  after = h.after;
  began = stream_showed_grows n old new a.stream_told h.before more h.began;
  same = h.same;
  ended = stream_showed_grows n old new told h.after more h.ended;
  step = h.step;
  now = h.now;
}

pub step_later : (n : Names) (s : Starting) (old new : Sights) → SightsMore old new → (a : ServerNow) (d : ServerDid) (b : ServerNow) → ServerStep n s old a d b → ServerStep n s new a d b
step_later n s old new more a (Took reply) b h = h
step_later n s old new more a (Passed envelope) b h = h
step_later n s old new more a (Saw told result) b h = (h.0, store_later s old.store new.store told a.seen b.seen _ more.store h.1)
step_later n s old new more a (Moved p q now told result) b h = (h.0, store_later s old.store new.store told a.seen b.seen _ more.store h.1)
step_later n s old new more a (Loaded p q told result) b h = (h.0, deep_later old.deep new.deep told a.seen b.seen _ more.deep h.1, h.2)
step_later n s old new more a (Measured p told result) b h = (h.0, h.1, stream_later s.partitions old.stream new.stream told a.seen b.seen _ more.stream h.2)
step_later n s old new more a (Consumed p q max now told result) b h = (h.0, stream_later s.partitions old.stream new.stream told a.seen b.seen _ more.stream h.1, h.2)
step_later n s old new more a (Forced p q result) b h = h
step_later n s old new more a (Built p q result) b h = h
step_later n s old new more a (Asked p q result) b h = h
step_later n s old new more a (Gave given) b h = h
step_later n s old new more a Crashed b h = h
step_later n s old new more a (Restarted told result) b h = (h.0, h.1, store_later s old.store new.store told a.seen b.seen _ more.store h.2)

-- ---- what is shown now

abbrev pub with_store : Fronts → Known Seen → Fronts
with_store f store = record f { store = store }

abbrev pub with_deep : Fronts → Known DeepPut → Fronts
with_deep f deep = record f { deep = deep }

abbrev pub with_stream : Fronts → Known Appended → Fronts
with_stream f stream = record f { stream = stream }

abbrev pub wrote_by_front : Known Seen → ℕ
wrote_by_front front = length (own_by front).writes

shows_now : (s : Starting) (front : Known Seen) (told : ℕ) → told ≡ length front.seen → Showed s (shown_by s front) told (wrote_by_front front) (shared_meaning s front)
shows_now s front told t = record {
  whole = front_same (seen_by s front);
  told_is = length-append (starting_contents s) (whats front.seen) ∙ ap (λ k. length (starting_contents s) + k) (length-map front.seen (λ (e : Entry Seen). e.what) ∙ sym t);
  writes = (own_by front).writes;
  own = refl;
  mine = front_same (own_by front).writes;
  count = refl;
  free = (refl, refl);
}

deep_now : (front : Known DeepPut) (told : ℕ) → told ≡ length front.seen → (deep_ground.own_by front).files ≡ [] → DeepShowed (deep_shown_by front) told 0 (deep_ground.shared_meaning front)
deep_now front told t none = record {
  whole = front_same (whats front.seen);
  told_is = length-map front.seen (λ (e : Entry DeepPut). e.what) ∙ sym t;
  files = (deep_ground.own_by front).files;
  own = refl;
  mine = front_same (deep_ground.own_by front).files;
  count = ap (λ (fs : List DeepPut). length fs) none;
  free = (refl, refl);
}

stream_now : (n : ℕ) (front : Known Appended) (told : ℕ) → told ≡ length front.seen → StreamShowed n (stream_shown_by n front) told (stream_ground.shared_meaning n front)
stream_now n front told t = record {
  whole = log_same (stream_ground.seen_by n front);
  entries = whats front.seen;
  seen_is = refl;
  told_is = length-map front.seen (λ (e : Entry Appended). e.what) ∙ sym t;
  own = refl;
  free = refl;
}

-- ---- a step over what the fronts show now

module _ (s : Starting) (f : Fronts) where
  pub over_store : (store : Known Seen) (told : ℕ) (Step : Meaning → Meaning → Type 0) → told ≡ length store.seen → ShowsMore (shown_by s f.store) (shown_by s store)
      → Step (shared_meaning s f.store) (shared_meaning s store) → OverStore s (shown_by s store) told (seen_so_far s f) (seen_so_far s (with_store f store)) Step
  over_store store told Step t more step =
      let later = seen_so_far s (with_store f store) in
      record {
        before = shared_meaning s f.store;
        after = shared_meaning s store;
        began = showed_grows s (shown_by s f.store) (shown_by s store) (length f.store.seen) (wrote_by_front f.store) (shared_meaning s f.store) more (shows_now s f.store (length f.store.seen) refl);
        ended = shows_now s store told t;
        step = step;
        now = ap (λ (k : ℕ). record later { told = k }) (sym t);
      }

  pub over_deep : (deep : Known DeepPut) (told : ℕ) (Step : DeepMeaning → DeepMeaning → Type 0) → told ≡ length deep.seen → DeepShowsMore (deep_shown_by f.deep) (deep_shown_by deep)
      → (deep_ground.own_by f.deep).files ≡ [] → (deep_ground.own_by deep).files ≡ []
      → Step (deep_ground.shared_meaning f.deep) (deep_ground.shared_meaning deep) → OverDeep (deep_shown_by deep) told (seen_so_far s f) (seen_so_far s (with_deep f deep)) Step
  over_deep deep told Step t more none still step =
      let later = seen_so_far s (with_deep f deep) in
      record {
        before = deep_ground.shared_meaning f.deep;
        after = deep_ground.shared_meaning deep;
        began = deep_showed_grows (deep_shown_by f.deep) (deep_shown_by deep) (length f.deep.seen) 0 (deep_ground.shared_meaning f.deep) more (deep_now f.deep (length f.deep.seen) refl none);
        ended = deep_now deep told t still;
        step = step;
        now = ap (λ (k : ℕ). record later { deep_told = k }) (sym t);
      }

  pub over_stream : (stream : Known Appended) (told : ℕ) (Step : FeedMeaning → FeedMeaning → Type 0) → told ≡ length stream.seen
      → StreamShowsMore (stream_shown_by s.partitions f.stream) (stream_shown_by s.partitions stream)
      → Step (stream_ground.shared_meaning s.partitions f.stream) (stream_ground.shared_meaning s.partitions stream)
      → OverStream s.partitions (stream_shown_by s.partitions stream) told (seen_so_far s f) (seen_so_far s (with_stream f stream)) Step
  over_stream stream told Step t more step =
      let n = s.partitions in
      let later = seen_so_far s (with_stream f stream) in
      record {
        before = stream_ground.shared_meaning n f.stream;
        after = stream_ground.shared_meaning n stream;
        began = stream_showed_grows n (stream_shown_by n f.stream) (stream_shown_by n stream) (length f.stream.seen) (stream_ground.shared_meaning n f.stream) more (stream_now n f.stream (length f.stream.seen) refl);
        same = refl;
        ended = stream_now n stream told t;
        step = step;
        now = ap (λ (k : ℕ). record later { stream_told = k }) (sym t);
      }
