-- What its fronts showed a server never falls: each step shows it as much as the one before it, or more.
use Rattle.std.proofs.Common.{◌≡◌, ◌≤◌, ℕ, ap, sym, subst, arith}
use Rattle.rt_deep.specs.Meaning.{Meaning as DeepMeaning}
use Rattle.rt_ground.proofs.Entries.{front_length}
use Rattle.rt_lists.specs.Members.{IsFront}
use Rattle.rt_live_names.specs.Names.{Names}
use Rattle.rt_live_names.specs.Showed.{DeepShown, Shown, StreamShown}
use Rattle.rt_model.specs.Lawful.{bump}
use Rattle.rt_model.specs.Starting.{Starting}
use Rattle.rt_server.proofs.SeesLawfully.{sees_keeps, transits_keeps}
use Rattle.rt_store.specs.Meaning.{Meaning}
use Rattle.rt_store.proofs.Seeing.{write_grows}
use Rattle.rt_stream.specs.Feed.{FeedMeaning, Grows}
use Rattle.rt_stream.specs.Log.{Log}
use Rattle.rt_stream.proofs.Growth.{log_same}
use Rattle.rt_live_server.specs.Steps.{OverDeep, OverStore, OverStream, SeenSoFar, ServerNow, ServerStep, Sights}
use Rattle.rt_live_server.specs.declared.did.ServerDid.{ServerDid}
use Rattle.rt_live_server.specs.declared.did.ServerDid.TheVariants.{Took, Passed, Saw, Moved, Loaded, Measured, Consumed, Forced, Built, Asked, Gave, Crashed, Restarted}
use Rattle.rt_live_server.proofs.Showing.{downloads_keep, takes_keep}

-- as much as before of each of the three, or more
record SeesAsMuch (a b : SeenSoFar) : Type 0 where
  pub told : a.told ≤ b.told
  pub deep_told : a.deep_told ≤ b.deep_told
  pub log : Grows a.log b.log

sees_same : (a b : SeenSoFar) → b ≡ a → SeesAsMuch a b
sees_same a b e =
    let same : SeesAsMuch a a = record { told = omega arith; deep_told = omega arith; log = log_same a.log } in
    subst (λ (x : SeenSoFar). SeesAsMuch a x) (sym e) same

-- ---- over one of the three

over_store : (s : Starting) (shown : Shown) (told : ℕ) (a b : SeenSoFar) (Step : Meaning → Meaning → Type 0) (h : OverStore s shown told a b Step)
    → IsFront h.before.seen h.after.seen → SeesAsMuch a b
over_store s shown told a b Step h front =
    let no_less : a.told ≤ told = omega (arith, h.began.told_is, h.ended.told_is, front_length h.before.seen h.after.seen front) in
    let now : SeesAsMuch a (record a { told = told; wrote = b.wrote }) = record { told = no_less; deep_told = omega arith; log = log_same a.log } in
    subst (λ (x : SeenSoFar). SeesAsMuch a x) (sym h.now) now

over_deep : (shown : DeepShown) (told : ℕ) (a b : SeenSoFar) (Step : DeepMeaning → DeepMeaning → Type 0) (h : OverDeep shown told a b Step)
    → IsFront h.before.seen h.after.seen → SeesAsMuch a b
over_deep shown told a b Step h front =
    let no_less : a.deep_told ≤ told = omega (arith, h.began.told_is, h.ended.told_is, front_length h.before.seen h.after.seen front) in
    let now : SeesAsMuch a (record a { deep_told = told }) = record { told = omega arith; deep_told = no_less; log = log_same a.log } in
    subst (λ (x : SeenSoFar). SeesAsMuch a x) (sym h.now) now

over_stream : (n : ℕ) (shown : StreamShown) (told : ℕ) (a b : SeenSoFar) (Step : FeedMeaning → FeedMeaning → Type 0) (h : OverStream n shown told a b Step)
    → Grows h.before.seen h.after.seen → SeesAsMuch a b
over_stream n shown told a b Step h grows =
    let more : Grows a.log h.after.seen = subst (λ (log : Log). Grows log h.after.seen) h.same grows in
    let now : SeesAsMuch a (record a { stream_told = told; log = h.after.seen }) = record { told = omega arith; deep_told = omega arith; log = more } in
    subst (λ (x : SeenSoFar). SeesAsMuch a x) (sym h.now) now

-- ---- each thing that it does

module _ (n : Names) (s : Starting) (shown : Sights) where
  as_much : (a : ServerNow) (d : ServerDid) (b : ServerNow) → ServerStep n s shown a d b → SeesAsMuch a.seen b.seen
  as_much a (Took reply) b h = sees_same a.seen b.seen h.0.1
  as_much a (Passed envelope) b h = sees_same a.seen b.seen (ap (λ (x : ServerNow). x.seen) h.0)
  as_much a (Saw told result) b h = over_store s shown.store told a.seen b.seen _ h.1 (sees_keeps s h.1.before h.1.after a.server b.server result h.1.step).grows
  as_much a (Moved p q now told result) b h =
      over_store s shown.store told a.seen b.seen _ h.1 (transits_keeps s h.1.before h.1.after a.server b.server p q now result h.1.step).grows
  as_much a (Loaded p q told result) b h =
      over_deep shown.deep told a.seen b.seen _ h.1 (downloads_keep h.1.before h.1.after a.server.setup.schema a.server.table b.server.table p q result h.1.step).grows
  as_much a (Measured p told result) b h = over_stream s.partitions shown.stream told a.seen b.seen _ h.2 h.2.step.grows
  as_much a (Consumed p q max now told result) b h =
      over_stream s.partitions shown.stream told a.seen b.seen _ h.1 (takes_keep h.1.before h.1.after a.server.table b.server.table p q max now result h.1.step).grows
  as_much a (Forced p q result) b h = sees_same a.seen b.seen h.0.1
  as_much a (Built p q result) b h = sees_same a.seen b.seen h.0.1
  as_much a (Asked p q result) b h = sees_same a.seen b.seen h.0.1
  as_much a (Gave given) b h = sees_same a.seen b.seen (ap (λ (x : ServerNow). x.seen) h.0)
  as_much a Crashed b h = sees_same a.seen b.seen (ap (λ (x : ServerNow). x.seen) h)
  as_much a (Restarted told result) b h =
      over_store s shown.store told a.seen b.seen _ h.2
      (write_grows (λ w. w.version) h.2.before h.2.after (bump a.server.numbers.instance) h.2.step.0 h.2.step.1)

  module _ (a b : ServerNow) (d : ServerDid) (h : ServerStep n s shown a d b) where
    pub no_less_of_store : a.seen.told ≤ b.seen.told
    no_less_of_store = (as_much a d b h).told

    pub no_less_of_deep : a.seen.deep_told ≤ b.seen.deep_told
    no_less_of_deep = (as_much a d b h).deep_told

    pub no_less_of_stream : Grows a.seen.log b.seen.log
    no_less_of_stream = (as_much a d b h).log
