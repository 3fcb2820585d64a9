-- What a replica has to do next is what its calls do.
use Rattle.std.proofs.Common.{◌≡◌, ◌↔◌, ℕ, Bool, true, false, cond, List, Option, Some, None, IsSome, Err, option_map, refl, sym, ◌∙◌}
use Rattle.std.proofs.lemmas.Bool.{false≢true}
use Rattle.rt_base.specs.declared.numbers.Moment.{Moment}
use Rattle.rt_base.specs.declared.numbers.Offset.{Offset}
use Rattle.rt_stream.specs.Log.{Log}
use Rattle.rt_model.specs.declared.request.RequestKind.{RequestKind}
use Rattle.rt_model.specs.declared.request.RequestKind.TheVariants as kind
use Rattle.rt_model.specs.declared.request.RequestNumber.{RequestNumber}
use Rattle.rt_msgs.specs.Numbered.{Numbered, number_at}
use Rattle.rt_consumer.specs.declared.next.ReplicaDue.{ReplicaDue}
use Rattle.rt_consumer.specs.declared.next.ReplicaDue.TheVariants.{Consume, Build, Ask}
use Rattle.rt_consumer.specs.declared.phase.Phase.{Phase}
use Rattle.rt_consumer.specs.declared.phase.Phase.TheVariants as phase
use Rattle.rt_consumer.specs.declared.refused.ReplicaRefused.TheVariants.{NotDue}
use Rattle.rt_consumer.specs.declared.stage.Stage.{Stage}
use Rattle.rt_consumer.specs.declared.stage.Stage.TheVariants.{InitialConsuming, CatchingUp, Holding, ConsumingToOnline, Retaining, Building, Starting, Uploading, Ending}
use Rattle.rt_consumer.specs.declared.consumer.Consumer.{Consumer}
use Rattle.rt_consumer.specs.Batch.{asked_at, asked_in, consumed}
use Rattle.rt_consumer.specs.Consumer.{asks_at, state_at, state_of}
use Rattle.rt_consumer.specs.Next.{next_of, takes_in}
use Rattle.rt_consumer.specs.Requests.{Builds, Requests, asks_now, builds_at, builds_in, is_ready, kind_at, kind_in}

abbrev due : ReplicaDue → Option ReplicaDue
due d = Some d

-- what is next, where it is known what a replica takes, what is ready, and what it builds and asks
abbrev next_by : Bool → Bool → Bool → Bool → Option ReplicaDue
next_by takes ready builds asks = cond takes (cond ready (due Consume) None) (cond builds (due Build) (cond asks (due Ask) None))

-- one of the three at most
record Apart (takes builds asks : Bool) : Type 0 where
  builds_alone : builds ≡ true → takes ≡ false
  asks_alone : asks ≡ true → (takes ≡ false) × (builds ≡ false)

apart_at : (stage : Stage) → Apart (takes_in (state_at stage)) (builds_at stage) (asks_at stage)
apart_at InitialConsuming = record { builds_alone = λ e. absurd (false≢true e); asks_alone = λ e. absurd (false≢true e) }
apart_at (CatchingUp target reason) = record { builds_alone = λ e. absurd (false≢true e); asks_alone = λ e. absurd (false≢true e) }
apart_at (Holding reason) = record { builds_alone = λ e. refl; asks_alone = λ e. (refl, refl) }
apart_at (ConsumingToOnline end done) = record { builds_alone = λ e. absurd (false≢true e); asks_alone = λ e. absurd (false≢true e) }
apart_at (Retaining done) = record { builds_alone = λ e. refl; asks_alone = λ e. absurd (false≢true e) }
apart_at (Building reason) = record { builds_alone = λ e. refl; asks_alone = λ e. absurd (false≢true e) }
apart_at (Starting reason built) = record { builds_alone = λ e. refl; asks_alone = λ e. (refl, refl) }
apart_at (Uploading reason built) = record { builds_alone = λ e. refl; asks_alone = λ e. (refl, refl) }
apart_at (Ending reason built path) = record { builds_alone = λ e. refl; asks_alone = λ e. (refl, refl) }

apart_in : (ph : Phase) → Apart (takes_in (state_of ph)) (builds_in ph) (asks_now ph)
apart_in (phase.Unsealed o) = apart_at o.stage
apart_in (phase.Retained kept) = record { builds_alone = λ e. refl; asks_alone = λ e. (refl, refl) }
apart_in (phase.Committed kept) = record { builds_alone = λ e. refl; asks_alone = λ e. (refl, refl) }
apart_in (phase.Discarded d) = record { builds_alone = λ e. refl; asks_alone = λ e. (refl, refl) }

-- ---- what is next, by the four

consume_next : (t y b a : Bool) → next_by t y b a ≡ due Consume → (y ≡ true) × (t ≡ true)
consume_next true true b a e = (refl, refl)
consume_next true false b a e = cc
consume_next false y true a e = cc
consume_next false y false true e = cc
consume_next false y false false e = cc

next_consume : (t y b a : Bool) → y ≡ true → t ≡ true → next_by t y b a ≡ due Consume
next_consume t y b a ready takes = rw (takes, ready) refl

build_next : (t y b a : Bool) → next_by t y b a ≡ due Build → b ≡ true
build_next true true b a e = cc
build_next true false b a e = cc
build_next false y true a e = refl
build_next false y false true e = cc
build_next false y false false e = cc

next_build : (t y b a : Bool) → Apart t b a → b ≡ true → next_by t y b a ≡ due Build
next_build t y b a apart builds = rw (apart.builds_alone builds, builds) refl

ask_next : (t y b a : Bool) → next_by t y b a ≡ due Ask → a ≡ true
ask_next true true b a e = cc
ask_next true false b a e = cc
ask_next false y true a e = cc
ask_next false y false true e = refl
ask_next false y false false e = cc

next_ask : (t y b a : Bool) → Apart t b a → a ≡ true → next_by t y b a ≡ due Ask
next_ask t y b a apart asks = let alone = apart.asks_alone asks in rw (alone.0, alone.1, asks) refl

-- ---- consuming

takes_at : (f : ℕ → Consumer) (stage : Stage) (x : Offset) (max : ℕ) → takes_in (state_at stage) ≡ true → IsSome (option_map f (asked_at stage x max))
takes_at f InitialConsuming x max e = refl
takes_at f (CatchingUp target reason) x max e = refl
takes_at f (ConsumingToOnline end done) x max e = refl
takes_at f (Holding reason) x max e = absurd (false≢true e)
takes_at f (Retaining done) x max e = absurd (false≢true e)
takes_at f (Building reason) x max e = absurd (false≢true e)
takes_at f (Starting reason built) x max e = absurd (false≢true e)
takes_at f (Uploading reason built) x max e = absurd (false≢true e)
takes_at f (Ending reason built path) x max e = absurd (false≢true e)

takes_some : (f : ℕ → Consumer) (ph : Phase) (max : ℕ) → takes_in (state_of ph) ≡ true → IsSome (option_map f (asked_in ph max))
takes_some f (phase.Unsealed o) max e = takes_at f o.stage o.rows.end max e
takes_some f (phase.Retained kept) max e = absurd (false≢true e)
takes_some f (phase.Committed kept) max e = absurd (false≢true e)
takes_some f (phase.Discarded d) max e = absurd (false≢true e)

some_at : (f : ℕ → Consumer) (stage : Stage) (x : Offset) (max : ℕ) → IsSome (option_map f (asked_at stage x max)) → takes_in (state_at stage) ≡ true
some_at f InitialConsuming x max h = refl
some_at f (CatchingUp target reason) x max h = refl
some_at f (ConsumingToOnline end done) x max h = refl
some_at f (Holding reason) x max h = absurd (false≢true h)
some_at f (Retaining done) x max h = absurd (false≢true h)
some_at f (Building reason) x max h = absurd (false≢true h)
some_at f (Starting reason built) x max h = absurd (false≢true h)
some_at f (Uploading reason built) x max h = absurd (false≢true h)
some_at f (Ending reason built path) x max h = absurd (false≢true h)

some_takes : (f : ℕ → Consumer) (ph : Phase) (max : ℕ) → IsSome (option_map f (asked_in ph max)) → takes_in (state_of ph) ≡ true
some_takes f (phase.Unsealed o) max h = some_at f o.stage o.rows.end max h
some_takes f (phase.Retained kept) max h = absurd (false≢true h)
some_takes f (phase.Committed kept) max h = absurd (false≢true h)
some_takes f (phase.Discarded d) max h = absurd (false≢true h)

-- ---- asking

abbrev a_kind : RequestKind → Option RequestKind
a_kind k = Some k

is_kind : (k : RequestKind) → a_kind k ≡ None → ⊥
is_kind k e = cc

asks_some_at : (name : List ℕ) (number : RequestNumber) (stage : Stage) → asks_at stage ≡ true → kind_at name number stage ≡ None → ⊥
asks_some_at name number (Holding reason) e none = is_kind _ none
asks_some_at name number (Starting reason built) e none = is_kind _ none
asks_some_at name number (Uploading reason built) e none = is_kind _ none
asks_some_at name number (Ending reason built path) e none = is_kind _ none
asks_some_at name number InitialConsuming e none = false≢true e
asks_some_at name number (CatchingUp target reason) e none = false≢true e
asks_some_at name number (ConsumingToOnline end done) e none = false≢true e
asks_some_at name number (Retaining done) e none = false≢true e
asks_some_at name number (Building reason) e none = false≢true e

stop_asked : (b : Bool) → b ≡ true → cond b (a_kind kind.Stopped) None ≡ None → ⊥
stop_asked true e none = is_kind kind.Stopped none
stop_asked false e none = false≢true e

asks_some : (name : List ℕ) (number : RequestNumber) (ph : Phase) → asks_now ph ≡ true → kind_in name number ph ≡ None → ⊥
asks_some name number (phase.Unsealed o) e none = asks_some_at name number o.stage e none
asks_some name number (phase.Discarded d) e none = stop_asked d.stopped e none
asks_some name number (phase.Retained kept) e none = false≢true e
asks_some name number (phase.Committed kept) e none = false≢true e

asks_none_at : (name : List ℕ) (number : RequestNumber) (stage : Stage) → asks_at stage ≡ false → kind_at name number stage ≡ None
asks_none_at name number (Holding reason) e = absurd (false≢true (sym e))
asks_none_at name number (Starting reason built) e = absurd (false≢true (sym e))
asks_none_at name number (Uploading reason built) e = absurd (false≢true (sym e))
asks_none_at name number (Ending reason built path) e = absurd (false≢true (sym e))
asks_none_at name number InitialConsuming e = refl
asks_none_at name number (CatchingUp target reason) e = refl
asks_none_at name number (ConsumingToOnline end done) e = refl
asks_none_at name number (Retaining done) e = refl
asks_none_at name number (Building reason) e = refl

asks_none : (name : List ℕ) (number : RequestNumber) (ph : Phase) → asks_now ph ≡ false → kind_in name number ph ≡ None
asks_none name number (phase.Unsealed o) e = asks_none_at name number o.stage e
asks_none name number (phase.Discarded d) e = rw e refl
asks_none name number (phase.Retained kept) e = refl
asks_none name number (phase.Committed kept) e = refl

-- ---- the laws

module _ (r : Consumer) (size : Offset) (now : Moment) where
  abbrev takes : Bool
  takes = takes_in (state_of r.phase)

  abbrev ready : Bool
  ready = is_ready r size now

  abbrev builds : Bool
  builds = builds_in r.phase

  abbrev asks : Bool
  asks = asks_now r.phase

  pub consumes_due : (max : ℕ) (log : Log) → (next_of r size now ≡ Some Consume) ↔ ((is_ready r size now ≡ true) × IsSome (consumed r max now log))
  consumes_due max log = (
    (λ e. let both = consume_next takes ready builds asks e in (both.0, takes_some _ r.phase max both.1)),
    (λ both. next_consume takes ready builds asks both.0 (some_takes _ r.phase max both.1)),
  )

  builds_by : (b : Bool) → builds ≡ b → ((new : Consumer) → Builds r new (Err NotDue) → ⊥) → builds ≡ true
  builds_by true e free = e
  builds_by false e free = absurd (free r (e, refl))

  pub builds_due : (next_of r size now ≡ Some Build) ↔ ((new : Consumer) → Builds r new (Err NotDue) → ⊥)
  builds_due = (
    (λ e new h. false≢true (sym h.0 ∙ build_next takes ready builds asks e)),
    (λ free. next_build takes ready builds asks (apart_in r.phase) (builds_by builds refl free)),
  )

  asks_by : (b : Bool) → asks ≡ b → ((new : Consumer) (before after : Numbered) → Requests r new before after (Err NotDue) → ⊥) → asks ≡ true
  asks_by true e free = e
  asks_by false e free =
      let first : Numbered = record { instance = record { 0 = 0 }; incarnation = 0; made = 0 } in
      absurd (free r first first (asks_none r.name (number_at first first.made) r.phase e, refl, refl))

  pub asks_due : (next_of r size now ≡ Some Ask) ↔ ((new : Consumer) (before after : Numbered) → Requests r new before after (Err NotDue) → ⊥)
  asks_due = (
    (λ e new before after h. asks_some r.name (number_at before before.made) r.phase (ask_next takes ready builds asks e) h.0),
    (λ free. next_ask takes ready builds asks (apart_in r.phase) (asks_by asks refl free)),
  )
