-- The replay of what a controller did: each thing is a step by the relation of its call.
use Rattle.std.specs.Prelude.{◌≡◌, ◌≤◌, ℕ, true}
use Rattle.rt_controller.specs.Controller.{Controlling, beginning, believing}
use Rattle.rt_controller.specs.Steps.{Handles, Works}
use Rattle.rt_commit.specs.Calls.{DeepMeaning}
use Rattle.rt_link.specs.declared.envelope.Envelope.{Envelope}
use Rattle.rt_link.specs.declared.envelope.Envelope.TheVariants.{Asks, Replies}
use Rattle.rt_live_names.specs.Fronts.{Fronts}
use Rattle.rt_live_names.specs.Showed.{DeepShowed, DeepShown, Showed, Shown, deep_shown_by, shown_by}
use Rattle.rt_model.specs.Starting.{Starting}
use Rattle.rt_model.specs.declared.setup.Setup.{Setup}
use Rattle.rt_store.specs.Meaning.{Meaning}
use Rattle.rt_live_controller.specs.declared.controller_did.ControllerDid.{ControllerDid}
use Rattle.rt_live_controller.specs.declared.controller_did.ControllerDid.TheVariants.{Believed, Heard, Passed, Worked}

-- what is replayed: the controller, how much its fronts showed it of the store and of the deep store, and how much of that
-- was its own
pub record ControllerNow : Type 0 where
  pub controller : Controlling
  pub told : ℕ
  pub wrote : ℕ
  pub deep_told : ℕ
  pub put : ℕ

abbrev pub first_now : Setup → ℕ → ControllerNow
first_now setup number = record {
  controller = beginning (record { 0 = number }) setup;
  told = 0;
  wrote = 0;
  deep_told = 0;
  put = 0;
}

-- what its two stores show it
pub record Sight : Type 0 where
  pub store : Shown
  pub deep : DeepShown

abbrev pub sight_by : Starting → Fronts → Sight
sight_by s f = record { store = shown_by s f.store; deep = deep_shown_by f.deep }

-- a call over what its stores meant before it and after it, as they showed then
pub record CallsSo (s : Starting) (sight : Sight) (a b : ControllerNow)
    (Step : Meaning → Meaning → DeepMeaning → DeepMeaning → Type 0) : Type 0 where
  pub before : Meaning
  pub after : Meaning
  pub deep_before : DeepMeaning
  pub deep_after : DeepMeaning
  pub was : Showed s sight.store a.told a.wrote before
  pub is : Showed s sight.store b.told b.wrote after
  pub deep_was : DeepShowed sight.deep a.deep_told a.put deep_before
  pub deep_is : DeepShowed sight.deep b.deep_told b.put deep_after
  pub step : Step before after deep_before deep_after

-- an envelope is passed by where it isn't a request of one of the cluster's partitions
abbrev pub IsPassed : ℕ → Envelope → Type 0
IsPassed partitions (Asks request) = partitions ≤ request.partition.0
IsPassed partitions (Replies reply) = Unit {0}

abbrev pub ControllerStep : Starting → Sight → ControllerNow → ControllerDid → ControllerNow → Type 0
ControllerStep s sight a Believed b = b ≡ record a { controller = believing a.controller true }
ControllerStep s sight a (Heard request now result told deep_told) b =
    (b.told ≡ told) × (b.deep_told ≡ deep_told)
    × CallsSo s sight a b (λ x y d e. Handles x y d e a.controller request now b.controller result)
ControllerStep s sight a (Passed envelope) b = (b ≡ a) × IsPassed s.partitions envelope
ControllerStep s sight a (Worked job now result told deep_told) b =
    (b.told ≡ told) × (b.deep_told ≡ deep_told)
    × CallsSo s sight a b (λ x y d e. Works x y d e a.controller job now b.controller result)
