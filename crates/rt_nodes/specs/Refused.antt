-- What a refused call of a server comes to, and what a call leaves that only looks.
use Rattle.std.specs.Prelude.{◌≡◌, ◌⊎◌, Option, Some, None, Result, Ok, Err}
use Rattle.rt_deep.specs.Calls.{told_on as got_on}
use Rattle.rt_deep.specs.Meaning.{Told as ToldDeep}
use Rattle.rt_events.specs.declared.outcome.Outcome.{Outcome}
use Rattle.rt_entry.specs.declared.refused.ServerRefused.{ServerRefused}
use Rattle.rt_store.specs.Calls.{told_on}
use Rattle.rt_store.specs.Meaning.{Told}
use Rattle.rt_events.specs.declared.outcome.Outcome.TheVariants as told
use Rattle.rt_entry.specs.declared.refused.ServerRefused.TheVariants as refused

-- a store failed; a call that ran out of memory has no outcome, and no other refusal comes of one that is due
abbrev pub failed_by : ServerRefused → Option Outcome
failed_by refused.StoreFault = Some told.Failed
failed_by refused.NotDue = None
failed_by (refused.BadFile wanted found) = None
failed_by refused.Memory = None

-- what an answered or a refused call comes to
abbrev pub outcome_by : {X : Type 0} → (X → Outcome) → Result X ServerRefused → Option Outcome
outcome_by tell (Ok x) = Some (tell x)
outcome_by tell (Err e) = failed_by e

-- a store failed, or memory ran out
abbrev pub IsFailure : ServerRefused → Type 0
IsFailure refused.StoreFault = Unit {0}
IsFailure refused.Memory = Unit {0}
IsFailure refused.NotDue = ⊥
IsFailure (refused.BadFile wanted found) = ⊥

-- nothing was written, and no more than the next planned fault was met
abbrev pub OnlyRead : Told → Told → Type 0
OnlyRead before after = (after ≡ before) ⊎ (after ≡ told_on before (λ base. base))

-- nothing was put, and no more than the next planned fault was met
abbrev pub OnlyGot : ToldDeep → ToldDeep → Type 0
OnlyGot before after = (after ≡ before) ⊎ (after ≡ got_on before (λ base. base))
