-- Whichever of two outcomes of one text an event had, the same is noted, and told.
use Rattle.std.proofs.Common.{◌≡◌, refl}
use Rattle.rt_events.specs.declared.event.Event.{Event}
use Rattle.rt_events.specs.declared.event.Event.TheVariants as event
use Rattle.rt_events.specs.declared.outcome.Outcome.{Outcome}
use Rattle.rt_play.proofs.TellingEvents.{deletions_alike, replies_alike, requests_alike, started_alike}
use Rattle.rt_play.proofs.TellingNodes.{nodes_alike}
use Rattle.rt_play.proofs.TellingSteps.{steps_alike}
use Rattle.rt_play.specs.Ledger.{IsPaired}
use Rattle.rt_play.specs.NotedWords.{FitsWords}
use Rattle.rt_play.specs.Telling.{AreAlike}
use Rattle.rt_report.specs.Outcome.{outcome_text}

pub alike : (e : Event) (a b : Outcome) → FitsWords e a → FitsWords e b → IsPaired e a → IsPaired e b → outcome_text e a ≡ outcome_text e b → AreAlike e a b
alike (event.Report i p q) a b v w k l same = requests_alike i p q a b v w same
alike (event.Deliver m c) a b v w k l same = started_alike m c a b v w same
alike (event.Job c j) a b v w k l same = steps_alike c j a b k l same
alike (event.Reply m) a b v w k l same = replies_alike m a b v w same
alike (event.ShowMeta p q) a b v w k l same = nodes_alike p q a b v w same
alike (event.Retain c p) a b v w k l same = deletions_alike c p a b v w same
alike other a b v w k l same = record { noted = λ notes. refl; tells = λ ranges marks notes so. tt }
