-- What comes of several events, one after the other, from a world on: the turns by which another world is reached, that world,
-- and what is told or why something was refused.
use Rattle.std.specs.Prelude.{◌≡◌, ◌+◌, ◌++◌, ℕ, zero, suc, Bool, true, false, List, [], ◌∷◌, Result, Ok, Err}
use Rattle.rt_events.specs.declared.event.Event.{Event}
use Rattle.rt_events.specs.declared.outcome.Outcome.{Outcome}
use Rattle.rt_events.specs.declared.refusal.Refusal.{Refusal}
use Rattle.rt_events.specs.declared.refusal.Refusal.TheVariants.{NoSuchMessage, NoSuchNode, NodeDown, NothingToDo, Limit, Memory}
use Rattle.rt_safety.specs.Runs.{Leads, Turn, happens, passes}
use Rattle.rt_state.specs.Clock.{Passes, pass_due}
use Rattle.rt_world.specs.Kept.{Kept}
use Rattle.rt_state.specs.Room.{dropped}
use Rattle.rt_world.specs.Step.{Steps, due_of}
use Rattle.rt_state.specs.declared.state.State.{State}

-- ---- what is reached

-- a world, and the turns by which it was reached from another one
pub record Reached : Type 0 where
  pub turns : List Turn
  pub world : State

abbrev pub reached : List Turn → State → Reached
reached turns w = record { turns = turns; world = w }

-- by no turn
abbrev pub stays : State → Reached
stays w = reached [] w

-- by some turns, and then by others
abbrev pub after : List Turn → Reached → Reached
after turns v = record { turns = turns ++ v.turns; world = v.world }

-- what may come of something in a world, and what it comes to
abbrev pub Coming : Type 0 → Type 1
Coming A = Reached → Result A Refusal → Type 0

abbrev pub Act : Type 0 → Type 1
Act A = State → Coming A

-- ---- several things

-- nothing happens, and this is told
abbrev pub Gives : {A : Type 0} → A → Act A
Gives x w v result = (v ≡ stays w) × (result ≡ Ok x)

-- nothing happens, for this reason
abbrev pub Refuses : {A : Type 0} → Refusal → Act A
Refuses refusal w v result = (v ≡ stays w) × (result ≡ Err refusal)

-- what comes behind something that told this, or was refused
abbrev pub Further : {A B : Type 0} → (A → Act B) → State → Reached → Result A Refusal → Result B Refusal → Type 0
Further behind x v (Ok told) result = behind told x v result
Further behind x v (Err refusal) result = Refuses refusal x v result

-- something, and what comes behind it
pub record Then {A B : Type 0} (first : Act A) (behind : A → Act B) (w : State) (v : Reached) (result : Result B Refusal) : Type 0 where
  pub between : Reached
  pub told : Result A Refusal
  pub last : Reached
  pub came : first w between told
  pub further : Further behind between.world last told result
  pub whole : v ≡ after between.turns last

-- something, and what comes behind it whether it was refused or not
pub record Tries {A B : Type 0} (first : Act A) (behind : Result A Refusal → Act B) (w : State) (v : Reached) (result : Result B Refusal) : Type 0 where
  pub between : Reached
  pub told : Result A Refusal
  pub last : Reached
  pub came : first w between told
  pub further : behind told between.world last result
  pub whole : v ≡ after between.turns last

-- the one or the other, by a test
abbrev pub Choose : {A : Type 0} → Bool → Coming A → Coming A → Coming A
Choose true act other v result = act v result
Choose false act other v result = other v result

-- something for each item, one after the other; what is noted at one is handed on to the next
abbrev pub Each : {A S : Type 0} → (A → S → Act S) → List A → S → Act S
Each act [] noted w = Gives noted w
Each act (x ∷ xs) noted w = Then (act x noted) (Each act xs) w

-- something for so many numbers from a first one on
abbrev pub EachFrom : {S : Type 0} → (ℕ → S → Act S) → ℕ → ℕ → S → Act S
EachFrom act first zero noted w = Gives noted w
EachFrom act first (suc count) noted w = Then (act first noted) (EachFrom act (first + 1) count) w

-- ---- an event

abbrev pub HappensBy : Event → Act Outcome
HappensBy event w v (Ok outcome) = Steps w event v.world (Ok outcome) × (v.turns ≡ happens event outcome ∷ [])
HappensBy event w v (Err refusal) = (due_of w event ≡ Err refusal) × (v ≡ stays w)

-- an event is a turn, with its outcome; where it is refused it changes nothing, and is none
pub record Happens (event : Event) (w : State) (v : Reached) (result : Result Outcome Refusal) : Type 0 where
  pub by : HappensBy event w v result

-- an event whose outcome tells nothing more
abbrev pub Passed : Event → Act (Unit {0})
Passed event w = Then (Happens event) (λ outcome. Gives tt) w

-- where there is something to do it is noted that the event happened
abbrev pub AttemptedBy : Bool → Result Outcome Refusal → Act Bool
AttemptedBy busy (Ok outcome) w = Gives true w
AttemptedBy busy (Err NothingToDo) w = Gives busy w
AttemptedBy busy (Err NoSuchMessage) w = Refuses NoSuchMessage w
AttemptedBy busy (Err NoSuchNode) w = Refuses NoSuchNode w
AttemptedBy busy (Err NodeDown) w = Refuses NodeDown w
AttemptedBy busy (Err (Limit which)) w = Refuses (Limit which) w
AttemptedBy busy (Err Memory) w = Refuses Memory w

-- an event that happens where there is something to do
abbrev pub Attempted : Event → Bool → Act Bool
Attempted event busy w = Tries (Happens event) (AttemptedBy busy) w

abbrev pub PassesBy : Act (Unit {0})
PassesBy w v (Ok done) = Passes w v.world (Ok done) × (v.turns ≡ passes ∷ [])
PassesBy w v (Err refusal) = (dropped (pass_due w) ≡ Err refusal) × (v ≡ stays w)

-- a line that is no event is passed over, or refused
pub record PassesOver (w : State) (v : Reached) (result : Result (Unit {0}) Refusal) : Type 0 where
  pub by : PassesBy w v result

-- ---- calls

-- turns led from a world to this one
pub record IsLed (from v : State) : Type 0 where
  pub turns : List Turn
  pub led : Leads from turns v

-- turns led from a world to this one, and this came of them
pub record Comes {A : Type 0} (wanted : Coming A) (from v : State) (result : Result A Refusal) : Type 0 where
  pub turns : List Turn
  pub came : wanted (reached turns v) result
  pub led : Leads from turns v

-- this was done from a world on. Where memory ran out at an event the world is spent; where it ran out beside the world, for a
-- list or a text, turns have led to this one
abbrev pub DoesFrom : {A : Type 0} → Coming A → State → Kept → Result A Refusal → Type 0
DoesFrom wanted from new (Ok x) = (new.spent ≡ false) × Comes wanted from new.state (Ok x)
DoesFrom wanted from new (Err Memory) = new.spent ≡ false → IsLed from new.state
DoesFrom wanted from new (Err NoSuchMessage) = (new.spent ≡ false) × Comes wanted from new.state (Err NoSuchMessage)
DoesFrom wanted from new (Err NoSuchNode) = (new.spent ≡ false) × Comes wanted from new.state (Err NoSuchNode)
DoesFrom wanted from new (Err NodeDown) = (new.spent ≡ false) × Comes wanted from new.state (Err NodeDown)
DoesFrom wanted from new (Err NothingToDo) = (new.spent ≡ false) × Comes wanted from new.state (Err NothingToDo)
DoesFrom wanted from new (Err (Limit which)) = (new.spent ≡ false) × Comes wanted from new.state (Err (Limit which))

-- a call did this from a world on
abbrev pub Does : {A : Type 0} → Act A → State → Kept → Result A Refusal → Type 0
Does act from new result = DoesFrom (act from) from new result

-- a call did this, and made the text that is told of it
abbrev pub text_told : List ℕ → Result (Unit {0}) Refusal → Result (List ℕ) Refusal
text_told text (Ok done) = Ok text
text_told text (Err refusal) = Err refusal

abbrev pub DoesText : Act (List ℕ) → State → Kept → List ℕ → Result (Unit {0}) Refusal → Type 0
DoesText act from new text result = Does act from new (text_told text result)
