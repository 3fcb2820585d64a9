-- What is told of a line: a text, and what the line leaves on the desk.
use Rattle.std.specs.Prelude.{ℕ, List, Result, Ok, Err}
use Rattle.rt_desk.specs.declared.desk.Desk.{Desk}
use Rattle.rt_events.specs.declared.refusal.Refusal.{Refusal}
use Rattle.rt_macros.specs.Doing.{Act, Does, Gives, PassesOver, Then}
use Rattle.rt_state.specs.declared.state.State.{State}
use Rattle.rt_world.specs.Kept.{Kept}

-- ---- lines that leave the desk as it was

-- what is told of a line that counts as an event, and changes nothing else of the world
abbrev pub Counts : List ℕ → Act (List ℕ)
Counts text w = Then PassesOver (λ done. Gives text) w

-- ---- lines that change a part of the desk

-- what is told of a line, and the part behind it
pub record Changed (Part : Type 0) : Type 0 where
  pub text : List ℕ
  pub part : Part

abbrev pub changed : {Part : Type 0} → Part → List ℕ → Changed Part
changed part text = record { text = text; part = part }

-- such a line that counts as an event, and changes nothing else of the world
abbrev pub CountsAs : {Part : Type 0} → Part → List ℕ → Act (Changed Part)
CountsAs part text w = Then PassesOver (λ done. Gives (changed part text)) w

-- a call did this, and made the text and the part that are told of it
abbrev pub changed_by : {Part : Type 0} → List ℕ → Part → Result (Unit {0}) Refusal → Result (Changed Part) Refusal
changed_by text part (Ok done) = Ok (changed part text)
changed_by text part (Err refusal) = Err refusal

abbrev pub DoesChange : {Part : Type 0} → Act (Changed Part) → State → Kept → List ℕ → Part → Result (Unit {0}) Refusal → Type 0
DoesChange act from new text part result = Does act from new (changed_by text part result)

-- ---- all lines

-- what is told of a line, and the desk behind it
abbrev pub Told : Type 0
Told = Changed Desk

abbrev pub told : Desk → List ℕ → Told
told desk text = changed desk text

abbrev pub Telling : Type 1
Telling = Act Told

-- a line leaves the desk as it was
abbrev pub Beside : Desk → Act (List ℕ) → Telling
Beside desk act w = Then act (λ text. Gives (told desk text)) w

-- a line puts a part on the desk
abbrev pub Puts : {Part : Type 0} → (Part → Desk) → Act (Changed Part) → Telling
Puts put act w = Then act (λ x. Gives (told (put x.part) x.text)) w

abbrev pub DoesTold : Telling → State → Kept → List ℕ → Desk → Result (Unit {0}) Refusal → Type 0
DoesTold act from new text desk result = DoesChange act from new text desk result
