-- What is written of texts, one after the other.
use Rattle.std.specs.Prelude.{◌≡◌, ℕ, List, ◌++◌, Result, Ok, Err}
use Rattle.std.specs.List.{concat}
use Rattle.rt_base.specs.Sink.{SinkMeaning}
use Rattle.rt_lines.specs.declared.play_fault.PlayFault.{PlayFault}
use Rattle.rt_lines.specs.declared.play_fault.PlayFault.TheVariants.{Usage, Refused, ReadFault, WriteFault, Memory, Limit}
use Rattle.rt_writing.specs.Writing.{FailsWithin, Puts}

-- a text was written whole, or up to where the sink failed; nothing of it where memory ran out
abbrev pub WritesText : List ℕ → SinkMeaning → SinkMeaning → Result (Unit {0}) PlayFault → Type 0
WritesText text old new (Ok done) = Puts old new text
WritesText text old new (Err WriteFault) = FailsWithin text old new
WritesText text old new (Err Memory) = new ≡ old
WritesText text old new (Err Usage) = ⊥
WritesText text old new (Err ReadFault) = ⊥
WritesText text old new (Err (Refused line reason)) = ⊥
WritesText text old new (Err (Limit which)) = ⊥

-- a front of the first of these texts was written, and the sink failed
pub record FailsAmong (texts : List (List ℕ)) (old new : SinkMeaning) : Type 0 where
  pub front : List (List ℕ)
  pub rest : List (List ℕ)
  pub whole : texts ≡ front ++ rest
  pub fails : FailsWithin (concat front) old new

-- the first of these texts were written, whole
pub record PutsFront (texts : List (List ℕ)) (old new : SinkMeaning) : Type 0 where
  pub front : List (List ℕ)
  pub rest : List (List ℕ)
  pub whole : texts ≡ front ++ rest
  pub puts : Puts old new (concat front)

-- texts were written, one after the other: all, up to where the sink failed, or up to where memory ran out
abbrev pub WritesTexts : List (List ℕ) → SinkMeaning → SinkMeaning → Result (Unit {0}) PlayFault → Type 0
WritesTexts texts old new (Ok done) = Puts old new (concat texts)
WritesTexts texts old new (Err WriteFault) = FailsAmong texts old new
WritesTexts texts old new (Err Memory) = PutsFront texts old new
WritesTexts texts old new (Err Usage) = ⊥
WritesTexts texts old new (Err ReadFault) = ⊥
WritesTexts texts old new (Err (Refused line reason)) = ⊥
WritesTexts texts old new (Err (Limit which)) = ⊥
