-- How the report of an event begins: by a word, and what the event is about.
use Rattle.std.specs.Prelude.{ℕ, List, ◌++◌, codes}
use Rattle.rt_events.specs.declared.event.Event.{Event}
use Rattle.rt_report.specs.Subject.{subject_text}
use Rattle.rt_report.specs.Words.{told_text}

-- by this word
abbrev pub worded_text : List ℕ → Event → List ℕ → List ℕ
worded_text word event tail = word ++ (codes " " ++ (subject_text event ++ tail))

-- by the word of an event that happened as it should
abbrev pub told_of : Event → List ℕ → List ℕ
told_of event tail = worded_text (told_text event) event tail
