use Rattle.std.proofs.Common.{◌≡◌, ◌++◌, take, string_bytes}
use Rattle.rt_live_output.specs.Texts.{numbered_answer, texts}
use Rattle.rt_live_output.proofs.output.write_answers.Given as goal

abbrev pub invariant-loop-answer : goal.invariant-loop-answer
invariant-loop-answer l = string_bytes l.out ≡ string_bytes l.initial.out ++ texts numbered_answer (take l.answer-index l.answers)
