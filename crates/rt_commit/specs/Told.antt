-- The call of a step over stores that tell everything.
use Rattle.std.specs.Prelude.{◌≡◌, Option, Some}
use Rattle.rt_model.specs.Lawful.{set, create_after}
use Rattle.rt_deep.specs.Answers.{putting, getting, after_put}
use Rattle.rt_deep.specs.Calls as of_deep
use Rattle.rt_deep.specs.Meaning as deep_meaning
use Rattle.rt_store.specs.Answers.{reading, answer_of, after_call}
use Rattle.rt_store.specs.Calls.{answer_on, told_on}
use Rattle.rt_store.specs.Meaning.{Told}
use Rattle.rt_commit.specs.Calls as calls
use Rattle.rt_commit.specs.Calls.{Call, calls_nothing, puts, gets, reads, sets, creates, Answer}

abbrev pub ToldDeep : Type 0
ToldDeep = deep_meaning.Told

-- what the store tells after a call
abbrev pub store_after : Told → Call → Told
store_after t calls_nothing = t
store_after t (puts path bytes) = t
store_after t (gets path) = t
store_after t (reads k) = told_on t (λ base. base)
store_after t (sets from n) = told_on t (after_call (set from n))
store_after t (creates k n prior) = told_on t (after_call (create_after k n prior))

-- what the deep store tells after it
abbrev pub deep_after : ToldDeep → Call → ToldDeep
deep_after d calls_nothing = d
deep_after d (puts path bytes) = of_deep.told_on d (after_put (record { path = path; bytes = bytes }))
deep_after d (gets path) = of_deep.told_on d (λ base. base)
deep_after d (reads k) = d
deep_after d (sets from n) = d
deep_after d (creates k n prior) = d

-- the one answer of a call
abbrev pub answer_to : Told → ToldDeep → Call → Answer
answer_to t d calls_nothing = calls.nothing
answer_to t d (puts path bytes) = calls.put (of_deep.answer_on d (putting (record { path = path; bytes = bytes })))
answer_to t d (gets path) = calls.got (of_deep.answer_on d (getting path))
answer_to t d (reads k) = calls.read (answer_on t (reading k))
answer_to t d (sets from n) = calls.set (answer_on t (answer_of (λ w. w.version) (set from n)))
answer_to t d (creates k n prior) = calls.created (answer_on t (answer_of (λ w. tt) (create_after k n prior)))

-- the call left this, and this was made of its answer
pub record IsExact {X : Type 0} (t u : Told) (d e : ToldDeep) (call : Call) (given : Option X) (x : X) : Type 0 where
  pub store : u ≡ store_after t call
  pub deep : e ≡ deep_after d call
  pub made : given ≡ Some x
