-- `fill P N`: N messages, each of which says its own offset.
use Rattle.std.specs.Prelude.{ℕ, List, ◌++◌, codes, decimal, ◌==◌, nat_lt}
use Rattle.rt_base.specs.declared.numbers.Offset.{Offset}
use Rattle.rt_base.specs.declared.numbers.Partition.{Partition}
use Rattle.rt_events.specs.declared.event.Event.TheVariants.{Produce}
use Rattle.rt_events.specs.declared.refusal.Refusal.TheVariants.{NoSuchNode, NothingToDo}
use Rattle.rt_macros.specs.Doing.{Act, Choose, EachFrom, Gives, Passed, Refuses, Then}
use Rattle.rt_report.specs.MacroTexts.{filled_text}
use Rattle.rt_world.specs.Reading.{length_of}

abbrev pub numbered_text : Offset → List ℕ
numbered_text offset = codes "{\"k\":\"a\",\"v\":" ++ (decimal offset.0 ++ codes "}")

abbrev pub FillsOne : Partition → ℕ → Unit {0} → Act (Unit {0})
FillsOne partition number done w = Passed (Produce partition (numbered_text (length_of w partition))) w

-- the partition's length is told
abbrev pub TellsLength : Partition → Unit {0} → Act Offset
TellsLength partition done w = Gives (length_of w partition) w

abbrev pub Fills : Partition → ℕ → Act Offset
Fills partition count w =
    Choose (nat_lt partition.0 w.setup.partitions)
    (Choose (count == 0) (Refuses NothingToDo w) (Then (EachFrom (FillsOne partition) 0 count tt) (TellsLength partition) w))
    (Refuses NoSuchNode w)

-- the line that is reported
abbrev pub FillTold : Partition → ℕ → Act (List ℕ)
FillTold partition count w = Then (Fills partition count) (λ length. Gives (filled_text partition length)) w
