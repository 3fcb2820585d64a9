-- The lines of macros, but for that of a query.
use Rattle.std.specs.Prelude.{ℕ, List, Option, Some}
use Rattle.rt_lines.specs.Words.{then_some, parted_at, number_of}
use Rattle.rt_script.specs.declared.line.Macro.{Macro}
use Rattle.rt_script.specs.declared.line.Macro.TheVariants.{Fill, Exchange, Settle}
use Rattle.rt_script.specs.Words.{controller_of, instance_of, partition_of, segment_of}

-- `P N`
abbrev pub fill_of : List ℕ → Option Macro
fill_of text =
    then_some (parted_at 32 text) (λ parts.
    then_some (partition_of parts.0) (λ partition.
    then_some (number_of parts.1) (λ count.
    Some (Fill partition count))))

-- `sK P/Q cK`
abbrev pub exchange_of : List ℕ → Option Macro
exchange_of text =
    then_some (parted_at 32 text) (λ first.
    then_some (instance_of first.0) (λ instance.
    then_some (parted_at 32 first.1) (λ second.
    then_some (segment_of second.0) (λ segment.
    then_some (controller_of second.1) (λ controller.
    Some (Exchange instance segment.partition segment.sequence controller))))))

-- `N`
abbrev pub settle_of : List ℕ → Option Macro
settle_of text = then_some (number_of text) (λ rounds. Some (Settle rounds))
