-- The lines of what lies outside the nodes: the stream, the clock, who leads, planned faults, and what is looked at.
use Rattle.std.specs.Prelude.{ℕ, Bool, true, false, List, Option, None, Some, codes, bytes_eq, if◌then◌else◌}
use Rattle.rt_events.specs.declared.event.Event.{Event}
use Rattle.rt_events.specs.declared.event.Event.TheVariants.{Produce, Tick, Lead, FaultStore, FaultDeep, ShowMeta, ShowIdeal}
use Rattle.rt_lines.specs.Words.{then_some, parted_at, number_of}
use Rattle.rt_script.specs.Words.{controller_of, partition_of, segment_of}

-- `P TEXT`
abbrev pub produce_of : List ℕ → Option Event
produce_of text =
    then_some (parted_at 32 text) (λ parts.
    then_some (partition_of parts.0) (λ partition.
    Some (Produce partition parts.1)))

-- `N`
abbrev pub tick_of : List ℕ → Option Event
tick_of text = then_some (number_of text) (λ millis. Some (Tick millis))

abbrev pub on_of : List ℕ → Option Bool
on_of word = if bytes_eq word (codes "on") then Some true else (if bytes_eq word (codes "off") then Some false else None)

-- `cK on` or `cK off`
abbrev pub lead_of : List ℕ → Option Event
lead_of text =
    then_some (parted_at 32 text) (λ parts.
    then_some (controller_of parts.0) (λ controller.
    then_some (on_of parts.1) (λ on.
    Some (Lead controller on))))

abbrev pub kept_of : List ℕ → Option Bool
kept_of word = if bytes_eq word (codes "kept") then Some true else (if bytes_eq word (codes "lost") then Some false else None)

abbrev pub fault_by : List ℕ → Bool → Option Event
fault_by word kept =
    if bytes_eq word (codes "store") then Some (FaultStore kept) else
    (if bytes_eq word (codes "deep") then Some (FaultDeep kept) else None)

-- `store lost`, `store kept`, `deep lost` or `deep kept`
abbrev pub fault_of : List ℕ → Option Event
fault_of text = then_some (parted_at 32 text) (λ parts. then_some (kept_of parts.1) (fault_by parts.0))

abbrev pub meta_of : List ℕ → Option Event
meta_of word = then_some (segment_of word) (λ segment. Some (ShowMeta segment.partition segment.sequence))

-- `meta P/Q` or `ideal`
abbrev pub show_of : List ℕ → Option Event
show_of text =
    if bytes_eq text (codes "ideal") then Some ShowIdeal else
    then_some (parted_at 32 text) (λ parts. if bytes_eq parts.0 (codes "meta") then meta_of parts.1 else None)
