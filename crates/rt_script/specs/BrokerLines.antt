-- The lines of the broker, but for those with the text of a query.
use Rattle.std.specs.Prelude.{ℕ, List, Option, Some}
use Rattle.rt_events.specs.declared.event.Event.{Event}
use Rattle.rt_events.specs.declared.event.Event.TheVariants.{Route, Piece, Answer}
use Rattle.rt_lines.specs.Words.{then_some, parted_at}
use Rattle.rt_script.specs.Words.{instance_of, partition_of, query_of, segment_of}

-- `qN P`
abbrev pub route_of : List ℕ → Option Event
route_of text =
    then_some (parted_at 32 text) (λ parts.
    then_some (query_of parts.0) (λ query.
    then_some (partition_of parts.1) (λ partition.
    Some (Route query partition))))

-- `qN P/Q sK`
abbrev pub piece_of : List ℕ → Option Event
piece_of text =
    then_some (parted_at 32 text) (λ first.
    then_some (query_of first.0) (λ query.
    then_some (parted_at 32 first.1) (λ second.
    then_some (segment_of second.0) (λ segment.
    then_some (instance_of second.1) (λ instance.
    Some (Piece query segment.partition segment.sequence instance))))))

-- `qN`
abbrev pub answer_of : List ℕ → Option Event
answer_of text = then_some (query_of text) (λ query. Some (Answer query))
