-- The parts of a segment as a segment.
use Rattle.rt_segment.specs.declared.body_reader.Body.{Body}
use Rattle.rt_segment.specs.Segment.{SealedSegment}

abbrev pub segment_of : Body → SealedSegment
segment_of b = record { format = b.format; partition = b.partition; sequence = b.sequence; range = b.range; rows = b.rows; columns = b.columns }
