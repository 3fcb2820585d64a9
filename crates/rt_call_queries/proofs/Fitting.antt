-- A query of a schema fits the segments that have its columns.
use Rattle.std.proofs.Common.{◌≡◌, true, map}
use Rattle.rt_schema.specs.declared.column.Column.{Column}
use Rattle.rt_schema.specs.declared.schema.Schema.{Schema}
use Rattle.rt_model.specs.declared.query.Query.{Query}
use Rattle.rt_model.specs.Checked.{IsQuery}
use Rattle.rt_mutable.specs.Column.{Shape}
use Rattle.rt_mutable.specs.Consuming.{Consuming}
use Rattle.rt_segment.specs.Segment.{SealedSegment, are_columns}
use Rattle.rt_scan.specs.Scanned.{FitsSealed, FitsConsuming}

pub fits_sealed : (query : Query) (schema : Schema) (sealed : SealedSegment) → IsQuery schema query → are_columns sealed.columns schema.columns ≡ true → FitsSealed query sealed
fits_sealed query schema sealed parsed columns = record { schema = schema; parsed = parsed; columns = columns }

pub fits_consuming : (query : Query) (schema : Schema) (segment : Consuming) → IsQuery schema query →
    map (λ (shape : Shape). shape.name) segment.columns ≡ map (λ (column : Column). column.name) schema.columns →
    map (λ (shape : Shape). shape.kind) segment.columns ≡ map (λ (column : Column). column.kind) schema.columns →
    FitsConsuming query segment
fits_consuming query schema segment parsed names kinds = record { schema = schema; parsed = parsed; names = names; kinds = kinds }
