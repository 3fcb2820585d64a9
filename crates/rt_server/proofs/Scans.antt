-- A query of the schema can be answered by each entry of a table.
use Rattle.std.specs.Map.{values_of}
use Rattle.std.proofs.lemmas.List.Elements.{All-weaker}
use Rattle.std.proofs.lemmas.Map.Views.{IfSome-lookup_from_All}
use Rattle.rt_base.specs.declared.numbers.Partition.{Partition}
use Rattle.rt_base.specs.declared.numbers.Sequence.{Sequence}
use Rattle.rt_model.specs.declared.query.Query.{Query}
use Rattle.rt_model.specs.declared.setup.Setup.{Setup}
use Rattle.rt_model.specs.Checked.{IsQuery}
use Rattle.rt_entry.specs.Entry.{IsEntry}
use Rattle.rt_server.specs.Kept.{IsServer}
use Rattle.rt_entry.specs.Serving.{FitsEntry}
use Rattle.rt_server.specs.Scans.{FitsTable}
use Rattle.rt_server.specs.Table.{Segments, is_segment}
use Rattle.rt_entry.proofs.Served.{entry_fits}

-- ---- queries fit

pub table_fits : (query : Query) (setup : Setup) (t : Segments) (p : Partition) (q : Sequence) → IsServer setup t → IsQuery setup.schema query → FitsTable query t p q
table_fits query setup t p q s is =
    IfSome-lookup_from_All (FitsEntry query) (is_segment p q) t.entries
    (All-weaker (IsEntry setup) (FitsEntry query) (λ x k. entry_fits query setup x is k) (values_of t.entries) s.entries)
