-- Which queries the entry of a segment can be scanned for.
use Rattle.std.specs.Prelude.{IfSome}
use Rattle.rt_base.specs.declared.numbers.Partition.{Partition}
use Rattle.rt_base.specs.declared.numbers.Sequence.{Sequence}
use Rattle.rt_model.specs.declared.query.Query.{Query}
use Rattle.rt_server.specs.Table.{Segments, entry_of}
use Rattle.rt_entry.specs.Serving.{FitsEntry}

abbrev pub FitsTable : Query → Segments → Partition → Sequence → Type 0
FitsTable query t p q = IfSome (entry_of t p q) (FitsEntry query)
