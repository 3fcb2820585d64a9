-- The wanted file of a segment is loaded.
use Rattle.std.specs.Prelude.{◌≡◌, ℕ, Option, Some, None, Result, Err}
use Rattle.rt_base.specs.declared.numbers.Partition.{Partition}
use Rattle.rt_base.specs.declared.numbers.Sequence.{Sequence}
use Rattle.rt_schema.specs.declared.schema.Schema.{Schema}
use Rattle.rt_deep.specs.Meaning.{Meaning}
use Rattle.rt_entry.specs.declared.entry.CommittedSegment.{CommittedSegment}
use Rattle.rt_entry.specs.declared.entry.Entry.{Entry}
use Rattle.rt_entry.specs.declared.entry.Entry.TheVariants.{Replica, Committed}
use Rattle.rt_entry.specs.declared.refused.ServerRefused.{ServerRefused}
use Rattle.rt_entry.specs.declared.refused.ServerRefused.TheVariants.{NotDue}
use Rattle.rt_server.specs.Table.{Segments, entry_of, put_back}
use Rattle.rt_entry.specs.Download.{LoadsFile}

abbrev pub committed_at : Option Entry → Option CommittedSegment
committed_at None = None
committed_at (Some (Replica r)) = None
committed_at (Some (Committed c)) = Some c

-- the file of the segment's entry is loaded, and all other entries stay; not due where no file is wanted
abbrev pub DownloadsAt : Option CommittedSegment → Meaning → Meaning → Schema → Segments → Segments → Partition → Sequence → Result ℕ ServerRefused → Type 0
DownloadsAt None before after schema old new p q result = (after ≡ before) × (result ≡ Err NotDue) × (new ≡ old)
DownloadsAt (Some c) before after schema old new p q result =
    (next : CommittedSegment) × LoadsFile before after schema p q c next result × (new ≡ put_back old p q (Committed next))

abbrev pub Downloads : Meaning → Meaning → Schema → Segments → Segments → Partition → Sequence → Result ℕ ServerRefused → Type 0
Downloads before after schema old new p q result =
    DownloadsAt (committed_at (entry_of old p q)) before after schema old new p q result
