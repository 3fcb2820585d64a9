-- What a server serves of a piece of a plan.
use Rattle.std.specs.Prelude.{Option, Some, None, Result, Err}
use Rattle.rt_model.specs.declared.piece.Piece.{Piece}
use Rattle.rt_entry.specs.declared.entry.Entry.{Entry}
use Rattle.rt_entry.specs.declared.refused.ServeRefused.{ServeRefused}
use Rattle.rt_entry.specs.declared.refused.ServeRefused.TheVariants.{NotServed}
use Rattle.rt_entry.specs.declared.served_rows.ServedRows.{ServedRows}
use Rattle.rt_server.specs.Table.{Segments, entry_of}
use Rattle.rt_entry.specs.Serving.{serve_entry}

abbrev pub serve_at : Piece → Option Entry → Result ServedRows ServeRefused
serve_at piece None = Err (NotServed None)
serve_at piece (Some e) = serve_entry piece e

-- the range and the rows of a piece; or not served, with the end that is held
abbrev pub serve : Segments → Piece → Result ServedRows ServeRefused
serve t piece = serve_at piece (entry_of t piece.partition piece.sequence)
