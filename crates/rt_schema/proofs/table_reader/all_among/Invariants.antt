use Rattle.std.proofs.Common.{◌≡◌, drop}
use Rattle.rt_schema.specs.Schema.{names_of}
use Rattle.rt_schema.specs.TableText.{all_among}
use Rattle.rt_schema.proofs.table_reader.all_among.Given as goal

abbrev pub invariant-loop-text : goal.invariant-loop-text
invariant-loop-text l = all_among (drop l.text-index l.asked) (names_of l.columns) ≡ all_among l.asked (names_of l.columns)
