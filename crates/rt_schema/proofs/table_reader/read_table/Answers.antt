use Rattle.rt_schema.proofs.Tables.{answered_is_table}
use Rattle.rt_schema.proofs.table_reader.read_table.Goals as goal

pub returns-clause-limits : goal.returns-clause-limits
returns-clause-limits c = answered_is_table c.args.schema.now c.args.text.now c.read_text.result c.read_text.ensures
