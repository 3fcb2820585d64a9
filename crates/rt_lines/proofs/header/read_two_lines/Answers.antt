use Rattle.rt_lines.proofs.Headers.{tables_read, tables_taken}
use Rattle.rt_lines.proofs.header.read_two_lines.Goals as goal

pub returns-clause-taken : goal.returns-clause-taken
returns-clause-taken c =
    tables_taken c.args.lines.now c.read_table_line.new.lines c.read_table_line.result
    (tables_read c.args.lines.now c.read_schema_line.new.lines c.read_table_line.new.lines c.in_ok-said.said c.read_table_line.result c.in_ok-said.ensures.reads c.read_table_line.ensures.reads)
