use Rattle.rt_upconf.proofs.Settings.{answered_is_config}
use Rattle.rt_upconf.proofs.Telling.{answered_is_told}
use Rattle.rt_upconf.proofs.upsert_reader.read_upsert.Goals as goal

pub returns-clause-columns : goal.returns-clause-columns
returns-clause-columns c = answered_is_config c.args.schema.now c.args.schema_text.now c.args.table_text.now c.read_texts.result c.read_texts.ensures

pub returns-clause-told : goal.returns-clause-told
returns-clause-told c = answered_is_told c.args.schema.now c.args.schema_text.now c.args.table_text.now c.read_texts.result c.read_texts.ensures
