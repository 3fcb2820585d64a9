use Rattle.rt_schema.proofs.TableNames.{no_suffix}
use Rattle.rt_schema.proofs.table_reader.base_name.Goals as goal

pub returns-in-None : goal.returns-in-None
returns-in-None c = no_suffix c.args.name.now c.in-None.ensures.cases
