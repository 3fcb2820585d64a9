use Rattle.rt_made.proofs.Headers.{header_named}
use Rattle.rt_made.proofs.laws.the_columns_of_a_script_have_text_names.Goals as goal

pub returns : goal.returns
returns c = header_named
