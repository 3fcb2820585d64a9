use Rattle.rt_model.proofs.Retiring.{no_witness}
use Rattle.rt_model.proofs.laws.an_older_ideal_state_is_no_witness.Goals as goal

pub returns : goal.returns
returns c = no_witness
