use Rattle.rt_script.proofs.Fitting.{fits_by}
use Rattle.rt_script.proofs.line.read_words.Goals as goal

pub returns-in-Some-clause-fits : goal.returns-in-Some-clause-fits
returns-in-Some-clause-fits c = fits_by c.args.schema.now c.in-Some.command c.args.text.now c.plain.result c.plain.ensures
