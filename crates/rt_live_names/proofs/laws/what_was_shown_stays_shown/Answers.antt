use Rattle.rt_live_names.proofs.Showing.{deep_showed_grows, showed_grows, stream_showed_grows}
use Rattle.rt_live_names.proofs.laws.what_was_shown_stays_shown.Goals as goal

pub returns-clause-store : goal.returns-clause-store
returns-clause-store c = showed_grows

pub returns-clause-deep : goal.returns-clause-deep
returns-clause-deep c = deep_showed_grows

pub returns-clause-stream : goal.returns-clause-stream
returns-clause-stream c = stream_showed_grows
