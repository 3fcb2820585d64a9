use Rattle.rt_live_server.proofs.NeverLess.{no_less_of_deep, no_less_of_store, no_less_of_stream}
use Rattle.rt_live_server.proofs.laws.what_a_server_was_shown_never_falls.Goals as goal

pub returns-clause-store : goal.returns-clause-store
returns-clause-store c = no_less_of_store

pub returns-clause-deep : goal.returns-clause-deep
returns-clause-deep c = no_less_of_deep

pub returns-clause-stream : goal.returns-clause-stream
returns-clause-stream c = no_less_of_stream
