use Rattle.rt_server.proofs.LastingNeeds.{history_needed, messages_needed, numbers_needed, start_needed}
use Rattle.rt_server.proofs.lasting.what_lasts_meets_the_calls.Goals as goal

pub returns-clause-history : goal.returns-clause-history
returns-clause-history c = λ setup past s m right k shown. history_needed setup past s right k m shown

pub returns-clause-start : goal.returns-clause-start
returns-clause-start c = λ setup past s m p q right k shown. start_needed setup past s right k m p q shown

pub returns-clause-messages : goal.returns-clause-messages
returns-clause-messages c = λ setup past s p q right k. messages_needed setup past s right k p q

pub returns-clause-numbers : goal.returns-clause-numbers
returns-clause-numbers c = λ setup past s k few. numbers_needed setup past s k few
