-- The life of a machine: the messages that come to it, and what it makes of each in turn.
use Rattle.std.specs.Prelude.{List, [], ◌∷◌}
use Rattle.rt_base.specs.declared.numbers.Instance.{Instance}
use Rattle.rt_base.specs.declared.numbers.Moment.{Moment}
use Rattle.rt_model.specs.declared.seg_meta.SeenMeta.{SeenMeta}
use Rattle.rt_model.specs.declared.machine_state.MachineState.{MachineState}
use Rattle.rt_model.specs.declared.completion.Ask.{Ask}
use Rattle.rt_model.specs.declared.completion.Reaction.{Reaction}
use Rattle.rt_model.specs.Completion.{Completion, first, react}

-- a message as it comes to a machine
pub record Message : Type 0 where
  pub sender : Instance
  pub ask : Ask
  pub now : Moment

-- a message and what the machine made of it, with the machine before and after
pub record Step : Type 0 where
  pub before : Completion
  pub message : Message
  pub reaction : Reaction
  pub after : Completion

abbrev pub step : Completion → Message → Step
step m message = record {
  before = m;
  message = message;
  reaction = (react m message.sender message.ask message.now).0;
  after = (react m message.sender message.ask message.now).1;
}

abbrev pub steps : Completion → List Message → List Step
steps m [] = []
steps m (message ∷ messages) = step m message ∷ steps (step m message).after messages

-- the machine once it has had the messages
abbrev pub machine_after : Completion → List Message → Completion
machine_after m [] = m
machine_after m (message ∷ messages) = machine_after (step m message).after messages

-- all steps of a machine from its making on
abbrev pub life : SeenMeta → List Instance → MachineState → Moment → List Message → List Step
life seen replicas state made messages = steps (first seen replicas state made) messages
