-- A controller, its caller, and all that it did.
use Rattle.std.specs.Prelude.{◌≡◌, ℕ, List, All, length}
use Rattle.rt_base.specs.declared.numbers.Offset.{Offset}
use Rattle.rt_base.specs.declared.numbers.Partition.{Partition}
use Rattle.rt_base.specs.declared.numbers.Sequence.{Sequence}
use Rattle.rt_commit.specs.Own.{HasReadFile}
use Rattle.rt_controller.specs.Controller.{Controlling}
use Rattle.rt_controller.specs.IsController.{IsController}
use Rattle.rt_controller.specs.Own.{AreTaken}
use Rattle.rt_ground.specs.Histories.{whats}
use Rattle.rt_ground.specs.StoreCalls.{seen_by}
use Rattle.rt_live_names.specs.ControllerPart.{ControllerPart, IsControllerPart, controller_view}
use Rattle.rt_live_names.specs.Fronts.{Fronts, own_files, own_writes}
use Rattle.rt_live_names.specs.Names.{Names}
use Rattle.rt_live_names.specs.Replays.{Replays}
use Rattle.rt_model.specs.Starting.{Starting}
use Rattle.rt_store.specs.Contents.{starting_of}
use Rattle.rt_live_controller.specs.Begun.{HasBegun, HasWritten, WasBegun}
use Rattle.rt_live_controller.specs.ControllerSteps.{ControllerNow, ControllerStep, first_now, sight_by}
use Rattle.rt_live_controller.specs.Did.{replies_of, requests_of}
use Rattle.rt_live_controller.specs.declared.controller_did.ControllerDid.{ControllerDid}

pub record ControllerActs : Type 0 where
  pub number : ℕ
  pub controller : Controlling
  pub fronts : Fronts
  pub did : List ControllerDid

-- what it can say by itself is about this
abbrev pub part_of : ControllerActs → ControllerPart
part_of a = record {
  number = a.number;
  fronts = a.fronts;
  requests = requests_of a.did;
  replies = replies_of a.did;
}

-- what it is at the end of its replay: all that its fronts show it, and all that is its own
abbrev pub now_of : ControllerActs → ControllerNow
now_of a = record {
  controller = a.controller;
  told = length a.fronts.store.seen;
  wrote = length (own_writes a.fronts);
  deep_told = length a.fronts.deep.seen;
  put = length (own_files a.fronts);
}

-- what each thing that it did is a step of
abbrev pub StepOf : Names → ControllerActs → ControllerNow → ControllerDid → ControllerNow → Type 0
StepOf n a = ControllerStep (starting_of n.setup) (sight_by (starting_of n.setup) a.fronts)

abbrev pub WasBegunIn : Names → ControllerActs → Partition → Sequence → Offset → List ℕ → Type 0
WasBegunIn n a p q end path = WasBegun (StepOf n a) (first_now n.setup a.number) a.did p q end path

pub record IsActing (n : Names) (a : ControllerActs) : Type 0 where
  pub ready : IsController (starting_of n.setup) (seen_by (starting_of n.setup) a.fronts.store) a.controller
  pub replays : Replays (StepOf n a) (first_now n.setup a.number) a.did (now_of a)
  pub part : IsControllerPart n (part_of a)
  -- each unfinished job answers a request that was taken, has read the file that its Done metadata is to name, and began at
  -- its machine
  pub taken : AreTaken (controller_view n (part_of a)) a.controller.jobs
  pub read : All (λ j. HasReadFile (whats a.fronts.deep.seen) j.asked j.stage) a.controller.jobs
  pub begun : All (λ j. HasBegun (WasBegunIn n a) j.asked j.stage) a.controller.jobs
  -- and so did each job that wrote Done metadata
  pub written : All (λ w. HasWritten (WasBegunIn n a) w.key w.node) (own_writes a.fronts)

-- it is of this ground, and knows how many partitions there are
pub record IsActingOf (n : Names) (s : Starting) (count : ℕ) (a : ControllerActs) : Type 0 where
  pub starting : starting_of n.setup ≡ s
  pub partitions : count ≡ n.setup.partitions
  pub is : IsActing n a
