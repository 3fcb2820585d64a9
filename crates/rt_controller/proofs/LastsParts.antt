-- What lasts of a controller beside what its machines and jobs have read.
use Rattle.std.proofs.Common.{◌≡◌}
use Rattle.std.specs.Prelude.{All}
use Rattle.std.proofs.lemmas.List.Elements.{All-weaker}
use Rattle.rt_lists.specs.Members.{IsFront}
use Rattle.rt_model.specs.declared.setup.Setup.{Setup}
use Rattle.rt_store.specs.Contents.{starting_of}
use Rattle.rt_past.specs.Past.{Past}
use Rattle.rt_commit.specs.Assignment.{assigned_by}
use Rattle.rt_commit.specs.Lasting.{IsJobOver}
use Rattle.rt_commit.proofs.Lasts.{JobLasts, job_lasts_of}
use Rattle.rt_controller.specs.Controller.{Controlling}
use Rattle.rt_controller.specs.IsController.{IsController}
use Rattle.rt_controller.specs.Lasting.{IsMachineOver, IsControllerOver, HaveOneMachine, ArePaired, AreNumbered}
use Rattle.rt_controller.proofs.LastsMachines.{MachineLasts, lasts_of}

-- ---- what lasts beside what was read

pub record Lasts (setup : Setup) (past : Past) (c : Controlling) : Type 0 where
  pub assigned : c.assigned ≡ assigned_by setup
  pub machines : All (MachineLasts setup past) c.machines
  pub jobs : All (JobLasts setup past) c.jobs
  pub one : HaveOneMachine c.machines
  pub paired : ArePaired c.machines c.jobs
  pub numbered : AreNumbered c.jobs c.started

pub parts_of : (setup : Setup) (past : Past) (c : Controlling) → IsControllerOver setup past c → Lasts setup past c
parts_of setup past c k =
    record {
      assigned = k.assigned;
      machines = All-weaker (IsMachineOver setup past) (MachineLasts setup past) (lasts_of setup past) c.machines k.machines;
      jobs = All-weaker (IsJobOver setup past) (JobLasts setup past) (job_lasts_of setup past) c.jobs k.jobs;
      one = k.one;
      paired = k.paired;
      numbered = k.numbered;
    }

pub whole_of : (setup : Setup) (past : Past) (c : Controlling) → IsController (starting_of setup) past.history c → Lasts setup past c
    → IsControllerOver setup past c
whole_of setup past c i k =
    record {
      assigned = k.assigned;
      machines = λ n d lt.
          let m = k.machines n d lt in
          record { machine = i.machines n d lt; entered = m.entered; offsets = m.offsets; replicas = m.replicas };
      jobs = λ n d lt.
          let j = k.jobs n d lt in
          record { job = i.jobs n d lt; asked = j.asked; backed = j.backed; trying = j.trying };
      one = k.one;
      paired = k.paired;
      numbered = k.numbered;
    }

-- the controller after a request, which stays itself and goes on with its jobs
pub record Stays (setup : Setup) (past : Past) (c new : Controlling) : Type 0 where
  pub lasts : Lasts setup past new
  pub id : new.id ≡ c.id
  pub jobs : IsFront c.jobs new.jobs
