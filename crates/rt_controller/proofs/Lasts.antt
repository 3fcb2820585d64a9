-- What lasts of a controller stays true as the past grows, and through what needs no store.
use Rattle.std.proofs.Common.{ℕ, ◌≤◌, Bool, true, false, length, Option, Some, None, refl, sym, subst, arith}
use Rattle.std.proofs.lemmas.List.Elements.{All-nil, All-weaker, All-filter}
use Rattle.rt_base.specs.declared.numbers.ControllerId.{ControllerId}
use Rattle.rt_base.specs.declared.numbers.Offset.{Offset}
use Rattle.rt_model.specs.declared.reporter.Reporter.{Reporter}
use Rattle.rt_model.specs.declared.setup.Setup.{Setup}
use Rattle.rt_model.specs.Completion.{Completion}
use Rattle.rt_model.specs.Setup.{IsSetup}
use Rattle.rt_stream.specs.Log.{messages_of}
use Rattle.rt_store.specs.Contents.{starting_of}
use Rattle.rt_fsm.specs.Laws.{IsNoteWithin, HasOffsetsWithin}
use Rattle.rt_past.specs.IsPast.{IsPast}
use Rattle.rt_past.specs.Past.{Past, Grows}
use Rattle.rt_past.proofs.Growth.{length_grows, entry_grows}
use Rattle.rt_commit.specs.Assignment.{Assigned, IsAssigned}
use Rattle.rt_commit.specs.IsJob.{IsJob}
use Rattle.rt_commit.specs.Lasting.{IsJobOver}
use Rattle.rt_commit.proofs.Lasts.{job_lasts}
use Rattle.rt_controller.specs.declared.segment_machine.SegmentMachine.{SegmentMachine}
use Rattle.rt_controller.specs.Controller.{Controlling, beginning, believing, crashed}
use Rattle.rt_controller.specs.IsController.{IsMachine, IsController}
use Rattle.rt_controller.specs.Lasting.{IsMachineOver, IsControllerOver}
use Rattle.rt_controller.proofs.Keeps.{machine_on}
use Rattle.rt_controller.proofs.Numbered.{none_numbered}
use Rattle.rt_controller.proofs.PairedJobs.{commits_now, spared_paired, spared_one}

-- ---- as the past grows

note_grows : (start : Offset) (a b : ℕ) (o : Option Offset) → a ≤ b → IsNoteWithin start a o → IsNoteWithin start b o
note_grows start a b None le n = n
note_grows start a b (Some x) le n = (n.0, omega (arith, n.1, le))

offsets_grow : (a b : ℕ) (m : Completion) → a ≤ b → HasOffsetsWithin a m → HasOffsetsWithin b m
offsets_grow a b m le k =
    record {
      notes =
          All-weaker (λ (r : Reporter). IsNoteWithin m.seen.meta.start a r.note) (λ (r : Reporter). IsNoteWithin m.seen.meta.start b r.note)
          (λ r. note_grows m.seen.meta.start a b r.note le) m.reporters k.notes;
      offset = λ picked. ((k.offset picked).0, omega (arith, (k.offset picked).1, le));
    }

machine_lasts : (setup : Setup) (a b : Past) (m : SegmentMachine) → Grows a b → IsMachineOver setup a m → IsMachineOver setup b m
machine_lasts setup a b m g k =
    record {
      machine = machine_on (starting_of setup) a.history b.history m g.history k.machine;
      entered = entry_grows a.history b.history m.partition m.sequence g.history k.entered;
      offsets =
          offsets_grow (length (messages_of a.log m.partition)) (length (messages_of b.log m.partition)) m.machine
          (length_grows a.log b.log m.partition g.log) k.offsets;
      replicas = k.replicas;
    }

pub controller_lasts : (setup : Setup) (a b : Past) (c : Controlling) → Grows a b → IsControllerOver setup a c → IsControllerOver setup b c
controller_lasts setup a b c g k =
    record {
      assigned = k.assigned;
      machines = All-weaker (IsMachineOver setup a) (IsMachineOver setup b) (λ m. machine_lasts setup a b m g) c.machines k.machines;
      jobs = All-weaker (IsJobOver setup a) (IsJobOver setup b) (λ j. job_lasts setup a b j g) c.jobs k.jobs;
      one = k.one;
      paired = k.paired;
      numbered = k.numbered;
    }

-- ---- the controller begins, is told whether it leads, and crashes

pub begins_over : (setup : Setup) (past : Past) (id : ControllerId) → IsControllerOver setup past (beginning id setup)
begins_over setup past id =
    record {
      assigned = refl;
      machines = All-nil (IsMachineOver setup past);
      jobs = All-nil (IsJobOver setup past);
      one = λ p s. omega arith;
      paired = λ p s x. refl;
      numbered = none_numbered 0;
    }

pub believes_over : (setup : Setup) (past : Past) (c : Controlling) (leads : Bool) → IsControllerOver setup past c
    → IsControllerOver setup past (believing c leads)
believes_over setup past c true k =
    record {
      assigned = k.assigned;
      machines = k.machines;
      jobs = k.jobs;
      one = k.one;
      paired = k.paired;
      numbered = k.numbered;
    }
believes_over setup past c false k =
    record {
      assigned = k.assigned;
      machines = All-filter commits_now (IsMachineOver setup past) c.machines k.machines;
      jobs = k.jobs;
      one = spared_one c.machines k.one;
      paired = spared_paired c.machines c.jobs k.paired;
      numbered = k.numbered;
    }

pub crashes_over : (setup : Setup) (past : Past) (c : Controlling) → IsControllerOver setup past c → IsControllerOver setup past (crashed c)
crashes_over setup past c k =
    record {
      assigned = k.assigned;
      machines = All-nil (IsMachineOver setup past);
      jobs = All-nil (IsJobOver setup past);
      one = λ p s. omega arith;
      paired = λ p s x. refl;
      numbered = none_numbered c.started;
    }

-- ---- it is ready for its calls

pub ready_over : (setup : Setup) (past : Past) (c : Controlling) → IsSetup setup → IsPast setup past → IsControllerOver setup past c
    → IsController (starting_of setup) past.history c
ready_over setup past c s p k =
    let A : Assigned → Type 0 = IsAssigned in
    record {
      assigned = subst A (sym k.assigned) (record { named = s.table.named; some = s.some_replicas; enough = s.enough_servers });
      lawful = p.lawful;
      machines = All-weaker (IsMachineOver setup past) (IsMachine (starting_of setup) past.history) (λ m over. over.machine) c.machines k.machines;
      jobs = All-weaker (IsJobOver setup past) (IsJob (starting_of setup) past.history) (λ j over. over.job) c.jobs k.jobs;
    }
