-- What a controller makes of a call's one answer, over stores that tell everything, is what the call could answer.
use Rattle.std.proofs.Common.{◌≡◌, ℕ, Some}
use Rattle.rt_base.specs.declared.numbers.Moment.{Moment}
use Rattle.rt_model.specs.declared.request.Request.{Request}
use Rattle.rt_deep.specs.Files.{AreOnce}
use Rattle.rt_deep.specs.Memory as deep_memory
use Rattle.rt_store.specs.Meaning.{Told}
use Rattle.rt_store.specs.Memory.{means}
use Rattle.rt_commit.specs.Calls.{Makes}
use Rattle.rt_commit.specs.Told.{ToldDeep, store_after, deep_after}
use Rattle.rt_commit.proofs.Realized.{made_told}
use Rattle.rt_controller.specs.Answers.{Handling}
use Rattle.rt_controller.specs.Controller.{Controlling}
use Rattle.rt_controller.specs.Requests.{handle_call, handle, turn_of}
use Rattle.rt_controller.specs.Told.{handled_on, worked_on}
use Rattle.rt_controller.specs.Working.{Working, work_call, work, job_place}
use Rattle.rt_controller.proofs.Telling.{out_turn, out_place}

-- ---- a call

pub made_request : (t : Told) (d : ToldDeep) (c : Controlling) (r : Request) (now : Moment) (x : Handling) → AreOnce d.files
    → handled_on t d c r now ≡ Some x
    → Makes (means t) (means (store_after t (handle_call c r))) (deep_memory.means d) (deep_memory.means (deep_after d (handle_call c r)))
    (handle_call c r) (λ a. handle c r now a ≡ Some x)
made_request t d c r now x once e = made_told t d (handle_call c r) (handle c r now) x once (out_turn c r now (turn_of c r)) e

pub made_work : (t : Told) (d : ToldDeep) (c : Controlling) (n : ℕ) (now : Moment) (x : Working) → AreOnce d.files
    → worked_on t d c n now ≡ Some x
    → Makes (means t) (means (store_after t (work_call c n now))) (deep_memory.means d) (deep_memory.means (deep_after d (work_call c n now)))
    (work_call c n now) (λ a. work c n now a ≡ Some x)
made_work t d c n now x once e = made_told t d (work_call c n now) (work c n now) x once (out_place c now (job_place c.jobs n)) e
