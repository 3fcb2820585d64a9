-- A call shows its caller no less of its stores.
use Rattle.std.proofs.Common.{◌≡◌, ℕ, inl, inr, Result, Ok, Err, sym, subst}
use Rattle.rt_base.specs.declared.numbers.Moment.{Moment}
use Rattle.rt_commit.specs.Calls.{Answer, Call, DeepIdles, DeepMeaning, Makes, RanOut, StoreIdles, calls_nothing, creates, gets, puts, reads, sets}
use Rattle.rt_controller.specs.Controller.{Controlling}
use Rattle.rt_controller.specs.Requests.{handle_call}
use Rattle.rt_controller.specs.Steps.{Handles, Works}
use Rattle.rt_controller.specs.Working.{work_call}
use Rattle.rt_controller.specs.declared.handled.Handled.{Handled}
use Rattle.rt_controller.specs.declared.handled.JobRefused.TheVariants.{Memory, NoJob}
use Rattle.rt_controller.specs.declared.handled.JobRefused.{JobRefused}
use Rattle.rt_deep.specs.Files.{AreOnce}
use Rattle.rt_deep.proofs.Seeing.{get_grows, get_once, puts_grow, puts_once}
use Rattle.rt_lists.specs.Members.{IsFront}
use Rattle.rt_lists.proofs.Members.{front_same}
use Rattle.rt_model.specs.Lawful.{create_after, set}
use Rattle.rt_model.specs.declared.job_step.JobStep.{JobStep}
use Rattle.rt_model.specs.declared.request.Request.{Request}
use Rattle.rt_store.specs.Meaning.{Meaning}
use Rattle.rt_store.proofs.Seeing.{read_grows, write_grows}

pub record Grown (s t : Meaning) (d e : DeepMeaning) : Type 0 where
  pub history : IsFront s.seen t.seen
  pub files : IsFront d.seen e.seen
  pub once : AreOnce d.seen → AreOnce e.seen

module _ (s t : Meaning) (d e : DeepMeaning) where
  same_history : t ≡ s → IsFront s.seen t.seen
  same_history same = subst (λ (m : Meaning). IsFront s.seen m.seen) (sym same) (front_same s.seen)

  same_files : e ≡ d → IsFront d.seen e.seen
  same_files same = subst (λ (m : DeepMeaning). IsFront d.seen m.seen) (sym same) (front_same d.seen)

  same_once : e ≡ d → AreOnce d.seen → AreOnce e.seen
  same_once same once = subst (λ (m : DeepMeaning). AreOnce m.seen) (sym same) once

  grown_same : t ≡ s → e ≡ d → Grown s t d e
  grown_same store deep = record { history = same_history store; files = same_files deep; once = same_once deep }

  grown_by : IsFront s.seen t.seen → e ≡ d → Grown s t d e
  grown_by front deep = record { history = front; files = same_files deep; once = same_once deep }

  grown_made : (call : Call) (P : Answer → Type 0) → Makes s t d e call P → Grown s t d e
  grown_made calls_nothing P m = grown_same m.0 m.1
  grown_made (puts path bytes) P (answer, c, same, p) =
      record { history = same_history same; files = puts_grow d e path bytes answer c; once = λ once. puts_once d e path bytes answer c }
  grown_made (gets path) P (answer, c, same, p) =
      record { history = same_history same; files = get_grows d e path answer c; once = λ once. get_once d e path answer c }
  grown_made (reads k) P (answer, c, same, p) = grown_by (read_grows s t k answer c) same
  grown_made (sets from n) P (answer, c, same, p) = grown_by (write_grows (λ w. w.version) s t (set from n) answer c) same
  grown_made (creates k n prior) P (answer, c, same, p) = grown_by (write_grows (λ w. tt) s t (create_after k n prior) answer c) same

  idle_history : StoreIdles s t → IsFront s.seen t.seen
  idle_history (inl same) = same_history same
  idle_history (inr (base, sees, idles)) = subst (IsFront s.seen) (sym idles.seen) sees.grows

  idle_files : DeepIdles d e → IsFront d.seen e.seen
  idle_files (inl same) = same_files same
  idle_files (inr (base, sees, idles)) = subst (IsFront d.seen) (sym idles.seen) sees.grows

  idle_once : DeepIdles d e → AreOnce d.seen → AreOnce e.seen
  idle_once (inl same) once = same_once same once
  idle_once (inr (base, sees, idles)) once = subst AreOnce (sym idles.seen) sees.once

  grown_idle : RanOut s t d e → Grown s t d e
  grown_idle out = record { history = idle_history out.0; files = idle_files out.1; once = idle_once out.1 }

  pub request_grown : {E : Type 0} (c new : Controlling) (r : Request) (now : Moment) (result : Result Handled E)
      → Handles s t d e c r now new result → Grown s t d e
  request_grown c new r now (Ok what) h = grown_made (handle_call c r) _ h
  request_grown c new r now (Err refused) h = grown_idle h.1

  pub step_grown : (c new : Controlling) (n : ℕ) (now : Moment) (result : Result JobStep JobRefused)
      → Works s t d e c n now new result → Grown s t d e
  step_grown c new n now (Ok step) h = grown_made (work_call c n now) _ h
  step_grown c new n now (Err NoJob) h = grown_same h.2 h.3
  step_grown c new n now (Err Memory) h = grown_idle h.1
