-- What a controller puts it took.
use Rattle.std.proofs.Common.{◌≡◌, ◌⊎◌, inl, inr, ℕ, List, [], ◌∷◌, ◌++◌, append-nil, Option, Some, None, Result, Ok, Err, sym, ◌∙◌, ap, subst}
use Rattle.std.specs.Prelude.{All, slice_get}
use Rattle.std.proofs.lemmas.List.{append_cancel_left}
use Rattle.std.proofs.lemmas.List.Elements.{All-nil, All-cons}
use Rattle.rt_base.proofs.Planned.{left_cases}
use Rattle.rt_base.specs.declared.fault.Fault.{Fault}
use Rattle.rt_base.specs.declared.numbers.Moment.{Moment}
use Rattle.rt_model.specs.declared.job_step.JobStep.{JobStep}
use Rattle.rt_model.specs.declared.node.Key.{Key}
use Rattle.rt_model.specs.declared.node.Seen.{Seen}
use Rattle.rt_model.specs.declared.request.Request.{Request}
use Rattle.rt_deep.specs.declared.deep_put.DeepPut.{DeepPut}
use Rattle.rt_deep.specs.declared.refused.DeepRefused.{DeepRefused}
use Rattle.rt_deep.specs.declared.refused.DeepRefused.TheVariants as deep
use Rattle.rt_deep.specs.Answers as deep_answers
use Rattle.rt_deep.specs.Calls as of_deep
use Rattle.rt_deep.specs.Meaning as deep_meaning
use Rattle.rt_deep.proofs.Owning as deep_owning
use Rattle.rt_deep.proofs.Seeing.{put_by}
use Rattle.rt_store.specs.declared.refused.StoreRefused.{StoreRefused}
use Rattle.rt_store.specs.declared.refused.StoreRefused.TheVariants.{NoNode, Exists, VersionChanged, Failed, Memory}
use Rattle.rt_store.specs.Answers.{reading}
use Rattle.rt_store.specs.Calls.{Goes, Reads}
use Rattle.rt_store.specs.Meaning.{Meaning}
use Rattle.rt_store.proofs.Owning.{gains_nothing}
use Rattle.rt_commit.specs.declared.job.Job.{Job}
use Rattle.rt_commit.specs.declared.job.JobStage.TheVariants as stage
use Rattle.rt_commit.specs.declared.job.JobStage.{JobStage}
use Rattle.rt_commit.specs.Assignment.{Assigned}
use Rattle.rt_commit.specs.Calls.{Answer, Makes, DeepIdles, DeepMeaning, StoreIdles}
use Rattle.rt_commit.specs.Job.{call_at}
use Rattle.rt_model.specs.declared.asked.Asked.{Asked}
use Rattle.rt_controller.specs.declared.handled.Handled.{Handled}
use Rattle.rt_controller.specs.declared.handled.JobRefused.{JobRefused}
use Rattle.rt_controller.specs.declared.handled.JobRefused.TheVariants as refused
use Rattle.rt_controller.specs.Controller.{Controlling}
use Rattle.rt_controller.specs.Own.{IsItsUpload, PutsMore}
use Rattle.rt_controller.specs.Requests.{Turn, not_leading, uploads, not_assigned, past_last, has_machine, has_none, call_of, turn_of}
use Rattle.rt_controller.specs.Steps.{Handles, Works}
use Rattle.rt_controller.specs.Working.{job_place, work_call_at, work_call_on}
use Rattle.rt_controller.proofs.Turns.{Tells, told_turn}

-- ---- what becomes the caller's own

module _ (P : DeepPut → Type 0) where
  puts_none : (o n : Option deep_meaning.Own) → n ≡ o → PutsMore P o n
  puts_none None n e = e
  puts_none (Some o) n e =
      let with_files : List DeepPut → Option deep_meaning.Own = λ fs. Some (record { numbers = o.numbers; files = fs }) in
      ([], e ∙ ap with_files (sym (append-nil o.files)), All-nil P)

  puts_one : (o n : Option deep_meaning.Own) (base seen : List DeepPut) (f : DeepPut) → of_deep.Gains o n base seen → seen ≡ base ++ f ∷ [] → P f
      → PutsMore P o n
  puts_one None n base seen f g e p = g
  puts_one (Some o) n base seen f g e p =
      let one : g.0 ≡ f ∷ [] = append_cancel_left base g.0 (f ∷ []) (sym g.1 ∙ e) in
      (g.0, g.2, subst (All P) (sym one) (All-cons P f [] p (All-nil P)))

  puts_left : (o n : Option deep_meaning.Own) (base seen : List DeepPut) (f : DeepPut) → of_deep.Gains o n base seen
      → deep_answers.Leaves f base seen → P f → PutsMore P o n
  puts_left o n base seen f g (inl e) p = puts_none o n (deep_owning.gains_nothing o n base seen g e)
  puts_left o n base seen f g (inr e) p = puts_one o n base seen f g e.1 p

  goes_puts : {X : Type 0} (d e : DeepMeaning) (f : DeepPut) (fault : Fault) (base : List DeepPut) (answer result : Result X DeepRefused)
      → of_deep.Goes d e fault base (deep_answers.after_put f base) answer result → P f → PutsMore P d.own e.own
  goes_puts d e f fault base answer result g p =
      puts_left d.own e.own base e.seen f g.own
      (put_by f base e.seen (left_cases fault base (deep_answers.after_put f base) e.seen g.seen)) p

  puts_call : (d e : DeepMeaning) (f : DeepPut) (result : Result (Unit {0}) DeepRefused) → of_deep.PutsFile d e f result → P f → PutsMore P d.own e.own
  puts_call d e f (Err deep.Memory) c p = puts_none d.own e.own c.goes.own
  puts_call d e f (Err deep.Absent) c p = goes_puts d e f c.fault c.base (deep_answers.putting f c.base) (Err deep.Absent) c.goes p
  puts_call d e f (Err (deep.OtherBytes kept offered)) c p =
      goes_puts d e f c.fault c.base (deep_answers.putting f c.base) (Err (deep.OtherBytes kept offered)) c.goes p
  puts_call d e f (Err deep.Failed) c p = goes_puts d e f c.fault c.base (deep_answers.putting f c.base) (Err deep.Failed) c.goes p
  puts_call d e f (Ok u) c p = goes_puts d e f c.fault c.base (deep_answers.putting f c.base) (Ok u) c.goes p

-- ---- calls that add nothing

both_same : {X : Type 0} (x y : X) → (x ≡ y) ⊎ (x ≡ y) → x ≡ y
both_same x y (inl e) = e
both_same x y (inr e) = e

reading_own : {X : Type 0} (s t : Meaning) (fault : Fault) (base : List Seen) (answer result : Result X StoreRefused)
    → Goes s t fault base base answer result → t.own ≡ s.own
reading_own s t fault base answer result g =
    gains_nothing s.own t.own base t.seen g.own (both_same t.seen base (left_cases fault base base t.seen g.seen))

read_own : (s t : Meaning) (k : Key) (result : Result Seen StoreRefused) → Reads s t k result → t.own ≡ s.own
read_own s t k (Err Memory) c = c.goes.own
read_own s t k (Err NoNode) c = reading_own s t c.fault c.base (reading k c.base) (Err NoNode) c.goes
read_own s t k (Err (Exists found)) c = reading_own s t c.fault c.base (reading k c.base) (Err (Exists found)) c.goes
read_own s t k (Err (VersionChanged expected found)) c =
    reading_own s t c.fault c.base (reading k c.base) (Err (VersionChanged expected found)) c.goes
read_own s t k (Err Failed) c = reading_own s t c.fault c.base (reading k c.base) (Err Failed) c.goes
read_own s t k (Ok w) c = reading_own s t c.fault c.base (reading k c.base) (Ok w) c.goes

getting_own : {X : Type 0} (d e : DeepMeaning) (fault : Fault) (base : List DeepPut) (answer result : Result X DeepRefused)
    → of_deep.Goes d e fault base base answer result → e.own ≡ d.own
getting_own d e fault base answer result g =
    deep_owning.gains_nothing d.own e.own base e.seen g.own (both_same e.seen base (left_cases fault base base e.seen g.seen))

get_own : (d e : DeepMeaning) (path : List ℕ) (result : Result (List ℕ) DeepRefused) → of_deep.Gets d e path result → e.own ≡ d.own
get_own d e path (Err deep.Memory) c = c.goes.own
get_own d e path (Err deep.Absent) c = getting_own d e c.fault c.base (deep_answers.getting path c.base) (Err deep.Absent) c.goes
get_own d e path (Err (deep.OtherBytes kept offered)) c =
    getting_own d e c.fault c.base (deep_answers.getting path c.base) (Err (deep.OtherBytes kept offered)) c.goes
get_own d e path (Err deep.Failed) c = getting_own d e c.fault c.base (deep_answers.getting path c.base) (Err deep.Failed) c.goes
get_own d e path (Ok bytes) c = getting_own d e c.fault c.base (deep_answers.getting path c.base) (Ok bytes) c.goes

store_idle : (s t : Meaning) → StoreIdles s t → t.own ≡ s.own
store_idle s t (inl e) = ap (λ (m : Meaning). m.own) e
store_idle s t (inr (base, sees, idles)) = idles.own

deep_idle : (d e : DeepMeaning) → DeepIdles d e → e.own ≡ d.own
deep_idle d e (inl f) = ap (λ (m : DeepMeaning). m.own) f
deep_idle d e (inr (base, sees, idles)) = idles.own

same_deep_own : (d e : DeepMeaning) → e ≡ d → e.own ≡ d.own
same_deep_own d e f = ap (λ (m : DeepMeaning). m.own) f

same_own : (s t : Meaning) → t ≡ s → t.own ≡ s.own
same_own s t f = ap (λ (m : Meaning). m.own) f

-- ---- a request

turn_puts : (s t : Meaning) (d e : DeepMeaning) (c : Controlling) (r : Request) (P : Answer → Type 0) (turn : Turn) → Tells c r turn
    → Makes s t d e (call_of r turn) P → PutsMore (IsItsUpload r) d.own e.own × (t.own ≡ s.own)
turn_puts s t d e c r P not_leading told m = (puts_none (IsItsUpload r) d.own e.own (same_deep_own d e m.1), same_own s t m.0)
turn_puts s t d e c r P (uploads path bytes) told (answer, put, same, f) =
    (puts_call (IsItsUpload r) d e (record { path = path; bytes = bytes }) answer put told, same_own s t same)
turn_puts s t d e c r P not_assigned told m = (puts_none (IsItsUpload r) d.own e.own (same_deep_own d e m.1), same_own s t m.0)
turn_puts s t d e c r P past_last told m = (puts_none (IsItsUpload r) d.own e.own (same_deep_own d e m.1), same_own s t m.0)
turn_puts s t d e c r P (has_machine place what) told m = (puts_none (IsItsUpload r) d.own e.own (same_deep_own d e m.1), same_own s t m.0)
turn_puts s t d e c r P (has_none what) told (answer, read, same, f) =
    (puts_none (IsItsUpload r) d.own e.own (same_deep_own d e same), read_own s t _ answer read)

request_own : (s t : Meaning) (d e : DeepMeaning) (c new : Controlling) (r : Request) (now : Moment) (result : Result Handled (Unit {0}))
    → Handles s t d e c r now new result → PutsMore (IsItsUpload r) d.own e.own × (t.own ≡ s.own)
request_own s t d e c new r now (Ok what) h = turn_puts s t d e c r _ (turn_of c r) (told_turn c r) h
request_own s t d e c new r now (Err u) h = (puts_none (IsItsUpload r) d.own e.own (deep_idle d e h.1.1), store_idle s t h.1.0)

pub request_puts : (s t : Meaning) (d e : DeepMeaning) (c new : Controlling) (r : Request) (now : Moment) (result : Result Handled (Unit {0}))
    → Handles s t d e c r now new result → PutsMore (IsItsUpload r) d.own e.own
request_puts s t d e c new r now result h = (request_own s t d e c new r now result h).0

pub request_writes : (s t : Meaning) (d e : DeepMeaning) (c new : Controlling) (r : Request) (now : Moment) (result : Result Handled (Unit {0}))
    → Handles s t d e c r now new result → t.own ≡ s.own
request_writes s t d e c new r now result h = (request_own s t d e c new r now result h).1

-- ---- a step of a job

stage_puts : (s t : Meaning) (d e : DeepMeaning) (a : Assigned) (q : Asked) (now : Moment) (P : Answer → Type 0) (from : JobStage)
    → Makes s t d e (call_at a q now from) P → e.own ≡ d.own
stage_puts s t d e a q now P (stage.Check from end path) (answer, get, same, f) = get_own d e path answer get
stage_puts s t d e a q now P (stage.Done from commit) (answer, c, same, f) = same_deep_own d e same
stage_puts s t d e a q now P (stage.Next done) (answer, c, same, f) = same_deep_own d e same
stage_puts s t d e a q now P (stage.IdealRead w found) (answer, c, same, f) = same_deep_own d e same
stage_puts s t d e a q now P (stage.IdealSet w found ideal) (answer, c, same, f) = same_deep_own d e same
stage_puts s t d e a q now P stage.Ended m = same_deep_own d e m.1

slot_puts : (s t : Meaning) (d e : DeepMeaning) (c : Controlling) (now : Moment) (P : Answer → Type 0) (o : Option Job)
    → Makes s t d e (work_call_at c now o) P → e.own ≡ d.own
slot_puts s t d e c now P None m = same_deep_own d e m.1
slot_puts s t d e c now P (Some j) m = stage_puts s t d e c.assigned j.asked now P j.stage m

place_puts : (s t : Meaning) (d e : DeepMeaning) (c : Controlling) (now : Moment) (P : Answer → Type 0) (o : Option ℕ)
    → Makes s t d e (work_call_on c now o) P → e.own ≡ d.own
place_puts s t d e c now P None m = same_deep_own d e m.1
place_puts s t d e c now P (Some place) m = slot_puts s t d e c now P (slice_get c.jobs place) m

pub step_puts : (s t : Meaning) (d e : DeepMeaning) (c new : Controlling) (n : ℕ) (now : Moment) (result : Result JobStep JobRefused)
    → Works s t d e c n now new result → e.own ≡ d.own
step_puts s t d e c new n now (Ok step) h = place_puts s t d e c now _ (job_place c.jobs n) h
step_puts s t d e c new n now (Err refused.NoJob) h = same_deep_own d e h.3
step_puts s t d e c new n now (Err refused.Memory) h = deep_idle d e h.1.1
