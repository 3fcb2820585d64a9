-- Over stores that tell everything each call has one outcome.
use Rattle.std.proofs.Common.{◌≡◌, inl, inr, List, Option, Some, None, Result, Err, refl, sym, ◌∙◌, ap}
use Rattle.rt_base.specs.declared.numbers.Moment.{Moment}
use Rattle.rt_model.specs.declared.asked.Asked.{Asked}
use Rattle.rt_model.specs.declared.node.Seen.{Seen}
use Rattle.rt_model.specs.Lawful.{set, create_after}
use Rattle.rt_deep.specs.declared.deep_put.DeepPut.{DeepPut}
use Rattle.rt_deep.specs.declared.refused.DeepRefused.{DeepRefused}
use Rattle.rt_deep.specs.declared.refused.DeepRefused.TheVariants as deep
use Rattle.rt_deep.specs.Answers.{putting, getting, after_put}
use Rattle.rt_deep.specs.Calls as of_deep
use Rattle.rt_deep.specs.Memory as deep_memory
use Rattle.rt_deep.proofs.Seeing as deep_seeing
use Rattle.rt_store.specs.declared.refused.StoreRefused.{StoreRefused}
use Rattle.rt_store.specs.declared.refused.StoreRefused.TheVariants.{Memory}
use Rattle.rt_store.specs.Answers.{reading, answer_of, after_call}
use Rattle.rt_store.specs.Calls as of_store
use Rattle.rt_store.specs.Calls.{answer_on, told_on}
use Rattle.rt_store.specs.Meaning.{Told, Meaning}
use Rattle.rt_store.specs.Memory.{means}
use Rattle.rt_store.proofs.Seeing.{told_exact}
use Rattle.rt_commit.specs.declared.job.JobStage.TheVariants as stage
use Rattle.rt_commit.specs.declared.job.JobStage.{JobStage}
use Rattle.rt_commit.specs.Assignment.{Assigned}
use Rattle.rt_commit.specs.Calls as calls
use Rattle.rt_commit.specs.Calls.{Call, calls_nothing, puts, gets, reads, sets, creates, Answer, put, got, read, created, Makes, StoreIdles, DeepIdles, RanOut, DeepMeaning}
use Rattle.rt_commit.specs.Job.{call_at, step_at}
use Rattle.rt_commit.specs.Told.{ToldDeep, answer_to, IsExact}

abbrev whole : Told → Option Told
whole t = Some t

same_told : (t u : Told) → whole u ≡ whole t → u ≡ t
same_told t u e = cc

pub same_means : (t u : Told) → means u ≡ means t → u ≡ t
same_means t u e = same_told t u (ap (λ (m : Meaning). m.told) e)

abbrev whole_deep : ToldDeep → Option ToldDeep
whole_deep t = Some t

same_deep : (t u : ToldDeep) → whole_deep u ≡ whole_deep t → u ≡ t
same_deep t u e = cc

pub same_deep_means : (t u : ToldDeep) → deep_memory.means u ≡ deep_memory.means t → u ≡ t
same_deep_means t u e = same_deep t u (ap (λ (m : DeepMeaning). m.told) e)

not_none : {Y : Type 0} (o : Option Y) (y : Y) → o ≡ None → o ≡ Some y → ⊥
not_none o y e f = absurd (cc)

-- ---- one call

-- an answer of which something was made is the one answer
stored :
    {X Y : Type 0} (t u : Told) (answer : List Seen → Result X StoreRefused) (after : List Seen → List Seen)
    (result : Result X StoreRefused) (go : Result X StoreRefused → Option Y) (y : Y) → go (Err Memory) ≡ None
    → of_store.Calls (means t) (means u) answer after result → go result ≡ Some y
    → (u ≡ told_on t after) × (go (answer_on t answer) ≡ Some y)
stored t u answer after result go y none c e = by_cases (told_exact t u answer after result c)
  where
    by_cases : of_store.IsExact t u answer after result → (u ≡ told_on t after) × (go (answer_on t answer) ≡ Some y)
    by_cases (inl x) = absurd (not_none (go result) y (ap go x.0 ∙ none) e)
    by_cases (inr x) = (x.1, ap go (sym x.0) ∙ e)

filed :
    {X Y : Type 0} (t u : ToldDeep) (answer : List DeepPut → Result X DeepRefused) (after : List DeepPut → List DeepPut)
    (result : Result X DeepRefused) (go : Result X DeepRefused → Option Y) (y : Y) → go (Err deep.Memory) ≡ None
    → of_deep.Calls (deep_memory.means t) (deep_memory.means u) answer after result → go result ≡ Some y
    → (u ≡ of_deep.told_on t after) × (go (of_deep.answer_on t answer) ≡ Some y)
filed t u answer after result go y none c e = by_cases (deep_seeing.told_exact t u answer after result c)
  where
    by_cases : of_deep.IsExact t u answer after result → (u ≡ of_deep.told_on t after) × (go (of_deep.answer_on t answer) ≡ Some y)
    by_cases (inl x) = absurd (not_none (go result) y (ap go x.0 ∙ none) e)
    by_cases (inr x) = (x.1, ap go (sym x.0) ∙ e)

-- nothing is made where memory ran out in the call
abbrev pub RunsOut : {Y : Type 0} → (Answer → Option Y) → Call → Type 0
RunsOut f calls_nothing = Unit {0}
RunsOut f (puts path bytes) = f (put (Err deep.Memory)) ≡ None
RunsOut f (gets path) = f (got (Err deep.Memory)) ≡ None
RunsOut f (reads k) = f (read (Err Memory)) ≡ None
RunsOut f (sets from n) = f (calls.set (Err Memory)) ≡ None
RunsOut f (creates k n prior) = f (created (Err Memory)) ≡ None

pub told_call : {Y : Type 0} (t u : Told) (d e : ToldDeep) (call : Call) (f : Answer → Option Y) (y : Y) → RunsOut f call
    → Makes (means t) (means u) (deep_memory.means d) (deep_memory.means e) call (λ a. f a ≡ Some y)
    → IsExact t u d e call (f (answer_to t d call)) y
told_call t u d e calls_nothing f y none (store, files, p) =
    record { store = same_means t u store; deep = same_deep_means d e files; made = p }
told_call t u d e (puts path bytes) f y none (answer, c, same, p) =
    let file : DeepPut = record { path = path; bytes = bytes } in
    let x = filed d e (putting file) (after_put file) answer (λ a. f (put a)) y none c p in
    record { store = same_means t u same; deep = x.0; made = x.1 }
told_call t u d e (gets path) f y none (answer, c, same, p) =
    let x = filed d e (getting path) (λ base. base) answer (λ a. f (got a)) y none c p in
    record { store = same_means t u same; deep = x.0; made = x.1 }
told_call t u d e (reads k) f y none (answer, c, same, p) =
    let x = stored t u (reading k) (λ base. base) answer (λ a. f (read a)) y none c p in
    record { store = x.0; deep = same_deep_means d e same; made = x.1 }
told_call t u d e (sets from n) f y none (answer, c, same, p) =
    let call = set from n in
    let x = stored t u (answer_of (λ w. w.version) call) (after_call call) answer (λ a. f (calls.set a)) y none c p in
    record { store = x.0; deep = same_deep_means d e same; made = x.1 }
told_call t u d e (creates k n prior) f y none (answer, c, same, p) =
    let call = create_after k n prior in
    let x = stored t u (answer_of (λ w. tt) call) (after_call call) answer (λ a. f (created a)) y none c p in
    record { store = x.0; deep = same_deep_means d e same; made = x.1 }

-- ---- a step of a job

pub out_stage : (a : Assigned) (q : Asked) (now : Moment) (from : JobStage) → RunsOut (step_at q now from) (call_at a q now from)
out_stage a q now (stage.Check from end path) = refl
out_stage a q now (stage.Done from commit) = refl
out_stage a q now (stage.Next done) = refl
out_stage a q now (stage.IdealRead w found) = refl
out_stage a q now (stage.IdealSet w found ideal) = refl
out_stage a q now stage.Ended = tt

-- ---- where memory ran out

store_idle : (t u : Told) → StoreIdles (means t) (means u) → u ≡ t
store_idle t u (inl e) = same_means t u e
store_idle t u (inr (base, sees, idles)) = same_told t u idles.told

deep_idle : (d e : ToldDeep) → DeepIdles (deep_memory.means d) (deep_memory.means e) → e ≡ d
deep_idle d e (inl f) = same_deep_means d e f
deep_idle d e (inr (base, sees, idles)) = same_deep d e idles.told

pub told_out : (t u : Told) (d e : ToldDeep) → RanOut (means t) (means u) (deep_memory.means d) (deep_memory.means e)
    → (u ≡ t) × (e ≡ d)
told_out t u d e (store, files) = (store_idle t u store, deep_idle d e files)
