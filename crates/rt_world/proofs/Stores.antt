-- What a call leaves of a store that tells everything, and that all that was written, put and sent grows by it.
use Rattle.std.proofs.Common.{◌≡◌, ◌+◌, ◌≤◌, inl, inr, List, [], ◌∷◌, Result, length, sym, ap, subst, arith, length-append}
use Rattle.rt_model.specs.declared.node.Seen.{Seen}
use Rattle.rt_model.specs.declared.setup.Setup.{Setup}
use Rattle.rt_model.specs.Lawful.{Write, IsLawful, written_by}
use Rattle.rt_past.specs.IsPast.{IsPast}
use Rattle.rt_past.specs.Past.{Past, Grows, with_history}
use Rattle.rt_past.specs.Writes.{IsRightWrite}
use Rattle.rt_past.proofs.Growth.{grows_same}
use Rattle.rt_past.proofs.Ways.{past_called}
use Rattle.rt_store.specs.declared.refused.StoreRefused.{StoreRefused}
use Rattle.rt_store.specs.Answers.{answer_of, after_call, Leaves}
use Rattle.rt_store.specs.Calls.{Calls, IsExact}
use Rattle.rt_store.specs.Meaning.{Told}
use Rattle.rt_store.specs.Memory.{means}
use Rattle.rt_store.proofs.Seeing.{told_exact}
use Rattle.rt_store.proofs.Told.{leaves_on}

-- ---- one call

wrote_by : {X : Type 0} (tell : Seen → X) (t u : Told) (call : Write) (result : Result X StoreRefused)
    → IsExact t u (answer_of tell call) (after_call call) result → Leaves call t.writes u.writes
wrote_by tell t u call result (inl ran_out) = inl (ap (λ (x : Told). x.writes) ran_out.1)
wrote_by tell t u call result (inr came) =
    subst (Leaves call t.writes) (sym (ap (λ (x : Told). x.writes) came.1)) (leaves_on t call)

-- a write call leaves its own write, or none
pub wrote_told : {X : Type 0} (tell : Seen → X) (t u : Told) (call : Write) (result : Result X StoreRefused)
    → Calls (means t) (means u) (answer_of tell call) (after_call call) result → Leaves call t.writes u.writes
wrote_told tell t u call result c = wrote_by tell t u call result (told_exact t u (answer_of tell call) (after_call call) result c)

pub one_more : (call : Write) (h now : List Seen) → Leaves call h now → length now ≤ length h + 1
one_more call h now (inl e) = omega (arith, ap (λ (ws : List Seen). length ws) e)
one_more call h now (inr w) = omega (arith, ap (λ (ws : List Seen). length ws) w.1, length-append h (written_by h call ∷ []))

-- ---- what there is grows

-- it grows to a right one, by one write at most
pub record WritesOn (s : Setup) (a : Past) (h : List Seen) : Type 0 where
  pub grows : Grows a (with_history a h)
  pub right : IsPast s (with_history a h)
  pub few : length h ≤ length a.history + 1

pub writes_same : (s : Setup) (a : Past) (h : List Seen) → IsPast s a → h ≡ a.history → WritesOn s a h
writes_same s a h right e =
    subst (WritesOn s a) (sym e) (record { grows = grows_same a; right = right; few = omega arith })

pub writes_called : (s : Setup) (a : Past) (call : Write) (h : List Seen) → IsPast s a → Leaves call a.history h → IsLawful a.history call
    → IsRightWrite s a (written_by a.history call) → WritesOn s a h
writes_called s a call h right leaves may good =
    let g = past_called s a call h leaves may good right in
    record { grows = g.0; right = g.1; few = one_more call a.history h leaves }
