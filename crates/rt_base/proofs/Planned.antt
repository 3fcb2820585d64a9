-- Planned faults, and what a fault leaves of a call.
use Rattle.std.proofs.Common.{◌≡◌, ℕ, zero, suc, ◌+◌, ◌<◌, ◌≤◌, ◌⊎◌, inl, inr, List, [], ◌∷◌, Bool, true, false, length, drop, add-one, Option, Some, None, Result, Err, refl, sym, ap, ◌∙◌, slice_get, get_or}
use Rattle.std.proofs.lemmas.List.{drop_all}
use Rattle.std.proofs.lemmas.Option.{slice_get-get_or}
use Rattle.rt_base.specs.declared.fault.Fault.{Fault}
use Rattle.rt_base.specs.declared.fault.Fault.TheVariants.{Nothing, Lost, Kept}
use Rattle.rt_base.specs.Faults.{Planned, fault_of, one_met, met_by, met_fault, Counts, answer_under, left_under}

-- ---- the plan

abbrev pub fault_by : Option Bool → Fault
fault_by None = Nothing
fault_by (Some true) = Kept
fault_by (Some false) = Lost

-- the next fault stands behind those that were met
pub next_by : (kept : List Bool) (met : ℕ) → fault_of (drop met kept) ≡ fault_by (slice_get kept met)
next_by [] zero = refl
next_by [] (suc met) = refl
next_by (true ∷ kept) zero = refl
next_by (false ∷ kept) zero = refl
next_by (b ∷ kept) (suc met) = next_by kept met

drop_one : (kept : List Bool) (met : ℕ) → drop 1 (drop met kept) ≡ drop (suc met) kept
drop_one [] zero = refl
drop_one [] (suc met) = refl
drop_one (b ∷ kept) zero = refl
drop_one (b ∷ kept) (suc met) = drop_one kept met

met_of_some : (b : Bool) (p : Planned) → met_by (fault_by (Some b)) p ≡ one_met p
met_of_some true p = refl
met_of_some false p = refl

-- one fault more is met
pub met_more : (p : Planned) (kept : List Bool) (met : ℕ) → met < length kept → p.plan ≡ drop met kept
    → (record { plan = drop (met + 1) kept; met = p.met + 1 }) ≡ met_fault p
met_more p kept met h e =
    let next : fault_of p.plan ≡ fault_by (Some (get_or kept met false)) =
    ap fault_of e ∙ next_by kept met ∙ ap fault_by (slice_get-get_or kept met false h) in
    let rest : drop (met + 1) kept ≡ drop 1 p.plan =
    sym (ap (drop 1) e ∙ drop_one kept met ∙ ap (λ n. drop n kept) (sym (add-one met))) in
    let planned : List Bool → Planned = λ plan. record { plan = plan; met = p.met + 1 } in
    ap planned rest ∙ sym (ap (λ f. met_by f p) next ∙ met_of_some (get_or kept met false) p)

-- no fault is left
pub met_none : (p : Planned) (kept : List Bool) (met : ℕ) → length kept ≤ met → p.plan ≡ drop met kept → p ≡ met_fault p
met_none p kept met h e =
    let none : fault_of p.plan ≡ Nothing = ap fault_of (e ∙ drop_all met kept h) in
    sym (ap (λ f. met_by f p) none)

-- ---- a call that meets a fault, or none

-- either nothing was carried out, or all of it
pub left_cases : {X : Type 0} (fault : Fault) (base after now : X) → now ≡ left_under fault base after
    → (now ≡ base) ⊎ (now ≡ after)
left_cases Nothing base after now e = inr e
left_cases Lost base after now e = inl e
left_cases Kept base after now e = inr e

-- a call that isn't answered by the fault met none
pub without_fault : {X E Y : Type 0} (failed : E) (fault : Fault) (answer result : Result X E) (base after now : Y)
    → (result ≡ Err failed → ⊥) → result ≡ answer_under failed fault answer → now ≡ left_under fault base after
    → (result ≡ answer) × (now ≡ after)
without_fault failed Nothing answer result base after now never e s = (e, s)
without_fault failed Lost answer result base after now never e s = absurd (never e)
without_fault failed Kept answer result base after now never e s = absurd (never e)

-- where the fault is answered and the call itself wouldn't answer so, the count rose
pub fault_rose : {X E : Type 0} (failed : E) (before now : ℕ) (fault : Fault) (answer result : Result X E)
    → (answer ≡ Err failed → ⊥) → result ≡ answer_under failed fault answer → Counts before now fault
    → result ≡ Err failed → before < now
fault_rose failed before now Nothing answer result never e c is = absurd (never (sym e ∙ is))
fault_rose failed before now Lost answer result never e c is = c
fault_rose failed before now Kept answer result never e c is = c
