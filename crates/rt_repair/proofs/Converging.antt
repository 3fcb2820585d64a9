-- Repairs that run alone settle.
use Rattle.std.proofs.Common.{◌≡◌, ℕ, zero, suc, ◌+◌, ◌-◌, ◌<◌, ◌⊎◌, inl, inr, not, eqb, true, false, List, [], ◌∷◌, ◌++◌, length, Option, Some, refl, sym, ◌∙◌, ap, subst, arith}
use Rattle.std.specs.Prelude.{unwrap_or}
use Rattle.std.proofs.lemmas.Bool.{lt-ltb, le-ltb, ne_eqb, cases_Bool, cond-false, both_ways}
use Rattle.std.proofs.lemmas.Option.{same_Some, none-some}
use Rattle.rt_base.specs.declared.limits.TheConstants.{LAST_NUMBER}
use Rattle.rt_base.specs.declared.numbers.Moment.{Moment}
use Rattle.rt_base.specs.declared.numbers.Offset.{Offset}
use Rattle.rt_base.specs.declared.numbers.Partition.{Partition}
use Rattle.rt_model.specs.declared.decision.Decision.{Decision}
use Rattle.rt_model.specs.declared.decision.Decision.TheVariants.{Create, AddToIdeal, Abandon}
use Rattle.rt_model.specs.declared.ideal_state.IdealEntry.{IdealEntry}
use Rattle.rt_model.specs.declared.node.Listed.{Listed}
use Rattle.rt_model.specs.declared.status.Status.{Status}
use Rattle.rt_model.specs.declared.status.Status.TheVariants.{InProgress, Done, Abandoned}
use Rattle.rt_model.specs.Ideal.{has_entry, has_partition, goes_on, next_sequence}
use Rattle.rt_model.specs.Metadata.{IsInProgress}
use Rattle.rt_model.specs.Moments.{later}
use Rattle.rt_model.specs.Repair.{last_listed, are_offline, decide_open, decide_by, decide_last}
use Rattle.rt_repair.specs.Converging.{Standing, created_node, abandoned_node, abandoned_last, repaired_by, decided, writes, IsOver, IsSettled, SettlesIn, CanSettle}
use Rattle.rt_repair.specs.ReadNode.{last_follows}
use Rattle.rt_repair.specs.Repairing.{Repairing, added_entries}
use Rattle.rt_repair.proofs.Adding.{added_online, online_has}
use Rattle.rt_repair.proofs.Lists.{last_of_pushed}

-- ---- the decision

last_decides : (r : Repairing) (now : Moment) (es : List IdealEntry) (l : Listed) → l.sequence.0 < LAST_NUMBER → IsOver r now l
    → decide_last r.partition es now r.grace (Some l) ≡ decide_by r.partition l.sequence es l.seen.meta l.seen.meta.status
last_decides r now es l few over =
    rw (lt-ltb l.sequence.0 LAST_NUMBER few, le-ltb now.0 (later l.seen.meta.written r.grace).0 over)

decides : (r : Repairing) (now : Moment) (x : Standing) (l : Listed) → last_listed x.nodes ≡ Some l → l.sequence.0 < LAST_NUMBER
    → IsOver r now l → decided r now x ≡ decide_by r.partition l.sequence x.entries l.seen.meta l.seen.meta.status
decides r now x l last few over =
    ap (decide_last r.partition x.entries now r.grace) last ∙ last_decides r now x.entries l few over

by_open : (p : Partition) (es : List IdealEntry) (l : Listed) (status : Status) → l.seen.meta.status ≡ status → IsInProgress status
    → decide_by p l.sequence es l.seen.meta l.seen.meta.status ≡ decide_open p l.sequence es
by_open p es l InProgress e consumes = ap (decide_by p l.sequence es l.seen.meta) e
by_open p es l (Done commit) e consumes = absurd consumes
by_open p es l Abandoned e consumes = absurd consumes

decides_open : (r : Repairing) (now : Moment) (x : Standing) (l : Listed) → last_listed x.nodes ≡ Some l → l.sequence.0 < LAST_NUMBER
    → IsOver r now l → IsInProgress l.seen.meta.status → decided r now x ≡ decide_open r.partition l.sequence x.entries
decides_open r now x l last few over consumes =
    decides r now x l last few over ∙ by_open r.partition x.entries l l.seen.meta.status refl consumes

-- ---- it is settled

settled : (n : ℕ) (r : Repairing) (x : Standing) (l : Listed) → last_listed x.nodes ≡ Some l → l.sequence.0 < LAST_NUMBER
    → IsInProgress l.seen.meta.status → are_offline x.entries r.partition l.sequence ≡ false → SettlesIn r n x l
settled n r x l last few consumes online = at n
  where
    is : (now : Moment) → IsOver r now l → IsSettled r now x l
    is now over =
        let has = online_has r.partition l.sequence x.entries online in
        record {
          nothing = decides_open r now x l last few over consumes ∙ rw (has, online);
          consumes = consumes;
          entered = has;
          online = online;
        }

    at : (n : ℕ) → SettlesIn r n x l
    at zero = is
    at (suc n) = λ now over. inl (is now over)

-- ---- one repair more

abbrev Left : Repairing → ℕ → Moment → Standing → Decision → Type 0
Left r n now x d = (writes r x d ≡ true) × (m : Listed) × (last_listed (repaired_by r now x d).nodes ≡ Some m) × SettlesIn r n (repaired_by r now x d) m

goes : (r : Repairing) (n : ℕ) (now : Moment) (x : Standing) (l : Listed) (d : Decision) → decided r now x ≡ d → Left r n now x d
    → IsSettled r now x l ⊎ Left r n now x (decided r now x)
goes r n now x l d e left = inr (subst (Left r n now x) (sym e) left)

-- the last segment consumes, and the entries go on with it
opened : (n : ℕ) (r : Repairing) (x : Standing) (l : Listed) → last_listed x.nodes ≡ Some l → l.sequence.0 < LAST_NUMBER
    → 0 < length r.instances → IsInProgress l.seen.meta.status → has_entry x.entries r.partition l.sequence ≡ false
    → goes_on x.entries r.partition l.sequence.0 ≡ true → SettlesIn r (suc n) x l
opened n r x l last few some consumes none on = λ now over.
    let es = added_entries r l.sequence (last_follows x.nodes) x.entries in
    let y : Standing = record { nodes = x.nodes; entries = es } in
    goes r n now x l (AddToIdeal l.sequence) (decides_open r now x l last few over consumes ∙ rw none) (
      on,
      l,
      last,
      settled n r y l last few consumes (added_online r l.sequence (last_follows x.nodes) x.entries some none on),
    )

-- the last segment has ended, has entries, and no later one has any
abbrev Ended : Status → Type 0
Ended InProgress = ⊥
Ended (Done commit) = Unit {0}
Ended Abandoned = Unit {0}

created : (n : ℕ) (r : Repairing) (now : Moment) (x : Standing) (l : Listed) (start : Offset) → l.sequence.0 + 1 < LAST_NUMBER
    → 0 < length r.instances → has_entry x.entries r.partition l.sequence ≡ true
    → has_entry x.entries r.partition (next_sequence l.sequence) ≡ false
    → Left r (suc n) now x (Create (next_sequence l.sequence) start)
created n r now x l start few some has none =
    let s = next_sequence l.sequence in
    let m = created_node r now s start in
    let y : Standing = record { nodes = x.nodes ++ m ∷ []; entries = x.entries } in
    let last = last_of_pushed x.nodes m in
    let other : eqb (l.sequence.0 + 1) 0 ≡ false = ne_eqb (l.sequence.0 + 1) 0 (λ z. omega (arith, z)) in
    let back : l.sequence.0 ≡ (l.sequence.0 + 1) - 1 = omega arith in
    let P : ℕ → Type 0 = λ t. has_entry x.entries r.partition (record { 0 = t }) ≡ true in
    let on : goes_on x.entries r.partition s.0 ≡ true =
    cond-false (eqb (l.sequence.0 + 1) 0) (not (has_partition x.entries r.partition)) (has_entry x.entries r.partition (record { 0 = (l.sequence.0 + 1) - 1 })) other
    ∙ subst P back has in
    (refl, m, last, opened n r y m last few some tt none on)

closed : (n : ℕ) (r : Repairing) (x : Standing) (l : Listed) → last_listed x.nodes ≡ Some l → l.sequence.0 + 1 < LAST_NUMBER
    → 0 < length r.instances → Ended l.seen.meta.status → has_entry x.entries r.partition l.sequence ≡ true
    → has_entry x.entries r.partition (next_sequence l.sequence) ≡ false → SettlesIn r (suc (suc n)) x l
closed n r x l last few some ended has none = λ now over.
    by_status now (decides r now x l last (omega (arith, few)) over) l.seen.meta.status refl ended
  where
    by_status : (now : Moment) → decided r now x ≡ decide_by r.partition l.sequence x.entries l.seen.meta l.seen.meta.status
        → (status : Status) → l.seen.meta.status ≡ status → Ended status
        → IsSettled r now x l ⊎ Left r (suc n) now x (decided r now x)
    by_status now d InProgress e ended = absurd ended
    by_status now d (Done commit) e ended =
        goes r (suc n) now x l (Create (next_sequence l.sequence) commit.end)
        (d ∙ ap (decide_by r.partition l.sequence x.entries l.seen.meta) e)
        (created n r now x l commit.end few some has none)
    by_status now d Abandoned e ended =
        goes r (suc n) now x l (Create (next_sequence l.sequence) l.seen.meta.start)
        (d ∙ ap (decide_by r.partition l.sequence x.entries l.seen.meta) e)
        (created n r now x l l.seen.meta.start few some has none)

-- the last node given up is the last node
last_given_up : (now : Moment) (nodes : List Listed) (l : Listed) → last_listed nodes ≡ Some l
    → last_listed (abandoned_last now nodes) ≡ Some (abandoned_node now l)
last_given_up now [] l e = absurd (none-some l e)
last_given_up now (k ∷ []) l e = ap (λ x. Some (abandoned_node now x)) (same_Some k l e)
last_given_up now (k ∷ m ∷ ls) l e =
    let Q : Option Listed → Type 0 = λ o. Some (unwrap_or o k) ≡ Some (abandoned_node now l) in
    subst Q (sym (last_given_up now (m ∷ ls) l e)) refl

-- the last segment consumes, and all its entries are OFFLINE
offline : (n : ℕ) (r : Repairing) (x : Standing) (l : Listed) → last_listed x.nodes ≡ Some l → l.sequence.0 + 1 < LAST_NUMBER
    → 0 < length r.instances → IsInProgress l.seen.meta.status → has_entry x.entries r.partition l.sequence ≡ true
    → are_offline x.entries r.partition l.sequence ≡ true
    → has_entry x.entries r.partition (next_sequence l.sequence) ≡ false → SettlesIn r (suc (suc (suc n))) x l
offline n r x l last few some consumes has off none = λ now over.
    let m = abandoned_node now l in
    let y : Standing = record { nodes = abandoned_last now x.nodes; entries = x.entries } in
    let end = last_given_up now x.nodes l last in
    goes r (suc (suc n)) now x l (Abandon l.sequence)
    (decides_open r now x l last (omega (arith, few)) over consumes ∙ rw (has, off))
    (refl, m, end, closed n r y m end few some tt has none)

-- ---- all together

pub converges : (r : Repairing) (x : Standing) (l : Listed) → CanSettle r x l → SettlesIn r 3 x l
converges r x l k = by_entry (cases_Bool (has_entry x.entries r.partition l.sequence))
  where
    few : l.sequence.0 + 1 < LAST_NUMBER
    few = omega (arith, k.few)

    next : has_entry x.entries r.partition (next_sequence l.sequence) ≡ false
    next = k.none_past (l.sequence.0 + 1) (omega arith)

    by_offline : IsInProgress l.seen.meta.status → has_entry x.entries r.partition l.sequence ≡ true
        → (are_offline x.entries r.partition l.sequence ≡ true) ⊎ (are_offline x.entries r.partition l.sequence ≡ false)
        → SettlesIn r 3 x l
    by_offline consumes has (inl off) = offline 0 r x l k.last few k.some consumes has off next
    by_offline consumes has (inr on) = settled 3 r x l k.last (omega (arith, few)) consumes on

    by_status : (status : Status) → l.seen.meta.status ≡ status → has_entry x.entries r.partition l.sequence ≡ true → SettlesIn r 3 x l
    by_status InProgress e has =
        by_offline (subst IsInProgress (sym e) tt) has (cases_Bool (are_offline x.entries r.partition l.sequence))
    by_status (Done commit) e has = closed 1 r x l k.last few k.some (subst Ended (sym e) tt) has next
    by_status Abandoned e has = closed 1 r x l k.last few k.some (subst Ended (sym e) tt) has next

    by_stands : has_entry x.entries r.partition l.sequence ≡ false
        → (has_entry x.entries r.partition l.sequence ≡ true) ⊎ (IsInProgress l.seen.meta.status × (goes_on x.entries r.partition l.sequence.0 ≡ true))
        → SettlesIn r 3 x l
    by_stands none (inl has) = absurd (both_ways (has_entry x.entries r.partition l.sequence) none has)
    by_stands none (inr both) = opened 2 r x l k.last (omega (arith, few)) k.some both.0 none both.1

    by_entry : (has_entry x.entries r.partition l.sequence ≡ true) ⊎ (has_entry x.entries r.partition l.sequence ≡ false) → SettlesIn r 3 x l
    by_entry (inl has) = by_status l.seen.meta.status refl has
    by_entry (inr none) = by_stands none k.stands
