-- A repair that runs alone does what it decides, so that repairs that run alone settle.
use Rattle.std.proofs.Common.{◌≡◌, ℕ, zero, suc, ◌+◌, ◌<◌, ◌≤◌, ◌⊎◌, inl, inr, not, nat_lt, eqb, Bool, true, false, cond, List, [], ◌∷◌, ◌++◌, length, Option, Some, None, Result, Ok, refl, sym, ◌∙◌, ap, subst, arith}
use Rattle.std.proofs.lemmas.Bool.{cond_both, cond-true, not-true, eq-eqb}
use Rattle.rt_base.specs.declared.limits.TheConstants.{LAST_NUMBER}
use Rattle.rt_base.specs.declared.numbers.Moment.{Moment}
use Rattle.rt_base.specs.declared.numbers.Offset.{Offset}
use Rattle.rt_base.specs.declared.numbers.Partition.{Partition}
use Rattle.rt_base.specs.declared.numbers.Sequence.{Sequence}
use Rattle.rt_base.specs.Faults.{Planned, fault_of, met_by, answer_under, left_under}
use Rattle.rt_lists.proofs.Members.{front_same}
use Rattle.rt_model.specs.declared.decision.Decision.{Decision}
use Rattle.rt_model.specs.declared.decision.Decision.TheVariants as decision
use Rattle.rt_model.specs.declared.ideal_state.IdealEntry.{IdealEntry}
use Rattle.rt_model.specs.declared.node.Key.TheVariants as key
use Rattle.rt_model.specs.declared.node.Listed.{Listed}
use Rattle.rt_model.specs.declared.node.Node.{Node}
use Rattle.rt_model.specs.declared.node.Node.TheVariants as node
use Rattle.rt_model.specs.declared.node.Seen.{Seen}
use Rattle.rt_model.specs.declared.setup.Setup.{Setup}
use Rattle.rt_model.specs.declared.status.Status.{Status}
use Rattle.rt_model.specs.declared.status.Status.TheVariants.{InProgress, Done, Abandoned}
use Rattle.rt_model.specs.Entries.{entries_by, entries_in, entries_of}
use Rattle.rt_model.specs.History.{writes_of, last_of, value_in, value_of}
use Rattle.rt_model.specs.Ideal.{has_entry, goes_on, next_sequence}
use Rattle.rt_model.specs.Lawful.{Write, set, create_after, written_by, IsLawfulHistory}
use Rattle.rt_model.specs.Metadata.{node_key, listed_write, metadata_below, metadata_of, sequences_of}
use Rattle.rt_model.specs.Moments.{later}
use Rattle.rt_model.specs.Repair.{last_listed, are_offline, decide_open, decide_by, decide_last}
use Rattle.rt_model.specs.Setup.{IsSetup}
use Rattle.rt_model.specs.Starting.{Starting}
use Rattle.rt_model.proofs.Histories.{value_of-last}
use Rattle.rt_model.proofs.Lawful.{has_chains, has_ideal_state, versions_count_writes}
use Rattle.rt_model.proofs.Listings.{has_listings}
use Rattle.rt_meta.specs.Lives.{first_of, abandoned_of}
use Rattle.rt_store.specs.declared.refused.StoreRefused.{StoreRefused}
use Rattle.rt_store.specs.declared.refused.StoreRefused.TheVariants.{Failed, VersionChanged}
use Rattle.rt_store.specs.Answers.{reading, listing, found_in, refusal_of, change_in, presence_in, answer_of, answer_by, after_call, after_by}
use Rattle.rt_store.specs.Answers as answers
use Rattle.rt_store.specs.Calls.{answer_on, told_on}
use Rattle.rt_store.specs.Contents.{starting_of}
use Rattle.rt_store.specs.Meaning.{Told}
use Rattle.rt_past.specs.IsPast.{IsPast}
use Rattle.rt_past.specs.Past.{Past}
use Rattle.rt_store.specs.Memory.{means}
use Rattle.rt_store.proofs.Listing.{value_has}
use Rattle.rt_repair.specs.declared.repair.RepairStage.{RepairStage}
use Rattle.rt_repair.specs.declared.repair.RepairStage.TheVariants.{Reading, Writing, Ended}
use Rattle.rt_repair.specs.declared.repair_step.RepairStep.{RepairStep}
use Rattle.rt_repair.specs.declared.repair_step.RepairStep.TheVariants as step
use Rattle.rt_repair.specs.Alone.{then_stepped, run_alone, HasWritten, IsRepaired, FindsNothing, SettlesAlone}
use Rattle.rt_repair.specs.Converging.{Standing, standing_of, created_node, abandoned_last, repaired_by, decided, repaired, writes, IsSettled, SettlesIn, CanSettle}
use Rattle.rt_repair.specs.Lasting.{told_past}
use Rattle.rt_repair.specs.IsRepair.{IsRepair}
use Rattle.rt_repair.specs.ReadNode.{read_node, read_by, last_node, last_follows}
use Rattle.rt_repair.specs.Repairing.{Repairing, beginning, goes, decision_at, create_write, abandon_write, added_entries}
use Rattle.rt_repair.specs.RepairSteps.{Stepped, after_list, after_read, created, abandoned, ideal_set}
use Rattle.rt_repair.specs.Told.{Left, repair_ended, repair_set, repair_done, repair_stepped}
use Rattle.rt_repair.proofs.Adding.{added_same}
use Rattle.rt_repair.proofs.Beginning.{decides_alike, repair_begins}
use Rattle.rt_repair.proofs.Converging.{converges}
use Rattle.rt_repair.proofs.Growing.{repair_begins_over}
use Rattle.rt_repair.proofs.Keeping.{kept_step}
use Rattle.rt_repair.proofs.LastSegment.{last_listed_has}
use Rattle.rt_repair.proofs.Realized.{steps_told}
use Rattle.rt_repair.proofs.Settling.{can_settle, last_sequence}
use Rattle.rt_repair.proofs.Standing.{unwritten, listed_last, listed_other, list_ends, given_up_last, next_of_value, entries_other, entries_written}

-- ---- without a fault

abbrev told_of : List Seen → Planned → Told
told_of writes faults = record { writes = writes; faults = faults }

abbrev left_of : Told → Option Stepped → Left Stepped
left_of told stepped = record { told = told; stepped = stepped }

told_alone : (t : Told) (after : List Seen → List Seen) → t.faults.plan ≡ [] → told_on t after ≡ told_of (after t.writes) t.faults
told_alone t after none =
    ap (λ plan. told_of (left_under (fault_of plan) t.writes (after t.writes)) (met_by (fault_of plan) t.faults)) none

answer_alone : {X : Type 0} (t : Told) (answer : List Seen → Result X StoreRefused) → t.faults.plan ≡ []
    → answer_on t answer ≡ answer t.writes
answer_alone t answer none = ap (λ plan. answer_under Failed (fault_of plan) (answer t.writes)) none

-- ---- the reading steps

abbrev reads : Repairing → List Listed → RepairStage
reads r nodes = Reading (last_node r.partition nodes) (last_follows nodes)

abbrev holds : Repairing → List Listed → Seen → RepairStage
holds r nodes ideal = Writing (last_node r.partition nodes) (last_follows nodes) ideal

abbrev stepped_to : Repairing → RepairStage → RepairStep → Stepped
stepped_to r stage did = record { repair = goes r stage; step = did }

listing_step : (t : Told) (p : Partition) (setup : Setup) (a : Moment) → t.faults.plan ≡ []
    → repair_stepped t (beginning p setup) a
    ≡ left_of t (Some (stepped_to (beginning p setup) (reads (beginning p setup) (metadata_of t.writes p)) step.Listed))
listing_step t p setup a none =
    let r = beginning p setup in
    ap (λ u. left_of u (after_list r (answer_on t (listing p)))) (told_alone t (λ base. base) none)
    ∙ ap (λ x. left_of t (after_list r x)) (answer_alone t (listing p) none)

reading_step : (t : Told) (r : Repairing) (b : Moment) (nodes : List Listed) (ideal : Seen) → t.faults.plan ≡ []
    → value_of t.writes key.Ideal ≡ Some ideal
    → repair_stepped t (goes r (reads r nodes)) b ≡ left_of t (Some (stepped_to r (holds r nodes ideal) step.IdealRead))
reading_step t r b nodes ideal none value =
    let s = goes r (reads r nodes) in
    ap (λ u. left_of u (after_read s (answer_on t (reading key.Ideal)))) (told_alone t (λ base. base) none)
    ∙ ap (λ x. left_of t (after_read s x)) (answer_alone t (reading key.Ideal) none)
    ∙ ap (λ o. left_of t (after_read s (found_in o))) value

-- ---- what is decided speaks of the last segment

abbrev IsOf : List IdealEntry → Partition → Listed → Decision → Type 0
IsOf es p l decision.Nothing = Unit {0}
IsOf es p l (decision.Create s start) = s ≡ next_sequence l.sequence
IsOf es p l (decision.AddToIdeal s) = (s ≡ l.sequence) × (has_entry es p s ≡ false)
IsOf es p l (decision.Abandon s) = s ≡ l.sequence

of_open : (es : List IdealEntry) (p : Partition) (l : Listed) → IsOf es p l (decide_open p l.sequence es)
of_open es p l =
    let s = l.sequence in
    let rest = cond (are_offline es p s) (decision.Abandon s) decision.Nothing in
    cond_both (not (has_entry es p s)) (decision.AddToIdeal s) rest (IsOf es p l)
    (λ a. (refl, not-true (has_entry es p s) a))
    (λ b. cond_both (are_offline es p s) (decision.Abandon s) decision.Nothing (IsOf es p l) (λ c. refl) (λ d. tt))

of_status : (es : List IdealEntry) (p : Partition) (l : Listed) (status : Status)
    → IsOf es p l (decide_by p l.sequence es l.seen.meta status)
of_status es p l InProgress = of_open es p l
of_status es p l (Done commit) = refl
of_status es p l Abandoned = refl

of_last : (es : List IdealEntry) (p : Partition) (now : Moment) (grace : ℕ) (l : Listed)
    → IsOf es p l (decide_last p es now grace (Some l))
of_last es p now grace l =
    let by = decide_by p l.sequence es l.seen.meta l.seen.meta.status in
    let early = nat_lt now.0 (later l.seen.meta.written grace).0 in
    cond_both (not (nat_lt l.sequence.0 LAST_NUMBER)) decision.Nothing (cond early decision.Nothing by) (IsOf es p l)
    (λ a. tt)
    (λ b. cond_both early decision.Nothing by (IsOf es p l) (λ c. tt) (λ d. of_status es p l l.seen.meta.status))

-- ---- the writing step

-- what a repair has read that runs alone: all of it stands
record Stands (s : Starting) (t : Told) (r : Repairing) (l : Listed) (ideal : Seen) : Type 0 where
  lawful : IsLawfulHistory s t.writes
  within : r.partition.0 < s.partitions
  unplanned : t.faults.plan ≡ []
  last : last_listed (metadata_of t.writes r.partition) ≡ Some l
  value : value_of t.writes (node_key r.partition l.sequence.0) ≡ Some (listed_write r.partition l)
  count : sequences_of t.writes r.partition ≡ suc l.sequence.0
  read : value_of t.writes key.Ideal ≡ Some ideal
  is_ideal : ideal.key ≡ key.Ideal
  entries : entries_of t.writes ≡ entries_by ideal.node

-- what the last step leaves, by what it decides
record Does (t : Told) (r : Repairing) (now : Moment) (d : Decision) (left : Left Stepped) : Type 0 where
  did : RepairStep
  gave : left.stepped ≡ Some (stepped_to r Ended did)
  standing : standing_of left.told.writes r.partition ≡ repaired_by r now (standing_of t.writes r.partition) d
  written : HasWritten t.writes left.told.writes did (writes r (standing_of t.writes r.partition) d)
  faults : left.told.faults ≡ t.faults

abbrev stands_as : List Listed → List IdealEntry → Standing
stands_as nodes entries = record { nodes = nodes; entries = entries }

abbrev ended_with : Repairing → RepairStep → Option Stepped
ended_with r did = Some (stepped_to r Ended did)

same_version : (w : Seen) → change_in w.version (Some w) ≡ None
same_version w =
    let refused : Option StoreRefused = Some (VersionChanged w.version w.version) in
    cond-true (eqb w.version w.version) None refused (eq-eqb w.version w.version refl)

-- a set of a write that stands is carried out
set_effect : (h : List Seen) (from : Seen) (n : Node) → value_of h from.key ≡ Some from → refusal_of h (set from n) ≡ None
set_effect h from n value = ap (change_in from.version) value ∙ same_version from

not_meta : (p : Partition) (q : ℕ) → node_key p q ≡ key.Ideal → ⊥
not_meta p q e = cc

-- a set that is carried out
set_alone : (t : Told) (r : Repairing) (tell : Result ℕ StoreRefused → Option RepairStep) (call : Write) → t.faults.plan ≡ []
    → refusal_of t.writes call ≡ None
    → repair_set t r tell (Some call)
    ≡ left_of (told_of (t.writes ++ written_by t.writes call ∷ []) t.faults) (repair_ended r (tell (Ok (written_by t.writes call).version)))
set_alone t r tell call none effect =
    let w = written_by t.writes call in
    ap (λ u. left_of u (repair_ended r (tell (answer_on t (answer_of (λ v. v.version) call)))))
    (told_alone t (after_call call) none ∙ ap (λ o. told_of (after_by o t.writes w) t.faults) effect)
    ∙ ap (λ x. left_of (told_of (t.writes ++ w ∷ []) t.faults) (repair_ended r (tell x)))
    (answer_alone t (answer_of (λ v. v.version) call) none ∙ ap (λ o. answer_by o w.version) effect)

does_nothing : (s : Starting) (t : Told) (r : Repairing) (now : Moment) (l : Listed) (ideal : Seen)
    → Does t r now decision.Nothing
    (repair_done t (goes r (holds r (metadata_of t.writes r.partition) ideal)) now (last_node r.partition (metadata_of t.writes r.partition))
    (last_follows (metadata_of t.writes r.partition)) ideal decision.Nothing)
does_nothing s t r now l ideal =
    record { did = step.Nothing; gave = refl; standing = refl; written = (refl, refl); faults = refl }

does_add : (s : Starting) (t : Told) (r : Repairing) (now : Moment) (l : Listed) (ideal : Seen) → Stands s t r l ideal
    → has_entry (entries_of t.writes) r.partition l.sequence ≡ false
    → Does t r now (decision.AddToIdeal l.sequence)
    (repair_done t (goes r (holds r (metadata_of t.writes r.partition) ideal)) now (last_node r.partition (metadata_of t.writes r.partition))
    (last_follows (metadata_of t.writes r.partition)) ideal (decision.AddToIdeal l.sequence))
does_add s t r now l ideal k none = by_place (goes_on (entries_by ideal.node) r.partition l.sequence.0) refl
  where
    h : List Seen
    h = t.writes

    nodes : List Listed
    nodes = metadata_of t.writes r.partition

    follows : Bool
    follows = last_follows (metadata_of t.writes r.partition)

    es : List IdealEntry
    es = added_entries r l.sequence (last_follows (metadata_of t.writes r.partition)) (entries_by ideal.node)

    call : Write
    call = set ideal (node.Ideal (record { entries = es }))

    at : (b : Bool) → goes_on (entries_by ideal.node) r.partition l.sequence.0 ≡ b → goes_on (entries_of t.writes) r.partition l.sequence.0 ≡ b
    at b e = ap (λ fs. goes_on fs r.partition l.sequence.0) k.entries ∙ e

    by_place :
        (b : Bool) → goes_on (entries_by ideal.node) r.partition l.sequence.0 ≡ b
        → Does t r now (decision.AddToIdeal l.sequence)
        (repair_set t (goes r (holds r (metadata_of t.writes r.partition) ideal)) ideal_set (cond b (Some call) None))
    by_place true on =
        let w = written_by h call in
        let rw = goes r (holds r nodes ideal) in
        let value : value_of h ideal.key ≡ Some ideal = ap (value_of h) k.is_ideal ∙ k.read in
        let W : Bool → Type 0 = HasWritten h (h ++ w ∷ []) (step.IdealSet w.version) in
        let P : Left Stepped → Type 0 = Does t r now (decision.AddToIdeal l.sequence) in
        subst P (sym (set_alone t rw ideal_set call k.unplanned (set_effect h ideal (node.Ideal (record { entries = es })) value)))
        (record {
          did = step.IdealSet w.version;
          gave = refl;
          standing =
              ap (λ ns. stands_as ns (entries_of (h ++ w ∷ [])))
              (listed_other h w r.partition (λ q e. not_meta r.partition q (sym e ∙ k.is_ideal)))
              ∙ ap (stands_as nodes) (entries_written h w k.is_ideal ∙ ap (added_entries r l.sequence follows) (sym k.entries));
          written = subst W (sym (at true on)) (w, refl);
          faults = refl;
        })
    by_place false off =
        let W : Bool → Type 0 = HasWritten h h step.Nothing in
        record {
          did = step.Nothing;
          gave = refl;
          standing = ap (stands_as nodes) (sym (added_same r l.sequence follows (entries_of h) none (at false off)));
          written = subst W (sym (at false off)) (refl, refl);
          faults = refl;
        }

-- the sequence after the last one was never written
absent : (s : Starting) (t : Told) (r : Repairing) (l : Listed) (ideal : Seen) → Stands s t r l ideal
    → writes_of t.writes (node_key r.partition (l.sequence.0 + 1)) ≡ []
absent s t r l ideal k =
    unwritten t.writes (node_key r.partition (l.sequence.0 + 1))
    (λ w has at. (has_chains s t.writes k.lawful r.partition k.within).uncreated (l.sequence.0 + 1) w (omega (arith, k.count)) has at)

abbrev left_created : Told → Repairing → Moment → Sequence → Offset → Option Listed → Repairing → Left Stepped
left_created t r now s start o rw =
    left_of
    (told_on t (after_call (create_write r now s start (read_by r.partition o))))
    (repair_ended rw (created s (read_by r.partition o) (answer_on t (answer_of (λ w. tt) (create_write r now s start (read_by r.partition o))))))

does_create : (s : Starting) (t : Told) (r : Repairing) (now : Moment) (l : Listed) (ideal : Seen) (start : Offset) → Stands s t r l ideal
    → Does t r now (decision.Create (next_sequence l.sequence) start)
    (repair_done t (goes r (holds r (metadata_of t.writes r.partition) ideal)) now (last_node r.partition (metadata_of t.writes r.partition))
    (last_follows (metadata_of t.writes r.partition)) ideal (decision.Create (next_sequence l.sequence) start))
does_create s t r now l ideal start k =
    let h = t.writes in
    let p = r.partition in
    let q = l.sequence.0 + 1 in
    let next = next_sequence l.sequence in
    let rw = goes r (holds r (metadata_of h p) ideal) in
    let m = first_of r.table p next start now in
    let prior = listed_write p l in
    let call = create_after (node_key p q) (node.Meta m) prior in
    let w = written_by h call in
    let never = absent s t r l ideal k in
    let free : value_of h (node_key p q) ≡ None = ap (λ ws. value_in (last_of ws)) never in
    let effect : refusal_of h call ≡ None =
    ap (λ o. answers.first_of o (presence_in (value_of h (node_key p q)))) (ap (change_in prior.version) k.value ∙ same_version prior)
    ∙ ap presence_in free in
    let version : w.version ≡ 0 = ap (λ (ws : List Seen). length ws) never in
    let told : told_on t (after_call call) ≡ told_of (h ++ w ∷ []) t.faults =
    told_alone t (after_call call) k.unplanned ∙ ap (λ o. told_of (after_by o h w) t.faults) effect in
    let answer : answer_on t (answer_of (λ v. tt) call) ≡ Ok tt =
    answer_alone t (answer_of (λ v. tt) call) k.unplanned ∙ ap (λ o. answer_by o tt) effect in
    let left : left_created t r now next start (Some l) rw ≡ left_of (told_of (h ++ w ∷ []) t.faults) (ended_with r (step.Created next)) =
    ap (λ u. left_of u (repair_ended rw (created next (Some (read_node p l)) (answer_on t (answer_of (λ v. tt) call))))) told
    ∙ ap (λ x. left_of (told_of (h ++ w ∷ []) t.faults) (repair_ended rw (created next (Some (read_node p l)) x))) answer in
    let count : sequences_of h p ≡ q = omega (arith, k.count) in
    let few : sequences_of h p ≤ suc q = omega (arith, k.count) in
    let D : Left Stepped → Type 0 = Does t r now (decision.Create next start) in
    let O : Option Listed → Type 0 = λ o. D (left_created t r now next start o rw) in
    subst O (sym k.last)
    (subst D (sym left)
    (record {
      did = step.Created next;
      gave = refl;
      standing =
          ap (λ ns. stands_as ns (entries_of (h ++ w ∷ [])))
          (listed_last h w p q m refl refl few
          ∙ ap (λ v. metadata_below h p q ++ record { sequence = next; seen = record { version = v; meta = m } } ∷ []) version
          ∙ ap (λ n. metadata_below h p n ++ created_node r now next start ∷ []) (sym count))
          ∙ ap (stands_as (metadata_of h p ++ created_node r now next start ∷ [])) (entries_other h w (not_meta p q));
      written = (w, refl);
      faults = refl;
    }))

does_abandon : (s : Starting) (t : Told) (r : Repairing) (now : Moment) (l : Listed) (ideal : Seen) → Stands s t r l ideal
    → Does t r now (decision.Abandon l.sequence)
    (repair_done t (goes r (holds r (metadata_of t.writes r.partition) ideal)) now (last_node r.partition (metadata_of t.writes r.partition))
    (last_follows (metadata_of t.writes r.partition)) ideal (decision.Abandon l.sequence))
does_abandon s t r now l ideal k =
    let h = t.writes in
    let p = r.partition in
    let q = l.sequence.0 in
    let rw = goes r (holds r (metadata_of h p) ideal) in
    let m = abandoned_of l.seen.meta now in
    let from = listed_write p l in
    let call = set from (node.Meta m) in
    let w = written_by h call in
    let version : w.version ≡ l.seen.version + 1 = next_of_value h (node_key p q) from (versions_count_writes s h k.lawful) k.value in
    let few : sequences_of h p ≤ suc q = omega (arith, k.count) in
    let D : Left Stepped → Type 0 = Does t r now (decision.Abandon l.sequence) in
    let O : Option Listed → Type 0 = λ o. D (repair_set t rw (abandoned l.sequence) (abandon_write now (read_by p o))) in
    subst O (sym k.last)
    (subst D (sym (set_alone t rw (abandoned l.sequence) call k.unplanned (set_effect h from (node.Meta m) k.value)))
    (record {
      did = step.Abandoned l.sequence;
      gave = refl;
      standing =
          ap (λ ns. stands_as ns (entries_of (h ++ w ∷ [])))
          (listed_last h w p q m refl refl few
          ∙ ap (λ v. metadata_below h p q ++ record { sequence = l.sequence; seen = record { version = v; meta = m } } ∷ []) version
          ∙ sym (given_up_last now (metadata_below h p q) l)
          ∙ ap (abandoned_last now) (sym (list_ends h p l k.count k.value)))
          ∙ ap (stands_as (abandoned_last now (metadata_of h p))) (entries_other h w (not_meta p q));
      written = (w, refl);
      faults = refl;
    }))

does : (s : Starting) (t : Told) (r : Repairing) (now : Moment) (l : Listed) (ideal : Seen) (d : Decision) → Stands s t r l ideal
    → IsOf (entries_of t.writes) r.partition l d
    → Does t r now d
    (repair_done t (goes r (holds r (metadata_of t.writes r.partition) ideal)) now (last_node r.partition (metadata_of t.writes r.partition))
    (last_follows (metadata_of t.writes r.partition)) ideal d)
does s t r now l ideal decision.Nothing k of = does_nothing s t r now l ideal
does s t r now l ideal (decision.Create next start) k of =
    let left : Decision → Left Stepped =
    repair_done t (goes r (holds r (metadata_of t.writes r.partition) ideal)) now (last_node r.partition (metadata_of t.writes r.partition)) (last_follows (metadata_of t.writes r.partition)) ideal in
    let P : Sequence → Type 0 = λ x. Does t r now (decision.Create x start) (left (decision.Create x start)) in
    subst P (sym of) (does_create s t r now l ideal start k)
does s t r now l ideal (decision.AddToIdeal at) k of =
    let left : Decision → Left Stepped =
    repair_done t (goes r (holds r (metadata_of t.writes r.partition) ideal)) now (last_node r.partition (metadata_of t.writes r.partition)) (last_follows (metadata_of t.writes r.partition)) ideal in
    let P : Sequence → Type 0 = λ x. Does t r now (decision.AddToIdeal x) (left (decision.AddToIdeal x)) in
    let N : Sequence → Type 0 = λ x. has_entry (entries_of t.writes) r.partition x ≡ false in
    subst P (sym of.0) (does_add s t r now l ideal k (subst N of.0 of.1))
does s t r now l ideal (decision.Abandon at) k of =
    let left : Decision → Left Stepped =
    repair_done t (goes r (holds r (metadata_of t.writes r.partition) ideal)) now (last_node r.partition (metadata_of t.writes r.partition)) (last_follows (metadata_of t.writes r.partition)) ideal in
    let P : Sequence → Type 0 = λ x. Does t r now (decision.Abandon x) (left (decision.Abandon x)) in
    subst P (sym of) (does_abandon s t r now l ideal k)

-- ---- a whole repair

stands : (s : Starting) (t : Told) (r : Repairing) → IsLawfulHistory s t.writes → r.partition.0 < s.partitions → t.faults.plan ≡ []
    → (l : Listed) × (ideal : Seen) × Stands s t r l ideal
stands s t r lawful within none =
    let h = t.writes in
    let p = r.partition in
    let l = last_listed_has s h p lawful within in
    let there = has_ideal_state s h lawful in
    let end = last_sequence s h p l.0 lawful within l.1 in (
      l.0,
      there.0,
      record {
        lawful = lawful;
        within = within;
        unplanned = none;
        last = l.1;
        value = (has_listings s h lawful p within).values l.0 l.2;
        count = omega (arith, end);
        read = there.2;
        is_ideal = (value_has h key.Ideal there.0 there.2).1;
        entries = ap entries_in (value_of-last h key.Ideal there.0 there.2).0;
      },
    )

pub repairs_alone : (s : Starting) (t : Told) (p : Partition) (setup : Setup) (a b c : Moment) → IsSetup setup
    → IsLawfulHistory s t.writes → p.0 < s.partitions → t.faults.plan ≡ []
    → IsRepaired s t (beginning p setup) c (run_alone t (beginning p setup) a b c)
repairs_alone s t p setup a b c k lawful within none =
    let r = beginning p setup in
    let h = t.writes in
    let nodes = metadata_of h p in
    let all = stands s t r lawful within none in
    let l = all.0 in
    let ideal = all.1 in
    let st = all.2 in
    let rw = goes r (holds r nodes ideal) in
    let x = standing_of h p in
    let last = last_node p nodes in
    let left : Decision → Left Stepped = repair_done t rw c last (last_follows nodes) ideal in
    let made = decision_at r c last ideal in
    let run : run_alone t r a b c ≡ left made =
    ap (λ y. then_stepped (then_stepped y b) c) (listing_step t p setup a none)
    ∙ ap (λ y. then_stepped y c) (reading_step t r b nodes ideal none st.read) in
    let alike : made ≡ decided r c x =
    decides_alike r c nodes ideal ∙ ap (λ es. decide_last p es c r.grace (last_listed nodes)) (sym st.entries) in
    let I : Option Listed → Type 0 = λ o. IsOf (entries_of h) p l (decide_last p (entries_of h) c r.grace o) in
    let of : IsOf (entries_of h) p l (decided r c x) = subst I (sym st.last) (of_last (entries_of h) p c r.grace l) in
    let D : Decision → Type 0 = λ d. Does t r c (decided r c x) (left d) in
    let done : Does t r c (decided r c x) (left made) = subst D (sym alike) (does s t r c l ideal (decided r c x) st of) in
    let begun = repair_begins s h p setup k lawful within in
    let ready : IsRepair s h rw =
    record {
      lawful = lawful;
      within = within;
      named = begun.named;
      distinct = begun.distinct;
      remembers = (
        h,
        h,
        record { past = record { front = front_same h; lawful = lawful }; last = refl; follows = refl },
        record { past = record { front = front_same h; lawful = lawful }; longer = front_same h; value = st.read },
      );
    } in
    let u = (left made).told in
    let did : Result RepairStep (Unit {0}) = Ok done.did in
    let steps = steps_told t rw c (stepped_to r Ended done.did) (holds r nodes ideal) done.gave in
    let kept = kept_step s (means t) (means u) rw c (goes r Ended) did ready steps in
    let R : Left Stepped → Type 0 = IsRepaired s t r c in
    subst R (sym run)
    (record {
      last = stepped_to r Ended done.did;
      gave = done.gave;
      ended = refl;
      standing = done.standing;
      written = done.written;
      lawful = kept.lawful;
      faults = done.faults;
    })

-- ---- repairs one after another

finds : (s : Starting) (t : Told) (r : Repairing) (now : Moment) (l : Listed) (left : Left Stepped) → IsRepaired s t r now left
    → last_listed (metadata_of t.writes r.partition) ≡ Some l → IsSettled r now (standing_of t.writes r.partition) l
    → FindsNothing t r now left
finds s t r now l left k last settled =
    let x = standing_of t.writes r.partition in
    let W : Bool → Type 0 = HasWritten t.writes left.told.writes k.last.step in
    let none = subst W (ap (writes r x) settled.nothing) k.written in
    record {
      last = k.last;
      gave = k.gave;
      nothing = none.1;
      unwritten = none.0;
      listed = l;
      is_last = last;
      settled = settled;
    }

alone : (n : ℕ) (s : Starting) (t : Told) (p : Partition) (setup : Setup) (l : Listed) → IsSetup setup → IsLawfulHistory s t.writes
    → p.0 < s.partitions → t.faults.plan ≡ [] → last_listed (metadata_of t.writes p) ≡ Some l
    → SettlesIn (beginning p setup) n (standing_of t.writes p) l → SettlesAlone (beginning p setup) n t
alone zero s t p setup l k lawful within none last settles = λ a b c over.
    let r = beginning p setup in
    finds s t r c l (run_alone t r a b c) (repairs_alone s t p setup a b c k lawful within none) last (settles c (over l last))
alone (suc n) s t p setup l k lawful within none last settles = λ a b c over.
    by_either a b c (repairs_alone s t p setup a b c k lawful within none) (settles c (over l last))
    (λ u m lawful_u none_u last_u settles_u. alone n s u p setup m k lawful_u within none_u last_u settles_u)
  where
    by_either :
        (a b c : Moment) → IsRepaired s t (beginning p setup) c (run_alone t (beginning p setup) a b c)
        → IsSettled (beginning p setup) c (standing_of t.writes p) l
        ⊎ ((writes (beginning p setup) (standing_of t.writes p) (decided (beginning p setup) c (standing_of t.writes p)) ≡ true)
        × (m : Listed) × (last_listed (repaired (beginning p setup) c (standing_of t.writes p)).nodes ≡ Some m)
        × SettlesIn (beginning p setup) n (repaired (beginning p setup) c (standing_of t.writes p)) m)
        → ((u : Told) (m : Listed) → IsLawfulHistory s u.writes → u.faults.plan ≡ [] → last_listed (metadata_of u.writes p) ≡ Some m
        → SettlesIn (beginning p setup) n (standing_of u.writes p) m → SettlesAlone (beginning p setup) n u)
        → FindsNothing t (beginning p setup) c (run_alone t (beginning p setup) a b c)
        ⊎ (((w : Seen) × ((run_alone t (beginning p setup) a b c).told.writes ≡ t.writes ++ w ∷ []))
        × SettlesAlone (beginning p setup) n (run_alone t (beginning p setup) a b c).told)
    by_either a b c done (inl settled) further =
        inl (finds s t (beginning p setup) c l (run_alone t (beginning p setup) a b c) done last settled)
    by_either a b c done (inr (wrote, m, end, later)) further =
        let left = run_alone t (beginning p setup) a b c in
        let W : Bool → Type 0 = HasWritten t.writes left.told.writes done.last.step in
        let L : Standing → Type 0 = λ x. last_listed x.nodes ≡ Some m in
        let S : Standing → Type 0 = λ x. SettlesIn (beginning p setup) n x m in
        inr (
          subst W wrote done.written,
          further left.told m done.lawful (ap (λ (f : Planned). f.plan) done.faults ∙ none)
              (subst L (sym done.standing) end) (subst S (sym done.standing) later),
        )

pub settles_alone : (s : Starting) (t : Told) (p : Partition) (setup : Setup) (l : Listed) → IsSetup setup → IsLawfulHistory s t.writes
    → p.0 < s.partitions → t.faults.plan ≡ [] → CanSettle (beginning p setup) (standing_of t.writes p) l
    → SettlesAlone (beginning p setup) 3 t
settles_alone s t p setup l k lawful within none can =
    alone 3 s t p setup l k lawful within none can.last (converges (beginning p setup) (standing_of t.writes p) l can)

-- what a right past has settles so
pub past_settles : (setup : Setup) (past : Past) (t : Told) (p : Partition) → IsSetup setup → IsPast setup (told_past past t)
    → p.0 < setup.partitions → sequences_of t.writes p ≤ 4294967290 → t.faults.plan ≡ [] → SettlesAlone (beginning p setup) 3 t
past_settles setup past t p k right within few none =
    let can = can_settle setup (told_past past t) (beginning p setup) k right (repair_begins_over setup (told_past past t) p within) few in
    settles_alone (starting_of setup) t p setup can.0 k right.lawful within none can.1
