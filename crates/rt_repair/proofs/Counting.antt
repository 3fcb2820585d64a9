-- The number of entries that a repair sets.
use Rattle.std.proofs.Common.{◌≡◌, ℕ, ◌+◌, ◌-◌, ◌<◌, ◌&&◌, not, nat_lt, Bool, true, false, cond, List, [], ◌∷◌, length, Option, Some, None, refl, sym, ◌∙◌, ap, subst, arith}
use Rattle.std.specs.Prelude.{map}
use Rattle.std.proofs.lemmas.Bool.{ltb-true, and_parts, cond_both, cond-true, not-true}
use Rattle.rt_base.specs.declared.limits.TheConstants.{LAST_NUMBER}
use Rattle.rt_base.specs.declared.numbers.Instance.{Instance}
use Rattle.rt_base.specs.declared.numbers.Moment.{Moment}
use Rattle.rt_base.specs.declared.numbers.Partition.{Partition}
use Rattle.rt_base.specs.declared.numbers.Sequence.{Sequence}
use Rattle.rt_model.specs.declared.decision.Decision.{Decision}
use Rattle.rt_model.specs.declared.decision.Decision.TheVariants.{Nothing, Create, AddToIdeal, Abandon}
use Rattle.rt_model.specs.declared.ideal_state.IdealEntry.{IdealEntry}
use Rattle.rt_model.specs.declared.node.Listed.{Listed}
use Rattle.rt_model.specs.declared.node.Seen.{Seen}
use Rattle.rt_model.specs.declared.status.Status.{Status}
use Rattle.rt_model.specs.declared.status.Status.TheVariants.{InProgress, Done, Abandoned}
use Rattle.rt_model.specs.Entries.{entries_by}
use Rattle.rt_model.specs.Ideal.{is_before, has_entry, goes_on, with_entry, with_consuming, consuming, turned_online, commit_step_of, add_consuming_of}
use Rattle.rt_model.specs.Moments.{later}
use Rattle.rt_model.specs.Repair.{are_offline, decide_open, decide_by, decide_last}
use Rattle.rt_repair.specs.declared.read_node.ReadNode.{ReadNode}
use Rattle.rt_repair.specs.ReadNode.{listed_again}
use Rattle.rt_repair.specs.Repairing.{Repairing, added_entries, decision_at, set_by}
use Rattle.rt_repair.proofs.Adding.{before_of, same_next}

abbrev sequence_at : ℕ → Sequence
sequence_at n = record { 0 = n }

-- ---- entries are added to a segment that has none

abbrev None_of : List IdealEntry → Partition → Decision → Type 0
None_of es p Nothing = Unit {0}
None_of es p (Create s start) = Unit {0}
None_of es p (AddToIdeal s) = has_entry es p s ≡ false
None_of es p (Abandon s) = Unit {0}

none_open : (es : List IdealEntry) (p : Partition) (s : Sequence) → None_of es p (decide_open p s es)
none_open es p s =
    let rest = cond (are_offline es p s) (Abandon s) Nothing in
    cond_both (not (has_entry es p s)) (AddToIdeal s) rest (None_of es p)
    (λ a. not-true (has_entry es p s) a)
    (λ b. cond_both (are_offline es p s) (Abandon s) Nothing (None_of es p) (λ c. tt) (λ d. tt))

none_by : (es : List IdealEntry) (p : Partition) (l : Listed) (status : Status) → None_of es p (decide_by p l.sequence es l.seen.meta status)
none_by es p l InProgress = none_open es p l.sequence
none_by es p l (Done commit) = tt
none_by es p l Abandoned = tt

none_last : (es : List IdealEntry) (p : Partition) (now : Moment) (grace : ℕ) (o : Option Listed) → None_of es p (decide_last p es now grace o)
none_last es p now grace None = tt
none_last es p now grace (Some l) =
    let by = decide_by p l.sequence es l.seen.meta l.seen.meta.status in
    let early = nat_lt now.0 (later l.seen.meta.written grace).0 in
    cond_both (not (nat_lt l.sequence.0 LAST_NUMBER)) Nothing (cond early Nothing by) (None_of es p)
    (λ a. tt)
    (λ b. cond_both early Nothing by (None_of es p) (λ c. tt) (λ d. none_by es p l l.seen.meta.status))

-- ---- how many there are then

length_with : (x : IdealEntry) (es : List IdealEntry) → length (with_entry x es) ≡ length es + 1
length_with x [] = refl
length_with x (e ∷ es) =
    let P : List IdealEntry → Type 0 = λ fs. length fs ≡ length (e ∷ es) + 1 in
    cond_both (is_before x e) (x ∷ e ∷ es) (e ∷ with_entry x es) P
    (λ b. omega arith)
    (λ b. omega (arith, length_with x es))

length_consuming : (es : List IdealEntry) (p : Partition) (s : Sequence) (is : List Instance)
    → length (with_consuming es p s is) ≡ length es + length is
length_consuming es p s [] = omega arith
length_consuming es p s (i ∷ is) =
    omega (arith, length_with (consuming p s i) (with_consuming es p s is), length_consuming es p s is)

length_online : (p : Partition) (s : Sequence) (es : List IdealEntry) → length (map (turned_online p s) es) ≡ length es
length_online p s [] = refl
length_online p s (e ∷ es) = omega (arith, length_online p s es)

length_added : (r : Repairing) (s : Sequence) (follows : Bool) (es : List IdealEntry)
    → has_entry es r.partition s ≡ false → goes_on es r.partition s.0 ≡ true
    → length (added_entries r s follows es) ≡ length es + length r.instances
length_added r s follows es none on =
    let p = r.partition in
    let P : List IdealEntry → Type 0 = λ fs. length fs ≡ length es + length r.instances in
    cond_both (follows && nat_lt 0 s.0) (commit_step_of es p (sequence_at (s.0 - 1)) r.instances) (add_consuming_of es p s r.instances) P
    (λ b.
    let past : 0 < s.0 = ltb-true 0 s.0 (and_parts follows (nat_lt 0 s.0) b).1 in
    let there = before_of es p s.0 true past on in
    let turned = map (turned_online p (sequence_at (s.0 - 1))) es in
    let N : Sequence → Type 0 = λ t. P (cond (has_entry es p t) turned (with_consuming turned p t r.instances)) in
    rw there
    (subst N (sym (same_next s past))
    (rw none
    (length_consuming turned p s r.instances ∙ ap (λ n. n + length r.instances) (length_online p (sequence_at (s.0 - 1)) es)))))
    (λ b. rw (none, on) (length_consuming es p s r.instances))

-- ---- the count

abbrev counted : ℕ → Option ℕ
counted n = Some n

pub set_count : (r : Repairing) (now : Moment) (last : Option ReadNode) (ideal : Seen) (s : Sequence) (follows : Bool)
    → decision_at r now last ideal ≡ AddToIdeal s → goes_on (entries_by ideal.node) r.partition s.0 ≡ true
    → set_by r follows ideal (AddToIdeal s) ≡ counted (length (entries_by ideal.node) + length r.instances)
set_count r now last ideal s follows d on =
    let es = entries_by ideal.node in
    let none : has_entry es r.partition s ≡ false =
    subst (None_of es r.partition) d (none_last es r.partition now r.grace (listed_again last)) in
    cond-true (goes_on es r.partition s.0) (counted (length (added_entries r s follows es))) None on
    ∙ ap counted (length_added r s follows es none on)
