-- Segments keep their entries by what is added to the ideal state, and turned in it.
use Rattle.std.proofs.Common.{◌≡◌, ℕ, ◌-◌, Bool, true, false, cond, nat_lt, List, refl, ◌∙◌, ap}
use Rattle.std.specs.Prelude.{◌&&◌, map}
use Rattle.std.proofs.lemmas.Bool.{cond_both}
use Rattle.rt_base.specs.declared.numbers.Instance.{Instance}
use Rattle.rt_base.specs.declared.numbers.Partition.{Partition}
use Rattle.rt_base.specs.declared.numbers.Sequence.{Sequence}
use Rattle.rt_lists.proofs.Members.{map-Has}
use Rattle.rt_model.proofs.Entries.{entry_names, names_entry, with_consuming-Has}
use Rattle.rt_model.specs.Entries.{HasEntry}
use Rattle.rt_model.specs.Ideal.{add_consuming_of, commit_step_of, goes_on, has_entry, is_of, is_of_instance, next_sequence, offline_mode, set_offline_of, turned_offline, turned_online, with_consuming}
use Rattle.rt_model.specs.declared.ideal_state.IdealEntry.{IdealEntry}
use Rattle.rt_model.specs.declared.ideal_state.Mode.TheVariants.{Online}
use Rattle.rt_repair.specs.Repairing.{added_entries, Repairing}

-- each segment with an entry has one in the other list
abbrev pub Entered : List IdealEntry → List IdealEntry → Type 0
Entered es fs = (p : Partition) (q : ℕ) → HasEntry es p q → HasEntry fs p q

pub entered_same : (es : List IdealEntry) → Entered es es
entered_same es p q has = has

entered_then : (es fs gs : List IdealEntry) → Entered es fs → Entered fs gs → Entered es gs
entered_then es fs gs a b p q has = b p q (a p q has)

-- entries that are changed in their places
changed_entered : (f : IdealEntry → IdealEntry) (es : List IdealEntry)
    → ((e : IdealEntry) → ((f e).partition ≡ e.partition) × ((f e).sequence ≡ e.sequence)) → Entered es (map f es)
changed_entered f es place p q has =
    let n = entry_names es p (record { 0 = q }) has in
    let same = place n.0 in
    names_entry (map f es) p (record { 0 = q }) (f n.0, map-Has f es n.0 n.1, same.0 ∙ n.2, ap (λ (s : Sequence). s.0) same.1 ∙ n.3)

online_place : (p : Partition) (s : Sequence) (e : IdealEntry) → ((turned_online p s e).partition ≡ e.partition) × ((turned_online p s e).sequence ≡ e.sequence)
online_place p s e = by_test (is_of p s e)
  where
    by_test : (b : Bool) → ((cond b (record e { mode = Online }) e).partition ≡ e.partition) × ((cond b (record e { mode = Online }) e).sequence ≡ e.sequence)
    by_test true = (refl, refl)
    by_test false = (refl, refl)

offline_place : (p : Partition) (s : Sequence) (i : Instance) (e : IdealEntry)
    → ((turned_offline p s i e).partition ≡ e.partition) × ((turned_offline p s i e).sequence ≡ e.sequence)
offline_place p s i e = by_test (is_of_instance p s i e)
  where
    by_test : (b : Bool) → ((cond b (record e { mode = offline_mode e.mode }) e).partition ≡ e.partition)
        × ((cond b (record e { mode = offline_mode e.mode }) e).sequence ≡ e.sequence)
    by_test true = (refl, refl)
    by_test false = (refl, refl)

consuming_entered : (es : List IdealEntry) (p : Partition) (s : Sequence) (is : List Instance) → Entered es (with_consuming es p s is)
consuming_entered es p s is o q has =
    let n = entry_names es o (record { 0 = q }) has in
    names_entry (with_consuming es p s is) o (record { 0 = q }) (n.0, with_consuming-Has es p s is n.0 n.1, n.2, n.3)

-- an instance stops
pub offline_entered : (es : List IdealEntry) (p : Partition) (s : Sequence) (i : Instance) → Entered es (set_offline_of es p s i)
offline_entered es p s i = changed_entered (turned_offline p s i) es (offline_place p s i)

-- a segment is committed
pub commit_entered : (es : List IdealEntry) (p : Partition) (s : Sequence) (next : List Instance) → Entered es (commit_step_of es p s next)
commit_entered es p s next =
    let turned = map (turned_online p s) es in
    let more = with_consuming turned p (next_sequence s) next in
    let online = changed_entered (turned_online p s) es (online_place p s) in
    cond_both (has_entry es p s) (cond (has_entry es p (next_sequence s)) turned more) es (Entered es)
    (λ b. cond_both (has_entry es p (next_sequence s)) turned more (Entered es) (λ c. online)
    (λ c. entered_then es turned more online (consuming_entered turned p (next_sequence s) next)))
    (λ b. entered_same es)

add_entered : (es : List IdealEntry) (p : Partition) (s : Sequence) (is : List Instance) → Entered es (add_consuming_of es p s is)
add_entered es p s is =
    cond_both (has_entry es p s) es (cond (goes_on es p s.0) (with_consuming es p s is) es) (Entered es) (λ b. entered_same es)
    (λ b. cond_both (goes_on es p s.0) (with_consuming es p s is) es (Entered es) (λ c. consuming_entered es p s is) (λ c. entered_same es))

-- a repair adds a segment
pub added_entered : (r : Repairing) (s : Sequence) (follows : Bool) (es : List IdealEntry) → Entered es (added_entries r s follows es)
added_entered r s follows es =
    cond_both (follows && nat_lt 0 s.0) (commit_step_of es r.partition (record { 0 = s.0 - 1 }) r.instances)
    (add_consuming_of es r.partition s r.instances) (Entered es) (λ b. commit_entered es r.partition (record { 0 = s.0 - 1 }) r.instances)
    (λ b. add_entered es r.partition s r.instances)
