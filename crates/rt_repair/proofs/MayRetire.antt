-- What a retirement remembers makes its write lawful.
use Rattle.std.proofs.Common.{◌≡◌, ◌<◌, ◌||◌, nat_lt, not, true, cond, List, [], ◌∷◌, ◌++◌, Option, Some, refl, sym, ◌∙◌, ap, subst, arith}
use Rattle.std.proofs.lemmas.Bool.{cond_both, or_parts, not-false, not-true}
use Rattle.rt_base.specs.declared.numbers.Moment.{Moment}
use Rattle.rt_base.specs.declared.numbers.Partition.{Partition}
use Rattle.rt_model.specs.declared.ideal_state.IdealEntry.{IdealEntry}
use Rattle.rt_model.specs.declared.ideal_state.IdealState.{IdealState}
use Rattle.rt_model.specs.declared.node.Key.TheVariants as key
use Rattle.rt_model.specs.declared.node.Listed.{Listed}
use Rattle.rt_model.specs.declared.node.Node.TheVariants as node
use Rattle.rt_model.specs.declared.node.Seen.{Seen}
use Rattle.rt_model.specs.declared.status.Status.{Status}
use Rattle.rt_model.specs.declared.status.Status.TheVariants.{InProgress, Done, Abandoned}
use Rattle.rt_model.specs.Entries.{entries_by}
use Rattle.rt_model.specs.Ideal.{has_entry, next_sequence, remove_segment_of}
use Rattle.rt_model.specs.History.{value_of}
use Rattle.rt_model.specs.Lawful.{IsIdealStep, IsLawfulHistory}
use Rattle.rt_model.specs.Laws.{HasRead}
use Rattle.rt_model.specs.Metadata.{metadata_of, IsFinalStatus}
use Rattle.rt_model.specs.Moments.{later}
use Rattle.rt_model.specs.Starting.{Starting, IsAssigned}
use Rattle.rt_model.proofs.Retiring.{deletes_lawfully, removes_lawfully}
use Rattle.rt_repair.specs.declared.read_node.ReadNode.{ReadNode}
use Rattle.rt_repair.specs.declared.retirement.RetireStage.{RetireStage}
use Rattle.rt_repair.specs.declared.retirement.RetireStage.TheVariants.{Listing, Reading, Writing, Ended}
use Rattle.rt_repair.specs.declared.retiring.Retiring.{Retiring}
use Rattle.rt_repair.specs.declared.retiring.Retiring.TheVariants as retiring
use Rattle.rt_repair.specs.IsRepair.{HasIdeal}
use Rattle.rt_repair.specs.IsRetire.{HasListed, Remembers, IsRetire}
use Rattle.rt_repair.specs.ReadNode.{read_node, lowest_node}
use Rattle.rt_repair.specs.Retired.{is_ended, retire_node}
use Rattle.rt_repair.specs.Retirement.{Retirement, retiring_at}
use Rattle.rt_repair.specs.RetireSteps.{MayDo, MayWriteAt}
use Rattle.rt_repair.proofs.MayRepair.{IsState, state_read, sets_lawfully}

ended_final : (status : Status) → is_ended status ≡ true → IsFinalStatus status
ended_final InProgress e = absurd (cc)
ended_final (Done commit) e = tt
ended_final Abandoned e = tt

-- what was seen, from what was listed on
abbrev whole : List Seen → List Seen → List Seen → List Seen
whole h more unseen = (h ++ more) ++ unseen

-- what a retirement has read of a partition whose lowest segment isn't the last
pub record Reads (s : Starting) (h more : List Seen) (p : Partition) (l m : Listed) (ls : List Listed) (ideal : Seen) : Type 0 where
  pub assigned : IsAssigned s
  pub front : IsLawfulHistory s h
  pub lawful : IsLawfulHistory s (h ++ more)
  pub within : p.0 < s.partitions
  pub listed : metadata_of h p ≡ l ∷ m ∷ ls
  pub value : value_of (h ++ more) key.Ideal ≡ Some ideal

has_read :
    (s : Starting) (h more : List Seen) (p : Partition) (l m : Listed) (ls : List Listed) (ideal : Seen) (i : IdealState)
    → Reads s h more p l m ls ideal → ideal.node ≡ node.Ideal i → is_ended l.seen.meta.status ≡ true
    → HasRead s h more p l (m ∷ ls) i
has_read s h more p l m ls ideal i k state ended =
    record {
      begins = (k.front.later, k.front.whole);
      lawful = k.lawful;
      within = k.within;
      listed = k.listed;
      followed = omega arith;
      ended = ended_final l.seen.meta.status ended;
      read = (ideal, k.value, state);
    }

may_node :
    (s : Starting) (h more unseen : List Seen) (r : Retirement) (now : Moment) (l m : Listed) (ls : List Listed) (ideal : Seen)
    (i : IdealState) → Reads s h more r.partition l m ls ideal → IsState (whole h more unseen) ideal i
    → MayDo (whole h more unseen) r (Some (read_node r.partition l)) ideal
    (retire_node r.partition l.sequence l.seen.meta (entries_by ideal.node) now r.keep)
may_node s h more unseen r now l m ls ideal i k state =
    let p = r.partition in
    let seen = whole h more unseen in
    let es = entries_by ideal.node in
    let q = l.sequence in
    let same : es ≡ i.entries = ap entries_by state.state in
    let P : Retiring → Type 0 = MayDo seen r (Some (read_node p l)) ideal in
    let early = nat_lt now.0 (later l.seen.meta.written r.keep).0 in
    let next = cond (has_entry es p (next_sequence q)) (retiring.Remove q) retiring.Nothing in
    let rest = cond (not (has_entry es p q)) (retiring.Delete q) next in
    cond_both (not (is_ended l.seen.meta.status) || early) retiring.Nothing rest P
    (λ a. tt)
    (λ b.
    let ended = not-false (is_ended l.seen.meta.status) (or_parts (not (is_ended l.seen.meta.status)) early b).0 in
    let read = has_read s h more p l m ls ideal i k state.state ended in
    cond_both (not (has_entry es p q)) (retiring.Delete q) next P
    (λ none.
    deletes_lawfully s h more unseen p l (m ∷ ls) i k.assigned read
    (ap (λ fs. has_entry fs p q) (sym same) ∙ not-true (has_entry es p q) none))
    (λ has. cond_both (has_entry es p (next_sequence q)) (retiring.Remove q) retiring.Nothing P
    (λ there.
    let step = removes_lawfully s h more unseen p l (m ∷ ls) i read
    (ap (λ fs. has_entry fs p (next_sequence q)) (sym same) ∙ there) in
    let S : List IdealEntry → Type 0 = λ fs. IsIdealStep seen fs (remove_segment_of fs p q) in
    sets_lawfully seen ideal i (remove_segment_of es p q) state (subst S (sym same) step))
    (λ off. tt)))

abbrev MayAt : List Seen → Retirement → Moment → Seen → Option ReadNode → Type 0
MayAt seen r now ideal lowest = MayDo seen r lowest ideal (retiring_at r now lowest ideal)

may_list :
    (s : Starting) (h more unseen : List Seen) (r : Retirement) (now : Moment) (ideal : Seen) (i : IdealState) (nodes : List Listed)
    → IsAssigned s → IsLawfulHistory s h → IsLawfulHistory s (h ++ more) → r.partition.0 < s.partitions
    → value_of (h ++ more) key.Ideal ≡ Some ideal → IsState (whole h more unseen) ideal i → metadata_of h r.partition ≡ nodes
    → MayAt (whole h more unseen) r now ideal (lowest_node r.partition nodes)
may_list s h more unseen r now ideal i [] assigned front lawful within value state e = tt
may_list s h more unseen r now ideal i (l ∷ []) assigned front lawful within value state e = tt
may_list s h more unseen r now ideal i (l ∷ m ∷ ls) assigned front lawful within value state e =
    may_node s h more unseen r now l m ls ideal i
    (record { assigned = assigned; front = front; lawful = lawful; within = within; listed = e; value = value })
    state

may_write :
    (s : Starting) (seen h g : List Seen) (r : Retirement) (now : Moment) (lowest : Option ReadNode) (ideal : Seen)
    → IsAssigned s → r.partition.0 < s.partitions → HasListed s seen r.partition lowest h → HasIdeal s seen h ideal g
    → MayAt seen r now ideal lowest
may_write s seen h g r now lowest ideal assigned within listed read =
    let more = read.longer.0 in
    let unseen = read.past.front.0 in
    let at : g ≡ h ++ more = read.longer.1 in
    let all : seen ≡ whole h more unseen = read.past.front.1 ∙ ap (λ (x : List Seen). x ++ unseen) at in
    let state = state_read s seen h g ideal read in
    let O : Option ReadNode → Type 0 = MayAt seen r now ideal in
    let H : List Seen → Type 0 = λ x. MayAt x r now ideal (lowest_node r.partition (metadata_of h r.partition)) in
    let N : List Seen → Type 0 = λ x. IsState x ideal state.0 in
    let V : List Seen → Type 0 = λ x. value_of x key.Ideal ≡ Some ideal in
    subst O (sym listed.lowest)
    (subst H (sym all)
    (may_list s h more unseen r now ideal state.0 (metadata_of h r.partition) assigned listed.past.lawful
    (subst (IsLawfulHistory s) at read.past.lawful) within (subst V at read.value) (subst N all state.1) refl))

may_at :
    (s : Starting) (seen : List Seen) (r : Retirement) (now : Moment) (stage : RetireStage) → IsAssigned s
    → r.partition.0 < s.partitions → Remembers s seen r.partition stage → MayWriteAt seen r now stage
may_at s seen r now Listing assigned within m = tt
may_at s seen r now (Reading lowest) assigned within m = tt
may_at s seen r now (Writing lowest ideal) assigned within (h, g, listed, read) =
    may_write s seen h g r now lowest ideal assigned within listed read
may_at s seen r now Ended assigned within m = tt

pub may_retire :
    (s : Starting) (seen : List Seen) (r : Retirement) (now : Moment) → IsRetire s seen r → MayWriteAt seen r now r.stage
may_retire s seen r now i = may_at s seen r now r.stage i.assigned i.within i.remembers
