-- A segment that a step of a retirement tells to be deleted was deleted: its node was written to be gone.
use Rattle.std.proofs.Common.{◌≡◌, ℕ, Bool, true, false, cond, not, List, Option, Some, None, Result, Ok, Err, refl, sym, ◌∙◌, ap, subst, slice_get}
use Rattle.std.proofs.lemmas.Option.{same_Some}
use Rattle.std.specs.Prelude.{nat_lt, ◌||◌}
use Rattle.rt_base.proofs.Planned.{without_fault}
use Rattle.rt_base.specs.declared.numbers.ControllerId.{ControllerId}
use Rattle.rt_base.specs.declared.numbers.Moment.{Moment}
use Rattle.rt_base.specs.declared.numbers.Partition.{Partition}
use Rattle.rt_base.specs.declared.numbers.Sequence.{Sequence}
use Rattle.rt_events.specs.declared.event.Event.TheVariants as event
use Rattle.rt_events.specs.declared.outcome.Outcome.{Outcome}
use Rattle.rt_events.specs.declared.outcome.Outcome.TheVariants as came
use Rattle.rt_lists.proofs.Members.{Has-push}
use Rattle.rt_lists.specs.Members.{Has}
use Rattle.rt_model.specs.Entries.{entries_by}
use Rattle.rt_model.specs.Ideal.{has_entry, next_sequence}
use Rattle.rt_model.specs.Lawful.{delete, written_by}
use Rattle.rt_model.specs.Metadata.{IsDeleted, listed_write, metadata_of, node_key}
use Rattle.rt_model.specs.Moments.{later}
use Rattle.rt_model.specs.Starting.{Starting}
use Rattle.rt_model.specs.declared.ideal_state.IdealEntry.{IdealEntry}
use Rattle.rt_model.specs.declared.node.Listed.{Listed}
use Rattle.rt_model.specs.declared.node.Node.TheVariants as node
use Rattle.rt_model.specs.declared.node.Seen.{Seen}
use Rattle.rt_nodes.specs.declared.chore.Chore.TheVariants.{Retire}
use Rattle.rt_nodes.specs.declared.controller_node.ControllerNode.{ControllerNode}
use Rattle.rt_nodes.specs.declared.upkeep.Upkeep.{Upkeep}
use Rattle.rt_repair.proofs.Lists.{lowest_again}
use Rattle.rt_repair.specs.IsRetire.{IsRetire, Remembers}
use Rattle.rt_repair.specs.ReadNode.{listed_again, lowest_listed, read_by}
use Rattle.rt_repair.specs.RetireSteps.{Deletes, Does, Stepped, StepsAt, after_list, after_read, deleted, fails, removed}
use Rattle.rt_repair.specs.Retired.{is_ended, retire_by, retire_node}
use Rattle.rt_repair.specs.Retirement.{Retirement, delete_write, retiring_at}
use Rattle.rt_repair.specs.declared.read_node.ReadNode.{ReadNode}
use Rattle.rt_repair.specs.declared.retirement.RetireStage.{RetireStage}
use Rattle.rt_repair.specs.declared.retirement.RetireStage.TheVariants.{Listing, Reading, Writing, Ended}
use Rattle.rt_repair.specs.declared.retiring.RetireStep.{RetireStep}
use Rattle.rt_repair.specs.declared.retiring.RetireStep.TheVariants as step
use Rattle.rt_repair.specs.declared.retiring.Retiring.{Retiring}
use Rattle.rt_repair.specs.declared.retiring.Retiring.TheVariants as retiring
use Rattle.rt_state.proofs.NeedsNodes.{chore_needs}
use Rattle.rt_state.specs.IsSafeWorld.{IsSafeWorld}
use Rattle.rt_state.specs.Repairs.{KeepsAt, retiring, upkeep_at, upkeep_in}
use Rattle.rt_state.specs.declared.state.State.{State}
use Rattle.rt_store.specs.Answers.{after_by, after_call, answer_by, answer_of, refusal_of}
use Rattle.rt_store.specs.Calls.{Writes}
use Rattle.rt_store.specs.Meaning.{Meaning}
use Rattle.rt_store.specs.Memory.{means}
use Rattle.rt_store.specs.declared.refused.StoreRefused.{StoreRefused}
use Rattle.rt_store.specs.declared.refused.StoreRefused.TheVariants.{NoNode, Exists, VersionChanged, Failed, Memory}
use Rattle.rt_world.proofs.KeepsRepairs.{retiring_its, upkeep_there}
use Rattle.rt_world.specs.Step.{Steps}

-- ---- the call

-- a node is gone by a write that was carried out
abbrev IsGoneBy : List Seen → Seen → Type 0
IsGoneBy h from = (w : Seen) × Has h w × (w.key ≡ from.key) × (w.node ≡ node.Gone)

abbrev carried : Result (Unit {0}) StoreRefused
carried = Ok tt

carried_out : (old new : Meaning) (from : Seen) → Writes old new (delete from) carried → IsGoneBy new.seen from
carried_out old new from c =
    let told = without_fault Failed c.fault (answer_of (λ w. tt) (delete from) c.base) carried c.base (after_call (delete from) c.base) new.seen (λ e. cc) c.goes.answered c.goes.seen in
    by_refusal (refusal_of c.base (delete from)) told.0 told.1
  where
    by_refusal : (o : Option StoreRefused) → carried ≡ answer_by o tt → new.seen ≡ after_by o c.base (written_by c.base (delete from)) → IsGoneBy new.seen from
    by_refusal None e is =
        let w = written_by c.base (delete from) in
        (w, subst (λ (h : List Seen). Has h w) (sym is) (Has-push c.base w), refl, refl)
    by_refusal (Some refused) e is = absurd (cc)

-- ---- what is decided

-- the segment that is to be deleted is the lowest one that was listed
deletes_its : (p : Partition) (l : Listed) (es : List IdealEntry) (now : Moment) (keep : ℕ) (s : Sequence) → retire_node p l.sequence l.seen.meta es now keep ≡ retiring.Delete s
    → l.sequence ≡ s
deletes_its p l es now keep s e =
    by_age (not (is_ended l.seen.meta.status) || nat_lt now.0 (later l.seen.meta.written keep).0) (has_entry es p l.sequence) (has_entry es p (next_sequence l.sequence)) e
  where
    by_age : (young there next : Bool)
        → cond young retiring.Nothing (cond (not there) (retiring.Delete l.sequence) (cond next (retiring.Remove l.sequence) retiring.Nothing)) ≡ retiring.Delete s
        → l.sequence ≡ s
    by_age true there next e = absurd (cc)
    by_age false false next e = cc
    by_age false true true e = absurd (cc)
    by_age false true false e = absurd (cc)

-- ---- a step

abbrev IsGoneAt : List Seen → Partition → Sequence → Type 0
IsGoneAt h p s = IsDeleted h p s.0

-- by what was listed
by_listed : (old new : Meaning) (p : Partition) (o : Option Listed) (es : List IdealEntry) (now : Moment) (keep : ℕ) (s : Sequence) (did : RetireStep)
    → did ≡ step.Deleted s → (q : Sequence) → retire_by p es now keep o ≡ retiring.Delete q → Deletes old new q (delete_write (read_by p o)) did → IsGoneAt new.seen p s
by_listed old new p None es now keep s did is q decided does = absurd (cc)
by_listed old new p (Some l) es now keep s did is q decided (answer, wrote, told) = by_answer answer wrote told
  where
    own : l.sequence ≡ q
    own = deletes_its p l es now keep q decided

    by_answer : (a : Result (Unit {0}) StoreRefused) → Writes old new (delete (listed_write p l)) a → deleted q a ≡ Some did → IsGoneAt new.seen p s
    by_answer (Ok done) c t =
        let same : q ≡ s = same_deleted q s (same_Some (step.Deleted q) did t ∙ is) in
        let gone = carried_out old new (listed_write p l) c in
        (gone.0, gone.1, gone.2 ∙ ap (λ (x : Sequence). node_key p x.0) (own ∙ same), gone.3)
      where
        same_deleted : (a b : Sequence) → step.Deleted a ≡ step.Deleted b → a ≡ b
        same_deleted a b e = cc
    by_answer (Err NoNode) c t = absurd (cc)
    by_answer (Err (Exists found)) c t = absurd (cc)
    by_answer (Err (VersionChanged expected found)) c t = absurd (cc)
    by_answer (Err Failed) c t = absurd (cc)
    by_answer (Err Memory) c t = absurd (cc)

removes_other : (q s : Sequence) (answer : Result ℕ StoreRefused) (did : RetireStep) → did ≡ step.Deleted s → removed q answer ≡ Some did → ⊥
removes_other q s (Ok version) did is t = cc
removes_other q s (Err NoNode) did is t = cc
removes_other q s (Err (Exists found)) did is t = cc
removes_other q s (Err (VersionChanged expected found)) did is t = cc
removes_other q s (Err Failed) did is t = cc
removes_other q s (Err Memory) did is t = cc

fails_other : (r : Retirement) (refused : StoreRefused) (x : Stepped) (s : Sequence) → x.step ≡ step.Deleted s → fails r refused ≡ Some x → ⊥
fails_other r NoNode x s is e = cc
fails_other r (Exists found) x s is e = cc
fails_other r (VersionChanged expected found) x s is e = cc
fails_other r Failed x s is e = cc
fails_other r Memory x s is e = cc

list_other : (r : Retirement) (answer : Result (List Listed) StoreRefused) (x : Stepped) (s : Sequence) → x.step ≡ step.Deleted s → after_list r answer ≡ Some x → ⊥
list_other r (Ok nodes) x s is e = cc
list_other r (Err refused) x s is e = fails_other r refused x s is e

read_other : (r : Retirement) (answer : Result Seen StoreRefused) (x : Stepped) (s : Sequence) → x.step ≡ step.Deleted s → after_read r answer ≡ Some x → ⊥
read_other r (Ok ideal) x s is e = cc
read_other r (Err refused) x s is e = fails_other r refused x s is e

-- a step that tells a deletion has written that the node is gone
pub deletes : (start : Starting) (seen : List Seen) (old new : Meaning) (r : Retirement) (now : Moment) (x : Stepped) (s : Sequence) → IsRetire start seen r
    → StepsAt old new r now x r.stage → x.step ≡ step.Deleted s → IsDeleted new.seen r.partition s.0
deletes start seen old new r now x s i steps is = at_stage r.stage i.remembers steps
  where
    at_stage : (stage : RetireStage) → Remembers start seen r.partition stage → StepsAt old new r now x stage → IsDeleted new.seen r.partition s.0
    at_stage Listing m (answer, lists, told) = absurd (list_other r answer x s is told)
    at_stage (Reading lowest) m (answer, reads, told) = absurd (read_other r answer x s is told)
    at_stage (Writing lowest ideal) (h, g, listed, read) (goes, does) = by_decision (retiring_at r now lowest ideal) refl does
      where
        by_decision : (d : Retiring) → retiring_at r now lowest ideal ≡ d → Does old new r lowest ideal x.step d → IsDeleted new.seen r.partition s.0
        by_decision retiring.Nothing e (same, told) = absurd (cc)
        by_decision (retiring.Remove q) e (answer, wrote, told) = absurd (removes_other q s answer x.step is told)
        by_decision (retiring.Delete q) e wrote =
            by_listed old new r.partition (lowest_listed (metadata_of h r.partition)) (entries_by ideal.node) now r.keep s x.step is q
            (sym (ap (retire_by r.partition (entries_by ideal.node) now r.keep) (ap listed_again listed.lowest ∙ lowest_again r.partition (metadata_of h r.partition))) ∙ e)
            (subst (λ (o : Option ReadNode). Deletes old new q (delete_write o) x.step) listed.lowest wrote)
    at_stage Ended m none = absurd none

-- ---- a `retain` line

-- what tells a deletion has written that the partition's node is gone
pub was_deleted : (w v : State) (c : ControllerId) (p : Partition) (o : Outcome) (q : Sequence) → IsSafeWorld w → Steps w (event.Retain c p) v (Ok o)
    → o ≡ came.Retired (step.Deleted q) → IsDeleted v.store.writes p q.0
was_deleted w v c p o q safe (cost, due, keeps) is = by_node (slice_get w.controllers c.0) (upkeep_at w c p) refl refl keeps
  where
    same_retired : (a b : RetireStep) → came.Retired a ≡ came.Retired b → a ≡ b
    same_retired a b e = cc

    by_node : (n : Option ControllerNode) (u : Option Upkeep) → slice_get w.controllers c.0 ≡ n → upkeep_at w c p ≡ u → KeepsAt n u w c p Retire cost (v, o)
        → IsDeleted v.store.writes p q.0
    by_node None u at there k = absurd k
    by_node (Some n) None at there k = absurd k
    by_node (Some n) (Some old) at there (new, store, (did, (after, steps, left), told), then) =
        let stands : slice_get n.upkeep p.0 ≡ Some old = ap (λ o. upkeep_in o p) (sym at) ∙ there in
        let ready = (((chore_needs w c p Retire cost safe due).4 n at).1 old stands).1 in
        let its : (retiring w.setup p old.retirement).partition.0 ≡ p.0 = retiring_its w.setup p old.retirement (upkeep_there w c p n old safe.safe at there).retires_its in
        let gone = deletes ready.1.0 w.store.writes (means w.store) (means store) (retiring w.setup p old.retirement) w.moment (record { retire = after; step = did }) q ready.1.1 steps
        (same_retired did (step.Deleted q) (sym told ∙ is)) in
        subst (λ (x : State). IsDeleted x.store.writes p q.0) (sym then)
        (subst (λ (x : ℕ). IsDeleted store.writes (record { 0 = x }) q.0) its gone)
