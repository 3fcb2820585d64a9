-- What a call comes to, by the answer that its store gave.
use Rattle.std.proofs.Common.{◌≡◌, ℕ, inr, true, false, Option, Some, None, Result, Ok, Err, refl, sym, ap, subst, ◌∙◌}
use Rattle.rt_base.specs.declared.numbers.Instance.{Instance}
use Rattle.rt_base.specs.declared.numbers.Moment.{Moment}
use Rattle.rt_base.specs.declared.numbers.Partition.{Partition}
use Rattle.rt_base.specs.declared.numbers.Sequence.{Sequence}
use Rattle.rt_model.specs.declared.ideal_state.Mode.{Mode}
use Rattle.rt_model.specs.declared.node.Key.TheVariants as key
use Rattle.rt_model.specs.declared.node.Seen.{Seen}
use Rattle.rt_model.specs.declared.replica_state.ReplicaState.{ReplicaState}
use Rattle.rt_model.specs.declared.seg_meta.SeenMeta.{SeenMeta}
use Rattle.rt_model.specs.Entries.{entries_by}
use Rattle.rt_store.specs.declared.refused.StoreRefused.{StoreRefused}
use Rattle.rt_store.specs.declared.refused.StoreRefused.TheVariants as store
use Rattle.rt_store.specs.Calls.{Bumps, Reads}
use Rattle.rt_store.specs.Meaning.{Meaning}
use Rattle.rt_entry.specs.declared.refused.ServerRefused.{ServerRefused}
use Rattle.rt_entry.specs.declared.refused.ServerRefused.TheVariants.{NotDue, StoreFault, BadFile, Memory}
use Rattle.rt_entry.specs.Calls.{Comes, MayRunOut, Step}
use Rattle.rt_server.specs.Calls.{RanOut, Restarts, WroteNothing, SeesIdeal, Transits, TransitsIf, TransitsTo, answered_by, in_incarnation, restarted_in, seen_in, stepped_by, targets_of, with_targets}
use Rattle.rt_server.specs.Table.{Segments, ServerState, target_of, with_table}
use Rattle.rt_entry.specs.Transition.{metadata_in}
use Rattle.rt_server.specs.Transition.{moved_if, removed, transit_due, transited, transition}

abbrev refuse : (X : Type 0) → ServerRefused → Result X ServerRefused
refuse X e = Err e

-- a refused call comes to that refusal
refuses : {S X : Type 0} (step : Step S X) (s : S) (e : ServerRefused) → step ≡ Err e → Comes step s s (refuse X e)
refuses step s NotDue e = (e, refl)
refuses step s StoreFault e = (e, refl)
refuses step s (BadFile wanted found) e = (e, refl)
refuses step s Memory e = (subst MayRunOut (sym e) tt, refl)

-- ---- transitions

due_to : (before after : Meaning) (old new : ServerState) (p : Partition) (q : Sequence) (now : Moment) (result : Result ReplicaState ServerRefused) (o : Option Mode)
    → transit_due old.table p q ≡ true → target_of old.table p q ≡ o → TransitsTo o before after old new p q now result
    → Transits before after old new p q now result
due_to before after old new p q now result o due target h =
    subst (λ b. TransitsIf b before after old new p q now result) (sym due)
    (subst (λ m. TransitsTo m before after old new p q now result) (sym target) h)

pub transits_not_due : (m : Meaning) (s : ServerState) (p : Partition) (q : Sequence) (now : Moment) → transit_due s.table p q ≡ false
    → Transits m m s s p q now (Err NotDue)
transits_not_due m s p q now due = subst (λ b. TransitsIf b m m s s p q now (Err NotDue)) (sym due) (refl, refl, refl)

abbrev the : ReplicaState → Result ReplicaState ServerRefused
the x = Ok x

pub transits_gone : (m : Meaning) (s new : ServerState) (t : Segments) (p : Partition) (q : Sequence) (now : Moment) (x : ReplicaState)
    → transit_due s.table p q ≡ true → target_of s.table p q ≡ None → (x, t) ≡ removed s.table p q → new ≡ with_table s t
    → Transits m m s new p q now (Ok x)
transits_gone m s new t p q now x due target e put =
    due_to m m s new p q now (Ok x) None due target
    (refl, ap (λ (r : ReplicaState × Segments). the r.0) e, put ∙ ap (λ (r : ReplicaState × Segments). with_table s r.1) e)

pub transits_ok : (before after : Meaning) (s new : ServerState) (t : Segments) (p : Partition) (q : Sequence) (now : Moment) (mode : Mode) (answer : Result Seen StoreRefused) (seen : Option SeenMeta) (x : ReplicaState)
    → transit_due s.table p q ≡ true → target_of s.table p q ≡ Some mode → Reads before after (key.Meta p q) answer → metadata_in answer ≡ Ok seen
    → (x, t) ≡ transition s.setup s.table p q now mode seen → new ≡ with_table s t → Transits before after s new p q now (Ok x)
transits_ok before after s new t p q now mode answer seen x due target reads told e put =
    due_to before after s new p q now (Ok x) (Some mode) due target (
      answer,
      reads,
      ap (λ m. stepped_by s (moved_if s.setup s.table p q now mode m)) told
          ∙ sym (ap (λ (r : ReplicaState × Segments). stepped_by s (Ok r)) e)
          ∙ sym (ap (λ n. came x n) put),
    )
  where
    came : ReplicaState → ServerState → Step ServerState ReplicaState
    came x n = Ok (x, n)

pub transits_refused : (before after : Meaning) (s : ServerState) (p : Partition) (q : Sequence) (now : Moment) (mode : Mode) (answer : Result Seen StoreRefused) (e : ServerRefused)
    → transit_due s.table p q ≡ true → target_of s.table p q ≡ Some mode → Reads before after (key.Meta p q) answer → metadata_in answer ≡ Err e
    → Transits before after s s p q now (Err e)
transits_refused before after s p q now mode answer e due target reads told =
    due_to before after s s p q now (Err e) (Some mode) due target
    (answer, reads, refuses (stepped_by s (transited s.setup s.table p q now mode answer)) s e (ap (λ m. stepped_by s (moved_if s.setup s.table p q now mode m)) told))

pub transits_memory : (before after : Meaning) (s : ServerState) (p : Partition) (q : Sequence) (now : Moment) (mode : Mode) (answer : Result Seen StoreRefused) (seen : Option SeenMeta)
    → transit_due s.table p q ≡ true → target_of s.table p q ≡ Some mode → Reads before after (key.Meta p q) answer → metadata_in answer ≡ Ok seen
    → Transits before after s s p q now (Err Memory)
transits_memory before after s p q now mode answer seen due target reads told =
    due_to before after s s p q now (Err Memory) (Some mode) due target
    (answer, reads, (subst (λ m. MayRunOut (stepped_by s (moved_if s.setup s.table p q now mode m))) (sym told) tt, refl))

-- ---- the ideal state, and a restart

pub sees_ok : (before after : Meaning) (s : ServerState) (answer : Result Seen StoreRefused) (seen : Seen)
    → Reads before after key.Ideal answer → answered_by answer ≡ Ok seen
    → SeesIdeal before after s (with_targets s (targets_of s.numbers.instance (entries_by seen.node))) (Ok seen.version)
sees_ok before after s answer seen reads told = (answer, reads, ap (seen_in s) told)

pub sees_refused : (before after : Meaning) (s : ServerState) (answer : Result Seen StoreRefused) (e : ServerRefused)
    → Reads before after key.Ideal answer → answered_by answer ≡ Err e → SeesIdeal before after s s (Err e)
sees_refused before after s answer e reads told = (answer, reads, refuses (seen_in s (answered_by answer)) s e (ap (seen_in s) told))

pub sees_memory : (before after : Meaning) (s : ServerState) (answer : Result Seen StoreRefused) (seen : Seen)
    → Reads before after key.Ideal answer → answered_by answer ≡ Ok seen → SeesIdeal before after s s (Err Memory)
sees_memory before after s answer seen reads told = (answer, reads, (subst (λ a. MayRunOut (seen_in s a)) (sym told) tt, refl))

pub restarts_ok : (before after : Meaning) (s : ServerState) (answer : Result ℕ StoreRefused) (version : ℕ)
    → Bumps before after s.numbers.instance answer → answered_by answer ≡ Ok version
    → Restarts before after s (in_incarnation s version) (Ok version)
restarts_ok before after s answer version bumps told = (answer, bumps, ap (restarted_in s) told, tt)

-- a bump that ran out of memory wrote nothing
out_of_memory : (before after : Meaning) (i : Instance) (answer : Result ℕ StoreRefused) → Bumps before after i answer → answered_by answer ≡ refuse ℕ Memory → RanOut before after
out_of_memory before after i (Ok version) c told = absurd (cc)
out_of_memory before after i (Err store.NoNode) c told = absurd (cc)
out_of_memory before after i (Err (store.Exists found)) c told = absurd (cc)
out_of_memory before after i (Err (store.VersionChanged expected found)) c told = absurd (cc)
out_of_memory before after i (Err store.Failed) c told = absurd (cc)
out_of_memory before after i (Err store.Memory) c told = inr (c.base, c.sees, c.goes)

wrote_nothing : (before after : Meaning) (i : Instance) (answer : Result ℕ StoreRefused) (e : ServerRefused) → Bumps before after i answer → answered_by answer ≡ refuse ℕ e
    → WroteNothing before after (refuse ℕ e)
wrote_nothing before after i answer NotDue c told = tt
wrote_nothing before after i answer StoreFault c told = tt
wrote_nothing before after i answer (BadFile wanted found) c told = tt
wrote_nothing before after i answer Memory c told = out_of_memory before after i answer c told

pub restarts_refused : (before after : Meaning) (s : ServerState) (answer : Result ℕ StoreRefused) (e : ServerRefused)
    → Bumps before after s.numbers.instance answer → answered_by answer ≡ Err e → Restarts before after s s (Err e)
restarts_refused before after s answer e bumps told = (
  answer,
  bumps,
  refuses (restarted_in s (answered_by answer)) s e (ap (restarted_in s) told),
  wrote_nothing before after s.numbers.instance answer e bumps told,
)
