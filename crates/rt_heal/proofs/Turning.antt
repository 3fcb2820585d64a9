-- What each write owes so that committed segments stay turned, as the history grows by it.
use Rattle.std.proofs.Common.{◌≡◌, ℕ, ◌+◌, ◌<◌, ◌⊎◌, inl, inr, List, [], ◌∷◌, ◌++◌, Option, Some, None, refl, sym, ◌∙◌, ap, subst}
use Rattle.rt_base.specs.declared.numbers.Instance.{Instance}
use Rattle.rt_base.specs.declared.numbers.Partition.{Partition}
use Rattle.rt_lists.specs.Members.{Has, IsFront}
use Rattle.rt_lists.proofs.Members.{front_push, Has-front, Has-push_cases}
use Rattle.rt_model.specs.Entries.{AreGrounded, entries_by, entries_in, entries_of, HasEntry}
use Rattle.rt_model.specs.History.{last_write, Stands}
use Rattle.rt_model.specs.Lawful.{Write, create, set, delete, create_after, bump, written_by, write_of, IsLawfulHistory, TakesEffect}
use Rattle.rt_model.specs.Laws.{IsEnding}
use Rattle.rt_model.specs.Metadata.{node_key, BecameDone, IsCreated, IsDone}
use Rattle.rt_model.specs.Starting.{Starting}
use Rattle.rt_model.specs.declared.ideal_state.IdealEntry.{IdealEntry}
use Rattle.rt_model.specs.declared.node.Key.{Key}
use Rattle.rt_model.specs.declared.node.Key.TheVariants as key
use Rattle.rt_model.specs.declared.node.Node.{Node}
use Rattle.rt_model.specs.declared.node.Node.TheVariants as node
use Rattle.rt_model.specs.declared.node.Seen.{Seen}
use Rattle.rt_model.specs.declared.status.Status.TheVariants.{Abandoned}
use Rattle.rt_model.proofs.Chains.{IsDone-final}
use Rattle.rt_model.proofs.Entries.{entry_names}
use Rattle.rt_model.proofs.Histories.{last_write-more, last_write-other, Stands-last}
use Rattle.rt_model.proofs.Lawful.{has_chains, has_endings, versions_count_writes}
use Rattle.rt_model.proofs.Lives.{Follows-final}
use Rattle.rt_past.specs.Segments.{HadEntry}
use Rattle.rt_store.specs.Answers.{Leaves}
use Rattle.rt_store.proofs.Seeing.{effect_of}
use Rattle.rt_heal.specs.Dropped.{NoneConsumes}
use Rattle.rt_heal.specs.Turned.{AreTurned, WasCommitted}
use Rattle.rt_heal.proofs.Mended.{present_grounded}

-- ---- segments that ended

-- a segment has ended after which one was created
pub created_ended : (s : Starting) (h : List Seen) (p : Partition) (q : ℕ) → IsLawfulHistory s h → p.0 < s.partitions → IsCreated h p (q + 1)
    → (w : Seen) × IsEnding h p q w
created_ended s h p q lawful within (c, has, is, opens) =
    let n = (has_chains s h lawful p within).next q c (record { has = has; is_of = is; starts = opens }) in
    (n.0, record { has = n.1; is_of = n.2; final = Follows-final n.0.node c.node n.3 })

-- one that is committed later was already, where the next one was created
pub done_before : (s : Starting) (h k : List Seen) (p : Partition) (q : ℕ) → IsFront h k → IsLawfulHistory s h → IsLawfulHistory s k → p.0 < s.partitions
    → IsCreated h p (q + 1) → BecameDone k p q → BecameDone h p q
done_before s h k p q front before after within created (w, has, is, done) =
    let e = created_ended s h p q before within created in
    let same = (has_endings s k after p q within).once e.0 w
    (record { has = Has-front h k e.0 front e.1.has; is_of = e.1.is_of; final = e.1.final })
    (record { has = has; is_of = is; final = IsDone-final w.node done }) in
    (e.0, e.1.has, e.1.is_of, subst (λ (v : Seen). IsDone v.node) (sym same) done)

-- ---- entries

pub entry_created : (h : List Seen) (es : List IdealEntry) (p : Partition) (t : ℕ) → AreGrounded h es → HasEntry es p t → IsCreated h p t
entry_created h es p t grounded has =
    let n = entry_names es p (record { 0 = t }) has in
    subst (λ (x : Partition). IsCreated h x t) n.2 (subst (IsCreated h n.0.partition) n.3 (grounded n.0 n.1).created)

abbrev pub Turned : Starting → List Seen → List IdealEntry → Type 0
Turned s h es = AreTurned (WasCommitted s.partitions h) es

-- so it is of the present entries
abbrev pub TurnedNow : Starting → List Seen → Type 0
TurnedNow s h = Turned s h (entries_of h)

stay_turned : (s : Starting) (h k : List Seen) (es : List IdealEntry) → IsFront h k → IsLawfulHistory s h → IsLawfulHistory s k → AreGrounded h es
    → Turned s h es → Turned s k es
stay_turned s h k es front before after grounded turned p q e next done has at_p at_q =
    turned p q e next
    (done.0, done_before s h k p q front before after done.0 (entry_created h es p (q + 1) grounded next) done.1) has at_p at_q

-- entries that stay while the history grows
pub same_turned : (s : Starting) (h k : List Seen) → IsFront h k → IsLawfulHistory s h → IsLawfulHistory s k → entries_of k ≡ entries_of h
    → TurnedNow s h → TurnedNow s k
same_turned s h k front before after same turned =
    subst (Turned s k) (sym same) (stay_turned s h k (entries_of h) front before after (present_grounded s h before) turned)

-- ---- writes

-- a write of the ideal state commits nothing
ideal_undone : (h : List Seen) (w : Seen) (p : Partition) (q : ℕ) → w.key ≡ key.Ideal → BecameDone (h ++ w ∷ []) p q → BecameDone h p q
ideal_undone h w p q is (v, has, at, done) = by_place (Has-push_cases h w v has)
  where
    apart : key.Ideal ≡ node_key p q → ⊥
    apart e = cc

    by_place : Has h v ⊎ (w ≡ v) → BecameDone h p q
    by_place (inl has) = (v, has, at, done)
    by_place (inr same) = absurd (apart (sym is ∙ ap (λ (x : Seen). x.key) same ∙ at))

-- a node that is given up
abbrev pub IsGivenUp : Node → Type 0
IsGivenUp (node.Meta m) = m.status ≡ Abandoned
IsGivenUp (node.Ideal i) = ⊥
IsGivenUp node.Boot = ⊥
IsGivenUp node.Gone = ⊥

-- no instance is to consume the segment, which had entries
abbrev pub NobodyConsumes : List Seen → Partition → ℕ → Type 0
NobodyConsumes h p q =
    HadEntry h p (record { 0 = q }) × ((i : Instance) → NoneConsumes (entries_of h) p (record { 0 = q }) i)

-- a segment is given up only so
abbrev pub GivesUp : List Seen → Key → Node → Type 0
GivesUp h k n = IsGivenUp n → (p : Partition) (q : ℕ) → k ≡ node_key p q → NobodyConsumes h p q

-- what a call owes that is carried out: a set of the ideal state keeps the entries turned from which it starts, and no other one
-- writes it; and it gives a segment up only where nobody is to consume it
abbrev pub Turns : Starting → List Seen → Write → Type 0
Turns s h (create k n) = (k ≡ key.Ideal → ⊥) × (IsGivenUp n → ⊥)
Turns s h (set from n) =
    Has h from × (from.key ≡ key.Ideal → Turned s h (entries_by from.node) → Turned s h (entries_by n)) × GivesUp h from.key n
Turns s h (delete from) = from.key ≡ key.Ideal → ⊥
Turns s h (create_after k n prior) = (k ≡ key.Ideal → ⊥) × (IsGivenUp n → ⊥)
Turns s h (bump i) = Unit {0}

abbrev pub TurnsSome : Starting → List Seen → Option Write → Type 0
TurnsSome s h None = Unit {0}
TurnsSome s h (Some call) = Turns s h call

pub by_ideal : (k : Key) (P : Type 0) → (k ≡ key.Ideal → P) → ((k ≡ key.Ideal → ⊥) → P) → P
by_ideal key.Ideal P same other = same refl
by_ideal (key.Meta p s) P same other = other (λ e. cc)
by_ideal (key.Boot i) P same other = other (λ e. cc)

module _ (s : Starting) (h : List Seen) (lawful : IsLawfulHistory s h) (turned : TurnedNow s h) where
  other_turned : (w : Seen) → (w.key ≡ key.Ideal → ⊥) → IsLawfulHistory s (h ++ w ∷ []) → TurnedNow s (h ++ w ∷ [])
  other_turned w other after =
      same_turned s h (h ++ w ∷ []) (front_push h w) lawful after (ap entries_in (last_write-other h w key.Ideal other)) turned

  set_turned : (from : Seen) (n : Node) → from.key ≡ key.Ideal → Stands h from → Turns s h (set from n) → TurnedNow s (h ++ write_of h from.key n ∷ [])
  set_turned from n is stands turns p q e next done has at_p at_q =
      let w = write_of h from.key n in
      let last = Stands-last h from (versions_count_writes s h lawful) turns.0 stands in
      let now : entries_of h ≡ entries_by from.node = ap entries_in (ap (last_write h) (sym is) ∙ last.0) in
      let new : entries_of (h ++ w ∷ []) ≡ entries_by n = ap entries_in (last_write-more h w key.Ideal is) in
      turns.1 is (subst (Turned s h) now turned) p q e (subst (λ (es : List IdealEntry). HasEntry es p (q + 1)) new next)
      (done.0, ideal_undone h w p q is done.1) (subst (λ (es : List IdealEntry). Has es e) new has) at_p at_q

  wrote_turned : (call : Write) → IsLawfulHistory s (h ++ written_by h call ∷ []) → TakesEffect h call → Turns s h call
      → TurnedNow s (h ++ written_by h call ∷ [])
  wrote_turned (create k n) after effect turns = other_turned (write_of h k n) turns.0 after
  wrote_turned (set from n) after effect turns =
      by_ideal from.key (TurnedNow s (h ++ write_of h from.key n ∷ [])) (λ is. set_turned from n is effect turns)
      (λ other. other_turned (write_of h from.key n) other after)
  wrote_turned (delete from) after effect turns = other_turned (write_of h from.key node.Gone) turns after
  wrote_turned (create_after k n prior) after effect turns = other_turned (write_of h k n) turns.0 after
  wrote_turned (bump i) after effect turns = other_turned (write_of h (key.Boot i) node.Boot) (λ e. cc) after

  -- what a call leaves
  pub leaves_turned : (k : List Seen) (call : Write) → IsLawfulHistory s k → Leaves call h k → Turns s h call → TurnedNow s k
  leaves_turned k call after (inl same) turns = subst (TurnedNow s) (sym same) turned
  leaves_turned k call after (inr (free, more)) turns =
      subst (TurnedNow s) (sym more) (wrote_turned call (subst (IsLawfulHistory s) more after) (effect_of h call free) turns)
