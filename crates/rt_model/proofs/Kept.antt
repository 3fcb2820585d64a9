-- What a lawful history keeps with each write: one record, and one step.
use Rattle.std.proofs.Common.{◌≡◌, ℕ, ◌<◌, ◌≤◌, ◌⊎◌, inl, inr, List, [], ◌∷◌, ◌++◌, Some, refl, sym, ◌∙◌, ap, subst, arith}
use Rattle.std.proofs.lemmas.Bool.{both_ways, cases_lt}
use Rattle.std.proofs.lemmas.List.{append-nil, append_assoc}
use Rattle.rt_base.specs.declared.numbers.Partition.{Partition}
use Rattle.rt_model.specs.declared.ideal_state.IdealEntry.{IdealEntry}
use Rattle.rt_model.specs.declared.ideal_state.IdealState.{IdealState}
use Rattle.rt_model.specs.declared.ideal_state.Mode.TheVariants.{Consuming, Online}
use Rattle.rt_model.specs.declared.node.Key.{Key}
use Rattle.rt_model.specs.declared.node.Key.TheVariants as key
use Rattle.rt_model.specs.declared.node.Node.{Node}
use Rattle.rt_model.specs.declared.node.Node.TheVariants as node
use Rattle.rt_model.specs.declared.node.Seen.{Seen}
use Rattle.rt_lists.specs.Members.{Has}
use Rattle.rt_model.specs.History.{writes_of, last_of, last_write, next_version, IsVersioned}
use Rattle.rt_model.specs.Metadata.{node_key, IsDeleted, IsOpen, IsDone, IsCreated}
use Rattle.rt_model.specs.Entries.{entries_by, entries_in, entries_of, IsIdealWrite, HasEntry, IsGrounded, AreGrounded}
use Rattle.rt_model.specs.Lawful.{Write, create, set, delete, create_after, bump, IsLawful, IsLawfulCreate, IsAfter, Sets, StepsIdeal, IsIdealStep, IsOpenFromZero, Retires, IdealHasLeft, TakesEffect, written_by, write_of, IsLawfulStep, AreLawfulAfter, IsLawfulHistory}
use Rattle.rt_model.specs.Starting.{Starting, starting_ideal, starting_entries, starting_contents}
use Rattle.rt_lists.proofs.Members.{Has-append_left, Has-push_cases, place-Has}
use Rattle.rt_model.proofs.Histories.{Has-writes_of, writes_of-Has, last_of-place, last_write-more, last_write-other, IsVersioned-more, Stands-last}
use Rattle.rt_model.proofs.Lives.{Ends-final, Follows-open, gone_not_final, gone_not_open}
use Rattle.rt_model.proofs.Partitions.{InOrder, InOrder-call, HasNode-more}
use Rattle.rt_model.proofs.Starts.{IsCreated-start, start_there, starting_entry, IsVersioned-start, InOrder-start, HasFirst-start, ideal_start}
use Rattle.rt_model.proofs.Entries.{entry_names, HasNoGap, Onwards, Moves-gap, Moves-onwards}
use Rattle.rt_model.proofs.Steps.{StepsOn, StepsOn-ideal}

-- the entries of a partition have all passed a sequence
pub record HasPassed (es : List IdealEntry) (p : Partition) (t : ℕ) : Type 0 where
  pub some : (u : ℕ) × HasEntry es p u
  pub all : (u : ℕ) → HasEntry es p u → t < u

pub record IsKept (s : Starting) (h : List Seen) : Type 0 where
  pub versions : IsVersioned h
  pub order : (p : Partition) → p.0 < s.partitions → InOrder h p
  pub present : (w : Seen) × (i : IdealState) × (last_write h key.Ideal ≡ Some w) × (w.node ≡ node.Ideal i)
  pub grounded : (w : Seen) → IsIdealWrite h w → AreGrounded h (entries_by w.node)
  pub unbroken : (w : Seen) → IsIdealWrite h w → (p : Partition) → HasNoGap (HasEntry (entries_by w.node) p)
  pub onwards :
      (w : Seen) → IsIdealWrite h w → (p : Partition)
      → Onwards (HasEntry (entries_by w.node) p) (HasEntry (entries_of h) p)
  pub passed : (p : Partition) (t : ℕ) → IsDeleted h p t → HasPassed (entries_of h) p t

-- ---- small steps

IsGrounded-more : (h more : List Seen) (e : IdealEntry) → IsGrounded h e → IsGrounded (h ++ more) e
IsGrounded-more h more e g =
    record {
      created = HasNode-more h more e.partition e.sequence.0 IsOpen g.created;
      done = λ online. HasNode-more h more e.partition e.sequence.0 IsDone (g.done online);
    }

Onwards-trans :
    (a b c : ℕ → Type 0) → Onwards a b → Onwards b c → Onwards a c
Onwards-trans a b c f g =
    record {
      lowest = λ s t x z.
          let y = f.highest s x in
          let low = g.lowest y.0 t y.2 z in
          let r = f.lowest s low.0 x low.2 in
          (r.0, omega (arith, low.1, r.1), r.2);
      highest = λ s x.
          let y = f.highest s x in
          let z = g.highest y.0 y.2 in
          (z.0, omega (arith, y.1, z.1), z.2);
    }

HasPassed-onwards :
    (es fs : List IdealEntry) (p : Partition) (t : ℕ) → Onwards (HasEntry es p) (HasEntry fs p)
    → HasPassed es p t → HasPassed fs p t
HasPassed-onwards es fs p t o h =
    record {
      some = let r = o.highest h.some.0 h.some.1 in (r.0, r.2);
      all = λ u has.
          let low = o.lowest h.some.0 u h.some.1 has in
          let above : t < low.0 = h.all low.0 low.2 in
          omega (arith, low.1);
    }

-- an ideal state that has left a segment has passed it
left_passed :
    (es : List IdealEntry) (p : Partition) (t v : ℕ) → HasNoGap (HasEntry es p) → (HasEntry es p t → ⊥) → t < v
    → HasEntry es p v → HasPassed es p t
left_passed es p t v whole none lt has = record { some = (v, has); all = λ u at_u. above u at_u (cases_lt t u) }
  where
    above : (u : ℕ) → HasEntry es p u → (t < u) ⊎ (u ≤ t) → t < u
    above u at_u (inl lt) = lt
    above u at_u (inr le) = absurd (none (whole u t v le (omega arith) at_u has))

pub entries_of-last : (h : List Seen) (w : Seen) → last_write h key.Ideal ≡ Some w → entries_of h ≡ entries_by w.node
entries_of-last h w e = ap entries_in e

pub same_entries : (es fs : List IdealEntry) → fs ≡ es → (P : List IdealEntry → Type 0) → P es → P fs
same_entries es fs e P x = subst P (sym e) x

pub same_by : (v w : Seen) → v ≡ w → (P : Seen → Type 0) → P v → P w
same_by v w e P x = subst P e x

-- the last write of a key is one of the history
pub last_of-Has : (ws : List Seen) (w : Seen) → last_of ws ≡ Some w → Has ws w
last_of-Has ws w e = let r = last_of-place ws w e in place-Has ws r.0 w r.2

pub last_write-Has : (h : List Seen) (k : Key) (w : Seen) → last_write h k ≡ Some w → Has h w × (w.key ≡ k)
last_write-Has h k w e = writes_of-Has h w k (last_of-Has (writes_of h k) w e)

pub present_is : (h : List Seen) (w : Seen) → last_write h key.Ideal ≡ Some w → IsIdealWrite h w
present_is h w e = let r = last_write-Has h key.Ideal w e in record { has = r.0; is_ideal = r.1 }

-- ---- a write of another key

IsKept-other :
    (s : Starting) (h : List Seen) (w : Seen) → IsKept s h
    → w.version ≡ next_version h w.key
    → ((p : Partition) → p.0 < s.partitions → InOrder (h ++ w ∷ []) p)
    → (w.key ≡ key.Ideal → ⊥)
    → ((p : Partition) (t : ℕ) → w.key ≡ node_key p t → w.node ≡ node.Gone → HasPassed (entries_of h) p t)
    → IsKept s (h ++ w ∷ [])
IsKept-other s h w k version order other gone =
    let last : last_write (h ++ w ∷ []) key.Ideal ≡ last_write h key.Ideal = last_write-other h w key.Ideal other in
    let es : entries_of (h ++ w ∷ []) ≡ entries_of h = ap entries_in last in
    record {
      versions = IsVersioned-more h w k.versions version;
      order = order;
      present = (k.present.0, k.present.1, last ∙ k.present.2, k.present.3);
      grounded = λ v is e has. IsGrounded-more h (w ∷ []) e (k.grounded v (before v is) e has);
      unbroken = λ v is p. k.unbroken v (before v is) p;
      onwards = λ v is p.
          same_entries (entries_of h) (entries_of (h ++ w ∷ [])) es
          (λ x. Onwards (HasEntry (entries_by v.node) p) (HasEntry x p))
          (k.onwards v (before v is) p);
      passed = λ p t d.
          same_entries (entries_of h) (entries_of (h ++ w ∷ [])) es (λ x. HasPassed x p t)
          (by_write p t d.0 d.2 d.3 (Has-push_cases h w d.0 d.1));
    }
  where
    before_at : (v : Seen) → v.key ≡ key.Ideal → Has h v ⊎ (w ≡ v) → IsIdealWrite h v
    before_at v ideal (inl has) = record { has = has; is_ideal = ideal }
    before_at v ideal (inr same) = absurd (other (ap (λ (x : Seen). x.key) same ∙ ideal))

    before : (v : Seen) → IsIdealWrite (h ++ w ∷ []) v → IsIdealWrite h v
    before v is = before_at v is.is_ideal (Has-push_cases h w v is.has)

    by_write :
        (p : Partition) (t : ℕ) (v : Seen) → v.key ≡ node_key p t → v.node ≡ node.Gone → Has h v ⊎ (w ≡ v)
        → HasPassed (entries_of h) p t
    by_write p t v of is_gone (inl has) = k.passed p t (v, has, of, is_gone)
    by_write p t v of is_gone (inr same) =
        gone p t (ap (λ (x : Seen). x.key) same ∙ of) (ap (λ (x : Seen). x.node) same ∙ is_gone)

-- ---- a set of the ideal state

IsKept-ideal :
    (s : Starting) (h : List Seen) (w : Seen) (i : IdealState) → IsKept s h
    → w.version ≡ next_version h w.key
    → ((p : Partition) → p.0 < s.partitions → InOrder (h ++ w ∷ []) p)
    → w.key ≡ key.Ideal → w.node ≡ node.Ideal i → StepsOn h (entries_of h) i.entries
    → IsKept s (h ++ w ∷ [])
IsKept-ideal s h w i k version order ideal made steps =
    let last : last_write (h ++ w ∷ []) key.Ideal ≡ Some w = last_write-more h w key.Ideal ideal in
    let by : entries_by w.node ≡ i.entries = ap entries_by made in
    let es : entries_of (h ++ w ∷ []) ≡ i.entries = ap entries_in last ∙ by in
    record {
      versions = IsVersioned-more h w k.versions version;
      order = order;
      present = (w, i, last, made);
      grounded = λ v is e has.
          IsGrounded-more h (w ∷ []) e (grounded_at v is.is_ideal by (Has-push_cases h w v is.has) e has);
      unbroken = λ v is p. unbroken_at v is.is_ideal p by (Has-push_cases h w v is.has);
      onwards = λ v is p.
          same_entries i.entries (entries_of (h ++ w ∷ [])) es
          (λ x. Onwards (HasEntry (entries_by v.node) p) (HasEntry x p))
          (onwards_at v is.is_ideal p by (Has-push_cases h w v is.has));
      passed = λ p t d.
          same_entries i.entries (entries_of (h ++ w ∷ [])) es (λ x. HasPassed x p t)
          (HasPassed-onwards (entries_of h) i.entries p t (step p)
          (k.passed p t (deleted_before p t d.0 d.2 d.3 (Has-push_cases h w d.0 d.1))));
    }
  where
    step : (p : Partition) → Onwards (HasEntry (entries_of h) p) (HasEntry i.entries p)
    step p = Moves-onwards (HasEntry (entries_of h) p) (HasEntry i.entries p) (steps.moves p)

    grounded_now : AreGrounded h (entries_of h)
    grounded_now =
        same_entries (entries_by k.present.0.node) (entries_of h) (entries_of-last h k.present.0 k.present.2)
        (AreGrounded h)
        (k.grounded k.present.0 (present_is h k.present.0 k.present.2))

    grounded_at :
        (v : Seen) → v.key ≡ key.Ideal → entries_by w.node ≡ i.entries → Has h v ⊎ (w ≡ v)
        → AreGrounded h (entries_by v.node)
    grounded_at v is by (inl has) = k.grounded v (record { has = has; is_ideal = is })
    grounded_at v is by (inr same) =
        same_by w v same (λ x. AreGrounded h (entries_by x.node))
        (same_entries i.entries (entries_by w.node) by (AreGrounded h) (steps.grounded grounded_now))

    whole_now : (p : Partition) → HasNoGap (HasEntry (entries_of h) p)
    whole_now p =
        same_entries (entries_by k.present.0.node) (entries_of h) (entries_of-last h k.present.0 k.present.2)
        (λ x. HasNoGap (HasEntry x p))
        (k.unbroken k.present.0 (present_is h k.present.0 k.present.2) p)

    whole_new : (p : Partition) → HasNoGap (HasEntry i.entries p)
    whole_new p = Moves-gap (HasEntry (entries_of h) p) (HasEntry i.entries p) (whole_now p) (steps.moves p)

    unbroken_at :
        (v : Seen) → v.key ≡ key.Ideal → (p : Partition) → entries_by w.node ≡ i.entries → Has h v ⊎ (w ≡ v)
        → HasNoGap (HasEntry (entries_by v.node) p)
    unbroken_at v is p by (inl has) = k.unbroken v (record { has = has; is_ideal = is }) p
    unbroken_at v is p by (inr same) =
        same_by w v same (λ x. HasNoGap (HasEntry (entries_by x.node) p))
        (same_entries i.entries (entries_by w.node) by (λ x. HasNoGap (HasEntry x p)) (whole_new p))

    onwards_at :
        (v : Seen) → v.key ≡ key.Ideal → (p : Partition) → entries_by w.node ≡ i.entries → Has h v ⊎ (w ≡ v)
        → Onwards (HasEntry (entries_by v.node) p) (HasEntry i.entries p)
    onwards_at v is p by (inl has) =
        Onwards-trans (HasEntry (entries_by v.node) p) (HasEntry (entries_of h) p) (HasEntry i.entries p)
        (k.onwards v (record { has = has; is_ideal = is }) p) (step p)
    onwards_at v is p by (inr same) =
        same_by w v same (λ x. Onwards (HasEntry (entries_by x.node) p) (HasEntry i.entries p))
        (same_entries i.entries (entries_by w.node) by
        (λ x. Onwards (HasEntry x p) (HasEntry i.entries p))
        (record { lowest = λ a t x y. (t, omega arith, y); highest = λ a x. (a, omega arith, x) }))

    deleted_before :
        (p : Partition) (t : ℕ) (v : Seen) → v.key ≡ node_key p t → v.node ≡ node.Gone → Has h v ⊎ (w ≡ v)
        → IsDeleted h p t
    deleted_before p t v of is_gone (inl has) = (v, has, of, is_gone)
    deleted_before p t v of is_gone (inr same) =
        let clash : key.Ideal ≡ node_key p t = sym ideal ∙ ap (λ (x : Seen). x.key) same ∙ of in absurd (cc)

-- ---- one lawful write more

by_ideal : (k : Key) (P : Type 0) → (k ≡ key.Ideal → P) → ((k ≡ key.Ideal → ⊥) → P) → P
by_ideal key.Ideal P same other = same refl
by_ideal (key.Meta p s) P same other = other (λ e. cc)
by_ideal (key.Boot i) P same other = other (λ e. cc)

-- both nodes of a step of the ideal state are ideal states
pub ideal_nodes :
    (seen : List Seen) (a b : Node) → StepsIdeal seen a b
    → (j : IdealState) × (i : IdealState) × (a ≡ node.Ideal j) × (b ≡ node.Ideal i) × IsIdealStep seen j.entries i.entries
ideal_nodes seen (node.Ideal j) (node.Ideal i) s = (j, i, refl, refl, s)
ideal_nodes seen _ _ s = absurd s

pub not_after_ideal : (j : Key) → IsAfter j key.Ideal → ⊥
not_after_ideal (key.Meta p s) a = a
not_after_ideal key.Ideal a = a
not_after_ideal (key.Boot i) a = a

pub key_family : (P : Key → Type 0) (j k : Key) → j ≡ k → P j → P k
key_family P j k e x = subst P e x

node_family : (P : Node → Type 0) (a b : Node) → a ≡ b → P a → P b
node_family P a b e x = subst P e x

-- an ideal state that was seen to have left a segment has passed it, and so has the present one
left_now :
    (s : Starting) (seen unseen : List Seen) (p : Partition) (t : ℕ) → IsKept s (seen ++ unseen)
    → IdealHasLeft seen p t → HasPassed (entries_of (seen ++ unseen)) p t
left_now s seen unseen p t k (w, i, has, ideal, made, (none, (v, lt, some))) =
    let h = seen ++ unseen in
    let is : IsIdealWrite h w = record { has = Has-append_left seen unseen w has; is_ideal = ideal } in
    let by : i.entries ≡ entries_by w.node = sym (ap entries_by made) in
    let whole : HasNoGap (HasEntry i.entries p) =
    same_entries (entries_by w.node) i.entries by (λ x. HasNoGap (HasEntry x p)) (k.unbroken w is p) in
    let on : Onwards (HasEntry i.entries p) (HasEntry (entries_of h) p) =
    same_entries (entries_by w.node) i.entries by
    (λ x. Onwards (HasEntry x p) (HasEntry (entries_of h) p))
    (k.onwards w is p) in
    HasPassed-onwards i.entries (entries_of h) p t on
    (left_passed i.entries p t v whole (λ has. both_ways _ none has) lt some)

IsKept-call :
    (s : Starting) (later unseen : List Seen) (call : Write)
    → IsKept s ((starting_contents s ++ later) ++ unseen)
    → IsLawful (starting_contents s ++ later) call
    → TakesEffect ((starting_contents s ++ later) ++ unseen) call
    → IsKept s (((starting_contents s ++ later) ++ unseen) ++ written_by ((starting_contents s ++ later) ++ unseen) call ∷ [])
IsKept-call s later unseen call k lawful effect = by_call call lawful effect (order call lawful effect)
  where
    order :
        (call : Write) → IsLawful (starting_contents s ++ later) call
        → TakesEffect ((starting_contents s ++ later) ++ unseen) call
        → (p : Partition) → p.0 < s.partitions
        → InOrder (((starting_contents s ++ later) ++ unseen) ++ written_by ((starting_contents s ++ later) ++ unseen) call ∷ []) p
    order call lawful effect p lt =
        let first = HasFirst-start s p lt in
        InOrder-call (starting_contents s ++ later) unseen p
        (first.0, Has-append_left (starting_contents s) later first.0 first.1, first.2)
        k.versions (k.order p lt) call lawful effect

    by_call :
        (call : Write) → IsLawful (starting_contents s ++ later) call
        → TakesEffect ((starting_contents s ++ later) ++ unseen) call
        → ((p : Partition) → p.0 < s.partitions
        → InOrder (((starting_contents s ++ later) ++ unseen) ++ written_by ((starting_contents s ++ later) ++ unseen) call ∷ []) p)
        → IsKept s (((starting_contents s ++ later) ++ unseen) ++ written_by ((starting_contents s ++ later) ++ unseen) call ∷ [])
    by_call (create j n) lawful effect order =
        let h = (starting_contents s ++ later) ++ unseen in
        let seen = starting_contents s ++ later in
        IsKept-other s h (write_of h j n) k refl order
        (λ e. key_family (λ x. IsLawfulCreate seen x n) j key.Ideal e lawful)
        (λ p t e gone.
        let at_p = key_family (λ x. IsLawfulCreate seen x n) j (node_key p t) e lawful in
        absurd (node_family IsOpenFromZero n node.Gone gone at_p.1))
    by_call (set from n) lawful effect order =
        let h = (starting_contents s ++ later) ++ unseen in
        let seen = starting_contents s ++ later in
        by_ideal from.key (IsKept s (h ++ write_of h from.key n ∷ []))
        (λ e.
        let made = ideal_nodes seen from.node n (key_family (λ x. Sets seen x from.node n) from.key key.Ideal e lawful.1) in
        let last = Stands-last h from k.versions (Has-append_left seen unseen from lawful.0) effect in
        let now : entries_of h ≡ made.0.entries =
        entries_of-last h from (key_family (λ x. last_write h x ≡ Some from) from.key key.Ideal e last.0)
        ∙ ap entries_by made.2 in
        IsKept-ideal s h (write_of h from.key n) made.1 k refl order e made.3
        (same_entries made.0.entries (entries_of h) now (λ x. StepsOn h x made.1.entries)
        (StepsOn-ideal seen unseen made.0.entries made.1.entries
        (λ p t u deleted has.
        (k.passed p t deleted).all u
        (same_entries made.0.entries (entries_of h) now (λ x. HasEntry x p u) has))
        made.4)))
        (λ other.
        IsKept-other s h (write_of h from.key n) k refl order other
        (λ p t e gone.
        let ends = key_family (λ x. Sets seen x from.node n) from.key (node_key p t) e lawful.1 in
        absurd (gone_not_final n gone (Ends-final from.node n ends))))
    by_call (delete from) lawful effect order =
        let h = (starting_contents s ++ later) ++ unseen in
        let seen = starting_contents s ++ later in
        IsKept-other s h (write_of h from.key node.Gone) k refl order
        (λ e. key_family (λ x. Retires seen x from.node) from.key key.Ideal e lawful.1)
        (λ p t e gone.
        let at_p = key_family (λ x. Retires seen x from.node) from.key (node_key p t) e lawful.1 in
        left_now s seen unseen p t k at_p.3)
    by_call (create_after j n prior) lawful effect order =
        let h = (starting_contents s ++ later) ++ unseen in
        IsKept-other s h (write_of h j n) k refl order
        (λ e. not_after_ideal prior.key (key_family (λ x. IsAfter prior.key x) j key.Ideal e lawful.1))
        (λ p t e gone. absurd (gone_not_open n gone (Follows-open prior.node n lawful.2)))
    by_call (bump i) lawful effect order =
        let h = (starting_contents s ++ later) ++ unseen in
        IsKept-other s h (write_of h (key.Boot i) node.Boot) k refl order (λ e. cc) (λ p t e gone. absurd (cc))

-- one lawful write keeps all of it
pub IsKept-step : (s : Starting) (h : List Seen) (w : Seen) → IsKept s h → IsLawfulStep s h w → IsKept s (h ++ w ∷ [])
IsKept-step s h w k step =
    let base = (starting_contents s ++ step.later) ++ step.unseen in
    let P : List Seen → Type 0 = λ x. IsKept s x in
    let Q : List Seen → Type 0 = λ x. TakesEffect x step.write in
    let R : List Seen → Type 0 = λ x. IsKept s (x ++ written_by x step.write ∷ []) in
    let A : Seen → Type 0 = λ x. IsKept s (h ++ x ∷ []) in
    let at_base : R base =
    IsKept-call s step.later step.unseen step.write
    (subst P step.has_seen k) step.lawful (subst Q step.has_seen step.effect) in
    subst A (sym step.wrote) (subst R (sym step.has_seen) at_base)

-- so do all lawful writes after one another
pub IsKept-after :
    (s : Starting) (before later : List Seen) → IsKept s before → AreLawfulAfter s before later
    → IsKept s (before ++ later)
IsKept-after s before [] k a =
    let P : List Seen → Type 0 = λ x. IsKept s x in subst P (sym (append-nil before)) k
IsKept-after s before (w ∷ ws) k a =
    let P : List Seen → Type 0 = λ x. IsKept s x in
    subst P (append_assoc before (w ∷ []) ws)
    (IsKept-after s (before ++ w ∷ []) ws (IsKept-step s before w k a.0) a.1)

start_last : (s : Starting) → last_write (starting_contents s) key.Ideal ≡ Some (starting_ideal s)
start_last s = ap last_of (ideal_start s)

start_entries : (s : Starting) → entries_of (starting_contents s) ≡ starting_entries s s.partitions
start_entries s = ap entries_in (start_last s)

-- the one ideal state of the starting contents
pub start_ideal_is : (s : Starting) (w : Seen) → IsIdealWrite (starting_contents s) w → starting_ideal s ≡ w
start_ideal_is s w is = only (subst P (ideal_start s) (Has-writes_of (starting_contents s) w key.Ideal is.has is.is_ideal))
  where
    P : List Seen → Type 0
    P ws = Has ws w

    only : Has (starting_ideal s ∷ []) w → starting_ideal s ≡ w
    only (inl e) = e
    only (inr h) = absurd h

start_first : (s : Starting) (p : Partition) (t : ℕ) → HasEntry (starting_entries s s.partitions) p t → t ≡ 0
start_first s p t has =
    let n = entry_names (starting_entries s s.partitions) p (record { 0 = t }) has in
    sym n.3 ∙ (starting_entry s s.partitions n.0 n.1).1

Onwards-refl : (a : ℕ → Type 0) → Onwards a a
Onwards-refl a = record { lowest = λ s t x y. (t, omega arith, y); highest = λ s x. (s, omega arith, x) }

start_grounded :
    (s : Starting) (e : IdealEntry) → Has (starting_entries s s.partitions) e → IsGrounded (starting_contents s) e
start_grounded s e has =
    let place = starting_entry s s.partitions e has in
    let P : ℕ → Type 0 = λ t. IsCreated (starting_contents s) e.partition t in
    record {
      created = subst P (sym place.1) (IsCreated-start s e.partition place.0);
      done = λ online. let clash : Consuming ≡ Online = sym place.2 ∙ online in absurd (cc);
    }

pub IsKept-start : (s : Starting) → IsKept s (starting_contents s)
IsKept-start s =
    record {
      versions = IsVersioned-start s;
      order = InOrder-start s;
      present = (starting_ideal s, record { entries = starting_entries s s.partitions }, start_last s, refl);
      grounded = λ w is.
          same_by (starting_ideal s) w (start_ideal_is s w is)
          (λ x. AreGrounded (starting_contents s) (entries_by x.node))
          (start_grounded s);
      unbroken = λ w is p.
          same_by (starting_ideal s) w (start_ideal_is s w is) (λ x. HasNoGap (HasEntry (entries_by x.node) p))
          (λ a b c ab bc x y.
          let at_c = start_first s p c y in
          let same : a ≡ b = omega arith in
          let P : ℕ → Type 0 = λ t. HasEntry (starting_entries s s.partitions) p t in
          subst P same x);
      onwards = λ w is p.
          same_by (starting_ideal s) w (start_ideal_is s w is)
          (λ x. Onwards (HasEntry (entries_by x.node) p) (HasEntry (entries_of (starting_contents s)) p))
          (same_entries (starting_entries s s.partitions) (entries_of (starting_contents s)) (start_entries s)
          (λ x. Onwards (HasEntry (starting_entries s s.partitions) p) (HasEntry x p))
          (Onwards-refl (HasEntry (starting_entries s s.partitions) p)));
      passed = λ p t d. absurd (start_there s d.0 d.1 d.3);
    }

-- a lawful history keeps all of it
pub lawful_kept : (s : Starting) (h : List Seen) → IsLawfulHistory s h → IsKept s h
lawful_kept s h l =
    let P : List Seen → Type 0 = λ x. IsKept s x in
    subst P (sym l.whole) (IsKept-after s (starting_contents s) l.later (IsKept-start s) l.lawful)
