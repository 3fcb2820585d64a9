-- What it says of a job that none of its segments is named.
use Rattle.std.proofs.Common.{◌≡◌, Bool, true, false, cond, ◌||◌, ◌&&◌, ◌==◌, inl, inr, List, [], ◌∷◌, filter, refl, sym, ap, subst, true≢false}
use Rattle.std.specs.List.{list_any}
use Rattle.std.proofs.lemmas.Bool.{eq-eqb}
use Rattle.rt_base.specs.declared.numbers.Sequence.{Sequence}
use Rattle.rt_lists.specs.Members.{Has}
use Rattle.rt_model.specs.declared.node.Listed.{Listed}
use Rattle.rt_model.specs.declared.status.Status.{Status}
use Rattle.rt_model.specs.declared.status.Status.TheVariants.{InProgress, Done, Abandoned}
use Rattle.rt_model.specs.Metadata.{IsFinalStatus}
use Rattle.rt_pause.specs.Forced.{Segment, is_in_progress, is_open, nodes_of, is_pending, pending_of}

abbrev IsSome : {X : Type 0} → List X → Type 0
IsSome [] = ⊥
IsSome (x ∷ xs) = Unit {0}

-- nothing that a filter leaves empty passes it
none_passes : {X : Type 0} (p : X → Bool) (xs : List X) (x : X) → filter p xs ≡ [] → Has xs x → p x ≡ false
none_passes p [] x e h = absurd h
none_passes p (y ∷ ys) x e h = by (none_passes p ys x) (p y) refl e h
  where
    by : (filter p ys ≡ [] → Has ys x → p x ≡ false) → (b : Bool) → p y ≡ b → cond b (y ∷ filter p ys) (filter p ys) ≡ [] → Has (y ∷ ys) x → p x ≡ false
    by rest true is e h = absurd (subst IsSome e tt)
    by rest false is e (inl same) = subst (λ z. p z ≡ false) same is
    by rest false is e (inr later) = rest e later

none_any : {X : Type 0} (p : X → Bool) (xs : List X) (x : X) → list_any p xs ≡ false → Has xs x → p x ≡ false
none_any p [] x e h = absurd h
none_any p (y ∷ ys) x e h = by (none_any p ys x) (p y) refl e h
  where
    by : (list_any p ys ≡ false → Has ys x → p x ≡ false) → (b : Bool) → p y ≡ b → (b || list_any p ys) ≡ false → Has (y ∷ ys) x → p x ≡ false
    by rest true is e h = absurd (true≢false e)
    by rest false is e (inl same) = subst (λ z. p z ≡ false) same is
    by rest false is e (inr later) = rest e later

ended : (status : Status) (b : Bool) → b ≡ true → (b && is_in_progress status) ≡ false → IsFinalStatus status
ended InProgress true same e = absurd (true≢false e)
ended (Done commit) true same e = tt
ended Abandoned true same e = tt
ended status false same e = absurd (true≢false (sym same))

pub none_pending : (nodes : List (List Listed)) (segments : List Segment) → pending_of nodes segments ≡ []
    → (s : Segment) → Has segments s → (node : Listed) → Has (nodes_of nodes s.0) node → node.sequence ≡ s.1 → IsFinalStatus node.seen.meta.status
none_pending nodes segments e s has node listed same =
    ended node.seen.meta.status (node.sequence.0 == s.1.0) (eq-eqb node.sequence.0 s.1.0 (ap (λ (q : Sequence). q.0) same))
    (none_any (is_open s.1) (nodes_of nodes s.0) node (none_passes (is_pending nodes) segments s e has) listed)
