-- A pause stands from a line that pauses to the next that resumes.
use Rattle.std.proofs.Common.{◌≡◌, Bool, true, false, ◌⊎◌, inl, inr, List, [], ◌∷◌, ◌++◌, refl, sym, ap, ◌∙◌, subst, true≢false}
use Rattle.std.specs.Prelude.{◌↔◌}
use Rattle.rt_lists.specs.Members.{Has}
use Rattle.rt_model.specs.declared.replica_state.ReplicaState.TheVariants.{InitialConsuming}
use Rattle.rt_pause.specs.Paused.{allows, Turn, pauses, resumes, neither, paused_after, IsPaused}

-- a pause that nothing ends stands
lasting : (turns : List Turn) → (Has turns resumes → ⊥) → paused_after true turns ≡ true
lasting [] lasts = refl
lasting (pauses ∷ turns) lasts = lasting turns (λ h. lasts (inr h))
lasting (resumes ∷ turns) lasts = absurd (lasts (inl refl))
lasting (neither ∷ turns) lasts = lasting turns (λ h. lasts (inr h))

paused_from : (before after : List Turn) (b : Bool) → (Has after resumes → ⊥) → paused_after b (before ++ pauses ∷ after) ≡ true
paused_from [] after b lasts = lasting after lasts
paused_from (pauses ∷ before) after b lasts = paused_from before after true lasts
paused_from (resumes ∷ before) after b lasts = paused_from before after false lasts
paused_from (neither ∷ before) after b lasts = paused_from before after b lasts

later : (turn : Turn) (turns : List Turn) → IsPaused turns → IsPaused (turn ∷ turns)
later turn turns p = record { before = turn ∷ p.before; after = p.after; paused = ap (λ ts. turn ∷ ts) p.paused; lasts = p.lasts }

-- what stands at the end stood at the start and nothing ended it, or some line paused
abbrev Stands : Bool → List Turn → Type 0
Stands b turns = ((b ≡ true) × (Has turns resumes → ⊥)) ⊎ IsPaused turns

stands_later : (turn : Turn) (turns : List Turn) (b : Bool) → (turn ≡ resumes → ⊥) → Stands b turns → Stands b (turn ∷ turns)
stands_later turn turns b other (inl k) = inl (k.0, by)
  where
    by : Has (turn ∷ turns) resumes → ⊥
    by (inl e) = other e
    by (inr h) = k.1 h
stands_later turn turns b other (inr p) = inr (later turn turns p)

paused_here : (turns : List Turn) → Stands true turns → IsPaused (pauses ∷ turns)
paused_here turns (inl k) = record { before = []; after = turns; paused = refl; lasts = k.1 }
paused_here turns (inr p) = later pauses turns p

resumed_here : (turns : List Turn) → Stands false turns → IsPaused (resumes ∷ turns)
resumed_here turns (inl k) = absurd (true≢false (sym k.0))
resumed_here turns (inr p) = later resumes turns p

abbrev IsNeither : Turn → Type 0
IsNeither pauses = ⊥
IsNeither resumes = ⊥
IsNeither neither = Unit {0}

is_not_resumed : neither ≡ resumes → ⊥
is_not_resumed e = subst IsNeither e tt

stands : (turns : List Turn) (b : Bool) → paused_after b turns ≡ true → Stands b turns
stands [] b e = inl (e, λ h. absurd h)
stands (pauses ∷ turns) b e = inr (paused_here turns (stands turns true e))
stands (resumes ∷ turns) b e = inr (resumed_here turns (stands turns false e))
stands (neither ∷ turns) b e = stands_later neither turns b is_not_resumed (stands turns b e)

paused_only : (turns : List Turn) → Stands false turns → IsPaused turns
paused_only turns (inl k) = absurd (true≢false (sym k.0))
paused_only turns (inr p) = p

at_pause : (turns : List Turn) → IsPaused turns → paused_after false turns ≡ true
at_pause turns p = ap (paused_after false) p.paused ∙ paused_from p.before p.after false p.lasts

pub paused_is : (turns : List Turn) → (paused_after false turns ≡ true) ↔ IsPaused turns
paused_is turns = (λ e. paused_only turns (stands turns false e), at_pause turns)

pub none_begins : (turns : List Turn) → IsPaused turns → allows (paused_after false turns) InitialConsuming ≡ false
none_begins turns p = ap (λ b. allows b InitialConsuming) (at_pause turns p)
