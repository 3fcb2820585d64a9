-- The starting contents end at the first write of the ideal state, so a history has one beginning.
use Rattle.std.proofs.Common.{◌≡◌, ℕ, zero, suc, List, [], ◌∷◌, ◌++◌, refl, sym, ◌∙◌, ap, subst, append_assoc}
use Rattle.rt_model.specs.declared.node.Key.TheVariants as key
use Rattle.rt_model.specs.declared.node.Seen.{Seen}
use Rattle.rt_model.specs.Starting.{Starting, starting_boot, starting_meta, starting_ideal, starting_boots, starting_metas, starting_contents}
use Rattle.rt_model.specs.Lawful.{IsLawful, IsLawfulStep, AreLawfulAfter, IsLawfulHistory}

-- no write of the ideal state
abbrev NoIdeal : List Seen → Type 0
NoIdeal [] = Unit {0}
NoIdeal (w ∷ ws) = (w.key ≡ key.Ideal → ⊥) × NoIdeal ws

no_ideal_append : (xs ys : List Seen) → NoIdeal xs → NoIdeal ys → NoIdeal (xs ++ ys)
no_ideal_append [] ys a b = b
no_ideal_append (x ∷ xs) ys a b = (a.0, no_ideal_append xs ys a.1 b)

no_ideal_boots : (n : ℕ) → NoIdeal (starting_boots n)
no_ideal_boots zero = tt
no_ideal_boots (suc n) = no_ideal_append (starting_boots n) (starting_boot n ∷ []) (no_ideal_boots n) (λ e. cc, tt)

no_ideal_metas : (s : Starting) (n : ℕ) → NoIdeal (starting_metas s n)
no_ideal_metas s zero = tt
no_ideal_metas s (suc n) = no_ideal_append (starting_metas s n) (starting_meta s n ∷ []) (no_ideal_metas s n) (λ e. cc, tt)

abbrev before_ideal : Starting → List Seen
before_ideal s = starting_boots s.servers ++ starting_metas s s.partitions

no_ideal_before : (s : Starting) → NoIdeal (before_ideal s)
no_ideal_before s = no_ideal_append (starting_boots s.servers) (starting_metas s s.partitions) (no_ideal_boots s.servers) (no_ideal_metas s s.partitions)

same_head : (v w : Seen) (xs ys : List Seen) → v ∷ xs ≡ w ∷ ys → v ≡ w
same_head v w xs ys e = cc

same_tail : (v w : Seen) (xs ys : List Seen) → v ∷ xs ≡ w ∷ ys → xs ≡ ys
same_tail v w xs ys e = cc

key_of : {v w : Seen} → v ≡ w → w.key ≡ key.Ideal → v.key ≡ key.Ideal
key_of e k = ap (λ (x : Seen). x.key) e ∙ k

-- two lists that are one have their first write of the ideal state at one place
first_same :
    (b c : List Seen) (v w : Seen) (xs ys : List Seen) → NoIdeal b → NoIdeal c → v.key ≡ key.Ideal → w.key ≡ key.Ideal
    → b ++ v ∷ xs ≡ c ++ w ∷ ys → (b ++ v ∷ [] ≡ c ++ w ∷ []) × (xs ≡ ys)
first_same [] [] v w xs ys nb nc iv iw e = (ap (λ (x : Seen). x ∷ []) (same_head v w xs ys e), same_tail v w xs ys e)
first_same [] (c ∷ cs) v w xs ys nb nc iv iw e = absurd (nc.0 (key_of (sym (same_head v c xs (cs ++ w ∷ ys) e)) iv))
first_same (b ∷ bs) [] v w xs ys nb nc iv iw e = absurd (nb.0 (key_of (same_head b w (bs ++ v ∷ xs) ys e) iw))
first_same (b ∷ bs) (c ∷ cs) v w xs ys nb nc iv iw e =
    let further = first_same bs cs v w xs ys nb.1 nc.1 iv iw (same_tail b c (bs ++ v ∷ xs) (cs ++ w ∷ ys) e) in
    let head : b ≡ c = same_head b c (bs ++ v ∷ xs) (cs ++ w ∷ ys) e in
    (ap (λ (x : Seen). x ∷ (bs ++ v ∷ [])) head ∙ ap (λ (l : List Seen). c ∷ l) further.0, further.1)

step_from : (s t : Starting) (before : List Seen) (w : Seen) → starting_contents s ≡ starting_contents t → IsLawfulStep t before w → IsLawfulStep s before w
step_from s t before w same l =
    let P : List Seen → Type 0 = λ c. IsLawful (c ++ l.later) l.write in
    record {
      later = l.later;
      unseen = l.unseen;
      has_seen = l.has_seen ∙ ap (λ (c : List Seen). (c ++ l.later) ++ l.unseen) (sym same);
      write = l.write;
      lawful = subst P (sym same) l.lawful;
      effect = l.effect;
      wrote = l.wrote;
    }

steps_from : (s t : Starting) (before ws : List Seen) → starting_contents s ≡ starting_contents t → AreLawfulAfter t before ws → AreLawfulAfter s before ws
steps_from s t before [] same l = tt
steps_from s t before (w ∷ ws) same l = (step_from s t before w same l.0, steps_from s t (before ++ w ∷ []) ws same l.1)

-- a lawful history that begins with one that is lawful from other starting contents is lawful from these too
pub lawful_from :
    (s t : Starting) (h more : List Seen) → IsLawfulHistory s h → IsLawfulHistory t (h ++ more) → IsLawfulHistory s (h ++ more)
lawful_from s t h more seen all =
    let whole : h ++ more ≡ starting_contents s ++ (seen.later ++ more) =
    ap (λ (x : List Seen). x ++ more) seen.whole ∙ append_assoc (starting_contents s) seen.later more in
    let here : starting_contents s ++ (seen.later ++ more) ≡ before_ideal s ++ (starting_ideal s ∷ (seen.later ++ more)) =
    append_assoc (before_ideal s) (starting_ideal s ∷ []) (seen.later ++ more) in
    let there : starting_contents t ++ all.later ≡ before_ideal t ++ (starting_ideal t ∷ all.later) =
    append_assoc (before_ideal t) (starting_ideal t ∷ []) all.later in
    let parts = first_same (before_ideal s) (before_ideal t) (starting_ideal s) (starting_ideal t) (seen.later ++ more) all.later
    (no_ideal_before s) (no_ideal_before t) refl refl (sym here ∙ sym whole ∙ all.whole ∙ there) in
    let from_t : AreLawfulAfter s (starting_contents t) all.later = steps_from s t (starting_contents t) all.later parts.0 all.lawful in
    let P : List Seen → Type 0 = λ c. AreLawfulAfter s c all.later in
    let from_s : AreLawfulAfter s (starting_contents s) all.later = subst P (sym parts.0) from_t in
    let Q : List Seen → Type 0 = λ ws. AreLawfulAfter s (starting_contents s) ws in
    record { later = seen.later ++ more; whole = whole; lawful = subst Q (sym parts.1) from_s }
