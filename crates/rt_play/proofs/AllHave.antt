-- What holds of all items of a list holds of each that it has, and the other way round.
use Rattle.std.proofs.Common.{inl, inr, List, [], ◌∷◌, All, refl, subst}
use Rattle.std.proofs.lemmas.List.Elements.{All-cons, All-head, All-nil, All-tail}
use Rattle.rt_lists.specs.Members.{Has}

pub all_has : {X : Type 0} (P : X → Type 0) (xs : List X) (x : X) → All P xs → Has xs x → P x
all_has P [] x all has = absurd has
all_has P (y ∷ xs) x all (inl same) = subst P same (All-head P y xs all)
all_has P (y ∷ xs) x all (inr has) = all_has P xs x (All-tail P y xs all) has

pub each_all : {X : Type 0} (P : X → Type 0) (xs : List X) → ((x : X) → Has xs x → P x) → All P xs
each_all P [] each = All-nil P
each_all P (x ∷ xs) each = All-cons P x xs (each x (inl refl)) (each_all P xs (λ y has. each y (inr has)))
