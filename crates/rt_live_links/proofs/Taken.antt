-- What an inbox took was accepted of its sender.
use Rattle.std.proofs.Common.{ℕ, ◌<◌, ◌==◌, inl, inr, Bool, true, false, cond, List, [], ◌∷◌, refl, sym, subst, eq-eqb}
use Rattle.std.proofs.Math.Nat.{lt_of_not-le}
use Rattle.rt_lists.specs.Members.{Has}
use Rattle.rt_link.specs.Delivery.{of, TookOfSenders}
use Rattle.rt_link.specs.declared.envelope.Envelope.{Envelope}
use Rattle.rt_link.specs.declared.rule.Sent.{Sent}

later : (b : Bool) (e f : Envelope) (es : List Envelope) → Has es f → Has (cond b (e ∷ es) es) f
later true e f es h = inr h
later false e f es h = h

-- what was taken is among what was taken of its sender
pub of_its_sender : (taken : List Sent) (x : Sent) → Has taken x → Has (of x.sender taken) x.envelope
of_its_sender [] x h = absurd h
of_its_sender (y ∷ taken) x (inl e) =
    let here : Has (of x.sender (x ∷ taken)) x.envelope =
    subst (λ (b : Bool). Has (cond b (x.envelope ∷ of x.sender taken) (of x.sender taken)) x.envelope)
    (sym (eq-eqb x.sender x.sender refl)) (inl refl) in
    subst (λ (z : Sent). Has (of x.sender (z ∷ taken)) x.envelope) (sym e) here
of_its_sender (y ∷ taken) x (inr h) = later (y.sender == x.sender) y.envelope x.envelope (of x.sender taken)
    (of_its_sender taken x h)

-- and its sender is one of the senders
pub by_a_sender : (made : ℕ) (taken : List Sent) (x : Sent) → TookOfSenders made taken → Has taken x → x.sender < made
by_a_sender made taken x rightly h =
    lt_of_not-le (λ past. subst (λ (l : List Envelope). Has l x.envelope) (rightly x.sender past)
    (of_its_sender taken x h))
