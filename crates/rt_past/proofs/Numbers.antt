-- The numbers of requests, as they are drawn and sent.
use Rattle.std.proofs.Common.{◌≡◌, ◌+◌, ◌<◌, ◌⊎◌, inl, inr, ℕ, List, [], ◌∷◌, ◌++◌, sym, ap, ◌∙◌, arith}
use Rattle.rt_lists.specs.Members.{Has}
use Rattle.rt_lists.proofs.Members.{Has-push_cases}
use Rattle.rt_model.specs.declared.reply.Reply.{Reply}
use Rattle.rt_model.specs.declared.request.Request.{Request}
use Rattle.rt_model.specs.declared.request.RequestNumber.{RequestNumber}
use Rattle.rt_model.specs.declared.sent.Sent.{Sent}
use Rattle.rt_model.specs.declared.sent.Sent.TheVariants as sent
use Rattle.rt_msgs.specs.Numbered.{Numbered, number_at}
use Rattle.rt_past.specs.Requests.{IsFresh, IsDrawn, AreDrawn}
use Rattle.rt_past.proofs.Ways.{one_request, no_request}

pub next_is_fresh : (ms : List Sent) (n : Numbered) → AreDrawn ms n → IsFresh ms (number_at n n.made)
next_is_fresh ms n drawn q has e =
    let d = drawn q has (ap (λ (m : RequestNumber). m.instance) e) in
    omega (arith, d.1 (ap (λ (m : RequestNumber). m.incarnation) e), ap (λ (m : RequestNumber). m.count) e)

-- the number that comes next was drawn
pub drawn_next : (ms : List Sent) (n : Numbered) (q : Request) → AreDrawn ms n → q.number ≡ number_at n n.made
    → AreDrawn (ms ++ sent.Request q ∷ []) (record n { made = n.made + 1 })
drawn_next ms n q drawn e r has i = at_case (Has-push_cases ms (sent.Request q) (sent.Request r) has)
  where
    at_case : Has ms (sent.Request r) ⊎ (sent.Request q ≡ sent.Request r) → IsDrawn (record n { made = n.made + 1 }) r.number
    at_case (inl h) = let d = drawn r h i in (d.0, λ same. omega (arith, d.1 same))
    at_case (inr same) =
        let number : r.number ≡ number_at n n.made = ap (λ (x : Request). x.number) (sym (one_request q r same)) ∙ e in
        (omega (arith, ap (λ (m : RequestNumber). m.incarnation) number), λ k. omega (arith, ap (λ (m : RequestNumber). m.count) number))

-- a request of another instance
pub drawn_other : (ms : List Sent) (n : Numbered) (q : Request) → AreDrawn ms n → (q.number.instance ≡ n.instance → ⊥)
    → AreDrawn (ms ++ sent.Request q ∷ []) n
drawn_other ms n q drawn other r has i = at_case (Has-push_cases ms (sent.Request q) (sent.Request r) has)
  where
    at_case : Has ms (sent.Request r) ⊎ (sent.Request q ≡ sent.Request r) → IsDrawn n r.number
    at_case (inl h) = drawn r h i
    at_case (inr same) = absurd (other (ap (λ (x : Request). x.number.instance) (one_request q r same) ∙ i))

pub drawn_reply : (ms : List Sent) (n : Numbered) (y : Reply) → AreDrawn ms n → AreDrawn (ms ++ sent.Reply y ∷ []) n
drawn_reply ms n y drawn r has i = drawn r (no_request ms y r (Has-push_cases ms (sent.Reply y) (sent.Request r) has)) i

-- a later incarnation has drawn nothing
pub drawn_anew : (ms : List Sent) (n : Numbered) (later : ℕ) → AreDrawn ms n → n.incarnation < later
    → AreDrawn ms (record { instance = n.instance; incarnation = later; made = 0 })
drawn_anew ms n later drawn lt q has i =
    let d = drawn q has i in (omega (arith, d.0, lt), λ same. omega (arith, d.0, lt, same))
