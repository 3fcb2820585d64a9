-- Numbers of requests.
use Rattle.std.proofs.Common.{◌≡◌, ℕ, true, ◌&&◌, ◌==◌, ◌∙◌, ap}
use Rattle.std.proofs.lemmas.Bool.{eqb-true, and_parts}
use Rattle.rt_base.specs.declared.numbers.Instance.{Instance}
use Rattle.rt_model.specs.declared.request.RequestNumber.{RequestNumber}
use Rattle.rt_model.specs.Messages.{same_number}
use Rattle.rt_model.proofs.Histories.{same_instance}

abbrev number_of : Instance → ℕ → ℕ → RequestNumber
number_of instance incarnation count =
    record { instance = instance; incarnation = incarnation; count = count }

pub same_number_true : (a b : RequestNumber) → same_number a b ≡ true → a ≡ b
same_number_true a b e =
    let all = and_parts ((a.instance.0 == b.instance.0) && (a.incarnation == b.incarnation)) (a.count == b.count) e in
    let first = and_parts (a.instance.0 == b.instance.0) (a.incarnation == b.incarnation) all.0 in
    let i : a.instance ≡ b.instance = same_instance a.instance b.instance (eqb-true a.instance.0 b.instance.0 first.0) in
    let n : a.incarnation ≡ b.incarnation = eqb-true a.incarnation b.incarnation first.1 in
    let c : a.count ≡ b.count = eqb-true a.count b.count all.1 in
    ap (λ x. number_of x a.incarnation a.count) i
    ∙ ap (λ x. number_of b.instance x a.count) n
    ∙ ap (λ x. number_of b.instance b.incarnation x) c
