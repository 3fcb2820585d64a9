use Rattle.std.proofs.Common.{◌≡◌, ℕ, List, sym, subst}
use Rattle.rt_base.specs.declared.numbers.Instance.{Instance}
use Rattle.rt_model.specs.declared.node.Seen.{Seen}
use Rattle.rt_model.specs.declared.request.RequestNumber.{RequestNumber}
use Rattle.rt_past.specs.Segments.{IsIncarnation}
use Rattle.rt_past.proofs.Growth.{within_grows}
use Rattle.rt_replica.proofs.KeepsOwn.{extend_own, request_own, waits_own}
use Rattle.rt_replica.proofs.ReadBack.{replica_back, replica_forget, request_back}
use Rattle.rt_replica.proofs.lasting.a_replica_asks_what_is_right.Goals as goal

-- the number is one of this incarnation
lived_in : (h : List Seen) (number : RequestNumber) (i : Instance) (incarnation : ℕ) → number.instance ≡ i → number.incarnation ≡ incarnation → IsIncarnation h i incarnation
    → IsIncarnation h number.instance number.incarnation
lived_in h number i incarnation mine now lived = subst (IsIncarnation h number.instance) (sym now) (subst (λ j. IsIncarnation h j incarnation) (sym mine) lived)

pub returns-clause-requests : goal.returns-clause-requests
returns-clause-requests c = λ setup past i incarnation r number q is k l mine now lived small e.
    request_back setup past k _ (request_own setup past i incarnation r is (replica_forget setup past i incarnation r l) number mine now q e)
    (lived_in past.history number i incarnation mine now lived) small

pub returns-clause-extends : goal.returns-clause-extends
returns-clause-extends c = λ setup past i incarnation r number millis is k l mine now lived small e.
    request_back setup past k _ (extend_own setup past i incarnation r is (replica_forget setup past i incarnation r l) number mine now millis e)
    (lived_in past.history number i incarnation mine now lived) small

pub returns-clause-waits : goal.returns-clause-waits
returns-clause-waits c = λ setup past i incarnation r number q w k l mine now e is g.
    replica_back setup _ k i incarnation _
    (waits_own setup past i incarnation r number q w (replica_forget setup past i incarnation r l) mine now e is (within_grows past _ g))
