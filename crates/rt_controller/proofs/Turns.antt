-- What the first rule that applies to a request tells of it.
use Rattle.std.proofs.Common.{◌≡◌, ℕ, ◌<◌, not, nat_le, Bool, true, false, cond, Option, Some, None, refl, ap}
use Rattle.std.proofs.lemmas.Bool.{false≢true, leb-false}
use Rattle.rt_base.specs.declared.limits.TheConstants.{LAST_NUMBER}
use Rattle.rt_model.specs.declared.completion.Ask.{Ask}
use Rattle.rt_model.specs.declared.request.Request.{Request}
use Rattle.rt_model.specs.declared.request.RequestKind.{RequestKind}
use Rattle.rt_model.specs.declared.request.RequestKind.TheVariants as kind
use Rattle.rt_commit.specs.Assignment.{is_replica}
use Rattle.rt_controller.specs.Answers.{ask_in}
use Rattle.rt_controller.specs.Controller.{Controlling, machine_place}
use Rattle.rt_controller.specs.Requests.{Turn, not_leading, uploads, not_assigned, past_last, has_machine, has_none, by_place, asked_turn, kind_turn, turn_of}

-- ---- which rule applies

-- what the rules before have told
abbrev pub Tells : Controlling → Request → Turn → Type 0
Tells c r not_leading = Unit {0}
Tells c r (uploads path bytes) = r.kind ≡ kind.Upload path bytes
Tells c r not_assigned = is_replica c.assigned r.partition r.number.instance ≡ false
Tells c r past_last = Unit {0}
Tells c r (has_machine place what) =
    (r.sequence.0 < LAST_NUMBER) × (machine_place c.machines r.partition r.sequence ≡ Some place)
    × (ask_in r.offset r.kind ≡ Some what)
Tells c r (has_none what) =
    (r.sequence.0 < LAST_NUMBER) × (machine_place c.machines r.partition r.sequence ≡ None)
    × (ask_in r.offset r.kind ≡ Some what)

told_place : (c : Controlling) (r : Request) (what : Ask) (o : Option ℕ) → r.sequence.0 < LAST_NUMBER
    → ask_in r.offset r.kind ≡ Some what → machine_place c.machines r.partition r.sequence ≡ o → Tells c r (by_place o what)
told_place c r what None small asks e = (small, e, asks)
told_place c r what (Some place) small asks e = (small, e, asks)

is_false : (b : Bool) → not b ≡ true → b ≡ false
is_false true e = absurd (false≢true e)
is_false false e = refl

told_asked : (c : Controlling) (r : Request) (what : Ask) → ask_in r.offset r.kind ≡ Some what → Tells c r (asked_turn c r what)
told_asked c r what asks = by_assigned (not (is_replica c.assigned r.partition r.number.instance)) refl
  where
    rest : Turn
    rest = by_place (machine_place c.machines r.partition r.sequence) what

    by_last : (b : Bool) → nat_le LAST_NUMBER r.sequence.0 ≡ b → Tells c r (cond b past_last rest)
    by_last true e = tt
    by_last false e =
        told_place c r what (machine_place c.machines r.partition r.sequence) (leb-false LAST_NUMBER r.sequence.0 e) asks refl

    by_assigned :
        (b : Bool) → not (is_replica c.assigned r.partition r.number.instance) ≡ b
        → Tells c r (cond b not_assigned (cond (nat_le LAST_NUMBER r.sequence.0) past_last rest))
    by_assigned true e = is_false (is_replica c.assigned r.partition r.number.instance) e
    by_assigned false e = by_last (nat_le LAST_NUMBER r.sequence.0) refl

told_kind : (c : Controlling) (r : Request) (k : RequestKind) → r.kind ≡ k → Tells c r (kind_turn c r k)
told_kind c r (kind.Upload path bytes) e = e
told_kind c r (kind.Consumed reason) e = told_asked c r _ (ap (ask_in r.offset) e)
told_kind c r kind.Stopped e = told_asked c r _ (ap (ask_in r.offset) e)
told_kind c r kind.CommitStart e = told_asked c r _ (ap (ask_in r.offset) e)
told_kind c r (kind.CommitEnd path) e = told_asked c r _ (ap (ask_in r.offset) e)
told_kind c r (kind.Extend millis) e = told_asked c r _ (ap (ask_in r.offset) e)

pub told_turn : (c : Controlling) (r : Request) → Tells c r (turn_of c r)
told_turn c r = by_leading c.leads
  where
    by_leading : (b : Bool) → Tells c r (cond b (kind_turn c r r.kind) not_leading)
    by_leading true = told_kind c r r.kind refl
    by_leading false = tt
