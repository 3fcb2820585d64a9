-- How a fact of what a machine makes of a message is shown: case by case, as the table goes.
use Rattle.std.proofs.Common.{◌≡◌, ℕ, ◌<◌, Bool, true, false, cond, ◌&&◌, ◌==◌, nat_le, Option, Some, None, List, [], ◌∷◌, refl, ap, All}
use Rattle.std.proofs.lemmas.Bool.{leb-false, eqb-true}
use Rattle.std.proofs.lemmas.List.Elements.{All-nil, All-cons}
use Rattle.rt_base.specs.declared.numbers.Instance.{Instance}
use Rattle.rt_base.specs.declared.numbers.Offset.{Offset}
use Rattle.rt_base.specs.declared.numbers.Moment.{Moment}
use Rattle.rt_model.specs.declared.completion.Ask.{Ask}
use Rattle.rt_model.specs.declared.reply.FailCause.TheVariants.{WrongOffset}
use Rattle.rt_model.specs.declared.completion.Said.TheVariants.{Hold, Failed}
use Rattle.rt_model.specs.declared.completion.Reaction.{Reaction}
use Rattle.rt_model.specs.declared.completion.Reaction.TheVariants.{Answer}
use Rattle.rt_model.specs.Completion.{Completion, react, is_late, aborts, by_table, asked_offset, past_start}
use Rattle.rt_fsm.specs.Life.{Message, Step, step, steps}

-- a fact of a choice by a test
pub by_test : {X : Type 0} (P : X → Type 0) (b : Bool) (x y : X) → (b ≡ true → P x) → (b ≡ false → P y) → P (cond b x y)
by_test P true x y p q = p refl
by_test P false x y p q = q refl

pub and_true : (a b : Bool) → (a && b) ≡ true → (a ≡ true) × (b ≡ true)
and_true true b h = (refl, h)
and_true false b h = cc

abbrev pub instance_of : ℕ → Instance
instance_of n = record { 0 = n }

abbrev pub offset_of : ℕ → Offset
offset_of n = record { 0 = n }

pub same_instance : (i w : Instance) → (i.0 == w.0) ≡ true → i ≡ w
same_instance i w e = ap instance_of (eqb-true i.0 w.0 e)

pub same_offset : (x o : Offset) → (x.0 == o.0) ≡ true → x ≡ o
same_offset x o e = ap offset_of (eqb-true x.0 o.0 e)

-- an ask that the second test let through
abbrev pub IsPastStart : Completion → Option Offset → Type 0
IsPastStart m None = Unit {0}
IsPastStart m (Some x) = m.seen.meta.start.0 < x.0

by_start : (P : Reaction × Completion → Type 0) (m : Completion) (o : Option Offset) (answered : Reaction × Completion)
    → ((x kept : Offset) → P (Answer (Failed (WrongOffset x kept)), m))
    → (IsPastStart m o → P answered)
    → P (past_start m o answered)
by_start P m None answered refused table = table tt
by_start P m (Some x) answered refused table = by_test P (nat_le x.0 m.seen.meta.start.0) _ _ (λ e. refused x m.seen.meta.start) (λ e. table (leb-false x.0 m.seen.meta.start.0 e))

-- a fact of every reaction: of the answer past the deadline, of the refusal at the segment's start, and of the table
pub by_react : (P : Reaction × Completion → Type 0) (m : Completion) (i : Instance) (ask : Ask) (now : Moment)
    → (is_late m now ≡ true → P (aborts m Hold))
    → ((x kept : Offset) → P (Answer (Failed (WrongOffset x kept)), m))
    → (is_late m now ≡ false → IsPastStart m (asked_offset ask) → P (by_table m i ask now))
    → P (react m i ask now)
by_react P m i ask now late refused table =
    by_test P (is_late m now) _ _ late (λ e. by_start P m (asked_offset ask) (by_table m i ask now) refused (table e))

-- a fact of each step, from one that each step keeps
pub each_step : (I : Completion → Type 0) (P : Step → Type 0)
    → ((m : Completion) (message : Message) → I m → P (step m message) × I (step m message).after)
    → (m : Completion) (messages : List Message) → I m → All P (steps m messages)
each_step I P keeps m [] k = All-nil P
each_step I P keeps m (message ∷ messages) k =
    let now = keeps m message k in
    All-cons P (step m message) (steps (step m message).after messages) now.0 (each_step I P keeps (step m message).after messages now.1)
