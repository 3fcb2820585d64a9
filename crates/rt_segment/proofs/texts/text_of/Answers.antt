use Rattle.std.proofs.Common.{◌≡◌, Bool, true, false, List, ℕ, cond, Result, Ok, Err, refl, ap, sym, ◌∙◌}
use Rattle.rt_segment.specs.declared.segment_refused.SegmentRefused.{SegmentRefused}
use Rattle.rt_segment.proofs.Faults.{text_is, text_is_not, refuses_itself}
use Rattle.rt_segment.proofs.texts.text_of.Goals as goal

abbrev okay : List ℕ → Result (List ℕ) SegmentRefused
okay t = Ok t

abbrev wrong : SegmentRefused → Result (List ℕ) SegmentRefused
wrong e = Err e

chosen : (bytes t : List ℕ) (e : SegmentRefused) (b : Bool) → b ≡ true → t ≡ bytes → cond b (okay bytes) (wrong e) ≡ okay t
chosen bytes t e true h same = ap okay (sym same)
chosen bytes t e false h same = absurd cc

refused : (bytes : List ℕ) (e : SegmentRefused) (b : Bool) → b ≡ false → cond b (okay bytes) (wrong e) ≡ wrong e
refused bytes e true h = absurd cc
refused bytes e false h = refl

pub returns-in_ok-copied_from-in-Ok : goal.returns-in_ok-copied_from-in-Ok
returns-in_ok-copied_from-in-Ok c = chosen _ _ _ _ (text_is c.args.bytes.now c.in-Ok.ensures.cases.1) (c.in_ok-copied_from-in-Ok.ensures ∙ c.in-Ok.ensures.cases.0)

pub returns-in-Err : goal.returns-in-Err
returns-in-Err c = refuses_itself c.args.wrong _ (refused _ _ _ (text_is_not c.args.bytes.now c.in-Err.ensures.cases.0))
