use Rattle.std.proofs.Common.{◌≡◌, Some, None, sym, subst, ◌∙◌}
use Rattle.std.specs.Prelude.{string_bytes}
use Rattle.rt_model.specs.declared.setup.Setup.{Setup}
use Rattle.rt_play.proofs.Playing.{line_stops, no_line}
use Rattle.rt_script.specs.Line.{line_in}
use Rattle.rt_play.proofs.running.play_line.Goals as goal

pub returns-in_default-clause-plays : goal.returns-in_default-clause-plays
returns-in_default-clause-plays c =
    no_line c.args.number (line_in c.args.world.now.state.setup c.args.line.now) c.args.world.now c.args.desk.now (string_bytes c.clear.new.self) c.refused.result
    (subst (λ (s : Setup). line_in s c.args.line.now ≡ None) c.setup-setup.ensures.same (sym c.in_ok-said.ensures.line ∙ c.in_default.is)) c.refused.ensures

pub returns-in-Err-clause-plays : goal.returns-in-Err-clause-plays
returns-in-Err-clause-plays c =
    line_stops c.args.number (line_in c.args.world.now.state.setup c.args.line.now) c.in-Some.said c.args.world.now c.play_said.new.world c.args.desk.now
    c.play_said.new.desk (string_bytes c.play_said.new.text) c.in-Err.refusal c.fault.result
    (subst (λ (s : Setup). line_in s c.args.line.now ≡ Some c.in-Some.said) c.setup-setup.ensures.same (sym c.in_ok-said.ensures.line ∙ c.in-Some.is))
    c.fault.ensures c.in-Err.ensures.told
