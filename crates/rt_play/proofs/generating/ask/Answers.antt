use Rattle.std.proofs.Common.{◌≡◌, ◌∙◌, ap, string_bytes, subst}
use Rattle.rt_macros.specs.Doing.{DoesText}
use Rattle.rt_model.specs.declared.setup.Setup.{Setup}
use Rattle.rt_play.specs.Generating.{AsksQuery, generated_query, query_said}
use Rattle.rt_play.proofs.generating.ask.Goals as goal
use Rattle.rt_script.specs.Line.{line_in}

pub returns : goal.returns
returns c =
    let said : c.query_said.result ≡ query_said (line_in c.args.world.now.state.setup generated_query) =
    c.query_said.ensures ∙ ap query_said
    (c.in_ok-said.ensures.line ∙ ap (λ (setup : Setup). line_in setup c.as_bytes.result.now) c.setup-setup.ensures.same ∙ ap (line_in c.args.world.now.state.setup) c.as_bytes.ensures.value) in
    subst (λ asked. DoesText (AsksQuery asked) c.args.world.now.state c.ask_said.new.world (string_bytes c.ask_said.new.answer) c.ask_said.result) said c.ask_said.ensures
