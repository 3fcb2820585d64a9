use Rattle.std.proofs.Common.{ap, ◌∙◌}
use Rattle.serde_json.specs.Written.{has_float, compact_text}
use Rattle.rt_meta.proofs.Floats.{no_float}
use Rattle.rt_meta.proofs.written.text.Goals as goal

pub returns : goal.returns
returns c =
    let is = c.in_ok-value.ensures in
    c.of.ensures
    ∙ c.in_ok-to_string.ensures.text (ap has_float is ∙ no_float c.args.meta.now c.args.meta.now.status)
    ∙ ap compact_text is
