use Rattle.std.proofs.Common.{length, ap, sym, ◌∙◌}
use Rattle.rt_stream.proofs.Cuts.{length_cut}
use Rattle.rt_stream.proofs.messages.Messages.len.Goals as goal

pub returns : goal.returns
returns c =
    c.len.ensures ∙ c.self.inside.ends.ok.0 ∙ sym
    (length_cut 0 c.self.inside.ends.items c.self.inside.bytes.items) ∙ ap length c.self.view_is
