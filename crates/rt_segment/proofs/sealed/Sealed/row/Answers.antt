use Rattle.std.proofs.Common.{ap, ◌∙◌}
use Rattle.std.proofs.lemmas.Result.{IfOk-weaker}
use Rattle.rt_segment.specs.Segment.{row_in}
use Rattle.rt_segment.proofs.Tables.{row_at}
use Rattle.rt_segment.proofs.sealed.Sealed.row.Goals as goal

pub returns : goal.returns
returns c = IfOk-weaker c.row_in.result _ _ (λ row told. row_at c.args.self.now c.args.number row c.requires (told ∙ ap (λ cs. row_in cs c.args.number) (c.as_slice.ensures ∙ ap (λ s. s.columns) c.self.view_is))) c.row_in.ensures
