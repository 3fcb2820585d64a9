use Rattle.rt_names.proofs.Bytes.{minute_is_text, ok_from_cases}
use Rattle.rt_names.proofs.name.SegmentName.format.Goals as goal

pub unwrap-minute-requires : goal.unwrap-minute-requires
unwrap-minute-requires c = ok_from_cases c.from_utf8.result _ _ (λ e bad. bad.0 (minute_is_text c.args.self.now.minute c.requires)) c.from_utf8.ensures.cases
