use Rattle.std.proofs.Common.{◌≡◌, ◌∷◌, drop, length-drop, take_all, sym, ◌∙◌, arith}
use Rattle.rt_schema.proofs.Plain.{quoted_front}
use Rattle.rt_schema.proofs.plain_reader.plain_text.Goals as goal

pub returns : goal.returns
returns c =
    let inner = c.in_ok-text.text.now in
    let end = c.plain_end-end.result in
    let last : drop end inner ≡ 34 ∷ c.in_ok-rest.rest.now = sym (take_all _ (drop end inner) (omega (arith, length-drop end inner))) ∙ c.in_ok-rest.ensures in
    quoted_front c.args.text.now inner c.in_ok-rest.rest.now end c.in_ok-text.ensures c.plain_end-end.ensures.plain last
