use Rattle.rt_ideal.proofs.Shown.{text_shows, text_shows_no_more, text_in_order}
use Rattle.rt_ideal.proofs.laws.a_text_has_each_entry_once.Goals as goal

pub returns : goal.returns
returns c = record { each = text_shows; no_more = text_shows_no_more; once = text_in_order }
