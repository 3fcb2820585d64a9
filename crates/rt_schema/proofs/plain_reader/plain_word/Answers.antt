use Rattle.std.proofs.Common.{◌++◌, true, false, refl, ap, ◌∙◌}
use Rattle.json.proofs.Printed.Utf8.{IsUtf8-are_ascii, IsUtf8-boolean}
use Rattle.rt_schema.proofs.plain_reader.plain_word.Goals as goal

pub returns-in-Some : goal.returns-in-Some
returns-in-Some c = (c.in-Some.ensures ∙ ap (λ word. word ++ c.in-Some.rest.now) c.as_slice.ensures, tt, IsUtf8-boolean true)

pub returns-in-Some-behind_all : goal.returns-in-Some-behind_all
returns-in-Some-behind_all c = (c.in-Some-behind_all.ensures ∙ ap (λ word. word ++ c.in-Some-behind_all.rest.now) c.as_slice-2.ensures, tt, IsUtf8-boolean false)

pub returns-in-Some-behind_all-2 : goal.returns-in-Some-behind_all-2
returns-in-Some-behind_all-2 c = (c.in-Some-behind_all-2.ensures ∙ ap (λ word. word ++ c.in-Some-behind_all-2.rest.now) c.as_slice-3.ensures, tt, IsUtf8-are_ascii _ refl)
