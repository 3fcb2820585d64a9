use Rattle.std.proofs.Common.{◌∙◌, ◌++◌, ap}
use Rattle.std.specs.String.{string_bytes}
use Rattle.rt_lines.specs.Answer.{ranges_field, missing_field, rows_field}
use Rattle.rt_lines.proofs.Arrays.{three_fields}
use Rattle.rt_lines.proofs.answer.write_answer.Goals as goal

pub returns : goal.returns
returns c =
    three_fields _ _ _ _ _ _ _ _ _
    (c.in_ok-write_ranges.ensures ∙ ap (λ xs. string_bytes c.args.out.now ++ ranges_field xs) c.as_slice.ensures)
    (c.in_ok-write_missing.ensures ∙ ap (λ xs. string_bytes c.write_ranges.new.out ++ missing_field xs) c.as_slice-2.ensures)
    (c.in_ok-write_rows.ensures ∙ ap (λ xs. string_bytes c.write_missing.new.out ++ rows_field xs) c.as_slice-3.ensures)
    c.in_ok-push_str.ensures.bytes
