use Rattle.std.proofs.Common.{arith, ap, ◌∙◌, drop}
use Rattle.std.specs.List.{prefix_len}
use Rattle.rt_tokens.specs.Tokens.{is_name_byte}
use Rattle.rt_tokens.proofs.Cutting.{name_ends, named_is, cut_part}
use Rattle.rt_tokens.proofs.lexer.name.Goals as goal

pub range-name-requires-clause-end_boundary : goal.range-name-requires-clause-end_boundary
range-name-requires-clause-end_boundary c =
    name_ends c.args.text.now c.args.at c.name_length-length.result c.utf8.text c.requires.within (omega arith) c.requires.first (c.name_length-length.ensures.length ∙ ap (prefix_len is_name_byte) c.rest_of.ensures.value)

pub returns-clause-value : goal.returns-clause-value
returns-clause-value c =
    named_is (drop c.args.at c.args.text.now) c.range-name.result.now c.name_length-length.result c.in_ok-lexeme_of.field-0 (c.name_length-length.ensures.length ∙ ap (prefix_len is_name_byte) c.rest_of.ensures.value)
    (c.range-name.ensures.value ∙ cut_part c.args.text.now c.args.at c.name_length-length.result) c.in_ok-lexeme_of.ensures
