use Rattle.std.proofs.Common.{arith, ap, sym, ◌∙◌, drop, get_or}
use Rattle.std.specs.List.{prefix_len}
use Rattle.rt_tokens.specs.Tokens.{is_quotable}
use Rattle.rt_tokens.proofs.Cutting.{begins_after, quoted_is, cut_part}
use Rattle.rt_tokens.proofs.lexer.quoted.Goals as goal

pub range-requires-clause-start_boundary : goal.range-requires-clause-start_boundary
range-requires-clause-start_boundary c some = begins_after c.args.text.now c.args.at 34 c.utf8.text c.requires.within.0 c.requires.within.1 c.requires.quote (omega arith)

pub returns-clause-value : goal.returns-clause-value
returns-clause-value c =
    let e = c.rest_of-bytes.ensures.value in
    let n = c.quotable_length-length.result in
    quoted_is (drop c.args.at c.args.text.now) c.in_ok-name.name n (c.quotable_length-length.ensures.length ∙ ap (prefix_len is_quotable) e) (sym (ap (λ bs. get_or bs n 0) e) ∙ c.if-bytes-length-ne34.false)
    (omega arith) (omega arith) (c.in_ok-name.ensures ∙ c.range.ensures.value ∙ cut_part c.args.text.now c.args.at n)
