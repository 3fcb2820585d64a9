use Rattle.std.proofs.Common.{length, arith, ap, sym, ◌∙◌, get_or}
use Rattle.std.proofs.lemmas.Result.{IfOk-weaker}
use Rattle.rt_tokens.specs.Tokens.{sign, first_token}
use Rattle.rt_tokens.proofs.Cutting.{first_quoted, first_text, first_sign, sign_within}
use Rattle.rt_tokens.proofs.lexer.first_token.Goals as goal

pub returns-then-first-eq34-clause-value : goal.returns-then-first-eq34-clause-value
returns-then-first-eq34-clause-value c =
    IfOk-weaker c.quoted.result _ _ (λ found h. h ∙ first_quoted c.args.text.now c.args.at c.requires (sym c.rest_of-bytes.ensures.first ∙ c.if-first-eq34.true)) c.quoted.ensures.value

pub returns-then-first-eq39-clause-value : goal.returns-then-first-eq39-clause-value
returns-then-first-eq39-clause-value c =
    IfOk-weaker c.text_in_quotes.result _ _ (λ found h. h ∙ first_text c.args.text.now c.args.at c.requires (sym c.rest_of-bytes.ensures.first ∙ c.if-first-eq39.true)) c.text_in_quotes.ensures.value

pub returns-clause-value : goal.returns-clause-value
returns-clause-value c =
    let bytes = c.rest_of-bytes.result.now in
    c.sign.ensures.value ∙ ap (sign (get_or bytes 0 0)) c.second-next.ensures.value
    ∙ first_sign bytes (omega arith) (sym c.is_name_start.ensures ∙ c.if-is_name_start.false) (sym c.is_ascii_digit.ensures.value ∙ c.if-is_ascii_digit.false) c.if-first-eq34.false c.if-first-eq39.false
    ∙ ap first_token c.rest_of-bytes.ensures.value

pub returns-clause-within : goal.returns-clause-within
returns-clause-within c =
    sign_within c.sign.result c.second-next.result c.args.at (length c.args.text.now) c.requires (λ h. omega (arith, c.second-next.ensures.within h)) c.sign.ensures.within
