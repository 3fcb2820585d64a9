use Rattle.std.proofs.Common.{ℕ, ◌<◌, ◌≤◌, ◌+◌, ◌≡◌, false, List, [], ◌∷◌, ◌++◌, length, drop, get_or, Option, Some, IfSome, append_assoc, arith, ap, sym, subst, ◌∙◌}
use Rattle.rt_tokens.specs.Tokens.{is_blank, first_token, tokens_at}
use Rattle.rt_tokens.specs.declared.lexer.Lexed.{Lexed}
use Rattle.rt_tokens.specs.declared.token.Token.{Token}
use Rattle.rt_tokens.proofs.Cutting.{token_read}
use Rattle.rt_tokens.proofs.lexer.read.Goals as goal

pub loop-at-preserved : goal.loop-at-preserved
loop-at-preserved c =
    let text = c.args.text.now in
    let at = c.loop-at.at in
    let found = c.in-Some.found in
    let e = c.as_bytes-bytes.ensures.value in
    let fits : (0 < found.length) × (at + found.length ≤ length text) =
    subst (λ (o : Option Lexed). IfSome o (λ l. (0 < l.length) × (at + l.length ≤ length text))) c.in-Some.is c.in_ok-first_token.ensures.within in
    let first : first_token (drop at text) ≡ Some found = sym c.in_ok-first_token.ensures.value ∙ c.in-Some.is in
    let blank : is_blank (get_or text at 0) ≡ false = sym (ap (λ (bs : List ℕ). is_blank (get_or bs at 0)) e) ∙ sym c.is_blank.ensures ∙ c.if-is_blank.false in
    let within : at < length text = omega (arith, ap (λ (bs : List ℕ). length bs) e) in
    let later = tokens_at 0 (at + found.length) (drop (at + found.length) text) in
    let here : Token = record { byte = at; lexeme = found.lexeme } in
    record {
      within = fits.1;
      read = c.loop-at.invariant.read ∙ ap (λ (ts : List Token). c.loop-at.tokens ++ ts) (token_read text at found within blank first fits.0)
          ∙ sym (append_assoc c.loop-at.tokens (here ∷ []) later) ∙ ap (λ (ts : List Token). ts ++ later) (sym c.in_ok-push-in-Some.ensures.ok);
    }
