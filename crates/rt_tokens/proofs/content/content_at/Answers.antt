use Rattle.std.proofs.Common.{ℕ, ◌<◌, ◌≤◌, ◌+◌, ◌-◌, ◌≡◌, List, ◌++◌, length, take, drop, get_or, arith, ap, sym, ◌∙◌}
use Rattle.rt_tokens.specs.Tokens.{behind, content}
use Rattle.rt_tokens.proofs.Cutting.{begins_after, content_goes_on, content_pairs}
use Rattle.rt_tokens.proofs.content.content_at.Goals as goal

pub loop-at-preserved-then-bytes-at-ne39 : goal.loop-at-preserved-then-bytes-at-ne39
loop-at-preserved-then-bytes-at-ne39 c =
    let e = c.as_bytes-bytes.ensures.value in
    record {
      begun = omega arith;
      quote = c.loop-at.invariant.quote;
      read = c.loop-at.invariant.read ∙ content_goes_on c.args.text.now c.loop-at.content c.args.start c.loop-at.from c.loop-at.at (omega arith) (omega arith) (omega arith)
          (λ q. c.if-bytes-at-ne39.true (ap (λ (bs : List ℕ). get_or bs c.loop-at.at 0) e ∙ q));
    }

pub range-requires-clause-start_boundary : goal.range-requires-clause-start_boundary
range-requires-clause-start_boundary c some = begins_after c.args.text.now c.loop-at.from 39 c.utf8.text some (omega arith) c.loop-at.invariant.quote (omega arith)

pub loop-at-preserved : goal.loop-at-preserved
loop-at-preserved c =
    let e = c.as_bytes-bytes.ensures.value in
    let text = c.args.text.now in
    let at = c.loop-at.at in
    let front = c.loop-at.content ++ take (at - c.loop-at.from) (drop c.loop-at.from text) in
    let size = ap (λ (bs : List ℕ). length bs) e in
    let begun : c.args.start ≤ at = omega arith in
    let within : at + 1 < length text = omega (arith, size) in
    let quote : get_or text at 0 ≡ 39 = sym (ap (λ (bs : List ℕ). get_or bs at 0) e) ∙ c.if-bytes-at-ne39.false in
    let again : get_or text (at + 1) 0 ≡ 39 = sym (ap (λ (bs : List ℕ). get_or bs (at + 1) 0) e) ∙ c.if-bytes-at-ne39-2.false in
    let place : at + 1 - 1 ≡ at = omega arith in
    let pushed : c.push_str.new.self ≡ front = c.in_ok-push_str.ensures.ok ∙ ap (λ (xs : List ℕ). c.loop-at.content ++ xs) c.range.ensures.value in
    record {
      begun = omega (arith, begun, within);
      quote = ap (λ (k : ℕ). get_or text k 0) place ∙ quote;
      read = c.loop-at.invariant.read ∙ content_pairs text front c.args.start at begun within quote again
          ∙ ap (λ (xs : List ℕ). behind (xs ++ take (at + 2 - (at + 1)) (drop (at + 1) text)) (at + 2 - c.args.start) (content (drop (at + 2) text))) (sym pushed);
    }
