use Rattle.std.proofs.Common.{◌≡◌, ◌+◌, length, ap, ◌∙◌, vec_len, length-append}
use Rattle.rt_stream.proofs.Cuts.{cut-push, AreEnds-push}
use Rattle.rt_stream.proofs.messages.Messages.push.Goals as goal

pub invariant_of-self-2 : goal.invariant_of-self-2
invariant_of-self-2 c =
    let before : vec_len c.self.inside.bytes ≡ length c.self.inside.bytes.items =
    c.self.inside.bytes.ok.0 in
    let start : c.len.result ≡ length c.self.inside.bytes.items = c.len.ensures ∙ before in
    let end = c.in_ok-end.ensures ∙ ap (λ n. n + length c.args.message.now) start in
    let size : length c.extend_from_slice.new.self.items
    ≡ length c.self.inside.bytes.items + length c.args.message.now =
    ap length c.in_ok-extend_from_slice.ensures.items
    ∙ length-append c.self.inside.bytes.items c.args.message.now in
    rw (c.push_reserved.ensures.items, c.in_ok-reserve.ensures.items, end, size)
    (AreEnds-push 0 c.self.inside.ends.items _ _ c.self.invariant c.requires)

pub returns-clause-ok : goal.returns-clause-ok
returns-clause-ok c =
    let before : vec_len c.self.inside.bytes ≡ length c.self.inside.bytes.items =
    c.self.inside.bytes.ok.0 in
    let start : c.len.result ≡ length c.self.inside.bytes.items = c.len.ensures ∙ before in
    let end = c.in_ok-end.ensures ∙ ap (λ n. n + length c.args.message.now) start in
    rw (
      c.push_reserved.ensures.items,
      c.in_ok-reserve.ensures.items,
      end,
      c.in_ok-extend_from_slice.ensures.items,
      ← c.self.view_is,
    )
    (cut-push 0 c.self.inside.ends.items c.self.inside.bytes.items c.args.message.now c.self.invariant)
