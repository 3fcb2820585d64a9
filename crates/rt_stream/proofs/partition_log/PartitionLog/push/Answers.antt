use Rattle.std.proofs.Common.{◌≡◌, ◌++◌, ◌∷◌, [], length, ap, ◌∙◌, arith}
use Rattle.rt_stream.proofs.Places.{AreFull-push}
use Rattle.rt_stream.proofs.partition_log.PartitionLog.push.Goals as goal

pub invariant_of-self-2 : goal.invariant_of-self-2
invariant_of-self-2 c =
    let size : length c.self.inside.last ≡ 256 = omega (arith, c.self.invariant.1) in
    let compact : length c.compact.new.self ≡ 256 = ap length c.compact.ensures ∙ size in
    let one : length c.replace-full.new.dest ≡ 1 =
    ap length (c.replace-full.ensures.after ∙ c.in_ok-push.ensures.ok
    ∙ ap (λ messages. messages ++ c.args.message.now ∷ []) (c.reserve_as.ensures ∙ c.new-page.ensures)) in (
      rw (
        c.push_reserved.ensures.items,
        c.in_ok-reserve.ensures.items,
        c.replace-full.ensures.value,
      ) (AreFull-push _ c.compact.new.self c.self.invariant.0 compact),
      omega arith,
      omega (arith, c.in_ok-reserve.ensures.len),
    )
