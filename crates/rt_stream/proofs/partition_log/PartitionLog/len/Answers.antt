use Rattle.std.proofs.Common.{◌≡◌, ◌++◌, length, vec_len, ap, arith, length-append}
use Rattle.std.specs.List.{flat_map}
use Rattle.rt_stream.proofs.Places.{length-pages}
use Rattle.rt_stream.proofs.partition_log.PartitionLog.len.Goals as goal

pub returns : goal.returns
returns c =
    let pages = c.self.inside.full.items in
    let number : vec_len c.self.inside.full ≡ length pages = c.self.inside.full.ok.0 in
    let all : length (flat_map (λ page. page) pages ++ c.self.inside.last) ≡ length c.args.self.now =
    ap length c.self.view_is in
    omega (
      arith,
      length-append (flat_map (λ page. page) pages) c.self.inside.last,
      length-pages pages c.self.invariant.0,
    )
