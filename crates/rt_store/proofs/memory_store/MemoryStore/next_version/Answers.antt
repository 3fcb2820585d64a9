use Rattle.std.proofs.Common.{arith}
use Rattle.rt_store.proofs.Latest.{version_fits}
use Rattle.rt_store.proofs.memory_store.MemoryStore.next_version.Goals as goal

pub overflow_add-result : goal.overflow_add-result
overflow_add-result c =
    let most = version_fits c.self.inside.writes.items c.args.key _ c.in-Some.latest (c.self.invariant.0 c.args.key) c.in-Some.ensures in
    let fits = c.self.inside.writes.ok in
    let small = c.self.inside.writes.small in
    omega (arith, most, fits.0, fits.1, small)
