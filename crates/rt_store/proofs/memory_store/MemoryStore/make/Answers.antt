use Rattle.rt_store.proofs.Fresh.{fresh_done}
use Rattle.rt_store.proofs.memory_store.MemoryStore.make.Goals as goal

pub returns : goal.returns
returns c =
    fresh_done c.args.setup.now c.empty-store.result c.add_boot_nodes.new.store c.add_first_nodes.new.store c.append.new.self c.in_ok-state.state
    c.empty-store.ensures
    (c.in_ok-add_boot_nodes.ensures {u = tt})
    (c.in_ok-add_first_nodes.ensures {u = tt})
    (c.in_ok-state.ensures {u = tt})
    c.in_ok-append.ensures.ok.1
