use Rattle.rt_ideal.proofs.Members.{entry_written}
use Rattle.rt_ideal.proofs.written.write_entry.Goals as goal

pub returns-clause-written : goal.returns-clause-written
returns-clause-written c =
    entry_written c.as_str.result.now c.in_ok-segment.segment c.in_ok-name.name c.in_ok-mode.mode _ _ _ _ _ c.args.entry.now
    c.as_str.ensures.value
    (c.in_ok-segment.ensures {u = tt})
    (c.in_ok-name.ensures {u = tt})
    (c.in_ok-mode.ensures {u = tt})
    c.take_members-instances.ensures.members
    c.take_members-instances.ensures.rest
    c.in_ok-insert.ensures.entries
    c.in_ok-insert-2.ensures.entries
