use Rattle.std.proofs.Common.{◌≡◌, ◌+◌, ◌≤◌, length, filter}
use Rattle.rt_upsert.specs.Changes.{IsNext, left}
use Rattle.rt_upsert.specs.Placed.{is_out}
use Rattle.rt_upsert.proofs.upsert.Upsert.take_out.Given as goal

abbrev pub invariant-loop-next : goal.invariant-loop-next
invariant-loop-next l = record {
  kept : left l.sequence l.from l.self ≡ left l.sequence l.from l.initial.self;
  next : IsNext l.self.rows l.sequence l.from l.next;
  counted : l.count + length (filter (is_out l.sequence l.from) l.self.rows) ≡ length (filter (is_out l.sequence l.from) l.initial.self.rows);
  few : length (filter (is_out l.sequence l.from) l.initial.self.rows) ≤ 4294967295;
}

abbrev pub decreases-loop-next : goal.decreases-loop-next
decreases-loop-next l = length l.self.rows
