use Rattle.std.proofs.Common.{◌≡◌, ◌≤◌, count_by, take}
use Rattle.rt_dryrun.specs.Rehearsing.{is_new}
use Rattle.rt_dryrun.proofs.planning.count_new.Given as goal

abbrev pub invariant-loop-entry : goal.invariant-loop-entry
invariant-loop-entry l = record {
  counted : l.count ≡ count_by (is_new l.had) (take l.entry-index l.entries);
  few : l.count ≤ l.entry-index;
}
