use Rattle.rt_past.proofs.Entries.{commit_right, add_right, offline_right, remove_right}
use Rattle.rt_past.proofs.laws.ideal_steps_keep_entries_right.Goals as goal

pub returns : goal.returns
returns c = record { commits = commit_right; adds = add_right; turns_offline = offline_right; removes = remove_right }
