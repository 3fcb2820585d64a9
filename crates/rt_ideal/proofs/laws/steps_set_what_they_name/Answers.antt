use Rattle.rt_ideal.proofs.Setting.{commit_serves, commit_consumes, commit_leaves, commit_nothing, add_consumes, add_has, add_off, offline_turns, remove_takes}
use Rattle.rt_ideal.proofs.laws.steps_set_what_they_name.Goals as goal

pub returns : goal.returns
returns c =
    record {
      serves = commit_serves;
      consumes = commit_consumes;
      leaves = commit_leaves;
      commits_nothing = commit_nothing;
      adds = add_consumes;
      adds_nothing_twice = add_has;
      adds_in_order_alone = add_off;
      stops = offline_turns;
      removes = remove_takes;
    }
