use Rattle.std.proofs.Common.{string_bytes}
use Rattle.rt_desk.specs.Forcing.{ForceCommitTold, ForceStatusTold, PauseTold, ResumeTold}
use Rattle.rt_desk.specs.Hybrid.{HybridTold}
use Rattle.rt_desk.specs.Latest.{LatestTold}
use Rattle.rt_desk.specs.Rehearsing.{LoadedTold, PeerTold, RehearseTold, StepTold}
use Rattle.rt_desk.specs.Saying.{with_plan}
use Rattle.rt_desk.proofs.Besides.{beside_does, further_as, on_ok, puts_does}
use Rattle.rt_desk.proofs.saying.play_further.Goals as goal

pub returns-in-Latest : goal.returns-in-Latest
returns-in-Latest c = record {
  told = further_as c.args.said _ c.args.desk.now c.args.world.now.state c.play_latest.new.world (string_bytes c.play_latest.new.text) c.args.desk.now c.play_latest.result c.in-Latest.is
      (beside_does (LatestTold c.args.desk.now.upsert c.in-Latest.asked) c.args.desk.now c.args.world.now.state c.play_latest.new.world (string_bytes c.play_latest.new.text) c.play_latest.result c.play_latest.ensures);
  desk = on_ok c.play_latest.result c.requires.desk;
}

pub returns-in-Hybrid : goal.returns-in-Hybrid
returns-in-Hybrid c = record {
  told = further_as c.args.said _ c.args.desk.now c.args.world.now.state c.play_hybrid.new.world (string_bytes c.play_hybrid.new.text) c.args.desk.now c.play_hybrid.result c.in-Hybrid.is
      (beside_does (HybridTold c.args.desk.now.hybrid c.in-Hybrid.asked) c.args.desk.now c.args.world.now.state c.play_hybrid.new.world (string_bytes c.play_hybrid.new.text) c.play_hybrid.result c.play_hybrid.ensures);
  desk = on_ok c.play_hybrid.result c.requires.desk;
}

pub returns-in-Pause : goal.returns-in-Pause
returns-in-Pause c = record {
  told = further_as c.args.said _ c.args.desk.now c.args.world.now.state c.play_pause.new.world (string_bytes c.play_pause.new.text) (record c.args.desk.now { pause = c.play_pause.new.pause }) c.play_pause.result c.in-Pause.is
      (puts_does (λ on. record c.args.desk.now { pause = on }) (PauseTold) c.args.world.now.state c.play_pause.new.world (string_bytes c.play_pause.new.text) c.play_pause.new.pause c.play_pause.result c.play_pause.ensures);
  desk = on_ok c.play_pause.result (record { upsert = c.requires.desk.upsert; hybrid = c.requires.desk.hybrid });
}

pub returns-in-Resume : goal.returns-in-Resume
returns-in-Resume c = record {
  told = further_as c.args.said _ c.args.desk.now c.args.world.now.state c.play_resume.new.world (string_bytes c.play_resume.new.text) (record c.args.desk.now { pause = c.play_resume.new.pause }) c.play_resume.result c.in-Resume.is
      (puts_does (λ on. record c.args.desk.now { pause = on }) (ResumeTold) c.args.world.now.state c.play_resume.new.world (string_bytes c.play_resume.new.text) c.play_resume.new.pause c.play_resume.result c.play_resume.ensures);
  desk = on_ok c.play_resume.result (record { upsert = c.requires.desk.upsert; hybrid = c.requires.desk.hybrid });
}

pub returns-in-ForceCommit : goal.returns-in-ForceCommit
returns-in-ForceCommit c = record {
  told = further_as c.args.said _ c.args.desk.now c.args.world.now.state c.play_force_commit.new.world (string_bytes c.play_force_commit.new.text) (record c.args.desk.now { jobs = c.play_force_commit.new.jobs }) c.play_force_commit.result c.in-ForceCommit.is
      (puts_does (λ jobs. record c.args.desk.now { jobs = jobs }) (ForceCommitTold c.args.desk.now.jobs) c.args.world.now.state c.play_force_commit.new.world (string_bytes c.play_force_commit.new.text) c.play_force_commit.new.jobs c.play_force_commit.result c.play_force_commit.ensures);
  desk = on_ok c.play_force_commit.result (record { upsert = c.requires.desk.upsert; hybrid = c.requires.desk.hybrid });
}

pub returns-in-ForceStatus : goal.returns-in-ForceStatus
returns-in-ForceStatus c = record {
  told = further_as c.args.said _ c.args.desk.now c.args.world.now.state c.play_force_status.new.world (string_bytes c.play_force_status.new.text) c.args.desk.now c.play_force_status.result c.in-ForceStatus.is
      (beside_does (ForceStatusTold c.args.desk.now.jobs c.in-ForceStatus.job) c.args.desk.now c.args.world.now.state c.play_force_status.new.world (string_bytes c.play_force_status.new.text) c.play_force_status.result c.play_force_status.ensures);
  desk = on_ok c.play_force_status.result c.requires.desk;
}

pub returns-in-Peer : goal.returns-in-Peer
returns-in-Peer c = record {
  told = further_as c.args.said _ c.args.desk.now c.args.world.now.state c.play_peer.new.world (string_bytes c.play_peer.new.text) c.args.desk.now c.play_peer.result c.in-Peer.is
      (beside_does (PeerTold c.in-Peer.instance c.in-Peer.partition c.in-Peer.sequence) c.args.desk.now c.args.world.now.state c.play_peer.new.world (string_bytes c.play_peer.new.text) c.play_peer.result c.play_peer.ensures);
  desk = on_ok c.play_peer.result c.requires.desk;
}

pub returns-in-Rehearse : goal.returns-in-Rehearse
returns-in-Rehearse c = record {
  told = further_as c.args.said _ c.args.desk.now c.args.world.now.state c.play_rehearse.new.world (string_bytes c.play_rehearse.new.text) (with_plan c.args.desk.now c.play_rehearse.new.rehearsing) c.play_rehearse.result c.in-Rehearse.is
      (puts_does (with_plan c.args.desk.now) (RehearseTold c.in-Rehearse.servers c.in-Rehearse.keep c.args.desk.now.rehearsing) c.args.world.now.state c.play_rehearse.new.world (string_bytes c.play_rehearse.new.text) c.play_rehearse.new.rehearsing c.play_rehearse.result c.play_rehearse.ensures);
  desk = on_ok c.play_rehearse.result (record { upsert = c.requires.desk.upsert; hybrid = c.requires.desk.hybrid });
}

pub returns-in-Loaded : goal.returns-in-Loaded
returns-in-Loaded c = record {
  told = further_as c.args.said _ c.args.desk.now c.args.world.now.state c.play_loaded.new.world (string_bytes c.play_loaded.new.text) (with_plan c.args.desk.now c.play_loaded.new.rehearsing) c.play_loaded.result c.in-Loaded.is
      (puts_does (with_plan c.args.desk.now) (LoadedTold c.in-Loaded.instance c.in-Loaded.partition c.in-Loaded.sequence c.args.desk.now.rehearsing) c.args.world.now.state c.play_loaded.new.world (string_bytes c.play_loaded.new.text) c.play_loaded.new.rehearsing c.play_loaded.result c.play_loaded.ensures);
  desk = on_ok c.play_loaded.result (record { upsert = c.requires.desk.upsert; hybrid = c.requires.desk.hybrid });
}

pub returns-in-Step : goal.returns-in-Step
returns-in-Step c = record {
  told = further_as c.args.said _ c.args.desk.now c.args.world.now.state c.play_step.new.world (string_bytes c.play_step.new.text) (with_plan c.args.desk.now c.play_step.new.rehearsing) c.play_step.result c.in-Step.is
      (puts_does (with_plan c.args.desk.now) (StepTold c.args.desk.now.rehearsing) c.args.world.now.state c.play_step.new.world (string_bytes c.play_step.new.text) c.play_step.new.rehearsing c.play_step.result c.play_step.ensures);
  desk = on_ok c.play_step.result (record { upsert = c.requires.desk.upsert; hybrid = c.requires.desk.hybrid });
}
