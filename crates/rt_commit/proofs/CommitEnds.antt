-- A job commits its segment exactly where it commits up to an offset.
use Rattle.std.proofs.Common.{◌≡◌, Bool, true, false, [], Some, refl, sym, cond, None}
use Rattle.std.proofs.lemmas.Bool.{false≢true}
use Rattle.std.proofs.lemmas.Option.{none-some}
use Rattle.rt_base.specs.declared.numbers.Offset.{Offset}
use Rattle.rt_commit.specs.declared.job.JobStage.TheVariants as stage
use Rattle.rt_commit.specs.declared.job.JobStage.{JobStage}
use Rattle.rt_commit.specs.declared.work.Work.TheVariants as work
use Rattle.rt_commit.specs.declared.work.Work.{Work}
use Rattle.rt_commit.specs.Job.{commits, is_commit}
use Rattle.rt_commit.specs.Lasting.{commit_end, work_end}

-- ---- a machine that has an end is COMMITTING

work_commits : (w : Work) (x : Offset) → work_end w ≡ Some x → is_commit w ≡ true
work_commits (work.Commit done) x e = refl
work_commits work.Offline x e = absurd (none-some x e)

pub end_commits : (s : JobStage) (x : Offset) → commit_end s ≡ Some x → commits s ≡ true
end_commits (stage.Check from end path) x e = refl
end_commits (stage.Done from commit) x e = refl
end_commits (stage.Next done) x e = refl
end_commits (stage.IdealRead w found) x e = work_commits w x e
end_commits (stage.IdealSet w found ideal) x e = work_commits w x e
end_commits stage.Ended x e = absurd (none-some x e)

-- ---- a job ends

-- a job is a commit job where it commits up to an offset
ends_by_work : (b : Bool) (w : Work) → commits (stage.IdealRead w []) ≡ b → cond b ((x : Offset) × (commit_end (stage.IdealRead w []) ≡ Some x)) (commit_end (stage.IdealRead w []) ≡ None)
ends_by_work true (work.Commit done) e = (_, refl)
ends_by_work true work.Offline e = absurd (false≢true e)
ends_by_work false (work.Commit done) e = absurd (false≢true (sym e))
ends_by_work false work.Offline e = refl

pub commits_to : (s : JobStage) → commits s ≡ true → (x : Offset) × (commit_end s ≡ Some x)
commits_to (stage.Check from end path) e = (end, refl)
commits_to (stage.Done from commit) e = (commit.end, refl)
commits_to (stage.Next done) e = (_, refl)
commits_to (stage.IdealRead w found) e = ends_by_work true w e
commits_to (stage.IdealSet w found ideal) e = ends_by_work true w e
commits_to stage.Ended e = absurd (false≢true e)

pub commits_none : (s : JobStage) → commits s ≡ false → commit_end s ≡ None
commits_none (stage.Check from end path) e = absurd (false≢true (sym e))
commits_none (stage.Done from commit) e = absurd (false≢true (sym e))
commits_none (stage.Next done) e = absurd (false≢true (sym e))
commits_none (stage.IdealRead w found) e = ends_by_work false w e
commits_none (stage.IdealSet w found ideal) e = ends_by_work false w e
commits_none stage.Ended e = refl
