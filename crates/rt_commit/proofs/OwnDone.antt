-- A commit job succeeds with the Done metadata that it has written itself.
use Rattle.std.proofs.Common.{◌≡◌, inl, inr, ℕ, List, [], ◌∷◌, ◌++◌, append-nil, Option, Some, None, refl, sym, ◌∙◌, ap, subst}
use Rattle.std.proofs.lemmas.List.{append_assoc}
use Rattle.std.proofs.lemmas.Option.{same_Some}
use Rattle.rt_base.specs.declared.numbers.Moment.{Moment}
use Rattle.rt_base.specs.declared.numbers.Offset.{Offset}
use Rattle.rt_lists.proofs.Members.{Has-push, Has-front, front_push}
use Rattle.rt_model.specs.declared.asked.Asked.{Asked}
use Rattle.rt_model.specs.declared.commit.Commit.{Commit}
use Rattle.rt_model.specs.declared.job_step.StepOutcome.{StepOutcome}
use Rattle.rt_model.specs.declared.node.Seen.{Seen}
use Rattle.rt_model.specs.declared.reply.ReplyStatus.{ReplyStatus}
use Rattle.rt_model.specs.declared.reply.ReplyStatus.TheVariants as status
use Rattle.rt_model.specs.declared.seg_meta.SeenMeta.{SeenMeta}
use Rattle.rt_znodes.specs.Znodes.{seen_meta_of}
use Rattle.rt_commit.specs.declared.job.JobStage.TheVariants as stage
use Rattle.rt_commit.specs.declared.job.JobStage.{JobStage}
use Rattle.rt_commit.specs.declared.work.Work.TheVariants as work
use Rattle.rt_commit.specs.declared.work.Work.{Work}
use Rattle.rt_commit.specs.Calls.{Answer}
use Rattle.rt_commit.specs.Job.{Stepping, done_write, step_at}
use Rattle.rt_commit.specs.Laws.{Move, GoesOn, HasWritten, IsOwnSuccess, IsSuccess, IsTrying, Answers, EndsOrGoesOn, MayGoOn}
use Rattle.rt_commit.proofs.Ending.{falls}
use Rattle.rt_commit.proofs.Replying.{replies_first}

module _ (q : Asked) (from : Seen) (end : Offset) (path : List ℕ) where
  abbrev OwnWork : List Move → Work → Type 0
  OwnWork ms (work.Commit done) = HasWritten from end path ms done
  OwnWork ms work.Offline = ⊥

  -- what a job that began with this write, this end and this path holds after these steps
  abbrev IsOwn : List Move → JobStage → Type 0
  IsOwn ms (stage.Check f x p) = (f ≡ from) × (x ≡ end) × (p ≡ path)
  IsOwn ms (stage.Done f commit) = (f ≡ from) × (commit.end ≡ end) × (commit.path ≡ path)
  IsOwn ms (stage.Next done) = HasWritten from end path ms done
  IsOwn ms (stage.IdealRead w found) = OwnWork ms w
  IsOwn ms (stage.IdealSet w found ideal) = OwnWork ms w
  IsOwn ms stage.Ended = Unit {0}

  more : (ms : List Move) (m : Move) (done : Seen) → HasWritten from end path ms done → HasWritten from end path (ms ++ m ∷ []) done
  more ms m done k =
      record {
        move = k.move;
        has = Has-front ms (ms ++ m ∷ []) k.move (front_push ms m) k.has;
        commit = k.commit;
        version = k.version;
        answered = k.answered;
        end_is = k.end_is;
        path_is = k.path_is;
        is_done = k.is_done;
      }

  more_work : (ms : List Move) (m : Move) (w : Work) → OwnWork ms w → OwnWork (ms ++ m ∷ []) w
  more_work ms m (work.Commit done) k = more ms m done k
  more_work ms m work.Offline k = absurd k

  abbrev writes_from : Commit → Moment → ℕ → Seen → Seen
  writes_from commit now version f = done_write f commit now version

  -- a step that goes on
  goes_own : (ms : List Move) (m : Move) (s : JobStage) (o : StepOutcome) (to : JobStage) → IsOwn ms s → MayGoOn q m.now s m.answer o to
      → IsOwn (ms ++ m ∷ []) to
  goes_own ms m (stage.Check f x p) o to k (bytes, commit, answer, fine, x_is, p_is, header, is) =
      subst (IsOwn (ms ++ m ∷ [])) (sym is) (k.0, x_is ∙ k.1, p_is ∙ k.2)
  goes_own ms m (stage.Done f commit) o to k (version, answer, fine, is) =
      subst (IsOwn (ms ++ m ∷ [])) (sym is)
      (record {
        move = m;
        has = Has-push ms m;
        commit = commit;
        version = version;
        answered = answer;
        end_is = k.1;
        path_is = k.2;
        is_done = ap (writes_from commit m.now version) k.0;
      })
  goes_own ms m (stage.Next done) o to k (fine, is) = subst (IsOwn (ms ++ m ∷ [])) (sym is) (more ms m done k)
  goes_own ms m (stage.IdealRead w found) o to k (ideal, answer, changed, fine, is) = subst (IsOwn (ms ++ m ∷ [])) (sym is) (more_work ms m w k)
  goes_own ms m (stage.IdealSet w found ideal) o to k (expected, version, answer, changed, few, is) =
      subst (IsOwn (ms ++ m ∷ [])) (sym is) (more_work ms m w k)
  goes_own ms m stage.Ended o to k g = absurd g

  goes_on_own : (ms : List Move) (m : Move) (s : JobStage) (x : Stepping) → IsOwn ms s → IsTrying s → step_at q m.now s m.answer ≡ Some x
      → x.did.status ≡ None → IsOwn (ms ++ m ∷ []) x.stage
  goes_on_own ms m s x k t e none =
      let tells = replies_first q m.now s m.answer x t e in
      let E : Option ReplyStatus → Type 0 = λ r. EndsOrGoesOn q m.now s m.answer x.did.outcome r x.stage in
      goes_own ms m s x.did.outcome x.stage k (subst E none tells.1)

  -- a life
  lives_own : (before : List Move) (s : JobStage) (ms : List Move) (to : JobStage) → IsTrying s → IsOwn before s → GoesOn q s ms to
      → IsOwn (before ++ ms) to × IsTrying to
  lives_own before s [] to t k e =
      (subst (IsOwn (before ++ [])) e (subst (λ (ms : List Move). IsOwn ms s) (sym (append-nil before)) k), subst IsTrying e t)
  lives_own before s (m ∷ ms) to t k (x, is, on, rest) =
      let here = goes_on_own before m s x k t is on in
      let later = lives_own (before ++ m ∷ []) x.stage ms to (falls q m.now s m.answer x t is on).trying here rest in
      (subst (λ (all : List Move). IsOwn all to) (append_assoc before (m ∷ []) ms) later.0, later.1)

  -- ---- its success

  abbrev success_with : SeenMeta → ReplyStatus
  success_with seen = status.CommitSuccess seen

  same_seen : (a b : SeenMeta) → success_with a ≡ success_with b → a ≡ b
  same_seen a b e = cc

  work_own : (ms : List Move) (w : Work) (r : ReplyStatus) (seen : SeenMeta) → OwnWork ms w → IsSuccess w r → r ≡ success_with seen
      → (done : Seen) × HasWritten from end path ms done × (seen ≡ seen_meta_of done)
  work_own ms (work.Commit done) r seen k is e = (done, k, same_seen seen (seen_meta_of done) (sym e ∙ is))
  work_own ms work.Offline r seen k is e = absurd k

  ends_own : (ms : List Move) (s : JobStage) (a : Answer) (o : StepOutcome) (r : ReplyStatus) (seen : SeenMeta) → IsOwn ms s → Answers q s a o r
      → r ≡ success_with seen → (done : Seen) × HasWritten from end path ms done × (seen ≡ seen_meta_of done)
  ends_own ms (stage.Check f x p) a o r seen k (inl fault) e = absurd (cc)
  ends_own ms (stage.Check f x p) a o r seen k (inr file) e = absurd (cc)
  ends_own ms (stage.Done f commit) a o r seen k (inl fault) e = absurd (cc)
  ends_own ms (stage.Done f commit) a o r seen k (inr (inl none)) e = absurd (cc)
  ends_own ms (stage.Done f commit) a o r seen k (inr (inr other)) e = absurd (cc)
  ends_own ms (stage.Next done) a o r seen k (inl fault) e = absurd (cc)
  ends_own ms (stage.Next done) a o r seen k (inr (inl other)) e = absurd (cc)
  ends_own ms (stage.Next done) a o r seen k (inr (inr gone)) e = work_own ms (work.Commit done) r seen k gone.2 e
  ends_own ms (stage.IdealRead w found) a o r seen k (inl fault) e = absurd (cc)
  ends_own ms (stage.IdealRead w found) a o r seen k (inr same) e = work_own ms w r seen k same.4 e
  ends_own ms (stage.IdealSet w found ideal) a o r seen k (inl fault) e = absurd (cc)
  ends_own ms (stage.IdealSet w found ideal) a o r seen k (inr (inl tenth)) e = absurd (cc)
  ends_own ms (stage.IdealSet w found ideal) a o r seen k (inr (inr done)) e = work_own ms w r seen k done.3 e
  ends_own ms stage.Ended a o r seen k g e = absurd g

  ended_own : (ms : List Move) (s : JobStage) (a : Answer) (o : StepOutcome) (how : Option ReplyStatus) (now : Moment) (to : JobStage) → IsOwn ms s
      → EndsOrGoesOn q now s a o how to → IsOwnSuccess from end path ms how
  ended_own ms s a o None now to k g seen e = absurd (cc)
  ended_own ms s a o (Some r) now to k g seen e = ends_own ms s a o r seen k g.0 (same_Some r (success_with seen) e)

  pub succeeds_own : (moves : List Move) (at : JobStage) (now : Moment) (answer : Answer) (x : Stepping)
      → GoesOn q (stage.Check from end path) moves at → step_at q now at answer ≡ Some x → IsOwnSuccess from end path moves x.did.status
  succeeds_own moves at now answer x goes e =
      let life = lives_own [] (stage.Check from end path) moves at tt (refl, refl, refl) goes in
      let tells = replies_first q now at answer x life.1 e in
      ended_own moves at answer x.did.outcome x.did.status now x.stage life.0 tells.1
