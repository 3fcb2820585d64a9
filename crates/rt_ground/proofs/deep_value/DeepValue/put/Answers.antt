use Rattle.std.proofs.Common.{◌∙◌, ap, length, subst}
use Rattle.rt_deep.specs.Files.{AreOnce}
use Rattle.rt_deep.specs.Meaning.{Told}
use Rattle.rt_ground.proofs.Deeps.{put_closed}
use Rattle.rt_ground.proofs.deep_value.DeepValue.put.Goals as goal

pub invariant_of-self-2 : goal.invariant_of-self-2
invariant_of-self-2 g c =
    let closed = put_closed (record { path = c.args.path.now; bytes = c.args.bytes.now }) c.args.self.now _ c.reserve.new.self.log c.settle.new.register.log _ _ _ _ _ _ _ _ c.self.view_is c.self.invariant.1 c.reserve.ensures.same.1 (ap length c.files-count.ensures.files) c.put-answer.ensures c.files-files.ensures.files c.settle.ensures.settled c.settle.ensures.same in (
      c.settle.ensures.names.0 ∙ c.reserve.ensures.same.0 ∙ c.self.invariant.0,
      closed.holds,
      c.settle.ensures.made ∙ c.reserve.ensures.made ∙ c.self.invariant.2,
      subst (λ (x : Told). AreOnce x.files) closed.holds c.files-files.ensures.once,
    )

pub returns-clause-deep : goal.returns-clause-deep
returns-clause-deep g c = (put_closed (record { path = c.args.path.now; bytes = c.args.bytes.now }) c.args.self.now _ c.reserve.new.self.log c.settle.new.register.log _ _ _ _ _ _ _ _ c.self.view_is c.self.invariant.1 c.reserve.ensures.same.1 (ap length c.files-count.ensures.files) c.put-answer.ensures c.files-files.ensures.files c.settle.ensures.settled c.settle.ensures.same).says
