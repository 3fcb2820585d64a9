use Rattle.std.proofs.Common.{refl}
use Rattle.rt_link.proofs.Moves.{posts_as, nothing_learned}
use Rattle.rt_link.proofs.post.Post.post.Goals as goal

pub push_as-requires-clause-rule : goal.push_as-requires-clause-rule
push_as-requires-clause-rule g c = (posts_as _ _ _ _ _ _ c.self.invariant.knows refl, nothing_learned _ _)
