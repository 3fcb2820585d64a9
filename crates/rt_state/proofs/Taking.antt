-- A reply that a server takes.
use Rattle.std.proofs.Common.{◌≡◌, ℕ, Some, sym, subst}
use Rattle.rt_model.specs.declared.reply.Reply.{Reply}
use Rattle.rt_state.specs.Applying.{Next}
use Rattle.rt_state.specs.Finding.{reply_at}
use Rattle.rt_state.specs.Messages.{Replies, RepliesAt, node_took}
use Rattle.rt_state.specs.Nodes.{ServerDoes}
use Rattle.rt_state.specs.declared.cost.Cost.{Cost}
use Rattle.rt_state.specs.declared.state.State.{State}

pub reply_taken : (w : State) (m : ℕ) (r : Reply) (cost : Cost) (x : Next) → reply_at w m ≡ Some r
    → ServerDoes w r.number.instance (λ old new outcome. (outcome, new) ≡ node_took old r) cost x → Replies w m cost x
reply_taken w m r cost x found h = subst (λ o. RepliesAt o w cost x) (sym found) h
