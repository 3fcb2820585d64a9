-- Turns behind turns.
use Rattle.std.proofs.Common.{List, [], ◌∷◌, ◌++◌, subst}
use Rattle.rt_safety.specs.Runs.{Turn, Leads}
use Rattle.rt_state.specs.declared.state.State.{State}

pub leads_then : (turns more : List Turn) (w u v : State) → Leads w turns u → Leads u more v → Leads w (turns ++ more) v
leads_then [] more w u v same rest = subst (λ x. Leads x more v) same rest
leads_then (turn ∷ turns) more w u v (next, t, further) rest = (next, t, leads_then turns more next u v further rest)
