-- A world stays safe as what there is grows and one node is put at its place.
use Rattle.std.proofs.Common.{◌≡◌, ℕ, List, [], ◌∷◌, ◌++◌, Option, length, sym, ◌∙◌, subst}
use Rattle.std.specs.Prelude.{slice_set}
use Rattle.std.proofs.lemmas.List.{length-set}
use Rattle.rt_broker.specs.Asking.{Asking}
use Rattle.rt_model.specs.declared.reply.Reply.{Reply}
use Rattle.rt_model.specs.declared.sent.Sent.{Sent}
use Rattle.rt_model.specs.declared.setup.Setup.{Setup}
use Rattle.rt_past.specs.IsPast.{IsPast}
use Rattle.rt_past.specs.Past.{Past, Grows, with_reply}
use Rattle.rt_past.specs.Requests.{AreDrawn}
use Rattle.rt_past.proofs.Numbers.{drawn_reply}
use Rattle.rt_state.specs.IsSafe.{IsServerAt, HasDrawn, IsControllerAt, IsQueryAt, IsSafeOver}
use Rattle.rt_state.specs.Places.{AreAt}
use Rattle.rt_nodes.specs.declared.controller_node.ControllerNode.{ControllerNode}
use Rattle.rt_nodes.specs.declared.server_node.ServerNode.{ServerNode}
use Rattle.rt_world.proofs.Places.{at_weaker, at_set, at_push}
use Rattle.rt_world.proofs.Topics.{servers_grow, controllers_grow, queries_grow}

-- what was drawn stays so where no request is sent
pub drawn_same : (a b : Past) (ns : List ServerNode) → b.sent ≡ a.sent → AreAt (HasDrawn a) ns → AreAt (HasDrawn b) ns
drawn_same a b ns e d = at_weaker (HasDrawn a) (HasDrawn b) (λ i n k. subst (λ (ms : List Sent). AreDrawn ms n.server.numbers) (sym e) k) ns d

pub drawn_replied : (a : Past) (r : Reply) (ns : List ServerNode) → AreAt (HasDrawn a) ns → AreAt (HasDrawn (with_reply a r)) ns
drawn_replied a r ns d = at_weaker (HasDrawn a) (HasDrawn (with_reply a r)) (λ i n k. drawn_reply a.sent n.server.numbers r k) ns d

-- ---- nothing but what there is

pub safe_grows : (s : Setup) (a b : Past) (ns : List ServerNode) (cs : List ControllerNode) (qs : List (Option Asking)) → IsSafeOver s a ns cs qs → Grows a b → IsPast s b
    → AreAt (HasDrawn b) ns → IsSafeOver s b ns cs qs
safe_grows s a b ns cs qs k g right drawn =
    record {
      setup = k.setup;
      past = right;
      all_servers = k.all_servers;
      servers = servers_grow s a b ns g k.servers;
      drawn = drawn;
      all_controllers = k.all_controllers;
      controllers = controllers_grow s a b cs g k.controllers;
      queries = queries_grow s a b qs g k.queries;
    }

-- ---- a node

pub server_set : (s : Setup) (a : Past) (ns : List ServerNode) (cs : List ControllerNode) (qs : List (Option Asking)) (i : ℕ) (n : ServerNode) → IsSafeOver s a ns cs qs
    → IsServerAt s a i n → HasDrawn a i n → IsSafeOver s a (slice_set ns i n) cs qs
server_set s a ns cs qs i n k at drawn =
    record {
      setup = k.setup;
      past = k.past;
      all_servers = length-set ns i n ∙ k.all_servers;
      servers = at_set (IsServerAt s a) ns i n at k.servers;
      drawn = at_set (HasDrawn a) ns i n drawn k.drawn;
      all_controllers = k.all_controllers;
      controllers = k.controllers;
      queries = k.queries;
    }

pub controller_set : (s : Setup) (a : Past) (ns : List ServerNode) (cs : List ControllerNode) (qs : List (Option Asking)) (c : ℕ) (n : ControllerNode)
    → IsSafeOver s a ns cs qs → IsControllerAt s a c n → IsSafeOver s a ns (slice_set cs c n) qs
controller_set s a ns cs qs c n k at =
    record {
      setup = k.setup;
      past = k.past;
      all_servers = k.all_servers;
      servers = k.servers;
      drawn = k.drawn;
      all_controllers = length-set cs c n ∙ k.all_controllers;
      controllers = at_set (IsControllerAt s a) cs c n at k.controllers;
      queries = k.queries;
    }

-- ---- a query

pub query_set : (s : Setup) (a : Past) (ns : List ServerNode) (cs : List ControllerNode) (qs : List (Option Asking)) (q : ℕ) (x : Option Asking) → IsSafeOver s a ns cs qs
    → IsQueryAt s a q x → IsSafeOver s a ns cs (slice_set qs q x)
query_set s a ns cs qs q x k at =
    record {
      setup = k.setup;
      past = k.past;
      all_servers = k.all_servers;
      servers = k.servers;
      drawn = k.drawn;
      all_controllers = k.all_controllers;
      controllers = k.controllers;
      queries = at_set (IsQueryAt s a) qs q x at k.queries;
    }

pub query_added : (s : Setup) (a : Past) (ns : List ServerNode) (cs : List ControllerNode) (qs : List (Option Asking)) (x : Option Asking) → IsSafeOver s a ns cs qs
    → IsQueryAt s a (length qs) x → IsSafeOver s a ns cs (qs ++ x ∷ [])
query_added s a ns cs qs x k at =
    record {
      setup = k.setup;
      past = k.past;
      all_servers = k.all_servers;
      servers = k.servers;
      drawn = k.drawn;
      all_controllers = k.all_controllers;
      controllers = k.controllers;
      queries = at_push (IsQueryAt s a) qs x at k.queries;
    }
