-- What a node's caller has seen of the ground through its three fronts, and what is its own.
use Rattle.std.specs.Prelude.{◌≡◌, ℕ, ◌+◌, List, [], ◌∷◌, ◌++◌, map}
use Rattle.rt_deep.specs.declared.deep_put.DeepPut.{DeepPut}
use Rattle.rt_front.specs.Histories.{Known, mine}
use Rattle.rt_ground.specs.Histories.{whats}
use Rattle.rt_ground.specs.declared.appended.Appended.{Appended}
use Rattle.rt_model.specs.declared.node.Seen.{Seen}
use Rattle.rt_model.specs.declared.reply.Reply.{Reply}
use Rattle.rt_model.specs.declared.request.Request.{Request}
use Rattle.rt_model.specs.declared.sent.Sent.{Sent}
use Rattle.rt_model.specs.declared.sent.Sent.TheVariants as sent
use Rattle.rt_model.specs.declared.setup.Setup.{Setup}
use Rattle.rt_past.specs.Past.{Past}
use Rattle.rt_live_names.specs.Views.{view_of}

pub record Fronts : Type 0 where
  pub store : Known Seen
  pub deep : Known DeepPut
  pub stream : Known Appended

-- what a caller of the ground shows
abbrev pub fronts : Known Seen → Known DeepPut → Known Appended → Fronts
fronts store deep stream = record { store = store; deep = deep; stream = stream }

-- they are those of the caller of this number
pub record AreOfCaller (number : ℕ) (f : Fronts) : Type 0 where
  pub store : f.store.numbers ≡ number ∷ []
  pub deep : f.deep.numbers ≡ number ∷ []
  pub stream : f.stream.numbers ≡ number ∷ []

-- ---- the caller of each node, by its number

abbrev pub producer_caller : ℕ
producer_caller = 0

abbrev pub server_caller : ℕ → ℕ
server_caller k = 1 + k

abbrev pub controller_caller : Setup → ℕ → ℕ
controller_caller setup c = 1 + setup.servers + c

abbrev pub repairer_caller : Setup → ℕ
repairer_caller setup = 1 + setup.servers + setup.controllers

abbrev pub broker_caller : Setup → ℕ
broker_caller setup = 2 + setup.servers + setup.controllers

-- how many callers there are
abbrev pub callers_of : Setup → ℕ
callers_of setup = 3 + setup.servers + setup.controllers

-- ---- the link of each inbox, by its number

abbrev pub server_line : ℕ → ℕ
server_line k = k

abbrev pub controller_line : Setup → ℕ → ℕ
controller_line setup c = setup.servers + c

-- ---- what is a caller's own, in its order

abbrev pub own_writes : Fronts → List Seen
own_writes f = whats (mine f.store.numbers f.store.seen)

abbrev pub own_files : Fronts → List DeepPut
own_files f = whats (mine f.deep.numbers f.deep.seen)

abbrev pub own_messages : Fronts → List Appended
own_messages f = whats (mine f.stream.numbers f.stream.seen)

-- ---- what it has of the cluster

-- requests and replies, as a past has them; their order among each other says nothing
abbrev pub messages : List Request → List Reply → List Sent
messages requests replies = map sent.Request requests ++ map sent.Reply replies

abbrev pub viewed : Setup → Fronts → List Request → List Reply → Past
viewed setup f requests replies = view_of setup f.store f.deep f.stream (messages requests replies)
