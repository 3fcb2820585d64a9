-- What stands of a running cluster once its nodes have ended and were joined: what each can say by itself, and what the
-- joining tells of all together.
use Rattle.std.specs.Prelude.{◌≡◌, ◌⊎◌, ◌<◌, ◌^◌, ℕ, All, List, [], ◌∷◌, ◌++◌, length, map, slice_get, Option, Some, None}
use Rattle.rt_broker.specs.IsAskedBy.{Given, GivesMore}
use Rattle.rt_broker.specs.declared.piece_given.PieceGiven.{PieceGiven}
use Rattle.rt_deep.specs.Files.{AreOnce}
use Rattle.rt_ground.specs.Histories.{AreOfCallers, whats}
use Rattle.rt_ground.specs.Lawfulness.{IsLawfulStore}
use Rattle.rt_lists.specs.Members.{Has}
use Rattle.rt_live_names.specs.BrokerPart.{Answered, BrokerPart, IsBrokerPart, given_by}
use Rattle.rt_live_names.specs.ControllerPart.{ControllerPart, IsControllerPart}
use Rattle.rt_live_names.specs.Fronts.{Fronts, callers_of}
use Rattle.rt_live_names.specs.Names.{Names}
use Rattle.rt_live_names.specs.OtherParts.{IsProducerPart, IsRepairerPart}
use Rattle.rt_live_names.specs.ServerPart.{IsServerPart, ServerPart}
use Rattle.rt_model.specs.declared.reply.Reply.{Reply}
use Rattle.rt_model.specs.declared.request.Request.{Request}
use Rattle.rt_store.specs.Contents.{starting_of}
use Rattle.rt_live_end.specs.Meeting.{HasMet}

pub record Ended : Type 0 where
  pub servers : List ServerPart
  pub controllers : List ControllerPart
  pub repairer : Fronts
  pub producer : Fronts
  pub broker : BrokerPart
  -- the fronts of the caller into which all were met
  pub met : Fronts

-- the fronts of all nodes, by their callers' numbers
abbrev pub fronts_of : Ended → List Fronts
fronts_of e =
    e.producer
    ∷ (map (λ (a : ServerPart). a.fronts) e.servers
    ++ (map (λ (a : ControllerPart). a.fronts) e.controllers ++ (e.repairer ∷ e.broker.fronts ∷ [])))

-- the same, as they are met one after the other
abbrev pub fronts_met : Ended → List Fronts
fronts_met e =
    (((e.producer ∷ map (λ (a : ServerPart). a.fronts) e.servers) ++ map (λ (a : ControllerPart). a.fronts) e.controllers)
    ++ e.repairer ∷ []) ++ e.broker.fronts ∷ []

-- what each server gave, by its number
abbrev pub gave_in : Option ServerPart → List PieceGiven
gave_in None = []
gave_in (Some a) = a.given

abbrev pub gave_by : List ServerPart → Given
gave_by servers i = gave_in (slice_get servers i)

-- each is the part of the node of its place
abbrev pub AreServerParts : Names → List ServerPart → Type 0
AreServerParts n servers =
    (k : ℕ) (a : ServerPart) → slice_get servers k ≡ Some a → (a.number ≡ k) × IsServerPart n a

abbrev pub AreControllerParts : Names → List ControllerPart → Type 0
AreControllerParts n controllers =
    (k : ℕ) (a : ControllerPart) → slice_get controllers k ≡ Some a → (a.number ≡ k) × IsControllerPart n a

-- each entry is of one of the cluster's callers, the store's history is lawful, and no path has two files
pub record IsGround (n : Names) (f : Fronts) : Type 0 where
  pub store : AreOfCallers (callers_of n.setup) f.store.seen × IsLawfulStore (starting_of n.setup) f.store.seen
  pub deep : AreOfCallers (callers_of n.setup) f.deep.seen × AreOnce (whats f.deep.seen)
  pub stream : AreOfCallers (callers_of n.setup) f.stream.seen

-- what a server took a controller answered, and what a controller took a server asked
pub record AreLinked (e : Ended) : Type 0 where
  pub replies :
      (a : ServerPart) (r : Reply) → Has e.servers a → Has a.replies r
      → (c : ControllerPart) × Has e.controllers c × Has c.replies r
  pub requests :
      (c : ControllerPart) (q : Request) → Has e.controllers c → Has c.requests q
      → (a : ServerPart) × Has e.servers a × Has a.requests q

-- an answer of the broker, printed or its first to a query
abbrev pub IsAnswerIn : Ended → Answered → Type 0
IsAnswerIn e x = Has e.broker.answers x ⊎ Has e.broker.mids x

pub record IsEnded (n : Names) (e : Ended) : Type 0 where
  pub servers : length e.servers ≡ n.setup.servers
  pub each_server : AreServerParts n e.servers
  pub controllers : length e.controllers ≡ n.setup.controllers
  pub each_controller : AreControllerParts n e.controllers
  pub repairer : IsRepairerPart n e.repairer
  pub producer : IsProducerPart n e.producer
  pub broker : IsBrokerPart n e.broker
  pub met : All (HasMet e.met) (fronts_of e)
  pub ground : IsGround n e.met
  pub linked : AreLinked e
  pub given : GivesMore (given_by e.broker.fed) (gave_by e.servers)
  pub few : length n.rows < 2 ^ 63
