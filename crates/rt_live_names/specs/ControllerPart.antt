-- What a controller of a running cluster can say by itself: of what its fronts have seen, what it took and what it answered.
use Rattle.std.specs.Prelude.{◌≡◌, ℕ, List, [], All}
use Rattle.rt_commit.specs.Own.{IsOwnNode}
use Rattle.rt_deep.specs.declared.deep_put.DeepPut.{DeepPut}
use Rattle.rt_lists.specs.Members.{Has}
use Rattle.rt_model.specs.declared.reply.Reply.{Reply}
use Rattle.rt_model.specs.declared.request.Request.{Request}
use Rattle.rt_model.specs.declared.request.RequestKind.TheVariants as kind
use Rattle.rt_past.specs.Past.{Past}
use Rattle.rt_past.specs.Replies.{IsReply}
use Rattle.rt_past.specs.View.{IsView}
use Rattle.rt_live_names.specs.Fronts.{Fronts, AreOfCaller, controller_caller, own_files, own_messages, own_writes, viewed}
use Rattle.rt_live_names.specs.Names.{Names}

pub record ControllerPart : Type 0 where
  pub number : ℕ
  pub fronts : Fronts
  -- what it took and what it answered, each in its order
  pub requests : List Request
  pub replies : List Reply

abbrev pub controller_view : Names → ControllerPart → Past
controller_view n a = viewed n.setup a.fronts a.requests a.replies

-- one of these requests uploads the file
pub record IsTaken (requests : List Request) (f : DeepPut) : Type 0 where
  pub request : Request
  pub taken : Has requests request
  pub uploads : request.kind ≡ kind.Upload f.path f.bytes

pub record IsControllerPart (n : Names) (a : ControllerPart) : Type 0 where
  pub caller : AreOfCaller (controller_caller n.setup a.number) a.fronts
  pub view : IsView n.setup (controller_view n a)
  -- Done metadata that it wrote names a file that it read
  pub writes : All (λ w. IsOwnNode (controller_view n a).files w.key w.node) (own_writes a.fronts)
  -- what it put it took
  pub puts : All (IsTaken a.requests) (own_files a.fronts)
  -- what it answered it saw
  pub replies : All (IsReply (controller_view n a)) a.replies
  pub appends : own_messages a.fronts ≡ []
