-- A controller's node: what it took and posted is what it did.
use Rattle.std.specs.Prelude.{◌≡◌, ℕ, nat_lt, if◌then◌else◌, List, [], ◌∷◌, ◌++◌, map, Option, Some, None, IfSome}
use Rattle.rt_link.specs.Ends.{Sending, Taking, taking}
use Rattle.rt_link.specs.declared.envelope.Envelope.{Envelope}
use Rattle.rt_link.specs.declared.envelope.Envelope.TheVariants.{Asks, Replies}
use Rattle.rt_lists.specs.Members.{Has}
use Rattle.rt_controller.specs.Controller.{Controlling}
use Rattle.rt_live_names.specs.Fronts.{Fronts, controller_line, server_line}
use Rattle.rt_live_names.specs.Names.{Names}
use Rattle.rt_live_names.specs.Sending.{ArePosts, PostsNow, Sends}
use Rattle.rt_live_output.specs.declared.journal.Heard.{Heard}
use Rattle.rt_model.specs.declared.reply.Reply.{Reply}
use Rattle.rt_model.specs.declared.request.Request.{Request}
use Rattle.rt_live_controller.specs.Acting.{ControllerActs, IsActing}
use Rattle.rt_live_controller.specs.Did.{all_in, ended_in, envelopes_of, heard_in, line_from, lines_of}
use Rattle.rt_live_controller.specs.Did.{replies_of, requests_of}
use Rattle.rt_live_controller.specs.declared.controller_did.ControllerDid.{ControllerDid}
use Rattle.rt_live_controller.specs.declared.controller_did.ControllerDid.TheVariants.{Believed}
use Rattle.rt_live_controller.specs.declared.heard_journal.HeardJournal.{HeardJournal}

pub record ControllerSeatNow : Type 0 where
  pub acts : ControllerActs
  pub inbox : Taking
  pub posts : PostsNow
  pub journal : Option HeardJournal

-- the inbox of a controller, from which so much was taken
abbrev pub IsInbox : Names → ℕ → Taking → Type 0
IsInbox n number inbox = inbox ≡ taking (n.lines (controller_line n.setup number)) 1024 n.setup.servers inbox.taken []

abbrev pub taken_in : Taking → List Envelope
taken_in inbox = map (λ x. x.envelope) inbox.taken

abbrev pub AreItsPosts : Names → ControllerActs → List Sending → Type 0
AreItsPosts n a posts = ArePosts n a.number server_line (map Replies (replies_of a.did)) posts

-- a journal has all that was heard, and all jobs that ended
pub record IsJournal (did : List ControllerDid) (j : HeardJournal) : Type 0 where
  pub heard : j.heard.items ≡ all_in heard_in did
  pub ended : j.ended.items ≡ all_in ended_in did

-- what a controller has done at first: of these, the first so many are told that they lead
abbrev pub first_did : ℕ → ℕ → List ControllerDid
first_did number leaders = if nat_lt number leaders then Believed ∷ [] else []

pub record IsControllerSeat (n : Names) (a : ControllerSeatNow) : Type 0 where
  pub inbox : IsInbox n a.acts.number a.inbox
  -- it took the envelopes of its requests, and those that it passed by
  pub took : taken_in a.inbox ≡ envelopes_of a.acts.did
  -- what its posts accepted is among what it answered
  pub posted : AreItsPosts n a.acts a.posts.posts
  pub journal : IfSome a.journal (IsJournal a.acts.did)

-- the answer, where there is one, is posted to the server that asked
abbrev pub Answers : PostsNow → PostsNow → Option Reply → Type 0
Answers old new None = new ≡ old
Answers old new (Some reply) = Sends old new reply.number.instance.0 (Replies reply)

-- a journal that is kept notes one thing more, or is lost
abbrev pub NotesInto : ControllerDid → HeardJournal → Option HeardJournal → Type 0
NotesInto did old None = Unit {0}
NotesInto did old (Some new) =
    (new.heard.items ≡ old.heard.items ++ heard_in did) × (new.ended.items ≡ old.ended.items ++ ended_in did)

abbrev pub Journals : ControllerDid → Option HeardJournal → Option HeardJournal → Type 0
Journals did None new = new ≡ None
Journals did (Some old) new = NotesInto did old new

-- ---- when it has ended

-- the lines of a journal, where they are shown
abbrev pub IsShown : Option HeardJournal → Option (List Heard) → Type 0
IsShown None shown = shown ≡ None
IsShown (Some j) None = Unit {0}
IsShown (Some j) (Some lines) = lines ≡ map (line_from j.ended.items) j.heard.items

-- a controller that has ended, from its parts
abbrev pub acts_in : ℕ → Controlling → Fronts → List ControllerDid → ControllerActs
acts_in number c f did = record { number = number; controller = c; fronts = f; did = did }

pub record IsControllerEnded (n : Names) (a : ControllerActs) (takes : Taking) (posts : List Sending)
    (shown : Option (List Heard)) : Type 0 where
  pub acts : IsActing n a
  pub inbox : IsInbox n a.number takes
  pub took : taken_in takes ≡ envelopes_of a.did
  -- each request of its part came in an envelope that it took
  pub asked : (r : Request) → Has (requests_of a.did) r → Has (taken_in takes) (Asks r)
  pub posted : AreItsPosts n a posts
  -- what a journal shows is what it did
  pub heard : IfSome shown (λ lines. lines ≡ lines_of a.did)
