-- The servers' part of a round leads on, and plans no fault of the deep store.
use Rattle.std.proofs.Common.{◌≡◌, ◌⊎◌, inl, inr, ℕ, zero, suc, ◌+◌, Bool, true, false, List, [], ◌∷◌, ◌++◌, Option, Some, None, Result, Ok, Err, refl, sym, ◌∙◌, ap, subst, slice_get}
use Rattle.rt_base.specs.declared.numbers.Instance.{Instance}
use Rattle.rt_commit.specs.Told.{ToldDeep}
use Rattle.rt_events.specs.Fits.{Fits as IsFitting}
use Rattle.rt_events.specs.declared.event.Event.{Event}
use Rattle.rt_events.specs.declared.event.Event.TheVariants.{Download, See, Transit}
use Rattle.rt_events.specs.declared.outcome.Outcome.{Outcome}
use Rattle.rt_events.specs.declared.refusal.Refusal.{Refusal}
use Rattle.rt_events.specs.declared.refusal.Refusal.TheVariants.{NoSuchMessage, NoSuchNode, NodeDown, NothingToDo, Limit, Memory}
use Rattle.rt_macros.specs.Doing.{after, Act, Attempted, AttemptedBy, Choose, Each, EachFrom, Gives, Happens, HappensBy, Passed, Reached, Then}
use Rattle.rt_macros.specs.Settling.{Downloads, DownloadTurn, SegmentAt, ServersTurn, ServerTurn, Transits, TransitsAndDownloads, TransitTurn}
use Rattle.rt_nodes.specs.Refused.{OnlyGot}
use Rattle.rt_nodes.specs.declared.server_node.ServerNode.{ServerNode}
use Rattle.rt_nodes.proofs.Looks.{downloads_looks}
use Rattle.rt_safety.proofs.Runs.{leads_add, leads_safe}
use Rattle.rt_safety.specs.Runs.{happens, Leads, Turn}
use Rattle.rt_state.specs.Finding.{is_server_up}
use Rattle.rt_state.specs.IsSafeWorld.{IsSafeWorld}
use Rattle.rt_state.specs.Nodes.{ServerCallsAt, ServerGetsAt}
use Rattle.rt_state.specs.Servers.{NodeLoads, NodeMoves, NodeSees}
use Rattle.rt_state.specs.declared.state.State.{State}
use Rattle.rt_world.specs.Reading.{due_transits_of, wanted_in}
use Rattle.rt_world.specs.Step.{Steps}
use Rattle.rt_heal.proofs.Quiet.{then_parts, told_not, told_same, IsThen}
use Rattle.rt_heal.proofs.Seeing.{plan_met}
use Rattle.rt_calm.proofs.Keeping.{leads_then}

-- turns lead on, with the same setup
pub record HasServed (w v : State) : Type 0 where
  pub led : (turns : List Turn) × Leads w turns v
  pub setup : v.setup ≡ w.setup
  pub fetches : w.deep.faults.plan ≡ [] → v.deep.faults.plan ≡ []

served_same : (w v : State) → v ≡ w → HasServed w v
served_same w v same =
    record {
      led = ([], same);
      setup = ap (λ (x : State). x.setup) same;
      fetches = λ none. ap (λ (x : State). x.deep.faults.plan) same ∙ none;
    }

served_then : (w m v : State) → HasServed w m → HasServed m v → HasServed w v
served_then w m v x y =
    record {
      led = (x.led.0 ++ y.led.0, leads_then w m v x.led.0 y.led.0 x.led.1 y.led.1);
      setup = y.setup ∙ x.setup;
      fetches = λ none. y.fetches (x.fetches none);
    }

served_by : (w y : State) (e : Event) (o : Outcome) → IsSafeWorld w → IsFitting w.setup.schema e → Steps w e y (Ok o)
    → (w.deep.faults.plan ≡ [] → y.deep.faults.plan ≡ []) → HasServed w y
served_by w y e o safe fits step fetches =
    let one : Leads w (happens e o ∷ []) y = (y, (fits, step), refl) in
    record { led = (happens e o ∷ [], one); setup = (leads_add w (happens e o ∷ []) y safe one).goes.setup; fetches = fetches }

-- ---- acts

-- an event that is attempted is refused as nothing to do, or happens
pub attempt_does : (e : Event) (busy : Bool) (w : State) (v : Reached) (told : Bool) → Attempted e busy w v (Ok told)
    → ((v.world ≡ w) × (told ≡ busy)) ⊎ ((o : Outcome) × Steps w e v.world (Ok o))
attempt_does e busy w v told t = by_told t.between t.told t.last t.came.by t.further t.whole
  where
    by_told : (b : Reached) (r : Result Outcome Refusal) (l : Reached) → HappensBy e w b r → AttemptedBy busy r b.world l (Ok told) → v ≡ after b.turns l
        → ((v.world ≡ w) × (told ≡ busy)) ⊎ ((o : Outcome) × Steps w e v.world (Ok o))
    by_told b (Ok o) l by further whole =
        inr (o, subst (λ (x : State). Steps w e x (Ok o)) (sym (ap (λ (z : Reached). z.world) whole ∙ ap (λ (z : Reached). z.world) further.0)) by.0)
    by_told b (Err NothingToDo) l by further whole =
        inl (
          ap (λ (z : Reached). z.world) whole ∙ ap (λ (z : Reached). z.world) further.0 ∙ ap (λ (z : Reached). z.world) by.1,
          told_same told busy further.1,
        )
    by_told b (Err NoSuchMessage) l by further whole = absurd (told_not told NoSuchMessage further.1)
    by_told b (Err NoSuchNode) l by further whole = absurd (told_not told NoSuchNode further.1)
    by_told b (Err NodeDown) l by further whole = absurd (told_not told NodeDown further.1)
    by_told b (Err (Limit which)) l by further whole = absurd (told_not told (Limit which) further.1)
    by_told b (Err Memory) l by further whole = absurd (told_not told Memory further.1)

abbrev Serves : {A : Type 0} → Act A → Type 0
Serves {A} act = (w : State) (v : Reached) (told : A) → IsSafeWorld w → act w v (Ok told) → HasServed w v.world

-- one act behind another
both_serve : {A B : Type 0} (first : Act A) (behind : A → Act B) → Serves first → ((x : A) → Serves (behind x)) → (w : State) (v : Reached) (told : B)
    → IsSafeWorld w → IsThen first behind w v told → HasServed w v.world
both_serve first behind f g w v told safe t =
    let x = f w t.between t.told safe t.came in
    let y = g t.told t.between.world t.last told (leads_safe w x.led.0 t.between.world safe x.led.1) t.further in
    subst (HasServed w) (sym (ap (λ (z : Reached). z.world) t.whole)) (served_then w t.between.world t.last.world x y)

each_serves : {X : Type 0} (act : X → Bool → Act Bool) → ((x : X) (busy : Bool) → Serves (act x busy)) → (xs : List X) (busy : Bool) → Serves (Each act xs busy)
each_serves act f [] busy w v told safe h = served_same w v.world (ap (λ (z : Reached). z.world) h.0)
each_serves act f (x ∷ xs) busy w v told safe h =
    both_serve (act x busy) (Each act xs) (f x busy) (each_serves act f xs) w v told safe (then_parts (act x busy) (Each act xs) w v told h)

from_serves : (act : ℕ → Bool → Act Bool) → ((i : ℕ) (busy : Bool) → Serves (act i busy)) → (first count : ℕ) (busy : Bool) → Serves (EachFrom act first count busy)
from_serves act f first zero busy w v told safe h = served_same w v.world (ap (λ (z : Reached). z.world) h.0)
from_serves act f first (suc count) busy w v told safe h =
    both_serve (act first busy) (EachFrom act (first + 1) count) (f first busy) (from_serves act f (first + 1) count) w v told safe
    (then_parts (act first busy) (EachFrom act (first + 1) count) w v told h)

attempt_serves : (e : Event) (busy : Bool) → ((w : State) → IsFitting w.setup.schema e)
    → ((w y : State) (o : Outcome) → Steps w e y (Ok o) → w.deep.faults.plan ≡ [] → y.deep.faults.plan ≡ []) → Serves (Attempted e busy)
attempt_serves e busy fits fetches w v told safe h = by_way (attempt_does e busy w v told h)
  where
    by_way : ((v.world ≡ w) × (told ≡ busy)) ⊎ ((o : Outcome) × Steps w e v.world (Ok o)) → HasServed w v.world
    by_way (inl same) = served_same w v.world same.0
    by_way (inr (o, step)) = served_by w v.world e o safe (fits w) step (λ none. fetches w v.world o step none)

-- ---- the events of a server's turn

see_fetches : (i : Instance) (w y : State) (o : Outcome) → Steps w (See i) y (Ok o) → w.deep.faults.plan ≡ [] → y.deep.faults.plan ≡ []
see_fetches i w y o (cost, due, h) none = by_node (slice_get w.servers i.0) h
  where
    by_node : (n : Option ServerNode) → ServerCallsAt n w i NodeSees cost (y, o) → y.deep.faults.plan ≡ []
    by_node None h = absurd h
    by_node (Some n) (new, store, does, is) = ap (λ (x : State). x.deep.faults.plan) is ∙ none

transit_fetches : (i : Instance) (s : SegmentAt) (w y : State) (o : Outcome) → Steps w (Transit i s.0 s.1) y (Ok o) → w.deep.faults.plan ≡ []
    → y.deep.faults.plan ≡ []
transit_fetches i s w y o (cost, due, h) none = by_node (slice_get w.servers i.0) h
  where
    by_node : (n : Option ServerNode) → ServerCallsAt n w i (NodeMoves s.0 s.1 w.moment) cost (y, o) → y.deep.faults.plan ≡ []
    by_node None h = absurd h
    by_node (Some n) (new, store, does, is) = ap (λ (x : State). x.deep.faults.plan) is ∙ none

download_fetches : (i : Instance) (s : SegmentAt) (w y : State) (o : Outcome) → Steps w (Download i s.0 s.1) y (Ok o) → w.deep.faults.plan ≡ []
    → y.deep.faults.plan ≡ []
download_fetches i s w y o (cost, due, h) none = by_node (slice_get w.servers i.0) h
  where
    got : (u : ToldDeep) → OnlyGot w.deep u → u.faults.plan ≡ []
    got u (inl same) = ap (λ (x : ToldDeep). x.faults.plan) same ∙ none
    got u (inr met) = ap (λ (x : ToldDeep). x.faults.plan) met ∙ plan_met w.deep.faults none

    by_node : (n : Option ServerNode) → ServerGetsAt n w i (NodeLoads s.0 s.1) cost (y, o) → y.deep.faults.plan ≡ []
    by_node None h = absurd h
    by_node (Some n) (new, deep, (result, loads, within, told, up), is) =
        ap (λ (x : State). x.deep.faults.plan) is
        ∙ got deep (downloads_looks w.deep deep n.server.setup.schema n.server.table new.server.table s.0 s.1 result loads)

see_serves : (i : Instance) → Serves (Passed (See i))
see_serves i w v told safe h =
    let t = then_parts (Happens (See i)) (λ outcome. Gives tt) w v told h in
    let end : v.world ≡ t.between.world = ap (λ (z : Reached). z.world) t.whole ∙ ap (λ (z : Reached). z.world) t.further.0 in
    subst (HasServed w) (sym end)
    (served_by w t.between.world (See i) t.told safe tt t.came.by.0 (λ none. see_fetches i w t.between.world t.told t.came.by.0 none))

moves_serve : (i : Instance) (busy : Bool) → Serves (TransitsAndDownloads i busy)
moves_serve i busy w v told safe h =
    both_serve (Transits i busy) (Downloads i)
    (λ y u x s g. each_serves (TransitTurn i) (λ p b. attempt_serves (Transit i p.0 p.1) b (λ z. tt) (transit_fetches i p)) (due_transits_of y i) busy y u x s g)
    (λ b y u x s g. each_serves (DownloadTurn i) (λ p c. attempt_serves (Download i p.0 p.1) c (λ z. tt) (download_fetches i p)) (wanted_in y i) b y u x s g) w
    v told safe (then_parts (Transits i busy) (Downloads i) w v told h)

server_serves : (i : ℕ) (busy : Bool) → Serves (ServerTurn i busy)
server_serves i busy w v told safe h = by_up (is_server_up w (record { 0 = i })) h
  where
    by_up : (b : Bool)
        → Choose b (Then (Passed (See (record { 0 = i }))) (λ done. TransitsAndDownloads (record { 0 = i }) busy) w) (Gives busy w) v (Ok told)
        → HasServed w v.world
    by_up true g =
        both_serve (Passed (See (record { 0 = i }))) (λ done. TransitsAndDownloads (record { 0 = i }) busy) (see_serves (record { 0 = i }))
        (λ done. moves_serve (record { 0 = i }) busy) w v told safe
        (then_parts (Passed (See (record { 0 = i }))) (λ done. TransitsAndDownloads (record { 0 = i }) busy) w v told g)
    by_up false g = served_same w v.world (ap (λ (z : Reached). z.world) g.0)

pub servers_serve : (w : State) (v : Reached) (told : Bool) → IsSafeWorld w → ServersTurn false w v (Ok told) → HasServed w v.world
servers_serve w v told safe h = from_serves ServerTurn server_serves 0 w.setup.servers false w v told safe h
