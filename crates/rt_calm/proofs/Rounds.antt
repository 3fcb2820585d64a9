-- A round puts a replica off, or leaves less ahead if anything happened in it.
use Rattle.std.proofs.Common.{◌≡◌, ◌⊎◌, inl, inr, ℕ, zero, suc, ◌+◌, ◌<◌, ◌≤◌, Bool, true, false, not, List, [], ◌∷◌, Option, Some, None, Result, Ok, Err, refl, sym, ◌∙◌, ap, subst, arith, length, slice_get}
use Rattle.std.specs.Prelude.{◌==◌, ◌||◌, nat_lt}
use Rattle.std.proofs.lemmas.Bool.{and_parts, false≢true}
use Rattle.std.proofs.lemmas.List.{append-nil}
use Rattle.rt_base.specs.declared.numbers.ControllerId.{ControllerId}
use Rattle.rt_base.specs.declared.numbers.Instance.{Instance}
use Rattle.rt_base.specs.declared.numbers.Partition.{Partition}
use Rattle.rt_base.specs.declared.numbers.Sequence.{Sequence}
use Rattle.rt_commit.specs.Told.{ToldDeep}
use Rattle.rt_consumer.specs.declared.consumer.Consumer.{Consumer}
use Rattle.rt_consumer.specs.declared.phase.Phase.{Phase}
use Rattle.rt_consumer.specs.declared.phase.Phase.TheVariants as phase
use Rattle.rt_consumer.specs.declared.stage.Stage.{Stage}
use Rattle.rt_consumer.specs.declared.stage.Stage.TheVariants.{Building, CatchingUp, ConsumingToOnline, Ending, Holding, InitialConsuming, Retaining, Starting, Uploading}
use Rattle.rt_controller.specs.declared.segment_machine.SegmentMachine.{SegmentMachine}
use Rattle.rt_entry.specs.declared.entry.Entry.{Entry}
use Rattle.rt_entry.specs.declared.entry.Entry.TheVariants.{Committed, Replica}
use Rattle.rt_events.specs.Fits.{Fits as IsFitting}
use Rattle.rt_events.specs.declared.event.Event.{Event}
use Rattle.rt_events.specs.declared.event.Event.TheVariants.{Build, Consume, Report}
use Rattle.rt_events.specs.declared.outcome.Outcome.{Outcome}
use Rattle.rt_events.specs.declared.refusal.Refusal.{Refusal}
use Rattle.rt_events.specs.declared.refusal.Refusal.TheVariants.{Limit, Memory, NodeDown, NoSuchMessage, NoSuchNode, NothingToDo}
use Rattle.rt_macros.specs.Doing.{after, stays, Act, Attempted, Choose, Each, EachFrom, Gives, HappensBy, Reached, Refuses}
use Rattle.rt_macros.specs.Exchanging.{AfterReport}
use Rattle.rt_macros.specs.Settling.{may_consume, waits_in, AfterRequest, AfterRound, BuildAndExchange, BuildTurn, ConsumeTurn, ExchangeTurn, ReplicasHeld, ReplicasOfAll, ReplicasTurn, ReplicaTurn, Requests, Round, SegmentAt, ServersTurn, Settles, SettlesIn, WithLeader}
use Rattle.rt_macros.specs.declared.settling.TheConstants.{BATCH, MOST_ROUNDS}
use Rattle.rt_model.specs.Completion.{Completion}
use Rattle.rt_model.specs.Entries.{entries_of}
use Rattle.rt_model.specs.Setup.{IsSetup}
use Rattle.rt_model.specs.declared.ideal_state.IdealEntry.{IdealEntry}
use Rattle.rt_model.specs.declared.node.Seen.{Seen}
use Rattle.rt_model.specs.declared.setup.Setup.{Setup}
use Rattle.rt_nodes.specs.declared.controller_node.ControllerNode.{ControllerNode}
use Rattle.rt_nodes.specs.declared.server_node.ServerNode.{ServerNode}
use Rattle.rt_safety.specs.Runs.{Runs, Turn}
use Rattle.rt_safety.proofs.Later.{runs_are_safe}
use Rattle.rt_server.specs.Table.{segment_of, Segment, ServerState}
use Rattle.rt_state.specs.Finding.{is_server_up}
use Rattle.rt_state.specs.Nodes.{ServerDoesAt, ServerFetchesAt}
use Rattle.rt_state.specs.Replicas.{NodeBuilds, NodeConsumes}
use Rattle.rt_state.specs.declared.state.State.{State}
use Rattle.rt_store.specs.Meaning.{Told}
use Rattle.rt_stream.specs.Log.{messages_of, Log}
use Rattle.rt_world.specs.Reading.{held_in, is_ready_at, leader_in}
use Rattle.rt_world.specs.Step.{due_of, Steps}
use Rattle.rt_heal.specs.AtRest.{AreUp}
use Rattle.rt_heal.specs.Calm.{AreAllCalm}
use Rattle.rt_heal.proofs.Calming.{servers_calmed, HasCalmed}
use Rattle.rt_heal.proofs.Dropped.{runs_told, IsToldRightly}
use Rattle.rt_heal.proofs.LessRounds.{servers_rest, states, HasRested, IsSteady}
use Rattle.rt_heal.proofs.LessWorld.{builds_less, builds_made, consumes_less, consumes_made, LeavesLess}
use Rattle.rt_heal.proofs.Most.{asked_sum, calm_sum, own_segment, servers_sum, table_sum}
use Rattle.rt_heal.proofs.Nothing.{nothing}
use Rattle.rt_heal.proofs.Quiet.{then_parts, told_not, told_same, IsThen}
use Rattle.rt_heal.proofs.Seeing.{same_leader}
use Rattle.rt_calm.specs.Again.{again_servers, again_table, ahead_still, asked_machines, machine_of, machines_by, stray_again, IsLeading}
use Rattle.rt_calm.specs.Ahead.{ahead_at, ahead_entry, ahead_in, ahead_in_world, ahead_of, ahead_servers, ahead_table, most_ahead, most_ahead_of, stop_ahead}
use Rattle.rt_calm.specs.Off.{IsPutOff, IsSuccess, PutsOff, Succeeds, Waits}
use Rattle.rt_calm.specs.Spent.{most_yet, writes_left, Spends}
use Rattle.rt_calm.proofs.Exchanged.{exchanged_before, exchanged_behind, finishes, told_behind, told_first, waits_behind, waits_first, HasExchanged, HasFinished, OffOrLess, Wrote}
use Rattle.rt_calm.proofs.Keeping.{can_follow, keeps_still, keeps_then, middle_same, step_keeps, IsGoing, KeepsOn}
use Rattle.rt_calm.proofs.Leading.{leader_there, leads_still}
use Rattle.rt_calm.proofs.Machines.{still_turned}
use Rattle.rt_calm.proofs.Serving.{attempt_does, servers_serve, HasServed}
use Rattle.rt_calm.proofs.Settling.{settling_in_run, still_settling, IsSettling}
use Rattle.rt_calm.proofs.Sharing.{servers_put}
use Rattle.rt_calm.proofs.Standing.{batch_falls, build_falls}
use Rattle.rt_calm.proofs.Straying.{batch_stray, build_stray}
use Rattle.rt_calm.proofs.Sums.{put_falls, HasPut}

-- less lies ahead if it is told that something happened and wasn't before; and a history that grew goes with a success
pub record HasFallen (w : State) (busy : Bool) (v : Reached) (told : Bool) : Type 0 where
  pub on : KeepsOn w v.world
  pub less : told ≡ true → (busy ≡ true) ⊎ (ahead_in_world v.world < ahead_in_world w)
  pub wrote : (v.world.store.writes ≡ w.store.writes) ⊎ Succeeds v

-- a replica is put off, or it has fallen so
abbrev pub OffOrFallen : State → Bool → Reached → Bool → Type 0
OffOrFallen w busy v told = PutsOff v ⊎ HasFallen w busy v told

-- of what is counted no more is left, and less if it is told that something happened and wasn't before
abbrev pub Lessens : (State → ℕ) → State → Bool → State → Bool → Type 0
Lessens count w busy v told = (count v ≤ count w) × (told ≡ true → (busy ≡ true) ⊎ (count v < count w))

-- it has gone on so: a replica is put off, or no more lies ahead; and where nothing was written, one is told HOLD or NOT_LEADER, or no more
-- lies ahead and may lie ahead again
pub record HasGone (w : State) (busy : Bool) (v : Reached) (told : Bool) : Type 0 where
  pub on : KeepsOn w v.world
  pub less : PutsOff v ⊎ Lessens ahead_in_world w busy v.world told
  pub wrote : Wrote w v
  pub spends : Spends w.setup w.log w.store.writes v.world.store.writes
  pub still : IsSettling w → v.world.store.writes ≡ w.store.writes → Waits w v ⊎ Lessens ahead_still w busy v.world told

abbrev pub Goes : (Bool → Act Bool) → Type 0
Goes act = (busy : Bool) (w : State) (v : Reached) (told : Bool) → IsGoing w → act busy w v (Ok told) → HasGone w busy v told

pub fallen : (w : State) (busy : Bool) (v : Reached) (told : Bool) → HasGone w busy v told → OffOrFallen w busy v told
fallen w busy v told x = by_both x.less x.wrote
  where
    fell : Lessens ahead_in_world w busy v.world told → (v.world.store.writes ≡ w.store.writes) ⊎ Succeeds v → OffOrFallen w busy v told
    fell less wrote = inr (record { on = x.on; less = less.1; wrote = wrote })

    by_both : PutsOff v ⊎ Lessens ahead_in_world w busy v.world told → Wrote w v → OffOrFallen w busy v told
    by_both (inl off) wrote = inl off
    by_both (inr less) (inl same) = fell less (inl same)
    by_both (inr less) (inr (inl off)) = inl off
    by_both (inr less) (inr (inr done)) = fell less (inr done)

-- nothing happened
lessens_still : (count : State → ℕ) (w : State) (busy : Bool) (v : State) (told : Bool) → v ≡ w → told ≡ busy → Lessens count w busy v told
lessens_still count w busy v told same e = (omega (arith, ap count same), λ t. inl (sym e ∙ t))

nothing_went : (w : State) (busy : Bool) (v : Reached) (told : Bool) → IsGoing w → v.world ≡ w → told ≡ busy → HasGone w busy v told
nothing_went w busy v told k same e =
    record {
      on = subst (KeepsOn w) (sym same) (keeps_still w k);
      less = inr (lessens_still ahead_in_world w busy v.world told same e);
      wrote = inl (ap (λ (x : State). x.store.writes) same);
      spends = inl (ap (λ (x : State). x.store.writes) same);
      still = λ s unwritten. inr (lessens_still ahead_still w busy v.world told same e);
    }

rests : (w : State) (busy : Bool) (v : Reached) (told : Bool) → IsGoing w → v ≡ stays w → told ≡ busy → HasGone w busy v told
rests w busy v told k same e = nothing_went w busy v told k (ap (λ (x : Reached). x.world) same) e

-- something happened, by which less is left
lessens_by : (count : State → ℕ) (w : State) (busy : Bool) (v : State) (told : Bool) → count v < count w → Lessens count w busy v told
lessens_by count w busy v told lt = (omega (arith, lt), λ t. inr lt)

-- what is spent adds up
pub spends_then : (w b v : State) → b.setup ≡ w.setup → b.log ≡ w.log → Spends w.setup w.log w.store.writes b.store.writes
    → Spends b.setup b.log b.store.writes v.store.writes → Spends w.setup w.log w.store.writes v.store.writes
spends_then w b v setup log first second =
    by_both first
    (subst (λ (s : Setup). Spends s w.log b.store.writes v.store.writes) setup
    (subst (λ (l : Log). Spends b.setup l b.store.writes v.store.writes) log second))
  where
    by_both : Spends w.setup w.log w.store.writes b.store.writes → Spends w.setup w.log b.store.writes v.store.writes
        → Spends w.setup w.log w.store.writes v.store.writes
    by_both (inl same) (inl again) = inl (again ∙ same)
    by_both (inl same) (inr less) = inr (subst (λ (h : List Seen). (writes_left w.setup w.log v.store.writes < writes_left w.setup w.log h) × (most_yet w.setup w.log v.store.writes ≤ most_yet w.setup w.log h)) same less)
    by_both (inr less) (inl again) = subst (λ (h : List Seen). Spends w.setup w.log w.store.writes h) (sym again) (inr less)
    by_both (inr less) (inr more) = inr (omega (arith, less.0, more.0), omega (arith, less.1, more.1))

lessens_then : (count : State → ℕ) (w b v : State) (busy mid told : Bool) → Lessens count w busy b mid → Lessens count b mid v told → Lessens count w busy v told
lessens_then count w b v busy mid told x y = (omega (arith, x.0, y.0), λ t. by_second (y.1 t))
  where
    by_first : (busy ≡ true) ⊎ (count b < count w) → (busy ≡ true) ⊎ (count v < count w)
    by_first (inl e) = inl e
    by_first (inr lt) = inr (omega (arith, lt, y.0))

    by_second : (mid ≡ true) ⊎ (count v < count b) → (busy ≡ true) ⊎ (count v < count w)
    by_second (inl e) = by_first (x.1 e)
    by_second (inr lt) = inr (omega (arith, lt, x.0))

pub then_goes : (w : State) (b l v : Reached) (busy mid told : Bool) → v ≡ after b.turns l → HasGone w busy b mid → HasGone b.world mid l told
    → HasGone w busy v told
then_goes w b l v busy mid told whole x y =
    record {
      on = subst (KeepsOn w) (sym at) (keeps_then w b.world l.world x.on y.on);
      less = by_less x.less y.less;
      wrote = by_wrote x.wrote y.wrote;
      spends = spends_then w b.world v.world x.on.setup x.on.log x.spends (subst (λ (z : State). Spends b.world.setup b.world.log b.world.store.writes z.store.writes) (sym at) y.spends);
      still = λ s same. by_still s same;
    }
  where
    at : v.world ≡ l.world
    at = ap (λ (z : Reached). z.world) whole

    both : (count : State → ℕ) → Lessens count w busy b.world mid → Lessens count b.world mid l.world told → Lessens count w busy v.world told
    both count first second =
        subst (λ (z : State). Lessens count w busy z told) (sym at) (lessens_then count w b.world l.world busy mid told first second)

    by_less : PutsOff b ⊎ Lessens ahead_in_world w busy b.world mid → PutsOff l ⊎ Lessens ahead_in_world b.world mid l.world told
        → PutsOff v ⊎ Lessens ahead_in_world w busy v.world told
    by_less (inl off) second = inl (told_first IsPutOff b l v whole off)
    by_less (inr first) (inl off) = inl (told_behind IsPutOff b l v whole off)
    by_less (inr first) (inr second) = inr (both ahead_in_world first second)

    by_wrote : Wrote w b → Wrote b.world l → Wrote w v
    by_wrote (inr (inl off)) other = inr (inl (told_first IsPutOff b l v whole off))
    by_wrote (inr (inr done)) other = inr (inr (told_first IsSuccess b l v whole done))
    by_wrote (inl first) (inr (inl off)) = inr (inl (told_behind IsPutOff b l v whole off))
    by_wrote (inl first) (inr (inr done)) = inr (inr (told_behind IsSuccess b l v whole done))
    by_wrote (inl first) (inl second) = inl (ap (λ (z : State). z.store.writes) at ∙ second ∙ first)

    by_still : IsSettling w → v.world.store.writes ≡ w.store.writes → Waits w v ⊎ Lessens ahead_still w busy v.world told
    by_still s same = by_first (x.still s first_same)
      where
        last_same : l.world.store.writes ≡ w.store.writes
        last_same = ap (λ (z : State). z.store.writes) (sym at) ∙ same

        first_same : b.world.store.writes ≡ w.store.writes
        first_same = middle_same w.store.writes b.world.store.writes l.world.store.writes x.on.grows y.on.grows last_same

        by_second : Lessens ahead_still w busy b.world mid → Waits b.world l ⊎ Lessens ahead_still b.world mid l.world told
            → Waits w v ⊎ Lessens ahead_still w busy v.world told
        by_second first (inl waits) = inl (waits_behind w b.world b l v x.on.leads.leading whole waits)
        by_second first (inr second) = inr (both ahead_still first second)

        by_first : Waits w b ⊎ Lessens ahead_still w busy b.world mid → Waits w v ⊎ Lessens ahead_still w busy v.world told
        by_first (inl waits) = inl (waits_first w b l v whole waits)
        by_first (inr first) = by_second first (y.still (still_settling w b.world x.on first_same s) (last_same ∙ sym first_same))

-- ---- several turns

act_goes : (first behind act : Bool → Act Bool) → Goes first → Goes behind
    → ((busy : Bool) (w : State) (v : Reached) (told : Bool) → act busy w v (Ok told) → IsThen (first busy) behind w v told) → Goes act
act_goes first behind act f g parts busy w v told k h =
    let t = parts busy w v told h in
    let x = f busy w t.between t.told k t.came in
    then_goes w t.between t.last v busy t.told told t.whole x (g t.told t.between.world t.last told x.on.going t.further)

each_goes : {X : Type 0} (act : X → Bool → Act Bool) → ((x : X) → Goes (act x)) → (xs : List X) → Goes (Each act xs)
each_goes act f [] busy w v told k h = rests w busy v told k h.0 (told_same told busy h.1)
each_goes act f (x ∷ xs) busy w v told k h =
    act_goes (act x) (Each act xs) (Each act (x ∷ xs)) (f x) (each_goes act f xs) (λ b u z r g. then_parts (act x b) (Each act xs) u z r g) busy w v told k h

from_goes : (act : ℕ → Bool → Act Bool) → ((i : ℕ) → Goes (act i)) → (first count : ℕ) → Goes (EachFrom act first count)
from_goes act f first zero busy w v told k h = rests w busy v told k h.0 (told_same told busy h.1)
from_goes act f first (suc count) busy w v told k h =
    act_goes (act first) (EachFrom act (first + 1) count) (EachFrom act first (suc count)) (f first) (from_goes act f (first + 1) count)
    (λ b u z r g. then_parts (act first b) (EachFrom act (first + 1) count) u z r g) busy w v told k h

-- ---- an event

-- a step that writes nothing, and leaves less ahead, and no more that may lie ahead again
abbrev pub StepGoes : State → State → Type 0
StepGoes w y = KeepsOn w y × (ahead_in_world y < ahead_in_world w) × (y.store.writes ≡ w.store.writes) × (ahead_still y < ahead_still w)

-- nothing happened, or such a step
abbrev pub MayStep : State → Bool → State → Bool → Type 0
MayStep w busy v told = ((v ≡ w) × (told ≡ busy)) ⊎ StepGoes w v

no_step : (w : State) (busy : Bool) (v : Reached) (told : Bool) → v ≡ stays w → told ≡ busy → MayStep w busy v.world told
no_step w busy v told same e = inl (ap (λ (x : Reached). x.world) same, e)

attempt_steps : (e : Event) (busy : Bool) (w : State) (v : Reached) (told : Bool) → ((y : State) (o : Outcome) → Steps w e y (Ok o) → StepGoes w y)
    → Attempted e busy w v (Ok told) → MayStep w busy v.world told
attempt_steps e busy w v told step t = by_way (attempt_does e busy w v told t)
  where
    by_way : ((v.world ≡ w) × (told ≡ busy)) ⊎ ((o : Outcome) × Steps w e v.world (Ok o)) → MayStep w busy v.world told
    by_way (inl same) = inl same
    by_way (inr (o, steps)) = inr (step v.world o steps)

may_go : (w : State) (busy : Bool) (v : Reached) (told : Bool) → IsGoing w → MayStep w busy v.world told → HasGone w busy v told
may_go w busy v told k (inl same) = nothing_went w busy v told k same.0 same.1
may_go w busy v told k (inr x) =
    record {
      on = x.0;
      less = inr (lessens_by ahead_in_world w busy v.world told x.1);
      wrote = inl x.2;
      spends = inl x.2;
      still = λ s same. inr (lessens_by ahead_still w busy v.world told x.3);
    }

-- a replica that is put back with less ahead of it, and no more that may lie ahead again
module _ (w y : State) (k : IsGoing w) (i : Instance) (p : Partition) (q : Sequence) (n new : ServerNode) (r next : Consumer)
    (put : HasPut w y i.0 n new p q r next) (controllers : y.controllers ≡ w.controllers) (writes : y.store.writes ≡ w.store.writes)
    (less : ahead_of w.log next < ahead_of w.log r)
    (stray : (m : Option Completion) → stray_again m i.0 next.phase ≤ stray_again m i.0 r.phase) where
  abbrev machines_then : List SegmentMachine
  machines_then = asked_machines w

  again_put : again_servers w.store.writes machines_then 0 y.servers ≤ again_servers w.store.writes machines_then 0 w.servers
  again_put =
      let moved =
      servers_put w.store.writes machines_then machines_then i p q
      (record {
        machine = machine_of machines_then p q;
        left = machine_of machines_then p q;
        turned = still_turned machines_then p q;
        waits = λ j stage x other is. is;
        spent = omega arith;
      })
      0 i.0 w.servers n new r next (omega arith) put.there (k.safe.safe.servers i.0 n put.there).over.kept.ascending put.found put.table in
      omega (arith, moved, stray (machine_of machines_then p q), ap (again_servers w.store.writes machines_then 0) put.servers)

  pub still_put : ahead_still y < ahead_still w
  still_put =
      let machines : asked_machines y ≡ machines_then =
      ap (machines_by y.controllers) (same_leader y w controllers) ∙ ap (λ (cs : List ControllerNode). machines_by cs (leader_in w)) controllers in
      let now =
      ap (λ (g : List Seen). again_servers g (asked_machines y) 0 y.servers) writes
      ∙ ap (λ (ls : List SegmentMachine). again_servers w.store.writes ls 0 y.servers) machines in
      omega (arith, put_falls w y i.0 n new p q r next put less, again_put, now)

-- a step that leaves less to do keeps on
less_keeps : (w y : State) (e : Event) (o : Outcome) → IsGoing w → IsFitting w.setup.schema e → Steps w e y (Ok o) → LeavesLess w y → y.deep ≡ w.deep → KeepsOn w y
less_keeps w y e o k fits step l deep =
    step_keeps w y e o k fits step l.log (leads_still w y l.controllers) (λ none. ap (λ (t : Told). t.faults.plan) l.store ∙ none)
    (λ none. ap (λ (d : ToldDeep). d.faults.plan) deep ∙ none) l.up (λ same. l.calm)

consume_deep : (w y : State) (i : Instance) (p : Partition) (q : Sequence) (max : ℕ) (o : Outcome) → Steps w (Consume i p q max) y (Ok o) → y.deep ≡ w.deep
consume_deep w y i p q max o (cost, due, h) = by_node (slice_get w.servers i.0) h
  where
    by_node : (n : Option ServerNode) → ServerFetchesAt n w i (NodeConsumes p q max w.moment) cost (y, o) → y.deep ≡ w.deep
    by_node None h = absurd h
    by_node (Some n) (new, log, step, is) = ap (λ (x : State). x.deep) is

build_deep : (w y : State) (i : Instance) (p : Partition) (q : Sequence) (o : Outcome) → Steps w (Build i p q) y (Ok o) → y.deep ≡ w.deep
build_deep w y i p q o (cost, due, h) = by_node (slice_get w.servers i.0) h
  where
    by_node : (n : Option ServerNode) → ServerDoesAt n w i (NodeBuilds p q) cost (y, o) → y.deep ≡ w.deep
    by_node None h = absurd h
    by_node (Some n) (new, step, is) = ap (λ (x : State). x.deep) is

pub consume_steps : (paused : Bool) (i : Instance) (s : SegmentAt) (busy : Bool) (w : State) (v : Reached) (told : Bool) → IsGoing w
    → ConsumeTurn paused i s busy w v (Ok told) → MayStep w busy v.world told
consume_steps paused i s busy w v told k h = by_test (may_consume paused w i s) refl h
  where
    by_test : (b : Bool) → may_consume paused w i s ≡ b → Choose b (Attempted (Consume i s.0 s.1 BATCH) busy w) (Gives busy w) v (Ok told)
        → MayStep w busy v.world told
    by_test false e g = no_step w busy v told g.0 (told_same told busy g.1)
    by_test true e t =
        let ready = (and_parts (is_ready_at w i s.0 s.1) (not (waits_in w paused i s.0 s.1)) e).0 in
        attempt_steps (Consume i s.0 s.1 BATCH) busy w v told
        (λ y o step.
        let m = consumes_made w y i s.0 s.1 o k.safe (can_follow w k) BATCH (omega arith) ready step in
        let l = consumes_less w y i s.0 s.1 o k.safe (can_follow w k) BATCH (omega arith) ready step in
        let less = batch_falls m.replica w.log w.moment BATCH m.next m.is.phase m.follows m.made.0 m.made.1 in
        let put : HasPut w y i.0 m.node m.new s.0 s.1 m.replica m.next =
        record { there = m.there; found = m.found; table = m.table; servers = m.servers; log = m.log } in (
          less_keeps w y (Consume i s.0 s.1 BATCH) o k tt step l (consume_deep w y i s.0 s.1 BATCH o step),
          put_falls w y i.0 m.node m.new s.0 s.1 m.replica m.next put less,
          ap (λ (t : Told). t.writes) l.store,
          still_put w y k i s.0 s.1 m.node m.new m.replica m.next put m.controllers (ap (λ (t : Told). t.writes) l.store) less
              (λ c. omega (arith, batch_stray c i.0 m.replica m.next BATCH w.moment w.log m.made.0)),
        )) t

consume_goes : (paused : Bool) (i : Instance) (s : SegmentAt) → Goes (ConsumeTurn paused i s)
consume_goes paused i s busy w v told k h = may_go w busy v told k (consume_steps paused i s busy w v told k h)

pub build_steps : (i : Instance) (s : SegmentAt) (busy : Bool) (w : State) (v : Reached) (told : Bool) → IsGoing w → BuildTurn i s busy w v (Ok told)
    → MayStep w busy v.world told
build_steps i s busy w v told k t =
    attempt_steps (Build i s.0 s.1) busy w v told
    (λ y o step.
    let m = builds_made w y i s.0 s.1 o k.safe (can_follow w k) step in
    let l = builds_less w y i s.0 s.1 o k.safe (can_follow w k) step in
    let less = build_falls m.replica m.next w.log m.made in
    let put : HasPut w y i.0 m.node m.new s.0 s.1 m.replica m.next =
    record { there = m.there; found = m.found; table = m.table; servers = m.servers; log = m.log } in (
      less_keeps w y (Build i s.0 s.1) o k tt step l (build_deep w y i s.0 s.1 o step),
      put_falls w y i.0 m.node m.new s.0 s.1 m.replica m.next put less,
      ap (λ (t : Told). t.writes) l.store,
      still_put w y k i s.0 s.1 m.node m.new m.replica m.next put m.controllers (ap (λ (t : Told). t.writes) l.store) less
          (λ c. build_stray c i.0 m.replica m.next m.made),
    )) t

build_turn_goes : (i : Instance) (s : SegmentAt) → Goes (BuildTurn i s)
build_turn_goes i s busy w v told k t = may_go w busy v told k (build_steps i s busy w v told k t)

-- ---- an exchange

exchanged_goes : (w : State) (busy : Bool) (v : Reached) (told : Bool) → HasExchanged w v → HasGone w busy v told
exchanged_goes w busy v told x =
    record {
      on = x.on;
      less = by_less x.less;
      wrote = x.wrote;
      spends = x.spends;
      still = λ s same. by_still (x.still s same);
    }
  where
    by_less : OffOrLess w v → PutsOff v ⊎ Lessens ahead_in_world w busy v.world told
    by_less (inl off) = inl off
    by_less (inr less) = inr (lessens_by ahead_in_world w busy v.world told less)

    by_still : Waits w v ⊎ (ahead_still v.world < ahead_still w) → Waits w v ⊎ Lessens ahead_still w busy v.world told
    by_still (inl waits) = inl waits
    by_still (inr less) = inr (lessens_by ahead_still w busy v.world told less)

-- a request was sent and answered, and the answer taken
pub record HasMade (w : State) (i : Instance) (p : Partition) (q : Sequence) (v : Reached) : Type 0 where
  pub controller : ControllerId
  pub led : leader_in w ≡ Some controller
  pub sent : State
  pub outcome : Outcome
  pub steps : Steps w (Report i p q) sent (Ok outcome)
  pub last : Reached
  pub fin : HasFinished w sent i p q controller outcome last
  pub world : v.world ≡ last.world
  pub exchanged : HasExchanged w v

-- or there was nothing to ask
abbrev pub HasRequested : State → Instance → SegmentAt → Bool → Reached → Bool → Type 0
HasRequested w i s busy v told = ((v.world ≡ w) × (told ≡ busy) × (due_of w (Report i s.0 s.1) ≡ nothing)) ⊎ HasMade w i s.0 s.1 v

requested : (i : Instance) (s : SegmentAt) (c : ControllerId) (busy : Bool) (w : State) (v : Reached) (told : Bool) → IsGoing w → leader_in w ≡ Some c
    → Requests i s c busy w v (Ok told) → HasRequested w i s busy v told
requested i s c busy w v told k led t = by_told t.between t.told t.last t.came.by t.further t.whole
  where
    by_told : (b : Reached) (r : Result Outcome Refusal) (l : Reached) → HappensBy (Report i s.0 s.1) w b r → AfterRequest c busy r b.world l (Ok told)
        → v ≡ after b.turns l → HasRequested w i s busy v told
    by_told b (Ok o) l by further whole =
        let f = then_parts (AfterReport c o) (λ exchanged. Gives true) b.world l told further in
        let fin = finishes w b.world i s.0 s.1 c o f.between f.told k led by.0 f.came in
        let end : l ≡ after f.between.turns (stays f.between.world) = f.whole ∙ ap (after f.between.turns) f.further.0 in
        inr (record {
          controller = c;
          led = led;
          sent = b.world;
          outcome = o;
          steps = by.0;
          last = f.between;
          fin = fin;
          world = ap (λ (z : Reached). z.world) whole ∙ ap (λ (z : Reached). z.world) end;
          exchanged = exchanged_behind w b l v whole (exchanged_before w f.between l end fin.taken.exchanged);
        })
    by_told b (Err NothingToDo) l by further whole =
        inl (
          ap (λ (z : Reached). z.world) whole ∙ ap (λ (z : Reached). z.world) further.0 ∙ ap (λ (z : Reached). z.world) by.1,
          told_same told busy further.1,
          by.0,
        )
    by_told b (Err NoSuchMessage) l by further whole = absurd (told_not told NoSuchMessage further.1)
    by_told b (Err NoSuchNode) l by further whole = absurd (told_not told NoSuchNode further.1)
    by_told b (Err NodeDown) l by further whole = absurd (told_not told NodeDown further.1)
    by_told b (Err (Limit which)) l by further whole = absurd (told_not told (Limit which) further.1)
    by_told b (Err Memory) l by further whole = absurd (told_not told Memory further.1)

-- where a controller leads, replicas ask one
pub exchange_requests : (i : Instance) (s : SegmentAt) (busy : Bool) (w : State) (v : Reached) (told : Bool) → IsGoing w → IsLeading w
    → ExchangeTurn i s busy w v (Ok told) → HasRequested w i s busy v told
exchange_requests i s busy w v told k leading h =
    let there = leader_there w leading k.safe in
    requested i s there.0 busy w v told k there.1 (subst (λ (o : Option ControllerId). WithLeader i s o busy w v (Ok told)) there.1 h)

pub exchange_goes : (i : Instance) (s : SegmentAt) → Goes (ExchangeTurn i s)
exchange_goes i s busy w v told k h = by_leader (leader_in w) refl h
  where
    by_leader : (o : Option ControllerId) → leader_in w ≡ o → WithLeader i s o busy w v (Ok told) → HasGone w busy v told
    by_leader None led g = rests w busy v told k g.0 (told_same told busy g.1)
    by_leader (Some c) led g = by_way (requested i s c busy w v told k led g)
      where
        by_way : HasRequested w i s busy v told → HasGone w busy v told
        by_way (inl (same, e, due)) = nothing_went w busy v told k same e
        by_way (inr m) = exchanged_goes w busy v told m.exchanged

-- ---- replicas

replica_goes : (paused : Bool) (i : Instance) (s : SegmentAt) → Goes (ReplicaTurn paused i s)
replica_goes paused i s =
    act_goes (ConsumeTurn paused i s) (BuildAndExchange i s) (ReplicaTurn paused i s) (consume_goes paused i s)
    (act_goes (BuildTurn i s) (ExchangeTurn i s) (BuildAndExchange i s) (build_turn_goes i s) (exchange_goes i s)
    (λ busy w v told h. then_parts (BuildTurn i s busy) (ExchangeTurn i s) w v told h))
    (λ busy w v told h. then_parts (ConsumeTurn paused i s busy) (BuildAndExchange i s) w v told h)

held_go : (paused : Bool) (i : ℕ) → Goes (ReplicasTurn paused i)
held_go paused i busy w v told k h = by_up (is_server_up w (record { 0 = i })) h
  where
    by_up : (b : Bool) → Choose b (ReplicasHeld paused (record { 0 = i }) busy w) (Gives busy w) v (Ok told) → HasGone w busy v told
    by_up true g = each_goes (ReplicaTurn paused (record { 0 = i })) (replica_goes paused (record { 0 = i })) (held_in w (record { 0 = i })) busy w v told k g
    by_up false g = rests w busy v told k g.0 (told_same told busy g.1)

-- the second part of a round
pub replicas_go : (paused : Bool) → Goes (ReplicasOfAll paused)
replicas_go paused busy w v told k h = from_goes (ReplicasTurn paused) (held_go paused) 0 w.setup.servers busy w v told k h

pub replicas_fall : (paused : Bool) (busy : Bool) (w : State) (v : Reached) (told : Bool) → IsGoing w → ReplicasOfAll paused busy w v (Ok told) → OffOrFallen w busy v told
replicas_fall paused busy w v told k h = fallen w busy v told (replicas_go paused busy w v told k h)

-- ---- a round of calm servers

-- what lies ahead of the replicas of servers that are as they were
abbrev states_ahead : Log → List ServerState → ℕ
states_ahead log [] = 0
states_ahead log (s ∷ ss) = ahead_table log s.table.entries + states_ahead log ss

ahead_states : (log : Log) (ns : List ServerNode) → ahead_servers log ns ≡ states_ahead log (states ns)
ahead_states log [] = refl
ahead_states log (n ∷ ns) = ap (λ (x : ℕ). ahead_table log n.server.table.entries + x) (ahead_states log ns)

pub rested_ahead : (w : State) (busy : Bool) (v : State) (told : Bool) → HasRested w busy v told → ahead_in_world v ≡ ahead_in_world w
rested_ahead w busy v told x =
    ap (λ (l : Log). ahead_servers l v.servers) x.log ∙ ahead_states w.log v.servers ∙ ap (states_ahead w.log) x.servers
    ∙ sym (ahead_states w.log w.servers)

abbrev states_again : List Seen → List SegmentMachine → ℕ → List ServerState → ℕ
states_again h ms i [] = 0
states_again h ms i (s ∷ ss) = again_table h ms i s.table.entries + states_again h ms (suc i) ss

again_states : (h : List Seen) (ms : List SegmentMachine) (i : ℕ) (ns : List ServerNode) → again_servers h ms i ns ≡ states_again h ms i (states ns)
again_states h ms i [] = refl
again_states h ms i (n ∷ ns) = ap (λ (x : ℕ). again_table h ms i n.server.table.entries + x) (again_states h ms (suc i) ns)

pub rested_still : (w : State) (busy : Bool) (v : State) (told : Bool) → HasRested w busy v told → ahead_still v ≡ ahead_still w
rested_still w busy v told x =
    let machines : asked_machines v ≡ asked_machines w =
    ap (machines_by v.controllers) (same_leader v w x.controllers) ∙ ap (λ (cs : List ControllerNode). machines_by cs (leader_in w)) x.controllers in
    let again : again_servers v.store.writes (asked_machines v) 0 v.servers ≡ again_servers w.store.writes (asked_machines w) 0 w.servers =
    ap (λ (g : List Seen). again_servers g (asked_machines v) 0 v.servers) x.written
    ∙ ap (λ (ms : List SegmentMachine). again_servers w.store.writes ms 0 v.servers) machines ∙ again_states w.store.writes (asked_machines w) 0 v.servers
    ∙ ap (states_again w.store.writes (asked_machines w) 0) x.servers ∙ sym (again_states w.store.writes (asked_machines w) 0 w.servers) in
    omega (arith, again, rested_ahead w busy v told x)

rested_keeps : (w : State) (busy : Bool) (v : State) (told : Bool) → IsToldRightly w → HasRested w busy v told → HasServed w v → KeepsOn w v
rested_keeps w busy v told right x served =
    record {
      going = record { safe = x.steady.safe; told = x.right right };
      log = x.log;
      grows = ([], x.written ∙ sym (append-nil w.store.writes));
      setup = served.setup;
      leads = leads_still w v x.controllers;
      led = served.led;
      up = λ up. x.steady.up;
      unplanned = λ none. x.steady.unplanned;
      fetches = served.fetches;
      steady = λ same s. x.steady;
    }

round_falls : (paused : Bool) (w : State) (v : Reached) (told : Bool) → IsSteady w → IsToldRightly w → Round paused w v (Ok told) → OffOrFallen w false v told
round_falls paused w v told k right h =
    let t = then_parts (ServersTurn false) (ReplicasOfAll paused) w v told h in
    let x = servers_rest 0 w.setup.servers false w t.between t.told k t.came in
    let on = rested_keeps w false t.between.world t.told right x (servers_serve w t.between t.told k.safe t.came) in
    fallen w false v told
    (then_goes w t.between t.last v false t.told told t.whole
    (record {
      on = on;
      less = inr (omega (arith, rested_ahead w false t.between.world t.told x), λ e. inl (sym x.idle ∙ e));
      wrote = inl x.written;
      spends = inl x.written;
      still = λ s same. inr (omega (arith, rested_still w false t.between.world t.told x), λ e. inl (sym x.idle ∙ e));
    })
    (replicas_go paused t.told t.between.world t.last told on.going t.further))

-- ---- rounds up to one in which nothing happens

-- a replica is put off, or a commit is made or a stop processed, or it has settled
abbrev OffOrDone : Reached → Bool → Type 0
OffOrDone v settled = PutsOff v ⊎ Succeeds v ⊎ (settled ≡ true)

settled_behind : (b l v : Reached) (settled : Bool) → v ≡ after b.turns l → OffOrDone l settled → OffOrDone v settled
settled_behind b l v settled whole (inl off) = inl (told_behind IsPutOff b l v whole off)
settled_behind b l v settled whole (inr (inl done)) = inr (inl (told_behind IsSuccess b l v whole done))
settled_behind b l v settled whole (inr (inr e)) = inr (inr e)

settles_calmly : (paused : Bool) (rounds : ℕ) (w : State) (v : Reached) (settled : Bool) → IsSteady w → IsToldRightly w → ahead_in_world w < rounds
    → SettlesIn paused rounds w v (Ok settled) → OffOrDone v settled
settles_calmly paused zero w v settled k right few h = absurd (omega (arith, few))
settles_calmly paused (suc rounds) w v settled k right few h =
    let t = then_parts (Round paused) (AfterRound (SettlesIn paused rounds)) w v settled h in
    by_told t.between t.last t.told t.came t.further t.whole
    (λ x l steady going less rest. settles_calmly paused rounds x l settled steady going less rest)
  where
    by_told : (b l : Reached) (told : Bool) → Round paused w b (Ok told) → AfterRound (SettlesIn paused rounds) told b.world l (Ok settled)
        → v ≡ after b.turns l
        → ((x : State) (y : Reached) → IsSteady x → IsToldRightly x → ahead_in_world x < rounds → SettlesIn paused rounds x y (Ok settled)
        → OffOrDone y settled)
        → OffOrDone v settled
    by_told b l false came further whole more = inr (inr (told_same settled true further.1))
    by_told b l true came further whole more = by_way (round_falls paused w b true k right came)
      where
        by_wrote : HasFallen w false b true → ahead_in_world b.world < ahead_in_world w → (b.world.store.writes ≡ w.store.writes) ⊎ Succeeds b
            → OffOrDone v settled
        by_wrote x lt (inl same) =
            settled_behind b l v settled whole (more b.world l (x.on.steady same k) x.on.going.told (omega (arith, few, lt)) further)
        by_wrote x lt (inr done) = inr (inl (told_first IsSuccess b l v whole done))

        by_less : HasFallen w false b true → (false ≡ true) ⊎ (ahead_in_world b.world < ahead_in_world w) → OffOrDone v settled
        by_less x (inl e) = absurd (false≢true e)
        by_less x (inr lt) = by_wrote x lt x.wrote

        by_way : OffOrFallen w false b true → OffOrDone v settled
        by_way (inl off) = inl (told_first IsPutOff b l v whole off)
        by_way (inr x) = by_less x (x.less refl)

-- ---- what lies ahead at most

phase_most : (ph : Phase) (size : ℕ) → ahead_in ph size ≤ size + size + 10
phase_most (phase.Unsealed o) size = stage_most o.stage o.rows.end.0 size
  where
    stage_most : (stage : Stage) (x size : ℕ) → ahead_at stage x size ≤ size + size + 10
    stage_most InitialConsuming x size = omega arith
    stage_most (CatchingUp target reason) x size = omega arith
    stage_most (Holding reason) x size = omega arith
    stage_most (ConsumingToOnline end done) x size = omega arith
    stage_most (Retaining done) x size = omega arith
    stage_most (Building reason) x size = omega arith
    stage_most (Starting reason built) x size = omega arith
    stage_most (Uploading reason built) x size = omega arith
    stage_most (Ending reason built path) x size = omega arith
phase_most (phase.Retained kept) size = omega arith
phase_most (phase.Committed kept) size = omega arith
phase_most (phase.Discarded d) size = stop_most d.stopped
  where
    stop_most : (b : Bool) → stop_ahead b ≤ size + size + 10
    stop_most true = omega arith
    stop_most false = omega arith

abbrev twice : Log → Partition → ℕ
twice log p = length (messages_of log p) + length (messages_of log p) + 10

entry_most : (log : Log) (s : Segment) (e : Entry) → ((r : Consumer) → e ≡ Replica r → segment_of r ≡ s) → ahead_entry log e ≤ twice log s.0
entry_most log s (Replica r) own =
    subst (λ (x : Segment). ahead_entry log (Replica r) ≤ twice log x.0) (own r refl) (phase_most r.phase (length (messages_of log r.partition)))
entry_most log s (Committed c) own = omega arith

table_ahead : (log : Log) (es : List (Segment × Entry)) → ahead_table log es ≡ table_sum (ahead_entry log) es
table_ahead log [] = refl
table_ahead log (e ∷ es) = ap (λ (x : ℕ). ahead_entry log e.1 + x) (table_ahead log es)

servers_ahead : (log : Log) (ns : List ServerNode) → ahead_servers log ns ≡ servers_sum (ahead_entry log) ns
servers_ahead log [] = refl
servers_ahead log (n ∷ ns) = omega (arith, table_ahead log n.server.table.entries, servers_ahead log ns)

asked_ahead : (log : Log) (es : List IdealEntry) → most_ahead_of log es ≡ asked_sum (twice log) es
asked_ahead log [] = refl
asked_ahead log (e ∷ es) = ap (λ (x : ℕ). twice log e.partition + x) (asked_ahead log es)

-- where servers are calm, what the ideal state asks for
pub calm_ahead : (v : State) → IsSteady v → ahead_in_world v ≤ most_ahead v
calm_ahead v k =
    omega (
      arith,
      servers_ahead v.log v.servers,
      asked_ahead v.log (entries_of v.store.writes),
      calm_sum v k.safe k.calm (ahead_entry v.log) (twice v.log)
          (λ i n there x has. entry_most v.log x.0 x.1 (λ r own. own_segment v k.safe i n there x r own has)),
    )

-- ---- from any world of a run on

module _ (setup : Setup) (turns : List Turn) (paused : Bool) (w : State) (is : IsSetup setup) (run : Runs setup turns w) (up : AreUp w)
    (unplanned : w.store.faults.plan ≡ []) (fetches : w.deep.faults.plan ≡ []) where
  -- a round leaves the servers calm, unless a replica is put off, or a commit is made or a stop processed
  pub record HasSteadied (v : State) : Type 0 where
    pub steady : IsSteady v
    pub told : IsToldRightly v
    pub log : v.log ≡ w.log
    pub written : v.store.writes ≡ w.store.writes

  pub round_steadies : (v : Reached) (told : Bool) → Round paused w v (Ok told) → PutsOff v ⊎ Succeeds v ⊎ HasSteadied v.world
  round_steadies v told h = by_way (replicas_fall paused t.told t.between.world t.last told going t.further)
    where
      t : IsThen (ServersTurn false) (ReplicasOfAll paused) w v told
      t = then_parts (ServersTurn false) (ReplicasOfAll paused) w v told h

      c : HasCalmed w t.between.world
      c = servers_calmed setup turns w t.between t.told is run up unplanned fetches t.came

      going : IsGoing t.between.world
      going = record { safe = c.steady.safe; told = c.right }

      end : v.world ≡ t.last.world
      end = ap (λ (x : Reached). x.world) t.whole

      by_wrote : HasFallen t.between.world t.told t.last told → (t.last.world.store.writes ≡ t.between.world.store.writes) ⊎ Succeeds t.last
          → Succeeds v ⊎ HasSteadied v.world
      by_wrote x (inl same) =
          inr (subst HasSteadied (sym end)
          (record { steady = x.on.steady same c.steady; told = x.on.going.told; log = x.on.log ∙ c.log; written = same ∙ c.written }))
      by_wrote x (inr done) = inl (told_behind IsSuccess t.between t.last v t.whole done)

      by_way : OffOrFallen t.between.world t.told t.last told → PutsOff v ⊎ Succeeds v ⊎ HasSteadied v.world
      by_way (inl off) = inl (told_behind IsPutOff t.between t.last v t.whole off)
      by_way (inr x) = inr (by_wrote x x.wrote)

  settles_from : (rounds : ℕ) (u : Reached) (settled : Bool) → most_ahead w + 1 < rounds → SettlesIn paused rounds w u (Ok settled)
      → OffOrDone u settled
  settles_from zero u settled few h = absurd (omega (arith, few))
  settles_from (suc rounds) u settled few h = by_told t.between t.last t.told t.came t.further t.whole
    where
      t : IsThen (Round paused) (AfterRound (SettlesIn paused rounds)) w u settled
      t = then_parts (Round paused) (AfterRound (SettlesIn paused rounds)) w u settled h

      by_told : (b l : Reached) (told : Bool) → Round paused w b (Ok told) → AfterRound (SettlesIn paused rounds) told b.world l (Ok settled)
          → u ≡ after b.turns l → OffOrDone u settled
      by_told b l false came further whole = inr (inr (told_same settled true further.1))
      by_told b l true came further whole = by_way (round_steadies b true came)
        where
          by_way : PutsOff b ⊎ Succeeds b ⊎ HasSteadied b.world → OffOrDone u settled
          by_way (inl off) = inl (told_first IsPutOff b l u whole off)
          by_way (inr (inl done)) = inr (inl (told_first IsSuccess b l u whole done))
          by_way (inr (inr x)) =
              let log = ap (λ (y : Log). most_ahead_of y (entries_of b.world.store.writes)) x.log in
              let writes = ap (λ (hs : List Seen). most_ahead_of w.log (entries_of hs)) x.written in
              settled_behind b l u settled whole
              (settles_calmly paused rounds b.world l settled x.steady x.told (omega (arith, few, calm_ahead b.world x.steady, log, writes)) further)

  pub calms_in_run : (v : Reached) (told : Bool) → Round paused w v (Ok told) → PutsOff v ⊎ Succeeds v ⊎ AreAllCalm v.world
  calms_in_run v told h = by_way (round_steadies v told h)
    where
      by_way : PutsOff v ⊎ Succeeds v ⊎ HasSteadied v.world → PutsOff v ⊎ Succeeds v ⊎ AreAllCalm v.world
      by_way (inl off) = inl off
      by_way (inr (inl done)) = inr (inl done)
      by_way (inr (inr x)) = inr (inr x.steady.calm)

  pub settles_in_run : (rounds : ℕ) (u : Reached) (settled : Bool) → most_ahead w + 1 < rounds → Settles paused rounds w u (Ok settled)
      → PutsOff u ⊎ Succeeds u ⊎ (settled ≡ true)
  settles_in_run rounds u settled few h = by_test ((rounds == 0) || nat_lt MOST_ROUNDS rounds) h
    where
      by_test : (b : Bool) → Choose b (Refuses NothingToDo w) (SettlesIn paused rounds w) u (Ok settled) → OffOrDone u settled
      by_test true g = absurd (told_not settled NothingToDo g.1)
      by_test false g = settles_from rounds u settled few g

-- ---- in a run

abbrev OffOrAhead : State → Reached → Type 0
OffOrAhead w v = PutsOff v ⊎ (ahead_in_world v.world < ahead_in_world w)

if_busy : (w : State) (v : Reached) → OffOrFallen w false v true → OffOrAhead w v
if_busy w v (inl off) = inl off
if_busy w v (inr x) = by_less (x.less refl)
  where
    by_less : (false ≡ true) ⊎ (ahead_in_world v.world < ahead_in_world w) → OffOrAhead w v
    by_less (inl e) = absurd (false≢true e)
    by_less (inr lt) = inr lt

module _ (setup : Setup) (turns : List Turn) (w : State) (v : Reached) (is : IsSetup setup) (run : Runs setup turns w) where
  run_goes : IsGoing w
  run_goes = record { safe = runs_are_safe setup turns w is run; told = runs_told setup turns w is run }

  pub exchange_in_run : (i : Instance) (s : SegmentAt) → ExchangeTurn i s false w v (Ok true) → PutsOff v ⊎ (ahead_in_world v.world < ahead_in_world w)
  exchange_in_run i s h = if_busy w v (fallen w false v true (exchange_goes i s false w v true run_goes h))

  pub replicas_in_run : (paused : Bool) → ReplicasOfAll paused false w v (Ok true) → PutsOff v ⊎ (ahead_in_world v.world < ahead_in_world w)
  replicas_in_run paused h = if_busy w v (replicas_fall paused false w v true run_goes h)

  pub round_in_run : (paused : Bool) → AreUp w → w.store.faults.plan ≡ [] → AreAllCalm w → Round paused w v (Ok true)
      → PutsOff v ⊎ (ahead_in_world v.world < ahead_in_world w)
  round_in_run paused up unplanned calm h =
      if_busy w v
      (round_falls paused w v true
      (record { safe = run_goes.safe; unplanned = unplanned; up = up; calm = calm; follow = can_follow w run_goes }) run_goes.told h)

  -- an exchange writes by a commit or a stop alone
  pub writes_in_run : (i : Instance) (s : SegmentAt) (told : Bool) → ExchangeTurn i s false w v (Ok told)
      → PutsOff v ⊎ Succeeds v ⊎ (v.world.store.writes ≡ w.store.writes)
  writes_in_run i s told h = by_wrote (exchange_goes i s false w v told run_goes h).wrote
    where
      by_wrote : Wrote w v → PutsOff v ⊎ Succeeds v ⊎ (v.world.store.writes ≡ w.store.writes)
      by_wrote (inl same) = inr (inr same)
      by_wrote (inr (inl off)) = inl off
      by_wrote (inr (inr done)) = inr (inl done)

  -- and where it writes anything it leaves fewer writes
  pub spends_in_run : (i : Instance) (s : SegmentAt) (told : Bool) → ExchangeTurn i s false w v (Ok told)
      → Spends w.setup w.log w.store.writes v.world.store.writes
  spends_in_run i s told h = (exchange_goes i s false w v told run_goes h).spends

  -- where it writes nothing, it leaves less ahead, and that may lie ahead again, unless HOLD or NOT_LEADER is told
  pub still_in_run : (i : Instance) (s : SegmentAt) → AreUp w → w.store.faults.plan ≡ [] → w.deep.faults.plan ≡ [] → AreAllCalm w
      → ExchangeTurn i s false w v (Ok true) → v.world.store.writes ≡ w.store.writes → Waits w v ⊎ (ahead_still v.world < ahead_still w)
  still_in_run i s up unplanned fetches calm h same =
      by_still ((exchange_goes i s false w v true run_goes h).still
      (settling_in_run setup turns w is run (record { safe = run_goes.safe; unplanned = unplanned; up = up; calm = calm; follow = can_follow w run_goes }) fetches) same)
    where
      by_still : Waits w v ⊎ Lessens ahead_still w false v.world true → Waits w v ⊎ (ahead_still v.world < ahead_still w)
      by_still (inl waits) = inl waits
      by_still (inr less) = by_less (less.1 refl)
        where
          by_less : (false ≡ true) ⊎ (ahead_still v.world < ahead_still w) → Waits w v ⊎ (ahead_still v.world < ahead_still w)
          by_less (inl e) = absurd (false≢true e)
          by_less (inr lt) = inr lt
