-- The replicas' part of a round from a fresh start on. Less is left of what lies ahead and may lie ahead again, or the world stays the same:
-- nothing happened, or replicas were told to hold while their segments have machines. But such a segment has a committer, whose own visit
-- doesn't leave the world so.
use Rattle.std.proofs.Common.{◌≡◌, ◌⊎◌, inl, inr, ℕ, zero, suc, ◌+◌, ◌<◌, ◌≤◌, Bool, true, false, List, [], ◌∷◌, Option, Some, None, Ok, refl, sym, ◌∙◌, ap, subst, arith}
use Rattle.std.proofs.lemmas.Bool.{cases_lt, false≢true, true≢false}
use Rattle.std.proofs.lemmas.Option.{slice_get_within}
use Rattle.rt_base.specs.declared.numbers.Instance.{Instance}
use Rattle.rt_base.specs.declared.numbers.Offset.{Offset}
use Rattle.rt_consumer.specs.Requests.{builds_at, builds_in}
use Rattle.rt_consumer.specs.declared.consumer.Consumer.{Consumer}
use Rattle.rt_consumer.specs.declared.stage.Stage.{Stage}
use Rattle.rt_consumer.specs.declared.stage.Stage.TheVariants.{Building, CatchingUp, ConsumingToOnline, Ending, Holding, InitialConsuming, Retaining, Starting, Uploading}
use Rattle.rt_consumer.specs.declared.unsealed.Unsealed.{Unsealed}
use Rattle.rt_entry.specs.Entry.{is_replica}
use Rattle.rt_entry.specs.declared.entry.Entry.{Entry}
use Rattle.rt_entry.specs.declared.entry.Entry.TheVariants.{Committed, Replica}
use Rattle.rt_lists.specs.Members.{Has}
use Rattle.rt_macros.specs.Doing.{stays, Act, Choose, Each, EachFrom, Gives, Reached}
use Rattle.rt_macros.specs.Settling.{BuildAndExchange, BuildTurn, ConsumeTurn, ExchangeTurn, ReplicasHeld, ReplicasOfAll, ReplicasTurn, ReplicaTurn, SegmentAt}
use Rattle.rt_model.specs.Completion.{Completion}
use Rattle.rt_model.specs.declared.setup.Setup.{Setup}
use Rattle.rt_nodes.specs.declared.server_node.ServerNode.{ServerNode}
use Rattle.rt_server.specs.Due.{held_of, segments_where}
use Rattle.rt_server.specs.Table.{replica_at, Segment}
use Rattle.rt_state.specs.Finding.{is_server_up, is_up}
use Rattle.rt_state.specs.declared.state.State.{State}
use Rattle.rt_world.specs.Reading.{held_in, listed_by}
use Rattle.rt_heal.proofs.Quiet.{then_parts, told_same, IsThen}
use Rattle.rt_calm.specs.Again.{ahead_still, asked_machines, awaits, machine_of}
use Rattle.rt_calm.proofs.Keeping.{keeps_still, keeps_then, middle_same, KeepsOn}
use Rattle.rt_calm.proofs.Rounds.{build_steps, consume_steps, exchange_goes, MayStep}
use Rattle.rt_calm.proofs.Settling.{still_settling, IsSettling}
use Rattle.rt_recovery.specs.ByRows.{IsByRows}
use Rattle.rt_recovery.specs.GoingOn.{AllGoOn}
use Rattle.rt_recovery.specs.Same.{IsCommitter, IsSame}
use Rattle.rt_recovery.proofs.Entries.{entry_found}
use Rattle.rt_recovery.proofs.Exchanging.{exchange_by_rows, exchange_commits, exchange_still, IsCommitting}
use Rattle.rt_recovery.proofs.GoingOn.{exchange_goes_on, same_goes_on}
use Rattle.rt_recovery.proofs.Recovering.{IsRecovering}
use Rattle.rt_recovery.proofs.Same.{same_at, same_committer, same_rows, same_still, same_then}
use Rattle.rt_recovery.proofs.Taking.{build_by_rows, consume_by_rows, due_builds}

-- a segment has a machine
pub record HasMachine (w : State) : Type 0 where
  pub segment : Segment
  pub machine : Completion
  pub has : machine_of (asked_machines w) segment.0 segment.1 ≡ Some machine

-- the world stays the same; nothing happened that didn't before, or a segment has a machine; and this holds of it
pub record Stays (F : State → Type 0) (w : State) (busy : Bool) (v : State) (told : Bool) : Type 0 where
  pub same : IsSame w v
  pub held : (told ≡ busy) ⊎ HasMachine w
  pub so : F w

-- the walk goes on; and where nothing is written, less is left, or the world stays so
pub record HasWalked (F : State → Type 0) (w : State) (busy : Bool) (v : State) (told : Bool) : Type 0 where
  pub on : KeepsOn w v
  pub by_rows : IsByRows v
  pub goes_on : AllGoOn w → AllGoOn v
  pub still : IsSettling w → v.store.writes ≡ w.store.writes → (ahead_still v < ahead_still w) ⊎ Stays F w busy v told

abbrev pub Walks : (Bool → Act Bool) → (State → Type 0) → Type 0
Walks act F = (busy : Bool) (w : State) (v : Reached) (told : Bool) → IsRecovering w → act busy w v (Ok told) → HasWalked F w busy v.world told

-- what holds of a world holds of one that is the same
abbrev Lasts : (State → Type 0) → Type 0
Lasts F = (w v : State) → IsSame w v → F v → F w

still_recovering : (F : State → Type 0) (w : State) (busy : Bool) (v : State) (told : Bool) → IsRecovering w → HasWalked F w busy v told → IsRecovering v
still_recovering F w busy v told k x =
    record {
      going = x.on.going;
      by_rows = x.by_rows;
      up = x.on.up k.up;
      unplanned = x.on.unplanned k.unplanned;
      fetches = x.on.fetches k.fetches;
      leading = x.on.leads.leading k.leading;
      millis = subst (λ (s : Setup). 1 ≤ s.table.millis) (sym x.on.setup) k.millis;
    }

-- ---- one after the other

nothing_walked : (F : State → Type 0) (w : State) (busy : Bool) (v : State) (told : Bool) → IsRecovering w → v ≡ w → told ≡ busy → F w
    → HasWalked F w busy v told
nothing_walked F w busy v told k is e so =
    record {
      on = subst (KeepsOn w) (sym is) (keeps_still w k.going);
      by_rows = subst IsByRows (sym is) k.by_rows;
      goes_on = λ all. subst AllGoOn (sym is) all;
      still = λ s unwritten. inr (record { same = same_at w v is; held = inl e; so = so });
    }

none_walked : (F : State → Type 0) (w : State) (busy : Bool) (v : Reached) (told : Bool) → IsRecovering w → v ≡ stays w → told ≡ busy → F w
    → HasWalked F w busy v.world told
none_walked F w busy v told k same e so =
    nothing_walked F w busy v.world told k (ap (λ (x : Reached). x.world) same) e so

module _ (F G : State → Type 0) (lasts : Lasts G) (w b v : State) (busy mid told : Bool) (k : IsRecovering w) (x : HasWalked F w busy b mid)
    (y : HasWalked G b mid v told) where
  held_then : IsSame w b → (mid ≡ busy) ⊎ HasMachine w → (told ≡ mid) ⊎ HasMachine b → (told ≡ busy) ⊎ HasMachine w
  held_then same (inr m) second = inr m
  held_then same (inl e) (inl f) = inl (f ∙ e)
  held_then same (inl e) (inr m) =
      inr (record { segment = m.segment; machine = m.machine; has = sym (same.machines m.segment) ∙ m.has })

  still_then : (ahead_still b < ahead_still w) ⊎ Stays F w busy b mid → (ahead_still v < ahead_still b) ⊎ Stays G b mid v told
      → (ahead_still v < ahead_still w) ⊎ Stays (λ u. F u × G u) w busy v told
  still_then (inl less) (inl more) = inl (omega (arith, less, more))
  still_then (inl less) (inr s) =
      inl (omega (arith, less, same_still b v x.on.going.safe y.on.going.safe y.on.log s.same))
  still_then (inr r) (inl less) = inl (omega (arith, less, same_still w b k.going.safe x.on.going.safe x.on.log r.same))
  still_then (inr r) (inr s) =
      inr (record { same = same_then w b v r.same s.same; held = held_then r.same r.held s.held; so = (r.so, lasts w b r.same s.so) })

  walk_then : HasWalked (λ u. F u × G u) w busy v told
  walk_then =
      record {
        on = keeps_then w b v x.on y.on;
        by_rows = y.by_rows;
        goes_on = λ all. y.goes_on (x.goes_on all);
        still = λ s same.
            let first = middle_same w.store.writes b.store.writes v.store.writes x.on.grows y.on.grows same in
            still_then (x.still s first) (y.still (still_settling w b x.on first s) (same ∙ sym first));
      }

walk_as : (F G : State → Type 0) (w : State) (busy : Bool) (v : State) (told : Bool) → (F w → G w) → HasWalked F w busy v told → HasWalked G w busy v told
walk_as F G w busy v told f x =
    record { on = x.on; by_rows = x.by_rows; goes_on = x.goes_on; still = λ s same. by_still (x.still s same) }
  where
    by_still : (ahead_still v < ahead_still w) ⊎ Stays F w busy v told → (ahead_still v < ahead_still w) ⊎ Stays G w busy v told
    by_still (inl less) = inl less
    by_still (inr y) = inr (record { same = y.same; held = y.held; so = f y.so })

act_walks : (F G H : State → Type 0) → Lasts G → ((u : State) → F u × G u → H u) → (first behind act : Bool → Act Bool) → Walks first F → Walks behind G
    → ((busy : Bool) (w : State) (v : Reached) (told : Bool) → act busy w v (Ok told) → IsThen (first busy) behind w v told) → Walks act H
act_walks F G H lasts both first behind act f g parts busy w v told k h =
    let t = parts busy w v told h in
    let x = f busy w t.between t.told k t.came in
    let y = g t.told t.between.world t.last told (still_recovering F w busy t.between.world t.told k x) t.further in
    subst (λ (u : State). HasWalked H w busy u told) (sym (ap (λ (z : Reached). z.world) t.whole))
    (walk_as (λ u. F u × G u) H w busy t.last.world told (both w)
    (walk_then F G lasts w t.between.world t.last.world busy t.told told k x y))

each_walks : {X : Type 0} (act : X → Bool → Act Bool) (F : X → State → Type 0) → ((x : X) → Lasts (F x)) → ((x : X) → Walks (act x) (F x)) → (xs : List X)
    → Walks (Each act xs) (λ u. (x : X) → Has xs x → F x u)
each_walks act F lasts f [] busy w v told k h =
    none_walked _ w busy v told k h.0 (told_same told busy h.1) (λ x has. absurd has)
each_walks {X} act F lasts f (x ∷ xs) busy w v told k h =
    act_walks (F x) (λ u. (y : X) → Has xs y → F y u) (λ u. (y : X) → Has (x ∷ xs) y → F y u)
    (λ w v same so y has. lasts y w v same (so y has)) all (act x) (Each act xs) (Each act (x ∷ xs)) (f x) (each_walks act F lasts f xs)
    (λ b u z r g. then_parts (act x b) (Each act xs) u z r g) busy w v told k h
  where
    all : (u : State) → F x u × ((y : X) → Has xs y → F y u) → (y : X) → Has (x ∷ xs) y → F y u
    all u both y (inl is) = subst (λ (z : X). F z u) is both.0
    all u both y (inr has) = both.1 y has

from_walks : (act : ℕ → Bool → Act Bool) (F : ℕ → State → Type 0) → ((i : ℕ) → Lasts (F i)) → ((i : ℕ) → Walks (act i) (F i)) → (first count : ℕ)
    → Walks (EachFrom act first count) (λ u. (i : ℕ) → first ≤ i → i < first + count → F i u)
from_walks act F lasts f first zero busy w v told k h =
    none_walked _ w busy v told k h.0 (told_same told busy h.1) (λ i least most. absurd (omega (arith, least, most)))
from_walks act F lasts f first (suc count) busy w v told k h =
    act_walks (F first) (λ u. (i : ℕ) → first + 1 ≤ i → i < (first + 1) + count → F i u) (λ u. (i : ℕ) → first ≤ i → i < first + suc count → F i u)
    (λ w v same so i least most. lasts i w v same (so i least most)) all (act first) (EachFrom act (first + 1) count) (EachFrom act first (suc count)) (f first)
    (from_walks act F lasts f (first + 1) count) (λ b u z r g. then_parts (act first b) (EachFrom act (first + 1) count) u z r g) busy w v told k h
  where
    all : (u : State) → F first u × ((i : ℕ) → first + 1 ≤ i → i < (first + 1) + count → F i u) → (i : ℕ) → first ≤ i → i < first + suc count → F i u
    all u both i least most = by_place (cases_lt first i)
      where
        by_place : (first < i) ⊎ (i ≤ first) → F i u
        by_place (inl lt) = both.1 i (omega (arith, lt)) (omega (arith, most))
        by_place (inr le) =
            let is : first ≡ i = omega (arith, least, le) in subst (λ (j : ℕ). F j u) is both.0

-- ---- committers

-- whom a machine waits for builds, or has built
commits_by : (m : Option Completion) (i : ℕ) (stage : Stage) (x : Offset) → awaits m i stage x ≡ true → (builds_at stage ≡ true) ⊎ IsCommitting stage
commits_by None i stage x e = absurd (false≢true e)
commits_by (Some m) i InitialConsuming x e = absurd (false≢true e)
commits_by (Some m) i (CatchingUp target reason) x e = absurd (false≢true e)
commits_by (Some m) i (Holding reason) x e = absurd (false≢true e)
commits_by (Some m) i (Building reason) x e = inl refl
commits_by (Some m) i (Starting reason built) x e = inr tt
commits_by (Some m) i (Uploading reason built) x e = inr tt
commits_by (Some m) i (Ending reason built path) x e = inr tt
commits_by (Some m) i (ConsumingToOnline end done) x e = absurd (false≢true e)
commits_by (Some m) i (Retaining done) x e = absurd (false≢true e)

-- it isn't one that builds, or one that has built
abbrev BuildsNot : ℕ → Segment → State → Type 0
BuildsNot i s u = (c : IsCommitter u i s) → builds_at c.rows.stage ≡ true → ⊥

abbrev CommitsNot : ℕ → Segment → State → Type 0
CommitsNot i s u = (c : IsCommitter u i s) → IsCommitting c.rows.stage → ⊥

abbrev pub IsNone : ℕ → Segment → State → Type 0
IsNone i s u = IsCommitter u i s → ⊥

neither : (i : ℕ) (s : Segment) (u : State) → BuildsNot i s u × CommitsNot i s u → IsNone i s u
neither i s u both c =
    by_stage (commits_by (machine_of (asked_machines u) s.0 s.1) i c.rows.stage c.rows.rows.end c.awaited)
  where
    by_stage : (builds_at c.rows.stage ≡ true) ⊎ IsCommitting c.rows.stage → ⊥
    by_stage (inl e) = both.0 c e
    by_stage (inr e) = both.1 c e

-- it is among the replicas that are visited
held_listed : (es : List (Segment × Entry)) (s : Segment) (r : Consumer) → Has es (s, Replica r) → Has (segments_where is_replica es) s
held_listed [] s r has = absurd has
held_listed ((k, Replica o) ∷ es) s r (inl same) = inl (ap (λ (x : Segment × Entry). x.0) same)
held_listed ((k, Replica o) ∷ es) s r (inr has) = inr (held_listed es s r has)
held_listed ((k, Committed c) ∷ es) s r (inl same) =
    absurd (false≢true (ap (λ (x : Segment × Entry). is_replica x.1) same))
held_listed ((k, Committed c) ∷ es) s r (inr has) = held_listed es s r has

committer_held : (w : State) (i : ℕ) (s : Segment) (c : IsCommitter w i s) → Has (held_in w (record { 0 = i })) s
committer_held w i s c =
    subst (λ (o : Option ServerNode). Has (listed_by held_of o) s) (sym c.there)
    (held_listed c.node.server.table.entries s c.replica c.has)

-- ---- the visit of a replica

may_walk : (F : State → Type 0) (w : State) (busy : Bool) (v : State) (told : Bool) → IsRecovering w → IsByRows v → MayStep w busy v told
    → (v ≡ w → F w) → HasWalked F w busy v told
may_walk F w busy v told k by_rows (inl (is, e)) so = nothing_walked F w busy v told k is e (so is)
may_walk F w busy v told k by_rows (inr x) so =
    record { on = x.0; by_rows = by_rows; goes_on = same_goes_on w v x.0.setup x.2; still = λ s same. inl x.3 }

consume_walks : (paused : Bool) (i : Instance) (s : SegmentAt) → Walks (ConsumeTurn paused i s) (λ u. Unit {0})
consume_walks paused i s busy w v told k h =
    may_walk (λ u. Unit {0}) w busy v.world told k (consume_by_rows paused i s busy w v told k.going k.millis k.by_rows h)
    (consume_steps paused i s busy w v told k.going h) (λ is. tt)

build_walks : (i : Instance) (s : SegmentAt) → Walks (BuildTurn i s) (BuildsNot i.0 s)
build_walks i s busy w v told k h =
    may_walk (BuildsNot i.0 s) w busy v.world told k (build_by_rows i s busy w v told k.going k.by_rows h) (build_steps i s busy w v told k.going h) none
  where
    none : v.world ≡ w → BuildsNot i.0 s w
    none is c e =
        let up = (k.going.safe.safe.servers i.0 c.node c.there).over.kept.ascending in
        let found = ap replica_at (entry_found c.node.server.table.entries s (Replica c.replica) up c.has) in
        let built = due_builds i s busy w v told c.node c.replica k.going c.there found (ap builds_in c.unsealed ∙ e) h in
        omega (arith, built.still, ap ahead_still is)

exchange_walks : (i : Instance) (s : SegmentAt) → Walks (ExchangeTurn i s) (CommitsNot i.0 s)
exchange_walks i s busy w v told k h =
    record {
      on = on;
      by_rows = exchange_by_rows i s busy w v told k.going k.by_rows k.leading k.unplanned k.fetches h;
      goes_on = λ all. exchange_goes_on i s busy w v told k.going k.by_rows k.leading k.unplanned all h;
      still = λ settling same. by_way settling same (exchange_still i s busy w v told k.going k.by_rows k.leading settling h same);
    }
  where
    on : KeepsOn w v.world
    on = (exchange_goes i s busy w v told k.going h).on

    none : IsSettling w → v.world.store.writes ≡ w.store.writes → IsSame w v.world → CommitsNot i.0 s w
    none settling same is c commits =
        let less = exchange_commits i s busy w v told k.going k.by_rows k.leading settling h c.node c.there c.replica c.has c.rows c.unsealed commits same in
        omega (arith, less, same_still w v.world k.going.safe on.going.safe on.log is)

    by_way : IsSettling w → v.world.store.writes ≡ w.store.writes
        → (ahead_still v.world < ahead_still w) ⊎ ((told ≡ busy) × (v.world ≡ w))
        ⊎ (IsSame w v.world × ((m : Completion) × (machine_of (asked_machines w) s.0 s.1 ≡ Some m)))
        → (ahead_still v.world < ahead_still w) ⊎ Stays (CommitsNot i.0 s) w busy v.world told
    by_way settling same (inl less) = inl less
    by_way settling same (inr (inl (e, is))) =
        inr (record { same = same_at w v.world is; held = inl e; so = none settling same (same_at w v.world is) })
    by_way settling same (inr (inr (is, (m, has)))) =
        inr (record { same = is; held = inr (record { segment = s; machine = m; has = has }); so = none settling same is })

replica_walks : (paused : Bool) (i : Instance) (s : SegmentAt) → Walks (ReplicaTurn paused i s) (IsNone i.0 s)
replica_walks paused i s =
    act_walks (λ u. Unit {0}) (IsNone i.0 s) (IsNone i.0 s) lasts (λ u both. both.1) (ConsumeTurn paused i s) (BuildAndExchange i s) (ReplicaTurn paused i s)
    (consume_walks paused i s)
    (act_walks (BuildsNot i.0 s) (CommitsNot i.0 s) (IsNone i.0 s) lasts_so (neither i.0 s) (BuildTurn i s) (ExchangeTurn i s) (BuildAndExchange i s)
    (build_walks i s) (exchange_walks i s) (λ busy w v told h. then_parts (BuildTurn i s busy) (ExchangeTurn i s) w v told h))
    (λ busy w v told h. then_parts (ConsumeTurn paused i s busy) (BuildAndExchange i s) w v told h)
  where
    lasts_so : Lasts (CommitsNot i.0 s)
    lasts_so w v same so c commits =
        let d = same_rows w v i.0 s same c in so d.0 (subst (λ (o : Unsealed). IsCommitting o.stage) (sym d.1) commits)

    lasts : Lasts (IsNone i.0 s)
    lasts w v same none c = none (same_committer w v i.0 s same c)

-- ---- replicas

held_walks : (paused : Bool) (i : ℕ) → Walks (ReplicasTurn paused i) (λ u. (s : Segment) → IsNone i s u)
held_walks paused i busy w v told k h = by_up (is_server_up w (record { 0 = i })) refl h
  where
    at : Instance
    at = record { 0 = i }

    by_up : (b : Bool) → is_server_up w at ≡ b → Choose b (ReplicasHeld paused at busy w) (Gives busy w) v (Ok told)
        → HasWalked (λ u. (s : Segment) → IsNone i s u) w busy v.world told
    by_up true e g =
        walk_as (λ u. (s : Segment) → Has (held_in w at) s → IsNone i s u) (λ u. (s : Segment) → IsNone i s u) w busy v.world told
        (λ none s c. none s (committer_held w i s c) c)
        (each_walks (ReplicaTurn paused at) (λ s. IsNone i s) (λ s w v same none c. none (same_committer w v i s same c)) (replica_walks paused at) (held_in w at)
        busy w v told k g)
    by_up false e g =
        none_walked _ w busy v told k g.0 (told_same told busy g.1)
        (λ s c. true≢false (sym (ap is_up c.there ∙ k.up i c.node c.there) ∙ e))

-- no server has a committer
abbrev pub AreNone : State → Type 0
AreNone u = (i : ℕ) → i < u.setup.servers → (s : Segment) → IsNone i s u

-- the second part of a round
pub replicas_walk : (paused : Bool) → Walks (ReplicasOfAll paused) AreNone
replicas_walk paused busy w v told k h =
    walk_as (λ u. (i : ℕ) → 0 ≤ i → i < 0 + w.setup.servers → (s : Segment) → IsNone i s u) AreNone w busy v.world told
    (λ none i within. none i (omega arith) (omega (arith, within)))
    (from_walks (ReplicasTurn paused) (λ i u. (s : Segment) → IsNone i s u) (λ i w v same none s c. none s (same_committer w v i s same c)) (held_walks paused) 0
    w.setup.servers busy w v told k h)

-- where anything happens in it and nothing is written, less is left
pub walk_less : (paused : Bool) (w : State) (v : Reached) → IsRecovering w → IsSettling w → ReplicasOfAll paused false w v (Ok true)
    → v.world.store.writes ≡ w.store.writes → ahead_still v.world < ahead_still w
walk_less paused w v k settling h same = by_still ((replicas_walk paused false w v true k h).still settling same)
  where
    committed : HasMachine w → AreNone w → ⊥
    committed m none =
        let x = k.by_rows.machines m.segment m.machine m.has in
        let i : ℕ = m.machine.winner.0 in
        let within = slice_get_within w.servers i x.node x.there in
        none i (omega (arith, within, k.going.safe.safe.all_servers)) m.segment
        (record {
          node = x.node;
          there = x.there;
          replica = x.replica;
          has = x.has;
          rows = x.rows;
          unsealed = x.unsealed;
          awaited = ap (λ (o : Option Completion). awaits o i x.rows.stage x.rows.rows.end) m.has ∙ x.awaited;
        })

    by_still : (ahead_still v.world < ahead_still w) ⊎ Stays AreNone w false v.world true → ahead_still v.world < ahead_still w
    by_still (inl less) = less
    by_still (inr y) = by_held y.held
      where
        by_held : (true ≡ false) ⊎ HasMachine w → ahead_still v.world < ahead_still w
        by_held (inl e) = absurd (true≢false e)
        by_held (inr m) = absurd (committed m y.so)
