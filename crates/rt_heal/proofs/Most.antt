-- What is left at most where all servers are calm: each replica is one of an entry of the ideal state.
use Rattle.std.proofs.Common.{◌≡◌, ℕ, suc, ◌+◌, ◌<◌, ◌≤◌, ◌⊎◌, inl, inr, Bool, true, false, cond, List, [], ◌∷◌, length, Option, Some, None, refl, sym, ◌∙◌, ap, subst, arith, slice_get}
use Rattle.std.specs.Prelude.{◌==◌, nat_le}
use Rattle.std.specs.List.{filter}
use Rattle.std.specs.Map.{keys_of, lookup}
use Rattle.std.specs.Ordering.{is_eq}
use Rattle.std.specs.declared.cmp.Ordering.TheVariants.{Less}
use Rattle.std.proofs.lemmas.Bool.{cases_lt, cond-false, cond-true, eq-eqb, eqb-true, false≢true, le-leb, leb-true, true≢false}
use Rattle.rt_base.specs.declared.numbers.Instance.{Instance}
use Rattle.rt_base.specs.declared.numbers.Partition.{Partition}
use Rattle.rt_consumer.specs.declared.consumer.Consumer.{Consumer}
use Rattle.rt_consumer.specs.declared.phase.Phase.{Phase}
use Rattle.rt_consumer.specs.declared.phase.Phase.TheVariants as phase
use Rattle.rt_consumer.specs.declared.stage.Stage.{Stage}
use Rattle.rt_consumer.specs.declared.stage.Stage.TheVariants.{InitialConsuming, CatchingUp, Holding, ConsumingToOnline, Retaining, Building, Starting, Uploading, Ending}
use Rattle.rt_entry.specs.Transition.{is_due}
use Rattle.rt_entry.specs.declared.entry.Entry.{Entry}
use Rattle.rt_entry.specs.declared.entry.Entry.TheVariants.{Replica, Committed}
use Rattle.rt_lists.specs.Members.{Has}
use Rattle.rt_lists.proofs.Members.{filter-Has}
use Rattle.rt_model.specs.Entries.{entries_of}
use Rattle.rt_model.specs.Ideal.{mode_of}
use Rattle.rt_model.specs.declared.ideal_state.IdealEntry.{IdealEntry}
use Rattle.rt_model.specs.declared.ideal_state.Mode.{Mode}
use Rattle.rt_nodes.specs.declared.server_node.ServerNode.{ServerNode}
use Rattle.rt_server.specs.Table.{is_segment, segment_cmp, segment_of, target_of, Segment}
use Rattle.rt_server.proofs.LastingTables.{at}
use Rattle.rt_server.proofs.Listed.{targets_tell}
use Rattle.rt_server.proofs.Merge.{first_below, itself, later_ascend, Ascending, Below}
use Rattle.rt_state.specs.IsSafe.{past_of, IsServerAt}
use Rattle.rt_state.specs.IsSafeWorld.{IsSafeWorld}
use Rattle.rt_state.specs.declared.state.State.{State}
use Rattle.rt_stream.specs.Log.{messages_of, Log}
use Rattle.rt_heal.specs.Calm.{AreAllCalm}
use Rattle.rt_heal.specs.Left.{left_at, left_entries, left_entry, left_in, left_in_world, left_servers, most_entries, most_left, CanAllFollow, CanFollowAt, CanFollowEntry, CanFollowIn}
use Rattle.rt_heal.specs.Reachable.{IsReachable}
use Rattle.rt_heal.proofs.Asked.{mode_asked, IsAsked}

-- ---- one replica

stage_most : (log : Log) (r : Consumer) (stage : Stage) (x : ℕ)
    → CanFollowAt (IsReachable r.settings.schema (messages_of log r.partition) r.start) stage
    → left_at stage x (length (messages_of log r.partition)) ≤ length (messages_of log r.partition) + 1
stage_most log r InitialConsuming x follows = omega arith
stage_most log r (CatchingUp target reason) x follows = omega (arith, follows.within)
stage_most log r (ConsumingToOnline end done) x follows = omega (arith, follows.within)
stage_most log r (Retaining done) x follows = omega arith
stage_most log r (Building reason) x follows = omega arith
stage_most log r (Holding reason) x follows = omega arith
stage_most log r (Starting reason built) x follows = omega arith
stage_most log r (Uploading reason built) x follows = omega arith
stage_most log r (Ending reason built path) x follows = omega arith

phase_most : (log : Log) (r : Consumer) (ph : Phase) → CanFollowIn (IsReachable r.settings.schema (messages_of log r.partition) r.start) ph
    → left_in ph (length (messages_of log r.partition)) ≤ length (messages_of log r.partition) + 1
phase_most log r (phase.Unsealed o) follows = stage_most log r o.stage o.rows.end.0 follows
phase_most log r (phase.Retained kept) follows = omega arith
phase_most log r (phase.Committed kept) follows = omega arith
phase_most log r (phase.Discarded d) follows = omega arith

-- an entry of a segment: all messages of its partition, and a step
entry_most : (log : Log) (s : Segment) (e : Entry) → ((r : Consumer) → e ≡ Replica r → segment_of r ≡ s) → CanFollowEntry log e
    → left_entry log e ≤ length (messages_of log s.0) + 1
entry_most log s (Replica r) own follows =
    subst (λ (x : Segment). left_entry log (Replica r) ≤ length (messages_of log x.0) + 1) (own r refl) (phase_most log r r.phase follows)
entry_most log s (Committed c) own follows = omega arith

-- ---- sums

-- of the entries of a table, of the tables of servers, and of the partitions of an ideal state's entries
abbrev pub table_sum : (Entry → ℕ) → List (Segment × Entry) → ℕ
table_sum f [] = 0
table_sum f (e ∷ es) = f e.1 + table_sum f es

abbrev pub servers_sum : (Entry → ℕ) → List ServerNode → ℕ
servers_sum f [] = 0
servers_sum f (n ∷ ns) = table_sum f n.server.table.entries + servers_sum f ns

abbrev pub asked_sum : (Partition → ℕ) → List IdealEntry → ℕ
asked_sum g [] = 0
asked_sum g (e ∷ es) = g e.partition + asked_sum g es

-- ---- a table

-- one of a list, and the rest of it
record IsTaken (g : Partition → ℕ) (es : List IdealEntry) (e : IdealEntry) : Type 0 where
  rest : List IdealEntry
  sum : asked_sum g es ≡ (g e.partition) + asked_sum g rest
  others : (a : IdealEntry) → Has es a → (a ≡ e) ⊎ Has rest a

taken : (g : Partition → ℕ) (es : List IdealEntry) (e : IdealEntry) → Has es e → IsTaken g es e
taken g [] e has = absurd has
taken g (x ∷ xs) e (inl same) =
    record {
      rest = xs;
      sum = ap (λ (y : IdealEntry). (g y.partition) + asked_sum g xs) same;
      others = λ a has. by_place a has;
    }
  where
    by_place : (a : IdealEntry) → (x ≡ a) ⊎ Has xs a → (a ≡ e) ⊎ Has xs a
    by_place a (inl is) = inl (sym is ∙ same)
    by_place a (inr later) = inr later
taken g (x ∷ xs) e (inr has) =
    let t = taken g xs e has in
    record { rest = x ∷ t.rest; sum = omega (arith, t.sum); others = λ a has_a. by_place t a has_a }
  where
    by_place : (t : IsTaken g xs e) (a : IdealEntry) → (x ≡ a) ⊎ Has xs a → (a ≡ e) ⊎ Has (x ∷ t.rest) a
    by_place t a (inl is) = inr (inl is)
    by_place t a (inr later) = by_rest (t.others a later)
      where
        by_rest : (a ≡ e) ⊎ Has t.rest a → (a ≡ e) ⊎ Has (x ∷ t.rest) a
        by_rest (inl same) = inl same
        by_rest (inr there) = inr (inr there)

same_segment : (s t : Segment) → s.0 ≡ t.0 → s.1 ≡ t.1 → s ≡ t
same_segment (p, q) (o, r) e f = cc

-- ascending segments differ
below_has : (s : Segment) (xs : List (Segment × Entry)) (x : Segment × Entry) → Below s (keys_of xs) → Has xs x → segment_cmp s x.0 ≡ Less
below_has s [] x below has = absurd has
below_has s (y ∷ ys) x below (inl same) = ap (λ (z : Segment × Entry). segment_cmp s z.0) (sym same) ∙ below.0
below_has s (y ∷ ys) x below (inr later) = below_has s ys x below.1 later

differ : (s t : Segment) → segment_cmp s t ≡ Less → s ≡ t → ⊥
differ s t less same = false≢true (sym (ap is_eq (ap (segment_cmp s) same ∙ less)) ∙ itself s)

-- an entry of the ideal state for a segment's
record IsFor (es : List IdealEntry) (s : Segment) : Type 0 where
  entry : IdealEntry
  there : Has es entry
  partition : entry.partition ≡ s.0
  sequence : entry.sequence ≡ s.1

covered : (f : Entry → ℕ) (g : Partition → ℕ) (xs : List (Segment × Entry)) (es : List IdealEntry) → Ascending (keys_of xs)
    → ((x : Segment × Entry) → Has xs x → f x.1 ≤ g x.0.0) → ((x : Segment × Entry) → Has xs x → IsFor es x.0)
    → table_sum f xs ≤ asked_sum g es
covered f g [] es up small all = omega arith
covered f g (x ∷ xs) es up small all =
    let more = covered f g xs t.rest (later_ascend x.0 (keys_of xs) up) (λ y has. small y (inr has)) later in
    let here = ap (λ (p : Partition). g p) own.partition in
    omega (arith, more, small x (inl refl), t.sum, here)
  where
    own : IsFor es x.0
    own = all x (inl refl)

    t : IsTaken g es own.entry
    t = taken g es own.entry own.there

    later : (y : Segment × Entry) → Has xs y → IsFor t.rest y.0
    later y has = by_place (t.others its.entry its.there)
      where
        its : IsFor es y.0
        its = all y (inr has)

        by_place : (its.entry ≡ own.entry) ⊎ Has t.rest its.entry → IsFor t.rest y.0
        by_place (inl same) =
            absurd (differ x.0 y.0 (below_has x.0 xs y (first_below x.0 (keys_of xs) up) has)
            (same_segment x.0 y.0 (sym own.partition ∙ ap (λ (e : IdealEntry). e.partition) (sym same) ∙ its.partition)
            (sym own.sequence ∙ ap (λ (e : IdealEntry). e.sequence) (sym same) ∙ its.sequence)))
        by_place (inr there) = record { entry = its.entry; there = there; partition = its.partition; sequence = its.sequence }

-- ---- the servers

-- the entries of one instance, and those of it and all after it
abbrev is_of : ℕ → IdealEntry → Bool
is_of i e = e.instance.0 == i

abbrev is_from : ℕ → IdealEntry → Bool
is_from i e = nat_le i e.instance.0

put_sum : (g : Partition → ℕ) (b : Bool) (e : IdealEntry) (es : List IdealEntry)
    → asked_sum g (cond b (e ∷ es) es) ≡ cond b (g e.partition) 0 + asked_sum g es
put_sum g true e es = refl
put_sum g false e es = omega arith

abbrev weight : (Partition → ℕ) → IdealEntry → Bool → ℕ
weight g e b = cond b (g e.partition) 0

split_one : (g : Partition → ℕ) (i : ℕ) (e : IdealEntry) → weight g e (is_of i e) + weight g e (is_from (i + 1) e) ≡ weight g e (is_from i e)
split_one g i e = by_own (is_of i e) refl
  where
    by_own : (b : Bool) → is_of i e ≡ b → weight g e b + weight g e (is_from (i + 1) e) ≡ weight g e (is_from i e)
    by_own true own = by_next (is_from (i + 1) e) refl
      where
        here : e.instance.0 ≡ i
        here = eqb-true e.instance.0 i own

        by_next : (c : Bool) → is_from (i + 1) e ≡ c → weight g e true + weight g e c ≡ weight g e (is_from i e)
        by_next true next = absurd (omega (arith, here, leb-true (i + 1) e.instance.0 next))
        by_next false next =
            let it : is_from i e ≡ true = le-leb i e.instance.0 (omega (arith, here)) in
            let w : weight g e (is_from i e) ≡ g e.partition = ap (weight g e) it in
            omega (arith, w)
    by_own false other = omega (arith, ap (weight g e) (by_from (is_from i e) refl))
      where
        by_from : (c : Bool) → is_from i e ≡ c → is_from (i + 1) e ≡ is_from i e
        by_from true it = by_order (cases_lt i e.instance.0)
          where
            by_order : (i < e.instance.0) ⊎ (e.instance.0 ≤ i) → is_from (i + 1) e ≡ is_from i e
            by_order (inl lt) = le-leb (i + 1) e.instance.0 (omega (arith, lt)) ∙ sym it
            by_order (inr le) =
                absurd (true≢false (sym (eq-eqb e.instance.0 i (omega (arith, le, leb-true i e.instance.0 it))) ∙ other))
        by_from false none = by_next (is_from (i + 1) e) refl
          where
            by_next : (c : Bool) → is_from (i + 1) e ≡ c → is_from (i + 1) e ≡ is_from i e
            by_next true next =
                absurd (true≢false (sym (le-leb i e.instance.0 (omega (arith, leb-true (i + 1) e.instance.0 next))) ∙ none))
            by_next false next = next ∙ sym none

split : (g : Partition → ℕ) (i : ℕ) (es : List IdealEntry)
    → asked_sum g (filter (is_of i) es) + asked_sum g (filter (is_from (i + 1)) es) ≡ asked_sum g (filter (is_from i) es)
split g i [] = refl
split g i (e ∷ es) =
    omega (
      arith,
      split g i es,
      split_one g i e,
      put_sum g (is_of i e) e (filter (is_of i) es),
      put_sum g (is_from (i + 1) e) e (filter (is_from (i + 1)) es),
      put_sum g (is_from i e) e (filter (is_from i) es),
    )

servers_most : (f : Entry → ℕ) (g : Partition → ℕ) (es : List IdealEntry) (ns : List ServerNode) (i : ℕ)
    → ((j : ℕ) (n : ServerNode) → slice_get ns j ≡ Some n → table_sum f n.server.table.entries ≤ asked_sum g (filter (is_of (i + j)) es))
    → servers_sum f ns ≤ asked_sum g (filter (is_from i) es)
servers_most f g es [] i each = omega arith
servers_most f g es (n ∷ ns) i each =
    let own = each 0 n refl in
    let at_i : i + 0 ≡ i = omega arith in
    let here : asked_sum g (filter (is_of (i + 0)) es) ≡ asked_sum g (filter (is_of i) es) =
    ap (λ (k : ℕ). asked_sum g (filter (is_of k) es)) at_i in
    let more = servers_most f g es ns (i + 1) (λ j m there. later j m there) in
    omega (arith, own, here, more, split g i es)
  where
    later : (j : ℕ) (m : ServerNode) → slice_get ns j ≡ Some m → table_sum f m.server.table.entries ≤ asked_sum g (filter (is_of ((i + 1) + j)) es)
    later j m there =
        let same : i + suc j ≡ (i + 1) + j = omega arith in
        subst (λ (k : ℕ). table_sum f m.server.table.entries ≤ asked_sum g (filter (is_of k) es)) same (each (suc j) m there)

all_from : (g : Partition → ℕ) (es : List IdealEntry) → asked_sum g (filter (is_from 0) es) ≤ asked_sum g es
all_from g [] = omega arith
all_from g (e ∷ es) = omega (arith, all_from g es, put_sum g (is_from 0 e) e (filter (is_from 0) es), at_most (is_from 0 e))
  where
    at_most : (b : Bool) → weight g e b ≤ g e.partition
    at_most true = omega arith
    at_most false = omega arith

-- ---- a calm server

-- what is there is found
found_some : (es : List (Segment × Entry)) (x : Segment × Entry) → Has es x → (e : Entry) × (lookup (is_segment x.0.0 x.0.1) es ≡ Some e)
found_some [] x has = absurd has
found_some (y ∷ ys) x has = by_test (is_segment x.0.0 x.0.1 y.0) refl (λ later. found_some ys x later) has
  where
    Found : List (Segment × Entry) → Type 0
    Found es = (e : Entry) × (lookup (is_segment x.0.0 x.0.1) es ≡ Some e)

    by_test : (b : Bool) → is_segment x.0.0 x.0.1 y.0 ≡ b → (Has ys x → Found ys) → (y ≡ x) ⊎ Has ys x → Found (y ∷ ys)
    by_test true at_y further has = (y.1, cond-true (is_segment x.0.0 x.0.1 y.0) (Some y.1) (lookup (is_segment x.0.0 x.0.1) ys) at_y)
    by_test false at_y further (inl same) =
        absurd (true≢false (sym (itself x.0) ∙ ap (λ (z : Segment × Entry). is_eq (segment_cmp x.0 z.0)) (sym same) ∙ at_y))
    by_test false at_y further (inr later) =
        let f = further later in
        (f.0, cond-false (is_segment x.0.0 x.0.1 y.0) (Some y.1) (lookup (is_segment x.0.0 x.0.1) ys) at_y ∙ f.1)

-- no transition is due of it, so it has a target
has_target : (o : Option Mode) (e : Entry) → is_due o (Some e) ≡ false → (m : Mode) × (o ≡ Some m)
has_target None e none = absurd (true≢false none)
has_target (Some m) e none = (m, refl)

module _ (v : State) (safe : IsSafeWorld v) (calm : AreAllCalm v) (f : Entry → ℕ) (g : Partition → ℕ)
    (small : (i : ℕ) (n : ServerNode) → slice_get v.servers i ≡ Some n → (x : Segment × Entry) → Has n.server.table.entries x → f x.1 ≤ g x.0.0) where
  server_most : (i : ℕ) (n : ServerNode) → slice_get v.servers i ≡ Some n
      → table_sum f n.server.table.entries ≤ asked_sum g (filter (is_of i) (entries_of v.store.writes))
  server_most i n there =
      covered f g n.server.table.entries (filter (is_of i) (entries_of v.store.writes)) is.over.kept.ascending (λ x has. small i n there x has)
      (λ x has. asked x has)
    where
      is : IsServerAt v.setup (past_of v) i n
      is = safe.safe.servers i n there

      asked : (x : Segment × Entry) → Has n.server.table.entries x → IsFor (filter (is_of i) (entries_of v.store.writes)) x.0
      asked x has =
          let found = found_some n.server.table.entries x has in
          let still : is_due (target_of n.server.table x.0.0 x.0.1) (Some found.0) ≡ false =
          ap (is_due (target_of n.server.table x.0.0 x.0.1)) (sym found.1) ∙ (calm i n there).moved x.0.0 x.0.1 in
          let target = has_target (target_of n.server.table x.0.0 x.0.1) found.0 still in
          let mode : mode_of (entries_of v.store.writes) x.0.0 x.0.1 n.server.numbers.instance ≡ Some target.0 =
          sym (targets_tell n.server.numbers.instance (entries_of v.store.writes) x.0.0 x.0.1)
          ∙ ap (lookup (is_segment x.0.0 x.0.1)) (sym (calm i n there).seen) ∙ target.1 in
          let a : IsAsked (entries_of v.store.writes) x.0.0 x.0.1 n.server.numbers.instance target.0 =
          mode_asked (entries_of v.store.writes) x.0.0 x.0.1 n.server.numbers.instance target.0 mode in
          record {
            entry = a.entry;
            there =
                filter-Has (is_of i) (entries_of v.store.writes) a.entry a.there
                (eq-eqb a.entry.instance.0 i (ap (λ (y : Instance). y.0) a.instance ∙ is.placed));
            partition = a.partition;
            sequence = a.sequence;
          }

  -- the sum of all tables is at most that of the ideal state
  pub calm_sum : servers_sum f v.servers ≤ asked_sum g (entries_of v.store.writes)
  calm_sum =
      omega (
        arith,
        servers_most f g (entries_of v.store.writes) v.servers 0 (λ j n there. each j n there),
        all_from g (entries_of v.store.writes),
      )
    where
      each : (j : ℕ) (n : ServerNode) → slice_get v.servers j ≡ Some n
          → table_sum f n.server.table.entries ≤ asked_sum g (filter (is_of (0 + j)) (entries_of v.store.writes))
      each j n there =
          let same : j ≡ 0 + j = omega arith in
          subst (λ (k : ℕ). table_sum f n.server.table.entries ≤ asked_sum g (filter (is_of k) (entries_of v.store.writes))) same (server_most j n there)

-- ---- what is left

left_table : (log : Log) (es : List (Segment × Entry)) → left_entries log es ≡ table_sum (left_entry log) es
left_table log [] = refl
left_table log (e ∷ es) = ap (λ (x : ℕ). left_entry log e.1 + x) (left_table log es)

left_all : (log : Log) (ns : List ServerNode) → left_servers log ns ≡ servers_sum (left_entry log) ns
left_all log [] = refl
left_all log (n ∷ ns) = omega (arith, left_table log n.server.table.entries, left_all log ns)

most_asked : (log : Log) (es : List IdealEntry) → most_entries log es ≡ asked_sum (λ p. length (messages_of log p) + 1) es
most_asked log [] = refl
most_asked log (e ∷ es) = ap (λ (x : ℕ). (length (messages_of log e.partition) + 1) + x) (most_asked log es)

-- the replica of an entry is one of its segment
pub own_segment : (v : State) → IsSafeWorld v → (i : ℕ) (n : ServerNode) → slice_get v.servers i ≡ Some n → (x : Segment × Entry) (r : Consumer)
    → x.1 ≡ Replica r → Has n.server.table.entries x → segment_of r ≡ x.0
own_segment v safe i n there x r own has =
    ((safe.safe.servers i n there).over.entries (at x.0 (Replica r)) (subst (λ (e : Entry). Has n.server.table.entries (at x.0 e)) own has)).0

-- no more is left to all
pub calm_most : (v : State) → IsSafeWorld v → AreAllCalm v → CanAllFollow v → left_in_world v ≤ most_left v
calm_most v safe calm follow =
    omega (
      arith,
      left_all v.log v.servers,
      most_asked v.log (entries_of v.store.writes),
      calm_sum v safe calm (left_entry v.log) (λ p. length (messages_of v.log p) + 1)
          (λ i n there x has. entry_most v.log x.0 x.1 (λ r own. own_segment v safe i n there x r own has) (follow i n there x has)),
    )
