-- When an event is refused for want of something to do.
use Rattle.std.proofs.Common.{◌≡◌, ◌+◌, Bool, true, false, ◌&&◌, Option, Some, Ok, Err, refl, sym, ◌∙◌, ap, subst, nat_lt, slice_get}
use Rattle.std.specs.Prelude.{nat_le}
use Rattle.std.specs.List.Sorted.{IsStrictlySortedBy}
use Rattle.std.specs.Map.{keys_of}
use Rattle.std.proofs.lemmas.Bool.{false_from_ne_true, true≢false}
use Rattle.rt_base.specs.declared.numbers.Instance.{Instance}
use Rattle.rt_base.specs.declared.numbers.Partition.{Partition}
use Rattle.rt_base.specs.declared.numbers.Sequence.{Sequence}
use Rattle.rt_base.specs.declared.limits.TheConstants.{LAST_MOMENT, LONGEST_MESSAGE, MOST_EVENTS, MOST_QUERIES, MOST_SENT, MOST_STORED}
use Rattle.rt_base.specs.declared.which.Which.TheVariants as which
use Rattle.rt_events.specs.declared.event.Event.TheVariants.{Transit, Download}
use Rattle.rt_events.specs.declared.refusal.Refusal.TheVariants.{NoSuchNode, NodeDown, NothingToDo, Limit}
use Rattle.rt_lists.specs.Members.{Has}
use Rattle.rt_nodes.specs.declared.server_node.ServerNode.{ServerNode}
use Rattle.rt_server.specs.Due.{due_of as due_segments, wanted_of}
use Rattle.rt_server.specs.Table.{entry_of, segment_cmp, wants_at as entry_wants}
use Rattle.rt_server.specs.Transition.{transit_due as server_moves}
use Rattle.rt_server.proofs.Listed.{due_has, wanted_has}
use Rattle.rt_state.specs.Finding.{find_server, has_partition, has_server, is_server_up}
use Rattle.rt_state.specs.Room.{Due, Found, dropped, no_cost, only_if, priced, then_due}
use Rattle.rt_state.specs.Servers.{moves_in, wants_in}
use Rattle.rt_state.specs.declared.cost.Cost.{Cost}
use Rattle.rt_state.specs.declared.state.State.{State}
use Rattle.rt_world.specs.Reading.{due_transits_of, listed_by, wanted_in}
use Rattle.rt_world.specs.Step.{due_of}

abbrev pub nothing : Found
nothing = Err NothingToDo

abbrev costs : Cost → Due
costs cost = Ok cost

-- a limit that is passed is no want of something to do
limits_not : (a b c d e f : Bool) (cost : Cost) → dropped (only_if a (Limit which.Message) (only_if b (Limit which.Events) (only_if c (Limit which.Sent)
    (only_if d (Limit which.Queries) (only_if e (Limit which.Stored) (only_if f (Limit which.Moment) (costs cost))))))) ≡ nothing → ⊥
limits_not true true true true true true cost h = cc
limits_not true true true true true false cost h = cc
limits_not true true true true false f cost h = cc
limits_not true true true false e f cost h = cc
limits_not true true false d e f cost h = cc
limits_not true false c d e f cost h = cc
limits_not false b c d e f cost h = cc

priced_not : (w : State) (cost : Cost) → dropped (priced w cost) ≡ nothing → ⊥
priced_not w cost =
    limits_not (nat_le cost.message LONGEST_MESSAGE) (nat_lt w.counts.events MOST_EVENTS) (nat_le (w.counts.uploads + cost.uploads) MOST_SENT)
    (nat_le (w.counts.unanswered + cost.queries) MOST_QUERIES) (nat_le (w.counts.stored + cost.stored) MOST_STORED)
    (nat_le (w.moment.0 + cost.millis) LAST_MOMENT) cost

found_not : (a b : Bool) → only_if a NoSuchNode (only_if b NodeDown (Ok tt)) ≡ nothing → ⊥
found_not true true h = cc
found_not true false h = cc
found_not false b h = cc

test_false : (f : Found) (b : Bool) (rest : Due) → (f ≡ nothing → ⊥) → (dropped rest ≡ nothing → ⊥)
    → dropped (then_due f (only_if b NothingToDo rest)) ≡ nothing → b ≡ false
test_false (Ok u) true rest found room h = absurd (room h)
test_false (Ok u) false rest found room h = refl
test_false (Err e) b rest found room h = absurd (found h)

module _ (w : State) (i : Instance) (p : Partition) (b : Bool) (cost : Cost) where
  pub fails_test : dropped (then_due (find_server w i p) (only_if b NothingToDo (priced w cost))) ≡ nothing → b ≡ false
  fails_test h =
      test_false (find_server w i p) b (priced w cost) (found_not (has_server w i && has_partition w p) (is_server_up w i)) (priced_not w cost) h

-- no transition of the server's list was due after all
pub transits_none : (y : State) (i : Instance) (m : ServerNode) → slice_get y.servers i.0 ≡ Some m
    → ((s : Partition × Sequence) → Has (due_transits_of y i) s → due_of y (Transit i s.0 s.1) ≡ nothing)
    → (p : Partition) (q : Sequence) → server_moves m.server.table p q ≡ false
transits_none y i m there all p q = false_from_ne_true (server_moves m.server.table p q) never
  where
    never : server_moves m.server.table p q ≡ true → ⊥
    never due =
        let D : Option ServerNode → Type 0 = λ o. Has (listed_by due_segments o) (p, q) in
        let has = subst D (sym there) ((due_has m.server.table p q).1 due) in
        let none = fails_test y i p (moves_in (slice_get y.servers i.0) p q) no_cost (all (p, q) has) in
        true≢false (sym due ∙ ap (λ (o : Option ServerNode). moves_in o p q) (sym there) ∙ none)

pub wanted_none : (y : State) (i : Instance) (m : ServerNode) → slice_get y.servers i.0 ≡ Some m → IsStrictlySortedBy segment_cmp (keys_of m.server.table.entries)
    → ((s : Partition × Sequence) → Has (wanted_in y i) s → due_of y (Download i s.0 s.1) ≡ nothing)
    → (p : Partition) (q : Sequence) → entry_wants (entry_of m.server.table p q) ≡ false
wanted_none y i m there up all p q = false_from_ne_true (entry_wants (entry_of m.server.table p q)) never
  where
    never : entry_wants (entry_of m.server.table p q) ≡ true → ⊥
    never due =
        let D : Option ServerNode → Type 0 = λ o. Has (listed_by wanted_of o) (p, q) in
        let has = subst D (sym there) ((wanted_has m.server.table p q up).1 due) in
        let none = fails_test y i p (wants_in (slice_get y.servers i.0) p q) no_cost (all (p, q) has) in
        true≢false (sym due ∙ ap (λ (o : Option ServerNode). wants_in o p q) (sym there) ∙ none)
