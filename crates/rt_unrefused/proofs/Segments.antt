-- The segments for which a server has something to do are of partitions of the cluster.
use Rattle.std.proofs.Common.{◌≡◌, ◌<◌, Bool, true, List, Option, Some, None, refl, sym, subst, slice_get, true≢false}
use Rattle.std.specs.List.{filter}
use Rattle.rt_base.specs.declared.numbers.Instance.{Instance}
use Rattle.rt_entry.specs.Entry.{is_replica, is_wanting}
use Rattle.rt_entry.specs.Transition.{is_due}
use Rattle.rt_entry.specs.declared.entry.Entry.{Entry}
use Rattle.rt_entry.specs.declared.entry.Entry.TheVariants.{Committed, Replica}
use Rattle.rt_lists.proofs.Members.{Has-filter, Has-map}
use Rattle.rt_lists.specs.Members.{Has}
use Rattle.rt_model.specs.declared.ideal_state.Mode.{Mode}
use Rattle.rt_model.specs.declared.setup.Setup.{Setup}
use Rattle.rt_nodes.specs.declared.server_node.ServerNode.{ServerNode}
use Rattle.rt_past.specs.IsPast.{IsPast}
use Rattle.rt_past.specs.Past.{Past}
use Rattle.rt_server.proofs.LastingTables.{lookup-Has, segment_exact}
use Rattle.rt_server.proofs.LastingTargets.{target_place}
use Rattle.rt_server.proofs.Listed.{due_has}
use Rattle.rt_server.specs.Due.{due_of as due_segments, held_of, segments_where, wanted_of}
use Rattle.rt_server.specs.Lasting.{IsEntryOver, IsServerOver}
use Rattle.rt_server.specs.Table.{Segment, Segments, ServerState, entry_of, segment_cmp, target_of}
use Rattle.rt_state.specs.IsSafe.{past_of}
use Rattle.rt_state.specs.IsSafeWorld.{IsSafeWorld}
use Rattle.rt_state.specs.declared.state.State.{State}
use Rattle.rt_world.specs.Reading.{due_transits_of, held_in, listed_by, wanted_in}

module _ (setup : Setup) (past : Past) (s : ServerState) (right : IsPast setup past) (k : IsServerOver setup past s) where
  abbrev Within : Segment → Type 0
  Within x = x.0.0 < setup.partitions

  -- of an entry
  entry_within : (x : Segment) (e : Entry) → IsEntryOver setup past s.numbers.instance s.numbers.incarnation x e → Within x
  entry_within x (Replica r) over = subst (λ (y : Segment). y.0.0 < setup.partitions) over.0 over.1.partition
  entry_within x (Committed c) over = over.partition

  where_within : (test : Entry → Bool) (x : Segment) → Has (segments_where test s.table.entries) x → Within x
  where_within test x has =
      let m = Has-map (λ (e : Segment × Entry). e.0) (filter (λ (e : Segment × Entry). test e.1) s.table.entries) x has in
      let f = Has-filter (λ (e : Segment × Entry). test e.1) s.table.entries m.0 m.1 in
      subst Within m.2 (entry_within m.0.0 m.0.1 (k.entries m.0 f.0))

  -- of a target, or of an entry
  due_within : (x : Segment) (t : Option Mode) (e : Option Entry) → target_of s.table x.0 x.1 ≡ t → entry_of s.table x.0 x.1 ≡ e → is_due t e ≡ true → Within x
  due_within x (Some mode) e at found due = (target_place setup past s x.0 x.1 mode right k at).partition
  due_within x None (Some e) at found due =
      entry_within x e (k.entries (x, e) (lookup-Has segment_cmp segment_exact s.table.entries x e found))
  due_within x None None at found due = absurd (true≢false (sym due))

  transit_within : (x : Segment) → Has (due_segments s.table) x → Within x
  transit_within x has = due_within x (target_of s.table x.0 x.1) (entry_of s.table x.0 x.1) refl refl ((due_has s.table x.0 x.1).0 has)

-- ---- in a world

module _ (w : State) (i : Instance) (safe : IsSafeWorld w) where
  abbrev Listed : List Segment → Type 0
  Listed xs = (x : Segment) → Has xs x → x.0.0 < w.setup.partitions

  all_listed : (lists : Segments → List Segment) → ((n : ServerNode) → slice_get w.servers i.0 ≡ Some n → Listed (lists n.server.table))
      → Listed (listed_by lists (slice_get w.servers i.0))
  all_listed lists f = by_node (slice_get w.servers i.0) refl
    where
      by_node : (o : Option ServerNode) → slice_get w.servers i.0 ≡ o → Listed (listed_by lists o)
      by_node None at = λ x has. absurd has
      by_node (Some n) at = f n at

  over : (n : ServerNode) → slice_get w.servers i.0 ≡ Some n → IsServerOver w.setup (past_of w) n.server
  over n at = (safe.safe.servers i.0 n at).over

  pub transits_within : Listed (due_transits_of w i)
  transits_within = all_listed due_segments (λ n at. transit_within w.setup (past_of w) n.server safe.safe.past (over n at))

  pub wanted_within : Listed (wanted_in w i)
  wanted_within = all_listed wanted_of (λ n at. where_within w.setup (past_of w) n.server safe.safe.past (over n at) is_wanting)

  pub held_within : Listed (held_in w i)
  held_within = all_listed held_of (λ n at. where_within w.setup (past_of w) n.server safe.safe.past (over n at) is_replica)
