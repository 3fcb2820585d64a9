-- What a world at rest has of each partition.
use Rattle.std.proofs.Common.{◌≡◌, ℕ, zero, suc, ◌<◌, List, [], ◌∷◌, Some, length, slice_get, refl, ◌∙◌, ap, subst, arith}
use Rattle.rt_assign.proofs.Ring.{setup_placed}
use Rattle.rt_assign.specs.Placement.{replicas_of}
use Rattle.rt_base.specs.declared.numbers.Instance.{Instance}
use Rattle.rt_base.specs.declared.numbers.Partition.{Partition}
use Rattle.rt_base.specs.declared.numbers.Sequence.{Sequence}
use Rattle.rt_lists.specs.Members.{Has}
use Rattle.rt_lists.proofs.Lists.{All-found}
use Rattle.rt_lists.proofs.Members.{Has-place}
use Rattle.rt_model.proofs.Histories.{same_instance}
use Rattle.rt_model.specs.Entries.{entries_of}
use Rattle.rt_model.specs.Ideal.{mode_of}
use Rattle.rt_model.specs.Metadata.{metadata_of, IsDoneStatus, IsInProgress}
use Rattle.rt_model.specs.declared.commit.Commit.{Commit}
use Rattle.rt_model.specs.declared.ideal_state.Mode.{Mode}
use Rattle.rt_model.specs.declared.ideal_state.Mode.TheVariants as mode
use Rattle.rt_model.specs.declared.node.Listed.{Listed}
use Rattle.rt_model.specs.declared.status.Status.{Status}
use Rattle.rt_model.specs.declared.status.Status.TheVariants.{InProgress, Done, Abandoned}
use Rattle.rt_nodes.specs.declared.server_node.ServerNode.{ServerNode}
use Rattle.rt_past.specs.Segments.{IsAssignedTo}
use Rattle.rt_state.proofs.Bounds.{few_sequences}
use Rattle.rt_state.specs.IsSafe.{past_of}
use Rattle.rt_state.specs.IsSafeWorld.{IsSafeWorld}
use Rattle.rt_state.specs.declared.state.State.{State}
use Rattle.rt_heal.specs.AtRest.{IsAtRest, IsConsumedAt, IsServedAt}
use Rattle.rt_heal.specs.Mended.{GoesOn, NeedsNoRepair}
use Rattle.rt_heal.proofs.Asked.{mode_asked, online_listed, present_right}
use Rattle.rt_heal.proofs.Mended.{goes_on}
use Rattle.rt_heal.proofs.Served.{consuming_takes, online_serves}

stands_at : {X : Type 0} (xs : List X) (k : ℕ) → k < length xs → (x : X) × (slice_get xs k ≡ Some x)
stands_at [] k lt = absurd (omega (arith, lt))
stands_at (x ∷ xs) zero lt = (x, refl)
stands_at (x ∷ xs) (suc k) lt = stands_at xs k (omega (arith, lt))

pub unneeding_goes_on : (w : State) (p : Partition) → IsSafeWorld w → p.0 < w.setup.partitions → NeedsNoRepair w.setup w.store.writes w.moment p
    → GoesOn w.store.writes p
unneeding_goes_on w p s within need =
    goes_on w.setup (past_of w) w.moment p s.safe.setup s.safe.past within (few_sequences w p s within) need

-- ---- a server of an entry

module _ (w : State) (s : IsSafeWorld w) where
  -- what an instance has of a partition is at a server that there is
  pub at_server : (p : Partition) (i : Instance) → IsAssignedTo w.setup p i → (n : ServerNode) × (slice_get w.servers i.0 ≡ Some n)
  at_server p i assigned =
      let listed = replicas_of p w.setup.table.replication w.setup.servers in
      let at = Has-place listed i assigned in
      let below = All-found (λ (j : Instance). j.0 < w.setup.servers) listed at.0 i (setup_placed w.setup p s.safe.setup).exist at.1 in
      stands_at w.servers i.0 (omega (arith, below, s.safe.all_servers))

  pub own_instance : (i : Instance) (n : ServerNode) → slice_get w.servers i.0 ≡ Some n → n.server.numbers.instance ≡ i
  own_instance i n there = same_instance n.server.numbers.instance i (s.safe.servers i.0 n there).placed

  module _ (rest : IsAtRest w) (p : Partition) (q : Sequence) (i : Instance) where
    pub asked_at : (m : Mode) → mode_of (entries_of w.store.writes) p q i ≡ Some m → (p.0 < w.setup.partitions) × IsAssignedTo w.setup p i
    asked_at m e =
        let a = mode_asked (entries_of w.store.writes) p q i m e in
        let right = present_right w.setup (past_of w) s.safe.past a.entry a.there in (
          subst (λ (x : Partition). x.0 < w.setup.partitions) a.partition right.0,
          subst (λ (x : Partition). IsAssignedTo w.setup x i) a.partition (subst (IsAssignedTo w.setup a.entry.partition) a.instance right.1),
        )

    commit_of : (status : Status) → IsDoneStatus status → (commit : Commit) × (status ≡ Done commit)
    commit_of InProgress done = absurd done
    commit_of (Done commit) done = (commit, refl)
    commit_of Abandoned done = absurd done

    -- an ONLINE segment is served whole
    pub served_whole : mode_of (entries_of w.store.writes) p q i ≡ Some mode.Online → IsServedAt w p q i
    served_whole e =
        let at = asked_at mode.Online e in
        let node = at_server p i at.1 in
        let l = online_listed w.setup (past_of w) s.safe.past p q at.0 i e in
        let commit = commit_of l.listed.seen.meta.status l.done in
        let asked : mode_of (entries_of w.store.writes) p l.listed.sequence node.0.server.numbers.instance ≡ Some mode.Online =
        ap (λ (x : Instance). mode_of (entries_of w.store.writes) p l.listed.sequence x) (own_instance i node.0 node.1)
        ∙ ap (λ (x : Sequence). mode_of (entries_of w.store.writes) p x i) l.is ∙ e in
        record {
          node = node.0;
          there = node.1;
          listed = l.listed;
          has = l.has;
          is = l.is;
          commit = commit.0;
          status = commit.1;
          serves =
              online_serves w.setup (past_of w) w.moment p l.listed s.safe.past at.0 l.has node.0.server (s.safe.servers i.0 node.0 node.1).over
              (rest i.0 node.0 node.1).rests commit.0 commit.1 asked;
        }

    -- a segment in progress is consumed by each instance that is to
    pub consumed_up_to : (l : Listed) → Has (metadata_of w.store.writes p) l → l.sequence ≡ q → IsInProgress l.seen.meta.status
        → mode_of (entries_of w.store.writes) p q i ≡ Some mode.Consuming → IsConsumedAt w p l i
    consumed_up_to l has is going e =
        let at = asked_at mode.Consuming e in
        let node = at_server p i at.1 in
        let asked : mode_of (entries_of w.store.writes) p l.sequence node.0.server.numbers.instance ≡ Some mode.Consuming =
        ap (λ (x : Instance). mode_of (entries_of w.store.writes) p l.sequence x) (own_instance i node.0 node.1)
        ∙ ap (λ (x : Sequence). mode_of (entries_of w.store.writes) p x i) is ∙ e in
        record {
          node = node.0;
          there = node.1;
          takes =
              consuming_takes w.setup (past_of w) w.moment p l s.safe.past at.0 has node.0.server (s.safe.servers i.0 node.0 node.1).over
              (rest i.0 node.0 node.1).rests going asked;
        }
