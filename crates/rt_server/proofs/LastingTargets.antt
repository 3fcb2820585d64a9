-- What a target and the metadata of a segment tell, over a right past.
use Rattle.std.proofs.Common.{◌≡◌, ◌==◌, ◌<◌, ◌⊎◌, inl, inr, Bool, true, false, cond, List, [], ◌∷◌, Option, Some, None, refl, sym, ap, subst, ◌∙◌}
use Rattle.std.specs.BTreeMap.{insert_entry}
use Rattle.std.specs.Map.{lookup}
use Rattle.std.proofs.lemmas.Bool.{eqb-true}
use Rattle.rt_base.specs.declared.numbers.Instance.{Instance}
use Rattle.rt_base.specs.declared.numbers.Offset.{Offset}
use Rattle.rt_base.specs.declared.numbers.Partition.{Partition}
use Rattle.rt_base.specs.declared.numbers.Sequence.{Sequence}
use Rattle.rt_lists.specs.Members.{Has}
use Rattle.rt_model.specs.declared.commit.Commit.{Commit}
use Rattle.rt_model.specs.declared.ideal_state.IdealEntry.{IdealEntry}
use Rattle.rt_model.specs.declared.ideal_state.Mode.{Mode}
use Rattle.rt_model.specs.declared.node.Key.{Key}
use Rattle.rt_model.specs.declared.node.Node.{Node}
use Rattle.rt_model.specs.declared.node.Node.TheVariants as node
use Rattle.rt_model.specs.declared.node.Seen.{Seen}
use Rattle.rt_model.specs.declared.seg_meta.SeenMeta.{SeenMeta}
use Rattle.rt_model.specs.declared.setup.Setup.{Setup}
use Rattle.rt_model.specs.declared.status.Status.{Status}
use Rattle.rt_model.specs.declared.status.Status.TheVariants.{InProgress, Done, Abandoned}
use Rattle.rt_model.specs.Entries.{entries_by}
use Rattle.rt_model.specs.Lawful.{IsLawfulHistory}
use Rattle.rt_model.specs.Metadata.{IsDoneStatus, listed_write}
use Rattle.rt_model.proofs.Histories.{same_instance}
use Rattle.rt_store.specs.Contents.{starting_of}
use Rattle.rt_past.specs.Past.{Past}
use Rattle.rt_past.specs.Files.{IsStored}
use Rattle.rt_past.specs.IsPast.{IsPast}
use Rattle.rt_past.specs.Segments.{HadEntry, IsAssignedTo, IsBegun, WasDone}
use Rattle.rt_past.specs.Writes.{AreRightEntries, IsRightNode, IsRightStatus}
use Rattle.rt_consumer.specs.Consumer.{end_of}
use Rattle.rt_replica.proofs.ReadBack.{placed_back}
use Rattle.rt_replica.specs.Own.{HadPlace}
use Rattle.rt_server.specs.Calls.{targets_of}
use Rattle.rt_server.specs.Lasting.{AreTargets, IsServerOver}
use Rattle.rt_server.specs.Table.{Segment, ServerState, is_segment, segment_cmp, target_of}
use Rattle.rt_server.proofs.LastingEntries.{segment}
use Rattle.rt_server.proofs.Past.{meta_past}
use Rattle.rt_server.proofs.LastingTables.{Has-insert_entry, at, lookup-Has, segment_exact}

-- ---- a target

-- a target comes of an entry of the instance
abbrev Comes : Instance → List IdealEntry → Segment × Mode → Type 0
Comes i es x = (e : IdealEntry) × Has es e × (e.instance ≡ i) × (segment e.partition e.sequence ≡ x.0)

later : (i : Instance) (d : IdealEntry) (es : List IdealEntry) (x : Segment × Mode) → Comes i es x → Comes i (d ∷ es) x
later i d es x (e, has, mine, same) = (e, inr has, mine, same)

target_comes : (i : Instance) (es : List IdealEntry) (x : Segment × Mode) → Has (targets_of i es) x → Comes i es x
target_comes i [] x has = absurd has
target_comes i (e ∷ es) x has = by (e.instance.0 == i.0) refl has (λ h. target_comes i es x h)
  where
    one : (e.instance.0 == i.0) ≡ true → Has (targets_of i es) x ⊎ (at (segment e.partition e.sequence) e.mode ≡ x) → (Has (targets_of i es) x → Comes i es x) → Comes i (e ∷ es) x
    one mine (inl h) further = later i e es x (further h)
    one mine (inr same) further = (e, inl refl, same_instance e.instance i (eqb-true e.instance.0 i.0 mine), ap (λ (y : Segment × Mode). y.0) same)

    by : (b : Bool) → (e.instance.0 == i.0) ≡ b
        → Has (cond b (insert_entry segment_cmp (targets_of i es) (e.partition, e.sequence) e.mode) (targets_of i es)) x
        → (Has (targets_of i es) x → Comes i es x) → Comes i (e ∷ es) x
    by true mine h further = one mine (Has-insert_entry segment_cmp segment_exact (targets_of i es) (segment e.partition e.sequence) e.mode x h) further
    by false other h further = later i e es x (further h)

pub right_entries : (setup : Setup) (past : Past) (k : Key) (n : Node) → IsRightNode setup past k n → AreRightEntries setup (entries_by n)
right_entries setup past k (node.Ideal i) r = r
right_entries setup past k (node.Meta m) r = λ e has. absurd has
right_entries setup past k node.Boot r = λ e has. absurd has
right_entries setup past k node.Gone r = λ e has. absurd has

-- a segment of a partition that an instance is assigned to, which has or had an entry
pub record IsPlace (setup : Setup) (past : Past) (i : Instance) (s : Segment) : Type 0 where
  pub partition : s.0.0 < setup.partitions
  pub assigned : IsAssignedTo setup s.0 i
  pub entered : HadEntry past.history s.0 s.1

abbrev a_mode : Mode → Option Mode
a_mode m = Some m

no_mode : (m : Mode) → None ≡ a_mode m → ⊥
no_mode m e = cc

-- a target comes of an entry that the instance had in an ideal state
pub target_had : (h : List Seen) (i : Instance) (targets : List (Segment × Mode)) (p : Partition) (q : Sequence) (mode : Mode) → AreTargets h i targets
    → lookup (is_segment p q) targets ≡ Some mode → HadPlace h i p q
target_had h i targets p q mode (inl none) found =
    absurd (no_mode mode (ap (lookup (is_segment p q)) (sym none) ∙ found))
target_had h i targets p q mode (inr (w, is, e)) found =
    by (target_comes i (entries_by w.node) (at (segment p q) mode)
    (subst (λ (ts : List (Segment × Mode)). Has ts (at (segment p q) mode)) e (lookup-Has segment_cmp segment_exact targets (segment p q) mode found)))
  where
    by : Comes i (entries_by w.node) (at (segment p q) mode) → HadPlace h i p q
    by (entry, has, mine, same) = record {
      write = w;
      is = is;
      entry = entry;
      has = has;
      names = (ap (λ (s : Segment). s.0) same, ap (λ (s : Segment). s.1) same, mine);
    }

-- a server's targets are segments that it is assigned to
pub target_place : (setup : Setup) (past : Past) (s : ServerState) (p : Partition) (q : Sequence) (mode : Mode) → IsPast setup past → IsServerOver setup past s
    → target_of s.table p q ≡ Some mode → IsPlace setup past s.numbers.instance (segment p q)
target_place setup past s p q mode right k found =
    let had = target_had past.history s.numbers.instance s.table.targets p q mode k.targets found in
    let place = placed_back setup past right s.numbers.instance p q (inl had) in
    let entry = right_entries setup past had.write.key had.write.node (right.writes had.write had.is.has) had.entry had.has in
    record {
      partition = subst (λ (x : Partition). x.0 < setup.partitions) had.names.0 entry.0;
      assigned = place.0;
      entered = place.1;
    }

-- ---- metadata that tells of a commit

-- the commit that metadata tells of, and the file that stands for it
pub record IsCommit (setup : Setup) (past : Past) (p : Partition) (q : Sequence) (done : SeenMeta) : Type 0 where
  pub commit : Commit
  pub status : done.meta.status ≡ Done commit
  pub entered : HadEntry past.history p q
  pub stored : IsStored setup past p q done.meta.start commit

commit_by : (setup : Setup) (past : Past) (p : Partition) (q : Sequence) (done : SeenMeta) (status : Status) → done.meta.status ≡ status → IsDoneStatus status
    → IsRightStatus setup past p q done.meta status → IsCommit setup past p q done
commit_by setup past p q done InProgress e is right = absurd is
commit_by setup past p q done (Done commit) e is right = record { commit = commit; status = e; entered = right.0; stored = right.1 }
commit_by setup past p q done Abandoned e is right = absurd is

-- a commit that was written has its file
pub done_stored : (setup : Setup) (past : Past) (p : Partition) (q : Sequence) (done : SeenMeta) → IsPast setup past → WasDone past.history p q done → IsCommit setup past p q done
done_stored setup past p q done right was = commit_by setup past p q done done.meta.status refl was.1 (right.writes _ was.0)

-- its segment was begun where it starts, and it ends past that
pub commit_past : (setup : Setup) (past : Past) (p : Partition) (q : Sequence) (done : SeenMeta) (start end : Offset) → IsLawfulHistory (starting_of setup) past.history
    → p.0 < setup.partitions → WasDone past.history p q done → IsBegun past.history p q start → end_of done ≡ Some end → (done.meta.start ≡ start) × (start.0 < end.0)
commit_past setup past p q done start end lawful within was begun e =
    meta_past setup past.history p q start end (listed_write p (record { sequence = q; seen = done })) done lawful within begun was.0 refl refl e
