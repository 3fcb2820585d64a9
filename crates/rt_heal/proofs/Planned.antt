-- At rest each piece of a partition's plan is served whole.
use Rattle.std.proofs.Common.{◌≡◌, ◌<◌, ◌⊎◌, inl, inr, List, [], ◌∷◌, Some, None, refl, sym, ◌∙◌, ap, subst}
use Rattle.std.proofs.lemmas.Option.{same_Some}
use Rattle.rt_base.specs.declared.numbers.Instance.{Instance}
use Rattle.rt_base.specs.declared.numbers.Offset.{Offset}
use Rattle.rt_base.specs.declared.numbers.Partition.{Partition}
use Rattle.rt_base.specs.declared.numbers.Sequence.{Sequence}
use Rattle.rt_lists.specs.Members.{Has}
use Rattle.rt_model.specs.Entries.{entries_of}
use Rattle.rt_model.specs.Ideal.{mode_of}
use Rattle.rt_model.specs.Metadata.{metadata_of, IsDoneStatus, IsInProgress, StartsAfter}
use Rattle.rt_model.specs.Plan.{piece_of, plan_of, planned}
use Rattle.rt_model.specs.Repair.{last_listed}
use Rattle.rt_model.specs.declared.commit.Commit.{Commit}
use Rattle.rt_model.specs.declared.ideal_state.Mode.{Mode}
use Rattle.rt_model.specs.declared.ideal_state.Mode.TheVariants as mode
use Rattle.rt_model.specs.declared.node.Listed.{Listed}
use Rattle.rt_model.specs.declared.piece.Piece.{Piece}
use Rattle.rt_model.specs.declared.status.Status.{Status}
use Rattle.rt_model.specs.declared.status.Status.TheVariants.{InProgress, Done, Abandoned}
use Rattle.rt_past.specs.Files.{range_to}
use Rattle.rt_past.specs.Segments.{IsAssignedTo}
use Rattle.rt_state.specs.IsSafe.{past_of}
use Rattle.rt_state.specs.IsSafeWorld.{IsSafeWorld}
use Rattle.rt_state.specs.declared.state.State.{State}
use Rattle.rt_store.specs.Contents.{starting_of}
use Rattle.rt_stream.specs.Log.{end_of, messages_of}
use Rattle.rt_heal.specs.AtRest.{IsAtRest, IsConsumedAt}
use Rattle.rt_heal.specs.Mended.{GoesOn}
use Rattle.rt_heal.specs.Planned.{AreOnline, IsGivenWhole, NoneDropped}
use Rattle.rt_heal.specs.Resting.{HasDropped, HasTakenAll, ServesOver}
use Rattle.rt_heal.proofs.Asked.{entry_mode, present_once}
use Rattle.rt_heal.proofs.Listed.{AreLinked, are_linked}
use Rattle.rt_heal.proofs.Served.{online_serves}
use Rattle.rt_heal.proofs.Wholes.{asked_at, at_server, consumed_up_to, own_instance}

-- ---- what a plan is made of

-- a piece of a committed node, or of one in progress
pub record IsPieceOf (p : Partition) (ls : List Listed) (piece : Piece) : Type 0 where
  pub node : Listed
  pub has : Has ls node
  pub so : ((commit : Commit) × (node.seen.meta.status ≡ Done commit) × (piece_of p node (Some commit.end) ≡ piece))
      ⊎ (IsInProgress node.seen.meta.status × (piece_of p node None ≡ piece))

pub plan_made : (p : Partition) (ls : List Listed) (piece : Piece) → Has (plan_of p ls) piece → IsPieceOf p ls piece
plan_made p [] piece has = absurd has
plan_made p (l ∷ ls) piece has = by_status l.seen.meta.status refl has (plan_made p ls piece)
  where
    later : IsPieceOf p ls piece → IsPieceOf p (l ∷ ls) piece
    later k = record { node = k.node; has = inr k.has; so = k.so }

    by_status : (st : Status) → l.seen.meta.status ≡ st → Has (planned p l st (plan_of p ls)) piece → (Has (plan_of p ls) piece → IsPieceOf p ls piece)
        → IsPieceOf p (l ∷ ls) piece
    by_status InProgress e (inl is) further = record { node = l; has = inl refl; so = inr (subst IsInProgress (sym e) tt, is) }
    by_status InProgress e (inr none) further = absurd none
    by_status (Done commit) e (inl is) further = record { node = l; has = inl refl; so = inl (commit, e, is) }
    by_status (Done commit) e (inr has) further = later (further has)
    by_status Abandoned e has further = later (further has)

-- and is of the partition
pub plan_partition : (p : Partition) (ls : List Listed) (piece : Piece) → Has (plan_of p ls) piece → piece.partition ≡ p
plan_partition p ls piece has = by_kind (plan_made p ls piece has).node (plan_made p ls piece has).so
  where
    by_kind : (l : Listed)
        → ((commit : Commit) × (l.seen.meta.status ≡ Done commit) × (piece_of p l (Some commit.end) ≡ piece))
        ⊎ (IsInProgress l.seen.meta.status × (piece_of p l None ≡ piece)) → piece.partition ≡ p
    by_kind l (inl (commit, status, is)) = ap (λ (x : Piece). x.partition) (sym is)
    by_kind l (inr (going, is)) = ap (λ (x : Piece). x.partition) (sym is)

-- a node in progress is the last of linked ones
pub open_is_last : (ls : List Listed) (l : Listed) → AreLinked ls → Has ls l → IsInProgress l.seen.meta.status → last_listed ls ≡ Some l
open_is_last [] l k has going = absurd has
open_is_last (m ∷ []) l k (inl same) going = ap (λ (x : Listed). Some x) same
open_is_last (m ∷ []) l k (inr none) going = absurd none
open_is_last (m ∷ n ∷ ls) l k (inl same) going =
    absurd (no_next m.seen.meta.status m.seen.meta.start n.seen.meta.start (subst (λ (x : Listed). IsInProgress x.seen.meta.status) (sym same) going) k.0.0)
  where
    no_next : (st : Status) (start next : Offset) → IsInProgress st → StartsAfter st start next → ⊥
    no_next InProgress start next o f = f
    no_next (Done commit) start next o f = o
    no_next Abandoned start next o f = o
open_is_last (m ∷ n ∷ ls) l k (inr has) going = open_is_last (n ∷ ls) l k.1 has going

-- ---- a partition at rest

module _ (w : State) (s : IsSafeWorld w) (rest : IsAtRest w) (p : Partition) (within : p.0 < w.setup.partitions) (goes : GoesOn w.store.writes p)
    (online : AreOnline w.store.writes p) (kept : NoneDropped w p) where
  -- whose is the entry by which the last segment is to be consumed
  consumer : mode_of (entries_of w.store.writes) p goes.last.sequence goes.entry.instance ≡ Some mode.Consuming
  consumer =
      let is = goes.is_of in
      ap (λ (x : Partition). mode_of (entries_of w.store.writes) x goes.last.sequence goes.entry.instance) (sym is.0)
      ∙ ap (λ (x : Sequence). mode_of (entries_of w.store.writes) goes.entry.partition x goes.entry.instance) (sym is.1)
      ∙ entry_mode (entries_of w.store.writes) goes.entry (present_once w.setup (past_of w) s.safe.past s.safe.setup) goes.there
      ∙ ap (λ (m : Mode). Some m) goes.to_consume

  committed_given : (l : Listed) (commit : Commit) → Has (metadata_of w.store.writes p) l → l.seen.meta.status ≡ Done commit
      → IsGivenWhole w (piece_of p l (Some commit.end))
  committed_given l commit has status =
      let on = online l has (subst IsDoneStatus (sym status) tt) in
      let at = asked_at w s rest p l.sequence on.0 mode.Online on.1 in
      let node = at_server w s p on.0 at.1 in
      let asked : mode_of (entries_of w.store.writes) p l.sequence node.0.server.numbers.instance ≡ Some mode.Online =
      ap (λ (x : Instance). mode_of (entries_of w.store.writes) p l.sequence x) (own_instance w s on.0 node.0 node.1) ∙ on.1 in
      record {
        instance = on.0;
        assigned = at.1;
        node = node.0;
        there = node.1;
        serves =
            online_serves w.setup (past_of w) w.moment p l s.safe.past within has node.0.server (s.safe.servers on.0.0 node.0 node.1).over
            (rest on.0.0 node.0 node.1).rests commit status asked;
      }

  last_given : (l : Listed) → Has (metadata_of w.store.writes p) l → IsInProgress l.seen.meta.status → goes.last ≡ l → IsGivenWhole w (piece_of p l None)
  last_given l has going is =
      let asked : mode_of (entries_of w.store.writes) p l.sequence goes.entry.instance ≡ Some mode.Consuming =
      ap (λ (x : Listed). mode_of (entries_of w.store.writes) p x.sequence goes.entry.instance) (sym is) ∙ consumer in
      let at = asked_at w s rest p l.sequence goes.entry.instance mode.Consuming asked in
      let c = consumed_up_to w s rest p l.sequence goes.entry.instance l has refl going asked in
      by_way at.1 c (kept l goes.entry.instance has going asked c.node c.there) c.takes
    where
      by_way : IsAssignedTo w.setup p goes.entry.instance → (c : IsConsumedAt w p l goes.entry.instance)
          → (HasDropped c.node.server.table p l.sequence → ⊥)
          → (HasTakenAll (past_of w) c.node.server.table p l.sequence
          × ServesOver w.setup (past_of w) c.node.server.table (piece_of p l None) (range_to l.seen.meta.start (end_of (messages_of w.log p))))
          ⊎ HasDropped c.node.server.table p l.sequence
          → IsGivenWhole w (piece_of p l None)
      by_way assigned c never (inl takes) =
          record { instance = goes.entry.instance; assigned = assigned; node = c.node; there = c.there; serves = takes.1 }
      by_way assigned c never (inr dropped) = absurd (never dropped)

  given_by : (l : Listed) (piece : Piece) → Has (metadata_of w.store.writes p) l
      → ((commit : Commit) × (l.seen.meta.status ≡ Done commit) × (piece_of p l (Some commit.end) ≡ piece))
      ⊎ (IsInProgress l.seen.meta.status × (piece_of p l None ≡ piece)) → IsGivenWhole w piece
  given_by l piece has (inl (commit, status, is)) = subst (IsGivenWhole w) is (committed_given l commit has status)
  given_by l piece has (inr (going, is)) =
      let last = open_is_last (metadata_of w.store.writes p) l (are_linked (starting_of w.setup) w.store.writes p s.safe.past.lawful within) has going in
      subst (IsGivenWhole w) is (last_given l has going (same_Some goes.last l (sym goes.is_last ∙ last)))

  -- each piece of the partition's plan is served whole
  pub pieces_given : (piece : Piece) → Has (plan_of p (metadata_of w.store.writes p)) piece → IsGivenWhole w piece
  pieces_given piece has = let k = plan_made p (metadata_of w.store.writes p) piece has in given_by k.node piece k.has k.so
