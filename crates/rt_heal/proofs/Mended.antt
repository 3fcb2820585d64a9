-- Where a repair finds nothing to do, the last segment is in progress behind committed ones that tile, and an instance is to consume
-- it.
use Rattle.std.proofs.Common.{◌≡◌, ◌<◌, ◌≤◌, ◌⊎◌, inl, inr, Bool, true, false, ◌&&◌, ◌||◌, not, List, [], ◌∷◌, Some, refl, sym, ◌∙◌, ap, subst}
use Rattle.std.proofs.lemmas.Bool.{false≢true}
use Rattle.std.proofs.lemmas.Option.{same_Some}
use Rattle.rt_base.specs.declared.numbers.Moment.{Moment}
use Rattle.rt_base.specs.declared.numbers.Partition.{Partition}
use Rattle.rt_base.specs.declared.numbers.Sequence.{Sequence}
use Rattle.rt_lists.specs.Members.{Has}
use Rattle.rt_model.specs.declared.decision.Decision.{Decision}
use Rattle.rt_model.specs.declared.decision.Decision.TheVariants.{Nothing}
use Rattle.rt_model.specs.declared.ideal_state.IdealEntry.{IdealEntry}
use Rattle.rt_model.specs.declared.ideal_state.Mode.{Mode}
use Rattle.rt_model.specs.declared.ideal_state.Mode.TheVariants.{Consuming, Online, Offline}
use Rattle.rt_model.specs.declared.node.Key.TheVariants as key
use Rattle.rt_model.specs.declared.node.Listed.{Listed}
use Rattle.rt_model.specs.declared.node.Seen.{Seen}
use Rattle.rt_model.specs.declared.setup.Setup.{Setup}
use Rattle.rt_model.specs.Entries.{AreGrounded, entries_by, entries_in, entries_of}
use Rattle.rt_model.specs.Ideal.{is_of}
use Rattle.rt_model.specs.Lawful.{IsLawfulHistory}
use Rattle.rt_model.specs.Metadata.{metadata_of, node_key, sequences_of, BecameFinal, IsInProgress, IsOpen}
use Rattle.rt_model.specs.Repair.{are_offline, is_offline, last_listed}
use Rattle.rt_model.specs.Setup.{IsSetup}
use Rattle.rt_model.specs.Starting.{Starting}
use Rattle.rt_model.proofs.Chains.{IsDone-final}
use Rattle.rt_model.proofs.Entries.{is_of-true}
use Rattle.rt_model.proofs.Histories.{same_sequence, value_of-last}
use Rattle.rt_model.proofs.Lawful.{has_grounded_entries, has_ideal_state}
use Rattle.rt_model.proofs.Lives.{IsFinal-open}
use Rattle.rt_past.specs.IsPast.{IsPast}
use Rattle.rt_past.specs.Past.{Past}
use Rattle.rt_repair.specs.Converging.{decided, repaired, standing_of, writes, IsSettled, SettlesIn, Standing}
use Rattle.rt_repair.specs.Lasting.{IsRepairOver}
use Rattle.rt_repair.specs.Repairing.{Repairing, beginning}
use Rattle.rt_repair.proofs.Converging.{converges}
use Rattle.rt_repair.proofs.LastSegment.{last_listed_has}
use Rattle.rt_repair.proofs.Settling.{can_settle}
use Rattle.rt_store.specs.Contents.{starting_of}
use Rattle.rt_store.proofs.Listing.{value_has}
use Rattle.rt_heal.specs.Mended.{GoesOn, NeedsNoRepair}
use Rattle.rt_heal.proofs.Listed.{ended_once, tiled_to_last}

-- ---- entries

-- one of a segment's entries isn't OFFLINE
record IsNamed (es : List IdealEntry) (p : Partition) (q : Sequence) (e : IdealEntry) : Type 0 where
  there : Has es e
  is : is_of p q e ≡ true
  mode : is_offline e.mode ≡ false

not_both : (a b c : Bool) → (not a || b) && c ≡ false → ((a ≡ true) × (b ≡ false)) ⊎ (c ≡ false)
not_both true true c h = inr h
not_both true false c h = inl (refl, refl)
not_both false b c h = inr h

some_online : (es : List IdealEntry) (p : Partition) (q : Sequence) → are_offline es p q ≡ false → (e : IdealEntry) × IsNamed es p q e
some_online [] p q h = absurd (false≢true (sym h))
some_online (e ∷ es) p q h = by_place (not_both (is_of p q e) (is_offline e.mode) (are_offline es p q) h) (some_online es p q)
  where
    by_place : ((is_of p q e ≡ true) × (is_offline e.mode ≡ false)) ⊎ (are_offline es p q ≡ false)
        → (are_offline es p q ≡ false → (x : IdealEntry) × IsNamed es p q x) → (x : IdealEntry) × IsNamed (e ∷ es) p q x
    by_place (inl (is, mode)) further = (e, record { there = inl refl; is = is; mode = mode })
    by_place (inr rest) further = let r = further rest in (r.0, record { there = inr r.1.there; is = r.1.is; mode = r.1.mode })

-- the present entries are grounded
pub present_grounded : (s : Starting) (h : List Seen) → IsLawfulHistory s h → AreGrounded h (entries_of h)
present_grounded s h lawful =
    let there = has_ideal_state s h lawful in
    let w = there.0 in
    let of_key = value_has h key.Ideal w there.2 in
    let same : entries_of h ≡ entries_by w.node = ap entries_in (value_of-last h key.Ideal w there.2).0 in
    subst (AreGrounded h) (sym same) (has_grounded_entries s h lawful w (record { has = of_key.0; is_ideal = of_key.1 }))

-- ---- the last segment

abbrev IsOpenWrite : Seen → Type 0
IsOpenWrite w = IsOpen w.node

consumes_by : (m : Mode) → is_offline m ≡ false → (m ≡ Online → ⊥) → m ≡ Consuming
consumes_by Consuming e n = refl
consumes_by Online e n = absurd (n refl)
consumes_by Offline e n = absurd (false≢true (sym e))

-- what is decided isn't written
unwritten : (r : Repairing) (x : Standing) (d : Decision) → d ≡ Nothing → writes r x d ≡ true → ⊥
unwritten r x d e w = false≢true (subst (λ (c : Decision). writes r x c ≡ true) e w)

module _ (setup : Setup) (past : Past) (now : Moment) (p : Partition) (is : IsSetup setup) (k : IsPast setup past) (within : p.0 < setup.partitions) where
  begins : IsRepairOver setup past (beginning p setup)
  begins = record { within = within; table = refl; instances = refl; grace = refl; remembers = tt }

  -- a segment in progress has no end
  pub open_unended : (l : Listed) → Has (metadata_of past.history p) l → IsInProgress l.seen.meta.status → BecameFinal past.history p l.sequence.0 → ⊥
  open_unended l has consumes (w, written, at, final) =
      let same = ended_once (starting_of setup) past.history p k.lawful within l w has (record { has = written; is_of = at; final = final }) in
      IsFinal-open w.node final (subst IsOpenWrite (sym same) consumes)

  settled : (l : Listed) → sequences_of past.history p ≤ 4294967290 → NeedsNoRepair setup past.history now p
      → last_listed (metadata_of past.history p) ≡ Some l → IsSettled (beginning p setup) now (standing_of past.history p) l
  settled l few need last =
      let can = can_settle setup past (beginning p setup) is k begins few in
      let same : can.0 ≡ l = same_Some can.0 l (sym can.1.last ∙ last) in
      subst (IsSettled (beginning p setup) now (standing_of past.history p)) same
      (by_way can.0 (converges (beginning p setup) (standing_of past.history p) can.0 can.1 now (need.over can.0 can.1.last)))
    where
      by_way : (m : Listed)
          → IsSettled (beginning p setup) now (standing_of past.history p) m
          ⊎ ((writes (beginning p setup) (standing_of past.history p) (decided (beginning p setup) now (standing_of past.history p)) ≡ true)
          × (n : Listed) × (last_listed (repaired (beginning p setup) now (standing_of past.history p)).nodes ≡ Some n)
          × SettlesIn (beginning p setup) 2 (repaired (beginning p setup) now (standing_of past.history p)) n)
          → IsSettled (beginning p setup) now (standing_of past.history p) m
      by_way m (inl s) = s
      by_way m (inr written) =
          absurd (unwritten (beginning p setup) (standing_of past.history p) (decided (beginning p setup) now (standing_of past.history p)) need.nothing written.0)

  pub goes_on : sequences_of past.history p ≤ 4294967290 → NeedsNoRepair setup past.history now p → GoesOn past.history p
  goes_on few need =
      let l = last_listed_has (starting_of setup) past.history p k.lawful within in
      let s = settled l.0 few need l.1 in
      let e = some_online (entries_of past.history) p l.0.sequence s.online in
      let at = is_of-true p l.0.sequence e.0 e.1.is in
      let of_key : node_key e.0.partition e.0.sequence.0 ≡ node_key p l.0.sequence.0 = ap (λ q. node_key q e.0.sequence.0) at.0 ∙ ap (node_key p) at.1 in
      record {
        last = l.0;
        is_last = l.1;
        consumes = s.consumes;
        tiled = tiled_to_last (starting_of setup) past.history p k.lawful within l.0 l.1 s.consumes;
        entry = e.0;
        there = e.1.there;
        is_of = (at.0, same_sequence e.0.sequence l.0.sequence at.1);
        to_consume = consumes_by e.0.mode e.1.mode (λ online.
            let done = (present_grounded (starting_of setup) past.history k.lawful e.0 e.1.there).done online in
            open_unended l.0 l.2 s.consumes (done.0, done.1, done.2 ∙ of_key, IsDone-final done.0.node done.3));
      }
