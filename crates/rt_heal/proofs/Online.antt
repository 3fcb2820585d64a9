-- Each committed segment that has entries is ONLINE somewhere, where its partition goes on.
use Rattle.std.proofs.Common.{◌≡◌, ℕ, ◌+◌, ◌<◌, ◌≤◌, ◌⊎◌, inl, inr, List, Some, refl, sym, ◌∙◌, ap, subst, arith}
use Rattle.std.proofs.lemmas.Bool.{cases_lt}
use Rattle.std.proofs.lemmas.Option.{same_Some}
use Rattle.rt_base.specs.declared.numbers.Instance.{Instance}
use Rattle.rt_base.specs.declared.numbers.Partition.{Partition}
use Rattle.rt_base.specs.declared.numbers.Sequence.{Sequence}
use Rattle.rt_lists.specs.Members.{Has}
use Rattle.rt_model.specs.Entries.{entries_by, entries_in, entries_of, HasEntry, IsUnbroken}
use Rattle.rt_model.specs.Ideal.{mode_of}
use Rattle.rt_model.specs.Lawful.{IsLawfulHistory}
use Rattle.rt_model.specs.Metadata.{listed_write, metadata_of, sequences_of, BecameFinal, IsDoneStatus}
use Rattle.rt_model.specs.Starting.{Starting}
use Rattle.rt_model.specs.declared.ideal_state.IdealEntry.{IdealEntry}
use Rattle.rt_model.specs.declared.ideal_state.Mode.{Mode}
use Rattle.rt_model.specs.declared.ideal_state.Mode.TheVariants.{Online}
use Rattle.rt_model.specs.declared.node.Key.TheVariants as key
use Rattle.rt_model.specs.declared.node.Listed.{Listed}
use Rattle.rt_model.specs.declared.node.Seen.{Seen}
use Rattle.rt_model.proofs.Chains.{IsDone-final}
use Rattle.rt_model.proofs.Entries.{entry_names, names_entry}
use Rattle.rt_model.proofs.Histories.{same_sequence, value_of-last}
use Rattle.rt_model.proofs.Lawful.{has_chains, has_ideal_state, has_unbroken_runs}
use Rattle.rt_model.proofs.Listings.{listed_has}
use Rattle.rt_repair.proofs.LastSegment.{last_listed_has}
use Rattle.rt_state.specs.IsSafe.{past_of}
use Rattle.rt_state.specs.IsSafeWorld.{IsSafeWorld}
use Rattle.rt_state.specs.declared.state.State.{State}
use Rattle.rt_store.specs.Contents.{starting_of}
use Rattle.rt_store.proofs.Listing.{value_has}
use Rattle.rt_heal.specs.Mended.{GoesOn}
use Rattle.rt_heal.specs.Planned.{AreOnline}
use Rattle.rt_heal.specs.Turned.{IsTurned, NoneHalfRetired}
use Rattle.rt_heal.proofs.Asked.{entry_mode, present_once}
use Rattle.rt_heal.proofs.Mended.{open_unended}
use Rattle.rt_heal.proofs.Turning.{created_ended}

-- the present entries have no gap
present_unbroken : (s : Starting) (h : List Seen) (p : Partition) → IsLawfulHistory s h → IsUnbroken (entries_of h) p
present_unbroken s h p lawful =
    let there = has_ideal_state s h lawful in
    let of_key = value_has h key.Ideal there.0 there.2 in
    let same : entries_of h ≡ entries_by there.0.node = ap entries_in (value_of-last h key.Ideal there.0 there.2).0 in
    subst (λ (es : List IdealEntry). IsUnbroken es p) (sym same)
    (has_unbroken_runs s h lawful there.0 p (record { has = of_key.0; is_ideal = of_key.1 }))

module _ (w : State) (p : Partition) (s : IsSafeWorld w) (turned : IsTurned w) (within : p.0 < w.setup.partitions) (goes : GoesOn w.store.writes p)
    (none : NoneHalfRetired w.store.writes p) where
  abbrev h : List Seen
  h = w.store.writes

  abbrev es : List IdealEntry
  es = entries_of h

  -- the last segment has an entry
  last_entered : HasEntry es p goes.last.sequence.0
  last_entered =
      names_entry es p goes.last.sequence
      (goes.entry, goes.there, goes.is_of.0, ap (λ (x : Sequence). x.0) goes.is_of.1)

  module _ (l : Listed) (has : Has (metadata_of h p) l) (done : IsDoneStatus l.seen.meta.status) where
    own : Has h (listed_write p l)
    own = listed_has h p l has

    ends : (q : ℕ) → q ≡ goes.last.sequence.0 → BecameFinal h p q → ⊥
    ends q same final =
        open_unended w.setup (past_of w) w.moment p s.safe.setup s.safe.past within goes.last last_has goes.consumes
        (subst (BecameFinal h p) same final)
      where
        last_has : Has (metadata_of h p) goes.last
        last_has =
            let x = last_listed_has (starting_of w.setup) h p s.safe.past.lawful within in
            subst (Has (metadata_of h p)) (same_Some x.0 goes.last (sym x.1 ∙ goes.is_last)) x.2

    -- it lies below the last one
    below : l.sequence.0 < goes.last.sequence.0
    below = by_place (cases_lt l.sequence.0 goes.last.sequence.0)
      where
        chain_created : l.sequence.0 < sequences_of h p
        chain_created = by_count (cases_lt l.sequence.0 (sequences_of h p))
          where
            by_count : (l.sequence.0 < sequences_of h p) ⊎ (sequences_of h p ≤ l.sequence.0) → l.sequence.0 < sequences_of h p
            by_count (inl lt) = lt
            by_count (inr le) =
                absurd ((has_chains (starting_of w.setup) h s.safe.past.lawful p within).uncreated l.sequence.0 (listed_write p l) le own refl)

        by_place : (l.sequence.0 < goes.last.sequence.0) ⊎ (goes.last.sequence.0 ≤ l.sequence.0) → l.sequence.0 < goes.last.sequence.0
        by_place (inl lt) = lt
        by_place (inr le) = by_next (cases_lt goes.last.sequence.0 l.sequence.0)
          where
            by_next : (goes.last.sequence.0 < l.sequence.0) ⊎ (l.sequence.0 ≤ goes.last.sequence.0) → l.sequence.0 < goes.last.sequence.0
            by_next (inl lt) =
                let c = (has_chains (starting_of w.setup) h s.safe.past.lawful p within).created (goes.last.sequence.0 + 1)
                (omega (arith, lt, chain_created)) in
                let e = created_ended (starting_of w.setup) h p goes.last.sequence.0 s.safe.past.lawful within (c.0, c.1.has, c.1.is_of, c.1.starts) in
                absurd (ends goes.last.sequence.0 refl (e.0, e.1.has, e.1.is_of, e.1.final))
            by_next (inr least) =
                absurd (ends l.sequence.0 (omega (arith, le, least)) (listed_write p l, own, refl, IsDone-final (listed_write p l).node done))

    -- so the next one has an entry, and each of its own is ONLINE
    pub turned_entry : (i : Instance) × (mode_of es p l.sequence i ≡ Some Online)
    turned_entry =
        let entered = none l has done in
        let next : HasEntry es p (l.sequence.0 + 1) =
        present_unbroken (starting_of w.setup) h p s.safe.past.lawful l.sequence.0 (l.sequence.0 + 1) goes.last.sequence.0
        (omega arith) (omega (arith, below)) entered last_entered in
        let e = entry_names es p l.sequence entered in
        let mode = turned p l.sequence.0 e.0 next (within, (listed_write p l, own, refl, done)) e.1 e.2 e.3 in (
          e.0.instance,
          ap (λ (x : Partition). mode_of es x l.sequence e.0.instance) (sym e.2)
              ∙ ap (λ (x : Sequence). mode_of es e.0.partition x e.0.instance) (sym (same_sequence e.0.sequence l.sequence e.3))
              ∙ entry_mode es e.0 (present_once w.setup (past_of w) s.safe.past s.safe.setup) e.1 ∙ ap (λ (m : Mode). Some m) mode,
        )

pub are_online : (w : State) (p : Partition) → IsSafeWorld w → IsTurned w → p.0 < w.setup.partitions → GoesOn w.store.writes p
    → NoneHalfRetired w.store.writes p → AreOnline w.store.writes p
are_online w p s turned within goes none l has done = turned_entry w p s turned within goes none l has done
