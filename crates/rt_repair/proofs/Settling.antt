-- What a right past has of a partition is what repairs settle from.
use Rattle.std.proofs.Common.{◌≡◌, ℕ, ◌+◌, ◌-◌, ◌<◌, ◌≤◌, ◌⊎◌, inl, inr, not, eqb, true, false, List, length, get_or, map, Some, sym, ◌∙◌, ap, subst, arith}
use Rattle.std.specs.Prelude.{option_map, slice_get}
use Rattle.std.specs.List.{range_with_len}
use Rattle.std.proofs.lemmas.Bool.{ne_eqb, cond-false, false_from_ne_true}
use Rattle.std.proofs.lemmas.List.{length-map}
use Rattle.std.proofs.lemmas.List.FromFn.{get_or-range_with_len, length-range_with_len}
use Rattle.std.proofs.lemmas.Option.{same_Some, get_or_from_slice_get, slice_get-map}
use Rattle.rt_base.specs.declared.numbers.Instance.{Instance}
use Rattle.rt_base.specs.declared.numbers.Partition.{Partition}
use Rattle.rt_lists.specs.Members.{Has}
use Rattle.rt_model.specs.declared.ideal_state.IdealEntry.{IdealEntry}
use Rattle.rt_model.specs.declared.node.Key.TheVariants as key
use Rattle.rt_model.specs.declared.node.Listed.{Listed}
use Rattle.rt_model.specs.declared.node.Seen.{Seen}
use Rattle.rt_model.specs.declared.setup.Setup.{Setup}
use Rattle.rt_model.specs.Chain.{deletions_of}
use Rattle.rt_model.specs.Entries.{entries_by, entries_in, entries_of}
use Rattle.rt_model.specs.Ideal.{has_entry, has_partition, goes_on}
use Rattle.rt_model.specs.Lawful.{IsLawfulHistory}
use Rattle.rt_model.specs.Metadata.{node_key, listed_write, metadata_of, sequences_of, IsInProgress, IsOpen}
use Rattle.rt_model.specs.Repair.{last_listed}
use Rattle.rt_model.specs.Setup.{IsSetup}
use Rattle.rt_model.specs.Starting.{Starting}
use Rattle.rt_model.proofs.Entries.{entry_names}
use Rattle.rt_model.proofs.Histories.{value_of-last}
use Rattle.rt_model.proofs.Lawful.{has_chains, has_grounded_entries, has_ideal_state}
use Rattle.rt_model.proofs.Listings.{has_listings}
use Rattle.rt_assign.proofs.Ring.{setup_placed}
use Rattle.rt_store.specs.Contents.{starting_of}
use Rattle.rt_store.proofs.Listing.{value_has}
use Rattle.rt_past.specs.IsPast.{IsPast}
use Rattle.rt_past.specs.Past.{Past}
use Rattle.rt_past.specs.Reaching.{ReachesLast, IsOpenNow}
use Rattle.rt_past.proofs.Reaching.{reaches_last}
use Rattle.rt_repair.specs.Converging.{CanSettle, standing_of}
use Rattle.rt_repair.specs.Lasting.{IsRepairOver}
use Rattle.rt_repair.specs.Repairing.{Repairing}
use Rattle.rt_repair.proofs.LastSegment.{last_listed_has}
use Rattle.rt_repair.proofs.Lists.{last_is}

-- ---- the last sequence

abbrev number : Listed → ℕ
number l = l.sequence.0

-- the last of some nodes, of which the sequences are one run, has the run's last number
run_end : (nodes : List Listed) (l : Listed) (d n : ℕ) → last_listed nodes ≡ Some l → map number nodes ≡ range_with_len d n → 0 < n
    → l.sequence.0 + 1 ≡ d + n
run_end nodes l d n last run some =
    let k = length nodes - 1 in
    let counted : length nodes ≡ n = sym (length-map nodes number) ∙ ap length run ∙ length-range_with_len d n in
    let at : slice_get (map number nodes) k ≡ Some l.sequence.0 =
    slice_get-map number nodes k ∙ ap (option_map number) (sym (last_is nodes) ∙ last) in
    let here : get_or (map number nodes) k l.sequence.0 ≡ l.sequence.0 = get_or_from_slice_get (map number nodes) k l.sequence.0 l.sequence.0 at in
    let there : get_or (map number nodes) k l.sequence.0 ≡ d + k =
    ap (λ xs. get_or xs k l.sequence.0) run ∙ get_or-range_with_len d n k l.sequence.0 (omega (arith, counted, some)) in
    omega (arith, counted, some, here, there)

pub last_sequence : (s : Starting) (h : List Seen) (p : Partition) (l : Listed) → IsLawfulHistory s h → p.0 < s.partitions
    → last_listed (metadata_of h p) ≡ Some l → l.sequence.0 + 1 ≡ sequences_of h p
last_sequence s h p l lawful within last =
    let chain = (has_chains s h lawful p within).some in
    let run = (has_listings s h lawful p within).run in
    let end = run_end (metadata_of h p) l (deletions_of h p) (sequences_of h p - deletions_of h p) last run (omega (arith, chain)) in
    omega (arith, end, chain)

-- ---- no entries past it

none_past : (s : Starting) (h : List Seen) (p : Partition) (t : ℕ) → IsLawfulHistory s h → p.0 < s.partitions → sequences_of h p ≤ t
    → has_entry (entries_of h) p (record { 0 = t }) ≡ false
none_past s h p t lawful within past = false_from_ne_true (has_entry (entries_of h) p (record { 0 = t })) never
  where
    never : has_entry (entries_of h) p (record { 0 = t }) ≡ true → ⊥
    never has =
        let there = has_ideal_state s h lawful in
        let w = there.0 in
        let of_key = value_has h key.Ideal w there.2 in
        let same : entries_of h ≡ entries_by w.node = ap entries_in (value_of-last h key.Ideal w there.2).0 in
        let named = entry_names (entries_of h) p (record { 0 = t }) has in
        let E : List IdealEntry → Type 0 = λ es. Has es named.0 in
        let ground = has_grounded_entries s h lawful w (record { has = of_key.0; is_ideal = of_key.1 }) named.0 (subst E same named.1) in
        let made = ground.created in
        let at : node_key named.0.partition named.0.sequence.0 ≡ node_key p t =
        ap (λ q. node_key q named.0.sequence.0) named.2 ∙ ap (node_key p) named.3 in
        (has_chains s h lawful p within).uncreated t made.0 past made.1 (made.2 ∙ at)

-- ---- the last segment has entries, or comes next

open_listed : (s : Starting) (h : List Seen) (p : Partition) (l : Listed) → IsLawfulHistory s h → p.0 < s.partitions
    → Has (metadata_of h p) l → IsOpenNow h p l.sequence.0 → IsInProgress l.seen.meta.status
open_listed s h p l lawful within has (w, last, open_node) =
    let value = (has_listings s h lawful p within).values l has in
    let stands = (value_of-last h (node_key p l.sequence.0) (listed_write p l) value).0 in
    let same : w ≡ listed_write p l = same_Some w (listed_write p l) (sym last ∙ stands) in
    let O : Seen → Type 0 = λ v. IsOpen v.node in
    subst O same open_node

abbrev Stands : Repairing → List IdealEntry → Listed → Type 0
Stands r es l =
    (has_entry es r.partition l.sequence ≡ true) ⊎ (IsInProgress l.seen.meta.status × (goes_on es r.partition l.sequence.0 ≡ true))

stands_by : (s : Starting) (h : List Seen) (r : Repairing) (l : Listed) → IsLawfulHistory s h → r.partition.0 < s.partitions
    → Has (metadata_of h r.partition) l → l.sequence.0 + 1 ≡ sequences_of h r.partition → ReachesLast h r.partition
    → Stands r (entries_of h) l
stands_by s h r l lawful within has end k = by_last k.last
  where
    H : ℕ → Type 0
    H t = has_entry (entries_of h) r.partition (record { 0 = t }) ≡ true

    by_last : (k.at + 1 ≡ sequences_of h r.partition) ⊎ ((k.at + 2 ≡ sequences_of h r.partition) × IsOpenNow h r.partition (k.at + 1))
        → Stands r (entries_of h) l
    by_last (inl e) = let same : k.at ≡ l.sequence.0 = omega (arith, e, end) in inl (subst H same k.entered)
    by_last (inr (e, now)) =
        let same : k.at + 1 ≡ l.sequence.0 = omega (arith, e, end) in
        let before : k.at ≡ l.sequence.0 - 1 = omega (arith, same) in
        let O : ℕ → Type 0 = IsOpenNow h r.partition in
        let es = entries_of h in
        let other : eqb l.sequence.0 0 ≡ false = ne_eqb l.sequence.0 0 (λ z. omega (arith, z, same)) in
        inr (
          open_listed s h r.partition l lawful within has (subst O same now),
          cond-false (eqb l.sequence.0 0) (not (has_partition es r.partition)) (has_entry es r.partition (record { 0 = l.sequence.0 - 1 })) other
              ∙ subst H before k.entered,
        )

pub can_settle : (setup : Setup) (past : Past) (r : Repairing) → IsSetup setup → IsPast setup past → IsRepairOver setup past r
    → sequences_of past.history r.partition ≤ 4294967290 → (l : Listed) × CanSettle r (standing_of past.history r.partition) l
can_settle setup past r s k i few =
    let h = past.history in
    let p = r.partition in
    let st = starting_of setup in
    let l = last_listed_has st h p k.lawful i.within in
    let end = last_sequence st h p l.0 k.lawful i.within l.1 in
    let counted = ap (λ (is : List Instance). length is) i.instances ∙ (setup_placed setup p s).count in (
      l.0,
      record {
        last = l.1;
        few = omega (arith, end, few);
        some = omega (arith, counted, s.some_replicas);
        none_past = λ t lt. none_past st h p t k.lawful i.within (omega (arith, end, lt));
        stands = stands_by st h r l.0 k.lawful i.within l.2 end (reaches_last setup past p s k i.within);
      },
    )
