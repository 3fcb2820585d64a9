-- A partition of the setup has a last segment, and of the one before it the list says whether it is Done.
use Rattle.std.proofs.Common.{◌≡◌, ◌+◌, ◌-◌, ◌<◌, ◌&&◌, eqb, true, ◌⊎◌, inl, inr, List, [], ◌∷◌, length, Some, refl, sym, ◌∙◌, ap, arith}
use Rattle.std.specs.Prelude.{unwrap_or}
use Rattle.std.proofs.lemmas.List.{length-map}
use Rattle.std.proofs.lemmas.List.FromFn.{length-range_with_len}
use Rattle.std.proofs.lemmas.Bool.{eqb-true, and_parts, or_cases, false≢true}
use Rattle.rt_base.specs.declared.numbers.Partition.{Partition}
use Rattle.rt_base.specs.declared.numbers.Sequence.{Sequence}
use Rattle.rt_lists.specs.Members.{Has}
use Rattle.rt_model.specs.declared.node.Listed.{Listed}
use Rattle.rt_model.specs.declared.node.Seen.{Seen}
use Rattle.rt_model.specs.declared.status.Status.{Status}
use Rattle.rt_model.specs.declared.status.Status.TheVariants.{InProgress, Done, Abandoned}
use Rattle.rt_model.specs.Chain.{deletions_of}
use Rattle.rt_model.specs.Lawful.{IsLawfulHistory}
use Rattle.rt_model.specs.Metadata.{listed_write, metadata_of, sequences_of, IsDoneStatus}
use Rattle.rt_model.specs.Repair.{last_listed}
use Rattle.rt_model.specs.Starting.{Starting}
use Rattle.rt_model.proofs.Lawful.{has_chains}
use Rattle.rt_model.proofs.Listings.{has_listings, listed_has}
use Rattle.rt_repair.specs.ReadNode.{is_done, follows_done}

pub record IsLast (h : List Seen) (p : Partition) (l : Listed) : Type 0 where
  pub last : last_listed (metadata_of h p) ≡ Some l
  pub has : Has h (listed_write p l)

-- a list that isn't empty has a last item
last_of_some : (x : Listed) (xs : List Listed) → (l : Listed) × (last_listed (x ∷ xs) ≡ Some l) × Has (x ∷ xs) l
last_of_some x [] = (x, refl, inl refl)
last_of_some x (y ∷ xs) =
    let r = last_of_some y xs in (r.0, ap (λ o. Some (unwrap_or o x)) r.1, inr r.2)

last_in : (xs : List Listed) → 0 < length xs → (l : Listed) × (last_listed xs ≡ Some l) × Has xs l
last_in [] some = absurd (omega arith)
last_in (x ∷ xs) some = last_of_some x xs

pub last_listed_has :
    (s : Starting) (h : List Seen) (p : Partition) → IsLawfulHistory s h → p.0 < s.partitions
    → (l : Listed) × (last_listed (metadata_of h p) ≡ Some l) × Has (metadata_of h p) l
last_listed_has s h p lawful within =
    let run = (has_listings s h lawful p within).run in
    let chain = (has_chains s h lawful p within).some in
    let counted : length (metadata_of h p) ≡ sequences_of h p - deletions_of h p =
    sym (length-map (metadata_of h p) (λ (l : Listed). l.sequence.0))
    ∙ ap length run
    ∙ length-range_with_len (deletions_of h p) (sequences_of h p - deletions_of h p) in
    last_in (metadata_of h p) (omega (arith, counted, chain))

pub last_segment :
    (s : Starting) (h : List Seen) (p : Partition) → IsLawfulHistory s h → p.0 < s.partitions → (l : Listed) × IsLast h p l
last_segment s h p lawful within =
    let l = last_listed_has s h p lawful within in
    (l.0, record { last = l.1; has = listed_has h p l.0 l.2 })

is_done_status : (status : Status) → is_done status ≡ true → IsDoneStatus status
is_done_status InProgress e = absurd (false≢true e)
is_done_status (Done commit) e = tt
is_done_status Abandoned e = absurd (false≢true e)

-- the segment before one, where the list has it Done
pub before_of : (nodes : List Listed) (s : Sequence) → follows_done nodes s ≡ true
    → (l : Listed) × Has nodes l × (l.sequence.0 + 1 ≡ s.0) × IsDoneStatus l.seen.meta.status
before_of [] s e = absurd (false≢true e)
before_of (l ∷ ls) s e =
    by_place (or_cases (eqb (l.sequence.0 + 1) s.0 && is_done l.seen.meta.status) (follows_done ls s) e) (before_of ls s)
  where
    by_place : ((eqb (l.sequence.0 + 1) s.0 && is_done l.seen.meta.status) ≡ true) ⊎ (follows_done ls s ≡ true)
        → (follows_done ls s ≡ true → (m : Listed) × Has ls m × (m.sequence.0 + 1 ≡ s.0) × IsDoneStatus m.seen.meta.status)
        → (m : Listed) × Has (l ∷ ls) m × (m.sequence.0 + 1 ≡ s.0) × IsDoneStatus m.seen.meta.status
    by_place (inl b) further =
        let parts = and_parts (eqb (l.sequence.0 + 1) s.0) (is_done l.seen.meta.status) b in
        (l, inl refl, eqb-true (l.sequence.0 + 1) s.0 parts.0, is_done_status l.seen.meta.status parts.1)
    by_place (inr f) further = let r = further f in (r.0, inr r.1, r.2, r.3)
