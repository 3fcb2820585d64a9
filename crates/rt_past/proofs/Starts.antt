-- The past of a fresh cluster.
use Rattle.std.proofs.Common.{◌≡◌, ◌<◌, ℕ, zero, suc, ◌⊎◌, inl, inr, [], ◌++◌, refl, subst, arith}
use Rattle.std.proofs.lemmas.List.{length-replicate}
use Rattle.rt_base.specs.declared.numbers.Partition.{Partition}
use Rattle.rt_lists.specs.Members.{Has}
use Rattle.rt_lists.proofs.Members.{Has-push_cases, Has-append_cases}
use Rattle.rt_model.specs.declared.ideal_state.IdealEntry.{IdealEntry}
use Rattle.rt_model.specs.declared.node.Seen.{Seen}
use Rattle.rt_model.specs.declared.setup.Setup.{Setup}
use Rattle.rt_model.specs.Starting.{starting_boot, starting_boots, starting_meta, starting_metas, starting_ideal, starting_entries}
use Rattle.rt_model.proofs.Lawful.{start_is_lawful}
use Rattle.rt_store.specs.Contents.{starting_of}
use Rattle.rt_past.specs.Past.{Past}
use Rattle.rt_past.specs.Writes.{IsRightWrite}
use Rattle.rt_past.specs.IsPast.{IsPast, fresh_past}
use Rattle.rt_past.proofs.Entries.{each_consuming}

entries_right : (setup : Setup) (n : ℕ) (e : IdealEntry) → Has (starting_entries (starting_of setup) n) e
    → (e.partition.0 < n) × Has ((starting_of setup).instances e.partition) e.instance
entries_right setup zero e has = absurd has
entries_right setup (suc n) e has =
    let s = starting_of setup in
    let p : Partition = record { 0 = n } in
    let old : (f : IdealEntry) → Has (starting_entries s n) f → (f.partition.0 < suc n) × Has (s.instances f.partition) f.instance =
    λ f h. let r = entries_right setup n f h in (omega (arith, r.0), r.1) in
    each_consuming (λ f. (f.partition.0 < suc n) × Has (s.instances f.partition) f.instance)
    (starting_entries s n) p (record { 0 = 0 }) (s.instances p) (λ i h. (omega arith, h)) old e has

boots_right : (setup : Setup) (a : Past) (n : ℕ) (w : Seen) → Has (starting_boots n) w → IsRightWrite setup a w
boots_right setup a zero w has = absurd has
boots_right setup a (suc n) w has =
    at_case (Has-push_cases (starting_boots n) (starting_boot n) w has) (λ h. boots_right setup a n w h)
  where
    at_case : Has (starting_boots n) w ⊎ (starting_boot n ≡ w) → (Has (starting_boots n) w → IsRightWrite setup a w) → IsRightWrite setup a w
    at_case (inl h) further = further h
    at_case (inr e) further = subst (λ x. IsRightWrite setup a x) e tt

metas_right : (setup : Setup) (a : Past) (n : ℕ) (w : Seen) → Has (starting_metas (starting_of setup) n) w → IsRightWrite setup a w
metas_right setup a zero w has = absurd has
metas_right setup a (suc n) w has =
    at_case (Has-push_cases (starting_metas (starting_of setup) n) (starting_meta (starting_of setup) n) w has) (λ h. metas_right setup a n w h)
  where
    at_case : Has (starting_metas (starting_of setup) n) w ⊎ (starting_meta (starting_of setup) n ≡ w)
        → (Has (starting_metas (starting_of setup) n) w → IsRightWrite setup a w) → IsRightWrite setup a w
    at_case (inl h) further = further h
    at_case (inr e) further = subst (λ x. IsRightWrite setup a x) e refl

start_right : (setup : Setup) (a : Past) (w : Seen) → Has (starting_boots setup.servers ++ starting_metas (starting_of setup) setup.partitions) w ⊎ (starting_ideal (starting_of setup) ≡ w)
    → IsRightWrite setup a w
start_right setup a w (inr e) = subst (λ x. IsRightWrite setup a x) e (λ f has. entries_right setup setup.partitions f has)
start_right setup a w (inl h) = at_case (Has-append_cases (starting_boots setup.servers) (starting_metas (starting_of setup) setup.partitions) w h)
  where
    at_case : Has (starting_boots setup.servers) w ⊎ Has (starting_metas (starting_of setup) setup.partitions) w → IsRightWrite setup a w
    at_case (inl g) = boots_right setup a setup.servers w g
    at_case (inr g) = metas_right setup a setup.partitions w g

pub past_starts : (setup : Setup) → IsPast setup (fresh_past setup)
past_starts setup =
    record {
      partitions = length-replicate setup.partitions [];
      lawful = start_is_lawful (starting_of setup);
      writes = λ w has.
          start_right setup (fresh_past setup) w
          (Has-push_cases (starting_boots setup.servers ++ starting_metas (starting_of setup) setup.partitions) (starting_ideal (starting_of setup)) w has);
      once = tt;
      files = λ f has. absurd has;
      requests = λ q has. absurd has;
      replies = λ r has. absurd has;
      unique = λ q r has other e. absurd has;
    }
