-- Enough retirements of a partition come to `nothing`: each that does something leaves less to retire.
use Rattle.std.proofs.Common.{◌≡◌, ℕ, zero, suc, ◌+◌, ◌*◌, ◌<◌, ◌≤◌, Bool, true, false, List, [], Some, Ok, refl, sym, ◌∙◌, ap, subst, arith, length}
use Rattle.std.specs.Prelude.{◌&&◌, is_some, unwrap_or}
use Rattle.std.proofs.lemmas.Bool.{and_from}
use Rattle.rt_base.specs.declared.numbers.ControllerId.{ControllerId}
use Rattle.rt_base.specs.declared.numbers.Partition.{Partition}
use Rattle.rt_events.specs.declared.event.Event.TheVariants as event
use Rattle.rt_macros.specs.Doing.{Choose, Gives, Happens, Reached, Then}
use Rattle.rt_model.proofs.Lawful.{has_ideal_state}
use Rattle.rt_model.specs.Entries.{entries_by}
use Rattle.rt_model.specs.History.{value_of}
use Rattle.rt_model.specs.Lawful.{IsLawfulHistory}
use Rattle.rt_model.specs.Metadata.{metadata_of}
use Rattle.rt_model.specs.Setup.{IsSetup}
use Rattle.rt_model.specs.declared.node.Key.TheVariants as key
use Rattle.rt_model.specs.declared.node.Seen.{Seen}
use Rattle.rt_model.specs.declared.setup.Setup.{Setup}
use Rattle.rt_nodes.specs.Repairs.{retiring}
use Rattle.rt_repair.proofs.Lists.{lowest_again}
use Rattle.rt_repair.specs.ReadNode.{lowest_node}
use Rattle.rt_repair.specs.Retired.{retire_by}
use Rattle.rt_repair.specs.Retirement.{beginning, retiring_at, Retirement}
use Rattle.rt_safety.proofs.Later.{runs_are_safe}
use Rattle.rt_safety.specs.Runs.{Runs, Turn}
use Rattle.rt_state.proofs.Bounds.{few_sequences}
use Rattle.rt_state.specs.IsSafeWorld.{IsSafeWorld}
use Rattle.rt_state.specs.declared.state.State.{State}
use Rattle.rt_store.proofs.Listing.{value_has}
use Rattle.rt_store.specs.Contents.{starting_of}
use Rattle.rt_heal.proofs.Quiet.{then_parts, told_same}
use Rattle.rt_recovery.specs.Retiring.{goes_on_by, nothing_by, retirements_enough, Goes, LeavesOldOnes, RetireTurn, Retires, RetiresIn, RetiresOf, RetiresUntil, Until}
use Rattle.rt_recovery.proofs.Emptying.{counted, decided_lessens, left_most, left_to_retire}
use Rattle.rt_recovery.proofs.Leaving.{leads_leave, runs_leave}
use Rattle.rt_recovery.proofs.Mending.{mending_still, mending_then, GoesMending}
use Rattle.rt_recovery.proofs.Retiring.{any_runs, listing_runs, of_runs, steppable, Busy, IsFree, IsUnder}
use Rattle.rt_recovery.proofs.Turns.{from_notes}

-- there are more retirements than what is left takes
abbrev pub IsEnough : ℕ → State → Partition → Type 0
IsEnough times w p = 2 * length (metadata_of w.store.writes p) + 1 < times

module _ (c : ControllerId) (p : Partition) where
  until_comes : (times : ℕ) (w : State) (v : Reached) (told : Bool) → IsSafeWorld w → w.store.faults.plan ≡ [] → p.0 < w.setup.partitions → IsFree c p w
      → left_to_retire w.store.writes p < times → RetiresUntil c p times w v (Ok told) → told ≡ true
  until_comes zero w v told safe none within free few h = absurd (omega (arith, few))
  until_comes (suc times) w v told safe none within free few h =
      let t = then_parts (RetiresIn c p 3) (Until (RetiresUntil c p times)) w v told h in
      let y = t.between.world in
      let r = beginning p (unwrap_or w.setup.retention 0) in
      let under : IsUnder c p w r = record { up = free.up; at = free.at; is = ap (retiring w.setup p) free.none } in
      let ideal = has_ideal_state (starting_of w.setup) w.store.writes safe.safe.past.lawful in
      let x = listing_runs c p w t.between t.told r safe none under 0 ideal.0 ideal.2 refl t.came in
      let g = x.on.goes in
      let after = subst (λ (s : Setup). IsLawfulHistory (starting_of s) y.store.writes) g.setup g.safe.safe.past.lawful in
      by_told y t.last t.told after ideal.0 ideal.2 x.made t.further
      (λ less further. until_comes times y t.last told g.safe (g.unplanned none) (subst (λ (s : Setup). p.0 < s.partitions) (sym g.setup) within) x.free less further)
    where
      first : Retirement
      first = beginning p (unwrap_or w.setup.retention 0)

      by_told : (y : State) (l : Reached) (b : Bool) → IsLawfulHistory (starting_of w.setup) y.store.writes → (ideal : Seen)
          → value_of w.store.writes key.Ideal ≡ Some ideal
          → (b ≡ false → Busy c p w.moment w.store.writes y.store.writes (beginning p (unwrap_or w.setup.retention 0)) (lowest_node p (metadata_of w.store.writes p)) ideal)
          → Until (RetiresUntil c p times) b y l (Ok told)
          → (left_to_retire y.store.writes p < times → RetiresUntil c p times y l (Ok told) → told ≡ true) → told ≡ true
      by_told y l true after ideal value made gives again = told_same told true gives.1
      by_told y l false after ideal value made further again =
          let m = made refl in
          let nodes = metadata_of w.store.writes p in
          let less = decided_lessens (starting_of w.setup) w.store.writes y.store.writes first w.moment ideal safe.safe.past.lawful after within value
          (value_has w.store.writes key.Ideal ideal value).1 (retiring_at first w.moment (lowest_node p nodes) ideal)
          (ap (retire_by p (entries_by ideal.node) w.moment first.keep) (sym (lowest_again p nodes))) m.0 m.1 in
          again (omega (arith, less, few)) further

  of_comes : (times : ℕ) (w : State) (v : Reached) (told : Bool) → IsSafeWorld w → w.store.faults.plan ≡ [] → (p.0 < w.setup.partitions → IsEnough times w p)
      → RetiresOf c times p w v (Ok told) → told ≡ true
  of_comes times w v told safe none enough h = by_retention (is_some w.setup.retention) h
    where
      by_retention : (b : Bool) → Choose b (Then (RetiresIn c p 3) (λ ended. RetiresUntil c p times) w) (Gives true w) v (Ok told) → told ≡ true
      by_retention false g = told_same told true g.1
      by_retention true g =
          let t = then_parts (RetiresIn c p 3) (λ ended. RetiresUntil c p times) w v told g in
          let y = t.between.world in
          let e = then_parts (Happens (event.Retain c p)) (λ outcome. Goes (goes_on_by outcome) (nothing_by outcome) (RetiresIn c p 2)) w t.between t.told t.came in
          let k = steppable c p w e.between.world e.told safe e.came.by.0 in
          let within : p.0 < w.setup.partitions = subst (λ (q : Partition). q.0 < w.setup.partitions) k.ready.its k.ready.over.within in
          let x = any_runs c p w t.between t.told safe none t.came in
          let on = x.on.goes in
          until_comes times y t.last told on.safe (on.unplanned none) (subst (λ (s : Setup). p.0 < s.partitions) (sym on.setup) within) x.free
          (omega (arith, left_most y.store.writes p, x.on.fewer, enough within)) t.further

-- ---- all partitions

-- it is noted that each partition below a number came to `nothing`, and the others are listed as they were
record ComesTo (from : State) (i : ℕ) (noted : Bool) (u : State) : Type 0 where
  goes : GoesMending from u
  come : noted ≡ true
  listed : (q : Partition) → i ≤ q.0 → metadata_of u.store.writes q ≡ metadata_of from.store.writes q

module _ (c : ControllerId) (times : ℕ) (from : State) (safe : IsSafeWorld from) (unplanned : from.store.faults.plan ≡ []) (all : LeavesOldOnes from)
    (enough : (p : Partition) → p.0 < from.setup.partitions → IsEnough times from p) where
  comes_more : (i : ℕ) (noted told : Bool) (w : State) (v : Reached) → ComesTo from i noted w → RetireTurn c times i noted w v (Ok told)
      → ComesTo from (i + 1) told v.world
  comes_more i noted told w v k h =
      let p : Partition = record { 0 = i } in
      let t = then_parts (RetiresOf c times p) (λ nothing. Gives (noted && nothing)) w v told h in
      let y = t.between.world in
      let g = k.goes in
      let x = of_runs c p times w t.between t.told g.safe (g.unplanned unplanned) (leads_leave from g.led.0 w safe all g.led.1) t.came in
      let own = of_comes c p times w t.between t.told g.safe (g.unplanned unplanned)
      (λ within.
      let before = enough p (subst (λ (s : Setup). i < s.partitions) g.setup within) in
      omega (arith, before, ap (λ ls. length ls) (k.listed p (omega arith)))) t.came in
      let same = told_same told (noted && t.told) t.further.1 in
      subst (ComesTo from (i + 1) told) (sym (ap (λ (z : Reached). z.world) t.whole ∙ ap (λ (z : Reached). z.world) t.further.0))
      (record {
        goes = mending_then from w y g x.come.goes;
        come = same ∙ and_from noted t.told k.come own;
        listed = λ q past. (x.come.others q (λ e. omega (arith, past, e))).listed ∙ k.listed q (omega (arith, past));
      })

  comes_all : (v : Reached) (told : Bool) → Retires c times from v (Ok told) → told ≡ true
  comes_all v told h =
      let first : ComesTo from 0 true from = record { goes = mending_still from safe; come = refl; listed = λ q past. refl } in
      (from_notes (RetireTurn c times) (ComesTo from) comes_more 0 from.setup.partitions true told from v first h).come

-- from any world of a run on
pub retirements_come : (setup : Setup) (turns : List Turn) (w : State) (v : Reached) (c : ControllerId) (times : ℕ) (told : Bool) → IsSetup setup
    → Runs setup turns w → w.store.faults.plan ≡ []
    → ((p : Partition) → p.0 < w.setup.partitions → 2 * length (metadata_of w.store.writes p) + 1 < times)
    → Retires c times w v (Ok told) → told ≡ true
retirements_come setup turns w v c times told is run none enough h =
    comes_all c times w (runs_are_safe setup turns w is run) none (runs_leave setup turns w is run) enough v told h

-- a partition has far fewer segments than there are numbers
pub retirements_always_come : (setup : Setup) (turns : List Turn) (w : State) (v : Reached) (c : ControllerId) (times : ℕ) (told : Bool) → IsSetup setup
    → Runs setup turns w → w.store.faults.plan ≡ [] → retirements_enough < times → Retires c times w v (Ok told) → told ≡ true
retirements_always_come setup turns w v c times told is run none many h =
    let safe = runs_are_safe setup turns w is run in
    comes_all c times w safe none (runs_leave setup turns w is run)
    (λ p within. omega (arith, counted (starting_of w.setup) w.store.writes p safe.safe.past.lawful within, few_sequences w p safe within, many)) v told h
