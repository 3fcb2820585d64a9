-- Retirements of each partition, one after the other, leave no segment between the two steps of one.
use Rattle.std.proofs.Common.{◌≡◌, ◌⊎◌, inl, inr, ℕ, zero, suc, ◌+◌, ◌<◌, ◌≤◌, Bool, true, false, cond, not, nat_lt, eqb, List, [], ◌∷◌, ◌++◌, Option, Some, None, Ok, refl, sym, ◌∙◌, ap, subst, arith, length, slice_get}
use Rattle.std.specs.Prelude.{◌&&◌, ◌||◌, is_some, slice_set, unwrap_or, IfSome, IsNone, IsSome}
use Rattle.std.proofs.lemmas.Bool.{and_parts, cases_lt, false≢true, le-ltb, ne_eqb}
use Rattle.std.proofs.lemmas.Option.{same_Some}
use Rattle.rt_base.specs.declared.numbers.ControllerId.{ControllerId}
use Rattle.rt_base.specs.declared.numbers.Moment.{Moment}
use Rattle.rt_base.specs.declared.numbers.Partition.{Partition}
use Rattle.rt_base.specs.declared.numbers.Sequence.{Sequence}
use Rattle.rt_events.specs.declared.event.Event.TheVariants as event
use Rattle.rt_events.specs.declared.outcome.Outcome.{Outcome}
use Rattle.rt_events.specs.declared.outcome.Outcome.TheVariants as told
use Rattle.rt_lists.specs.Members.{Has}
use Rattle.rt_macros.specs.Doing.{Choose, Gives, Happens, Reached, Then}
use Rattle.rt_model.proofs.Entries.{is_of-true}
use Rattle.rt_model.proofs.Histories.{last_write-other, same_partition, value_of-last}
use Rattle.rt_model.proofs.Lawful.{has_ideal_state}
use Rattle.rt_model.proofs.Listings.{listed_value}
use Rattle.rt_model.proofs.Partitions.{node_key-sequence, past_same, sequences_of-more}
use Rattle.rt_model.specs.Entries.{entries_by, entries_in, entries_of, HasEntry}
use Rattle.rt_model.specs.History.{value_in, value_of}
use Rattle.rt_model.specs.Ideal.{has_entry, is_of, next_sequence, remove_segment_of}
use Rattle.rt_model.specs.Lawful.{IsLawfulHistory}
use Rattle.rt_model.specs.Metadata.{listed_write, metadata_of, node_key, sequences_of, IsDoneStatus}
use Rattle.rt_model.specs.Moments.{later}
use Rattle.rt_model.specs.Repair.{are_offline, is_offline, last_listed}
use Rattle.rt_model.specs.Setup.{IsSetup}
use Rattle.rt_model.specs.Starting.{Starting}
use Rattle.rt_model.specs.declared.ideal_state.IdealEntry.{IdealEntry}
use Rattle.rt_model.specs.declared.ideal_state.IdealState.{IdealState}
use Rattle.rt_model.specs.declared.node.Key.TheVariants as key
use Rattle.rt_model.specs.declared.node.Listed.{Listed}
use Rattle.rt_model.specs.declared.node.Node.TheVariants as node
use Rattle.rt_model.specs.declared.node.Seen.{Seen}
use Rattle.rt_model.specs.declared.setup.Setup.{Setup}
use Rattle.rt_model.specs.declared.status.Status.{Status}
use Rattle.rt_model.specs.declared.status.Status.TheVariants.{Abandoned, Done, InProgress}
use Rattle.rt_nodes.specs.Repairs.{retiring, retiring_on}
use Rattle.rt_nodes.specs.declared.chore.Chore.TheVariants.{Retire}
use Rattle.rt_nodes.specs.declared.controller_node.ControllerNode.{ControllerNode}
use Rattle.rt_nodes.specs.declared.server_node.ServerNode.{ServerNode}
use Rattle.rt_nodes.specs.declared.upkeep.Upkeep.{Upkeep}
use Rattle.rt_past.specs.Past.{Past}
use Rattle.rt_repair.proofs.Growing.{retire_begins_over}
use Rattle.rt_repair.proofs.LastSegment.{last_listed_has}
use Rattle.rt_repair.proofs.Lists.{lowest_again}
use Rattle.rt_repair.proofs.Settling.{last_sequence}
use Rattle.rt_repair.proofs.Standing.{entries_other, entries_written, listed_other}
use Rattle.rt_repair.proofs.Telling.{told_retire}
use Rattle.rt_repair.specs.Lasting.{IsRetireOver}
use Rattle.rt_repair.specs.ReadNode.{listed_again, lowest_listed, lowest_node}
use Rattle.rt_repair.specs.RetireSteps.{Stepped}
use Rattle.rt_repair.specs.Retired.{is_ended, retire_by, retire_node}
use Rattle.rt_repair.specs.Retirement.{beginning, goes, retiring_at, IsUnended, Retirement}
use Rattle.rt_repair.specs.Setting.{retire_write, retire_write_at, retire_write_by}
use Rattle.rt_repair.specs.Told.{retire_stepped, IsLeft as HasLeftSo}
use Rattle.rt_repair.specs.declared.read_node.ReadNode.{ReadNode}
use Rattle.rt_repair.specs.declared.retirement.RetireStage.{RetireStage}
use Rattle.rt_repair.specs.declared.retirement.RetireStage.TheVariants as stage
use Rattle.rt_repair.specs.declared.retiring.RetireStep.TheVariants as step
use Rattle.rt_repair.specs.declared.retiring.Retiring.{Retiring}
use Rattle.rt_repair.specs.declared.retiring.Retiring.TheVariants as decision
use Rattle.rt_safety.proofs.JobsOn.{own_slot}
use Rattle.rt_safety.proofs.Later.{runs_are_safe}
use Rattle.rt_safety.proofs.Runs.{leads_safe}
use Rattle.rt_safety.specs.Runs.{happens, Leads, Runs, Turn}
use Rattle.rt_state.proofs.NeedsNodes.{retention_kept}
use Rattle.rt_state.proofs.Possible.{then_passed}
use Rattle.rt_state.specs.IsSafe.{past_of}
use Rattle.rt_state.specs.IsSafeWorld.{IsSafeWorld}
use Rattle.rt_state.specs.Repairs.{after_upkeep, chore_by, find_upkeep, upkeep_at, upkeep_in, KeepsAt}
use Rattle.rt_state.specs.declared.cost.Cost.{Cost}
use Rattle.rt_state.specs.declared.state.State.{State}
use Rattle.rt_store.specs.Contents.{starting_of}
use Rattle.rt_store.specs.Meaning.{Told}
use Rattle.rt_world.proofs.KeepsRepairs.{chore_begins, found_within, upkeep_there}
use Rattle.rt_world.specs.Step.{Steps}
use Rattle.rt_heal.proofs.Quiet.{then_parts, told_same}
use Rattle.rt_heal.specs.Mended.{NeedsNoRepair}
use Rattle.rt_heal.specs.Turned.{NoneHalfRetired}
use Rattle.rt_calm.proofs.Keeping.{servers_up}
use Rattle.rt_calm.proofs.Leading.{leads_put}
use Rattle.rt_recovery.specs.Retiring.{goes_further, goes_on_by, nothing_by, Goes, HasRetired as HasRetiredAll, IsLeft, LeavesOldOnes, Retires, RetiresIn, RetiresOf, RetiresUntil, RetireTurn, Until}
use Rattle.rt_recovery.proofs.Apart.{SameAt}
use Rattle.rt_recovery.proofs.Leaving.{leads_leave, left_decided, runs_leave, same_listed}
use Rattle.rt_recovery.proofs.Mending.{mending_still, mending_then, needs_kept, put_none, same_last, same_of, same_of_then, GoesMending, IsSameLast, IsSameOf}
use Rattle.rt_recovery.proofs.Emptying.{no_more_listed}
use Rattle.rt_recovery.proofs.Retired.{by_tests, listing_writes, lists, reading_writes, reads, retire_wrote, retire_writes_for, stepped_to, unplanned_at, writing_ends, HasRetired, Wrote}
use Rattle.rt_recovery.proofs.Turns.{from_notes}
use Rattle.rt_recovery.proofs.Written.{leads_before}

-- ---- what a retirement leaves of the partitions

and_false : (a : Bool) → (a && false) ≡ false
and_false true = refl
and_false false = refl

-- segments of which none is removed
kept_at : (o : Partition) (t : Sequence) (p : Partition) (s : Sequence) → ((e : IdealEntry) → is_of p s e ≡ true → is_of o t e ≡ false) → (es : List IdealEntry)
    → SameAt o t es (remove_segment_of es p s)
kept_at o t p s apart [] = record { has = refl; off = refl }
kept_at o t p s apart (e ∷ es) = by_test (is_of p s e) refl (kept_at o t p s apart es)
  where
    by_test : (b : Bool) → is_of p s e ≡ b → SameAt o t es (remove_segment_of es p s)
        → SameAt o t (e ∷ es) (cond (not b) (e ∷ remove_segment_of es p s) (remove_segment_of es p s))
    by_test false own k =
        record {
          has = ap (λ (b : Bool). is_of o t e || b) k.has;
          off = ap (λ (b : Bool). (not (is_of o t e) || is_offline e.mode) && b) k.off;
        }
    by_test true own k =
        let none = apart e own in
        record {
          has = k.has ∙ sym (ap (λ (b : Bool). b || has_entry es o t) none);
          off = k.off ∙ sym (ap (λ (b : Bool). (not b || is_offline e.mode) && are_offline es o t) none);
        }

other_partition : (o : Partition) (t : Sequence) (p : Partition) (s : Sequence) → (o.0 ≡ p.0 → ⊥) → (e : IdealEntry) → is_of p s e ≡ true → is_of o t e ≡ false
other_partition o t p s other e own =
    let at = (is_of-true p s e own).0 in
    ap (λ (b : Bool). b && eqb e.sequence.0 t.0) (ne_eqb e.partition.0 o.0 (λ same. other (sym same ∙ ap (λ (q : Partition). q.0) at)))

other_segment : (p : Partition) (t s : Sequence) → (t.0 ≡ s.0 → ⊥) → (e : IdealEntry) → is_of p s e ≡ true → is_of p t e ≡ false
other_segment p t s other e own =
    let at = (is_of-true p s e own).1 in
    ap (λ (b : Bool). eqb e.partition.0 p.0 && b) (ne_eqb e.sequence.0 t.0 (λ same. other (sym same ∙ at))) ∙ and_false (eqb e.partition.0 p.0)

meta_not_ideal : (p : Partition) (q : Sequence) → key.Meta p q ≡ key.Ideal → ⊥
meta_not_ideal p q e = cc

same_place : (p o : Partition) (a b : Sequence) → key.Meta p a ≡ key.Meta o b → p ≡ o
same_place p o a b e = cc

same_entries : (p : Partition) (t : Sequence) (es fs : List IdealEntry) → fs ≡ es → SameAt p t es fs
same_entries p t es fs same = record { has = ap (λ (x : List IdealEntry). has_entry x p t) same; off = ap (λ (x : List IdealEntry). are_offline x p t) same }

retired_others : (p : Partition) (now : Moment) (keep : ℕ) (h g : List Seen) → HasRetired p now keep h g → (o : Partition) → (o.0 ≡ p.0 → ⊥) → IsSameOf o h g
retired_others p now keep h g (inl same) o other = same_of o h g same
retired_others p now keep h g (inr (w, more, inl r)) o other =
    subst (IsSameOf o h) (sym more)
    (record {
      listed = listed_other h w o (λ t e. meta_not_ideal o (record { 0 = t }) (sym e ∙ r.at));
      entries = λ t.
          subst (SameAt o t (entries_of h)) (sym (entries_written h w r.at ∙ ap entries_by r.is ∙ r.left))
          (kept_at o t p r.segment.sequence (other_partition o t p r.segment.sequence other) (entries_of h));
    })
retired_others p now keep h g (inr (w, more, inr d)) o other =
    let place : Sequence = record { 0 = d.segment.sequence.0 } in
    subst (IsSameOf o h) (sym more)
    (record {
      listed = listed_other h w o (λ t e. other (ap (λ (q : Partition). q.0) (sym (same_place p o place (record { 0 = t }) (sym d.at ∙ e)))));
      entries = λ t. same_entries o t (entries_of h) (entries_of (h ++ w ∷ [])) (entries_other h w (λ e. meta_not_ideal p place (sym d.at ∙ e)));
    })

-- the last segment of its own partition stays as it is
retired_last : (s : Starting) (p : Partition) (now : Moment) (keep : ℕ) (h g : List Seen) → IsLawfulHistory s h → IsLawfulHistory s g → p.0 < s.partitions
    → HasRetired p now keep h g → IsSameLast p h g
retired_last s p now keep h g lawful after within (inl same) = same_last p h g (same_of p h g same)
retired_last s p now keep h g lawful after within (inr (w, more, inl r)) =
    subst (IsSameLast p h) (sym more)
    (record {
      last = ap last_listed (listed_other h w p (λ t e. meta_not_ideal p (record { 0 = t }) (sym e ∙ r.at)));
      entries = λ l last.
          let end = last_sequence s h p l lawful within last in
          subst (SameAt p l.sequence (entries_of h)) (sym (entries_written h w r.at ∙ ap entries_by r.is ∙ r.left))
          (kept_at p l.sequence p r.segment.sequence (other_segment p l.sequence r.segment.sequence (λ e. omega (arith, e, end, r.lowest.followed))) (entries_of h));
    })
retired_last s p now keep h g lawful after within (inr (w, more, inr d)) =
    subst (IsSameLast p h) (sym more)
    (record {
      last = lasts.1 ∙ ap (λ (x : Listed). Some x) same ∙ sym was.1;
      entries = λ l last. same_entries p l.sequence (entries_of h) (entries_of (h ++ w ∷ [])) (entries_other h w (λ e. meta_not_ideal p (record { 0 = d.segment.sequence.0 }) (sym d.at ∙ e)));
    })
  where
    grown : IsLawfulHistory s (h ++ w ∷ [])
    grown = subst (IsLawfulHistory s) more after

    was : (l : Listed) × (last_listed (metadata_of h p) ≡ Some l) × Has (metadata_of h p) l
    was = last_listed_has s h p lawful within

    lasts : (l : Listed) × (last_listed (metadata_of (h ++ w ∷ []) p) ≡ Some l) × Has (metadata_of (h ++ w ∷ []) p) l
    lasts = last_listed_has s (h ++ w ∷ []) p grown within

    count : sequences_of (h ++ w ∷ []) p ≡ sequences_of h p
    count = omega (arith, sequences_of-more h w p, (past_same p w.key d.segment.sequence.0 d.at).0, d.lowest.followed)

    number : lasts.0.sequence.0 ≡ was.0.sequence.0
    number = omega (arith, last_sequence s h p was.0 lawful within was.1, last_sequence s (h ++ w ∷ []) p lasts.0 grown within lasts.1, count)

    apart : w.key ≡ node_key p was.0.sequence.0 → ⊥
    apart e =
        let own : d.segment.sequence.0 ≡ was.0.sequence.0 = node_key-sequence p d.segment.sequence.0 was.0.sequence.0 (sym d.at ∙ e) in
        omega (arith, own, last_sequence s h p was.0 lawful within was.1, d.lowest.followed)

    value : value_of (h ++ w ∷ []) (node_key p lasts.0.sequence.0) ≡ value_of h (node_key p was.0.sequence.0)
    value =
        ap (λ (q : ℕ). value_of (h ++ w ∷ []) (node_key p q)) number ∙ ap value_in (last_write-other h w (node_key p was.0.sequence.0) apart)

    same : lasts.0 ≡ was.0
    same =
        same_listed p lasts.0 was.0 number
        (same_Some (listed_write p lasts.0) (listed_write p was.0)
        (sym (listed_value (h ++ w ∷ []) p lasts.0 lasts.2) ∙ value ∙ listed_value h p was.0 was.2))

-- ---- a step

-- the events of a partition leave the others, and the last segment of their own
pub record RetiresOn (p : Partition) (w v : State) : Type 0 where
  pub goes : GoesMending w v
  pub others : (o : Partition) → (o.0 ≡ p.0 → ⊥) → IsSameOf o w.store.writes v.store.writes
  pub own : IsSameLast p w.store.writes v.store.writes
  pub fewer : length (metadata_of v.store.writes p) ≤ length (metadata_of w.store.writes p)

last_then : (p : Partition) (h g f : List Seen) → IsSameLast p h g → IsSameLast p g f → IsSameLast p h f
last_then p h g f a b =
    record {
      last = b.last ∙ a.last;
      entries = λ l last.
          let first = a.entries l last in
          let second = b.entries l (a.last ∙ last) in
          record { has = second.has ∙ first.has; off = second.off ∙ first.off };
    }

on_then : (p : Partition) (w m v : State) → RetiresOn p w m → RetiresOn p m v → RetiresOn p w v
on_then p w m v x y =
    record {
      goes = mending_then w m v x.goes y.goes;
      others = λ o other. same_of_then o w.store.writes m.store.writes v.store.writes (x.others o other) (y.others o other);
      own = last_then p w.store.writes m.store.writes v.store.writes x.own y.own;
      fewer = omega (arith, x.fewer, y.fewer);
    }

on_still : (p : Partition) (w : State) → IsSafeWorld w → RetiresOn p w w
on_still p w safe =
    record {
      goes = mending_still w safe;
      others = λ o other. same_of o w.store.writes w.store.writes refl;
      own = same_last p w.store.writes w.store.writes (same_of p w.store.writes w.store.writes refl);
      fewer = omega arith;
    }

-- this retirement steps next
pub record IsUnder (c : ControllerId) (p : Partition) (w : State) (r : Retirement) : Type 0 where
  pub up : Upkeep
  pub at : upkeep_at w c p ≡ Some up
  pub is : retiring w.setup p up.retirement ≡ r

pub record IsReady (setup : Setup) (past : Past) (p : Partition) (r : Retirement) : Type 0 where
  pub its : r.partition ≡ p
  pub over : IsRetireOver setup past r
  pub unended : IsUnended r.stage

begins_ready : (setup : Setup) (past : Past) (p : Partition) (o : Option Retirement) → p.0 < setup.partitions → (IsNone o → IsSome setup.retention)
    → IfSome o (IsRetireOver setup past) → IfSome o (λ r. r.partition.0 ≡ p.0) → IfSome o (λ r. IsUnended r.stage) → IsReady setup past p (retiring setup p o)
begins_ready setup past p None within set over its unended =
    record { its = refl; over = retire_begins_over setup past p _ within (retention_kept setup.retention (set refl)); unended = tt }
begins_ready setup past p (Some r) within set over its unended = record { its = same_partition r.partition p its; over = over; unended = unended }

record HasStepped (c : ControllerId) (p : Partition) (w y : State) (o : Outcome) (r : Retirement) : Type 0 where
  stepped : Stepped
  left : y.store ≡ (retire_stepped w.store r w.moment).told
  gave : (retire_stepped w.store r w.moment).stepped ≡ Some stepped
  tells : o ≡ told.Retired stepped.step
  up : Upkeep
  at : upkeep_at y c p ≡ Some up
  goes_on : up.retirement ≡ retiring_on stepped.retire
  on : RetiresOn p w y
  moment : y.moment ≡ w.moment

module _ (c : ControllerId) (p : Partition) where
  -- that there is a retirement that steps next
  pub record IsSteppable (w : State) : Type 0 where
    pub retirement : Retirement
    pub under : IsUnder c p w retirement
    pub ready : IsReady w.setup (past_of w) p retirement

  pub steppable : (w y : State) (o : Outcome) → IsSafeWorld w → Steps w (event.Retain c p) y (Ok o) → IsSteppable w
  steppable w y o safe (cost, due, h) = by_found (slice_get w.controllers c.0) refl (upkeep_at w c p) refl h
    where
      by_found : (n : Option ControllerNode) → slice_get w.controllers c.0 ≡ n → (u : Option Upkeep) → upkeep_at w c p ≡ u
          → KeepsAt n u w c p Retire cost (y, o) → IsSteppable w
      by_found None there u at h = absurd h
      by_found (Some n) there None at h = absurd h
      by_found (Some n) there (Some old) at h =
          let passed = then_passed (find_upkeep w c p) (chore_by Retire w c (upkeep_at w c p)) cost due in
          let k = upkeep_there w c p n old safe.safe there at in
          record {
            retirement = retiring w.setup p old.retirement;
            under = record { up = old; at = at; is = refl };
            ready =
                begins_ready w.setup (past_of w) p old.retirement (found_within w c p passed.0) (chore_begins w c p Retire old cost at passed.1) k.retirement
                k.retires_its k.retirement_goes;
          }

  module _ (w y : State) (o : Outcome) (r : Retirement) (safe : IsSafeWorld w) (k : IsUnder c p w r) (ready : IsReady w.setup (past_of w) p r)
      (steps : Steps w (event.Retain c p) y (Ok o)) where
    lead : Leads w (happens (event.Retain c p) o ∷ []) y
    lead = (y, (tt, steps), refl)

    after : IsSafeWorld y
    after = leads_safe w (happens (event.Retain c p) o ∷ []) y safe lead

    stepped_by : (n : ControllerNode) (old new : Upkeep) (store : Told) (x : Stepped) (cost : Cost) → slice_get w.controllers c.0 ≡ Some n
        → upkeep_at w c p ≡ Some old → HasLeftSo store x (retire_stepped w.store r w.moment) → new ≡ record old { retirement = retiring_on x.retire }
        → o ≡ told.Retired x.step → y ≡ after_upkeep w c p n new store cost → HasStepped c p w y o r
    stepped_by n old new store x cost there at left put tells is =
        let m : ControllerNode = record n { upkeep = slice_set n.upkeep p.0 new } in
        let controllers : y.controllers ≡ slice_set w.controllers c.0 m = ap (λ (z : State). z.controllers) is in
        let own : y.store ≡ (retire_stepped w.store r w.moment).told = ap (λ (z : State). z.store) is ∙ left.0 in
        let moment : y.moment ≡ w.moment = ap (λ (z : State). z.moment) is in
        let setup : y.setup ≡ w.setup = ap (λ (z : State). z.setup) is in
        let within : p.0 < w.setup.partitions = subst (λ (q : Partition). q.0 < w.setup.partitions) ready.its ready.over.within in
        let written : HasRetired p w.moment r.keep w.store.writes y.store.writes =
        subst (λ (q : Partition). HasRetired q w.moment r.keep w.store.writes y.store.writes) ready.its
        (subst (λ (t : Told). HasRetired r.partition w.moment r.keep w.store.writes t.writes) (sym own)
        (retire_writes_for (starting_of w.setup) w.store r w.moment safe.safe.past.lawful ready.over.within ready.over.remembers)) in
        record {
          stepped = x;
          left = own;
          gave = left.1;
          tells = tells;
          up = new;
          at =
              ap (λ (cs : List ControllerNode). upkeep_in (slice_get cs c.0) p) controllers
              ∙ ap (λ (z : Option ControllerNode). upkeep_in z p) (own_slot w.controllers c.0 n m there)
              ∙ own_slot n.upkeep p.0 old new (ap (λ (z : Option ControllerNode). upkeep_in z p) (sym there) ∙ at);
          goes_on = ap (λ (u : Upkeep). u.retirement) put;
          on = record {
            goes = record {
              safe = after;
              led = (happens (event.Retain c p) o ∷ [], lead);
              servers = ap (λ (z : State). z.servers) is;
              leads = leads_put w y c n m there controllers refl refl;
              none = put_none w y c n m refl there controllers;
              unplanned = λ none. ap (λ (t : Told). t.faults.plan) own ∙ unplanned_at w.store r w.moment r.stage none;
              setup = setup;
              log = ap (λ (z : State). z.log) is;
              deep = ap (λ (z : State). z.deep) is;
              moment = omega (arith, ap (λ (z : Moment). z.0) moment);
              before = λ before. leads_before w (happens (event.Retain c p) o ∷ []) y before lead;
            };
            others = retired_others p w.moment r.keep w.store.writes y.store.writes written;
            own =
                retired_last (starting_of w.setup) p w.moment r.keep w.store.writes y.store.writes safe.safe.past.lawful
                (subst (λ (z : Setup). IsLawfulHistory (starting_of z) y.store.writes) setup after.safe.past.lawful) within written;
            fewer =
                no_more_listed (starting_of w.setup) p w.moment r.keep w.store.writes y.store.writes safe.safe.past.lawful
                (subst (λ (z : Setup). IsLawfulHistory (starting_of z) y.store.writes) setup after.safe.past.lawful) within written;
          };
          moment = moment;
        }

    steps_so : HasStepped c p w y o r
    steps_so = by_steps steps
      where
        by_found : (cost : Cost) (n : Option ControllerNode) → slice_get w.controllers c.0 ≡ n → (u : Option Upkeep) → upkeep_at w c p ≡ u
            → KeepsAt n u w c p Retire cost (y, o) → HasStepped c p w y o r
        by_found cost None there u at h = absurd h
        by_found cost (Some n) there None at h = absurd h
        by_found cost (Some n) there (Some old) at (new, store, (did, (after_it, steps, put), tells), is) =
            let x : Stepped = record { retire = after_it; step = did } in
            let same : old ≡ k.up = same_Some old k.up (sym at ∙ k.at) in
            let own : retiring w.setup p old.retirement ≡ r = ap (λ (u : Upkeep). retiring w.setup p u.retirement) same ∙ k.is in
            let left = told_retire w.store store (retiring w.setup p old.retirement) w.moment x steps in
            stepped_by n old new store x cost there at (subst (λ (z : Retirement). HasLeftSo store x (retire_stepped w.store z w.moment)) own left) put tells is

        by_steps : Steps w (event.Retain c p) y (Ok o) → HasStepped c p w y o r
        by_steps (cost, due, h) = by_found cost (slice_get w.controllers c.0) refl (upkeep_at w c p) refl h

  -- ---- a retirement up to its end

  -- nothing is under way
  pub record IsFree (w : State) : Type 0 where
    pub up : Upkeep
    pub at : upkeep_at w c p ≡ Some up
    pub none : up.retirement ≡ None

  -- it has come to its end; and this is so where it tells `nothing`, and that where it tells something else
  pub record HasRun (w v : State) (told : Bool) (Fact Made : Type 0) : Type 0 where
    pub on : RetiresOn p w v
    pub moment : v.moment ≡ w.moment
    pub free : IsFree v
    pub fact : told ≡ true → Fact
    pub made : told ≡ false → Made

  same_under : (w : State) (a b : Retirement) → IsUnder c p w a → IsUnder c p w b → a ≡ b
  same_under w a b x y = sym x.is ∙ ap (λ (u : Upkeep). retiring w.setup p u.retirement) (same_Some x.up y.up (sym x.at ∙ y.at)) ∙ y.is

  -- the step that comes next
  step_next : (w y : State) (o : Outcome) (r : Retirement) → IsSafeWorld w → IsUnder c p w r → Steps w (event.Retain c p) y (Ok o) → HasStepped c p w y o r
  step_next w y o r safe k steps =
      let q = steppable w y o safe steps in
      steps_so w y o r safe k (subst (IsReady w.setup (past_of w) p) (same_under w q.retirement r q.under k) q.ready) steps

  -- nothing was decided of this, and nothing is written
  abbrev pub Quiet : State → State → Retirement → Option Listed → Type 0
  Quiet w v r o =
      (retire_by r.partition (entries_of w.store.writes) w.moment r.keep o ≡ decision.Nothing) × (v.store.writes ≡ w.store.writes)

  -- something was decided of this, and written, if the store didn't refuse it
  abbrev pub Busy : Moment → List Seen → List Seen → Retirement → Option ReadNode → Seen → Type 0
  Busy now h g r lowest ideal =
      (retiring_at r now lowest ideal ≡ decision.Nothing → ⊥) × Wrote h g (retire_write_by r lowest ideal (retiring_at r now lowest ideal))

  same_write : (r : Retirement) (at : RetireStage) (lowest : Option ReadNode) (ideal : Seen) (d : Retiring)
      → retire_write_by (goes r at) lowest ideal d ≡ retire_write_by r lowest ideal d
  same_write r at lowest ideal decision.Nothing = refl
  same_write r at lowest ideal (decision.Remove s) = refl
  same_write r at lowest ideal (decision.Delete s) = refl

  busy_back : (m now : Moment) (f h g : List Seen) (r : Retirement) (at : RetireStage) (lowest : Option ReadNode) (ideal : Seen) → m ≡ now → f ≡ h
      → Busy m f g (goes r at) lowest ideal → Busy now h g r lowest ideal
  busy_back m now f h g r at lowest ideal same_moment same_history k =
      subst (λ (x : Moment). Busy x h g r lowest ideal) same_moment
      (subst (λ (x : List Seen). Busy m x g r lowest ideal) same_history
      (k.0, subst (Wrote f g) (same_write r at lowest ideal (retiring_at r m lowest ideal)) k.1))

  module _ (w : State) (v : Reached) (told : Bool) (r : Retirement) (safe : IsSafeWorld w) (none : w.store.faults.plan ≡ []) (k : IsUnder c p w r) where
    writing_runs : (n : ℕ) (lowest : Option ReadNode) (ideal : Seen) → r.stage ≡ stage.Writing lowest ideal → RetiresIn c p (suc n) w v (Ok told)
        → HasRun w v.world told ((retiring_at r w.moment lowest ideal ≡ decision.Nothing) × (v.world.store.writes ≡ w.store.writes))
        (Busy w.moment w.store.writes v.world.store.writes r lowest ideal)
    writing_runs n lowest ideal at h =
        let t = then_parts (Happens (event.Retain c p)) (λ outcome. Goes (goes_on_by outcome) (nothing_by outcome) (RetiresIn c p n)) w v told h in
        let y = t.between.world in
        let s = step_next w y t.told r safe k t.came.by.0 in
        let e = writing_ends w.store r w.moment lowest ideal s.stepped at s.gave in
        let off : goes_on_by t.told ≡ false = ap goes_on_by s.tells ∙ e.tells in
        let stays = subst (λ (b : Bool). Goes b (nothing_by t.told) (RetiresIn c p n) y t.last (Ok told)) off t.further in
        let same = told_same told (nothing_by t.told) stays.1 in
        subst (λ (x : State). HasRun w x told ((retiring_at r w.moment lowest ideal ≡ decision.Nothing) × (x.store.writes ≡ w.store.writes))
        (Busy w.moment w.store.writes x.store.writes r lowest ideal))
        (sym (ap (λ (z : Reached). z.world) t.whole ∙ ap (λ (z : Reached). z.world) stays.0))
        (record {
          on = s.on;
          moment = s.moment;
          free = record { up = s.up; at = s.at; none = s.goes_on ∙ ap retiring_on e.ended };
          fact = λ says.
              let k = e.nothing (sym (ap nothing_by s.tells) ∙ sym same ∙ says) in
              (k.0, ap (λ (x : Told). x.writes) s.left ∙ k.1);
          made = λ says. (
            λ quiet. false≢true (sym says ∙ same ∙ ap nothing_by s.tells ∙ e.quiet quiet),
            subst (Wrote w.store.writes y.store.writes) (ap (retire_write_at r w.moment) at)
                (subst (λ (u : Told). Wrote w.store.writes u.writes (retire_write r w.moment)) (sym s.left) (retire_wrote w.store r w.moment none)),
          );
        })

  module _ (w : State) (v : Reached) (told : Bool) (r : Retirement) (safe : IsSafeWorld w) (none : w.store.faults.plan ≡ []) (k : IsUnder c p w r) where
    reading_runs : (n : ℕ) (lowest : Option ReadNode) (ideal : Seen) → value_of w.store.writes key.Ideal ≡ Some ideal → r.stage ≡ stage.Reading lowest
        → RetiresIn c p (suc (suc n)) w v (Ok told)
        → HasRun w v.world told (Quiet w v.world r (listed_again lowest)) (Busy w.moment w.store.writes v.world.store.writes r lowest ideal)
    reading_runs n lowest ideal value at h =
        let t = then_parts (Happens (event.Retain c p)) (λ outcome. Goes (goes_on_by outcome) (nothing_by outcome) (RetiresIn c p (suc n))) w v told h in
        let y = t.between.world in
        let s = step_next w y t.told r safe k t.came.by.0 in
        let entries : entries_of w.store.writes ≡ entries_by ideal.node = ap entries_in (value_of-last w.store.writes key.Ideal ideal value).0 in
        let next = goes r (stage.Writing lowest ideal) in
        let e = reads w.store r w.moment lowest ideal at none value in
        let is : s.stepped ≡ stepped_to r (stage.Writing lowest ideal) step.IdealRead = same_Some _ _ (sym s.gave ∙ e) in
        let on : goes_on_by t.told ≡ true = ap goes_on_by s.tells ∙ ap (λ (x : Stepped). goes_further x.step) is in
        let further = subst (λ (b : Bool). Goes b (nothing_by t.told) (RetiresIn c p (suc n)) y t.last (Ok told)) on t.further in
        let under : IsUnder c p y next =
        record { up = s.up; at = s.at; is = ap (retiring y.setup p) (s.goes_on ∙ ap (λ (x : Stepped). retiring_on x.retire) is) } in
        let rest = writing_runs y t.last told next s.on.goes.safe (s.on.goes.unplanned none) under n lowest ideal refl further in
        let unwritten : y.store.writes ≡ w.store.writes = ap (λ (x : Told). x.writes) s.left ∙ reading_writes w.store r w.moment lowest at in
        subst (λ (x : State). HasRun w x told (Quiet w x r (listed_again lowest)) (Busy w.moment w.store.writes x.store.writes r lowest ideal)) (sym (ap (λ (z : Reached). z.world) t.whole))
        (record {
          on = on_then p w y t.last.world s.on rest.on;
          moment = rest.moment ∙ s.moment;
          free = rest.free;
          fact = λ says.
              let f = rest.fact says in (
                ap (λ (es : List IdealEntry). retire_by r.partition es w.moment r.keep (listed_again lowest)) entries
                    ∙ ap (λ (now : Moment). retire_by r.partition (entries_by ideal.node) now r.keep (listed_again lowest)) (sym s.moment) ∙ f.0,
                f.1 ∙ unwritten,
              );
          made = λ says.
              busy_back y.moment w.moment y.store.writes w.store.writes t.last.world.store.writes r (stage.Writing lowest ideal) lowest ideal s.moment unwritten
              (rest.made says);
        })

  module _ (w : State) (v : Reached) (told : Bool) (r : Retirement) (safe : IsSafeWorld w) (none : w.store.faults.plan ≡ []) (k : IsUnder c p w r) where
    pub listing_runs : (n : ℕ) (ideal : Seen) → value_of w.store.writes key.Ideal ≡ Some ideal → r.stage ≡ stage.Listing → RetiresIn c p (suc (suc (suc n))) w v (Ok told)
        → HasRun w v.world told (Quiet w v.world r (lowest_listed (metadata_of w.store.writes r.partition)))
        (Busy w.moment w.store.writes v.world.store.writes r (lowest_node r.partition (metadata_of w.store.writes r.partition)) ideal)
    listing_runs n ideal value at h =
        let t = then_parts (Happens (event.Retain c p)) (λ outcome. Goes (goes_on_by outcome) (nothing_by outcome) (RetiresIn c p (suc (suc n)))) w v told h in
        let y = t.between.world in
        let s = step_next w y t.told r safe k t.came.by.0 in
        let nodes = metadata_of w.store.writes r.partition in
        let lowest = lowest_node r.partition nodes in
        let next = goes r (stage.Reading lowest) in
        let e = lists w.store r w.moment at none in
        let is : s.stepped ≡ stepped_to r (stage.Reading lowest) step.Listed = same_Some _ _ (sym s.gave ∙ e) in
        let on : goes_on_by t.told ≡ true = ap goes_on_by s.tells ∙ ap (λ (x : Stepped). goes_further x.step) is in
        let further = subst (λ (b : Bool). Goes b (nothing_by t.told) (RetiresIn c p (suc (suc n))) y t.last (Ok told)) on t.further in
        let under : IsUnder c p y next =
        record { up = s.up; at = s.at; is = ap (retiring y.setup p) (s.goes_on ∙ ap (λ (x : Stepped). retiring_on x.retire) is) } in
        let unwritten : y.store.writes ≡ w.store.writes = ap (λ (x : Told). x.writes) s.left ∙ listing_writes w.store r w.moment at in
        let rest = reading_runs y t.last told next s.on.goes.safe (s.on.goes.unplanned none) under n lowest ideal
        (ap (λ (h : List Seen). value_of h key.Ideal) unwritten ∙ value) refl further in
        subst (λ (x : State). HasRun w x told (Quiet w x r (lowest_listed nodes)) (Busy w.moment w.store.writes x.store.writes r lowest ideal)) (sym (ap (λ (z : Reached). z.world) t.whole))
        (record {
          on = on_then p w y t.last.world s.on rest.on;
          moment = rest.moment ∙ s.moment;
          free = rest.free;
          fact = λ says.
              let f = rest.fact says in (
                ap (λ (h : List Seen). retire_by r.partition (entries_of h) w.moment r.keep (lowest_listed nodes)) (sym unwritten)
                    ∙ ap (λ (now : Moment). retire_by r.partition (entries_of y.store.writes) now r.keep (lowest_listed nodes)) (sym s.moment)
                    ∙ ap (retire_by r.partition (entries_of y.store.writes) y.moment r.keep) (sym (lowest_again r.partition nodes)) ∙ f.0,
                f.1 ∙ unwritten,
              );
          made = λ says.
              busy_back y.moment w.moment y.store.writes w.store.writes t.last.world.store.writes r (stage.Reading lowest) lowest ideal s.moment unwritten
              (rest.made says);
        })

  -- wherever it stands
  pub record HasCome (w v : State) : Type 0 where
    pub on : RetiresOn p w v
    pub free : IsFree v

  pub any_runs : (w : State) (v : Reached) (told : Bool) → IsSafeWorld w → w.store.faults.plan ≡ [] → RetiresIn c p 3 w v (Ok told) → HasCome w v.world
  any_runs w v told safe none h =
      let t = then_parts (Happens (event.Retain c p)) (λ outcome. Goes (goes_on_by outcome) (nothing_by outcome) (RetiresIn c p 2)) w v told h in
      let k = steppable w t.between.world t.told safe t.came.by.0 in
      by_stage k.retirement k.under k.retirement.stage refl k.ready.unended
    where
      ideal : (x : Seen) × (i : IdealState) × (value_of w.store.writes key.Ideal ≡ Some x) × (x.node ≡ node.Ideal i)
      ideal = has_ideal_state (starting_of w.setup) w.store.writes safe.safe.past.lawful

      come : {F G : Type 0} → HasRun w v.world told F G → HasCome w v.world
      come x = record { on = x.on; free = x.free }

      by_stage : (r : Retirement) → IsUnder c p w r → (at : RetireStage) → r.stage ≡ at → IsUnended at → HasCome w v.world
      by_stage r k stage.Listing at unended = come (listing_runs w v told r safe none k 0 ideal.0 ideal.2 at h)
      by_stage r k (stage.Reading lowest) at unended = come (reading_runs w v told r safe none k 1 lowest ideal.0 ideal.2 at h)
      by_stage r k (stage.Writing lowest read) at unended = come (writing_runs w v told r safe none k 2 lowest read at h)
      by_stage r k stage.Ended at unended = absurd unended

  -- ---- up to `nothing`

  deleted_by : (ended young there next : Bool) (q : Sequence) → ended ≡ true → young ≡ false → there ≡ false → by_tests ended young there next q ≡ decision.Nothing → ⊥
  deleted_by true false false next q a b d e = cc
  deleted_by false young there next q a b d e = false≢true a
  deleted_by true true there next q a b d e = false≢true (sym b)
  deleted_by true false true next q a b d e = false≢true (sym d)

  done_ended : (st : Status) → IsDoneStatus st → is_ended st ≡ true
  done_ended InProgress done = absurd done
  done_ended (Done commit) done = refl
  done_ended Abandoned done = absurd done

  -- where a retirement that begins decides nothing, no segment is left without entries
  none_left : (w : State) → IsSafeWorld w → LeavesOldOnes w → p.0 < w.setup.partitions
      → retire_by p (entries_of w.store.writes) w.moment (unwrap_or w.setup.retention 0) (lowest_listed (metadata_of w.store.writes p)) ≡ decision.Nothing
      → NoneHalfRetired w.store.writes p
  none_left w safe all within quiet = λ l has done. by_entry l has done (has_entry (entries_of w.store.writes) p (record { 0 = l.sequence.0 })) refl
    where
      by_entry : (l : Listed) → Has (metadata_of w.store.writes p) l → IsDoneStatus l.seen.meta.status → (b : Bool)
          → has_entry (entries_of w.store.writes) p (record { 0 = l.sequence.0 }) ≡ b → HasEntry (entries_of w.store.writes) p l.sequence.0
      by_entry l has done true e = e
      by_entry l has done false e =
          let left : IsLeft w.store.writes p l = record { listed = has; done = done; none = λ there. false≢true (sym e ∙ there) } in
          let old = all p within l left in
          let first = left_decided w.setup (past_of w) p safe.safe.setup safe.safe.past within l left in
          let keep : unwrap_or w.setup.retention 0 ≡ old.keep = ap (λ (o : Option ℕ). unwrap_or o 0) old.kept in
          let es = entries_of w.store.writes in
          let own : retire_node p l.sequence l.seen.meta es w.moment old.keep ≡ decision.Nothing =
          sym
          (ap (retire_by p es w.moment (unwrap_or w.setup.retention 0)) first
          ∙ ap (λ (n : ℕ). retire_node p l.sequence l.seen.meta es w.moment n) keep) ∙ quiet in
          absurd (deleted_by (is_ended l.seen.meta.status) (nat_lt w.moment.0 (later l.seen.meta.written old.keep).0) (has_entry es p l.sequence)
          (has_entry es p (next_sequence l.sequence)) l.sequence (done_ended l.seen.meta.status done)
          (le-ltb w.moment.0 (later l.seen.meta.written old.keep).0 old.old) e own)

  -- where it is told that nothing is left to do, no segment is left without entries
  pub record HasEmptied (w v : State) (told : Bool) : Type 0 where
    pub come : RetiresOn p w v
    pub none : told ≡ true → p.0 < w.setup.partitions → NoneHalfRetired v.store.writes p

  until_runs : (times : ℕ) (w : State) (v : Reached) (told : Bool) → IsSafeWorld w → w.store.faults.plan ≡ [] → LeavesOldOnes w → IsFree w
      → RetiresUntil c p times w v (Ok told) → HasEmptied w v.world told
  until_runs zero w v told safe none all free h =
      subst (λ (x : State). HasEmptied w x told) (sym (ap (λ (z : Reached). z.world) h.0))
      (record { come = on_still p w safe; none = λ says. absurd (false≢true (sym (told_same told false h.1) ∙ says)) })
  until_runs (suc times) w v told safe none all free h =
      let t = then_parts (RetiresIn c p 3) (Until (RetiresUntil c p times)) w v told h in
      let r = beginning p (unwrap_or w.setup.retention 0) in
      let under : IsUnder c p w r = record { up = free.up; at = free.at; is = ap (retiring w.setup p) free.none } in
      let ideal = has_ideal_state (starting_of w.setup) w.store.writes safe.safe.past.lawful in
      let x = listing_runs w t.between t.told r safe none under 0 ideal.0 ideal.2 refl t.came in
      let g = x.on.goes in
      let later_old = leads_leave w g.led.0 t.between.world safe all g.led.1 in
      subst (λ (z : State). HasEmptied w z told) (sym (ap (λ (z : Reached). z.world) t.whole))
      (by_told t.between.world t.last t.told x.on x.fact t.further
      (λ again. until_runs times t.between.world t.last told g.safe (g.unplanned none) later_old x.free again))
    where
      by_told : (y : State) (l : Reached) (b : Bool) → RetiresOn p w y
          → (b ≡ true → Quiet w y (beginning p (unwrap_or w.setup.retention 0)) (lowest_listed (metadata_of w.store.writes p)))
          → Until (RetiresUntil c p times) b y l (Ok told) → (RetiresUntil c p times y l (Ok told) → HasEmptied y l.world told) → HasEmptied w l.world told
      by_told y l true on fact gives again =
          let f = fact refl in
          subst (λ (z : State). HasEmptied w z told) (sym (ap (λ (z : Reached). z.world) gives.0))
          (record {
            come = on;
            none = λ says within.
                subst (λ (h : List Seen). NoneHalfRetired h p) (sym f.1) (none_left w safe all within f.0);
          })
      by_told y l false on fact further again =
          let k = again further in
          record {
            come = on_then p w y l.world on k.come;
            none = λ says within. k.none says (subst (λ (s : Setup). p.0 < s.partitions) (sym on.goes.setup) within);
          }

  pub of_runs : (times : ℕ) (w : State) (v : Reached) (told : Bool) → IsSafeWorld w → w.store.faults.plan ≡ [] → LeavesOldOnes w
      → RetiresOf c times p w v (Ok told) → HasEmptied w v.world told
  of_runs times w v told safe none all h = by_retention (is_some w.setup.retention) refl h
    where
      by_retention : (b : Bool) → is_some w.setup.retention ≡ b
          → Choose b (Then (RetiresIn c p 3) (λ ended. RetiresUntil c p times) w) (Gives true w) v (Ok told) → HasEmptied w v.world told
      by_retention true e g =
          let t = then_parts (RetiresIn c p 3) (λ ended. RetiresUntil c p times) w v told g in
          let x = any_runs w t.between t.told safe none t.came in
          let on = x.on.goes in
          let k = until_runs times t.between.world t.last told on.safe (on.unplanned none) (leads_leave w on.led.0 t.between.world safe all on.led.1) x.free t.further in
          subst (λ (z : State). HasEmptied w z told) (sym (ap (λ (z : Reached). z.world) t.whole))
          (record {
            come = on_then p w t.between.world t.last.world x.on k.come;
            none = λ says within. k.none says (subst (λ (s : Setup). p.0 < s.partitions) (sym on.setup) within);
          })
      by_retention false e g =
          subst (λ (z : State). HasEmptied w z told) (sym (ap (λ (z : Reached). z.world) g.0))
          (record {
            come = on_still p w safe;
            none = λ says within l has done. by_entry l has done (has_entry (entries_of w.store.writes) p (record { 0 = l.sequence.0 })) refl within;
          })
        where
          by_entry : (l : Listed) → Has (metadata_of w.store.writes p) l → IsDoneStatus l.seen.meta.status → (b : Bool)
              → has_entry (entries_of w.store.writes) p (record { 0 = l.sequence.0 }) ≡ b → p.0 < w.setup.partitions → HasEntry (entries_of w.store.writes) p l.sequence.0
          by_entry l has done true there within = there
          by_entry l has done false absent within =
              let old = all p within l (record { listed = has; done = done; none = λ there. false≢true (sym absent ∙ there) }) in
              absurd (false≢true (sym e ∙ ap is_some old.kept))

-- ---- all partitions

none_kept : (o : Partition) (h g : List Seen) → IsSameOf o h g → NoneHalfRetired h o → NoneHalfRetired g o
none_kept o h g same none l has done =
    (same.entries (record { 0 = l.sequence.0 })).has ∙ none l (subst (λ (ls : List Listed). Has ls l) same.listed has) done

-- those below a number have no segment that is left, if it is noted that there was nothing left to do
record RetiredTo (from : State) (i : ℕ) (noted : Bool) (u : State) : Type 0 where
  goes : GoesMending from u
  none : noted ≡ true → (p : Partition) → p.0 < i → p.0 < u.setup.partitions → NoneHalfRetired u.store.writes p
  needs : ((p : Partition) → p.0 < from.setup.partitions → NeedsNoRepair from.setup from.store.writes from.moment p)
      → (p : Partition) → p.0 < u.setup.partitions → NeedsNoRepair u.setup u.store.writes u.moment p

module _ (c : ControllerId) (times : ℕ) (from : State) (safe : IsSafeWorld from) (unplanned : from.store.faults.plan ≡ []) (all : LeavesOldOnes from) where
  retires_more : (i : ℕ) (noted told : Bool) (w : State) (v : Reached) → RetiredTo from i noted w → RetireTurn c times i noted w v (Ok told)
      → RetiredTo from (i + 1) told v.world
  retires_more i noted told w v k h =
      let p : Partition = record { 0 = i } in
      let t = then_parts (RetiresOf c times p) (λ nothing. Gives (noted && nothing)) w v told h in
      let y = t.between.world in
      let g = k.goes in
      let x = of_runs c p times w t.between t.told g.safe (g.unplanned unplanned) (leads_leave from g.led.0 w safe all g.led.1) t.came in
      let same = told_same told (noted && t.told) t.further.1 in
      subst (RetiredTo from (i + 1) told) (sym (ap (λ (z : Reached). z.world) t.whole ∙ ap (λ (z : Reached). z.world) t.further.0))
      (record {
        goes = mending_then from w y g x.come.goes;
        none = λ says q below within.
            let both = and_parts noted t.told (sym same ∙ says) in none_at w y i t.told k.none both.0 both.1 x q (cases_lt q.0 i) below within;
        needs = λ first q within. needs_at w y i t.told (k.needs first) x q (cases_lt q.0 i) (cases_lt i q.0) within;
      })
    where
      none_at : (w y : State) (i : ℕ) (b : Bool)
          → (noted ≡ true → (p : Partition) → p.0 < i → p.0 < w.setup.partitions → NoneHalfRetired w.store.writes p) → noted ≡ true → b ≡ true
          → HasEmptied c (record { 0 = i }) w y b → (q : Partition) → (q.0 < i) ⊎ (i ≤ q.0) → q.0 < i + 1 → q.0 < y.setup.partitions → NoneHalfRetired y.store.writes q
      none_at w y i b before first own x q (inl lt) below within =
          none_kept q w.store.writes y.store.writes (x.come.others q (λ e. omega (arith, lt, e)))
          (before first q lt (subst (λ (s : Setup). q.0 < s.partitions) x.come.goes.setup within))
      none_at w y i b before first own x q (inr past) below within =
          let same : i ≡ q.0 = omega (arith, past, below) in
          let inside : i < w.setup.partitions = omega (arith, same, within, ap (λ (s : Setup). s.partitions) x.come.goes.setup) in
          subst (NoneHalfRetired y.store.writes) (same_partition (record { 0 = i }) q same) (x.none own inside)

      needs_at : (w y : State) (i : ℕ) (b : Bool) → ((p : Partition) → p.0 < w.setup.partitions → NeedsNoRepair w.setup w.store.writes w.moment p)
          → HasEmptied c (record { 0 = i }) w y b → (q : Partition) → (q.0 < i) ⊎ (i ≤ q.0) → (i < q.0) ⊎ (q.0 ≤ i) → q.0 < y.setup.partitions
          → NeedsNoRepair y.setup y.store.writes y.moment q
      needs_at w y i b before x q low high within =
          subst (λ (s : Setup). NeedsNoRepair s y.store.writes y.moment q) (sym x.come.goes.setup)
          (needs_kept w.setup q w.store.writes y.store.writes (same_at low high) w.moment y.moment x.come.goes.moment
          (before q (subst (λ (s : Setup). q.0 < s.partitions) x.come.goes.setup within)))
        where
          other : (q.0 ≡ i → ⊥) → IsSameLast q w.store.writes y.store.writes
          other ne = same_last q w.store.writes y.store.writes (x.come.others q ne)

          same_at : (q.0 < i) ⊎ (i ≤ q.0) → (i < q.0) ⊎ (q.0 ≤ i) → IsSameLast q w.store.writes y.store.writes
          same_at (inl lt) high = other (λ e. omega (arith, lt, e))
          same_at (inr le) (inl lt) = other (λ e. omega (arith, lt, e))
          same_at (inr le) (inr ge) =
              let same : i ≡ q.0 = omega (arith, le, ge) in
              subst (λ (z : Partition). IsSameLast z w.store.writes y.store.writes) (same_partition (record { 0 = i }) q same) x.come.own

  retires_all : (v : Reached) → Retires c times from v (Ok true) → HasRetiredAll from v.world × ((more : List Turn) × Leads from more v.world)
  retires_all v h =
      let first : RetiredTo from 0 true from =
      record { goes = mending_still from safe; none = λ says q below. absurd (omega (arith, below)); needs = λ needs. needs } in
      let k = from_notes (RetireTurn c times) (RetiredTo from) retires_more 0 from.setup.partitions true true from v first h in
      let g = k.goes in (
        record {
          none = λ p within. k.none refl p (omega (arith, within, ap (λ (s : Setup). s.partitions) g.setup)) within;
          needs = k.needs;
          fresh = λ f. record {
            servers = λ i n at. f.servers i n (ap (λ (ns : List ServerNode). slice_get ns i) (sym g.servers) ∙ at);
            controllers = g.none f.controllers;
          };
          up = servers_up from v.world g.servers;
          leading = g.leads.leading;
          leader = g.leads.leader;
          unplanned = g.unplanned unplanned;
          setup = g.setup;
          log = g.log;
          deep = g.deep;
        },
        g.led,
      )

-- from any world of a run on
pub retired : (setup : Setup) (turns : List Turn) (w : State) (v : Reached) (c : ControllerId) (times : ℕ) → IsSetup setup → Runs setup turns w
    → w.store.faults.plan ≡ [] → Retires c times w v (Ok true) → HasRetiredAll w v.world × ((more : List Turn) × Leads w more v.world)
retired setup turns w v c times is run none h = retires_all c times w (runs_are_safe setup turns w is run) none (runs_leave setup turns w is run) v h
