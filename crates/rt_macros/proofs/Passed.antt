-- Replicas at rest are passed together, since the turn of each comes to nothing.
use Rattle.std.proofs.Common.{◌≡◌, ◌∙◌, ◌&&◌, ◌+◌, ℕ, suc, Bool, true, false, cond, nat_lt, ◌≤◌, List, [], ◌∷◌, length, take, drop, drop-drop, length-drop, Result, Ok, Option, None, if◌then◌else◌, refl, sym, ap, subst, arith}
use Rattle.std.proofs.lemmas.List.Sums.{prefix_len-le-length}
use Rattle.std.specs.List.{prefix_len}
use Rattle.rt_base.specs.declared.numbers.Instance.{Instance}
use Rattle.rt_events.specs.declared.refusal.Refusal.{Refusal}
use Rattle.rt_macros.proofs.Doing.{Leads, Turns, then_behind}
use Rattle.rt_macros.proofs.Idle.{rests_turn}
use Rattle.rt_macros.specs.Doing.{Act, Coming, Each, Reached, stays}
use Rattle.rt_macros.specs.Resting.{rests_at, rests_in, stands_so}
use Rattle.rt_macros.specs.Settling.{ReplicaTurn, SegmentAt}
use Rattle.rt_model.specs.declared.replica_state.ReplicaState.{ReplicaState}
use Rattle.rt_state.specs.Finding.{has_partition}
use Rattle.rt_state.specs.declared.state.State.{State}
use Rattle.rt_world.specs.Reading.{at_rest, stage_at}

-- ---- how many pass both of two tests

module _ {X : Type 0} (first other both : X → Bool) (so : (x : X) → both x ≡ (other x && first x)) where
  one_more : (x : X) (xs : List X) (m : ℕ) (a b c : Bool) → prefix_len other (take (prefix_len first xs) xs) ≡ m → other x ≡ b → c ≡ (b && a)
      → prefix_len other (take (cond a (1 + prefix_len first xs) 0) (x ∷ xs)) ≡ cond c (1 + m) 0
  one_more x xs m false true c e f g = sym (ap (λ t. cond t (1 + m) 0) g)
  one_more x xs m false false c e f g = sym (ap (λ t. cond t (1 + m) 0) g)
  one_more x xs m true b c e f g =
      let n = prefix_len first xs in
      let up : 1 + n ≡ suc n = omega arith in
      ap (λ k. prefix_len other (take k (x ∷ xs))) up ∙ ap (λ t. cond t (1 + prefix_len other (take n xs)) 0) f
      ∙ ap (λ k. cond b (1 + k) 0) e ∙ by b g
    where
      by : (d : Bool) → c ≡ (d && true) → cond d (1 + m) 0 ≡ cond c (1 + m) 0
      by true h = sym (ap (λ t. cond t (1 + m) 0) h)
      by false h = sym (ap (λ t. cond t (1 + m) 0) h)

  pass_both : (xs : List X) → prefix_len other (take (prefix_len first xs) xs) ≡ prefix_len both xs
  pass_both [] = refl
  pass_both (x ∷ xs) = one_more x xs (prefix_len both xs) (first x) (other x) (both x) (pass_both xs) refl (so x)

known_so : (known : Bool) (o : Option ReplicaState) → stands_so rests_in (if known then o else None) ≡ (known && stands_so rests_in o)
known_so true o = refl
known_so false o = refl

-- of those at rest, the first are in the partitions that there are
pub known_rest : (w : State) (i : Instance) (ss : List SegmentAt)
    → prefix_len (λ s. nat_lt s.0.0 w.setup.partitions) (take (prefix_len (at_rest w i) ss) ss) ≡ prefix_len (rests_at w i) ss
known_rest w i ss =
    pass_both (at_rest w i) (λ s. nat_lt s.0.0 w.setup.partitions) (rests_at w i) (λ s. known_so (has_partition w s.0) (stage_at w i s.0 s.1)) ss

-- ---- what comes of the turns of those that are passed

module _ {A S : Type 0} (act : Turns A S) (w : State) (rests : A → Bool) (idle : (x : A) (busy : S) → rests x ≡ true → act x busy w (stays w) (Ok busy)) where
  pass_one : (x : A) (xs : List A) (noted : S) (v : Reached) (r : Result S Refusal) (rested : Bool) → rests x ≡ rested
      → (Each act (drop (prefix_len rests xs) xs) noted w v r → Each act xs noted w v r)
      → Each act (drop (cond rested (1 + prefix_len rests xs) 0) (x ∷ xs)) noted w v r → Each act (x ∷ xs) noted w v r
  pass_one x xs noted v r false e others rest = rest
  pass_one x xs noted v r true e others rest =
      let up : 1 + prefix_len rests xs ≡ suc (prefix_len rests xs) = omega arith in
      then_behind (act x noted) (Each act xs) w (stays w) v noted r (idle x noted e) (others (subst (λ k. Each act (drop k (x ∷ xs)) noted w v r) up rest))

  passed : (xs : List A) (noted : S) (v : Reached) (r : Result S Refusal) → Each act (drop (prefix_len rests xs) xs) noted w v r → Each act xs noted w v r
  passed [] noted v r came = came
  passed (x ∷ xs) noted v r came = pass_one x xs noted v r (rests x) refl (passed xs noted v r) came

module _ (paused : Bool) (i : Instance) (xs : List SegmentAt) where
  abbrev Left : ℕ → Bool → Act Bool
  Left at noted w = Each (ReplicaTurn paused i) (drop at xs) noted w

  -- from the first that isn't at rest on
  pub list_starts : (n : ℕ) (noted : Bool) (w : State) → n ≡ prefix_len (rests_at w i) xs → Leads (Left n noted w) (Each (ReplicaTurn paused i) xs noted w) w w
  list_starts n noted w e = record {
    taken = [];
    leads = λ v r rest.
        passed (ReplicaTurn paused i) w (rests_at w i) (λ x busy h. rests_turn i x.0 x.1 busy w paused h) xs noted v r
        (subst (λ k. Left k noted w v r) e rest);
    led = refl;
  }

  -- and so from a place on
  pub list_passes : {from : State} (at n : ℕ) (noted : Bool) (w : State) (all : Coming Bool)
      → Leads (Left at noted w) all from w → n ≡ prefix_len (rests_at w i) (drop at xs) → Leads (Left (at + n) noted w) all from w
  list_passes at n noted w all leads e = record {
    taken = leads.taken;
    leads = λ v r rest.
        leads.leads v r (passed (ReplicaTurn paused i) w (rests_at w i) (λ x busy h. rests_turn i x.0 x.1 busy w paused h) (drop at xs) noted v r
        (subst (λ ys. Each (ReplicaTurn paused i) ys noted w v r) (sym (drop-drop n at xs) ∙ ap (λ k. drop k (drop at xs)) e) rest));
    led = leads.led;
  }

-- those that are passed are of the list
pub pass_within : (w : State) (i : Instance) (xs : List SegmentAt) (n : ℕ) → n ≡ prefix_len (rests_at w i) xs → n ≤ length xs
pass_within w i xs n e = omega (arith, e, prefix_len-le-length (rests_at w i) xs)

pub rest_within : (w : State) (i : Instance) (xs : List SegmentAt) (at n : ℕ) → n ≡ prefix_len (rests_at w i) (drop at xs) → at ≤ length xs → at + n ≤ length xs
rest_within w i xs at n e le = omega (arith, pass_within w i (drop at xs) n e, length-drop at xs, le)
