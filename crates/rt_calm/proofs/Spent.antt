-- What a write takes of the commits that are left: a Done write one of its partition's, another write none.
use Rattle.std.proofs.Common.{◌≡◌, ◌⊎◌, inl, inr, ℕ, zero, suc, ◌+◌, ◌-◌, ◌*◌, ◌<◌, ◌≤◌, ◌==◌, Bool, true, false, cond, List, [], ◌∷◌, ◌++◌, length, refl, sym, ◌∙◌, ap, subst, arith, option_to_list}
use Rattle.std.proofs.Math.Nat.{suc-mul}
use Rattle.std.proofs.lemmas.Bool.{cases_lt, eqb-true, eq-eqb}
use Rattle.rt_base.specs.declared.numbers.Partition.{Partition}
use Rattle.rt_base.specs.declared.numbers.Sequence.{Sequence}
use Rattle.rt_model.specs.Entries.{entries_of}
use Rattle.rt_model.specs.Tiled.{done_range}
use Rattle.rt_model.specs.declared.ideal_state.IdealEntry.{IdealEntry}
use Rattle.rt_model.specs.declared.node.Key.{Key}
use Rattle.rt_model.specs.declared.node.Key.TheVariants as key
use Rattle.rt_model.specs.declared.node.Seen.{Seen}
use Rattle.rt_model.specs.declared.setup.Setup.{Setup}
use Rattle.rt_stream.specs.Log.{Log, messages_of}
use Rattle.rt_calm.specs.Ahead.{most_ahead_of}
use Rattle.rt_calm.specs.Commits.{commits_by, commits_of, count_at}
use Rattle.rt_calm.specs.Spent.{commits_left, consuming_in, most_of, most_yet, weighed, writes_left}
use Rattle.rt_calm.proofs.Commits.{commits_add}

-- ---- weights

abbrev at : ℕ → Partition
at n = record { 0 = n }

module _ (log : Log) (h k : List Seen) (weight : Partition → ℕ) where
  weighed_same : (n : ℕ) → ((p : Partition) → p.0 < n → commits_of k p ≡ commits_of h p) → weighed log k weight n ≡ weighed log h weight n
  weighed_same zero same = refl
  weighed_same (suc n) same =
      let rest = weighed_same n (λ p lt. same p (omega (arith, lt))) in
      let last = ap (λ (c : ℕ). (length (messages_of log (at n)) - c) * weight (at n)) (same (at n) (omega arith)) in
      omega (arith, rest, last)

  module _ (p : Partition) (one : commits_of k p ≡ commits_of h p + 1) (others : (q : Partition) → (q.0 ≡ p.0 → ⊥) → commits_of k q ≡ commits_of h q)
      (few : commits_of k p ≤ length (messages_of log p)) where
    own_falls : commits_left log k p * weight p + weight p ≡ commits_left log h p * weight p
    own_falls =
        let left : commits_left log h p ≡ suc (commits_left log k p) = omega (arith, one, few) in
        sym (suc-mul (commits_left log k p) (weight p)) ∙ ap (λ (x : ℕ). x * weight p) (sym left)

    weighed_falls : (n : ℕ) → p.0 < n → weighed log k weight n + weight p ≡ weighed log h weight n
    weighed_falls zero lt = absurd (omega (arith, lt))
    weighed_falls (suc n) lt = by_order (λ less. weighed_falls n less) (cases_lt p.0 n)
      where
        by_order : (p.0 < n → weighed log k weight n + weight p ≡ weighed log h weight n) → (p.0 < n) ⊎ (n ≤ p.0)
            → weighed log k weight (suc n) + weight p ≡ weighed log h weight (suc n)
        by_order further (inl less) =
            let other : commits_of k (at n) ≡ commits_of h (at n) = others (at n) (λ e. omega (arith, e, less)) in
            let last = ap (λ (c : ℕ). (length (messages_of log (at n)) - c) * weight (at n)) other in
            omega (arith, further less, last)
        by_order further (inr most) =
            let own : p.0 ≡ n = omega (arith, lt, most) in
            let rest = weighed_same n (λ q less. others q (λ e. omega (arith, e, less, own))) in
            let last : commits_left log k (at n) * weight (at n) + weight p ≡ commits_left log h (at n) * weight (at n) =
            subst (λ (m : ℕ). commits_left log k (at m) * weight (at m) + weight p ≡ commits_left log h (at m) * weight (at m)) own own_falls in
            omega (arith, rest, last)

-- ---- a write more

module _ (h : List Seen) (w : Seen) where
  abbrev more : List Seen
  more = h ++ w ∷ []

  more_commits : (p : Partition) → commits_of more p ≡ commits_of h p + commits_by p w
  more_commits p = omega (arith, commits_add h (w ∷ []) p)

  module _ (setup : Setup) (log : Log) where
    -- one that isn't a commit
    module _ (none : (p : Partition) → commits_by p w ≡ 0) where
      still : (weight : Partition → ℕ) → weighed log more weight setup.partitions ≡ weighed log h weight setup.partitions
      still weight = weighed_same log h more weight setup.partitions (λ p lt. omega (arith, more_commits p, none p))

      pub still_left : writes_left setup log more + consuming_in (entries_of h) ≡ writes_left setup log h + consuming_in (entries_of more)
      still_left = omega (arith, still (λ p. setup.table.replication + 1))

      pub still_yet : most_yet setup log more + most_ahead_of log (entries_of h) ≡ most_yet setup log h + most_ahead_of log (entries_of more)
      still_yet = omega (arith, still (λ p. setup.table.replication * most_of log p))

    -- a commit of a partition
    module _ (p : Partition) (s : Sequence) (of : w.key ≡ key.Meta p s) (done : length (option_to_list (done_range w.node)) ≡ 1)
        (within : p.0 < setup.partitions) (few : commits_of more p ≤ length (messages_of log p)) where
      by_keys : (q : Partition) → commits_by q w ≡ cond (p.0 == q.0) (length (option_to_list (done_range w.node))) 0
      by_keys q = ap (λ (k : Key). count_at q k (length (option_to_list (done_range w.node)))) of

      one : commits_of more p ≡ commits_of h p + 1
      one =
          let own = by_keys p ∙ ap (λ (b : Bool). cond b (length (option_to_list (done_range w.node))) 0) (eq-eqb p.0 p.0 refl) ∙ done in
          omega (arith, more_commits p, own)

      others : (q : Partition) → (q.0 ≡ p.0 → ⊥) → commits_of more q ≡ commits_of h q
      others q apart = by_test (p.0 == q.0) refl (by_keys q)
        where
          by_test : (b : Bool) → (p.0 == q.0) ≡ b → commits_by q w ≡ cond b (length (option_to_list (done_range w.node))) 0
              → commits_of more q ≡ commits_of h q
          by_test true e counts = absurd (apart (sym (eqb-true p.0 q.0 e)))
          by_test false e counts = omega (arith, more_commits q, counts)

      falls : (weight : Partition → ℕ) → weighed log more weight setup.partitions + weight p ≡ weighed log h weight setup.partitions
      falls weight = weighed_falls log h more weight p one others few setup.partitions within

      pub falls_left : (entries_of more ≡ entries_of h) → writes_left setup log more + (setup.table.replication + 1) ≡ writes_left setup log h
      falls_left same = omega (arith, falls (λ p. setup.table.replication + 1), ap (λ (es : List IdealEntry). consuming_in es) same)

      pub falls_yet : (entries_of more ≡ entries_of h)
          → most_yet setup log more + setup.table.replication * most_of log p ≡ most_yet setup log h
      falls_yet same =
          omega (arith, falls (λ p. setup.table.replication * most_of log p), ap (λ (es : List IdealEntry). most_ahead_of log es) same)
