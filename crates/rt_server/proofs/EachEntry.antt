-- What is true of each entry of a table stays true as one of them is put, changed or taken out.
use Rattle.std.proofs.Common.{◌≡◌, ◌⊎◌, inl, inr, List, Some, subst}
use Rattle.std.specs.BTreeMap.{insert_entry}
use Rattle.std.specs.Map.{lookup, remove_entry, set_value}
use Rattle.rt_base.specs.declared.numbers.Partition.{Partition}
use Rattle.rt_base.specs.declared.numbers.Sequence.{Sequence}
use Rattle.rt_lists.specs.Members.{Has}
use Rattle.rt_entry.specs.declared.entry.Entry.{Entry}
use Rattle.rt_server.specs.Table.{Segment, is_segment, segment_cmp}
use Rattle.rt_server.proofs.LastingTables.{Has-insert_entry, Has-remove_entry, Has-set_value, at, lookup-Has, segment_exact}

module _ (P : Segment → Entry → Type 0) where
  abbrev pub Each : List (Segment × Entry) → Type 0
  Each entries = (x : Segment × Entry) → Has entries x → P x.0 x.1

  pub one_of : (entries : List (Segment × Entry)) → Each entries → (s : Segment) (e : Entry) (x : Segment × Entry) → P s e → Has entries x ⊎ (at s e ≡ x) → P x.0 x.1
  one_of entries all s e x new (inl has) = all x has
  one_of entries all s e x new (inr same) = subst (λ (y : Segment × Entry). P y.0 y.1) same new

  pub found_each : (entries : List (Segment × Entry)) (p : Partition) (q : Sequence) (e : Entry) → Each entries → lookup (is_segment p q) entries ≡ Some e → P (p, q) e
  found_each entries p q e all found = all (at (p, q) e) (lookup-Has segment_cmp segment_exact entries (p, q) e found)

  pub put_each : (entries : List (Segment × Entry)) (p : Partition) (q : Sequence) (e : Entry) → Each entries → P (p, q) e → Each (set_value (is_segment p q) entries e)
  put_each entries p q e all new = λ x has. one_of entries all (p, q) e x new (Has-set_value segment_cmp segment_exact entries (p, q) e x has)

  pub add_each : (entries : List (Segment × Entry)) (p : Partition) (q : Sequence) (e : Entry) → Each entries → P (p, q) e → Each (insert_entry segment_cmp entries (p, q) e)
  add_each entries p q e all new = λ x has. one_of entries all (p, q) e x new (Has-insert_entry segment_cmp segment_exact entries (p, q) e x has)

  pub leave_each : (entries : List (Segment × Entry)) (p : Partition) (q : Sequence) → Each entries → Each (remove_entry (is_segment p q) entries)
  leave_each entries p q all = λ x has. all x (Has-remove_entry (is_segment p q) entries x has)
