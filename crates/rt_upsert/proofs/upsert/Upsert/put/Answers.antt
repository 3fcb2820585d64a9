use Rattle.std.proofs.Common.{◌≡◌, ◌<◌, List, true, false, Some, ap, sym, subst, slice_get, ◌∙◌}
use Rattle.std.specs.Prelude.{is_some}
use Rattle.std.specs.BTreeMap.{get}
use Rattle.rt_schema.specs.declared.value.Value.{Value}
use Rattle.rt_upsert.specs.declared.place.Place.{Place}
use Rattle.rt_upsert.specs.Latest.{key_of, same_key}
use Rattle.rt_upsert.specs.Placed.{PlacedRows, place_cmp, with_row}
use Rattle.rt_upsert.specs.Ranked.{held_as}
use Rattle.rt_upsert.proofs.Adding.{added, free_of, shown_more}
use Rattle.rt_upsert.proofs.Indexing.{same, numbered}
use Rattle.rt_upsert.proofs.upsert.Upsert.put.Goals as goal

pub invariant_of-self-in_err-put : goal.invariant_of-self-in_err-put
invariant_of-self-in_err-put c =
    same c.self.inside.kinds c.self.inside.keys c.self.inside.compare c.insert_full.new.self.keys c.self.inside.held c.put.new.self
    (numbered c.self.inside.kinds c.self.inside.keys c.self.inside.compare c.self.inside.numbers.keys c.insert_full.new.self.keys c.in_ok-key.key c.self.inside.held.rows c.self.inside.held.ranks
    c.self.invariant c.in_ok-key-2.ensures.keys c.insert_full.ensures.unique)
    c.in_err-put.ensures.err

pub invariant_of-self-2 : goal.invariant_of-self-2
invariant_of-self-2 c =
    added c.self.inside.kinds c.self.inside.keys c.self.inside.compare c.self.inside.numbers.keys c.insert_full.new.self.keys c.self.inside.held c.put.new.self
    c.rank_at-rank.result c.args.row.now c.in_ok-copy.copy c.in_ok-key.key
    c.self.invariant c.in_ok-key-2.ensures.keys c.insert_full.ensures.unique
    (subst (λ i. (k : List Value) × (slice_get c.insert_full.new.self.keys i ≡ Some k) × (same_key c.in_ok-key.key k ≡ true)) (sym c.rank_at-rank.ensures.key) c.in_ok-key-2.ensures.stored)
    (subst (λ (p : Place). is_some (get place_cmp c.self.inside.held.rows p) ≡ false) (sym c.rank_at-rank.ensures.place)
    (free_of c.self.inside.kinds c.self.inside.keys c.self.inside.compare c.args.self.now c.self.inside.held.rows.entries c.self.view_is c.args.place c.requires.free))
    c.in_ok-copy.ensures (c.in_ok-key.ensures ∙ ap (λ ks. key_of ks c.args.row.now) c.as_slice.ensures) c.rank_at-rank.ensures.compare
    (c.requires.kinds ∙ sym (ap (λ (h : PlacedRows). h.kinds) c.self.view_is)) (subst (λ (p : Place). p.row < 4294967295) (sym c.rank_at-rank.ensures.place) c.requires.row) c.in_ok-put.ensures.ok

pub returns-clause-ok : goal.returns-clause-ok
returns-clause-ok c =
    shown_more c.self.inside.kinds c.self.inside.keys c.self.inside.compare c.args.self.now c.self.inside.held.rows.entries c.self.view_is c.rank_at-rank.result.place
    c.put.new.self.rows.entries (held_as c.rank_at-rank.result c.in_ok-copy.copy) c.args.row.now c.in_ok-put.ensures.ok.rows c.in_ok-copy.ensures
    ∙ ap (λ (p : Place). with_row c.args.self.now p c.args.row.now) c.rank_at-rank.ensures.place
