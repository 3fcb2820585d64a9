use Rattle.std.proofs.Common.{◌≡◌, ℕ, Bool, All, Result, Ok, Err, IfOk, take, refl, sym, ap, subst, ◌∙◌}
use Rattle.std.proofs.lemmas.List.Elements.{All-take}
use Rattle.rt_mutable.specs.Column.{Filled}
use Rattle.rt_mutable.specs.Consuming.{IsShort}
use Rattle.rt_segment.specs.Column.{SealedColumn, AreShort}
use Rattle.rt_build.specs.Sealing.{IsColumnSealed}
use Rattle.rt_build.proofs.Standing.{short_standing}
use Rattle.rt_build.proofs.sealed_columns.seal_column.Goals as goal

sealed_as : {E : Type 0} (r : Result SealedColumn E) (wanted : SealedColumn) (rows : ℕ) (indexed : Bool) (column : Filled) → IfOk r (λ made. made ≡ wanted) → IsColumnSealed rows indexed column wanted → IfOk r (IsColumnSealed rows indexed column)
sealed_as (Ok made) wanted rows indexed column e h = subst (IsColumnSealed rows indexed column) (sym e) h
sealed_as (Err refused) wanted rows indexed column e h = tt

short_as : {E : Type 0} (r : Result SealedColumn E) (wanted : SealedColumn) → IfOk r (λ made. made ≡ wanted) → AreShort wanted.dictionary → IfOk r (λ made. AreShort made.dictionary)
short_as (Ok made) wanted e h = subst (λ (s : SealedColumn). AreShort s.dictionary) (sym e) h
short_as (Err refused) wanted e h = tt

pub returns-clause-sealed : goal.returns-clause-sealed
returns-clause-sealed c =
    sealed_as c.make.result _ c.args.rows c.args.indexed c.args.column.now c.make.ensures (record {
      name = c.in_ok-name.ensures ∙ c.name.ensures;
      kind = c.in_ok-sorted.ensures.kind ∙ c.values.ensures.kind;
      flag = refl;
      values = c.in_ok-sorted.ensures.values ∙ ap (take c.args.rows) c.values.ensures.values;
    })

pub returns-clause-short : goal.returns-clause-short
returns-clause-short c =
    let all = All-take IsShort c.args.rows c.args.column.now.values c.requires.short in
    let values = c.in_ok-sorted.ensures.values ∙ ap (take c.args.rows) c.values.ensures.values in
    short_as c.make.result _ c.make.ensures
    (short_standing c.in_ok-sorted.sorted.dictionary c.in_ok-sorted.sorted.ids c.in_ok-sorted.ensures.used (subst (All IsShort) (sym values) all))
