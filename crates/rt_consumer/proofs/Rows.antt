-- The row of a message is one that the rows take.
use Rattle.std.proofs.Common.{◌≡◌, ◌<◌, ◌≤◌, ◌&&◌, ℕ, max, Bool, true, false, IsTrue, List, [], ◌∷◌, map, All, refl, ap, sym, subst, ◌∙◌, arith}
use Rattle.std.proofs.lemmas.List.Elements.{All-weaker}
use Rattle.std.proofs.lemmas.Bool.{false≢true}
use Rattle.std.proofs.lemmas.Slice.Eq.{bytes_eq-Decides}
use Rattle.std.specs.Str.{bytes_eq}
use Rattle.rt_base.specs.declared.numbers.Partition.{Partition}
use Rattle.rt_base.specs.declared.numbers.Sequence.{Sequence}
use Rattle.rt_schema.specs.Schema.{is_among, names_of}
use Rattle.rt_schema.specs.declared.column.Column.{Column}
use Rattle.rt_schema.specs.declared.row.Row.{Row}
use Rattle.rt_schema.specs.declared.value.Value.{Value}
use Rattle.rt_schema.specs.declared.value.Value.TheVariants.{Int, Long, Text, Bool as Truth, Time}
use Rattle.rt_schema.specs.Row.{IsRowOf, IsTextWithin, AreTextsWithin}
use Rattle.rt_mutable.specs.Column.{Shape}
use Rattle.rt_schema.specs.declared.column.Kind.{Kind}
use Rattle.rt_schema.specs.declared.column.Kind.TheVariants as kinds
use Rattle.rt_segment.specs.Column.{SealedColumn, kind_in}
use Rattle.rt_segment.specs.Segment.{is_column, are_columns, kind_eq}
use Rattle.rt_build.specs.Sealing.{shape_in, marked}
use Rattle.rt_mutable.specs.Consuming.{Consuming, FitsColumns, IsShort, shape_of}
use Rattle.rt_consumer.specs.declared.settings.Settings.{Settings}
use Rattle.rt_consumer.specs.Consumer.{AreSettings, HaveColumns, IsStage}
use Rattle.rt_consumer.specs.Requests.{builds_at}
use Rattle.rt_consumer.specs.declared.stage.Stage.{Stage}
use Rattle.rt_consumer.specs.declared.stage.Stage.TheVariants.{InitialConsuming, CatchingUp, Holding, ConsumingToOnline, Retaining, Building, Starting, Uploading, Ending}

kinds_kept : (indexed : List (List ℕ)) (columns : List Column) → map (λ column. column.kind) columns ≡ map (λ shape. shape.kind) (map (shape_of indexed) columns)
kinds_kept indexed [] = refl
kinds_kept indexed (c ∷ columns) = ap (λ kinds. c.kind ∷ kinds) (kinds_kept indexed columns)

pub row_fits : (settings : Settings) (rows : Consuming) (row : Row) → HaveColumns settings rows → IsRowOf settings.schema row → FitsColumns rows.columns row
row_fits settings rows row h is =
    is ∙ kinds_kept settings.indexed settings.schema.columns ∙ ap (λ (shapes : List Shape). map (λ shape. shape.kind) shapes) (sym h)

short_value : (n : ℕ) → n ≤ 65536 → (v : Value) → IsTextWithin (max 4 n) v → IsShort v
short_value n le (Int z) h = tt
short_value n le (Long z) h = tt
short_value n le (Text s) h = omega (arith, le, h)
short_value n le (Truth b) h = tt
short_value n le (Time z) h = tt

pub row_short : (n : ℕ) (row : Row) → n ≤ 65536 → AreTextsWithin (max 4 n) row → All IsShort row.values
row_short n row le h = All-weaker (IsTextWithin (max 4 n)) IsShort (short_value n le) row.values h

names_kept : (indexed : List (List ℕ)) (columns : List Column) → names_of columns ≡ map (λ shape. shape.name) (map (shape_of indexed) columns)
names_kept indexed [] = refl
names_kept indexed (c ∷ columns) = ap (λ names. c.name ∷ names) (names_kept indexed columns)

-- the indexed columns are among the rows' columns
pub indexed_names : (settings : Settings) (rows : Consuming) → AreSettings settings → HaveColumns settings rows → All (λ name. IsTrue (is_among name (map (λ shape. shape.name) rows.columns))) settings.indexed
indexed_names settings rows s h =
    subst (λ (names : List (List ℕ)). All (λ name. IsTrue (is_among name names)) settings.indexed)
    (names_kept settings.indexed settings.schema.columns ∙ ap (λ (shapes : List Shape). map (λ shape. shape.name) shapes) (sym h)) s.indexed

-- what is built is past the start
pub built_past : (settings : Settings) (p : Partition) (q : Sequence) (rows : Consuming) (stage : Stage) → builds_at stage ≡ true → IsStage settings p q rows stage → rows.start.0 < rows.end.0
built_past settings p q rows (Retaining done) e k = k.0
built_past settings p q rows (Building reason) e k = k
built_past settings p q rows InitialConsuming e k = absurd (false≢true e)
built_past settings p q rows (CatchingUp target reason) e k = absurd (false≢true e)
built_past settings p q rows (Holding reason) e k = absurd (false≢true e)
built_past settings p q rows (ConsumingToOnline end done) e k = absurd (false≢true e)
built_past settings p q rows (Starting reason built) e k = absurd (false≢true e)
built_past settings p q rows (Uploading reason built) e k = absurd (false≢true e)
built_past settings p q rows (Ending reason built path) e k = absurd (false≢true e)

heads_same : (a b : Shape) (xs ys : List Shape) → a ∷ xs ≡ b ∷ ys → a ≡ b
heads_same a b xs ys e = cc

tails_same : (a b : Shape) (xs ys : List Shape) → a ∷ xs ≡ b ∷ ys → xs ≡ ys
tails_same a b xs ys e = cc

kind_same : (k : Kind) → kind_eq k k ≡ true
kind_same kinds.Int = refl
kind_same kinds.Long = refl
kind_same kinds.Text = refl
kind_same kinds.Bool = refl
kind_same kinds.Time = refl

both : (a b : Bool) → a ≡ true → b ≡ true → (a && b) ≡ true
both true true e f = refl
both true false e f = f
both false b e f = e

column_same : (stored : SealedColumn) (c : Column) → stored.name ≡ c.name → kind_in stored.dictionary ≡ c.kind → is_column stored c ≡ true
column_same stored c name kind =
    both (bytes_eq stored.name c.name) (kind_eq (kind_in stored.dictionary) c.kind)
    ((bytes_eq-Decides stored.name c.name).1 name)
    (subst (λ k. kind_eq (kind_in stored.dictionary) k ≡ true) kind (kind_same (kind_in stored.dictionary)))

columns_same : (indexed others : List (List ℕ)) (stored : List SealedColumn) (cs : List Column)
    → map shape_in stored ≡ map (marked others) (map (shape_of indexed) cs) → are_columns stored cs ≡ true
columns_same indexed others [] [] e = refl
columns_same indexed others [] (c ∷ cs) e = cc
columns_same indexed others (s ∷ stored) [] e = cc
columns_same indexed others (s ∷ stored) (c ∷ cs) e =
    both (is_column s c) (are_columns stored cs)
    (column_same s c (ap (λ (shape : Shape). shape.name) (heads_same _ _ _ _ e)) (ap (λ (shape : Shape). shape.kind) (heads_same _ _ _ _ e)))
    (columns_same indexed others stored cs (tails_same _ _ _ _ e))

-- what is built has the schema's columns
pub columns_sealed : (settings : Settings) (others : List (List ℕ)) (rows : Consuming) (stored : List SealedColumn) → HaveColumns settings rows
    → map shape_in stored ≡ map (marked others) rows.columns → are_columns stored settings.schema.columns ≡ true
columns_sealed settings others rows stored h e =
    columns_same settings.indexed others stored settings.schema.columns (e ∙ ap (map (marked others)) h)
