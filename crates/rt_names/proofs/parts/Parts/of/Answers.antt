use Rattle.std.proofs.Common.{◌≡◌, ℕ, List, refl, sym, ap, subst, ◌∙◌}
use Rattle.std.specs.Fmt.{decimal}
use Rattle.std.proofs.lemmas.Bool.{true≢false}
use Rattle.std.proofs.lemmas.Option.{none-some, same_Some}
use Rattle.rt_names.specs.declared.name.SegmentName.{SegmentName}
use Rattle.rt_names.specs.Table.{IsTableName}
use Rattle.rt_names.specs.Parts.{joined}
use Rattle.rt_names.specs.Name.{name_text, name_of}
use Rattle.rt_names.proofs.Bytes.{minute_without}
use Rattle.rt_names.proofs.Numerals.{decimal_without}
use Rattle.rt_names.proofs.parts.Parts.of.Goals as goal

same_name : (name : SegmentName) (table : List ℕ) (partition sequence : ℕ) (minute : List ℕ) → table ≡ name.table → partition ≡ name.partition → sequence ≡ name.sequence → minute ≡ name.minute → name_of table partition sequence minute ≡ name
same_name name table partition sequence minute a b c d = ap (λ t. name_of t partition sequence minute) a ∙ ap (λ n. name_of name.table n sequence minute) b ∙ ap (λ n. name_of name.table name.partition n minute) c ∙ ap (name_of name.table name.partition name.sequence) d

same_text : (text table partition sequence minute : List ℕ) (p s : ℕ) (m : List ℕ) → text ≡ joined table partition sequence minute → partition ≡ decimal p → sequence ≡ decimal s → minute ≡ m → name_text (name_of table p s m) ≡ text
same_text text table partition sequence minute p s m is a b c = sym (is ∙ ap (λ x. joined table x sequence minute) a ∙ ap (λ x. joined table (decimal p) x minute) b ∙ ap (joined table (decimal p) (decimal s)) c)

pub returns-in_err-pieces-clause-one : goal.returns-in_err-pieces-clause-one
returns-in_err-pieces-clause-one c name has is =
    absurd (c.in_err-pieces.ensures.last name.table (decimal name.partition) (decimal name.sequence) name.minute (decimal_without name.partition has.partition) (decimal_without name.sequence has.sequence) (minute_without name.minute has.minute) (sym is))

pub returns-then-not-is_table_name-clause-one : goal.returns-then-not-is_table_name-clause-one
returns-then-not-is_table_name-clause-one c name has is =
    let pieces = c.in_ok-pieces.ensures.last name.table (decimal name.partition) (decimal name.sequence) name.minute (decimal_without name.partition has.partition) (decimal_without name.sequence has.sequence) (minute_without name.minute has.minute) (sym is) in
    true≢false (sym (c.is_table_name.ensures ∙ subst IsTableName (sym pieces.0) has.table) ∙ c.if-not-is_table_name.true)

pub returns-in_err-partition-clause-one : goal.returns-in_err-partition-clause-one
returns-in_err-partition-clause-one c name has is =
    let pieces = c.in_ok-pieces.ensures.last name.table (decimal name.partition) (decimal name.sequence) name.minute (decimal_without name.partition has.partition) (decimal_without name.sequence has.sequence) (minute_without name.minute has.minute) (sym is) in
    absurd (none-some name.partition ((c.in_err-partition.ensures name.partition).1 (has.partition, pieces.1)))

pub returns-in_err-sequence-clause-one : goal.returns-in_err-sequence-clause-one
returns-in_err-sequence-clause-one c name has is =
    let pieces = c.in_ok-pieces.ensures.last name.table (decimal name.partition) (decimal name.sequence) name.minute (decimal_without name.partition has.partition) (decimal_without name.sequence has.sequence) (minute_without name.minute has.minute) (sym is) in
    absurd (none-some name.sequence ((c.in_err-sequence.ensures name.sequence).1 (has.sequence, pieces.2)))

pub returns-in_err-minute-clause-one : goal.returns-in_err-minute-clause-one
returns-in_err-minute-clause-one c name has is =
    let pieces = c.in_ok-pieces.ensures.last name.table (decimal name.partition) (decimal name.sequence) name.minute (decimal_without name.partition has.partition) (decimal_without name.sequence has.sequence) (minute_without name.minute has.minute) (sym is) in
    absurd (none-some name.minute ((c.in_err-minute.ensures name.minute).1 (has.minute, pieces.3)))

pub returns-clause-text : goal.returns-clause-text
returns-clause-text c =
    same_text c.args.text.now c.in_ok-pieces.pieces.table.now c.in_ok-pieces.pieces.partition.now c.in_ok-pieces.pieces.sequence.now c.in_ok-pieces.pieces.minute.now c.in_ok-partition.partition c.in_ok-sequence.sequence c.in_ok-minute.minute
    c.in_ok-pieces.ensures.joined
    ((c.in_ok-partition.ensures c.in_ok-partition.partition).0 refl).1
    ((c.in_ok-sequence.ensures c.in_ok-sequence.sequence).0 refl).1
    ((c.in_ok-minute.ensures c.in_ok-minute.minute).0 refl).1

pub returns-clause-one : goal.returns-clause-one
returns-clause-one c name has is =
    let pieces = c.in_ok-pieces.ensures.last name.table (decimal name.partition) (decimal name.sequence) name.minute (decimal_without name.partition has.partition) (decimal_without name.sequence has.sequence) (minute_without name.minute has.minute) (sym is) in
    same_name name c.in_ok-pieces.pieces.table.now c.in_ok-partition.partition c.in_ok-sequence.sequence c.in_ok-minute.minute
    pieces.0
    (same_Some _ _ ((c.in_ok-partition.ensures name.partition).1 (has.partition, pieces.1)))
    (same_Some _ _ ((c.in_ok-sequence.ensures name.sequence).1 (has.sequence, pieces.2)))
    (same_Some _ _ ((c.in_ok-minute.ensures name.minute).1 (has.minute, pieces.3)))
