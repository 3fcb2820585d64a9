-- What a producer has appended, and what is left.
use Rattle.std.proofs.Common.{◌≡◌, ◌∙◌, ap, sym, ℕ, ◌+◌, List, [], ◌∷◌, ◌++◌, length, take, slice_get, Some, append_assoc, arith}
use Rattle.std.proofs.lemmas.List.{reverse-append, take_all, take_more}
use Rattle.std.proofs.lemmas.Option.{get_or_from_slice_get, slice_get_within}
use mathlib.Core.List.{reverse}
use Rattle.rt_base.specs.declared.numbers.Offset.{Offset}
use Rattle.rt_base.specs.declared.numbers.Partition.{Partition}
use Rattle.rt_front.specs.Histories.{Known, mine}
use Rattle.rt_ground.specs.Histories.{next_entry, whats}
use Rattle.rt_ground.specs.StreamCalls.{AppendsMine}
use Rattle.rt_ground.specs.declared.appended.Appended.{Appended}
use Rattle.rt_ground.proofs.Entries.{whats_append}
use Rattle.rt_live_names.specs.Fronts.{fronts}
use Rattle.rt_live_names.specs.Names.{Names}
use Rattle.rt_live_producer.specs.Producing.{IsProducing, Producing}

-- the messages that are left, the next one first
pub last_first : (rows : List Appended) (place : ℕ) (row : Appended) → slice_get rows place ≡ Some row → length rows ≡ place + 1
    → reverse rows ≡ row ∷ reverse (take place rows)
last_first rows place row at count =
    let within = slice_get_within rows place row at in
    let whole : rows ≡ take place rows ++ row ∷ [] =
    sym (take_all (place + 1) rows (omega (arith, count)))
    ∙ take_more rows place row within
    ∙ ap (λ (x : Appended). take place rows ++ x ∷ []) (get_or_from_slice_get rows place row row at) in
    ap (λ (xs : List Appended). reverse xs) whole ∙ reverse-append (take place rows) (row ∷ [])

abbrev pub appended : Partition → List ℕ → Appended
appended partition message = record { partition = partition; message = message }

abbrev owned : Known Appended → List Appended
owned f = whats (mine f.numbers f.seen)

pub appends : (n : Names) (old : Producing) (partitions : ℕ) (stream : Known Appended) (row given : Appended) (rest : List Appended) (offset : Offset) → IsProducing n old
    → old.left ≡ row ∷ rest → given ≡ row → AppendsMine partitions old.fronts.stream stream given offset
    → IsProducing n (record { fronts = fronts old.fronts.store old.fronts.deep stream; left = rest })
appends n old partitions stream row given rest offset is left same a =
    let before = old.fronts.stream in
    let entry = next_entry before given in
    let more : owned stream ≡ owned before ++ row ∷ [] =
    ap (λ es. whats es) a.noted.mine
    ∙ whats_append (mine before.numbers before.seen) (entry ∷ [])
    ∙ ap (λ (x : Appended). owned before ++ x ∷ []) same in
    record {
      caller = record {
        store = is.caller.store;
        deep = is.caller.deep;
        stream = ap (λ (f : Known Appended). f.numbers) a.noted.front ∙ is.caller.stream;
      };
      rows =
          is.rows
          ∙ ap (λ (xs : List Appended). owned before ++ xs) left
          ∙ sym (append_assoc (owned before) (row ∷ []) rest)
          ∙ ap (λ (xs : List Appended). xs ++ rest) (sym more);
      writes = is.writes;
      puts = is.puts;
    }
