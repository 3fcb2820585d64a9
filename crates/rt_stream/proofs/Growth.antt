-- How a log grows.
use Rattle.std.proofs.Common.{◌≡◌, ℕ, ◌<◌, ◌⊎◌, inl, inr, List, [], ◌∷◌, ◌++◌, length, get_or, set, refl, sym, ap, ◌∙◌, append_assoc, append-nil}
use Rattle.std.proofs.lemmas.Bool.{cases_eq}
use Rattle.std.proofs.lemmas.List.{get_or-set_same, get_or-set_other, length-set}
use Rattle.rt_base.specs.declared.numbers.Partition.{Partition}
use Rattle.rt_stream.specs.Log.{Log, messages_of, with_message}
use Rattle.rt_stream.specs.Feed.{Grows}

abbrev Messages : Type 0
Messages = List (List ℕ)

pub log_same : (log : Log) → Grows log log
log_same log = record {
  partitions = refl;
  messages = λ p. ([], sym (append-nil (messages_of log p)));
}

pub log_then : (old mid new : Log) → Grows old mid → Grows mid new → Grows old new
log_then old mid new f g = record {
  partitions = g.partitions ∙ f.partitions;
  messages = λ p. (
    (f.messages p).0 ++ (g.messages p).0,
    (g.messages p).1
        ∙ ap (λ (m : Messages). m ++ (g.messages p).0) (f.messages p).1
        ∙ append_assoc (messages_of old p) (f.messages p).0 (g.messages p).0,
  );
}

-- one message more
pub log_message : (log : Log) (partition : Partition) (message : List ℕ) → partition.0 < length log
    → Grows log (with_message log partition message)
log_message log partition message within = record {
  partitions = length-set log partition.0 (messages_of log partition ++ message ∷ []);
  messages = λ p. at p (cases_eq p.0 partition.0);
}
  where
    grown : Messages
    grown = messages_of log partition ++ message ∷ []

    at :
        (p : Partition) → (p.0 ≡ partition.0) ⊎ (p.0 ≡ partition.0 → ⊥)
        → (more : Messages) × (messages_of (with_message log partition message) p ≡ messages_of log p ++ more)
    at p (inl same) = (
      message ∷ [],
      ap (λ n. get_or (set log partition.0 grown) n []) same
          ∙ get_or-set_same log partition.0 grown [] within
          ∙ ap (λ n. get_or log n [] ++ message ∷ []) (sym same),
    )
    at p (inr other) = ([], get_or-set_other log partition.0 p.0 grown [] other ∙ sym (append-nil (messages_of log p)))
