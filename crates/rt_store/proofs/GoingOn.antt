-- What an answer of the store shows, and that what its caller has seen goes on lawfully.
use Rattle.std.proofs.Common.{◌≡◌, List, Some, Result, Ok, sym, ◌∙◌, ap, subst}
use Rattle.rt_base.proofs.Planned.{without_fault}
use Rattle.rt_base.specs.declared.numbers.Partition.{Partition}
use Rattle.rt_lists.specs.Members.{IsFront}
use Rattle.rt_lists.proofs.Members.{front_same}
use Rattle.rt_model.specs.declared.node.Key.{Key}
use Rattle.rt_model.specs.declared.node.Listed.{Listed}
use Rattle.rt_model.specs.declared.node.Seen.{Seen}
use Rattle.rt_model.specs.History.{value_of}
use Rattle.rt_model.specs.Lawful.{Write, IsLawful, IsLawfulHistory}
use Rattle.rt_model.specs.Metadata.{metadata_of}
use Rattle.rt_model.specs.Starting.{Starting}
use Rattle.rt_store.specs.declared.refused.StoreRefused.{StoreRefused}
use Rattle.rt_store.specs.declared.refused.StoreRefused.TheVariants.{Failed}
use Rattle.rt_store.specs.Answers.{reading, listing, answer_of, after_call}
use Rattle.rt_store.specs.Calls.{Calls, Reads, Lists}
use Rattle.rt_store.specs.Meaning.{Meaning}
use Rattle.rt_store.proofs.Seeing.{found_value, same_ok, read_grows, list_grows, write_grows, read_lawful, list_lawful, write_lawful}

-- ---- what an answer shows

pub list_is : (old new : Meaning) (p : Partition) (ls : List Listed) → Lists old new p (Ok ls) → ls ≡ metadata_of new.seen p
list_is old new p ls c =
    let told = without_fault Failed c.fault (listing p c.base) (Ok ls) c.base c.base new.seen (λ e. cc) c.goes.answered c.goes.seen in
    same_ok ls (metadata_of c.base p) told.0 ∙ ap (λ h. metadata_of h p) (sym told.1)

pub read_is : (old new : Meaning) (k : Key) (w : Seen) → Reads old new k (Ok w) → value_of new.seen k ≡ Some w
read_is old new k w c =
    let told = without_fault Failed c.fault (reading k c.base) (Ok w) c.base c.base new.seen (λ e. cc) c.goes.answered c.goes.seen in
    ap (λ h. value_of h k) told.1 ∙ found_value (value_of c.base k) w told.0

-- ---- the caller sees no less, and what it sees is lawful

-- what was seen goes on lawfully
pub record GoesOn (s : Starting) (old new : Meaning) : Type 0 where
  pub front : IsFront old.seen new.seen
  pub lawful : IsLawfulHistory s new.seen

pub goes_same : (s : Starting) (old new : Meaning) → IsLawfulHistory s old.seen → new ≡ old → GoesOn s old new
goes_same s old new l e =
    let same : old.seen ≡ new.seen = ap (λ (m : Meaning). m.seen) (sym e) in
    record { front = subst (IsFront old.seen) same (front_same old.seen); lawful = subst (IsLawfulHistory s) same l }

pub goes_list :
    (s : Starting) (old new : Meaning) (p : Partition) (answer : Result (List Listed) StoreRefused)
    → IsLawfulHistory s old.seen → Lists old new p answer → GoesOn s old new
goes_list s old new p answer l c =
    record { front = list_grows old new p answer c; lawful = list_lawful s old new p answer l c }

pub goes_read :
    (s : Starting) (old new : Meaning) (k : Key) (answer : Result Seen StoreRefused)
    → IsLawfulHistory s old.seen → Reads old new k answer → GoesOn s old new
goes_read s old new k answer l c =
    record { front = read_grows old new k answer c; lawful = read_lawful s old new k answer l c }

pub goes_write :
    {X : Type 0} (tell : Seen → X) (s : Starting) (old new : Meaning) (call : Write) (answer : Result X StoreRefused)
    → IsLawfulHistory s old.seen → IsLawful old.seen call → Calls old new (answer_of tell call) (after_call call) answer
    → GoesOn s old new
goes_write tell s old new call answer l may c =
    record { front = write_grows tell old new call answer c; lawful = write_lawful tell s old new call answer l may c }
