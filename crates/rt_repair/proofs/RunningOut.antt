-- Where memory runs out in a step of a repair, nothing is written.
use Rattle.std.proofs.Common.{◌≡◌, ℕ, inr, List, Option, None, Result, Ok, Err}
use Rattle.rt_base.specs.declared.numbers.Sequence.{Sequence}
use Rattle.rt_model.specs.declared.node.Key.TheVariants as key
use Rattle.rt_model.specs.declared.node.Listed.{Listed}
use Rattle.rt_model.specs.declared.node.Seen.{Seen}
use Rattle.rt_model.specs.Lawful.{Write}
use Rattle.rt_store.specs.declared.refused.StoreRefused.{StoreRefused}
use Rattle.rt_store.specs.declared.refused.StoreRefused.TheVariants.{NoNode, Exists, VersionChanged, Failed, Memory}
use Rattle.rt_store.specs.Calls.{Reads, Lists, Writes, WritesVersion}
use Rattle.rt_store.specs.Meaning.{Meaning}
use Rattle.rt_repair.specs.declared.read_node.ReadNode.{ReadNode}
use Rattle.rt_repair.specs.Repairing.{Repairing}
use Rattle.rt_repair.specs.RepairSteps.{RanOut, after_list, after_read, created, abandoned, ideal_set}

pub list_ran_out : (old new : Meaning) (r : Repairing) (answer : Result (List Listed) StoreRefused)
    → Lists old new r.partition answer → after_list r answer ≡ None → RanOut old new
list_ran_out old new r (Ok done) c e = absurd (cc)
list_ran_out old new r (Err NoNode) c e = absurd (cc)
list_ran_out old new r (Err (Exists found)) c e = absurd (cc)
list_ran_out old new r (Err (VersionChanged expected found)) c e = absurd (cc)
list_ran_out old new r (Err Failed) c e = absurd (cc)
list_ran_out old new r (Err Memory) c e = inr (c.base, c.sees, c.goes)

pub read_ran_out : (old new : Meaning) (r : Repairing) (answer : Result Seen StoreRefused)
    → Reads old new key.Ideal answer → after_read r answer ≡ None → RanOut old new
read_ran_out old new r (Ok done) c e = absurd (cc)
read_ran_out old new r (Err NoNode) c e = absurd (cc)
read_ran_out old new r (Err (Exists found)) c e = absurd (cc)
read_ran_out old new r (Err (VersionChanged expected found)) c e = absurd (cc)
read_ran_out old new r (Err Failed) c e = absurd (cc)
read_ran_out old new r (Err Memory) c e = inr (c.base, c.sees, c.goes)

pub create_ran_out : (old new : Meaning) (call : Write) (s : Sequence) (last : Option ReadNode) (answer : Result (Unit {0}) StoreRefused)
    → Writes old new call answer → created s last answer ≡ None → RanOut old new
create_ran_out old new call s last (Ok done) c e = absurd (cc)
create_ran_out old new call s last (Err NoNode) c e = absurd (cc)
create_ran_out old new call s last (Err (Exists found)) c e = absurd (cc)
create_ran_out old new call s last (Err (VersionChanged expected found)) c e = absurd (cc)
create_ran_out old new call s last (Err Failed) c e = absurd (cc)
create_ran_out old new call s last (Err Memory) c e = inr (c.base, c.sees, c.goes)

pub abandon_ran_out : (old new : Meaning) (call : Write) (s : Sequence) (answer : Result ℕ StoreRefused)
    → WritesVersion old new call answer → abandoned s answer ≡ None → RanOut old new
abandon_ran_out old new call s (Ok done) c e = absurd (cc)
abandon_ran_out old new call s (Err NoNode) c e = absurd (cc)
abandon_ran_out old new call s (Err (Exists found)) c e = absurd (cc)
abandon_ran_out old new call s (Err (VersionChanged expected found)) c e = absurd (cc)
abandon_ran_out old new call s (Err Failed) c e = absurd (cc)
abandon_ran_out old new call s (Err Memory) c e = inr (c.base, c.sees, c.goes)

pub set_ran_out : (old new : Meaning) (call : Write) (answer : Result ℕ StoreRefused)
    → WritesVersion old new call answer → ideal_set answer ≡ None → RanOut old new
set_ran_out old new call (Ok done) c e = absurd (cc)
set_ran_out old new call (Err NoNode) c e = absurd (cc)
set_ran_out old new call (Err (Exists found)) c e = absurd (cc)
set_ran_out old new call (Err (VersionChanged expected found)) c e = absurd (cc)
set_ran_out old new call (Err Failed) c e = absurd (cc)
set_ran_out old new call (Err Memory) c e = inr (c.base, c.sees, c.goes)
