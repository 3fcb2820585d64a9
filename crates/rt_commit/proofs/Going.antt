-- What a store's caller has seen goes on lawfully, whichever call a step makes.
use Rattle.std.proofs.Common.{inl, inr, sym, subst}
use Rattle.rt_lists.specs.Members.{IsFront}
use Rattle.rt_model.specs.Lawful.{set, create_after, IsLawfulHistory}
use Rattle.rt_model.specs.Starting.{Starting}
use Rattle.rt_store.specs.Meaning.{Meaning}
use Rattle.rt_store.proofs.GoingOn.{GoesOn, goes_same, goes_read, goes_write}
use Rattle.rt_commit.specs.Calls.{Call, calls_nothing, puts, gets, reads, sets, creates, Answer, Makes, MayCall, StoreIdles, DeepMeaning}

pub goes_idle : (s : Starting) (old new : Meaning) → IsLawfulHistory s old.seen → StoreIdles old new → GoesOn s old new
goes_idle s old new l (inl e) = goes_same s old new l e
goes_idle s old new l (inr (base, sees, idles)) =
    record {
      front = subst (IsFront old.seen) (sym idles.seen) sees.grows;
      lawful = subst (IsLawfulHistory s) (sym idles.seen) (sees.lawful s l);
    }

pub goes_made :
    (st : Starting) (s t : Meaning) (d e : DeepMeaning) (call : Call) (P : Answer → Type 0)
    → IsLawfulHistory st s.seen → MayCall s.seen call → Makes s t d e call P → GoesOn st s t
goes_made st s t d e calls_nothing P l may m = goes_same st s t l m.0
goes_made st s t d e (puts path bytes) P l may (answer, c, same, p) = goes_same st s t l same
goes_made st s t d e (gets path) P l may (answer, c, same, p) = goes_same st s t l same
goes_made st s t d e (reads k) P l may (answer, c, same, p) = goes_read st s t k answer l c
goes_made st s t d e (sets from n) P l may (answer, c, same, p) =
    goes_write (λ w. w.version) st s t (set from n) answer l may c
goes_made st s t d e (creates k n prior) P l may (answer, c, same, p) =
    goes_write (λ w. tt) st s t (create_after k n prior) answer l may c
