-- What a call's answer had, taken apart.
use Rattle.std.proofs.Common.{◌≡◌, Option, Some, None, refl}
use Rattle.rt_store.specs.Meaning.{Meaning}
use Rattle.rt_commit.specs.Calls.{Call, calls_nothing, puts, gets, reads, sets, creates, Answer, nothing, put, got, read, set, created, Makes, DeepMeaning}

by_option : {X : Type 0} (P : Option X → Type 0) (o : Option X) → (P None → ⊥) → P o → (x : X) × (o ≡ Some x) × P (Some x)
by_option P None never p = absurd (never p)
by_option P (Some x) never p = (x, refl, p)

-- an answer of which something is made, of which P holds
pub makes_some :
    {X : Type 0} (s t : Meaning) (d e : DeepMeaning) (call : Call) (f : Answer → Option X) (P : Option X → Type 0)
    → (P None → ⊥) → Makes s t d e call (λ a. P (f a)) → (x : X) × Makes s t d e call (λ a. f a ≡ Some x) × P (Some x)
makes_some s t d e calls_nothing f P never (store, files, p) =
    let o = by_option P (f nothing) never p in (o.0, (store, files, o.1), o.2)
makes_some s t d e (puts path bytes) f P never (answer, c, same, p) =
    let o = by_option P (f (put answer)) never p in (o.0, (answer, c, same, o.1), o.2)
makes_some s t d e (gets path) f P never (answer, c, same, p) =
    let o = by_option P (f (got answer)) never p in (o.0, (answer, c, same, o.1), o.2)
makes_some s t d e (reads k) f P never (answer, c, same, p) =
    let o = by_option P (f (read answer)) never p in (o.0, (answer, c, same, o.1), o.2)
makes_some s t d e (sets from n) f P never (answer, c, same, p) =
    let o = by_option P (f (set answer)) never p in (o.0, (answer, c, same, o.1), o.2)
makes_some s t d e (creates k n prior) f P never (answer, c, same, p) =
    let o = by_option P (f (created answer)) never p in (o.0, (answer, c, same, o.1), o.2)

-- ---- a step of a job

pub makes_then :
    (s t : Meaning) (d e : DeepMeaning) (call : Call) (P Q : Answer → Type 0) → ((a : Answer) → P a → Q a)
    → Makes s t d e call P → Makes s t d e call Q
makes_then s t d e calls_nothing P Q f (store, files, p) = (store, files, f nothing p)
makes_then s t d e (puts path bytes) P Q f (answer, c, same, p) = (answer, c, same, f (put answer) p)
makes_then s t d e (gets path) P Q f (answer, c, same, p) = (answer, c, same, f (got answer) p)
makes_then s t d e (reads k) P Q f (answer, c, same, p) = (answer, c, same, f (read answer) p)
makes_then s t d e (sets from n) P Q f (answer, c, same, p) = (answer, c, same, f (set answer) p)
makes_then s t d e (creates k n prior) P Q f (answer, c, same, p) = (answer, c, same, f (created answer) p)
