-- What a function over any store leaves of a shared one.
use Rattle.std.proofs.Common.{◌≡◌, ℕ, List, [], ◌∷◌, ◌++◌, Option, Some, Result, Ok, Err, IfOk, sym, ap, ◌∙◌, subst}
use Rattle.rt_base.specs.declared.numbers.Partition.{Partition}
use Rattle.rt_base.specs.declared.numbers.Instance.{Instance}
use Rattle.rt_base.proofs.Planned.{without_fault}
use Rattle.rt_model.specs.declared.node.Seen.{Seen}
use Rattle.rt_model.specs.declared.node.Listed.{Listed}
use Rattle.rt_model.specs.Lawful.{bump, written_by}
use Rattle.rt_model.specs.Starting.{Starting}
use Rattle.rt_store.specs.declared.refused.StoreRefused.{StoreRefused}
use Rattle.rt_store.specs.declared.refused.StoreRefused.TheVariants.{Failed}
use Rattle.rt_store.specs.Answers.{listing}
use Rattle.rt_store.specs.Meaning.{Own, Meaning}
use Rattle.rt_store.specs.Calls.{Lists, Bumps, Gains}
use Rattle.rt_store.proofs.Owning.{gains_nothing, gains_one, with_own}
use Rattle.rt_store.proofs.Told.{answered_took}
use Rattle.rt_front.specs.Histories.{Known}
use Rattle.rt_ground.specs.StoreCalls.{own_by, shared_meaning}
use Rattle.rt_threads.specs.Boots.{Boots, BootsBy, BootsAsOwn, boot_write}

abbrev some_own : Own → Option Own
some_own o = Some o

same_own : (o p : Own) → some_own o ≡ some_own p → o ≡ p
same_own o p e = cc

-- a list that was answered adds nothing
looked : (old mid : Meaning) (p : Partition) (ls : List Listed) → Lists old mid p (Ok ls) → mid.own ≡ old.own
looked old mid p ls c =
    let told = without_fault Failed c.fault (listing p c.base) (Ok ls) c.base c.base mid.seen (λ e. cc) c.goes.answered c.goes.seen in
    gains_nothing old.own mid.own c.base mid.seen c.goes.own told.1

-- a boot node that was written is the one more of the caller's own
booted : (mid new : Meaning) (i : Instance) (v : ℕ) (o : Own) → mid.own ≡ Some o → Bumps mid new i (Ok v) → new.own ≡ with_own o (boot_write i v ∷ [])
booted mid new i v o e c =
    let took = answered_took (λ w. w.version) mid new (bump i) v c in
    gains_one o new.own c.base new.seen (written_by c.base (bump i)) (subst (λ m. Gains m new.own c.base new.seen) e c.goes.own) took.1
    ∙ ap (λ n. with_own o (boot_write i n ∷ [])) (sym took.2)

pub boots_as_own : (s : Starting) (before after : Known Seen) (p : Partition) (i : Instance) (v : ℕ) → Boots (shared_meaning s before) (shared_meaning s after) p i v → BootsAsOwn before after i v
boots_as_own s before after p i v b =
    let o : Own = own_by before in
    let e : Some (own_by after) ≡ with_own o (boot_write i v ∷ []) = booted b.mid (shared_meaning s after) i v o (looked (shared_meaning s before) b.mid p b.listed b.looks) b.boots in
    let f = same_own (own_by after) (record { numbers = before.numbers; writes = o.writes ++ boot_write i v ∷ [] }) e in
    record { numbers = ap (λ (x : Own). x.numbers) f; writes = ap (λ (x : Own). x.writes) f }

pub boots_as_own_by : (s : Starting) (before after : Known Seen) (p : Partition) (i : Instance) (result : Result ℕ StoreRefused) → BootsBy (shared_meaning s before) (shared_meaning s after) p i result
    → IfOk result (λ version. BootsAsOwn before after i version)
boots_as_own_by s before after p i (Ok v) b = boots_as_own s before after p i v b
boots_as_own_by s before after p i (Err e) b = tt
