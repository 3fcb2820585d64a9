-- An entry learns of its segment's commit.
use Rattle.std.proofs.Common.{◌≡◌, ℕ, ◌<◌, ◌≤◌, ◌&&◌, nat_le, Bool, true, false, cond, Some, refl, subst, ◌∙◌}
use Rattle.std.proofs.lemmas.Bool.{leb-true}
use Rattle.rt_base.specs.declared.numbers.Offset.{Offset}
use Rattle.rt_model.specs.declared.seg_meta.SeenMeta.{SeenMeta}
use Rattle.rt_model.specs.declared.setup.Setup.{Setup}
use Rattle.rt_consumer.specs.declared.consumer.Consumer.{Consumer}
use Rattle.rt_consumer.specs.Consumer.{cur, end_of}
use Rattle.rt_consumer.specs.Requests.{learns_in}
use Rattle.rt_replica.proofs.Keeps.{learned_is}
use Rattle.rt_entry.specs.declared.entry.Entry.{Entry}
use Rattle.rt_entry.specs.declared.entry.Entry.TheVariants.{Replica, Committed}
use Rattle.rt_entry.specs.Entry.{IsEntry, wanting}
use Rattle.rt_entry.specs.Transition.{goes_on, gone_on, told}
use Rattle.rt_entry.proofs.Settings.{learned_keeps}

-- ---- a transition

both_true : (a b : Bool) → (a && b) ≡ true → (a ≡ true) × (b ≡ true)
both_true true true h = (refl, refl)
both_true true false h = absurd (cc)
both_true false b h = absurd (cc)

within : (a b : ℕ) → nat_le a b ≡ true → a ≤ b
within a b h = leb-true a b h

goes_both : (x : Entry) (r : Consumer) (end : Offset) → x ≡ Replica r → goes_on x end ≡ true → (learns_in r.phase ≡ true) × ((cur r).0 ≤ end.0)
goes_both x r end is goes =
    let both = both_true (learns_in r.phase) (nat_le (cur r).0 end.0) (subst (λ y. goes_on y end ≡ true) is goes) in
    (both.0, within (cur r).0 end.0 both.1)

pub goes_learns : (x : Entry) (r : Consumer) (end : Offset) → x ≡ Replica r → goes_on x end ≡ true → learns_in r.phase ≡ true
goes_learns x r end is goes = (goes_both x r end is goes).0

pub goes_within : (x : Entry) (r : Consumer) (end : Offset) → x ≡ Replica r → goes_on x end ≡ true → (cur r).0 ≤ end.0
goes_within x r end is goes = (goes_both x r end is goes).1

told_if : (setup : Setup) (x : Entry) (done : SeenMeta) (end : Offset) (b : Bool) → goes_on x end ≡ b → IsEntry setup x → end_of done ≡ Some end
    → ((r : Consumer) → x ≡ Replica r → r.start.0 < end.0) → IsEntry setup (cond b (gone_on x done end) (wanting done))
told_if setup (Replica r) done end true goes is e past =
    (learned_is r done end e (past r refl) (goes_within (Replica r) r end refl goes) is.0, learned_keeps r r.phase done end ∙ is.1)
told_if setup (Committed c) done end true goes is e past = is
told_if setup x done end false goes is e past = tt

pub told_is : (setup : Setup) (x : Entry) (done : SeenMeta) (end : Offset) → IsEntry setup x → end_of done ≡ Some end
    → ((r : Consumer) → x ≡ Replica r → r.start.0 < end.0) → IsEntry setup (told x done end)
told_is setup x done end is e past = told_if setup x done end (goes_on x end) refl is e past
