-- What the calls of the store behind its lock do, as their contracts see it.
use Rattle.std.proofs.Common.{◌≡◌, List, Result, refl, sym, ap, ◌∙◌, subst}
use Rattle.rt_model.specs.declared.node.Seen.{Seen}
use Rattle.rt_model.specs.Starting.{Starting}
use Rattle.rt_model.specs.Lawful.{Write, IsLawful}
use Rattle.rt_store.specs.declared.refused.StoreRefused.{StoreRefused}
use Rattle.rt_store.specs.Meaning.{Told}
use Rattle.rt_store.specs.Memory.{means}
use Rattle.rt_store.specs.Answers.{answer_of, after_call}
use Rattle.rt_store.specs.Calls.{Calls}
use Rattle.rt_front.specs.declared.entry.Entry.{Entry}
use Rattle.rt_front.specs.Histories.{Known}
use Rattle.rt_ground.specs.Histories.{Tells}
use Rattle.rt_ground.specs.Lawfulness.{IsLawfulLog}
use Rattle.rt_ground.specs.StoreCalls.{seen_by, held, SettledBy, WritesOnce, Looks}
use Rattle.rt_ground.proofs.Stores.{WriteDone, write_done, LookDone, look_done}

-- the value after a call, and what the call's contract says
pub record StoreClosed (o : Starting) (log : List (Entry Seen)) (t : Told) (Says : Type 0) : Type 0 where
  pub holds : t ≡ held o log
  pub lawful : IsLawfulLog o log
  pub says : Says

pub read_closed : {X : Type 0} (answer : List Seen → Result X StoreRefused) (o : Starting) (v old new : List (Entry Seen)) (t0 t : Told) (before after : Known Seen) (result : Result X StoreRefused)
    → old ≡ v → t0 ≡ held o old → IsLawfulLog o old → new ≡ old → Calls (means t0) (means t) answer (λ base. base) result → Tells old before after
    → StoreClosed o new t (Looks answer o v new before after result)
read_closed answer o v old new t0 t before after result view holds lawful same calls told =
    let done : LookDone answer o old t before after result =
    look_done answer o old t before after result lawful (subst (λ (x : Told). Calls (means x) (means t) answer (λ base. base) result) holds calls) told in
    record {
      holds = done.holds ∙ ap (held o) (sym same);
      lawful = subst (IsLawfulLog o) (sym same) lawful;
      says = subst (λ (x : List (Entry Seen)). Looks answer o x new before after result) view
          (subst (λ (l : List (Entry Seen)). Looks answer o old l before after result) (sym same) done.looks);
    }

pub write_closed : {X : Type 0} (tell : Seen → X) (call : Write) (o : Starting) (v old r_old r_new : List (Entry Seen)) (t0 t : Told) (before after : Known Seen) (answer result : Result X StoreRefused)
    → old ≡ v → t0 ≡ held o old → IsLawfulLog o old → IsLawful (seen_by o before) call → r_old ≡ old
    → Calls (means t0) (means t) (answer_of tell call) (after_call call) answer → SettledBy t.writes r_old r_new before after answer → result ≡ answer
    → StoreClosed o r_new t (WritesOnce tell call o v r_new before after result)
write_closed tell call o v old r_old r_new t0 t before after answer result view holds lawful may same calls settled given =
    let done : WriteDone tell call o old r_new t before after answer =
    write_done tell call o old r_new before after t r_old r_new answer same refl lawful may
    (subst (λ (x : Told). Calls (means x) (means t) (answer_of tell call) (after_call call) answer) holds calls) settled in
    record {
      holds = done.holds;
      lawful = done.lawful;
      says = subst (λ (x : List (Entry Seen)). WritesOnce tell call o x r_new before after result) view
          (subst (λ y. WritesOnce tell call o old r_new before after y) (sym given) done.wrote);
    }
