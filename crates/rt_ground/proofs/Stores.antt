-- What the calls of the store behind its lock do.
use Rattle.std.proofs.Common.{◌≡◌, ℕ, zero, suc, ◌<◌, List, [], ◌∷◌, ◌++◌, length, take, slice_get, Option, Some, None, Result, Ok, Err, refl, sym, ap, ◌∙◌, ⊎_elim, subst, arith, append_assoc, append-nil}
use Rattle.rt_lists.specs.Members.{IsFront}
use Rattle.rt_model.specs.declared.node.Seen.{Seen}
use Rattle.rt_model.specs.Starting.{Starting, starting_contents}
use Rattle.rt_model.specs.Lawful.{Write, IsLawful, IsLawfulStep, TakesEffect, written_by, IsLawfulHistory}
use Rattle.rt_model.proofs.Lawful.{start_is_lawful, step_is_lawful, has_chains}
use Rattle.rt_store.specs.declared.refused.StoreRefused.{StoreRefused}
use Rattle.rt_store.specs.declared.refused.StoreRefused.TheVariants.{NoNode, Exists, VersionChanged, Failed, Memory}
use Rattle.rt_store.specs.Meaning.{Told}
use Rattle.rt_store.specs.Memory.{means}
use Rattle.rt_store.specs.Answers.{refusal_of, answer_by, after_by, answer_of, after_call}
use Rattle.rt_store.specs.Calls.{Calls}
use Rattle.rt_store.proofs.Seeing.{told_exact, effect_of}
use Rattle.rt_front.specs.declared.entry.Entry.{Entry}
use Rattle.rt_front.specs.Histories.{Known}
use Rattle.rt_ground.specs.Histories.{whats, next_entry, Notes, Tells}
use Rattle.rt_ground.specs.Lawfulness.{opened, IsLawfulEntry, IsLawfulLog, IsLawfulStore}
use Rattle.rt_ground.specs.StoreCalls.{seen_by, held, NotesLast, SettledBy, WritesOnce, IsAnswer, Looks}
use Rattle.rt_ground.proofs.Entries.{forth, back, whats_append, last_some, pushed_cases, front_length, take_front, take_more, take_whole}

-- ---- the lawful history

pub opened_append : (o : Starting) (log more : List (Entry Seen)) → opened o (whats (log ++ more)) ≡ opened o (whats log) ++ whats more
opened_append o log more =
    ap (λ l. starting_contents o ++ l) (whats_append log more)
    ∙ sym (append_assoc (starting_contents o) (whats log) (whats more))

pub opened_front : (o : Starting) (seen log : List (Entry Seen)) → IsFront seen log → IsFront (opened o (whats seen)) (opened o (whats log))
opened_front o seen log f = (whats f.0, ap (λ l. opened o (whats l)) f.1 ∙ opened_append o seen f.0)

entry_is_lawful : (o : Starting) (log : List (Entry Seen)) (before : Known Seen) (call : Write) → IsFront before.seen log → IsLawful (seen_by o before) call → TakesEffect (opened o (whats log)) call
    → IsLawfulEntry o log (next_entry before (written_by (opened o (whats log)) call))
entry_is_lawful o log before call begins may effect =
    record {
      told = front_length before.seen log begins;
      write = call;
      lawful = subst (λ (l : List (Entry Seen)). IsLawful (opened o (whats l)) call) (sym (take_front before.seen log begins)) may;
      effect = effect;
      wrote = refl;
    }

each_more : (o : Starting) (log : List (Entry Seen)) (e : Entry Seen) → IsLawfulLog o log → IsLawfulEntry o log e
    → (k : ℕ) (x : Entry Seen) → slice_get (log ++ e ∷ []) k ≡ Some x → IsLawfulEntry o (take k (log ++ e ∷ [])) x
each_more o log e lawful new k x at =
    ⊎_elim
    (λ (h : (slice_get log k ≡ Some x) × (k < length log)).
    subst (λ (l : List (Entry Seen)). IsLawfulEntry o l x) (sym (take_more k log e (let lt = h.1 in omega (arith, lt)))) (lawful.each k x h.0))
    (λ (h : (k ≡ length log) × (e ≡ x)).
    let before : take k (log ++ e ∷ []) ≡ log = ap (λ n. take n (log ++ e ∷ [])) h.0 ∙ take_more (length log) log e (omega arith) ∙ take_whole log in
    subst (λ (l : List (Entry Seen)). IsLawfulEntry o l x) (sym before) (subst (λ (y : Entry Seen). IsLawfulEntry o log y) h.1 new))
    (pushed_cases log e k x at)

log_more : (o : Starting) (log : List (Entry Seen)) (before : Known Seen) (call : Write) → IsLawfulLog o log → IsFront before.seen log → IsLawful (seen_by o before) call → TakesEffect (opened o (whats log)) call
    → IsLawfulLog o (log ++ next_entry before (written_by (opened o (whats log)) call) ∷ [])
log_more o log before call lawful begins may effect =
    let h : List Seen = opened o (whats log) in
    let w : Seen = written_by h call in
    let e : Entry Seen = next_entry before w in
    let seen = opened_front o before.seen log begins in
    let step : IsLawfulStep o h w =
    record { later = whats before.seen; unseen = seen.0; has_seen = seen.1; write = call; lawful = may; effect = effect; wrote = refl } in
    record {
      each = each_more o log e lawful (entry_is_lawful o log before call begins may effect);
      history = subst (IsLawfulHistory o) (sym (opened_append o log (e ∷ []))) (step_is_lawful o h w lawful.history step);
    }

pub lawful_store : (o : Starting) (log : List (Entry Seen)) → IsLawfulLog o log → IsLawfulStore o log
lawful_store o log lawful = record { entries = lawful; chains = has_chains o (opened o (whats log)) lawful.history }

nothing : (x : Entry Seen) (o p : Option (Entry Seen)) → o ≡ None → p ≡ Some x → o ≡ p → ⊥
nothing x o p e f g = cc

nothing_at : (k : ℕ) (x : Entry Seen) → slice_get [] k ≡ Some x → ⊥
nothing_at zero x e = nothing x _ _ refl e refl
nothing_at (suc k) x e = nothing x _ _ refl e refl

pub first_log : (o : Starting) → IsLawfulLog o []
first_log o =
    record {
      each = λ k x e. absurd (nothing_at k x e);
      history = subst (IsLawfulHistory o) (sym (append-nil (starting_contents o))) (start_is_lawful o);
    }

-- ---- writes

-- a write call, whatever it answered
pub record WriteDone {X : Type 0} (tell : Seen → X) (call : Write) (o : Starting) (old new : List (Entry Seen)) (t : Told) (before after : Known Seen) (answer : Result X StoreRefused) : Type 0 where
  pub holds : t ≡ held o new
  pub lawful : IsLawfulLog o new
  pub wrote : WritesOnce tell call o old new before after answer

abbrev told_of : List Seen → Told
told_of writes = record { writes = writes; faults = record { plan = []; met = 0 } }

module _ {X : Type 0} (tell : Seen → X) (call : Write) (o : Starting) (old new : List (Entry Seen)) (before after : Known Seen) where
  abbrev Done : List Seen → Result X StoreRefused → Type 0
  Done writes answer = WriteDone tell call o old new (told_of writes) before after answer

  carried : IsLawfulLog o old → IsLawful (seen_by o before) call → refusal_of (opened o (whats old)) call ≡ None
      → Notes old new before after (written_by (opened o (whats old)) call)
      → Done (opened o (whats old) ++ written_by (opened o (whats old)) call ∷ []) (Ok (tell (written_by (opened o (whats old)) call)))
  carried lawful may free noted =
      let h : List Seen = opened o (whats old) in
      let w : Seen = written_by h call in
      let with_it : IsLawfulLog o new = subst (IsLawfulLog o) (sym noted.log) (log_more o old before call lawful noted.begins may (effect_of h call free)) in
      record {
        holds = ap told_of (sym (opened_append o old (next_entry before w ∷ [])) ∙ ap (λ l. opened o (whats l)) (sym noted.log));
        lawful = with_it;
        wrote = record { free = free; answer = refl; noted = noted; lawful = lawful_store o old lawful; lawful_after = lawful_store o new with_it };
      }

  unwritten : (answer : Result X StoreRefused) → IsLawfulLog o old → new ≡ old → (new ≡ old → WritesOnce tell call o old new before after answer)
      → Done (opened o (whats old)) answer
  unwritten answer lawful same wrote =
      record {
        holds = ap (held o) (sym same);
        lawful = subst (IsLawfulLog o) (sym same) lawful;
        wrote = wrote same;
      }

  settled_done : (r : Option StoreRefused) → refusal_of (opened o (whats old)) call ≡ r → (r_old r_new : List (Entry Seen)) → r_old ≡ old → r_new ≡ new
      → IsLawfulLog o old → IsLawful (seen_by o before) call
      → SettledBy (after_by r (opened o (whats old)) (written_by (opened o (whats old)) call)) r_old r_new before after (answer_by r (tell (written_by (opened o (whats old)) call)))
      → Done (after_by r (opened o (whats old)) (written_by (opened o (whats old)) call)) (answer_by r (tell (written_by (opened o (whats old)) call)))
  settled_done None cause r_old r_new e f lawful may s =
      let h : List Seen = opened o (whats old) in
      let w : Seen = written_by h call in
      let noted : Notes r_old r_new before after w = subst (λ l. NotesLast l r_old r_new before after) (last_some h w) s in
      carried lawful may cause (subst (λ l. Notes l new before after w) e (subst (λ l. Notes r_old l before after w) f noted))
  settled_done (Some Memory) cause r_old r_new e f lawful may s = unwritten (Err Memory) lawful (sym f ∙ s.0 ∙ e) (λ same. (same, s.1))
  settled_done (Some NoNode) cause r_old r_new e f lawful may s = unwritten (Err NoNode) lawful (sym f ∙ s.0 ∙ e)
      (λ same. record { same = same; cause = cause; told = subst (λ l. Tells l before after) e s.1; lawful = lawful_store o old lawful })
  settled_done (Some (Exists found)) cause r_old r_new e f lawful may s = unwritten (Err (Exists found)) lawful (sym f ∙ s.0 ∙ e)
      (λ same. record { same = same; cause = cause; told = subst (λ l. Tells l before after) e s.1; lawful = lawful_store o old lawful })
  settled_done (Some (VersionChanged expected found)) cause r_old r_new e f lawful may s = unwritten (Err (VersionChanged expected found)) lawful (sym f ∙ s.0 ∙ e)
      (λ same. record { same = same; cause = cause; told = subst (λ l. Tells l before after) e s.1; lawful = lawful_store o old lawful })
  settled_done (Some Failed) cause r_old r_new e f lawful may s = unwritten (Err Failed) lawful (sym f ∙ s.0 ∙ e)
      (λ same. record { same = same; cause = cause; told = subst (λ l. Tells l before after) e s.1; lawful = lawful_store o old lawful })

  abbrev out_of_memory : Result X StoreRefused
  out_of_memory = Err Memory

  no_memory : (r_old r_new : List (Entry Seen)) → r_old ≡ old → r_new ≡ new → IsLawfulLog o old
      → SettledBy (opened o (whats old)) r_old r_new before after out_of_memory → Done (opened o (whats old)) (Err Memory)
  no_memory r_old r_new e f lawful s = unwritten (Err Memory) lawful (sym f ∙ s.0 ∙ e) (λ same. (same, s.1))

  pub write_done : (t : Told) (r_old r_new : List (Entry Seen)) (answer : Result X StoreRefused) → r_old ≡ old → r_new ≡ new
      → IsLawfulLog o old → IsLawful (seen_by o before) call
      → Calls (means (held o old)) (means t) (answer_of tell call) (after_call call) answer
      → SettledBy t.writes r_old r_new before after answer
      → WriteDone tell call o old new t before after answer
  write_done t r_old r_new answer e f lawful may calls s =
      let h : List Seen = opened o (whats old) in
      let w : Seen = written_by h call in
      let r = refusal_of h call in
      let P : Told → Result X StoreRefused → Type 0 = λ y z. WriteDone tell call o old new y before after z in
      let S : Told → Result X StoreRefused → Type 0 = λ y z. SettledBy y.writes r_old r_new before after z in
      ⊎_elim
      (λ (x : (answer ≡ out_of_memory) × (t ≡ held o old)).
      back P t (held o old) answer out_of_memory x.1 x.0
      (no_memory r_old r_new e f lawful (forth S t (held o old) answer out_of_memory x.1 x.0 s)))
      (λ (x : (answer ≡ answer_by r (tell w)) × (t ≡ told_of (after_by r h w))).
      back P t (told_of (after_by r h w)) answer (answer_by r (tell w)) x.1 x.0
      (settled_done r refl r_old r_new e f lawful may (forth S t (told_of (after_by r h w)) answer (answer_by r (tell w)) x.1 x.0 s)))
      (told_exact (held o old) t (answer_of tell call) (after_call call) answer calls)

-- ---- reads

is_answer : {X : Type 0} (wanted result : Result X StoreRefused) → result ≡ wanted → IsAnswer wanted result
is_answer wanted (Ok x) e = sym e
is_answer wanted (Err NoNode) e = sym e
is_answer wanted (Err (Exists found)) e = sym e
is_answer wanted (Err (VersionChanged expected found)) e = sym e
is_answer wanted (Err Failed) e = sym e
is_answer wanted (Err Memory) e = tt

no_answer : {X : Type 0} (wanted result : Result X StoreRefused) → result ≡ Err Memory → IsAnswer wanted result
no_answer wanted result e = subst (IsAnswer wanted) (sym e) tt

pub record LookDone {X : Type 0} (answer : List Seen → Result X StoreRefused) (o : Starting) (log : List (Entry Seen)) (t : Told) (before after : Known Seen) (result : Result X StoreRefused) : Type 0 where
  pub holds : t ≡ held o log
  pub looks : Looks answer o log log before after result

pub look_done : {X : Type 0} (answer : List Seen → Result X StoreRefused) (o : Starting) (log : List (Entry Seen)) (t : Told) (before after : Known Seen) (result : Result X StoreRefused)
    → IsLawfulLog o log → Calls (means (held o log)) (means t) answer (λ base. base) result → Tells log before after → LookDone answer o log t before after result
look_done {X} answer o log t before after result lawful calls told =
    let wanted : Result X StoreRefused = answer (opened o (whats log)) in
    let given : (t ≡ held o log) × IsAnswer wanted result =
    ⊎_elim (λ (x : (result ≡ Err Memory) × (t ≡ held o log)). (x.1, no_answer wanted result x.0))
    (λ (x : (result ≡ wanted) × (t ≡ held o log)). (x.1, is_answer wanted result x.0))
    (told_exact (held o log) t answer (λ base. base) result calls) in
    record {
      holds = given.0;
      looks = record { same = refl; told = told; answered = given.1; lawful = lawful_store o log lawful };
    }
