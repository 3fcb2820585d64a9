-- What a shared call of the store promises, by the call of the value behind the lock.
use Rattle.std.proofs.Common.{◌≡◌, ℕ, List, [], ◌∷◌, append-nil, Option, Some, Result, Ok, Err, refl, sym, ap, ◌∙◌, subst, arith}
use Rattle.rt_lists.specs.Members.{IsFront}
use Rattle.rt_lists.proofs.Members.{front_same}
use Rattle.rt_base.specs.declared.fault.Fault.TheVariants.{Nothing}
use Rattle.rt_model.specs.declared.node.Seen.{Seen}
use Rattle.rt_model.specs.Starting.{Starting}
use Rattle.rt_model.specs.Lawful.{Write, written_by, IsLawfulHistory}
use Rattle.rt_store.specs.declared.refused.StoreRefused.{StoreRefused}
use Rattle.rt_store.specs.declared.refused.StoreRefused.TheVariants.{NoNode, Exists, VersionChanged, Failed, Memory}
use Rattle.rt_store.specs.Answers.{refusal_of, answer_by, after_by, answer_of, after_call}
use Rattle.rt_store.specs.Calls.{Calls, Sees, Gains}
use Rattle.rt_store.specs.Meaning.{Own}
use Rattle.rt_store.proofs.Beginnings.{lawful_from}
use Rattle.rt_front.specs.declared.entry.Entry.{Entry}
use Rattle.rt_front.specs.Histories.{Known, mine}
use Rattle.rt_ground.specs.Histories.{whats, next_entry, Notes, Tells, SeesMore}
use Rattle.rt_ground.specs.Lawfulness.{IsLawfulStore}
use Rattle.rt_ground.specs.StoreCalls.{history_of, seen_by, own_by, shared_meaning, WritesOnce, IsAnswer, Looks}
use Rattle.rt_ground.proofs.Stores.{opened_append, opened_front}
use Rattle.rt_ground.proofs.Entries.{whats_append}

-- the history on which a call stands begins with what its caller has seen, and is lawful where that is
sees : (o : Starting) (before : Known Seen) (log : List (Entry Seen)) → IsFront before.seen log → IsLawfulStore o log → Sees (shared_meaning o before) (history_of o log)
sees o before log begins lawful =
    let front = opened_front o before.seen log begins in
    record {
      grows = front;
      all = tt;
      lawful = λ s seen. subst (IsLawfulHistory s) (sym front.1) (lawful_from s o (seen_by o before) front.0 seen (subst (IsLawfulHistory o) front.1 lawful.entries.history));
    }

still : (o : Starting) (before : Known Seen) → Sees (shared_meaning o before) (seen_by o before)
still o before = record { grows = front_same (seen_by o before); all = tt; lawful = λ s seen. seen }

-- ---- what is the caller's own

abbrev some_own : List ℕ → List Seen → Option Own
some_own numbers writes = Some (record { numbers = numbers; writes = writes })

own_told : (log : List (Entry Seen)) (before after : Known Seen) → Tells log before after → some_own after.numbers (whats (mine after.numbers after.seen)) ≡ some_own before.numbers (whats (mine before.numbers before.seen))
own_told log before after t =
    ap (λ n. some_own n (whats (mine after.numbers after.seen))) (ap (λ (k : Known Seen). k.numbers) t.front)
    ∙ ap (λ es. some_own before.numbers (whats es)) t.mine

own_same : (before after : Known Seen) → after ≡ before → some_own after.numbers (whats (mine after.numbers after.seen)) ≡ some_own before.numbers (whats (mine before.numbers before.seen))
own_same before after e = ap (λ (k : Known Seen). some_own k.numbers (whats (mine k.numbers k.seen))) e

-- a call that added nothing adds nothing of the caller's own
own_kept : (o : Starting) (log : List (Entry Seen)) (before after : Known Seen) (base : List Seen) → Tells log before after → seen_by o after ≡ base
    → Gains (Some (own_by before)) (Some (own_by after)) base (seen_by o after)
own_kept o log before after base t seen = (
  [],
  seen ∙ sym (append-nil base),
  own_told log before after t ∙ ap (some_own before.numbers) (sym (append-nil (whats (mine before.numbers before.seen)))),
)

-- a write that was noted is the caller's own
own_noted : (o : Starting) (old new : List (Entry Seen)) (before after : Known Seen) (w : Seen) → Notes old new before after w
    → Gains (Some (own_by before)) (Some (own_by after)) (history_of o old) (seen_by o after)
own_noted o old new before after w n = (
  w ∷ [],
  ap (λ (k : Known Seen). seen_by o k) n.front ∙ ap (λ l. history_of o l) n.log ∙ opened_append o old (next_entry before w ∷ []),
  ap (λ m. some_own m (whats (mine after.numbers after.seen))) (ap (λ (k : Known Seen). k.numbers) n.front)
      ∙ ap (λ es. some_own before.numbers (whats es)) n.mine
      ∙ ap (some_own before.numbers) (whats_append (mine before.numbers before.seen) (next_entry before w ∷ [])),
)

module _ {X : Type 0} (tell : Seen → X) (call : Write) (o : Starting) (before after : Known Seen) where
  abbrev okay : X → Result X StoreRefused
  okay y = Ok y

  abbrev Shared : Result X StoreRefused → Type 0
  Shared result = Calls (shared_meaning o before) (shared_meaning o after) (answer_of tell call) (after_call call) result

  refused_by : (r : Option StoreRefused) (refused : StoreRefused) (x : X) → r ≡ Some refused → answer_by {X = X} r x ≡ Err refused
  refused_by r refused x e = ap (λ o. answer_by o x) e

  kept_by : (r : Option StoreRefused) (refused : StoreRefused) (h : List Seen) (w : Seen) → r ≡ Some refused → after_by r h w ≡ h
  kept_by r refused h w e = ap (λ o. after_by o h w) e

  -- the parts of a call that met no fault and was refused
  refusal : (log : List (Entry Seen)) (refused : StoreRefused) → refusal_of (history_of o log) call ≡ Some refused → Tells log before after
      → (answer_of tell call (history_of o log) ≡ Err refused) × (seen_by o after ≡ after_call call (history_of o log))
  refusal log refused cause told =
      let h : List Seen = history_of o log in (
        refused_by (refusal_of h call) refused (tell (written_by h call)) cause,
        ap (λ (k : Known Seen). seen_by o k) told.front ∙ sym (kept_by (refusal_of h call) refused h (written_by h call) cause),
      )

  pub shared_write : (old new : List (Entry Seen)) (result : Result X StoreRefused) → WritesOnce tell call o old new before after result → Shared result
  shared_write old new (Ok x) w =
      let h : List Seen = history_of o old in
      record {
        fault = Nothing;
        base = h;
        sees = sees o before old w.noted.begins w.lawful;
        goes = record {
          meets = refl;
          counts = omega arith;
          answered = ap (λ y. okay y) w.answer ∙ sym (ap (λ r. answer_by r (tell (written_by h call))) w.free);
          seen = ap (λ (k : Known Seen). seen_by o k) w.noted.front
              ∙ ap (λ l. history_of o l) w.noted.log
              ∙ opened_append o old (next_entry before (written_by h call) ∷ [])
              ∙ sym (ap (λ r. after_by r h (written_by h call)) w.free);
          own = own_noted o old new before after (written_by h call) w.noted;
        };
      }
  shared_write old new (Err Memory) w =
      record { fault = Nothing; base = seen_by o before; sees = still o before; goes = record { told = refl; faults = refl; seen = ap (λ (k : Known Seen). seen_by o k) w.1; own = own_same before after w.1 } }
  shared_write old new (Err NoNode) w =
      let g = refusal old NoNode w.cause w.told in
      record { fault = Nothing; base = history_of o old; sees = sees o before old w.told.begins w.lawful; goes = record { meets = refl; counts = omega arith; answered = sym g.0; seen = g.1; own = own_kept o old before after (history_of o old) w.told (ap (λ (k : Known Seen). seen_by o k) w.told.front) } }
  shared_write old new (Err (Exists found)) w =
      let g = refusal old (Exists found) w.cause w.told in
      record { fault = Nothing; base = history_of o old; sees = sees o before old w.told.begins w.lawful; goes = record { meets = refl; counts = omega arith; answered = sym g.0; seen = g.1; own = own_kept o old before after (history_of o old) w.told (ap (λ (k : Known Seen). seen_by o k) w.told.front) } }
  shared_write old new (Err (VersionChanged expected found)) w =
      let g = refusal old (VersionChanged expected found) w.cause w.told in
      record { fault = Nothing; base = history_of o old; sees = sees o before old w.told.begins w.lawful; goes = record { meets = refl; counts = omega arith; answered = sym g.0; seen = g.1; own = own_kept o old before after (history_of o old) w.told (ap (λ (k : Known Seen). seen_by o k) w.told.front) } }
  shared_write old new (Err Failed) w =
      let g = refusal old Failed w.cause w.told in
      record { fault = Nothing; base = history_of o old; sees = sees o before old w.told.begins w.lawful; goes = record { meets = refl; counts = omega arith; answered = sym g.0; seen = g.1; own = own_kept o old before after (history_of o old) w.told (ap (λ (k : Known Seen). seen_by o k) w.told.front) } }

  told_only : (log : List (Entry Seen)) → Tells log before after → SeesMore before after
  told_only log told = record { log = log; told = told }

-- ---- reads

module _ {X : Type 0} (answer : List Seen → Result X StoreRefused) (o : Starting) (before after : Known Seen) where
  abbrev Reading : Result X StoreRefused → Type 0
  Reading result = Calls (shared_meaning o before) (shared_meaning o after) answer (λ base. base) result

  by_result : (log : List (Entry Seen)) (r : Result X StoreRefused) → Tells log before after → Sees (shared_meaning o before) (history_of o log) → seen_by o after ≡ history_of o log
      → IsAnswer (answer (history_of o log)) r → Reading r
  by_result log (Err Memory) t s seen a = record { fault = Nothing; base = history_of o log; sees = s; goes = record { told = refl; faults = refl; seen = seen; own = own_told log before after t } }
  by_result log (Ok x) t s seen a = record { fault = Nothing; base = history_of o log; sees = s; goes = record { meets = refl; counts = omega arith; answered = sym a; seen = seen; own = own_kept o log before after (history_of o log) t seen } }
  by_result log (Err NoNode) t s seen a = record { fault = Nothing; base = history_of o log; sees = s; goes = record { meets = refl; counts = omega arith; answered = sym a; seen = seen; own = own_kept o log before after (history_of o log) t seen } }
  by_result log (Err (Exists found)) t s seen a = record { fault = Nothing; base = history_of o log; sees = s; goes = record { meets = refl; counts = omega arith; answered = sym a; seen = seen; own = own_kept o log before after (history_of o log) t seen } }
  by_result log (Err (VersionChanged expected found)) t s seen a = record { fault = Nothing; base = history_of o log; sees = s; goes = record { meets = refl; counts = omega arith; answered = sym a; seen = seen; own = own_kept o log before after (history_of o log) t seen } }
  by_result log (Err Failed) t s seen a = record { fault = Nothing; base = history_of o log; sees = s; goes = record { meets = refl; counts = omega arith; answered = sym a; seen = seen; own = own_kept o log before after (history_of o log) t seen } }

  pub shared_read : (old new : List (Entry Seen)) (result : Result X StoreRefused) → Looks answer o old new before after result → Reading result
  shared_read old new result w =
      by_result old result w.told (sees o before old w.told.begins w.lawful) (ap (λ (k : Known Seen). seen_by o k) w.told.front) w.answered

-- ---- as the contracts see it

pub read_shared : {X : Type 0} (answer : List Seen → Result X StoreRefused) (o : Starting) (v before after : Known Seen) (old new : List (Entry Seen)) (result : Result X StoreRefused)
    → before ≡ v → Looks answer o old new before after result → Calls (shared_meaning o v) (shared_meaning o after) answer (λ base. base) result
read_shared answer o v before after old new result view w =
    subst (λ (b : Known Seen). Calls (shared_meaning o b) (shared_meaning o after) answer (λ base. base) result) view (shared_read answer o before after old new result w)

pub write_shared : {X : Type 0} (tell : Seen → X) (call : Write) (o : Starting) (v before after : Known Seen) (old new : List (Entry Seen)) (result : Result X StoreRefused)
    → before ≡ v → WritesOnce tell call o old new before after result → Calls (shared_meaning o v) (shared_meaning o after) (answer_of tell call) (after_call call) result
write_shared tell call o v before after old new result view w =
    subst (λ (b : Known Seen). Calls (shared_meaning o b) (shared_meaning o after) (answer_of tell call) (after_call call) result) view
    (shared_write tell call o before after old new result w)
