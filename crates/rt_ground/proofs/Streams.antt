-- What the calls of the stream behind its lock do, and what shared ones promise.
use Rattle.std.proofs.Common.{◌≡◌, ℕ, List, [], ◌∷◌, ◌++◌, fold, map, replicate, length, Option, Some, Result, Ok, Err, refl, sym, ap, ◌∙◌, subst, arith, length-set, lt_of_not-le}
use Rattle.std.proofs.lemmas.List.{set_past}
use Rattle.std.proofs.lemmas.List.Sums.{fold-append}
use mathlib.Core.Logic.{dite}
use native.Mathlib.Decide.{dec_le}
use lib.ListN.{length-replicate}
use Rattle.rt_lists.specs.Members.{IsFront}
use Rattle.rt_base.specs.declared.numbers.Partition.{Partition}
use Rattle.rt_base.specs.declared.numbers.Offset.{Offset}
use Rattle.rt_stream.specs.declared.feed.FeedRefused.{FeedRefused}
use Rattle.rt_stream.specs.declared.feed.FeedRefused.TheVariants.{NoPartition, PastEnd, Memory}
use Rattle.rt_stream.specs.Log.{Log, messages_of, fetched, measured, Appends}
use Rattle.rt_stream.specs.Feed.{FeedOwn, Grows, Fetches, Measures, answered}
use Rattle.rt_stream.proofs.Growth.{log_message, log_same, log_then}
use Rattle.rt_front.specs.declared.entry.Entry.{Entry}
use Rattle.rt_front.specs.Histories.{Known, mine}
use Rattle.rt_ground.specs.declared.appended.Appended.{Appended}
use Rattle.rt_ground.specs.Histories.{whats, next_entry, Tells}
use Rattle.rt_ground.specs.StreamCalls.{sent_to, with_appended, log_of, messages, seen_by, shared_meaning, SettledBy, Looks, AppendsOnce}
use Rattle.rt_ground.proofs.Entries.{whats_append, whats_front}

-- ---- logs

same_log : (l m : Log) → m ≡ l → Grows l m
same_log l m e = subst (λ x. Grows l x) (sym e) (log_same l)

-- a message more is growth, also where there is no such partition
grows_one : (log : Log) (a : Appended) → Grows log (with_appended log a)
grows_one log a =
    dite (dec_le (length log) a.partition.0)
    (λ past. same_log log (with_appended log a) (set_past log a.partition.0 _ past))
    (λ within. log_message log a.partition a.message (lt_of_not-le within))

grows_all : (appended : List Appended) (log : Log) → Grows log (fold with_appended log appended)
grows_all [] log = log_same log
grows_all (a ∷ appended) log = log_then log (with_appended log a) (fold with_appended (with_appended log a) appended) (grows_one log a) (grows_all appended (with_appended log a))

pub grows_front : (n : ℕ) (seen log : List (Entry Appended)) → IsFront seen log → Grows (log_of n (whats seen)) (log_of n (whats log))
grows_front n seen log f =
    let front = whats_front seen log f in
    subst (λ l. Grows (log_of n (whats seen)) l)
    (sym (ap (log_of n) front.1 ∙ fold-append with_appended (replicate n []) (whats seen) front.0))
    (grows_all front.0 (log_of n (whats seen)))

length_all : (appended : List Appended) (log : Log) → length (fold with_appended log appended) ≡ length log
length_all [] log = refl
length_all (a ∷ appended) log = length_all appended (with_appended log a) ∙ length-set log a.partition.0 (messages_of log a.partition ++ a.message ∷ [])

pub length_log : (n : ℕ) (appended : List Appended) → length (log_of n appended) ≡ n
length_log n appended = length_all appended (replicate n []) ∙ length-replicate n []

log_more : (n : ℕ) (log : List (Entry Appended)) (before : Known Appended) (a : Appended) → log_of n (whats (log ++ next_entry before a ∷ [])) ≡ with_appended (log_of n (whats log)) a
log_more n log before a =
    ap (log_of n) (whats_append log (next_entry before a ∷ [])) ∙ fold-append with_appended (replicate n []) (whats log) (a ∷ [])

-- ---- behind the lock

pub record AppendDone (n : ℕ) (old new : List (Entry Appended)) (t : Log) (before after : Known Appended) (a : Appended) (answer : Result Offset FeedRefused) : Type 0 where
  pub holds : t ≡ log_of n (whats new)
  pub appends : AppendsOnce n old new before after a answer

module _ (n : ℕ) (old new : List (Entry Appended)) (t : Log) (before after : Known Appended) (a : Appended) where
  by_answer : (answer : Result Offset FeedRefused) → Appends (log_of n (whats old)) t a.partition a.message answer → SettledBy a old new before after answer → AppendDone n old new t before after a answer
  by_answer (Ok offset) w s =
      record {
        holds = w.2 ∙ sym (log_more n old before a) ∙ ap (λ l. log_of n (whats l)) (sym s.log);
        appends = record { within = (let lt = w.0 in omega (arith, lt, length_log n (whats old))); offset = w.1; noted = s };
      }
  by_answer (Err Memory) w s = record { holds = w.1 ∙ ap (λ l. log_of n (whats l)) (sym s.0); appends = s }
  by_answer (Err NoPartition) w s =
      record { holds = w.1 ∙ ap (λ l. log_of n (whats l)) (sym s.0); appends = ((let le = w.0 in omega (arith, le, length_log n (whats old))), s.0, s.1) }
  by_answer (Err (PastEnd from length)) w s = absurd w

pub append_done : (n : ℕ) (old : List (Entry Appended)) (t : Log) (before after : Known Appended) (a : Appended) (r_old r_new : List (Entry Appended)) (answer : Result Offset FeedRefused) → r_old ≡ old
    → Appends (log_of n (whats old)) t a.partition a.message answer → SettledBy a r_old r_new before after answer → AppendDone n old r_new t before after a answer
append_done n old t before after a r_old r_new answer e w s = by_answer n old r_new t before after a answer w (subst (λ l. SettledBy a l r_new before after answer) e s)

look_done : (n : ℕ) (log : List (Entry Appended)) (before after : Known Appended) → Tells log before after → Looks n log log before after
look_done n log before after told = record { same = refl; told = told; grows = grows_front n before.seen log told.begins }

-- ---- as the contracts see it

pub record StreamClosed (n : ℕ) (log : List (Entry Appended)) (t : Log) (Says : Type 0) : Type 0 where
  pub holds : t ≡ log_of n (whats log)
  pub says : Says

pub append_closed : (n : ℕ) (v old : List (Entry Appended)) (t0 t : Log) (before after : Known Appended) (a : Appended) (m : List ℕ) (r_old r_new : List (Entry Appended)) (answer result : Result Offset FeedRefused)
    → old ≡ v → t0 ≡ log_of n (whats old) → r_old ≡ old → m ≡ a.message → Appends t0 t a.partition m answer → SettledBy a r_old r_new before after answer → result ≡ answer
    → StreamClosed n r_new t (AppendsOnce n v r_new before after a result)
append_closed n v old t0 t before after a m r_old r_new answer result view holds same is calls settled given =
    let done : AppendDone n old r_new t before after a answer =
    append_done n old t before after a r_old r_new answer same
    (subst (λ (x : Log). Appends x t a.partition a.message answer) holds (subst (λ x. Appends t0 t a.partition x answer) is calls)) settled in
    record {
      holds = done.holds;
      says = subst (λ (x : List (Entry Appended)). AppendsOnce n x r_new before after a result) view
          (subst (λ y. AppendsOnce n old r_new before after a y) (sym given) done.appends);
    }

pub look_closed : (n : ℕ) (v old new : List (Entry Appended)) (before after : Known Appended) → old ≡ v → new ≡ old → Tells old before after → Looks n v new before after
look_closed n v old new before after view same told =
    subst (λ (x : List (Entry Appended)). Looks n x new before after) view
    (subst (λ (l : List (Entry Appended)). Looks n old l before after) (sym same) (look_done n old before after told))

-- ---- shared

-- what a front that was told has seen is the whole log
whole : (n : ℕ) (before after : Known Appended) (old : List (Entry Appended)) → Tells old before after → messages n old ≡ seen_by n after
whole n before after old told = ap (λ (k : Known Appended). log_of n (whats k.seen)) (sym told.front)

seen_grows : (n : ℕ) (before after : Known Appended) (old new : List (Entry Appended)) → Looks n old new before after → Grows (seen_by n before) (seen_by n after)
seen_grows n before after old new w = subst (λ l. Grows (seen_by n before) l) (whole n before after old w.told) w.grows

abbrev some_own : List ℕ → List (Partition × List ℕ) → Option FeedOwn
some_own numbers messages = Some (record { numbers = numbers; messages = messages })

-- a look adds nothing of the caller's own
own_looked : (log : List (Entry Appended)) (before after : Known Appended) → Tells log before after → some_own after.numbers (map sent_to (whats (mine after.numbers after.seen))) ≡ some_own before.numbers (map sent_to (whats (mine before.numbers before.seen)))
own_looked log before after t =
    ap (λ m. some_own m (map sent_to (whats (mine after.numbers after.seen)))) (ap (λ (k : Known Appended). k.numbers) t.front)
    ∙ ap (λ es. some_own before.numbers (map sent_to (whats es))) t.mine

pub shared_fetch : (n : ℕ) (before after : Known Appended) (old new : List (Entry Appended)) (p : Partition) (from : Offset) (max : ℕ) (result : Result (List (List ℕ)) FeedRefused) → Looks n old new before after
    → answered result (fetched (messages n old) p from max) → Fetches (shared_meaning n before) (shared_meaning n after) p from max result
shared_fetch n before after old new p from max result w a =
    record { sees = refl; grows = seen_grows n before after old new w; answer = subst (λ l. answered result (fetched l p from max)) (whole n before after old w.told) a; own = own_looked old before after w.told }

pub shared_length : (n : ℕ) (before after : Known Appended) (old new : List (Entry Appended)) (p : Partition) (result : Result Offset FeedRefused) → Looks n old new before after
    → result ≡ measured (messages n old) p → Measures (shared_meaning n before) (shared_meaning n after) p result
shared_length n before after old new p result w a =
    record { sees = refl; grows = seen_grows n before after old new w; answer = subst (λ l. result ≡ measured l p) (whole n before after old w.told) a; own = own_looked old before after w.told }
