-- How what is found of a rehearsal is told.
use Rattle.std.proofs.Common.{◌≡◌, ℕ, Bool, false, List, [], Option, Result, Ok, Err, refl, ap, subst}
use Rattle.rt_base.specs.declared.numbers.Instance.{Instance}
use Rattle.rt_base.specs.declared.numbers.Partition.{Partition}
use Rattle.rt_base.specs.declared.numbers.Sequence.{Sequence}
use Rattle.rt_desk.specs.Rehearsing.{LoadedTold, PlanTold, RehearseTold, StepTold, planned_text, stepped_text}
use Rattle.rt_desk.specs.Telling.{Changed, Counts, CountsAs, DoesChange, changed, changed_by}
use Rattle.rt_dryrun.specs.Rehearsing.{Going as Plan, Plans, StepsOn, after_loaded, loaded_of}
use Rattle.rt_dryrun.specs.declared.planned.Planned.{Planned}
use Rattle.rt_dryrun.specs.declared.stepped.Stepped.{Stepped}
use Rattle.rt_events.specs.declared.refusal.Refusal.{Refusal}
use Rattle.rt_events.specs.declared.refusal.Refusal.TheVariants.{NoSuchMessage, NoSuchNode, NodeDown, NothingToDo, Limit, Memory}
use Rattle.rt_macros.specs.Doing.{Comes, Coming, Does, DoesFrom, DoesText, Further, Gives, Reached, reached}
use Rattle.rt_macros.proofs.Doing.{does_through, led_nowhere}
use Rattle.rt_report.specs.FurtherTexts.{rehearsed_text}
use Rattle.rt_world.specs.Kept.{Kept}
use Rattle.rt_state.specs.declared.state.State.{State}

abbrev with_part : {Part : Type 0} → Part → Result (List ℕ) Refusal → Result (Changed Part) Refusal
with_part part (Ok text) = Ok (changed part text)
with_part part (Err refusal) = Err refusal

counts_as : {Part : Type 0} (part : Part) (text : List ℕ) (w : State) (v : Reached) (r : Result (List ℕ) Refusal) → Counts text w v r → CountsAs part text w v (with_part part r)
counts_as part text w v r h =
    record { between = h.between; told = h.told; last = h.last; came = h.came; further = by_told h.told h.further; whole = h.whole }
  where
    by_told : (t : Result (Unit {0}) Refusal) → Further (λ done. Gives text) h.between.world h.last t r
        → Further (λ done. Gives (changed part text)) h.between.world h.last t (with_part part r)
    by_told (Ok done) f = (f.0, ap (with_part part) f.1)
    by_told (Err refusal) f = (f.0, ap (with_part part) f.1)

comes_as : {Part : Type 0} (part : Part) (text : List ℕ) (w v : State) (r : Result (List ℕ) Refusal) → Comes (Counts text w) w v r
    → Comes (CountsAs part text w) w v (with_part part r)
comes_as part text w v r c = record { turns = c.turns; came = counts_as part text w (reached c.turns v) r c.came; led = c.led }

-- what counts as an event, with the part behind it
counts_does : {Part : Type 0} (part : Part) (line : List ℕ) (w : State) (new : Kept) (text : List ℕ) (result : Result (Unit {0}) Refusal)
    → DoesText (Counts line) w new text result → DoesChange (CountsAs part line) w new text part result
counts_does part line w new text (Ok done) d = (d.0, comes_as part line w new.state (Ok text) d.1)
counts_does part line w new text (Err refusal) d =
    does_through (Counts line w) (CountsAs part line w) w w new refusal (led_nowhere w) (λ r c. comes_as part line w new.state (Err r) c) d

does_more : {A : Type 0} (P Q : Coming A) (w : State) (new : Kept) (result : Result A Refusal)
    → ((v : Reached) (r : Result A Refusal) → P v r → Q v r) → DoesFrom P w new result → DoesFrom Q w new result
does_more P Q w new (Ok x) f d = (d.0, record { turns = d.1.turns; came = f (reached d.1.turns new.state) (Ok x) d.1.came; led = d.1.led })
does_more P Q w new (Err refusal) f d =
    does_through P Q w w new refusal (led_nowhere w)
    (λ r c. record { turns = c.turns; came = f (reached c.turns new.state) (Err r) c.came; led = c.led }) d

-- ---- a plan

pub rehearse_found : (servers keep : ℕ) (old plan : Option Plan) (found : Planned) (w : State) (new : Kept) (text : List ℕ) (result : Result (Unit {0}) Refusal)
    → Plans w servers keep old plan (Ok found) → DoesText (Counts (planned_text found)) w new text result
    → DoesChange (RehearseTold servers keep old) w new text plan result
rehearse_found servers keep old plan found w new text result made d =
    does_more (CountsAs plan (planned_text found) w) (RehearseTold servers keep old w) w new (changed_by text plan result)
    (λ v r came. record { plan = plan; found = Ok found; named = tt; made = made; tells = came })
    (counts_does plan (planned_text found) w new text result d)

pub rehearse_refused : (servers keep : ℕ) (old plan after : Option Plan) (new : Kept) (text : List ℕ) (refusal : Refusal)
    → new.spent ≡ false → Plans new.state servers keep old plan (Err refusal) → DoesChange (RehearseTold servers keep old) new.state new text after (Err refusal)
rehearse_refused servers keep old plan after new text NoSuchMessage unspent made =
    (unspent, record { turns = []; came = record { plan = plan; found = Err NoSuchMessage; named = tt; made = made; tells = (refl, refl) }; led = refl })
rehearse_refused servers keep old plan after new text NoSuchNode unspent made =
    (unspent, record { turns = []; came = record { plan = plan; found = Err NoSuchNode; named = tt; made = made; tells = (refl, refl) }; led = refl })
rehearse_refused servers keep old plan after new text NodeDown unspent made =
    (unspent, record { turns = []; came = record { plan = plan; found = Err NodeDown; named = tt; made = made; tells = (refl, refl) }; led = refl })
rehearse_refused servers keep old plan after new text NothingToDo unspent made =
    (unspent, record { turns = []; came = record { plan = plan; found = Err NothingToDo; named = tt; made = made; tells = (refl, refl) }; led = refl })
rehearse_refused servers keep old plan after new text (Limit which) unspent made =
    (unspent, record { turns = []; came = record { plan = plan; found = Err (Limit which); named = tt; made = made; tells = (refl, refl) }; led = refl })
rehearse_refused servers keep old plan after new text Memory unspent made = λ still. led_nowhere new.state

-- ---- what is loaded of it

told_as : {A : Type 0} (text : A → List ℕ) (plan other : Option Plan) (found told : Result A Refusal) (w : State) (new : Kept) (result : Result (Changed (Option Plan)) Refusal)
    → other ≡ plan → told ≡ found → Does (PlanTold text other told) w new result → Does (PlanTold text plan found) w new result
told_as text plan other found told w new result p f d =
    subst (λ (o : Option Plan). Does (PlanTold text o found) w new result) p (subst (λ t. Does (PlanTold text other t) w new result) f d)

pub loaded_found : (i : Instance) (p : Partition) (q : Sequence) (old plan : Option Plan) (found : Bool) (w : State) (new : Kept) (text : List ℕ) (result : Result (Unit {0}) Refusal)
    → Ok found ≡ loaded_of w old i p q → plan ≡ after_loaded w old i p q → DoesText (Counts (rehearsed_text found)) w new text result
    → DoesChange (LoadedTold i p q old) w new text plan result
loaded_found i p q old plan found w new text result told after d =
    told_as rehearsed_text (after_loaded w old i p q) plan (loaded_of w old i p q) (Ok found) w new (changed_by text plan result) after told
    (counts_does plan (rehearsed_text found) w new text result d)

refused : {A : Type 0} (text : A → List ℕ) (plan : Option Plan) (new : Kept) (refusal : Refusal) → new.spent ≡ false
    → Does (PlanTold text plan (Err refusal)) new.state new (Err refusal)
refused text plan new NoSuchMessage unspent = (unspent, record { turns = []; came = (refl, refl); led = refl })
refused text plan new NoSuchNode unspent = (unspent, record { turns = []; came = (refl, refl); led = refl })
refused text plan new NodeDown unspent = (unspent, record { turns = []; came = (refl, refl); led = refl })
refused text plan new NothingToDo unspent = (unspent, record { turns = []; came = (refl, refl); led = refl })
refused text plan new (Limit which) unspent = (unspent, record { turns = []; came = (refl, refl); led = refl })
refused text plan new Memory unspent = λ still. led_nowhere new.state

pub loaded_refused : (i : Instance) (p : Partition) (q : Sequence) (old after : Option Plan) (new : Kept) (text : List ℕ) (refusal : Refusal)
    → new.spent ≡ false → Err refusal ≡ loaded_of new.state old i p q → DoesChange (LoadedTold i p q old) new.state new text after (Err refusal)
loaded_refused i p q old after new text refusal unspent told =
    told_as rehearsed_text (after_loaded new.state old i p q) (after_loaded new.state old i p q) (loaded_of new.state old i p q) (Err refusal) new.state new (Err refusal) refl told
    (refused rehearsed_text (after_loaded new.state old i p q) new refusal unspent)

-- ---- a step of it

pub step_found : (old plan : Option Plan) (found : Stepped) (w : State) (new : Kept) (text : List ℕ) (result : Result (Unit {0}) Refusal)
    → StepsOn old plan (Ok found) → DoesText (Counts (stepped_text found)) w new text result → DoesChange (StepTold old) w new text plan result
step_found old plan found w new text result made d =
    does_more (CountsAs plan (stepped_text found) w) (StepTold old w) w new (changed_by text plan result)
    (λ v r came. record { plan = plan; found = Ok found; named = tt; made = made; tells = came })
    (counts_does plan (stepped_text found) w new text result d)

pub step_refused : (old plan after : Option Plan) (new : Kept) (text : List ℕ) (refusal : Refusal)
    → new.spent ≡ false → StepsOn old plan (Err refusal) → DoesChange (StepTold old) new.state new text after (Err refusal)
step_refused old plan after new text NoSuchMessage unspent made =
    (unspent, record { turns = []; came = record { plan = plan; found = Err NoSuchMessage; named = tt; made = made; tells = (refl, refl) }; led = refl })
step_refused old plan after new text NoSuchNode unspent made =
    (unspent, record { turns = []; came = record { plan = plan; found = Err NoSuchNode; named = tt; made = made; tells = (refl, refl) }; led = refl })
step_refused old plan after new text NodeDown unspent made =
    (unspent, record { turns = []; came = record { plan = plan; found = Err NodeDown; named = tt; made = made; tells = (refl, refl) }; led = refl })
step_refused old plan after new text NothingToDo unspent made =
    (unspent, record { turns = []; came = record { plan = plan; found = Err NothingToDo; named = tt; made = made; tells = (refl, refl) }; led = refl })
step_refused old plan after new text (Limit which) unspent made =
    (unspent, record { turns = []; came = record { plan = plan; found = Err (Limit which); named = tt; made = made; tells = (refl, refl) }; led = refl })
step_refused old plan after new text Memory unspent made = λ still. led_nowhere new.state
