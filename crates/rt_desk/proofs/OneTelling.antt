-- What is told of a line, and the part of the desk that it changes, are one.
use Rattle.std.proofs.Common.{◌≡◌, ℕ, Bool, true, false, List, map, Option, Some, None, Result, Ok, Err, refl, sym, subst}
use Rattle.rt_desk.specs.Telling.{Beside, Changed, Counts, CountsAs, Puts, changed, told}
use Rattle.rt_desk.specs.declared.desk.Desk.{Desk}
use Rattle.rt_events.specs.declared.refusal.Refusal.{Refusal}
use Rattle.rt_exact.specs.Acts.{AreOne, ReachedAlike}
use Rattle.rt_exact.specs.Alike.{AreAlike}
use Rattle.rt_exact.proofs.Acts.{gives_one, go_on, passes_over_one, stay, then_one}
use Rattle.rt_hybrid.specs.Table.{OfflineTable}
use Rattle.rt_macros.specs.Doing.{Act, Choose, Coming as Coming_of, Further, Gives, PassesOver, Reached, Refuses, Then}
use Rattle.rt_scan.specs.Filled.{rows_as}
use Rattle.rt_state.specs.declared.state.State.{State}

-- ---- desks

-- tables whose files have the same rows
pub record SameRows (a b : OfflineTable) : Type 0 where
  pub schema : a.schema ≡ b.schema
  pub time : a.time ≡ b.time
  pub rows : map (rows_as a.schema) a.files ≡ map (rows_as b.schema) b.files

abbrev pub SameTable : Option OfflineTable → Option OfflineTable → Type 0
SameTable None None = Unit {0}
SameTable None (Some b) = ⊥
SameTable (Some a) None = ⊥
SameTable (Some a) (Some b) = SameRows a b

pub record SameDesk (d e : Desk) : Type 0 where
  pub upsert : d.upsert ≡ e.upsert
  pub hybrid : SameTable d.hybrid e.hybrid
  pub pause : d.pause ≡ e.pause
  pub jobs : d.jobs ≡ e.jobs
  pub rehearsing : d.rehearsing ≡ e.rehearsing

same_table : (o : Option OfflineTable) → SameTable o o
same_table None = tt
same_table (Some a) = record { schema = refl; time = refl; rows = refl }

pub same_desk : (d : Desk) → SameDesk d d
same_desk d = record { upsert = refl; hybrid = same_table d.hybrid; pause = refl; jobs = refl; rehearsing = refl }

-- ---- what is told

-- the same is told with parts of this kind, or the same is refused
abbrev pub Agree : {P : Type 0} → (P → P → Type 0) → Result (Changed P) Refusal → Result (Changed P) Refusal → Type 0
Agree R (Ok a) (Ok b) = (a.text ≡ b.text) × R a.part b.part
Agree R (Ok a) (Err refusal) = ⊥
Agree R (Err refusal) (Ok b) = ⊥
Agree R (Err a) (Err b) = a ≡ b

abbrev pub Coming : Type 0 → Type 1
Coming P = Coming_of (Changed P)

-- two lines agree, and lead to alike worlds by the same turns
abbrev pub OneBy : {P : Type 0} → (P → P → Type 0) → Coming P → Coming P → Type 0
OneBy {P} R act other = (x y : Reached) (r s : Result (Changed P) Refusal) → act x r → other y s → Agree R r s × ReachedAlike x y

abbrev pub Equal : {P : Type 0} → P → P → Type 0
Equal a b = a ≡ b

agree_by : {P : Type 0} (R : P → P → Type 0) (a b r s : Result (Changed P) Refusal) → r ≡ a → s ≡ b → Agree R a b → Agree R r s
agree_by R a b r s e f k = subst (λ z. Agree R z s) (sym e) (subst (λ z. Agree R a z) (sym f) k)

pub gives_by : {P : Type 0} (R : P → P → Type 0) (a b : P) (text text' : List ℕ) (w v : State) → AreAlike w v → text ≡ text' → R a b
    → OneBy R (Gives (changed a text) w) (Gives (changed b text') v)
gives_by R a b text text' w v k same parts x y r s h g =
    (agree_by R (Ok (changed a text)) (Ok (changed b text')) r s h.1 g.1 (same, parts), stay w v x y k h.0 g.0)

pub refuses_by : {P : Type 0} (R : P → P → Type 0) (refusal : Refusal) (w v : State) → AreAlike w v → OneBy R (Refuses refusal w) (Refuses refusal v)
refuses_by R refusal w v k x y r s h g = (agree_by R (Err refusal) (Err refusal) r s h.1 g.1 refl, stay w v x y k h.0 g.0)

pub then_by : {A P : Type 0} (R : P → P → Type 0) (first other : Act A) (behind further : A → State → Coming P) (w v : State) → AreOne (first w) (other v)
    → ((a : A) (u t : State) → AreAlike u t → OneBy R (behind a u) (further a t)) → OneBy R (Then first behind w) (Then other further v)
then_by {A} R first other behind further w v f g x y r s h k =
    (last.0, go_on h.between k.between h.last k.last x y z.1 last.1 h.whole k.whole)
  where
    z : (h.told ≡ k.told) × ReachedAlike h.between k.between
    z = f h.between k.between h.told k.told h.came k.came

    by_told : (told : Result A Refusal) → Further behind h.between.world h.last told r → Further further k.between.world k.last told s
        → Agree R r s × ReachedAlike h.last k.last
    by_told (Ok a) p q = g a h.between.world k.between.world z.1.worlds h.last k.last r s p q
    by_told (Err refusal) p q = refuses_by R refusal h.between.world k.between.world z.1.worlds h.last k.last r s p q

    last : Agree R r s × ReachedAlike h.last k.last
    last = by_told h.told h.further (subst (λ t. Further further k.between.world k.last t s) (sym z.0) k.further)

pub choose_by : {P : Type 0} (R : P → P → Type 0) (b c : Bool) (act other act' other' : Coming P) → b ≡ c → OneBy R act act' → OneBy R other other'
    → OneBy R (Choose b act other) (Choose c act' other')
choose_by R b c act other act' other' same f g x y r s h k = by_test c (subst (λ t. Choose t act other x r) same h) k
  where
    by_test : (t : Bool) → Choose t act other x r → Choose t act' other' y s → Agree R r s × ReachedAlike x y
    by_test true p q = f x y r s p q
    by_test false p q = g x y r s p q

pub counts_as_by : {P : Type 0} (R : P → P → Type 0) (a b : P) (text text' : List ℕ) (w v : State) → AreAlike w v → text ≡ text' → R a b
    → OneBy R (CountsAs a text w) (CountsAs b text' v)
counts_as_by R a b text text' w v k same parts =
    then_by R PassesOver PassesOver (λ done. Gives (changed a text)) (λ done. Gives (changed b text')) w v (passes_over_one w v k)
    (λ done u t l. gives_by R a b text text' u t l same parts)

pub counts_one : (text : List ℕ) (w v : State) → AreAlike w v → AreOne (Counts text w) (Counts text v)
counts_one text w v k =
    then_one PassesOver PassesOver (λ done. Gives text) (λ done. Gives text) w v (passes_over_one w v k) (λ done u t l. gives_one text text u t l refl)

-- ---- the desk

abbrev pub TellOne : Coming Desk → Coming Desk → Type 0
TellOne act other = OneBy SameDesk act other

-- a line that leaves the desk as it was
pub beside_one : (act other : Act (List ℕ)) (d e : Desk) (w v : State) → SameDesk d e → AreOne (act w) (other v) → TellOne (Beside d act w) (Beside e other v)
beside_one act other d e w v desks one =
    then_by SameDesk act other (λ text. Gives (told d text)) (λ text. Gives (told e text)) w v one
    (λ text u t l. gives_by SameDesk d e text text u t l refl desks)

-- a line that puts a part on it
pub puts_one : {P : Type 0} (R : P → P → Type 0) (put put' : P → Desk) (act other : State → Coming P) (w v : State) → OneBy R (act w) (other v)
    → ((a b : P) → R a b → SameDesk (put a) (put' b)) → TellOne (Puts put act w) (Puts put' other v)
puts_one {P} R put put' act other w v one puts x y r s h k =
    (last.0, go_on h.between k.between h.last k.last x y z.1 last.1 h.whole k.whole)
  where
    z : Agree R h.told k.told × ReachedAlike h.between k.between
    z = one h.between k.between h.told k.told h.came k.came

    by_told : (a b : Result (Changed P) Refusal) → Agree R a b → Further (λ c. Gives (told (put c.part) c.text)) h.between.world h.last a r
        → Further (λ c. Gives (told (put' c.part) c.text)) k.between.world k.last b s → Agree SameDesk r s × ReachedAlike h.last k.last
    by_told (Ok a) (Ok b) (text, parts) p q =
        gives_by SameDesk (put a.part) (put' b.part) a.text b.text h.between.world k.between.world z.1.worlds text (puts a.part b.part parts) h.last k.last r s p q
    by_told (Ok a) (Err refusal) none p q = absurd none
    by_told (Err refusal) (Ok b) none p q = absurd none
    by_told (Err a) (Err b) same p q =
        refuses_by SameDesk b h.between.world k.between.world z.1.worlds h.last k.last r s
        (subst (λ (e : Refusal). Refuses e h.between.world h.last r) same p) q

    last : Agree SameDesk r s × ReachedAlike h.last k.last
    last = by_told h.told k.told z.0 h.further k.further
