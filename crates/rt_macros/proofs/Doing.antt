-- How what comes of several things is put together.
use Rattle.std.proofs.Common.{◌≡◌, ◌+◌, ◌<◌, ◌≤◌, ℕ, suc, false, List, [], ◌∷◌, ◌++◌, length, drop, get_or, Result, Ok, Err, refl, sym, subst, append_assoc, append-nil}
use Rattle.std.proofs.lemmas.List.{drop_all, drop_more}
use Rattle.rt_events.specs.declared.refusal.Refusal.{Refusal}
use Rattle.rt_events.specs.declared.refusal.Refusal.TheVariants.{NoSuchMessage, NoSuchNode, NodeDown, NothingToDo, Limit, Memory}
use Rattle.rt_macros.specs.Doing.{Act, Comes, Coming, Does, DoesFrom, Each, EachFrom, Gives, IsLed, Reached, Then, Tries, after, reached, stays}
use Rattle.rt_safety.specs.Runs.{Leads as LeadsTo, Turn}
use Rattle.rt_world.specs.Kept.{Kept}
use Rattle.rt_state.specs.declared.state.State.{State}

-- ---- what is reached

-- by no more turns
pub no_more : (v : Reached) → v ≡ after v.turns (stays v.world)
no_more v = λ i. record { turns = sym (append-nil v.turns) i; world = v.world }

pub after_after : (a b : List Turn) (v : Reached) → after a (after b v) ≡ after (a ++ b) v
after_after a b v = λ i. record { turns = sym (append_assoc a b v.turns) i; world = v.world }

-- by some turns, and then by others
pub led_then : (turns more : List Turn) (from u v : State) → LeadsTo from turns u → LeadsTo u more v → LeadsTo from (turns ++ more) v
led_then [] more from u v same rest = subst (λ x. LeadsTo x more v) same rest
led_then (turn ∷ turns) more from u v (next, t, further) rest = (next, t, led_then turns more next u v further rest)

pub led_on : (from u v : State) → IsLed from u → IsLed u v → IsLed from v
led_on from u v a b = record { turns = a.turns ++ b.turns; led = led_then a.turns b.turns from u v a.led b.led }

-- by no turn
pub led_nowhere : (w : State) → IsLed w w
led_nowhere w = record { turns = []; led = refl }

-- ---- several things

-- a thing that was done, and what comes behind it
pub then_behind : {A B : Type 0} (first : Act A) (behind : A → Act B) (w : State) (mid last : Reached) (told : A) (result : Result B Refusal)
    → first w mid (Ok told) → behind told mid.world last result → Then first behind w (after mid.turns last) result
then_behind first behind w mid last told result came further =
    record { between = mid; told = Ok told; last = last; came = came; further = further; whole = refl }

-- a thing that was refused
pub then_refused : {A B : Type 0} (first : Act A) (behind : A → Act B) (w : State) (v : Reached) (refusal : Refusal)
    → first w v (Err refusal) → Then first behind w v (Err refusal)
then_refused first behind w v refusal came =
    record { between = v; told = Err refusal; last = stays v.world; came = came; further = (refl, refl); whole = no_more v }

abbrev pub Turns : Type 0 → Type 0 → Type 1
Turns A S = A → S → Act S

each_at : {A S : Type 0} (act : Turns A S) (xs ys : List A) (x : A) (noted told : S) (w : State) (mid last : Reached) (result : Result S Refusal)
    → xs ≡ x ∷ ys → act x noted w mid (Ok told) → Each act ys told mid.world last result → Each act xs noted w (after mid.turns last) result
each_at act xs ys x noted told w mid last result e came further =
    subst (λ zs. Each act zs noted w (after mid.turns last) result) (sym e) (then_behind (act x noted) (Each act ys) w mid last told result came further)

each_refused_at : {A S : Type 0} (act : Turns A S) (xs ys : List A) (x : A) (noted : S) (w : State) (v : Reached) (refusal : Refusal)
    → xs ≡ x ∷ ys → act x noted w v (Err refusal) → Each act xs noted w v (Err refusal)
each_refused_at act xs ys x noted w v refusal e came =
    subst (λ zs. Each act zs noted w v (Err refusal)) (sym e) (then_refused (act x noted) (Each act ys) w v refusal came)

-- a number more
from_more : {S : Type 0} (act : Turns ℕ S) (at left next : ℕ) (noted told : S) (w : State) (mid last : Reached) (result : Result S Refusal)
    → left ≡ suc next → act at noted w mid (Ok told) → EachFrom act (at + 1) next told mid.world last result
    → EachFrom act at left noted w (after mid.turns last) result
from_more act at left next noted told w mid last result e came further =
    subst (λ n. EachFrom act at n noted w (after mid.turns last) result) (sym e)
    (then_behind (act at noted) (EachFrom act (at + 1) next) w mid last told result came further)

from_stops : {S : Type 0} (act : Turns ℕ S) (at left next : ℕ) (noted : S) (w : State) (v : Reached) (refusal : Refusal)
    → left ≡ suc next → act at noted w v (Err refusal) → EachFrom act at left noted w v (Err refusal)
from_stops act at left next noted w v refusal e came =
    subst (λ n. EachFrom act at n noted w v (Err refusal)) (sym e) (then_refused (act at noted) (EachFrom act (at + 1) next) w v refusal came)

-- no number is left
from_ends : {S : Type 0} (act : Turns ℕ S) (at left : ℕ) (noted : S) (w : State) → left ≡ 0 → EachFrom act at left noted w (stays w) (Ok noted)
from_ends act at left noted w e = subst (λ n. EachFrom act at n noted w (stays w) (Ok noted)) (sym e) (refl, refl)

-- ---- of calls

-- turns led to what comes of something
pub comes_led : {A : Type 0} (wanted : Coming A) (from v : State) (result : Result A Refusal) → Comes wanted from v result → IsLed from v
comes_led wanted from v result c = record { turns = c.turns; led = c.led }

pub comes_then : {A B : Type 0} (first : Act A) (behind : A → Act B) (w m v : State) (told : A) (result : Result B Refusal)
    → Comes (first w) w m (Ok told) → Comes (behind told m) m v result → Comes (Then first behind w) w v result
comes_then first behind w m v told result c f = record {
  turns = c.turns ++ f.turns;
  came = then_behind first behind w (reached c.turns m) (reached f.turns v) told result c.came f.came;
  led = led_then c.turns f.turns w m v c.led f.led;
}

-- a thing that was done, behind which nothing more happens
pub comes_told : {A B : Type 0} (first : Act A) (behind : A → Act B) (w v : State) (told : A) (result : Result B Refusal)
    → Comes (first w) w v (Ok told) → behind told v (stays v) result → Comes (Then first behind w) w v result
comes_told first behind w v told result c last = comes_then first behind w v v told result c (record { turns = []; came = last; led = refl })

pub comes_refused : {A B : Type 0} (first : Act A) (behind : A → Act B) (w v : State) (refusal : Refusal)
    → Comes (first w) w v (Err refusal) → Comes (Then first behind w) w v (Err refusal)
comes_refused first behind w v refusal c =
    record { turns = c.turns; came = then_refused first behind w (reached c.turns v) refusal c.came; led = c.led }

pub does_through : {A B : Type 0} (P : Coming A) (Q : Coming B) (m from : State) (new : Kept) (refusal : Refusal) → IsLed from m
    → ((r : Refusal) → Comes P m new.state (Err r) → Comes Q from new.state (Err r)) → DoesFrom P m new (Err refusal) → DoesFrom Q from new (Err refusal)
does_through P Q m from new NoSuchMessage led f d = (d.0, f NoSuchMessage d.1)
does_through P Q m from new NoSuchNode led f d = (d.0, f NoSuchNode d.1)
does_through P Q m from new NodeDown led f d = (d.0, f NodeDown d.1)
does_through P Q m from new NothingToDo led f d = (d.0, f NothingToDo d.1)
does_through P Q m from new (Limit which) led f d = (d.0, f (Limit which) d.1)
does_through P Q m from new Memory led f d = λ unspent. led_on from m new.state led (d unspent)

-- a thing that was refused
pub does_refused : {A B : Type 0} (first : Act A) (behind : A → Act B) (w : State) (new : Kept) (refusal : Refusal)
    → Does first w new (Err refusal) → Does (Then first behind) w new (Err refusal)
does_refused first behind w new refusal d =
    does_through (first w) (Then first behind w) w w new refusal (led_nowhere w) (λ r c. comes_refused first behind w new.state r c) d

-- a thing that was done, and what comes behind it
pub does_then : {A B : Type 0} (first : Act A) (behind : A → Act B) (w : State) (mid new : Kept) (told : A) (result : Result B Refusal)
    → Does first w mid (Ok told) → Does (behind told) mid.state new result → Does (Then first behind) w new result
does_then first behind w mid new told (Ok x) d further = (further.0, comes_then first behind w mid.state new.state told (Ok x) d.1 further.1)
does_then first behind w mid new told (Err refusal) d further =
    does_through (behind told mid.state) (Then first behind w) mid.state w new refusal (comes_led (first w) w mid.state (Ok told) d.1)
    (λ r c. comes_then first behind w mid.state new.state told (Err r) d.1 c) further

-- a thing that was done, of which this is told
pub does_told : {A B : Type 0} (first : Act A) (tell : A → B) (w : State) (new : Kept) (told : A)
    → Does first w new (Ok told) → Does (Then first (λ x. Gives (tell x))) w new (Ok (tell told))
does_told first tell w new told d = (
  d.0,
  record {
    turns = d.1.turns;
    came = record {
      between = reached d.1.turns new.state;
      told = Ok told;
      last = stays new.state;
      came = d.1.came;
      further = (refl, refl);
      whole = no_more (reached d.1.turns new.state);
    };
    led = d.1.led;
  },
)

-- nothing happened, and this came of it
pub does_nothing : {A : Type 0} (act : Act A) (old : Kept) (result : Result A Refusal) → old.spent ≡ false → act old.state (stays old.state) result
    → Does act old.state old result
does_nothing act old (Ok x) unspent came = (unspent, record { turns = []; came = came; led = refl })
does_nothing act old (Err NoSuchMessage) unspent came = (unspent, record { turns = []; came = came; led = refl })
does_nothing act old (Err NoSuchNode) unspent came = (unspent, record { turns = []; came = came; led = refl })
does_nothing act old (Err NodeDown) unspent came = (unspent, record { turns = []; came = came; led = refl })
does_nothing act old (Err NothingToDo) unspent came = (unspent, record { turns = []; came = came; led = refl })
does_nothing act old (Err (Limit which)) unspent came = (unspent, record { turns = []; came = came; led = refl })
does_nothing act old (Err Memory) unspent came = λ still. led_nowhere old.state

-- a thing of which nothing came, and what comes behind it
pub behind_nothing : {A B : Type 0} (first : Act A) (behind : A → Act B) (old new : Kept) (told : A) (result : Result B Refusal)
    → old.spent ≡ false → first old.state (stays old.state) (Ok told) → Does (behind told) old.state new result → Does (Then first behind) old.state new result
behind_nothing first behind old new told result unspent came further =
    does_then first behind old.state old new told result (does_nothing first old (Ok told) unspent came) further

-- a thing that was tried, and what comes behind it
comes_tried : {A B : Type 0} (first : Act A) (behind : Result A Refusal → Act B) (w m v : State) (told : Result A Refusal) (result : Result B Refusal)
    → Comes (first w) w m told → Comes (behind told m) m v result → Comes (Tries first behind w) w v result
comes_tried first behind w m v told result c f = record {
  turns = c.turns ++ f.turns;
  came = record { between = reached c.turns m; told = told; last = reached f.turns v; came = c.came; further = f.came; whole = refl };
  led = led_then c.turns f.turns w m v c.led f.led;
}

pub does_tried : {A B : Type 0} (first : Act A) (behind : Result A Refusal → Act B) (w : State) (mid new : Kept) (told : Result A Refusal) (result : Result B Refusal)
    → Comes (first w) w mid.state told → Does (behind told) mid.state new result → Does (Tries first behind) w new result
does_tried first behind w mid new told (Ok x) c further = (further.0, comes_tried first behind w mid.state new.state told (Ok x) c further.1)
does_tried first behind w mid new told (Err refusal) c further =
    does_through (behind told mid.state) (Tries first behind w) mid.state w new refusal (comes_led (first w) w mid.state told c)
    (λ r f. comes_tried first behind w mid.state new.state told (Err r) c f) further

-- ---- what is left of something

-- turns led to a world, and where what is left leads on from it, all of it leads, by the turns that were taken
pub record Leads {A : Type 0} (left all : Coming A) (from w : State) : Type 0 where
  pub taken : List Turn
  pub leads : (v : Reached) (r : Result A Refusal) → left v r → all (after taken v) r
  pub led : LeadsTo from taken w

pub leads_itself : {A : Type 0} (all : Coming A) (w : State) → Leads all all w w
leads_itself all w = record { taken = []; leads = λ v r came. came; led = refl }

-- what is left comes, and so all of it
pub leads_to : {A : Type 0} {from w : State} (left all : Coming A) (v : State) (r : Result A Refusal) → Leads left all from w → Comes left w v r → Comes all from v r
leads_to {from = from} {w = w} left all v r l c =
    record { turns = l.taken ++ c.turns; came = l.leads (reached c.turns v) r c.came; led = led_then l.taken c.turns from w v l.led c.led }

-- some turns more were taken
pub leads_on : {A : Type 0} {from w : State} (left next all : Coming A) (turns : List Turn) (m : State) → Leads left all from w → LeadsTo w turns m
    → ((v : Reached) (r : Result A Refusal) → next v r → left (after turns v) r) → Leads next all from m
leads_on {from = from} {w = w} left next all turns m l led f = record {
  taken = l.taken ++ turns;
  leads = λ v r rest. subst (λ z. all z r) (after_after l.taken turns v) (l.leads (after turns v) r (f v r rest));
  led = led_then l.taken turns from w m l.led led;
}

-- what is left was refused, and so all of it
pub leads_stop : {A B : Type 0} {from w : State} (one : Coming B) (left all : Coming A) (new : Kept) (refusal : Refusal) → Leads left all from w
    → ((r : Refusal) → Comes one w new.state (Err r) → Comes left w new.state (Err r)) → DoesFrom one w new (Err refusal) → DoesFrom all from new (Err refusal)
leads_stop {from = from} {w = w} one left all new refusal leads f d =
    does_through one all w from new refusal (record { turns = leads.taken; led = leads.led }) (λ r c. leads_to left all new.state (Err r) leads (f r c)) d

pub list_goes_on : {A S : Type 0} {from : State} (act : Turns A S) (xs : List A) (i : ℕ) (d : A) (noted told : S) (w : State) (mid : Kept) (all : Coming S)
    → Leads (Each act (drop i xs) noted w) all from w → i < length xs → Does (act (get_or xs i d) noted) w mid (Ok told)
    → Leads (Each act (drop (i + 1) xs) told mid.state) all from mid.state
list_goes_on act xs i d noted told w mid all leads within done =
    leads_on (Each act (drop i xs) noted w) (Each act (drop (i + 1) xs) told mid.state) all done.1.turns mid.state leads done.1.led
    (λ v r rest.
    each_at act (drop i xs) (drop (i + 1) xs) (get_or xs i d) noted told w (reached done.1.turns mid.state) v r (drop_more xs i d within) done.1.came rest)

-- nothing is left of the list
pub list_ends : {A S : Type 0} {from : State} (act : Turns A S) (xs : List A) (i : ℕ) (noted : S) (w : State) (all : Coming S)
    → Leads (Each act (drop i xs) noted w) all from w → length xs ≤ i → Comes all from w (Ok noted)
list_ends act xs i noted w all leads over =
    leads_to (Each act (drop i xs) noted w) all w (Ok noted) leads
    (record { turns = []; came = subst (λ ys. Each act ys noted w (stays w) (Ok noted)) (sym (drop_all i xs over)) (refl, refl); led = refl })

pub list_stops : {A S : Type 0} {from : State} (act : Turns A S) (xs : List A) (i : ℕ) (d : A) (noted : S) (w : State) (new : Kept) (refusal : Refusal) (all : Coming S)
    → Leads (Each act (drop i xs) noted w) all from w → i < length xs → Does (act (get_or xs i d) noted) w new (Err refusal) → DoesFrom all from new (Err refusal)
list_stops act xs i d noted w new refusal all leads within done =
    leads_stop (act (get_or xs i d) noted w) (Each act (drop i xs) noted w) all new refusal leads
    (λ r c.
    record {
      turns = c.turns;
      came = each_refused_at act (drop i xs) (drop (i + 1) xs) (get_or xs i d) noted w (reached c.turns new.state) r (drop_more xs i d within) c.came;
      led = c.led;
    }) done

pub count_goes_on : {S : Type 0} {from : State} (act : Turns ℕ S) (at left next : ℕ) (noted told : S) (w : State) (mid : Kept) (all : Coming S)
    → Leads (EachFrom act at left noted w) all from w → left ≡ suc next → Does (act at noted) w mid (Ok told)
    → Leads (EachFrom act (at + 1) next told mid.state) all from mid.state
count_goes_on act at left next noted told w mid all leads e d =
    leads_on (EachFrom act at left noted w) (EachFrom act (at + 1) next told mid.state) all d.1.turns mid.state leads d.1.led
    (λ v r rest. from_more act at left next noted told w (reached d.1.turns mid.state) v r e d.1.came rest)

pub count_stops : {S : Type 0} {from : State} (act : Turns ℕ S) (at left next : ℕ) (noted : S) (w : State) (new : Kept) (refusal : Refusal) (all : Coming S)
    → Leads (EachFrom act at left noted w) all from w → left ≡ suc next → Does (act at noted) w new (Err refusal) → DoesFrom all from new (Err refusal)
count_stops act at left next noted w new refusal all leads e d =
    leads_stop (act at noted w) (EachFrom act at left noted w) all new refusal leads
    (λ r c. record { turns = c.turns; came = from_stops act at left next noted w (reached c.turns new.state) r e c.came; led = c.led }) d

pub count_ends : {S : Type 0} {from : State} (act : Turns ℕ S) (at left : ℕ) (noted : S) (w : State) (all : Coming S)
    → Leads (EachFrom act at left noted w) all from w → left ≡ 0 → Comes all from w (Ok noted)
count_ends act at left noted w all leads e =
    leads_to (EachFrom act at left noted w) all w (Ok noted) leads (record { turns = []; came = from_ends act at left noted w e; led = refl })
