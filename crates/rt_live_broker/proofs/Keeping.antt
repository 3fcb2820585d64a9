-- What the calls of a broker's store leave as it was, and what a front shows.
use Rattle.std.proofs.Common.{◌≡◌, ℕ, ◌+◌, ◌<◌, ◌⊎◌, inl, inr, List, [], length, Option, Some, Result, Ok, Err, refl, sym, ap, subst, ◌∙◌, arith}
use Rattle.std.specs.Prelude.{IfErr}
use Rattle.std.proofs.lemmas.List.{length-append, length-map}
use Rattle.rt_base.specs.declared.fault.Fault.{Fault}
use Rattle.rt_base.specs.declared.numbers.Partition.{Partition}
use Rattle.rt_base.proofs.Planned.{left_cases}
use Rattle.rt_broker.specs.Asking.{Asking}
use Rattle.rt_broker.specs.Routing.{Routes}
use Rattle.rt_broker.specs.declared.refused.BrokerRefused.{BrokerRefused}
use Rattle.rt_broker.specs.declared.refused.BrokerRefused.TheVariants as refused
use Rattle.rt_front.specs.Histories.{Known, mine}
use Rattle.rt_front.specs.declared.entry.Entry.{Entry}
use Rattle.rt_ground.specs.Histories.{whats}
use Rattle.rt_ground.specs.StoreCalls.{own_by, seen_by, shared_meaning}
use Rattle.rt_lists.specs.Members.{IsFront}
use Rattle.rt_lists.proofs.Members.{front_same}
use Rattle.rt_live_broker.specs.Acting.{IsQuiet}
use Rattle.rt_live_names.specs.Fronts.{Fronts}
use Rattle.rt_live_names.specs.Names.{Names}
use Rattle.rt_live_names.specs.Showed.{Showed, ShowsMore, shown_by}
use Rattle.rt_model.specs.Starting.{Starting, starting_contents}
use Rattle.rt_model.specs.declared.node.Key.{Key}
use Rattle.rt_model.specs.declared.node.Listed.{Listed}
use Rattle.rt_model.specs.declared.node.Seen.{Seen}
use Rattle.rt_store.specs.Calls.{GoesBy, Lists, Reads}
use Rattle.rt_store.specs.Meaning.{Meaning, Own}
use Rattle.rt_store.specs.Answers.{listing, reading}
use Rattle.rt_store.specs.declared.refused.StoreRefused.{StoreRefused}
use Rattle.rt_store.specs.declared.refused.StoreRefused.TheVariants.{NoNode, Exists, VersionChanged, Failed, Memory}
use Rattle.rt_store.proofs.Owning.{gains_nothing}
use Rattle.rt_store.proofs.Seeing.{list_grows}

-- ---- a call that writes nothing leaves its caller's own

one_case : (now base : List Seen) → (now ≡ base) ⊎ (now ≡ base) → now ≡ base
one_case now base (inl e) = e
one_case now base (inr e) = e

own_of : {X : Type 0} (old new : Meaning) (fault : Fault) (base : List Seen) (answer result : Result X StoreRefused) → GoesBy old new fault base base answer result → new.own ≡ old.own
own_of old new fault base answer (Ok x) g = gains_nothing old.own new.own base new.seen g.own (one_case new.seen base (left_cases fault base base new.seen g.seen))
own_of old new fault base answer (Err NoNode) g = gains_nothing old.own new.own base new.seen g.own (one_case new.seen base (left_cases fault base base new.seen g.seen))
own_of old new fault base answer (Err (Exists found)) g = gains_nothing old.own new.own base new.seen g.own (one_case new.seen base (left_cases fault base base new.seen g.seen))
own_of old new fault base answer (Err (VersionChanged expected found)) g =
    gains_nothing old.own new.own base new.seen g.own (one_case new.seen base (left_cases fault base base new.seen g.seen))
own_of old new fault base answer (Err Failed) g = gains_nothing old.own new.own base new.seen g.own (one_case new.seen base (left_cases fault base base new.seen g.seen))
own_of old new fault base answer (Err Memory) g = g.own

pub read_own : (old new : Meaning) (k : Key) (result : Result Seen StoreRefused) → Reads old new k result → new.own ≡ old.own
read_own old new k result c = own_of old new c.fault c.base (reading k c.base) result c.goes

pub list_own : (old new : Meaning) (p : Partition) (result : Result (List Listed) StoreRefused) → Lists old new p result → new.own ≡ old.own
list_own old new p result c = own_of old new c.fault c.base (listing p c.base) result c.goes

pub route_own : (old new : Meaning) (a b : Asking) (p : Partition) (result : Result ℕ BrokerRefused) → Routes old new a p b result → new.own ≡ old.own
route_own old new a b p (Ok count) r = list_own old new p _ r.1.listed
route_own old new a b p (Err refused.NotDue) r = ap (λ (m : Meaning). m.own) r.2
route_own old new a b p (Err refused.StoreFault) r = list_own old new p _ r.1
route_own old new a b p (Err refused.Memory) r = list_own old new p r.2.0 r.2.1

pub route_grows : (old new : Meaning) (a b : Asking) (p : Partition) (result : Result ℕ BrokerRefused) → Routes old new a p b result → IsFront old.seen new.seen
route_grows old new a b p (Ok count) r = list_grows old new p _ r.1.listed
route_grows old new a b p (Err refused.NotDue) r = subst (λ (m : Meaning). IsFront old.seen m.seen) (sym r.2) (front_same old.seen)
route_grows old new a b p (Err refused.StoreFault) r = list_grows old new p _ r.1
route_grows old new a b p (Err refused.Memory) r = list_grows old new p r.2.0 r.2.1

-- a store whose count of faults doesn't rise met none
pub met_none : (result : Result ℕ BrokerRefused) → IfErr result (λ e. e ≡ refused.StoreFault → 0 < 0) → result ≡ Err refused.StoreFault → ⊥
met_none (Ok count) rose e = absurd (cc)
met_none (Err refused.NotDue) rose e = absurd (cc)
met_none (Err refused.StoreFault) rose e = let none : 0 < 0 = rose refl in absurd (omega arith)
met_none (Err refused.Memory) rose e = absurd (cc)

-- ---- what a front shows

abbrev known_own : Own → Option Own
known_own o = Some o

pub same_own : (s : Starting) (before after : Known Seen) → (shared_meaning s after).own ≡ (shared_meaning s before).own → own_by after ≡ own_by before
same_own s before after e = let some : known_own (own_by after) ≡ known_own (own_by before) = e in cc

pub shows_more : (s : Starting) (before after : Known Seen) → IsFront (seen_by s before) (seen_by s after) → own_by after ≡ own_by before
    → ShowsMore (shown_by s before) (shown_by s after)
shows_more s before after seen own = record {
  seen = seen;
  numbers = ap (λ (o : Own). o.numbers) own;
  writes = subst (λ (o : Own). IsFront (own_by before).writes o.writes) (sym own) (front_same (own_by before).writes);
}

pub shown_now : (s : Starting) (front : Known Seen) (told : ℕ) → told ≡ length front.seen → (own_by front).writes ≡ []
    → Showed s (shown_by s front) told 0 (shared_meaning s front)
shown_now s front told count none = record {
  whole = front_same (seen_by s front);
  told_is =
      length-append (starting_contents s) (whats front.seen)
      ∙ ap (λ (k : ℕ). length (starting_contents s) + k) (length-map front.seen (λ (e : Entry Seen). e.what) ∙ sym count);
  writes = (own_by front).writes;
  own = refl;
  mine = front_same (own_by front).writes;
  count = ap (λ (ws : List Seen). length ws) none;
  free = (refl, refl);
}

module _ {T : Type 0} where
  abbrev owned : Known T → List T
  owned d = whats (mine d.numbers d.seen)

  numbers_same : (before after : Known T) → after ≡ before → after.numbers ≡ before.numbers
  numbers_same before after e = ap (λ (d : Known T). d.numbers) e

  owned_same : (before after : Known T) → after ≡ before → owned after ≡ owned before
  owned_same before after e = ap owned e

pub quiet_on : (n : Names) (f k : Fronts) → IsQuiet n f → own_by k.store ≡ own_by f.store → k.deep ≡ f.deep → k.stream ≡ f.stream → IsQuiet n k
quiet_on n f k q own deep stream = record {
  caller = record {
    store = ap (λ (o : Own). o.numbers) own ∙ q.caller.store;
    deep = numbers_same f.deep k.deep deep ∙ q.caller.deep;
    stream = numbers_same f.stream k.stream stream ∙ q.caller.stream;
  };
  writes = ap (λ (o : Own). o.writes) own ∙ q.writes;
  puts = owned_same f.deep k.deep deep ∙ q.puts;
  appends = owned_same f.stream k.stream stream ∙ q.appends;
}
