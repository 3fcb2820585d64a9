-- What a caller knows of those that it met, as it meets more of them and is told what there is.
use Rattle.std.proofs.Common.{◌≡◌, ℕ, ◌+◌, ◌==◌, Bool, true, false, ◌||◌, List, [], ◌∷◌, ◌++◌, append_assoc, map, refl, sym, ap, ◌∙◌, subst, arith}
use Rattle.std.specs.Prelude.{All}
use Rattle.std.specs.List.{range_with_len}
use Rattle.std.proofs.lemmas.List.Elements.{All-push, All-same, All-weaker}
use Rattle.std.proofs.lemmas.List.{map-id}
use Rattle.std.proofs.lemmas.List.FromFn.{map-range_with_len_more}
use Rattle.rt_deep.specs.declared.deep_put.DeepPut.{DeepPut}
use Rattle.rt_front.specs.declared.entry.Entry.{Entry}
use Rattle.rt_front.specs.Histories.{Known, mine, stands}
use Rattle.rt_ground.specs.Histories.{Meets, SeesMore}
use Rattle.rt_ground.specs.declared.appended.Appended.{Appended}
use Rattle.rt_lists.specs.Members.{IsFront}
use Rattle.rt_lists.proofs.Members.{front_same, front_then}
use Rattle.rt_live_names.specs.ControllerPart.{ControllerPart}
use Rattle.rt_live_names.specs.Fronts.{AreOfCaller, Fronts}
use Rattle.rt_live_names.specs.ServerPart.{ServerPart}
use Rattle.rt_live_end.specs.Ended.{Ended, fronts_met, fronts_of}
use Rattle.rt_live_end.specs.Meeting.{HasFirst, HasMet, IsShown, IsTold, KnowsAll, MeetsOne}
use Rattle.rt_live_end.proofs.Members.{filter_twice}

-- ---- numbers

either_right : (a b : Bool) → b ≡ true → (a || b) ≡ true
either_right true b e = refl
either_right false b e = e

stands_left : (k : ℕ) (ns ms : List ℕ) → stands k ns ≡ true → stands k (ns ++ ms) ≡ true
stands_left k [] ms e = absurd (cc)
stands_left k (n ∷ ns) ms e = by_first (n == k) e (stands_left k ns ms)
  where
    by_first : (b : Bool) → (b || stands k ns) ≡ true → (stands k ns ≡ true → stands k (ns ++ ms) ≡ true) → (b || stands k (ns ++ ms)) ≡ true
    by_first true e further = refl
    by_first false e further = further e

stands_right : (k : ℕ) (ns ms : List ℕ) → stands k ms ≡ true → stands k (ns ++ ms) ≡ true
stands_right k [] ms e = e
stands_right k (n ∷ ns) ms e = either_right (n == k) (stands k (ns ++ ms)) (stands_right k ns ms e)

pub range_more : (count : ℕ) → range_with_len 0 (count + 1) ≡ range_with_len 0 count ++ count ∷ []
range_more count =
    sym (map-id (range_with_len 0 (count + 1)))
    ∙ map-range_with_len_more (λ (k : ℕ). k) 0 count count (omega arith)
    ∙ ap (λ (l : List ℕ). l ++ count ∷ []) (map-id (range_with_len 0 count))

-- ---- one history

module _ {T : Type 0} where
  pub knows_itself : (k : Known T) → KnowsAll k k
  knows_itself k = record { seen = front_same k.seen; numbers = λ n e. e; own = refl }

  -- a front that knows all of another one knows all that the other one does
  knows_then : (part old new : Known T) → KnowsAll part old → KnowsAll old new → KnowsAll part new
  knows_then part old new k l = record {
    seen = front_then part.seen old.seen new.seen k.seen l.seen;
    numbers = λ n e. l.numbers n (k.numbers n e);
    own =
        sym (filter_twice (λ (e : Entry T). stands e.front part.numbers) (λ (e : Entry T). stands e.front old.numbers) new.seen (λ e. k.numbers e.front))
        ∙ ap (mine part.numbers) l.own
        ∙ filter_twice (λ (e : Entry T). stands e.front part.numbers) (λ (e : Entry T). stands e.front old.numbers) old.seen (λ e. k.numbers e.front)
        ∙ k.own;
  }

  -- the front that took in another one
  meets_old : (old other new : Known T) → Meets old other new → KnowsAll old new
  meets_old old other new m = record {
    seen = m.begins.0;
    numbers = λ n e. subst (λ ns. stands n ns ≡ true) (sym (ap (λ (k : Known T). k.numbers) m.both)) (stands_left n old.numbers other.numbers e);
    own = m.mine.0;
  }

  meets_other : (old other new : Known T) → Meets old other new → KnowsAll other new
  meets_other old other new m = record {
    seen = m.begins.1;
    numbers = λ n e. subst (λ ns. stands n ns ≡ true) (sym (ap (λ (k : Known T). k.numbers) m.both)) (stands_right n old.numbers other.numbers e);
    own = m.mine.1;
  }

  -- and one that was told what there is
  told_old : (old new : Known T) → SeesMore old new → KnowsAll old new
  told_old old new s =
      let numbers : new.numbers ≡ old.numbers = ap (λ (k : Known T). k.numbers) s.told.front in
      record {
        seen = subst (λ l. IsFront old.seen l) (sym (ap (λ (k : Known T). k.seen) s.told.front)) s.told.begins;
        numbers = λ n e. subst (λ ns. stands n ns ≡ true) (sym numbers) e;
        own = ap (λ (ns : List ℕ). mine ns new.seen) (sym numbers) ∙ s.told.mine;
      }

  meets_numbers : (count : ℕ) (old other new : Known T) → Meets old other new → old.numbers ≡ range_with_len 0 count → other.numbers ≡ count ∷ []
      → new.numbers ≡ range_with_len 0 (count + 1)
  meets_numbers count old other new m first next =
      ap (λ (k : Known T). k.numbers) m.both
      ∙ ap (λ (ns : List ℕ). ns ++ other.numbers) first
      ∙ ap (λ (ns : List ℕ). range_with_len 0 count ++ ns) next
      ∙ sym (range_more count)

-- ---- all three

pub met_itself : (f : Fronts) → HasMet f f
met_itself f = record { store = knows_itself f.store; deep = knows_itself f.deep; stream = knows_itself f.stream }

met_then : (part old new : Fronts) → HasMet old part → HasMet new old → HasMet new part
met_then part old new k l = record {
  store = knows_then part.store old.store new.store k.store l.store;
  deep = knows_then part.deep old.deep new.deep k.deep l.deep;
  stream = knows_then part.stream old.stream new.stream k.stream l.stream;
}

pub met_more : (old other new : Fronts) (parts : List Fronts) → MeetsOne old other new → All (HasMet old) parts → All (HasMet new) (parts ++ other ∷ [])
met_more old other new parts m all =
    let before : HasMet new old = record {
      store = meets_old old.store other.store new.store m.store;
      deep = meets_old old.deep other.deep new.deep m.deep;
      stream = meets_old old.stream other.stream new.stream m.stream;
    } in
    All-push (HasMet new) parts other
    (All-weaker (HasMet old) (HasMet new) (λ part k. met_then part old new k before) parts all)
    (record {
      store = meets_other old.store other.store new.store m.store;
      deep = meets_other old.deep other.deep new.deep m.deep;
      stream = meets_other old.stream other.stream new.stream m.stream;
    })

pub told_more : (old new : Fronts) (parts : List Fronts) → IsTold old new → All (HasMet old) parts → All (HasMet new) parts
told_more old new parts t all =
    let before : HasMet new old = record {
      store = told_old old.store new.store t.store;
      deep = told_old old.deep new.deep t.deep;
      stream = told_old old.stream new.stream t.stream;
    } in
    All-weaker (HasMet old) (HasMet new) (λ part k. met_then part old new k before) parts all

known_same : {T : Type 0} (old new : Known T) → new ≡ old → KnowsAll old new
known_same old new same = subst (λ k. KnowsAll old k) (sym same) (knows_itself old)

pub shown_more : (old new : Fronts) (parts : List Fronts) → IsShown old new → All (HasMet old) parts → All (HasMet new) parts
shown_more old new parts t all =
    let before : HasMet new old = record {
      store = told_old old.store new.store t.store;
      deep = known_same old.deep new.deep t.deep;
      stream = known_same old.stream new.stream t.stream;
    } in
    All-weaker (HasMet old) (HasMet new) (λ part k. met_then part old new k before) parts all

pub met_in_order : (e : Ended) → All (HasMet e.met) (fronts_met e) → All (HasMet e.met) (fronts_of e)
met_in_order e all =
    let servers : List Fronts = map (λ (a : ServerPart). a.fronts) e.servers in
    let controllers : List Fronts = map (λ (a : ControllerPart). a.fronts) e.controllers in
    let last : List Fronts = e.repairer ∷ e.broker.fronts ∷ [] in
    All-same (HasMet e.met) (fronts_of e) (fronts_met e)
    (sym (append_assoc ((e.producer ∷ servers) ++ controllers) (e.repairer ∷ []) (e.broker.fronts ∷ []) ∙ append_assoc (e.producer ∷ servers) controllers last)) all

pub first_alone : (f : Fronts) → AreOfCaller 0 f → HasFirst 1 f
first_alone f c = record { store = c.store; deep = c.deep; stream = c.stream }

pub first_more : (count : ℕ) (old other new : Fronts) → MeetsOne old other new → HasFirst count old → AreOfCaller count other → HasFirst (count + 1) new
first_more count old other new m f c = record {
  store = meets_numbers count old.store other.store new.store m.store f.store c.store;
  deep = meets_numbers count old.deep other.deep new.deep m.deep f.deep c.deep;
  stream = meets_numbers count old.stream other.stream new.stream m.stream f.stream c.stream;
}

told_numbers : {T : Type 0} (count : ℕ) (old new : Known T) → SeesMore old new → old.numbers ≡ range_with_len 0 count → new.numbers ≡ range_with_len 0 count
told_numbers {T} count old new s first = ap (λ (k : Known T). k.numbers) s.told.front ∙ first

pub first_shown : (count : ℕ) (old new : Fronts) → IsShown old new → HasFirst count old → HasFirst count new
first_shown count old new t f = record {
  store = told_numbers count old.store new.store t.store f.store;
  deep = ap (λ (k : Known DeepPut). k.numbers) t.deep ∙ f.deep;
  stream = ap (λ (k : Known Appended). k.numbers) t.stream ∙ f.stream;
}

pub first_told : (count : ℕ) (old new : Fronts) → IsTold old new → HasFirst count old → HasFirst count new
first_told count old new t f = record {
  store = told_numbers count old.store new.store t.store f.store;
  deep = told_numbers count old.deep new.deep t.deep f.deep;
  stream = told_numbers count old.stream new.stream t.stream f.stream;
}
