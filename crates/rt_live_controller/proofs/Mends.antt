-- What the repairer does leaves it as its type says.
use Rattle.std.proofs.Common.{◌≡◌, inl, inr, ℕ, ◌<◌, Bool, true, List, [], ◌∷◌, ◌++◌, length, Option, Some, None, Result, Ok, Err, refl, sym, ◌∙◌, ap, subst}
use Rattle.std.specs.Prelude.{IfSome}
use Rattle.std.specs.declared.alloc.AllocError.{AllocError}
use Rattle.std.proofs.lemmas.List.Elements.{All-push}
use Rattle.std.proofs.lemmas.Option.{same_Some}
use Rattle.rt_base.specs.declared.numbers.Moment.{Moment}
use Rattle.rt_base.specs.declared.numbers.Partition.{Partition}
use Rattle.rt_front.specs.Histories.{Known, mine}
use Rattle.rt_ground.specs.Histories.{whats}
use Rattle.rt_ground.specs.StoreCalls.{own_by, seen_by, shared_meaning}
use Rattle.rt_lists.specs.Members.{IsFront}
use Rattle.rt_lists.proofs.Members.{front_same}
use Rattle.rt_live_names.specs.Fronts.{Fronts}
use Rattle.rt_live_names.specs.Names.{Names}
use Rattle.rt_live_names.specs.Quiet.{AreUndone}
use Rattle.rt_live_names.specs.Showed.{Shown, ShowsMore}
use Rattle.rt_live_names.proofs.Replaying.{replays_as, replays_more}
use Rattle.rt_live_names.proofs.Showing.{showed_grows}
use Rattle.rt_model.specs.Metadata.{IsDone}
use Rattle.rt_model.specs.Setup.{IsSetup}
use Rattle.rt_model.specs.Starting.{Starting}
use Rattle.rt_model.specs.declared.decision.Decision.{Decision}
use Rattle.rt_model.specs.declared.decision.Decision.TheVariants as decision
use Rattle.rt_model.specs.declared.node.Key.TheVariants as key
use Rattle.rt_model.specs.declared.node.Seen.{Seen}
use Rattle.rt_model.specs.declared.setup.Setup.{Setup}
use Rattle.rt_model.specs.Lawful.{Write}
use Rattle.rt_repair.specs.IsRepair.{IsRepair}
use Rattle.rt_repair.specs.Owning.{GainsUndone}
use Rattle.rt_repair.specs.RepairSteps.{Does, RanOut, Sets, Stepped as Went, Steps, StepsAt, abandoned, ideal_set}
use Rattle.rt_repair.specs.Repairing.{Repairing, abandon_write, beginning, create_write, decision_at, ideal_write}
use Rattle.rt_repair.specs.declared.read_node.ReadNode.{ReadNode}
use Rattle.rt_repair.specs.declared.repair.RepairStage.{RepairStage}
use Rattle.rt_repair.specs.declared.repair.RepairStage.TheVariants as stage
use Rattle.rt_repair.specs.declared.repair_step.RepairStep.{RepairStep}
use Rattle.rt_repair.proofs.Beginning.{repair_begins}
use Rattle.rt_repair.proofs.Owning.{out_own, repair_own}
use Rattle.rt_store.specs.Contents.{starting_of}
use Rattle.rt_store.specs.Meaning.{Meaning, Own}
use Rattle.rt_store.specs.declared.refused.StoreRefused.{StoreRefused}
use Rattle.rt_store.proofs.Seeing.{list_grows, read_grows, write_grows}
use Rattle.rt_live_controller.specs.Repairing.{IsMending, IsMendingOf, RepairerActs, RepairerNow, RepairerStep, StepsSo, first_repairer, is_free, repairer_now, shown_to}
use Rattle.rt_live_controller.specs.declared.repairer_did.RepairerDid.{RepairerDid}
use Rattle.rt_live_controller.specs.declared.repairer_did.RepairerDid.TheVariants.{Began, Stepped}
use Rattle.rt_live_controller.proofs.Acts.{shows_now}

-- ---- a step shows no less

same_grows : (old new : Meaning) → new ≡ old → IsFront old.seen new.seen
same_grows old new e = subst (λ (m : Meaning). IsFront old.seen m.seen) (sym e) (front_same old.seen)

sets_grow : (old new : Meaning) (tell : Result ℕ StoreRefused → Option RepairStep) (call : Option Write) (did : RepairStep) → Sets old new tell call did
    → IsFront old.seen new.seen
sets_grow old new tell None did x = same_grows old new x.0
sets_grow old new tell (Some call) did x = write_grows (λ w. w.version) old new call x.0 x.1

does_grow : (old new : Meaning) (r : Repairing) (now : Moment) (last : Option ReadNode) (follows : Bool) (ideal : Seen) (did : RepairStep) (d : Decision)
    → Does old new r now last follows ideal did d → IsFront old.seen new.seen
does_grow old new r now last follows ideal did decision.Nothing x = same_grows old new x.0
does_grow old new r now last follows ideal did (decision.Create t o) x = write_grows (λ w. tt) old new (create_write r now t o last) x.0 x.1
does_grow old new r now last follows ideal did (decision.AddToIdeal t) x = sets_grow old new ideal_set (ideal_write r t follows ideal) did x
does_grow old new r now last follows ideal did (decision.Abandon t) x = sets_grow old new (abandoned t) (abandon_write now last) did x

at_grows : (old new : Meaning) (r : Repairing) (now : Moment) (x : Went) (at : RepairStage) → StepsAt old new r now x at → IsFront old.seen new.seen
at_grows old new r now x stage.Listing (answer, c, e) = list_grows old new r.partition answer c
at_grows old new r now x (stage.Reading last follows) (answer, c, e) = read_grows old new key.Ideal answer c
at_grows old new r now x (stage.Writing last follows ideal) (ended, does) =
    does_grow old new r now last follows ideal x.step (decision_at r now last ideal) does
at_grows old new r now x stage.Ended steps = absurd steps

out_grows : (old new : Meaning) → RanOut old new → IsFront old.seen new.seen
out_grows old new (inl e) = same_grows old new e
out_grows old new (inr (base, sees, stays)) = subst (IsFront old.seen) (sym stays.seen) sees.grows

step_grows : (old new : Meaning) (r : Repairing) (now : Moment) (after : Repairing) (result : Result RepairStep AllocError) → Steps old new r now after result
    → IsFront old.seen new.seen
step_grows old new r now after (Ok did) h = at_grows old new r now (record { repair = after; step = did }) r.stage h
step_grows old new r now after (Err e) h = out_grows old new h.1

-- and makes no segment Done
step_own : (old new : Meaning) (o : Own) (r : Repairing) (now : Moment) (after : Repairing) (result : Result RepairStep AllocError) → old.own ≡ Some o
    → Steps old new r now after result → GainsUndone (Some o) new.own
step_own old new o r now after (Ok did) own h =
    subst (λ (x : Option Own). GainsUndone x new.own) own (repair_own old new r now (record { repair = after; step = did }) h)
step_own old new o r now after (Err e) own h = inl (out_own old new h.1 ∙ own)

-- what becomes the caller's own
pub record Gains (old new : Own) : Type 0 where
  pub numbers : new.numbers ≡ old.numbers
  pub writes : IsFront old.writes new.writes
  pub undone : AreUndone old.writes → AreUndone new.writes

gained : (o n : Own) → GainsUndone (Some o) (Some n) → Gains o n
gained o n (inl e) =
    let same = same_Some n o e in
    record {
      numbers = ap (λ (x : Own). x.numbers) same;
      writes = subst (IsFront o.writes) (ap (λ (x : Own). x.writes) (sym same)) (front_same o.writes);
      undone = λ all. subst AreUndone (ap (λ (x : Own). x.writes) (sym same)) all;
    }
gained o n (inr (w, e, undone)) =
    let same = same_Some n (record { numbers = o.numbers; writes = o.writes ++ w ∷ [] }) e in
    let more = ap (λ (x : Own). x.writes) same in
    record {
      numbers = ap (λ (x : Own). x.numbers) same;
      writes = (w ∷ [], more);
      undone = λ all. subst AreUndone (sym more) (All-push (λ (x : Seen). IsDone x.node → ⊥) o.writes w all undone);
    }

-- ---- what its store showed earlier it shows when it shows more

step_later : (setup : Setup) (old later : Shown) → ShowsMore old later → (a : RepairerNow) (d : RepairerDid) (b : RepairerNow) → RepairerStep setup old a d b
    → RepairerStep setup later a d b
step_later setup old later more a (Began partition) b h = h
step_later setup old later more a (Stepped now result told) b h = (
  h.0,
  record {
    old = h.1.old;
    new = h.1.new;
    was_repair = h.1.was_repair;
    is_repair = h.1.is_repair;
    before = h.1.before;
    after = h.1.after;
    was = showed_grows (starting_of setup) old later a.told a.wrote h.1.before more h.1.was;
    is = showed_grows (starting_of setup) old later b.told b.wrote h.1.after more h.1.is;
    step = h.1.step;
  },
)

-- ---- one thing more

module _ (n : Names) (s : Starting) (setup : Setup) (a : RepairerActs) (is : IsMendingOf n s setup a) where
  abbrev acts : Option Repairing → Fronts → List RepairerDid → RepairerActs
  acts repair f did = record { repair = repair; fronts = f; did = did }

  abbrev Fits : Option Repairing → Fronts → List RepairerDid → Type 0
  Fits repair f did = IsMendingOf n s setup (acts repair f did)

  fits : (repair : Option Repairing) (f : Fronts) (did : List RepairerDid) → IsMending n (acts repair f did) → Fits repair f did
  fits repair f did k = record { starting = is.starting; knows = is.knows; valid = is.valid; is = k }

  pub has_begun : (repair : Option Repairing) (did : List RepairerDid) (p : Partition) (r : Repairing) → repair ≡ Some r → r ≡ beginning p setup
      → did ≡ a.did ++ Began p ∷ [] → p.0 < n.setup.partitions → is_free a.repair ≡ true → Fits repair a.fronts did
  has_begun repair did p r some begins e within free =
      let st = starting_of n.setup in
      let first = beginning p n.setup in
      let same : repair ≡ Some first = some ∙ ap (λ (x : Repairing). Some x) begins ∙ ap (λ (x : Setup). Some (beginning p x)) is.knows in
      let ready = repair_begins st (seen_by st a.fronts.store) p n.setup (subst IsSetup is.knows is.valid) is.is.lawful within in
      let next = acts (Some first) a.fronts (a.did ++ Began p ∷ []) in
      let made : IsMending n next = record {
        part = is.is.part;
        lawful = is.is.lawful;
        repair = ready;
        replays = replays_more (RepairerStep n.setup (shown_to n a)) first_repairer (repairer_now a) (repairer_now next) a.did (Began p) is.is.replays (within, free, refl);
      } in
      subst (λ (x : Option Repairing). Fits x a.fronts did) (sym same)
      (subst (λ (ds : List RepairerDid). Fits (Some first) a.fronts ds) (sym e) (fits (Some first) a.fronts (a.did ++ Began p ∷ []) made))

  -- what a step left, over these starting contents
  record Left (f : Fronts) (old new : Repairing) (now : Moment) (result : Result RepairStep AllocError) (x : Starting) : Type 0 where
    step : Steps (shared_meaning x a.fronts.store) (shared_meaning x f.store) old now new result
    ready : IsRepair x (seen_by x a.fronts.store) old → IsRepair x (seen_by x f.store) new

  stepped : (f : Fronts) (old new : Repairing) (now : Moment) (result : Result RepairStep AllocError) (told : ℕ) → a.repair ≡ Some old
      → f.deep ≡ a.fronts.deep → f.stream ≡ a.fronts.stream → told ≡ length f.store.seen → Left f old new now result (starting_of n.setup)
      → IsMending n (acts (Some new) f (a.did ++ Stepped now result told ∷ []))
  stepped f old new now result told was deep stream shows left =
      let st = starting_of n.setup in
      let x = shared_meaning st a.fronts.store in
      let y = shared_meaning st f.store in
      let d = Stepped now result told in
      let next = acts (Some new) f (a.did ++ d ∷ []) in
      let kept = subst (λ (o : Option Repairing). IfSome o (IsRepair st (seen_by st a.fronts.store))) was is.is.repair in
      let ready = left.ready kept in
      let gains = gained (own_by a.fronts.store) (own_by f.store) (step_own x y (own_by a.fronts.store) old now new result refl left.step) in
      let more : ShowsMore (shown_to n a) (shown_to n next) = record {
        seen = step_grows x y old now new result left.step;
        numbers = gains.numbers;
        writes = gains.writes;
      } in
      let so : StepsSo st (shown_to n next) (repairer_now a) (repairer_now next) (λ before after p q. Steps before after p now q result) = record {
        old = old;
        new = new;
        was_repair = was;
        is_repair = refl;
        before = x;
        after = y;
        was = showed_grows st (shown_to n a) (shown_to n next) _ _ x more (shows_now st a.fronts.store);
        is = shows_now st f.store;
        step = left.step;
      } in
      record {
        part = record {
          caller = record {
            store = gains.numbers ∙ is.is.part.caller.store;
            deep = ap (λ (k : Known _). k.numbers) deep ∙ is.is.part.caller.deep;
            stream = ap (λ (k : Known _). k.numbers) stream ∙ is.is.part.caller.stream;
          };
          undone = gains.undone is.is.part.undone;
          puts = ap (λ (k : Known _). whats (mine k.numbers k.seen)) deep ∙ is.is.part.puts;
          appends = ap (λ (k : Known _). whats (mine k.numbers k.seen)) stream ∙ is.is.part.appends;
        };
        lawful = ready.lawful;
        repair = ready;
        replays = replays_more (RepairerStep n.setup (shown_to n next)) first_repairer (repairer_now a) (repairer_now next) a.did d
            (replays_as (RepairerStep n.setup (shown_to n a)) (RepairerStep n.setup (shown_to n next)) first_repairer (repairer_now a) a.did
            (step_later n.setup (shown_to n a) (shown_to n next) more) is.is.replays)
            (sym shows, so);
      }

  pub has_stepped : (repair : Option Repairing) (f : Fronts) (did : List RepairerDid) (old new : Repairing) (now : Moment) (result : Result RepairStep AllocError)
      (told : ℕ) → a.repair ≡ Some old → repair ≡ Some new → did ≡ a.did ++ Stepped now result told ∷ [] → f.deep ≡ a.fronts.deep
      → f.stream ≡ a.fronts.stream → told ≡ length f.store.seen
      → Steps (shared_meaning s a.fronts.store) (shared_meaning s f.store) old now new result
      → ((x : Starting) → IsRepair x (seen_by s a.fronts.store) old → IsRepair x (seen_by s f.store) new) → Fits repair f did
  has_stepped repair f did old new now result told was some e deep stream shows h ready =
      let left : Left f old new now result s = record { step = h; ready = λ k. ready s k } in
      let at = subst (Left f old new now result) (sym is.starting) left in
      subst (λ (x : Option Repairing). Fits x f did) (sym some)
      (subst (λ (ds : List RepairerDid). Fits (Some new) f ds) (sym e)
      (fits (Some new) f (a.did ++ Stepped now result told ∷ []) (stepped f old new now result told was deep stream shows at)))

  -- it is ready for a step
  pub is_ready : (r : Repairing) → a.repair ≡ Some r → (x : Starting) × IsRepair x (seen_by s a.fronts.store) r
  is_ready r some =
      let st = starting_of n.setup in
      let kept = subst (λ (o : Option Repairing). IfSome o (IsRepair st (seen_by st a.fronts.store))) some is.is.repair in
      (s, subst (λ (x : Starting). IsRepair x (seen_by x a.fronts.store) r) is.starting kept)
