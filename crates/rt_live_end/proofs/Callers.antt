-- Whose an entry of the one history is: the caller's of its number, whose front has it among its own.
use Rattle.std.proofs.Common.{◌≡◌, ℕ, zero, suc, ◌+◌, ◌<◌, true, ◌||◌, ◌⊎◌, inl, inr, List, [], ◌∷◌, ◌++◌, length, map, Some, refl, sym, ap, ◌∙◌, subst, arith, slice_get, length-append}
use Rattle.std.proofs.lemmas.Bool.{eq-eqb}
use Rattle.std.proofs.lemmas.List.{length-map}
use Rattle.std.proofs.lemmas.Option.{none-some, same_Some}
use Rattle.rt_deep.specs.declared.deep_put.DeepPut.{DeepPut}
use Rattle.rt_front.specs.declared.entry.Entry.{Entry}
use Rattle.rt_front.specs.Histories.{Known, mine, stands}
use Rattle.rt_ground.specs.Histories.{AreOfCallers}
use Rattle.rt_ground.specs.declared.appended.Appended.{Appended}
use Rattle.rt_lists.specs.Members.{Has}
use Rattle.rt_lists.proofs.Members.{Has-append_cases, Has-map, Has-place, Has-same, filter-Has, place-Has}
use Rattle.rt_live_names.specs.ControllerPart.{ControllerPart, IsControllerPart}
use Rattle.rt_live_names.specs.Fronts.{AreOfCaller, Fronts, callers_of}
use Rattle.rt_live_names.specs.Names.{Names}
use Rattle.rt_live_names.specs.ServerPart.{IsServerPart, ServerPart}
use Rattle.rt_model.specs.declared.node.Seen.{Seen}
use Rattle.rt_live_end.specs.Ended.{Ended, IsEnded, fronts_of}
use Rattle.rt_live_end.specs.Meeting.{HasMet, KnowsAll}
use Rattle.rt_live_end.proofs.Members.{all_has, some_at}

-- ---- fronts by their callers' numbers

abbrev AreNumbered : ℕ → List Fronts → Type 0
AreNumbered n [] = Unit {0}
AreNumbered n (f ∷ fs) = AreOfCaller n f × AreNumbered (n + 1) fs

numbered_append : (n m : ℕ) (xs ys : List Fronts) → n + length xs ≡ m → AreNumbered n xs → AreNumbered m ys → AreNumbered n (xs ++ ys)
numbered_append n m [] ys e x y = let same : m ≡ n = omega (arith, e) in subst (λ (k : ℕ). AreNumbered k ys) same y
numbered_append n m (f ∷ xs) ys e x y = (x.0, numbered_append (n + 1) m xs ys (omega (arith, e)) x.1 y)

numbered_map : {A : Type 0} (f : A → Fronts) (n : ℕ) (items : List A) → ((k : ℕ) (a : A) → slice_get items k ≡ Some a → AreOfCaller (n + k) (f a)) → AreNumbered n (map f items)
numbered_map f n [] each = tt
numbered_map {A} f n (a ∷ items) each =
    let here : n + 0 ≡ n = omega arith in (
      subst (λ (m : ℕ). AreOfCaller m (f a)) here (each 0 a refl),
      numbered_map f (n + 1) items
          (λ k b at. let there : n + suc k ≡ (n + 1) + k = omega arith in
          subst (λ (m : ℕ). AreOfCaller m (f b)) there (each (suc k) b at)),
    )

numbered_at : (n k : ℕ) (fs : List Fronts) (f : Fronts) → AreNumbered n fs → slice_get fs k ≡ Some f → AreOfCaller (n + k) f
numbered_at n k [] f x at = absurd (none-some f at)
numbered_at n zero (g ∷ fs) f x at =
    let here : n ≡ n + 0 = omega arith in
    subst (λ (m : ℕ). AreOfCaller m f) here (subst (AreOfCaller n) (same_Some g f at) x.0)
numbered_at n (suc k) (g ∷ fs) f x at =
    let there : (n + 1) + k ≡ n + suc k = omega arith in
    subst (λ (m : ℕ). AreOfCaller m f) there (numbered_at (n + 1) k fs f x.1 at)

-- ---- all nodes

module _ (n : Names) (e : Ended) (k : IsEnded n e) where
  abbrev server_fronts : List Fronts
  server_fronts = map (λ (a : ServerPart). a.fronts) e.servers

  abbrev controller_fronts : List Fronts
  controller_fronts = map (λ (a : ControllerPart). a.fronts) e.controllers

  abbrev last_fronts : List Fronts
  last_fronts = e.repairer ∷ e.broker.fronts ∷ []

  servers_long : length server_fronts ≡ n.setup.servers
  servers_long = length-map e.servers (λ (a : ServerPart). a.fronts) ∙ k.servers

  controllers_long : length controller_fronts ≡ n.setup.controllers
  controllers_long = length-map e.controllers (λ (a : ControllerPart). a.fronts) ∙ k.controllers

  long : length (fronts_of e) ≡ callers_of n.setup
  long =
      omega (
        arith,
        length-append server_fronts (controller_fronts ++ last_fronts),
        length-append controller_fronts last_fronts,
        servers_long,
        controllers_long,
      )

  servers_numbered : AreNumbered 1 server_fronts
  servers_numbered = numbered_map (λ (a : ServerPart). a.fronts) 1 e.servers (λ i a at.
      let here = k.each_server i a at in
      let same : 1 + a.number ≡ 1 + i = omega (arith, here.0) in
      subst (λ (m : ℕ). AreOfCaller m a.fronts) same here.1.caller)

  controllers_numbered : AreNumbered (1 + n.setup.servers) controller_fronts
  controllers_numbered = numbered_map (λ (a : ControllerPart). a.fronts) (1 + n.setup.servers) e.controllers (λ i a at.
      let here = k.each_controller i a at in
      let same : 1 + n.setup.servers + a.number ≡ (1 + n.setup.servers) + i = omega (arith, here.0) in
      subst (λ (m : ℕ). AreOfCaller m a.fronts) same here.1.caller)

  last_numbered : AreNumbered (1 + n.setup.servers + n.setup.controllers) last_fronts
  last_numbered =
      let next : 2 + n.setup.servers + n.setup.controllers ≡ (1 + n.setup.servers + n.setup.controllers) + 1 = omega arith in
      (k.repairer.caller, (subst (λ (m : ℕ). AreOfCaller m e.broker.fronts) next k.broker.caller, tt))

  all_numbered : AreNumbered 0 (fronts_of e)
  all_numbered =
      let first : AreNumbered 1 (server_fronts ++ (controller_fronts ++ last_fronts)) =
      numbered_append 1 (1 + n.setup.servers) server_fronts (controller_fronts ++ last_fronts) (omega (arith, servers_long)) servers_numbered
      (numbered_append (1 + n.setup.servers) (1 + n.setup.servers + n.setup.controllers) controller_fronts last_fronts (omega (arith, controllers_long))
      controllers_numbered last_numbered) in
      let next : 1 ≡ 0 + 1 = omega arith in
      (k.producer.caller, subst (λ (m : ℕ). AreNumbered m (server_fronts ++ (controller_fronts ++ last_fronts))) next first)

  pub server_part : (a : ServerPart) → Has e.servers a → IsServerPart n a
  server_part a has = let at = Has-place e.servers a has in (k.each_server at.0 a at.1).1

  pub controller_part : (a : ControllerPart) → Has e.controllers a → IsControllerPart n a
  controller_part a has = let at = Has-place e.controllers a has in (k.each_controller at.0 a at.1).1

  pub met_all : (f : Fronts) → Has (fronts_of e) f → HasMet e.met f
  met_all f has = all_has (HasMet e.met) (fronts_of e) f k.met has

  -- what holds of each node's fronts
  pub by_node : (P : Fronts → Type 0) → P e.producer → ((a : ServerPart) → Has e.servers a → P a.fronts)
      → ((a : ControllerPart) → Has e.controllers a → P a.fronts) → P e.repairer → P e.broker.fronts → (f : Fronts) → Has (fronts_of e) f → P f
  by_node P producer servers controllers repairer broker f (inl same) = subst P same producer
  by_node P producer servers controllers repairer broker f (inr has) =
      by_server (Has-append_cases server_fronts (controller_fronts ++ last_fronts) f has)
    where
      by_last : Has last_fronts f → P f
      by_last (inl same) = subst P same repairer
      by_last (inr (inl same)) = subst P same broker
      by_last (inr (inr none)) = absurd none

      by_controller : Has controller_fronts f ⊎ Has last_fronts f → P f
      by_controller (inl here) = let a = Has-map (λ (x : ControllerPart). x.fronts) e.controllers f here in subst P a.2 (controllers a.0 a.1)
      by_controller (inr there) = by_last there

      by_server : Has server_fronts f ⊎ Has (controller_fronts ++ last_fronts) f → P f
      by_server (inl here) = let a = Has-map (λ (x : ServerPart). x.fronts) e.servers f here in subst P a.2 (servers a.0 a.1)
      by_server (inr there) = by_controller (Has-append_cases controller_fronts last_fronts f there)

  -- ---- the caller of an entry's number

  pub stands_alone : (c : ℕ) → stands c (c ∷ []) ≡ true
  stands_alone c = ap (λ b. b || stands c []) (eq-eqb c c refl)

  pub record IsOwner {T : Type 0} (at : Fronts → Known T) (x : Entry T) : Type 0 where
    pub fronts : Fronts
    pub node : Has (fronts_of e) fronts
    pub numbers : (at fronts).numbers ≡ x.front ∷ []
    pub own : Has (mine (at fronts).numbers (at fronts).seen) x

  pub owner : {T : Type 0} (at : Fronts → Known T) → ((f : Fronts) → HasMet e.met f → KnowsAll (at f) (at e.met))
      → ((c : ℕ) (f : Fronts) → AreOfCaller c f → (at f).numbers ≡ c ∷ []) → AreOfCallers (callers_of n.setup) (at e.met).seen
      → (x : Entry T) → Has (at e.met).seen x → IsOwner at x
  owner {T} at knows numbered callers x has =
      let below : x.front < length (fronts_of e) =
      subst (λ (m : ℕ). x.front < m) (sym long) (all_has (λ (y : Entry T). y.front < callers_of n.setup) (at e.met).seen x callers has) in
      let f = some_at (fronts_of e) x.front below in
      let node = place-Has (fronts_of e) x.front f.0 f.1 in
      let first : 0 + x.front ≡ x.front = omega arith in
      let numbers : (at f.0).numbers ≡ x.front ∷ [] =
      numbered x.front f.0 (subst (λ (m : ℕ). AreOfCaller m f.0) first (numbered_at 0 x.front (fronts_of e) f.0 all_numbered f.1)) in
      let stood : stands x.front (at f.0).numbers ≡ true = ap (stands x.front) numbers ∙ stands_alone x.front in
      record {
        fronts = f.0;
        node = node;
        numbers = numbers;
        own =
            Has-same (mine (at f.0).numbers (at e.met).seen) (mine (at f.0).numbers (at f.0).seen) x (knows f.0 (met_all f.0 node)).own
            (filter-Has (λ (y : Entry T). stands y.front (at f.0).numbers) (at e.met).seen x has stood);
      }

  -- ---- of each history

  pub store_owner : (x : Entry Seen) → Has e.met.store.seen x → IsOwner (λ (f : Fronts). f.store) x
  store_owner x has = owner (λ (f : Fronts). f.store) (λ f m. m.store) (λ c f a. a.store) k.ground.store.0 x has

  pub deep_owner : (x : Entry DeepPut) → Has e.met.deep.seen x → IsOwner (λ (f : Fronts). f.deep) x
  deep_owner x has = owner (λ (f : Fronts). f.deep) (λ f m. m.deep) (λ c f a. a.deep) k.ground.deep.0 x has

  pub stream_owner : (x : Entry Appended) → Has e.met.stream.seen x → IsOwner (λ (f : Fronts). f.stream) x
  stream_owner x has = owner (λ (f : Fronts). f.stream) (λ f m. m.stream) (λ c f a. a.stream) k.ground.stream x has
