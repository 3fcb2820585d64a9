-- What the one history of each store has is some node's own: commits and files are the controllers', messages the producer's.
use Rattle.std.proofs.Common.{◌≡◌, inl, true, List, [], ◌∷◌, refl, sym, ap, ◌∙◌, subst}
use Rattle.rt_deep.specs.declared.deep_put.DeepPut.{DeepPut}
use Rattle.rt_front.specs.declared.entry.Entry.{Entry}
use Rattle.rt_front.specs.Histories.{mine, stands}
use Rattle.rt_ground.specs.Histories.{whats}
use Rattle.rt_ground.specs.declared.appended.Appended.{Appended}
use Rattle.rt_lists.specs.Members.{Has}
use Rattle.rt_lists.proofs.Members.{Has-map, Has-same, map-Has}
use Rattle.rt_live_names.specs.ControllerPart.{ControllerPart}
use Rattle.rt_live_names.specs.Fronts.{Fronts, own_files, own_messages, own_writes}
use Rattle.rt_live_names.specs.Names.{Names}
use Rattle.rt_model.specs.Metadata.{IsDone}
use Rattle.rt_model.specs.declared.node.Seen.{Seen}
use Rattle.rt_live_end.specs.Ended.{Ended, IsEnded, fronts_of}
use Rattle.rt_live_end.proofs.Callers.{by_node, controller_part, deep_owner, met_all, server_part, store_owner, stands_alone, stream_owner}
use Rattle.rt_live_end.proofs.Members.{all_has, filter_whole}

module _ (n : Names) (e : Ended) (k : IsEnded n e) where
  -- ---- commits

  -- the write is a controller's own
  pub record IsControllers (w : Seen) : Type 0 where
    pub controller : ControllerPart
    pub node : Has e.controllers controller
    pub own : Has (own_writes controller.fronts) w

  undone : (fs : List Seen) (w : Seen) → fs ≡ [] → Has fs w → IsControllers w
  undone fs w none has = absurd (Has-same fs [] w none has)

  written_by : (w : Seen) → IsDone w.node → (f : Fronts) → Has (fronts_of e) f → Has (own_writes f) w → IsControllers w
  written_by w done f node own =
      by_node n e k (λ (g : Fronts). Has (own_writes g) w → IsControllers w)
      (λ has. undone (own_writes e.producer) w k.producer.writes has)
      (λ a there has. absurd (all_has (λ (v : Seen). IsDone v.node → ⊥) (own_writes a.fronts) w (server_part n e k a there).undone has done))
      (λ a there has. record { controller = a; node = there; own = has })
      (λ has. absurd (all_has (λ (v : Seen). IsDone v.node → ⊥) (own_writes e.repairer) w k.repairer.undone has done))
      (λ has. undone (own_writes e.broker.fronts) w k.broker.writes has)
      f node own

  pub commit_controllers : (w : Seen) → Has (whats e.met.store.seen) w → IsDone w.node → IsControllers w
  commit_controllers w has done =
      let x = Has-map (λ (y : Entry Seen). y.what) e.met.store.seen w has in
      let o = store_owner n e k x.0 x.1 in
      let own : Has (own_writes o.fronts) x.0.what = map-Has (λ (y : Entry Seen). y.what) (mine o.fronts.store.numbers o.fronts.store.seen) x.0 o.own in
      written_by w done o.fronts o.node (subst (Has (own_writes o.fronts)) x.2 own)

  -- ---- files

  -- the file is a controller's own
  pub record IsPutByOne (f : DeepPut) : Type 0 where
    pub controller : ControllerPart
    pub node : Has e.controllers controller
    pub own : Has (own_files controller.fronts) f

  unput : (fs : List DeepPut) (f : DeepPut) → fs ≡ [] → Has fs f → IsPutByOne f
  unput fs f none has = absurd (Has-same fs [] f none has)

  put_by : (f : DeepPut) (g : Fronts) → Has (fronts_of e) g → Has (own_files g) f → IsPutByOne f
  put_by f g node own =
      by_node n e k (λ (h : Fronts). Has (own_files h) f → IsPutByOne f)
      (λ has. unput (own_files e.producer) f k.producer.puts has)
      (λ a there has. unput (own_files a.fronts) f (server_part n e k a there).puts has)
      (λ a there has. record { controller = a; node = there; own = has })
      (λ has. unput (own_files e.repairer) f k.repairer.puts has)
      (λ has. unput (own_files e.broker.fronts) f k.broker.puts has)
      g node own

  pub file_controllers : (f : DeepPut) → Has (whats e.met.deep.seen) f → IsPutByOne f
  file_controllers f has =
      let x = Has-map (λ (y : Entry DeepPut). y.what) e.met.deep.seen f has in
      let o = deep_owner n e k x.0 x.1 in
      let own : Has (own_files o.fronts) x.0.what = map-Has (λ (y : Entry DeepPut). y.what) (mine o.fronts.deep.numbers o.fronts.deep.seen) x.0 o.own in
      put_by f o.fronts o.node (subst (Has (own_files o.fronts)) x.2 own)

  -- ---- messages

  abbrev IsProducers : Entry Appended → Type 0
  IsProducers x = stands x.front e.producer.stream.numbers ≡ true

  unsent : (x : Entry Appended) (f : Fronts) → own_messages f ≡ [] → Has (mine f.stream.numbers f.stream.seen) x → IsProducers x
  unsent x f none has =
      absurd (Has-same (own_messages f) [] x.what none (map-Has (λ (y : Entry Appended). y.what) (mine f.stream.numbers f.stream.seen) x has))

  appended_by : (x : Entry Appended) (f : Fronts) → Has (fronts_of e) f → f.stream.numbers ≡ x.front ∷ [] → Has (mine f.stream.numbers f.stream.seen) x → IsProducers x
  appended_by x f node numbers own =
      by_node n e k (λ (g : Fronts). g.stream.numbers ≡ x.front ∷ [] → Has (mine g.stream.numbers g.stream.seen) x → IsProducers x)
      (λ is has. ap (stands x.front) is ∙ stands_alone n e k x.front)
      (λ a there is has. unsent x a.fronts (server_part n e k a there).appends has)
      (λ a there is has. unsent x a.fronts (controller_part n e k a there).appends has)
      (λ is has. unsent x e.repairer k.repairer.appends has)
      (λ is has. unsent x e.broker.fronts k.broker.appends has)
      f node numbers own

  producers : (x : Entry Appended) → Has e.met.stream.seen x → IsProducers x
  producers x has = let o = stream_owner n e k x has in appended_by x o.fronts o.node o.numbers o.own

  -- the producer alone appends, so that the stream is the input
  pub stream_is_input : whats e.met.stream.seen ≡ n.rows
  stream_is_input =
      ap (λ (l : List (Entry Appended)). whats l)
      (sym (filter_whole (λ (x : Entry Appended). stands x.front e.producer.stream.numbers) e.met.stream.seen producers)
      ∙ (met_all n e k e.producer (inl refl)).stream.own)
      ∙ k.producer.appends
