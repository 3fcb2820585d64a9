-- A query that is asked of a world at rest misses nothing.
use Rattle.std.proofs.Common.{◌≡◌, ℕ, ◌<◌, inl, Bool, true, List, [], ◌∷◌, Option, Some, None, Result, Ok, Err, refl, sym, ◌∙◌, ap, subst, arith, slice_get}
use Rattle.std.proofs.lemmas.Option.{same_Some, slice_get_within}
use Rattle.rt_base.specs.declared.numbers.Instance.{Instance}
use Rattle.rt_base.specs.declared.numbers.Partition.{Partition}
use Rattle.rt_base.specs.declared.numbers.Sequence.{Sequence}
use Rattle.rt_broker.specs.Answering.{IsMissing, IsRefusal, IsRefused}
use Rattle.rt_broker.specs.Asking.{Asking, assigned_at, plan_in, route_at}
use Rattle.rt_broker.specs.declared.piece_asked.PieceAsked.{PieceAsked}
use Rattle.rt_broker.specs.declared.piece_got.PieceGot.{PieceGot}
use Rattle.rt_broker.specs.declared.piece_got.PieceGot.TheVariants as got
use Rattle.rt_broker.specs.declared.route.Route.{Route}
use Rattle.rt_broker.specs.declared.route.Route.TheVariants.{Untried, Failed, Planned}
use Rattle.rt_entry.specs.declared.refused.ServeRefused.{ServeRefused}
use Rattle.rt_entry.specs.declared.refused.ServeRefused.TheVariants.{NotServed}
use Rattle.rt_entry.specs.declared.served_rows.ServedRows.{ServedRows}
use Rattle.rt_lists.specs.Members.{Has}
use Rattle.rt_lists.proofs.Members.{map-Has}
use Rattle.rt_model.specs.Metadata.{metadata_of}
use Rattle.rt_model.specs.declared.answer.Answer.{Answer}
use Rattle.rt_model.specs.declared.piece.Piece.{Piece}
use Rattle.rt_model.specs.declared.query.Query.{Query}
use Rattle.rt_nodes.specs.Queries.{Gives, GivesIf, GivesUp}
use Rattle.rt_nodes.specs.declared.server_node.ServerNode.{ServerNode}
use Rattle.rt_past.specs.Segments.{IsAssignedTo}
use Rattle.rt_assign.specs.Placement.{replicas_of}
use Rattle.rt_server.specs.Serving.{serve}
use Rattle.rt_state.specs.IsSafeWorld.{IsSafeWorld}
use Rattle.rt_state.specs.Queries.{IsAnswerOf}
use Rattle.rt_state.specs.declared.state.State.{State}
use Rattle.rt_heal.specs.Answered.{IsAskedNow}
use Rattle.rt_heal.specs.AtRest.{IsAtRest}
use Rattle.rt_heal.specs.Mended.{GoesOn}
use Rattle.rt_heal.specs.Planned.{AreOnline, IsGivenWhole, NoneDropped}
use Rattle.rt_heal.proofs.Planned.{pieces_given, plan_partition}

abbrev gave : ServedRows → Result ServedRows ServeRefused
gave x = Ok x

abbrev refused : ServeRefused → Result ServedRows ServeRefused
refused e = Err e

gave_not : (x : ServedRows) (e : ServeRefused) → gave x ≡ refused e → ⊥
gave_not x e h = cc

abbrev pub planned_route : List PieceAsked → Option Route
planned_route xs = Some (Planned xs)

failed_not : (xs : List PieceAsked) → planned_route xs ≡ Some Failed → ⊥
failed_not xs h = cc

pub same_planned : (xs ys : List PieceAsked) → planned_route xs ≡ planned_route ys → xs ≡ ys
same_planned xs ys h = cc

-- a server that serves a piece doesn't refuse it
refuses_not : (n : ServerNode) (piece : Piece) (query : Query) (served : ServedRows) (what : PieceGot) → n.up ≡ true → serve n.server.table piece ≡ Ok served
    → Gives n piece query what → IsRefusal what → ⊥
refuses_not n piece query served what up gives given refusal =
    by_what what (subst (λ (b : Bool). GivesIf b n piece query what) up given) refusal
  where
    by_what : (x : PieceGot) → GivesUp n piece query x → IsRefusal x → ⊥
    by_what (got.Served s) g r = r
    by_what got.NotServed g r = gave_not served (NotServed g.0) (sym gives ∙ g.1)
    by_what got.Down g r = g

none_there : {X : Type 0} (xs : List X) → ((x : X) → Has xs x → ⊥) → xs ≡ []
none_there [] never = refl
none_there (x ∷ xs) never = absurd (never x (inl refl))

module _ (w : State) (s : IsSafeWorld w) (rest : IsAtRest w) (goes : (p : Partition) → p.0 < w.setup.partitions → GoesOn w.store.writes p)
    (online : (p : Partition) → p.0 < w.setup.partitions → AreOnline w.store.writes p)
    (kept : (p : Partition) → p.0 < w.setup.partitions → NoneDropped w p) (a : Asking) (now : IsAskedNow w a w.setup.partitions) where
  of_setup : (p : Partition) (route : Route) → route_at a p ≡ Some route → p.0 < w.setup.partitions
  of_setup p route there = let lt = slice_get_within a.routes p.0 route there in omega (arith, lt, now.partitions)

  assigned_so : (p : Partition) → assigned_at a p ≡ replicas_of p w.setup.table.replication w.setup.servers
  assigned_so p =
      ap (λ (n : ℕ). replicas_of p n a.servers) now.replication ∙ ap (replicas_of p w.setup.table.replication) now.servers

  -- each piece that was asked for is one that some assigned server serves
  given_whole : (p : Partition) (xs : List PieceAsked) (x : PieceAsked) → route_at a p ≡ Some (Planned xs) → Has xs x
      → IsGivenWhole w x.piece × (x.piece.partition ≡ p)
  given_whole p xs x there has =
      let within = of_setup p (Planned xs) there in
      let routed = now.routed p within in
      let same = same_planned routed.pieces xs (sym routed.routed ∙ there) in
      let listed = map-Has (λ (z : PieceAsked). z.piece) routed.pieces x (subst (λ (zs : List PieceAsked). Has zs x) (sym same) has) in
      let planned = subst (λ (zs : List Piece). Has zs x.piece) routed.plan listed in (
        pieces_given w s rest p within (goes p within) (online p within) (kept p within) x.piece planned,
        plan_partition p (metadata_of w.store.writes p) x.piece planned,
      )

  never_refused : (p : Partition) (q : Sequence) → IsRefused a p q → ⊥
  never_refused p q r = by_route (route_at a p) refl r.planned
    where
      by_route : (o : Option Route) → route_at a p ≡ o → Has (plan_in o) r.asked → ⊥
      by_route None e has = has
      by_route (Some Untried) e has = has
      by_route (Some Failed) e has = has
      by_route (Some (Planned xs)) e has =
          let whole = given_whole p xs r.asked e has in
          let g = whole.0 in
          let assigned : Has (assigned_at a p) g.instance =
          subst (λ (zs : List Instance). Has zs g.instance) (sym (assigned_so p))
          (subst (λ (o : Partition). IsAssignedTo w.setup o g.instance) whole.1 g.assigned) in
          let by = r.refused g.instance assigned in
          let given = now.given p xs r.asked by.0 e has by.1 in
          let node : given.node ≡ g.node =
          same_Some given.node g.node (sym given.there ∙ ap (λ (i : Instance). slice_get w.servers i.0) by.2 ∙ g.there) in
          refuses_not g.node r.asked.piece a.query g.serves.served by.0.got (rest g.instance.0 g.node g.there).up g.serves.gives
          (subst (λ (n : ServerNode). Gives n r.asked.piece a.query by.0.got) node given.gives) by.3

  never_missing : (p : Partition) (o : Option Sequence) → IsMissing a p o → ⊥
  never_missing p None failed =
      let routed = now.routed p (of_setup p Failed failed) in failed_not routed.pieces (sym routed.routed ∙ failed)
  never_missing p (Some q) r = never_refused p q r

  pub misses_nothing : (answer : Answer) → IsAnswerOf a answer → answer.missing ≡ []
  misses_nothing answer is = none_there answer.missing (λ x has. never_missing x.0 x.1 (is.causes x.0 x.1 has))
