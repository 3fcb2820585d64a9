-- A world in which `settle` goes on without writing: its servers are calm, no fault is planned, and what is to be consumed can be. So the
-- node of a segment is there whose replica asks.
use Rattle.std.proofs.Common.{◌≡◌, ◌<◌, true, false, List, [], Option, Some, None, refl, sym, ◌∙◌, ap, subst, slice_get}
use Rattle.std.specs.Map.{lookup}
use Rattle.std.proofs.lemmas.Bool.{true≢false}
use Rattle.rt_base.specs.declared.numbers.Instance.{Instance}
use Rattle.rt_base.specs.declared.numbers.Partition.{Partition}
use Rattle.rt_base.specs.declared.numbers.Sequence.{Sequence}
use Rattle.rt_consumer.specs.Consumer.{state_of}
use Rattle.rt_consumer.specs.declared.consumer.Consumer.{Consumer}
use Rattle.rt_entry.specs.Transition.{is_due, is_open}
use Rattle.rt_entry.specs.declared.entry.Entry.TheVariants.{Replica}
use Rattle.rt_lists.specs.Members.{Has}
use Rattle.rt_model.specs.Entries.{entries_of}
use Rattle.rt_model.specs.History.{value_of}
use Rattle.rt_model.specs.Metadata.{listed_write}
use Rattle.rt_model.specs.Setup.{IsSetup}
use Rattle.rt_model.specs.declared.ideal_state.IdealEntry.{IdealEntry}
use Rattle.rt_model.specs.declared.ideal_state.Mode.{Mode}
use Rattle.rt_model.specs.declared.ideal_state.Mode.TheVariants.{Consuming, Offline, Online}
use Rattle.rt_model.specs.declared.node.Key.TheVariants as key
use Rattle.rt_model.specs.declared.node.Seen.{Seen}
use Rattle.rt_model.specs.declared.setup.Setup.{Setup}
use Rattle.rt_model.proofs.Listings.{has_listings}
use Rattle.rt_nodes.specs.declared.server_node.ServerNode.{ServerNode}
use Rattle.rt_safety.specs.Runs.{Runs, Turn}
use Rattle.rt_server.specs.Table.{entry_of, is_segment, replica_of, target_of}
use Rattle.rt_server.proofs.Kept.{replica_found}
use Rattle.rt_server.proofs.Listed.{targets_tell}
use Rattle.rt_state.specs.declared.state.State.{State}
use Rattle.rt_store.specs.Contents.{starting_of}
use Rattle.rt_heal.specs.Calm.{IsCalm}
use Rattle.rt_heal.specs.GivenUp.{IsConsumable}
use Rattle.rt_heal.proofs.Asked.{mode_asked, IsAsked}
use Rattle.rt_heal.proofs.GivenUp.{consumable}
use Rattle.rt_heal.proofs.LessRounds.{IsSteady}
use Rattle.rt_calm.proofs.Delivered.{IsReadable}
use Rattle.rt_calm.proofs.Keeping.{KeepsOn}

-- the segment of each CONSUMING entry is listed, in progress or committed
abbrev pub AreConsumable : List Seen → Type 0
AreConsumable h = (e : IdealEntry) → Has (entries_of h) e → e.mode ≡ Consuming → IsConsumable h e.partition e.sequence

pub record IsSettling (w : State) : Type 0 where
  pub steady : IsSteady w
  pub fetches : w.deep.faults.plan ≡ []
  pub consumable : AreConsumable w.store.writes

pub still_settling : (w v : State) → KeepsOn w v → v.store.writes ≡ w.store.writes → IsSettling w → IsSettling v
still_settling w v k same s =
    record { steady = k.steady same s.steady; fetches = k.fetches s.fetches; consumable = subst AreConsumable (sym same) s.consumable }

pub settling_in_run : (setup : Setup) (turns : List Turn) (w : State) → IsSetup setup → Runs setup turns w → IsSteady w → w.deep.faults.plan ≡ [] → IsSettling w
settling_in_run setup turns w is run steady fetches = record { steady = steady; fetches = fetches; consumable = λ e has mode. consumable setup turns w e is run has mode }

-- a replica that isn't told of a commit yet has a target, where no transition is due of it, and is to consume
pub open_consumes : (o : Option Mode) (r : Consumer) → is_open (state_of r.phase) ≡ true → is_due o (Some (Replica r)) ≡ false → o ≡ Some Consuming
open_consumes None r opened none = absurd (true≢false none)
open_consumes (Some Consuming) r opened none = refl
open_consumes (Some Online) r opened none = absurd (true≢false (sym opened ∙ none))
open_consumes (Some Offline) r opened none = absurd (true≢false none)

module _ (w : State) (s : IsSettling w) (i : Instance) (n : ServerNode) (p : Partition) (q : Sequence) (r : Consumer) (there : slice_get w.servers i.0 ≡ Some n)
    (found : replica_of n.server.table p q ≡ Some r) (opened : is_open (state_of r.phase) ≡ true) (within : p.0 < w.setup.partitions) where
  abbrev h : List Seen
  h = w.store.writes

  calm : IsCalm h n
  calm = s.steady.calm i.0 n there

  asked : IsAsked (entries_of h) p q n.server.numbers.instance Consuming
  asked =
      let target = open_consumes (target_of n.server.table p q) r opened
      (ap (is_due (target_of n.server.table p q)) (sym (replica_found (entry_of n.server.table p q) r found)) ∙ calm.moved p q) in
      mode_asked (entries_of h) p q n.server.numbers.instance Consuming
      (sym (targets_tell n.server.numbers.instance (entries_of h) p q) ∙ ap (lookup (is_segment p q)) (sym calm.seen) ∙ target)

  -- the segment's node is there
  pub settling_reads : IsReadable w.store w.deep p q
  settling_reads =
      let own = s.consumable asked.entry asked.there asked.mode in
      let listed : IsConsumable h p q =
      subst (λ (x : Sequence). IsConsumable h p x) asked.sequence (subst (λ (x : Partition). IsConsumable h x asked.entry.sequence) asked.partition own) in
      record {
        unplanned = s.steady.unplanned;
        fetches = s.fetches;
        write = listed_write p listed.listed;
        there =
            subst (λ (x : Sequence). value_of h (key.Meta p x) ≡ Some (listed_write p listed.listed)) listed.is
            ((has_listings (starting_of w.setup) h s.steady.safe.safe.past.lawful p within).values listed.listed listed.has);
        meta = listed.listed.seen.meta;
        is = refl;
      }
