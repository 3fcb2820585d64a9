-- What lasts of a server stays true as the past grows.
use Rattle.std.proofs.Common.{◌≡◌, ◌≤◌, inl, inr, ℕ, List, ◌++◌, length, Option, Some, None, IfSome, sym, ap, ◌∙◌, arith}
use Rattle.std.proofs.lemmas.List.{length-append}
use Rattle.rt_base.specs.declared.numbers.Instance.{Instance}
use Rattle.rt_base.specs.declared.numbers.Offset.{Offset}
use Rattle.rt_base.specs.declared.numbers.Partition.{Partition}
use Rattle.rt_base.specs.declared.numbers.Sequence.{Sequence}
use Rattle.rt_lists.specs.Members.{IsFront}
use Rattle.rt_lists.proofs.Members.{Has-front}
use Rattle.rt_schema.specs.declared.schema.Schema.{Schema}
use Rattle.rt_segment.specs.Segment.{SealedSegment}
use Rattle.rt_stream.specs.Log.{Log, messages_of}
use Rattle.rt_stream.specs.Feed.{Grows as GrowsLog}
use Rattle.rt_model.specs.declared.ideal_state.Mode.{Mode}
use Rattle.rt_model.specs.declared.node.Seen.{Seen}
use Rattle.rt_model.specs.declared.seg_meta.SeenMeta.{SeenMeta}
use Rattle.rt_model.specs.declared.setup.Setup.{Setup}
use Rattle.rt_past.specs.Past.{Past, Grows}
use Rattle.rt_past.proofs.Growth.{done_grows, entry_grows, incarnation_grows, length_grows, rows_grow}
use Rattle.rt_replica.specs.Held.{HoldsFile}
use Rattle.rt_replica.proofs.Lasts.{replica_grows}
use Rattle.rt_entry.specs.declared.entry.CommittedSegment.{CommittedSegment}
use Rattle.rt_entry.specs.declared.entry.Entry.{Entry}
use Rattle.rt_entry.specs.declared.entry.Entry.TheVariants.{Replica, Committed}
use Rattle.rt_server.specs.Lasting.{AreTargets, IsCommittedOver, IsEntryOver, IsLoaded, IsServerOver}
use Rattle.rt_server.specs.Table.{Segment, ServerState}

length_front : {X : Type 0} (xs ys : List X) → IsFront xs ys → length xs ≤ length ys
length_front {X} xs ys g =
    let size : length ys ≡ length (xs ++ g.0) = ap (λ (zs : List X). length zs) g.1 in
    omega (arith, size, length-append xs g.0)

pub file_grows : (schema : Schema) (a b : Log) (p : Partition) (start : Offset) (file : SealedSegment) → GrowsLog a b
    → HoldsFile schema (messages_of a p) start file → HoldsFile schema (messages_of b p) start file
file_grows schema a b p start file g h =
    record {
      ordered = h.ordered;
      within = omega (arith, h.within, length_grows a b p g);
      rows = h.rows ∙ sym (rows_grow schema a b p start.0 file.range.end.0 g h.ordered h.within);
    }

pub targets_grow : (h k : List Seen) (i : Instance) (targets : List (Segment × Mode)) → IsFront h k → AreTargets h i targets → AreTargets k i targets
targets_grow h k i targets g (inl none) = inl none
targets_grow h k i targets g (inr (w, is, e)) = inr (w, record { has = Has-front h k w g is.has; is_ideal = is.is_ideal }, e)

-- what holds of each holds where something else follows from it
pub if_each : {X : Type 0} (P Q : X → Type 0) (o : Option X) → ((x : X) → P x → Q x) → IfSome o P → IfSome o Q
if_each P Q None f h = tt
if_each P Q (Some x) f h = f x h

pub loaded_grows : (setup : Setup) (a b : Past) → GrowsLog a.log b.log → (p : Partition) (q : Sequence) (done : SeenMeta) (file : SealedSegment)
    → IsLoaded setup a p q done file → IsLoaded setup b p q done file
loaded_grows setup a b g p q done file l =
    record { kept = l.kept; named = l.named; format = l.format; indexed = l.indexed; held = file_grows setup.schema a.log b.log p done.meta.start file g l.held }

module _ (setup : Setup) (a b : Past) (g : Grows a b) where
  committed_grows : (i : Instance) (p : Partition) (q : Sequence) (c : CommittedSegment) → IsCommittedOver setup a i p q c → IsCommittedOver setup b i p q c
  committed_grows i p q c k =
      record {
        partition = k.partition;
        assigned = k.assigned;
        entered = entry_grows a.history b.history p q g.history k.entered;
        done = done_grows a.history b.history p q c.done g.history k.done;
        loaded = if_each (IsLoaded setup a p q c.done) (IsLoaded setup b p q c.done) c.file (loaded_grows setup a b g.log p q c.done) k.loaded;
      }

  pub entry_over_grows : (i : Instance) (incarnation : ℕ) (s : Segment) (e : Entry) → IsEntryOver setup a i incarnation s e → IsEntryOver setup b i incarnation s e
  entry_over_grows i incarnation s (Replica r) k = (k.0, replica_grows setup a b i incarnation r g k.1)
  entry_over_grows i incarnation s (Committed c) k = committed_grows i s.0 s.1 c k

pub server_grows : (setup : Setup) (a b : Past) (s : ServerState) → Grows a b → IsServerOver setup a s → IsServerOver setup b s
server_grows setup a b s g k =
    record {
      of_setup = k.of_setup;
      kept = k.kept;
      exists = k.exists;
      incarnation = incarnation_grows a.history b.history s.numbers.instance s.numbers.incarnation g.history k.incarnation;
      counted = omega (arith, k.counted, length_front a.sent b.sent g.sent);
      targets = targets_grow a.history b.history s.numbers.instance s.table.targets g.history k.targets;
      entries = λ x has. entry_over_grows setup a b g s.numbers.instance s.numbers.incarnation x.0 x.1 (k.entries x has);
    }
