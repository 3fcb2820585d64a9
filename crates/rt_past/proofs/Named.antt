-- Under which name an upload's segment was created.
use Rattle.std.proofs.Common.{◌≡◌, ℕ, List, refl, sym, ap, subst, ◌∙◌}
use Rattle.rt_base.specs.declared.numbers.Partition.{Partition}
use Rattle.rt_base.specs.declared.numbers.Sequence.{Sequence}
use Rattle.rt_lists.specs.Members.{Has}
use Rattle.rt_model.specs.declared.node.Key.{Key}
use Rattle.rt_model.specs.declared.node.Node.{Node}
use Rattle.rt_model.specs.declared.node.Node.TheVariants as node
use Rattle.rt_model.specs.declared.request.Request.{Request}
use Rattle.rt_model.specs.declared.request.RequestKind.TheVariants as kind
use Rattle.rt_model.specs.declared.request.RequestNumber.{RequestNumber}
use Rattle.rt_model.specs.declared.seg_meta.SegMeta.{SegMeta}
use Rattle.rt_model.specs.declared.sent.Sent.TheVariants as sent
use Rattle.rt_model.specs.declared.setup.Setup.{Setup}
use Rattle.rt_model.specs.declared.status.Status.{Status}
use Rattle.rt_model.specs.declared.status.Status.TheVariants.{InProgress, Done, Abandoned}
use Rattle.rt_model.specs.Metadata.{IsInProgress, node_key}
use Rattle.rt_msgs.specs.Numbered.{upload_path}
use Rattle.rt_past.specs.Past.{Past}
use Rattle.rt_past.specs.IsPast.{IsPast}
use Rattle.rt_past.specs.Requests.{IsUploadPath, IsNamedByCreation}
use Rattle.rt_past.specs.Segments.{OpensAs, name_at}
use Rattle.rt_past.specs.Writes.{IsRightNode, IsRightStatus}
use Rattle.rt_past.proofs.Uploads.{kind_is}

module _ (setup : Setup) (a : Past) (p : Partition) (s : Sequence) where
  named_by : (m : SegMeta) (t : Status) → IsInProgress t → IsRightStatus setup a p s m t → m.name ≡ name_at setup p s m.written
  named_by m InProgress begins right = right
  named_by m (Done commit) begins right = absurd begins
  named_by m Abandoned begins right = absurd begins

  -- a node that was created has the name of that moment
  created_as : (name : List ℕ) (n : Node) → OpensAs name n → IsRightNode setup a (node_key p s.0) n
      → (m : SegMeta) × (n ≡ node.Meta m) × IsInProgress m.status × (name ≡ name_at setup p s m.written)
  created_as name (node.Meta m) opens right = (m, refl, opens.0, sym opens.1 ∙ named_by m m.status opens.0 right)
  created_as name (node.Ideal i) opens right = absurd opens
  created_as name node.Boot opens right = absurd opens
  created_as name node.Gone opens right = absurd opens

  path_named : (number : RequestNumber) (path : List ℕ) → IsPast setup a → IsUploadPath a.history p s number path
      → IsNamedByCreation setup a.history p s number path
  path_named number path k u =
      let (w, has, of, opens) = u.begun in
      let right : IsRightNode setup a (node_key p s.0) w.node = subst (λ (key : Key). IsRightNode setup a key w.node) of (k.writes w has) in
      let c = created_as u.name w.node opens right in
      record {
        meta = c.0;
        created = (w, has, of, c.1);
        begins = c.2;
        spelled = u.spelled ∙ ap (λ (name : List ℕ). upload_path name number) c.3;
      }

pub upload_named : (setup : Setup) (a : Past) (q : Request) (path bytes : List ℕ) → IsPast setup a → Has a.sent (sent.Request q)
    → q.kind ≡ kind.Upload path bytes → IsNamedByCreation setup a.history q.partition q.sequence q.number path
upload_named setup a q path bytes k has e =
    let right = k.requests q has in
    path_named setup a q.partition q.sequence q.number path k (kind_is setup a q right.start (kind.Upload path bytes) e right.kind).0
