-- A wanted file is loaded into a table.
use Rattle.std.proofs.Common.{◌≡◌, ℕ, Option, Some, None, Result, Err, refl, sym, ap, subst, ◌∙◌}
use Rattle.rt_base.specs.declared.numbers.Partition.{Partition}
use Rattle.rt_base.specs.declared.numbers.Sequence.{Sequence}
use Rattle.rt_schema.specs.declared.schema.Schema.{Schema}
use Rattle.rt_model.specs.declared.setup.Setup.{Setup}
use Rattle.rt_deep.specs.Meaning.{Meaning}
use Rattle.rt_entry.specs.declared.entry.CommittedSegment.{CommittedSegment}
use Rattle.rt_entry.specs.declared.entry.Entry.{Entry}
use Rattle.rt_entry.specs.declared.entry.Entry.TheVariants.{Replica, Committed}
use Rattle.rt_entry.specs.declared.refused.ServerRefused.{ServerRefused}
use Rattle.rt_entry.specs.declared.refused.ServerRefused.TheVariants.{NotDue}
use Rattle.rt_server.specs.Download.{Downloads, DownloadsAt, committed_at}
use Rattle.rt_entry.specs.Loading.{EntryLoads}
use Rattle.rt_entry.specs.Entry.{IsEntry, wanted_by}
use Rattle.rt_server.specs.Kept.{IsServer}
use Rattle.rt_server.specs.Table.{Segments, entry_of, put_back}
use Rattle.rt_server.proofs.Kept.{found_is, put_back_is}
use Rattle.rt_server.proofs.Through.{put_same}
use Rattle.rt_entry.proofs.Loading.{loads_fit}

abbrev refuse : (X : Type 0) → ServerRefused → Result X ServerRefused
refuse X e = Err e

pub downloads : (before after : Meaning) (schema : Schema) (old new : Segments) (p : Partition) (q : Sequence) (x y : Entry) (result : Result ℕ ServerRefused)
    → entry_of old p q ≡ Some x → EntryLoads before after schema p q x y result → new ≡ put_back old p q y
    → Downloads before after schema old new p q result
downloads before after schema old new p q (Committed c) y result found h put =
    subst (λ o. DownloadsAt o before after schema old new p q result) (sym (ap committed_at found)) (h.0, h.1, put ∙ ap (put_back old p q) h.2)
downloads before after schema old new p q (Replica r) y result found h put =
    subst (λ o. DownloadsAt o before after schema old new p q result) (sym (ap committed_at found))
    (h.0, h.1, put ∙ ap (put_back old p q) h.2 ∙ put_same old p q (Replica r) found)

pub downloads_none : (m : Meaning) (schema : Schema) (old : Segments) (p : Partition) (q : Sequence) → entry_of old p q ≡ None
    → Downloads m m schema old old p q (refuse ℕ NotDue)
downloads_none m schema old p q found =
    subst (λ o. DownloadsAt o m m schema old old p q (refuse ℕ NotDue)) (sym (ap committed_at found)) (refl, refl, refl)

-- ---- what is loaded has the schema's columns

pub committed_found : (o : Option Entry) (c : CommittedSegment) → committed_at o ≡ Some c → o ≡ Some (Committed c)
committed_found None c e = absurd (cc)
committed_found (Some (Replica r)) c e = absurd (cc)
committed_found (Some (Committed d)) c e = cc

downloaded_at : (setup : Setup) (before after : Meaning) (old new : Segments) (p : Partition) (q : Sequence) (result : Result ℕ ServerRefused) (o : Option CommittedSegment)
    → committed_at (entry_of old p q) ≡ o → DownloadsAt o before after setup.schema old new p q result → IsServer setup old → IsServer setup new
downloaded_at setup before after old new p q result None found h s = subst (IsServer setup) (sym h.2) s
downloaded_at setup before after old new p q result (Some c) found h s =
    let is : IsEntry setup (Committed c) = found_is setup old p q (Committed c) s (committed_found (entry_of old p q) c found) in
    subst (IsServer setup) (sym h.2)
    (put_back_is setup old p q (Committed h.0) s
    (loads_fit before after setup.schema p q c h.0 result (wanted_by c.file c.done.meta.status) h.1 is) tt)

pub downloaded_is : (setup : Setup) (before after : Meaning) (old new : Segments) (p : Partition) (q : Sequence) (result : Result ℕ ServerRefused)
    → Downloads before after setup.schema old new p q result → IsServer setup old → IsServer setup new
downloaded_is setup before after old new p q result h s =
    downloaded_at setup before after old new p q result (committed_at (entry_of old p q)) refl h s
