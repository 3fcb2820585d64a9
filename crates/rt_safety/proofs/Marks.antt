-- Without a retention the mark of each partition is 0.
use Rattle.std.proofs.Common.{◌≡◌, ℕ, ◌+◌, ◌<◌, inl, inr, Bool, true, false, cond, List, [], ◌∷◌, None, refl, ◌∙◌, ap, ◌&&◌}
use Rattle.std.proofs.lemmas.List.Sums.{sum_by-cons}
use Rattle.rt_base.specs.declared.numbers.Partition.{Partition}
use Rattle.rt_lists.specs.Members.{Has}
use Rattle.rt_model.proofs.Lawful.{nodes_are_in_order}
use Rattle.rt_model.specs.Chain.{deletions_of, is_gone, is_node_of, start_in}
use Rattle.rt_model.specs.Metadata.{life_of}
use Rattle.rt_model.specs.Setup.{IsSetup}
use Rattle.rt_model.specs.Tiled.{mark_of}
use Rattle.rt_model.specs.declared.node.Node.{Node}
use Rattle.rt_model.specs.declared.node.Node.TheVariants as node
use Rattle.rt_model.specs.declared.node.Seen.{Seen}
use Rattle.rt_model.specs.declared.setup.Setup.{Setup}
use Rattle.rt_store.specs.Contents.{starting_of}
use Rattle.rt_state.specs.Start.{start}
use Rattle.rt_state.specs.declared.state.State.{State}
use Rattle.rt_safety.specs.Runs.{Turn, Runs}
use Rattle.rt_safety.specs.Unretired.{IsUnretired}
use Rattle.rt_safety.proofs.Later.{runs_are_safe}
use Rattle.rt_safety.proofs.Unretired.{NoneGone, leads_stay, start_unretired}

stays_there : (n : Node) → (n ≡ node.Gone → ⊥) → is_gone n ≡ false
stays_there (node.Meta m) k = refl
stays_there (node.Ideal i) k = refl
stays_there node.Boot k = refl
stays_there node.Gone k = absurd (k refl)

abbrev once : Bool → ℕ
once b = cond b 1 0

counts_none : (b g : Bool) → g ≡ false → once (b && g) ≡ 0
counts_none true g e = ap once e
counts_none false g e = refl

pub no_deletions : (h : List Seen) (p : Partition) → NoneGone h → deletions_of h p ≡ 0
no_deletions [] p k = refl
no_deletions (w ∷ h) p k =
    let here = counts_none (is_node_of p w.key) (is_gone w.node) (stays_there w.node (k w (inl refl))) in
    let later = no_deletions h p (λ v has. k v (inr has)) in
    sum_by-cons (λ (v : Seen). once (is_node_of p v.key && is_gone v.node)) w h ∙ ap (λ (n : ℕ). once (is_node_of p w.key && is_gone w.node) + n) later ∙ ap (λ (n : ℕ). n + 0) here

pub runs_retire_none : (setup : Setup) (turns : List Turn) (w : State) → setup.retention ≡ None → Runs setup turns w → IsUnretired w
runs_retire_none setup turns w none r = leads_stay (start setup) turns w (start_unretired setup none) r

pub mark_stays : (setup : Setup) (turns : List Turn) (w : State) (p : Partition) → IsSetup setup → setup.retention ≡ None → Runs setup turns w
    → p.0 < w.setup.partitions → mark_of w.store.writes p ≡ 0
mark_stays setup turns w p is none r within =
    let s = runs_are_safe setup turns w is r in
    let order = nodes_are_in_order (starting_of w.setup) w.store.writes s.safe.past.lawful p within in
    ap (λ n. start_in (life_of w.store.writes p n)) (no_deletions w.store.writes p (runs_retire_none setup turns w none r).all) ∙ order.zero_start

pub none_deleted : (setup : Setup) (turns : List Turn) (w : State) (v : Seen) → setup.retention ≡ None → Runs setup turns w → Has w.store.writes v → v.node ≡ node.Gone
    → ⊥
none_deleted setup turns w v none r has gone = (runs_retire_none setup turns w none r).all v has gone
