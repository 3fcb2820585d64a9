-- What the answer to a call tells of the step that a server took.
use Rattle.std.proofs.Common.{◌≡◌, ◌+◌, ℕ, List, [], ◌∷◌, length, Option, Some, None, Result, Ok, Err, refl, sym, ap, subst, ◌∙◌, arith}
use Rattle.std.proofs.lemmas.List.{length-append}
use Rattle.rt_base.specs.declared.numbers.Instance.{Instance}
use Rattle.rt_base.specs.declared.numbers.Moment.{Moment}
use Rattle.rt_base.specs.declared.numbers.Partition.{Partition}
use Rattle.rt_base.specs.declared.numbers.Sequence.{Sequence}
use Rattle.rt_lists.specs.Members.{Has}
use Rattle.rt_model.specs.declared.ideal_state.Mode.{Mode}
use Rattle.rt_model.specs.declared.node.Key.{Key}
use Rattle.rt_model.specs.declared.node.Key.TheVariants as key
use Rattle.rt_model.specs.declared.node.Node.{Node}
use Rattle.rt_model.specs.declared.node.Node.TheVariants as node
use Rattle.rt_model.specs.declared.node.Seen.{Seen}
use Rattle.rt_model.specs.declared.replica_state.ReplicaState.{ReplicaState}
use Rattle.rt_model.specs.declared.seg_meta.SeenMeta.{SeenMeta}
use Rattle.rt_model.specs.Entries.{entries_by}
use Rattle.rt_model.specs.History.{next_version, writes_of}
use Rattle.rt_model.specs.Lawful.{bump, written_by}
use Rattle.rt_model.specs.Metadata.{listed_write}
use Rattle.rt_model.proofs.Histories.{writes_of-more}
use Rattle.rt_store.specs.declared.refused.StoreRefused.{StoreRefused}
use Rattle.rt_store.specs.declared.refused.StoreRefused.TheVariants as store
use Rattle.rt_store.specs.Calls.{Bumps, Reads}
use Rattle.rt_store.specs.Meaning.{Meaning}
use Rattle.rt_store.proofs.Seeing.{read_seen}
use Rattle.rt_store.proofs.Told.{answered_took}
use Rattle.rt_past.specs.Segments.{WasMeta}
use Rattle.rt_entry.specs.declared.refused.ServerRefused.{ServerRefused}
use Rattle.rt_entry.specs.declared.refused.ServerRefused.TheVariants.{NotDue, StoreFault, BadFile, Memory}
use Rattle.rt_entry.specs.Calls.{Comes, Step}
use Rattle.rt_entry.specs.Transition.{metadata_by, metadata_in}
use Rattle.rt_server.specs.Calls.{answered_by, in_incarnation, restarted_in, seen_in, stepped_by, targets_of, with_targets}
use Rattle.rt_server.specs.Table.{ServerState, with_table}
use Rattle.rt_server.specs.Transition.{moved_if, transition}

-- what a call keeps that comes to a step
pub comes_keep : {X : Type 0} (P : ServerState → Type 0) (s new : ServerState) (step : Step ServerState X) (result : Result X ServerRefused) → P s
    → ((x : X) → step ≡ Ok (x, new) → P new) → Comes step s new result → P new
comes_keep P s new step (Ok x) k goes h = goes x h
comes_keep P s new step (Err NotDue) k goes h = subst P (sym h.1) k
comes_keep P s new step (Err StoreFault) k goes h = subst P (sym h.1) k
comes_keep P s new step (Err (BadFile wanted found)) k goes h = subst P (sym h.1) k
comes_keep P s new step (Err Memory) k goes h = subst P (sym h.1) k

-- ---- what a store answered

abbrev told : (X : Type 0) → X → Result X StoreRefused
told X x = Ok x

abbrev pub come : (X : Type 0) → X → Result X ServerRefused
come X x = Ok x

abbrev refuse : (X : Type 0) → ServerRefused → Result X ServerRefused
refuse X e = Err e

same_come : (X : Type 0) (a b : X) → come X a ≡ come X b → a ≡ b
same_come X a b e = cc

no_come : (X : Type 0) (e : ServerRefused) (x : X) → refuse X e ≡ come X x → ⊥
no_come X e x h = cc

pub answered_ok : (X : Type 0) (answer : Result X StoreRefused) (x : X) → answered_by answer ≡ come X x → answer ≡ told X x
answered_ok X (Ok y) x e = ap (told X) (same_come X y x e)
answered_ok X (Err store.NoNode) x e = absurd (no_come X StoreFault x e)
answered_ok X (Err (store.Exists found)) x e = absurd (no_come X StoreFault x e)
answered_ok X (Err (store.VersionChanged expected found)) x e = absurd (no_come X StoreFault x e)
answered_ok X (Err store.Failed) x e = absurd (no_come X StoreFault x e)
answered_ok X (Err store.Memory) x e = absurd (no_come X Memory x e)

abbrev stated : {X : Type 0} → X × ServerState → ServerState
stated x = x.1

-- the ideal state was seen
pub saw : (s new : ServerState) (m : Result Seen ServerRefused) (version : ℕ) → seen_in s m ≡ come (ℕ × ServerState) (version, new)
    → (seen : Seen) × (m ≡ come Seen seen) × (new ≡ with_targets s (targets_of s.numbers.instance (entries_by seen.node)))
saw s new (Ok seen) version e = (seen, refl, sym (ap stated (same_come (ℕ × ServerState) _ (version, new) e)))
saw s new (Err x) version e = absurd (no_come (ℕ × ServerState) x (version, new) e)

-- the server begins a later incarnation
pub came : (s new : ServerState) (m : Result ℕ ServerRefused) (version : ℕ) → restarted_in s m ≡ come (ℕ × ServerState) (version, new)
    → (v : ℕ) × (m ≡ come ℕ v) × (v ≡ version) × (new ≡ in_incarnation s v)
came s new (Ok v) version e =
    let same = same_come (ℕ × ServerState) _ (version, new) e in
    (v, refl, ap (λ (x : ℕ × ServerState). x.0) same, sym (ap stated same))
came s new (Err x) version e = absurd (no_come (ℕ × ServerState) x (version, new) e)

-- the version of a boot node that was bumped is its last one
pub bumped : (before after : Meaning) (i : Instance) (version : ℕ) → Bumps before after i (told ℕ version) → next_version after.seen (key.Boot i) ≡ version + 1
bumped before after i version c =
    let took = answered_took (λ w. w.version) before after (bump i) version c in
    let w = written_by c.base (bump i) in
    ap (λ (h : List Seen). next_version h (key.Boot i)) took.1
    ∙ ap (λ (ws : List Seen). length ws) (writes_of-more c.base w (key.Boot i) refl)
    ∙ omega (arith, length-append (writes_of c.base (key.Boot i)) (w ∷ []), took.2)

-- ---- a transition

-- what was read of a segment was written
abbrev pub WasRead : List Seen → Partition → Sequence → Option SeenMeta → Type 0
WasRead h p q None = Unit {0}
WasRead h p q (Some seen) = WasMeta h p q seen

abbrev write_at : Key → ℕ → Node → Seen
write_at k version n = record { key = k; version = version; node = n }

by_node : (h : List Seen) (p : Partition) (q : Sequence) (w : Seen) (n : Node) → w.node ≡ n → w.key ≡ key.Meta p q → Has h w → WasRead h p q (metadata_by w.version n)
by_node h p q w (node.Meta meta) is of has =
    let same : w ≡ listed_write p (record { sequence = q; seen = record { version = w.version; meta = meta } }) =
    ap (λ k. write_at k w.version w.node) of ∙ ap (write_at (key.Meta p q) w.version) is in
    subst (λ (x : Seen). Has h x) same has
by_node h p q w (node.Ideal i) is of has = tt
by_node h p q w node.Boot is of has = tt
by_node h p q w node.Gone is of has = tt

pub was_read : (before after : Meaning) (p : Partition) (q : Sequence) (answer : Result Seen StoreRefused) (seen : Option SeenMeta)
    → Reads before after (key.Meta p q) answer → metadata_in answer ≡ come (Option SeenMeta) seen → WasRead after.seen p q seen
was_read before after p q (Ok w) seen reads e =
    let there = read_seen before after (key.Meta p q) w reads in
    subst (WasRead after.seen p q) (same_come (Option SeenMeta) (metadata_by w.version w.node) seen e) (by_node after.seen p q w w.node refl there.1 there.0)
was_read before after p q (Err store.NoNode) seen reads e = subst (WasRead after.seen p q) (same_come (Option SeenMeta) None seen e) tt
was_read before after p q (Err (store.Exists found)) seen reads e = subst (WasRead after.seen p q) (same_come (Option SeenMeta) None seen e) tt
was_read before after p q (Err (store.VersionChanged expected found)) seen reads e = subst (WasRead after.seen p q) (same_come (Option SeenMeta) None seen e) tt
was_read before after p q (Err store.Failed) seen reads e = absurd (no_come (Option SeenMeta) StoreFault seen e)
was_read before after p q (Err store.Memory) seen reads e = absurd (no_come (Option SeenMeta) Memory seen e)

pub stepped : (s new : ServerState) (p : Partition) (q : Sequence) (now : Moment) (mode : Mode) (m : Result (Option SeenMeta) ServerRefused) (x : ReplicaState)
    → stepped_by s (moved_if s.setup s.table p q now mode m) ≡ come (ReplicaState × ServerState) (x, new)
    → (seen : Option SeenMeta) × (m ≡ come (Option SeenMeta) seen) × (new ≡ with_table s (transition s.setup s.table p q now mode seen).1)
stepped s new p q now mode (Ok seen) x e = (seen, refl, sym (ap stated (same_come (ReplicaState × ServerState) _ (x, new) e)))
stepped s new p q now mode (Err r) x e = absurd (no_come (ReplicaState × ServerState) r (x, new) e)
