-- The starting contents, one write after another.
use Rattle.std.proofs.Common.{◌≡◌, ℕ, zero, suc, ◌+◌, ◌<◌, List, [], ◌∷◌, ◌++◌, length, refl, sym, ◌∙◌, ap, arith, append_assoc, add-one}
use Rattle.rt_model.specs.declared.node.Key.{Key}
use Rattle.rt_model.specs.declared.node.Key.TheVariants as key
use Rattle.rt_model.specs.declared.node.Node.{Node}
use Rattle.rt_model.specs.declared.node.Node.TheVariants as node
use Rattle.rt_model.specs.declared.node.Seen.{Seen}
use Rattle.rt_model.specs.Ideal.{with_consuming}
use Rattle.rt_model.specs.History.{writes_of}
use Rattle.rt_model.specs.Lawful.{write_of}
use Rattle.rt_model.specs.Starting.{Starting, starting_boot, starting_meta, starting_ideal, starting_boots, starting_metas, starting_entries, starting_contents}
use Rattle.rt_model.specs.declared.setup.Setup.{Setup}
use Rattle.rt_model.specs.declared.ideal_state.IdealEntry.{IdealEntry}
use Rattle.rt_model.specs.declared.ideal_state.IdealState.{IdealState}
use Rattle.rt_store.specs.Meaning.{Told}
use Rattle.rt_store.specs.Memory.{with_write}
use Rattle.rt_store.specs.Contents.{starting_of, fresh}
use Rattle.rt_model.proofs.Histories.{writes_of-other, writes_of-append}

abbrev boot_key : ℕ → Key
boot_key i = key.Boot (record { 0 = i })

abbrev first_key : ℕ → Key
first_key p = key.Meta (record { 0 = p }) (record { 0 = 0 })

abbrev instance_in : Key → ℕ
instance_in (key.Boot i) = i.0
instance_in key.Ideal = 0
instance_in (key.Meta p s) = 0

abbrev partition_in : Key → ℕ
partition_in (key.Meta p s) = p.0
partition_in key.Ideal = 0
partition_in (key.Boot i) = 0

no_boot : (n : ℕ) (k : Key) → ((i : ℕ) → i < n → boot_key i ≡ k → ⊥) → writes_of (starting_boots n) k ≡ []
no_boot zero k ne = refl
no_boot (suc n) k ne = writes_of-other (starting_boots n) (starting_boot n) k (ne n (omega arith)) ∙ no_boot n k (λ i lt. ne i (omega arith))

no_meta : (s : Starting) (n : ℕ) (k : Key) → ((p : ℕ) → p < n → first_key p ≡ k → ⊥) → writes_of (starting_metas s n) k ≡ []
no_meta s zero k ne = refl
no_meta s (suc n) k ne = writes_of-other (starting_metas s n) (starting_meta s n) k (ne n (omega arith)) ∙ no_meta s n k (λ p lt. ne p (omega arith))

in_neither : (g h : List Seen) (k : Key) → writes_of g k ≡ [] → writes_of h k ≡ [] → writes_of (g ++ h) k ≡ []
in_neither g h k e f = writes_of-append g h k ∙ ap (λ (ws : List Seen). ws ++ writes_of h k) e ∙ f

-- a write from its parts
made : Key → ℕ → Node → Seen
made k version n = record { key = k; version = version; node = n }

-- a key that was never written gets version 0
first_version : (h : List Seen) (w : Seen) → w.version ≡ 0 → writes_of h w.key ≡ [] → write_of h w.key w.node ≡ w
unfolding made
first_version h w version none = ap (λ v. made w.key v w.node) (ap length none ∙ sym version)

pub boots_more : (n : ℕ) → starting_boots n ++ write_of (starting_boots n) (boot_key n) node.Boot ∷ [] ≡ starting_boots (n + 1)
boots_more n =
    let none : writes_of (starting_boots n) (boot_key n) ≡ [] = no_boot n (boot_key n) (λ i lt same. absurd (omega (arith, ap instance_in same))) in
    rw add-one (ap (λ (w : Seen). starting_boots n ++ w ∷ []) (first_version (starting_boots n) (starting_boot n) refl none))

pub metas_more : (s : Starting) (m n : ℕ)
    → (starting_boots m ++ starting_metas s n) ++ write_of (starting_boots m ++ starting_metas s n) (first_key n) (starting_meta s n).node ∷ []
    ≡ starting_boots m ++ starting_metas s (n + 1)
metas_more s m n =
    let none : writes_of (starting_boots m ++ starting_metas s n) (first_key n) ≡ [] =
    in_neither (starting_boots m) (starting_metas s n) (first_key n)
    (no_boot m (first_key n) (λ i lt same. cc))
    (no_meta s n (first_key n) (λ p lt same. absurd (omega (arith, ap partition_in same)))) in
    let first = first_version (starting_boots m ++ starting_metas s n) (starting_meta s n) refl none in
    rw add-one (ap (λ (w : Seen). (starting_boots m ++ starting_metas s n) ++ w ∷ []) first ∙ append_assoc (starting_boots m) (starting_metas s n) (starting_meta s n ∷ []))

pub entries_more : (s : Starting) (n : ℕ)
    → with_consuming (starting_entries s n) (record { 0 = n }) (record { 0 = 0 }) (s.instances (record { 0 = n })) ≡ starting_entries s (n + 1)
entries_more s n = rw add-one refl

pub ideal_last : (s : Starting)
    → (starting_boots s.servers ++ starting_metas s s.partitions) ++ write_of (starting_boots s.servers ++ starting_metas s s.partitions) key.Ideal (starting_ideal s).node ∷ []
    ≡ starting_contents s
ideal_last s =
    let h = starting_boots s.servers ++ starting_metas s s.partitions in
    let none : writes_of h key.Ideal ≡ [] =
    in_neither (starting_boots s.servers) (starting_metas s s.partitions) key.Ideal
    (no_boot s.servers key.Ideal (λ i lt same. cc))
    (no_meta s s.partitions key.Ideal (λ p lt same. cc)) in
    let first = first_version h (starting_ideal s) refl none in
    ap (λ (w : Seen). h ++ w ∷ []) first

told : List Seen → Told
told ws = record { writes = ws; faults = record { plan = []; met = 0 } }

-- the steps of a fresh store, one after another
pub fresh_done :
    (setup : Setup) (empty boots metas done : Told) (state : IdealState)
    → empty ≡ record { writes = []; faults = record { plan = []; met = 0 } }
    → boots ≡ record empty { writes = starting_boots setup.servers }
    → metas ≡ record boots { writes = starting_boots setup.servers ++ starting_metas (starting_of setup) setup.partitions }
    → state.entries ≡ starting_entries (starting_of setup) setup.partitions
    → done ≡ with_write metas key.Ideal (node.Ideal state)
    → done ≡ fresh setup
unfolding told
fresh_done setup empty boots metas done state is_empty is_boots is_metas is_state is_done =
    let s = starting_of setup in
    let before : List Seen = starting_boots setup.servers ++ starting_metas s setup.partitions in
    let all_but_ideal : metas ≡ told before = is_metas ∙ ap (λ (t : Told). record t { writes = before }) (is_boots ∙ ap (λ (t : Told). record t { writes = starting_boots setup.servers }) is_empty) in
    let with_state : List IdealEntry → Told = λ es. with_write (told before) key.Ideal (node.Ideal (record { entries = es })) in
    is_done
    ∙ ap (λ (t : Told). with_write t key.Ideal (node.Ideal state)) all_but_ideal
    ∙ ap with_state is_state
    ∙ ap told (ideal_last s)
