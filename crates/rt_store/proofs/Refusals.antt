-- Refusals that a call of the store never gives, and what one that it gives shows.
use Rattle.std.proofs.Common.{◌≡◌, ℕ, ◌<◌, ◌==◌, Bool, true, false, cond, List, Option, Some, None, Result, Err, ⊎_elim, refl, sym, ◌∙◌, ap}
use Rattle.std.proofs.lemmas.Bool.{cases_lt}
use Rattle.rt_base.proofs.Planned.{without_fault}
use Rattle.rt_base.specs.declared.fault.Fault.{Fault}
use Rattle.rt_base.specs.declared.numbers.Partition.{Partition}
use Rattle.rt_lists.proofs.Members.{Has-same}
use Rattle.rt_model.specs.declared.node.Key.{Key}
use Rattle.rt_model.specs.declared.node.Key.TheVariants as key
use Rattle.rt_model.specs.declared.node.Node.{Node}
use Rattle.rt_model.specs.declared.node.Seen.{Seen}
use Rattle.rt_model.specs.Chain.{IsCreation}
use Rattle.rt_model.specs.History.{value_of}
use Rattle.rt_model.specs.Lawful.{Write, create, set, delete, create_after, IsLawfulHistory, written_by}
use Rattle.rt_model.specs.Metadata.{node_key, sequences_of, IsCreated}
use Rattle.rt_model.specs.Starting.{Starting}
use Rattle.rt_model.proofs.Lawful.{has_ideal_state, has_chains}
use Rattle.rt_store.specs.declared.refused.StoreRefused.{StoreRefused}
use Rattle.rt_store.specs.declared.refused.StoreRefused.TheVariants.{NoNode, Exists, VersionChanged, Failed}
use Rattle.rt_store.specs.Answers.{found_in, reading, listing, change_in, presence_in, first_of, refusal_of, answer_by, answer_of, after_call}
use Rattle.rt_store.specs.Calls.{Goes, Reads, Lists, Writes, WritesVersion, CreatesAfter}
use Rattle.rt_store.specs.Meaning.{Meaning}
use Rattle.rt_store.proofs.Listing.{value_has}
use Rattle.rt_store.proofs.Told.{refused_nothing}

abbrev refused_as : {X : Type 0} → StoreRefused → Result X StoreRefused
refused_as e = Err e

-- a refusal that is told is the call's own answer
answers : {X : Type 0} (old new : Meaning) (answer : List Seen → Result X StoreRefused) (after : List Seen → List Seen)
    (e : StoreRefused) (base : List Seen) → (e ≡ Failed → ⊥)
    → (fault : Fault) → Goes old new fault base (after base) (answer base) (refused_as e) → refused_as e ≡ answer base
answers old new answer after e base other fault g =
    (without_fault Failed fault (answer base) (refused_as e) base (after base) new.seen (λ is. other (cc)) g.answered g.seen).0

-- ---- a list

pub list_no_node : (old new : Meaning) (p : Partition) → Lists old new p (Err NoNode) → ⊥
list_no_node old new p c =
    let e = answers old new (listing p) (λ base. base) NoNode c.base (λ f. cc) c.fault c.goes in cc

pub list_exists : (old new : Meaning) (p : Partition) (found : ℕ) → Lists old new p (Err (Exists found)) → ⊥
list_exists old new p found c =
    let e = answers old new (listing p) (λ base. base) (Exists found) c.base (λ f. cc) c.fault c.goes in cc

pub list_changed : (old new : Meaning) (p : Partition) (expected found : ℕ) → Lists old new p (Err (VersionChanged expected found)) → ⊥
list_changed old new p expected found c =
    let e = answers old new (listing p) (λ base. base) (VersionChanged expected found) c.base (λ f. cc) c.fault c.goes in cc

-- ---- a read

found_some : (o : Option Seen) (w : Seen) (e : StoreRefused) → o ≡ Some w → refused_as e ≡ found_in o → ⊥
found_some None w e s f = cc
found_some (Some v) w e s f = cc

found_other : (o : Option Seen) (e : StoreRefused) → (e ≡ NoNode → ⊥) → refused_as e ≡ found_in o → ⊥
found_other None e other f = other (cc)
found_other (Some v) e other f = cc

-- the ideal state is always there
pub read_no_node : (s : Starting) (old new : Meaning) → IsLawfulHistory s old.seen → Reads old new key.Ideal (Err NoNode) → ⊥
read_no_node s old new l c =
    let there = has_ideal_state s c.base (c.sees.lawful s l) in
    found_some (value_of c.base key.Ideal) there.0 NoNode there.2
    (answers old new (reading key.Ideal) (λ base. base) NoNode c.base (λ f. cc) c.fault c.goes)

pub read_exists : (old new : Meaning) (k : Key) (found : ℕ) → Reads old new k (Err (Exists found)) → ⊥
read_exists old new k found c =
    found_other (value_of c.base k) (Exists found) (λ f. cc)
    (answers old new (reading k) (λ base. base) (Exists found) c.base (λ f. cc) c.fault c.goes)

pub read_changed : (old new : Meaning) (k : Key) (expected found : ℕ) → Reads old new k (Err (VersionChanged expected found)) → ⊥
read_changed old new k expected found c =
    found_other (value_of c.base k) (VersionChanged expected found) (λ f. cc)
    (answers old new (reading k) (λ base. base) (VersionChanged expected found) c.base (λ f. cc) c.fault c.goes)

-- ---- a write

abbrev some_refusal : StoreRefused → Option StoreRefused
some_refusal e = Some e

refused_by : {X : Type 0} (o : Option StoreRefused) (x : X) (e : StoreRefused) → refused_as e ≡ answer_by o x → o ≡ some_refusal e
refused_by None x e f = absurd (cc)
refused_by (Some refused) x e f = cc

refusal_told : {X : Type 0} (tell : Seen → X) (old new : Meaning) (call : Write) (e : StoreRefused) (base : List Seen) → (e ≡ Failed → ⊥)
    → (fault : Fault) → Goes old new fault base (after_call call base) (answer_of tell call base) (refused_as e)
    → refusal_of base call ≡ some_refusal e
refusal_told tell old new call e base other fault g =
    refused_by (refusal_of base call) (tell (written_by base call)) e
    (answers old new (answer_of tell call) (after_call call) e base other fault g)

no_exists : (expected : ℕ) (o : Option Seen) (found : ℕ) → change_in expected o ≡ some_refusal (Exists found) → ⊥
no_exists expected None found e = cc
no_exists expected (Some w) found e = by_test (w.version == expected) e
  where
    by_test : (b : Bool) → cond b None (Some (VersionChanged expected w.version)) ≡ some_refusal (Exists found) → ⊥
    by_test true f = cc
    by_test false f = cc

no_absence : (expected : ℕ) (o : Option Seen) (w : Seen) → o ≡ Some w → change_in expected o ≡ some_refusal NoNode → ⊥
no_absence expected None w s e = cc
no_absence expected (Some v) w s e = by_test (v.version == expected) e
  where
    by_test : (b : Bool) → cond b None (Some (VersionChanged expected v.version)) ≡ some_refusal NoNode → ⊥
    by_test true f = cc
    by_test false f = cc

no_node_present : (o : Option Seen) → presence_in o ≡ some_refusal NoNode → ⊥
no_node_present None e = cc
no_node_present (Some w) e = cc

pub set_exists : (old new : Meaning) (from : Seen) (n : Node) (found : ℕ) → WritesVersion old new (set from n) (Err (Exists found)) → ⊥
set_exists old new from n found c =
    no_exists from.version (value_of c.base from.key) found
    (refusal_told (λ w. w.version) old new (set from n) (Exists found) c.base (λ f. cc) c.fault c.goes)

pub set_no_node : (s : Starting) (old new : Meaning) (from : Seen) (n : Node) → IsLawfulHistory s old.seen → from.key ≡ key.Ideal
    → WritesVersion old new (set from n) (Err NoNode) → ⊥
set_no_node s old new from n l at c =
    let there = has_ideal_state s c.base (c.sees.lawful s l) in
    no_absence from.version (value_of c.base from.key) there.0 (ap (value_of c.base) at ∙ there.2)
    (refusal_told (λ w. w.version) old new (set from n) NoNode c.base (λ f. cc) c.fault c.goes)

pub create_no_node : (old new : Meaning) (k : Key) (n : Node) → Writes old new (create k n) (Err NoNode) → ⊥
create_no_node old new k n c =
    no_node_present (value_of c.base k)
    (refusal_told (λ w. tt) old new (create k n) NoNode c.base (λ f. cc) c.fault c.goes)

pub delete_exists : (old new : Meaning) (from : Seen) (found : ℕ) → Writes old new (delete from) (Err (Exists found)) → ⊥
delete_exists old new from found c =
    no_exists from.version (value_of c.base from.key) found
    (refusal_told (λ w. tt) old new (delete from) (Exists found) c.base (λ f. cc) c.fault c.goes)

-- ---- a segment that is there was created

some_by : (o : Option Seen) (expected found : ℕ) (p : Option Seen)
    → first_of (change_in expected p) (presence_in o) ≡ some_refusal (Exists found) → (w : Seen) × (o ≡ Some w)
some_by None expected found p e = absurd (none_by (change_in expected p) (no_exists expected p found) e)
  where
    none_by : (a : Option StoreRefused) → (a ≡ some_refusal (Exists found) → ⊥) → first_of a None ≡ some_refusal (Exists found) → ⊥
    none_by None f g = cc
    none_by (Some refused) f g = f g
some_by (Some w) expected found p e = (w, refl)

pub present_created : (s : Starting) (h : List Seen) (p : Partition) (n : ℕ) (w : Seen) → p.0 < s.partitions → IsLawfulHistory s h
    → value_of h (node_key p n) ≡ Some w → IsCreated h p n
present_created s h p n w within l e =
    let chain = has_chains s h l p within in
    let has = value_has h (node_key p n) w e in
    ⊎_elim (λ below. created_by (chain.created n below)) (λ above. absurd (chain.uncreated n w above has.0 has.1))
    (cases_lt n (sequences_of h p))
  where
    created_by : ((c : Seen) × IsCreation h p n c) → IsCreated h p n
    created_by (c, k) = (c, k.has, k.is_of, k.starts)

pub next_present : (st : Starting) (s t : Meaning) (p : Partition) (n : ℕ) (made : Node) (done : Seen) (found : ℕ)
    → p.0 < st.partitions → IsLawfulHistory st s.seen → CreatesAfter s t (node_key p n) made done (Err (Exists found))
    → IsCreated t.seen p n
next_present st s t p n made done found within l c =
    let call = create_after (node_key p n) made done in
    let refusal = refusal_told (λ w. tt) s t call (Exists found) c.base (λ f. cc) c.fault c.goes in
    let there = some_by (value_of c.base (node_key p n)) done.version found (value_of c.base done.key) refusal in
    let made_there = present_created st c.base p n there.0 within (c.sees.lawful st l) there.1 in
    let same = refused_nothing (λ w. tt) s t call (Exists found) c (λ f. cc) in
    (made_there.0, Has-same c.base t.seen made_there.0 (sym same) made_there.1, made_there.2, made_there.3)
