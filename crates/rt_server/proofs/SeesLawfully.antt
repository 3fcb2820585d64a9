-- What a server's reads keep: its setup, and that what was seen is lawful and grows.
use Rattle.std.proofs.Common.{◌≡◌, ◌∙◌, ap, sym, subst, refl, ℕ, Bool, true, false, Option, None, Some, Result, Ok, Err}
use Rattle.rt_lists.specs.Members.{IsFront}
use Rattle.rt_lists.proofs.Members.{front_same}
use Rattle.rt_base.specs.declared.numbers.Moment.{Moment}
use Rattle.rt_base.specs.declared.numbers.Partition.{Partition}
use Rattle.rt_base.specs.declared.numbers.Sequence.{Sequence}
use Rattle.rt_model.specs.declared.ideal_state.Mode.{Mode}
use Rattle.rt_model.specs.declared.node.Key.TheVariants as key
use Rattle.rt_model.specs.declared.node.Seen.{Seen}
use Rattle.rt_model.specs.declared.replica_state.ReplicaState.{ReplicaState}
use Rattle.rt_model.specs.declared.setup.Setup.{Setup}
use Rattle.rt_model.specs.Starting.{Starting}
use Rattle.rt_model.specs.Lawful.{IsLawfulHistory}
use Rattle.rt_store.specs.Meaning.{Meaning}
use Rattle.rt_store.proofs.Seeing.{read_grows, read_lawful}
use Rattle.rt_entry.specs.declared.refused.ServerRefused.{ServerRefused}
use Rattle.rt_entry.specs.declared.refused.ServerRefused.TheVariants.{NotDue, StoreFault, BadFile, Memory}
use Rattle.rt_entry.specs.Calls.{Comes, Step}
use Rattle.rt_server.specs.Calls.{SeesIdeal, Transits, TransitsIf, TransitsTo, answered_by, seen_in, stepped_by}
use Rattle.rt_server.specs.Past.{SeesLawfully}
use Rattle.rt_server.specs.Table.{ServerState, target_of}
use Rattle.rt_server.specs.Transition.{Moved, transit_due, transited}

abbrev setup_in : {X : Type 0} → ServerState → Step ServerState X → Setup
setup_in old (Ok p) = p.1.setup
setup_in old (Err e) = old.setup

comes_setup : {X : Type 0} (step : Step ServerState X) (old new : ServerState) (result : Result X ServerRefused)
    → setup_in old step ≡ old.setup → Comes step old new result → new.setup ≡ old.setup
comes_setup {X = X} step old new (Ok x) same h = sym (ap (λ (t : Step ServerState X). setup_in old t) h) ∙ same
comes_setup step old new (Err Memory) same h = ap (λ (x : ServerState). x.setup) h.1
comes_setup step old new (Err NotDue) same h = ap (λ (x : ServerState). x.setup) h.1
comes_setup step old new (Err StoreFault) same h = ap (λ (x : ServerState). x.setup) h.1
comes_setup step old new (Err (BadFile wanted found)) same h = ap (λ (x : ServerState). x.setup) h.1

seen_setup : (old : ServerState) (r : Result Seen ServerRefused) → setup_in old (seen_in old r) ≡ old.setup
seen_setup old (Ok seen) = refl
seen_setup old (Err e) = refl

stepped_setup : (old : ServerState) (r : Result Moved ServerRefused) → setup_in old (stepped_by old r) ≡ old.setup
stepped_setup old (Ok moved) = refl
stepped_setup old (Err e) = refl

pub sees_keeps : (s : Starting) (before after : Meaning) (old new : ServerState) (result : Result ℕ ServerRefused) → SeesIdeal before after old new result
    → SeesLawfully s before after old new
sees_keeps s before after old new result h = record {
  setup = comes_setup (seen_in old (answered_by h.0)) old new result (seen_setup old (answered_by h.0)) h.2;
  grows = read_grows before after key.Ideal h.0 h.1;
  lawful = λ l. read_lawful s before after key.Ideal h.0 l h.1;
}

keeps_same : (s : Starting) (before after : Meaning) (old new : ServerState) → after ≡ before → new.setup ≡ old.setup → SeesLawfully s before after old new
keeps_same s before after old new e same = record {
  setup = same;
  grows = subst (λ (m : Meaning). IsFront before.seen m.seen) (sym e) (front_same before.seen);
  lawful = λ l. subst (λ (m : Meaning). IsLawfulHistory s m.seen) (sym e) l;
}

module _ (s : Starting) (before after : Meaning) (old new : ServerState) (p : Partition) (q : Sequence) (now : Moment) (result : Result ReplicaState ServerRefused) where
  to_keeps : (target : Option Mode) → TransitsTo target before after old new p q now result → SeesLawfully s before after old new
  to_keeps None h = keeps_same s before after old new h.0 (ap (λ (x : ServerState). x.setup) h.2)
  to_keeps (Some mode) h = record {
    setup = comes_setup (stepped_by old (transited old.setup old.table p q now mode h.0)) old new result (stepped_setup old (transited old.setup old.table p q now mode h.0)) h.2;
    grows = read_grows before after (key.Meta p q) h.0 h.1;
    lawful = λ l. read_lawful s before after (key.Meta p q) h.0 l h.1;
  }

  if_keeps : (due : Bool) → TransitsIf due before after old new p q now result → SeesLawfully s before after old new
  if_keeps true h = to_keeps (target_of old.table p q) h
  if_keeps false h = keeps_same s before after old new h.0 (ap (λ (x : ServerState). x.setup) h.2)

  pub transits_keeps : Transits before after old new p q now result → SeesLawfully s before after old new
  transits_keeps h = if_keeps (transit_due old.table p q) h
