-- A node that is shown DONE or abandoned stays as it is, until it is gone; and what is gone stays so.
use Rattle.std.proofs.Common.{◌≡◌, ◌⊎◌, inl, inr, ◌<◌, ℕ, List, [], ◌∷◌, ◌++◌, Option, Some, None, Ok, refl, sym, ◌∙◌, ap, subst}
use Rattle.std.proofs.lemmas.Bool.{ltb-true}
use Rattle.std.proofs.lemmas.Option.{none-some, same_Some}
use Rattle.rt_base.specs.declared.numbers.Partition.{Partition}
use Rattle.rt_base.specs.declared.numbers.Sequence.{Sequence}
use Rattle.rt_desk.specs.Saying.{EventLineTold, EventTold}
use Rattle.rt_desk.specs.Telling.{Told, told}
use Rattle.rt_events.specs.declared.event.Event.TheVariants.{ShowMeta}
use Rattle.rt_events.specs.declared.outcome.Outcome.{Outcome}
use Rattle.rt_events.specs.declared.refusal.Refusal.TheVariants.{NoSuchNode}
use Rattle.rt_lines.specs.Header.{NumberedLine}
use Rattle.rt_lists.proofs.Members.{Has-front}
use Rattle.rt_lists.specs.Members.{Has}
use Rattle.rt_macros.specs.Doing.{Gives, Happens, Reached, reached}
use Rattle.rt_model.proofs.Histories.{value_of-last}
use Rattle.rt_model.proofs.Kept.{last_write-Has}
use Rattle.rt_model.proofs.Lawful.{has_endings}
use Rattle.rt_model.specs.History.{last_write, value_by, value_in, value_of}
use Rattle.rt_model.specs.Laws.{IsEnding, IsGoneLast}
use Rattle.rt_model.specs.Metadata.{IsDeleted, IsFinal, node_key}
use Rattle.rt_model.specs.declared.node.Node.{Node}
use Rattle.rt_model.specs.declared.node.Node.TheVariants as node
use Rattle.rt_model.specs.declared.node.Seen.{Seen}
use Rattle.rt_model.specs.declared.setup.Setup.{Setup}
use Rattle.rt_play.proofs.LineReads.{was_then, same_told}
use Rattle.rt_play.proofs.Retired.{deleted_gone, gone_deleted}
use Rattle.rt_play.proofs.ScriptRuns.{line_keeps, line_leads}
use Rattle.rt_play.specs.Beginning.{going_from}
use Rattle.rt_play.specs.Going.{Going}
use Rattle.rt_play.specs.Report.{FrontRuns, RunAll, Runs, said_at}
use Rattle.rt_play.specs.Shown.{AllShown, EndedStays, IsShown, KeepsShown, ShowsLater, StayGone, StayShown, shows}
use Rattle.rt_play.specs.declared.beginning.Beginning.{Beginning}
use Rattle.rt_report.specs.BrokerTexts.{shown_text}
use Rattle.rt_report.specs.Outcome.{outcome_text}
use Rattle.rt_safety.proofs.Later.{leads_on}
use Rattle.rt_safety.specs.GoesOn.{GoesOn}
use Rattle.rt_safety.specs.Runs.{Turn, Leads}
use Rattle.rt_script.specs.Line.{line_in}
use Rattle.rt_script.specs.declared.line.Line.{Line}
use Rattle.rt_script.specs.declared.line.Line.TheVariants as line
use Rattle.rt_state.proofs.Possible.{only_passed}
use Rattle.rt_state.specs.Finding.{has_partition}
use Rattle.rt_state.specs.IsSafeWorld.{IsSafeWorld}
use Rattle.rt_state.specs.Room.{no_cost, priced}
use Rattle.rt_state.specs.Start.{start}
use Rattle.rt_state.specs.declared.state.State.{State}
use Rattle.rt_store.specs.Contents.{starting_of}

-- ---- in a world

-- the node of a segment, as `show` shows it
abbrev pub node_of : State → Partition → Sequence → Option Seen
node_of w p q = value_of w.store.writes (node_key p q.0)

-- a node that ended a segment of the cluster was written
pub record HasEnded (w : State) (p : Partition) (q : Sequence) (seen : Seen) : Type 0 where
  pub within : p.0 < w.setup.partitions
  pub ending : IsEnding w.store.writes p q.0 seen

shown_final : (n : Node) (seen : Seen) → IsFinal n → value_by n seen ≡ Some seen
shown_final (node.Meta m) seen final = refl
shown_final (node.Ideal i) seen final = absurd final
shown_final node.Boot seen final = absurd final
shown_final node.Gone seen final = absurd final

-- then it is there still, or it is gone
pub stays_or_gone : (w : State) (p : Partition) (q : Sequence) (seen : Seen) → IsSafeWorld w → HasEnded w p q seen → (node_of w p q ≡ Some seen) ⊎ (node_of w p q ≡ None)
stays_or_gone w p q seen safe h = by_last ((has_endings (starting_of w.setup) w.store.writes safe.safe.past.lawful p q.0 h.within).stays seen h.ending)
  where
    by_last : (last_write w.store.writes (node_key p q.0) ≡ Some seen) ⊎ IsGoneLast w.store.writes p q.0 → (node_of w p q ≡ Some seen) ⊎ (node_of w p q ≡ None)
    by_last (inl last) = inl (ap value_in last ∙ shown_final seen.node seen h.ending.final)
    by_last (inr (gone, last, is)) = inr (ap value_in last ∙ ap (λ n. value_by n gone) is)

-- a node of a segment of the cluster was written
record HasBeen (w : State) (p : Partition) (q : Sequence) (seen : Seen) : Type 0 where
  within : p.0 < w.setup.partitions
  has : Has w.store.writes seen
  is_of : seen.key ≡ node_key p q.0

been_now : (w : State) (p : Partition) (q : Sequence) (seen : Seen) → p.0 < w.setup.partitions → node_of w p q ≡ Some seen → HasBeen w p q seen
been_now w p q seen within is =
    let has = last_write-Has w.store.writes (node_key p q.0) seen (value_of-last w.store.writes (node_key p q.0) seen is).0 in
    record { within = within; has = has.0; is_of = has.1 }

abbrev IsDeletedIn : State → Partition → Sequence → Type 0
IsDeletedIn w p q = IsDeleted w.store.writes p q.0

-- it is shown, the very one if it has ended; or none is, and it was deleted
shows_later : (w : State) (p : Partition) (q : Sequence) (seen : Seen) (gone : Type 0) → IsSafeWorld w → HasBeen w p q seen → (IsDeletedIn w p q → gone)
    → ShowsLater seen (node_of w p q) gone
shows_later w p q seen gone safe been f = by_node (node_of w p q) refl
  where
    by_node : (o : Option Seen) → node_of w p q ≡ o → ShowsLater seen o gone
    by_node None e = f (gone_deleted (starting_of w.setup) w.store.writes p safe.safe.past.lawful been.within q.0 seen e been.has been.is_of)
    by_node (Some next) e = λ final.
        by_place
        (stays_or_gone w p q seen safe (record { within = been.within; ending = record { has = been.has; is_of = been.is_of; final = final } }))
      where
        by_place : (node_of w p q ≡ Some seen) ⊎ (node_of w p q ≡ None) → next ≡ seen
        by_place (inl same) = same_Some next seen (sym e ∙ same)
        by_place (inr none) = absurd (none-some next (sym none ∙ e))

-- ---- in a later world

module _ (w v : State) (turns : List Turn) (p : Partition) (q : Sequence) (safe : IsSafeWorld w) (led : Leads w turns v) where
  abbrev goes : GoesOn w v
  goes = leads_on w turns v safe led

  within_later : p.0 < w.setup.partitions → p.0 < v.setup.partitions
  within_later within = subst (λ (s : Setup). p.0 < s.partitions) (sym goes.setup) within

  been_later : (seen : Seen) → HasBeen w p q seen → HasBeen v p q seen
  been_later seen been = record {
    within = within_later been.within;
    has = Has-front w.store.writes v.store.writes seen goes.past.history been.has;
    is_of = been.is_of;
  }

  deleted_later : IsDeletedIn w p q → IsDeletedIn v p q
  deleted_later d = (d.0, Has-front w.store.writes v.store.writes d.0 goes.past.history d.1, d.2, d.3)

-- ---- a line

-- what a line shows in a world: the node of its segment, where it is such a line
abbrev seen_by : Option Line → State → Option Seen
seen_by (Some (line.Event (ShowMeta p q))) w = node_of w p q
seen_by other w = None

shown_so : (p : Partition) (q : Sequence) (w : State) (v : Reached) (text : List ℕ) → EventTold (ShowMeta p q) w v (Ok text)
    → (text ≡ shown_text (ShowMeta p q) (node_of w p q)) × (p.0 < w.setup.partitions)
shown_so p q w v text h =
    let t = was_then (Happens (ShowMeta p q)) (λ outcome. Gives (outcome_text (ShowMeta p q) outcome)) w v text h in
    let steps = t.came.by.0 in
    let outcome = ap (λ (z : State × Outcome). z.1) steps.2 in (
      same_told text (outcome_text (ShowMeta p q) t.told) t.further.1 ∙ ap (λ o. outcome_text (ShowMeta p q) o) outcome,
      ltb-true p.0 w.setup.partitions (only_passed (has_partition w p) NoSuchNode (priced w no_cost) steps.0 steps.1).0,
    )

-- of a `show meta` line
shown_line : (p : Partition) (q : Sequence) (g : Going) (turns : List Turn) (h : Going) (text : List ℕ) → Runs (shows p q) g turns h text
    → (text ≡ shown_text (ShowMeta p q) (node_of g.world p q)) × (p.0 < g.world.setup.partitions)
shown_line p q g turns h text run =
    let t = was_then (EventLineTold g.desk.pause (ShowMeta p q)) (λ x. Gives (told g.desk x)) g.world (reached turns h.world) (told h.desk text) run in
    let own : text ≡ t.told = ap (λ (x : Told). x.text) (same_told (told h.desk text) (told g.desk t.told) t.further.1) in
    let so = shown_so p q g.world t.between t.told t.came in
    (own ∙ so.0, so.1)

is_shown : (o : Option Line) (g : Going) (turns : List Turn) (h : Going) (text : List ℕ) → Runs o g turns h text → IsShown o text (seen_by o g.world)
is_shown (Some (line.Event (ShowMeta p q))) g turns h text run = (shown_line p q g turns h text run).0
is_shown other g turns h text run = tt

-- ---- later lines

-- what each line shows
abbrev shown_by : (lines : List NumberedLine) (g : Going) (turns : List Turn) (h : Going) (texts : List (List ℕ)) → RunAll lines g turns h texts → List (Option Seen)
shown_by [] g turns h texts run = []
shown_by (first ∷ lines) g turns h texts run = seen_by (said_at g first) g.world ∷ shown_by lines run.between run.more h run.others run.then_others

abbrev same_line : (setup : Setup) (g : Going) (first : NumberedLine) → g.world.setup ≡ setup → said_at g first ≡ line_in setup first.1
same_line setup g first same = ap (λ (s : Setup). line_in s first.1) same

gone_over : (lines rest : List NumberedLine) (setup : Setup) (g : Going) (turns : List Turn) (h : Going) (texts : List (List ℕ)) (p : Partition) (q : Sequence)
    → g.world.setup ≡ setup → IsSafeWorld g.world → p.0 < g.world.setup.partitions → IsDeletedIn g.world p q → (run : RunAll lines g turns h texts)
    → StayGone setup p q (lines ++ rest) (shown_by lines g turns h texts run)
gone_over [] rest setup g turns h texts p q same safe within deleted run = tt
gone_over (first ∷ lines) rest setup g turns h texts p q same safe within deleted run =
    let keeps = line_keeps first g run.own run.between run.text safe run.first in
    let led = line_leads first g run.own run.between run.text run.first in (
      λ said. subst (λ (o : Option Line). seen_by o g.world ≡ None) (sym (same_line setup g first same ∙ said))
          (deleted_gone (starting_of g.world.setup) g.world.store.writes p safe.safe.past.lawful within q.0 deleted),
      gone_over lines rest setup run.between run.more h run.others p q (keeps.1 ∙ same) keeps.0
          (within_later g.world run.between.world run.own p q safe led within) (deleted_later g.world run.between.world run.own p q safe led deleted) run.then_others,
    )

stays_over : (lines rest : List NumberedLine) (setup : Setup) (g : Going) (turns : List Turn) (h : Going) (texts : List (List ℕ)) (p : Partition) (q : Sequence) (seen : Seen)
    → g.world.setup ≡ setup → IsSafeWorld g.world → HasBeen g.world p q seen → (run : RunAll lines g turns h texts)
    → StayShown setup p q seen (lines ++ rest) (shown_by lines g turns h texts run)
stays_over [] rest setup g turns h texts p q seen same safe been run = tt
stays_over (first ∷ lines) rest setup g turns h texts p q seen same safe been run =
    let keeps = line_keeps first g run.own run.between run.text safe run.first in
    let led = line_leads first g run.own run.between run.text run.first in
    let later = shown_by lines run.between run.more h run.others run.then_others in
    let gone : Type 0 = StayGone setup p q (lines ++ rest) later in
    let goes : IsDeletedIn g.world p q → gone =
    λ deleted. gone_over lines rest setup run.between run.more h run.others p q (keeps.1 ∙ same) keeps.0
    (within_later g.world run.between.world run.own p q safe led been.within) (deleted_later g.world run.between.world run.own p q safe led deleted) run.then_others in (
      λ said. subst (λ (o : Option Line). ShowsLater seen (seen_by o g.world) gone) (sym (same_line setup g first same ∙ said))
          (shows_later g.world p q seen gone safe been goes),
      stays_over lines rest setup run.between run.more h run.others p q seen (keeps.1 ∙ same) keeps.0
          (been_later g.world run.between.world run.own p q safe led seen been) run.then_others,
    )

all_shown : (lines rest : List NumberedLine) (setup : Setup) (g : Going) (turns : List Turn) (h : Going) (texts : List (List ℕ)) → g.world.setup ≡ setup → IsSafeWorld g.world
    → (run : RunAll lines g turns h texts) → AllShown setup (lines ++ rest) texts (shown_by lines g turns h texts run)
all_shown [] rest setup g turns h texts same safe run = subst (λ (ts : List (List ℕ)). AllShown setup rest ts []) (sym run.2) tt
all_shown (first ∷ lines) rest setup g turns h texts same safe run =
    let keeps = line_keeps first g run.own run.between run.text safe run.first in
    let led = line_leads first g run.own run.between run.text run.first in
    let said = same_line setup g first same in
    let seen = seen_by (said_at g first) g.world in
    let later = shown_by lines run.between run.more h run.others run.then_others in
    let stays : KeepsShown setup first seen (lines ++ rest) later =
    λ p q node is shown.
    let own = said ∙ is in
    let here = shown_line p q g run.own run.between run.text (subst (λ (o : Option Line). Runs o g run.own run.between run.text) own run.first) in
    let been = been_now g.world p q node here.1 (sym (ap (λ (o : Option Line). seen_by o g.world) own) ∙ shown) in
    stays_over lines rest setup run.between run.more h run.others p q node (keeps.1 ∙ same) keeps.0
    (been_later g.world run.between.world run.own p q safe led node been) run.then_others in
    subst (λ (ts : List (List ℕ)). AllShown setup (first ∷ (lines ++ rest)) ts (seen ∷ later)) (sym run.whole) (
      subst (λ (o : Option Line). IsShown o run.text seen) said (is_shown (said_at g first) g run.own run.between run.text run.first),
      stays,
      all_shown lines rest setup run.between run.more h run.others (keeps.1 ∙ same) keeps.0 run.then_others,
    )

-- ---- a report

pub front_stays : (beginning : Beginning) (lines : List NumberedLine) (texts : List (List ℕ)) → IsSafeWorld (start beginning.setup)
    → FrontRuns lines (going_from beginning) texts → EndedStays beginning.setup lines texts
front_stays beginning lines texts safe front = record {
  shown = shown_by front.front (going_from beginning) front.turns front.last texts front.run;
  all =
      subst (λ ls. AllShown beginning.setup ls texts (shown_by front.front (going_from beginning) front.turns front.last texts front.run)) (sym front.whole)
      (all_shown front.front front.rest beginning.setup (going_from beginning) front.turns front.last texts refl safe front.run);
}

pub none_shown : (setup : Setup) (lines : List NumberedLine) (texts : List (List ℕ)) → texts ≡ [] → EndedStays setup lines texts
none_shown setup lines texts e = record { shown = []; all = subst (λ (ts : List (List ℕ)). AllShown setup lines ts []) (sym e) tt }
