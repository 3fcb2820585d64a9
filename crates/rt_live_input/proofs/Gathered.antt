-- What one line adds to an input, and the lines behind it.
use Rattle.std.proofs.Common.{◌≡◌, List, ◌∷◌, Result, Ok, Err, refl, sym, ap, subst, ◌∙◌}
use Rattle.rt_lines.specs.Header.{NumberedLine, Says, then_ok}
use Rattle.rt_lines.specs.declared.play_fault.PlayFault.{PlayFault}
use Rattle.rt_lines.specs.declared.play_fault.PlayFault.TheVariants.{Limit, Memory, ReadFault, Refused, Usage, WriteFault}
use Rattle.rt_live_input.specs.Entries.{entry_at}
use Rattle.rt_live_input.specs.Gathering.{AddsLine, added, gathered, with_entry}
use Rattle.rt_live_input.specs.declared.entry.Entry.{Entry}
use Rattle.rt_live_input.specs.declared.entry.Entry.TheVariants as entry
use Rattle.rt_live_input.specs.declared.input.Input.{Input}
use Rattle.rt_model.specs.Setup.{IsSetup}

-- what a reading that stops leaves behind it stays unread
pub says_stop : {A B : Type 0} (wanted : Result A PlayFault) (f : A → Result B PlayFault) (fault : PlayFault) → Says wanted (Err fault) → Says (then_ok wanted f) (Err fault)
says_stop wanted f (Refused line why) h = ap (λ r. then_ok r f) h
says_stop wanted f (Limit which) h = ap (λ r. then_ok r f) h
says_stop wanted f Memory h = tt
says_stop wanted f Usage h = h
says_stop wanted f ReadFault h = h
says_stop wanted f WriteFault h = h

same_ok : {A : Type 0} (x y : A) (read : Result A PlayFault) → read ≡ Ok x → read ≡ Ok y → x ≡ y
same_ok x y read e f = cc

entry_setup : (input : Input) (found : Entry) → input.setup ≡ (with_entry input found).setup
entry_setup input (entry.Row row) = refl
entry_setup input (entry.Query query) = refl

added_setup : (old new : Input) (read : Result Entry PlayFault) → added old read ≡ Ok new → old.setup ≡ new.setup
added_setup old new (Ok found) e = entry_setup old found ∙ ap (λ (i : Input). i.setup) (same_ok (with_entry old found) new (Ok (with_entry old found)) refl e)
added_setup old new (Err fault) e = cc

-- a line leaves the cluster as it is
pub adds_setup : (old new : Input) (line : NumberedLine) → IsSetup old.setup → AddsLine old new line (Ok tt) → IsSetup new.setup
adds_setup old new line is e = subst IsSetup (added_setup old new (entry_at old.setup line) e) is

abbrev then_gathered : List NumberedLine → Result Input PlayFault → Result Input PlayFault
then_gathered rest read = then_ok read (λ more. gathered more rest)

-- a line, and the lines behind it
pub adds_more : (old new : Input) (lines rest : List NumberedLine) (line : NumberedLine) → lines ≡ line ∷ rest → AddsLine old new line (Ok tt) → gathered new rest ≡ gathered old lines
adds_more old new lines rest line first e = sym (ap (gathered old) first ∙ ap (then_gathered rest) e)

-- a line that is refused
pub gathers_stop : (old new : Input) (lines rest : List NumberedLine) (line : NumberedLine) (all : Result Input PlayFault) (fault : PlayFault) → lines ≡ line ∷ rest → gathered old lines ≡ all
    → AddsLine old new line (Err fault) → Says all (Err fault)
gathers_stop old new lines rest line all fault first same e =
    subst (λ (r : Result Input PlayFault). Says r (Err fault)) (sym (ap (gathered old) first) ∙ same)
    (says_stop (added old (entry_at old.setup line)) (λ more. gathered more rest) fault e)

-- a reading behind one that was read
pub says_then : {A B : Type 0} (wanted : Result A PlayFault) (f : A → Result B PlayFault) (x : A) (result : Result B PlayFault) → Says wanted (Ok x) → Says (f x) result → Says (then_ok wanted f) result
says_then wanted f x result h k = subst (λ r. Says r result) (sym (ap (λ r. then_ok r f) h)) k

pub calm_goes_on : (old new : Input) (rest : List NumberedLine) (line : NumberedLine) (result : Result Input PlayFault) → AddsLine old new line (Ok tt) → Says (gathered new rest) result
    → Says (gathered old (line ∷ rest)) result
calm_goes_on old new rest line result e k = subst (λ r. Says r result) (adds_more old new (line ∷ rest) rest line refl e) k

pub calm_stops : (old new : Input) (rest : List NumberedLine) (line : NumberedLine) (fault : PlayFault) → AddsLine old new line (Err fault) → Says (gathered old (line ∷ rest)) (Err fault)
calm_stops old new rest line fault e = gathers_stop old new (line ∷ rest) rest line (gathered old (line ∷ rest)) fault refl refl e
