-- The text of an ideal state: compact JSON, an object of objects, whose keys ascend as texts.
use Rattle.std.specs.Prelude.{ℕ, List, [], ◌∷◌, ◌++◌, Option, Some, None, codes, decimal}
use Rattle.serde_json.specs.Data.{Data, null, boolean, number, string, array, object, Members, no_members, put}
use Rattle.serde_json.specs.Find.{get_member}
use Rattle.serde_json.specs.Written.{compact_text}
use Rattle.rt_base.specs.declared.numbers.Partition.{Partition}
use Rattle.rt_base.specs.declared.numbers.Sequence.{Sequence}
use Rattle.rt_base.specs.declared.numbers.Instance.{Instance}
use Rattle.rt_model.specs.declared.ideal_state.IdealEntry.{IdealEntry}
use Rattle.rt_model.specs.declared.ideal_state.Mode.{Mode}
use Rattle.rt_model.specs.declared.ideal_state.Mode.TheVariants.{Consuming, Online, Offline}

-- the key of a segment
abbrev pub segment_text : Partition → Sequence → List ℕ
segment_text p s = decimal p.0 ++ (codes "/" ++ decimal s.0)

-- the key of an instance
abbrev pub instance_text : Instance → List ℕ
instance_text i = codes "s" ++ decimal i.0

abbrev pub mode_text : Mode → List ℕ
mode_text Consuming = codes "CONSUMING"
mode_text Online = codes "ONLINE"
mode_text Offline = codes "OFFLINE"

-- the members of an object that may be there
abbrev pub members_in : Option Data → Members
members_in None = no_members
members_in (Some null) = no_members
members_in (Some (boolean b)) = no_members
members_in (Some (number n)) = no_members
members_in (Some (string s)) = no_members
members_in (Some (array ds)) = no_members
members_in (Some (object ms)) = ms

-- the segments' objects, with an entry put into its segment's
abbrev pub with_entry_text : Members → IdealEntry → Members
with_entry_text ms e =
    let segment = segment_text e.partition e.sequence in
    put segment
    (object
    (put (instance_text e.instance) (string (mode_text e.mode)) (members_in (get_member segment ms))))
    ms

-- the segments' objects, with each of these entries put into its segment's
abbrev pub with_entries_text : Members → List IdealEntry → Members
with_entries_text ms [] = ms
with_entries_text ms (e ∷ es) = with_entries_text (with_entry_text ms e) es

-- the text of a state
abbrev pub state_text : List IdealEntry → List ℕ
state_text es = compact_text (object (with_entries_text no_members es))
