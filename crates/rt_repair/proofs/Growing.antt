-- What a repair and a retirement remember, as the past grows.
use Rattle.std.proofs.Common.{◌≡◌, ◌<◌, ℕ, Bool, List, Option, Some, refl, sym, subst}
use Rattle.rt_base.specs.declared.numbers.Instance.{Instance}
use Rattle.rt_base.specs.declared.numbers.Partition.{Partition}
use Rattle.rt_lists.specs.Members.{IsFront}
use Rattle.rt_lists.proofs.Members.{front_then}
use Rattle.rt_model.specs.declared.node.Seen.{Seen}
use Rattle.rt_model.specs.declared.setup.Setup.{Setup}
use Rattle.rt_model.specs.Order.{AreDistinct}
use Rattle.rt_model.specs.Setup.{IsSetup}
use Rattle.rt_model.specs.Starting.{Starting}
use Rattle.rt_names.specs.Table.{IsTableName}
use Rattle.rt_assign.proofs.Ring.{setup_distinct}
use Rattle.rt_store.specs.Contents.{starting_of}
use Rattle.rt_store.proofs.Assigned.{setup_assigned}
use Rattle.rt_past.specs.IsPast as all
use Rattle.rt_past.specs.Past.{Past, Grows}
use Rattle.rt_repair.specs.declared.read_node.ReadNode.{ReadNode}
use Rattle.rt_repair.specs.declared.repair.RepairStage.{RepairStage}
use Rattle.rt_repair.specs.declared.repair.RepairStage.TheVariants as repair
use Rattle.rt_repair.specs.declared.retirement.RetireStage.{RetireStage}
use Rattle.rt_repair.specs.declared.retirement.RetireStage.TheVariants as retirement
use Rattle.rt_repair.specs.IsRepair.{IsPast, HasIdeal, IsRepair}
use Rattle.rt_repair.specs.IsRepair as repairs
use Rattle.rt_repair.specs.IsRetire.{IsRetire}
use Rattle.rt_repair.specs.IsRetire as retires
use Rattle.rt_repair.specs.Lasting.{IsRepairOver, IsRetireOver}
use Rattle.rt_repair.specs.Repairing.{Repairing}
use Rattle.rt_repair.specs.Repairing as beginnings
use Rattle.rt_repair.specs.Retirement.{Retirement}
use Rattle.rt_repair.specs.Retirement as retirements

past_grows : (s : Starting) (h a b : List Seen) → IsPast s h a → IsFront a b → IsPast s h b
past_grows s h a b k g = record { front = front_then h a b k.front g; lawful = k.lawful }

ideal_grows : (s : Starting) (a b h : List Seen) (ideal : Seen) (f : List Seen) → HasIdeal s a h ideal f → IsFront a b
    → HasIdeal s b h ideal f
ideal_grows s a b h ideal f k g = record { past = past_grows s f a b k.past g; longer = k.longer; value = k.value }

listed_grows : (s : Starting) (a b : List Seen) (p : Partition) (last : Option ReadNode) (follows : Bool) (h : List Seen)
    → repairs.HasListed s a p last follows h → IsFront a b → repairs.HasListed s b p last follows h
listed_grows s a b p last follows h k g = record { past = past_grows s h a b k.past g; last = k.last; follows = k.follows }

repair_grows : (s : Starting) (a b : List Seen) (p : Partition) (stage : RepairStage) → repairs.Remembers s a p stage → IsFront a b
    → repairs.Remembers s b p stage
repair_grows s a b p repair.Listing m g = tt
repair_grows s a b p (repair.Reading last follows) (h, listed) g = (h, listed_grows s a b p last follows h listed g)
repair_grows s a b p (repair.Writing last follows ideal) (h, f, listed, read) g =
    (h, f, listed_grows s a b p last follows h listed g, ideal_grows s a b h ideal f read g)
repair_grows s a b p repair.Ended m g = tt

lowest_grows : (s : Starting) (a b : List Seen) (p : Partition) (lowest : Option ReadNode) (h : List Seen)
    → retires.HasListed s a p lowest h → IsFront a b → retires.HasListed s b p lowest h
lowest_grows s a b p lowest h k g = record { past = past_grows s h a b k.past g; lowest = k.lowest }

retire_grows : (s : Starting) (a b : List Seen) (p : Partition) (stage : RetireStage) → retires.Remembers s a p stage → IsFront a b
    → retires.Remembers s b p stage
retire_grows s a b p retirement.Listing m g = tt
retire_grows s a b p (retirement.Reading lowest) (h, listed) g = (h, lowest_grows s a b p lowest h listed g)
retire_grows s a b p (retirement.Writing lowest ideal) (h, f, listed, read) g =
    (h, f, lowest_grows s a b p lowest h listed g, ideal_grows s a b h ideal f read g)
retire_grows s a b p retirement.Ended m g = tt

pub repair_lasts : (setup : Setup) (a b : Past) (r : Repairing) → Grows a b → IsRepairOver setup a r → IsRepairOver setup b r
repair_lasts setup a b r g k =
    record {
      within = k.within;
      table = k.table;
      instances = k.instances;
      grace = k.grace;
      remembers = repair_grows (starting_of setup) a.history b.history r.partition r.stage k.remembers g.history;
    }

pub retire_lasts : (setup : Setup) (a b : Past) (r : Retirement) → Grows a b → IsRetireOver setup a r → IsRetireOver setup b r
retire_lasts setup a b r g k =
    record {
      within = k.within;
      keep = k.keep;
      remembers = retire_grows (starting_of setup) a.history b.history r.partition r.stage k.remembers g.history;
    }

pub repair_begins_over : (setup : Setup) (past : Past) (p : Partition) → p.0 < setup.partitions
    → IsRepairOver setup past (beginnings.beginning p setup)
repair_begins_over setup past p within =
    record { within = within; table = refl; instances = refl; grace = refl; remembers = tt }

pub retire_begins_over : (setup : Setup) (past : Past) (p : Partition) (keep : ℕ) → p.0 < setup.partitions
    → Some keep ≡ setup.retention → IsRetireOver setup past (retirements.beginning p keep)
retire_begins_over setup past p keep within kept = record { within = within; keep = kept; remembers = tt }

pub repair_ready : (setup : Setup) (past : Past) (r : Repairing) → IsSetup setup → all.IsPast setup past → IsRepairOver setup past r
    → IsRepair (starting_of setup) past.history r
repair_ready setup past r s k i =
    let N : List ℕ → Type 0 = IsTableName in
    let D : List Instance → Type 0 = AreDistinct in
    record {
      lawful = k.lawful;
      within = i.within;
      named = subst N (sym i.table) s.table.named;
      distinct = subst D (sym i.instances) (setup_distinct setup r.partition s);
      remembers = i.remembers;
    }

pub retire_ready : (setup : Setup) (past : Past) (r : Retirement) → IsSetup setup → all.IsPast setup past → IsRetireOver setup past r
    → IsRetire (starting_of setup) past.history r
retire_ready setup past r s k i =
    record { assigned = setup_assigned setup s; lawful = k.lawful; within = i.within; remembers = i.remembers }
