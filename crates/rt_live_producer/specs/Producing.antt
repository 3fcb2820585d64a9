-- A producer: what it has appended, and the messages that are left, are those of the input.
use Rattle.std.specs.Prelude.{◌≡◌, List, [], ◌++◌}
use Rattle.rt_ground.specs.declared.appended.Appended.{Appended}
use Rattle.rt_live_names.specs.Fronts.{AreOfCaller, Fronts, own_files, own_messages, own_writes, producer_caller}
use Rattle.rt_live_names.specs.Names.{Names}

pub record Producing : Type 0 where
  pub fronts : Fronts
  pub left : List Appended

pub record IsProducing (n : Names) (p : Producing) : Type 0 where
  pub caller : AreOfCaller producer_caller p.fronts
  pub rows : n.rows ≡ own_messages p.fronts ++ p.left
  pub writes : own_writes p.fronts ≡ []
  pub puts : own_files p.fronts ≡ []
