-- The names of no ground, for whom no caller has picked any.
use Rattle.std.specs.Prelude.{[]}
use Rattle.rt_model.specs.Starting.{Starting}
use Rattle.rt_front.specs.Rules.{no_chronicle}
use Rattle.rt_ground.specs.declared.blanks.Blanks.{Blanks}

abbrev pub no_names : Blanks
no_names = record { store = no_chronicle; deep = no_chronicle; stream = no_chronicle }

abbrev pub no_starting : Starting
no_starting = record { servers = 0; partitions = 0; moment = record { 0 = 0 }; name = λ p. []; instances = λ p. [] }
