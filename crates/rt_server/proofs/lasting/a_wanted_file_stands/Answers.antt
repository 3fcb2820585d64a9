use Rattle.rt_server.proofs.LastingDownloads.{downloads_never_bad, wanted_stands}
use Rattle.rt_server.proofs.lasting.a_wanted_file_stands.Goals as goal

pub returns-clause-stands : goal.returns-clause-stands
returns-clause-stands c = wanted_stands

pub returns-clause-never_bad : goal.returns-clause-never_bad
returns-clause-never_bad c = λ setup past before after old new p q wanted found shown right k h. downloads_never_bad setup past before after old new p q shown right k wanted found h
