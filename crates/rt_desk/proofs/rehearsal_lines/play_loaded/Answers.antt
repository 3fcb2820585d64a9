use Rattle.std.specs.Prelude.{string_bytes}
use Rattle.rt_desk.proofs.Rehearsals.{loaded_found}
use Rattle.rt_desk.proofs.rehearsal_lines.play_loaded.Goals as goal

pub returns : goal.returns
returns c =
    loaded_found c.args.instance c.args.partition c.args.sequence c.args.rehearsing.now c.loaded.new.self c.in_ok-planned.planned c.args.world.now.state c.tell_loaded.new.world
    (string_bytes c.tell_loaded.new.text) c.tell_loaded.result c.in_ok-planned.ensures.answer c.in_ok-planned.ensures.after c.tell_loaded.ensures
