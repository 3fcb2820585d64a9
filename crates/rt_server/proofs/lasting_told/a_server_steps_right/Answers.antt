use Rattle.rt_server.proofs.LastingTold.{crashes_right, download_finds, downloads_right, restarts_right, sees_right, transits_right}
use Rattle.rt_server.proofs.lasting_told.a_server_steps_right.Goals as goal

pub returns-clause-sees : goal.returns-clause-sees
returns-clause-sees c = sees_right

pub returns-clause-transits : goal.returns-clause-transits
returns-clause-transits c = transits_right

pub returns-clause-downloads : goal.returns-clause-downloads
returns-clause-downloads c = downloads_right

pub returns-clause-finds : goal.returns-clause-finds
returns-clause-finds c = download_finds

pub returns-clause-crashes : goal.returns-clause-crashes
returns-clause-crashes c = crashes_right

pub returns-clause-restarts : goal.returns-clause-restarts
returns-clause-restarts c = restarts_right
