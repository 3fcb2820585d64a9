-- The servers and the controllers that there are at first, one by one.
use Rattle.std.proofs.Common.{◌≡◌, ◌+◌, ◌++◌, ◌∷◌, [], ℕ, refl, add-one}
use Rattle.rt_model.specs.declared.setup.Setup.{Setup}
use Rattle.rt_nodes.specs.Fresh.{fresh_controller, fresh_controllers, fresh_server, fresh_servers}

pub servers_more : (setup : Setup) (n : ℕ) → fresh_servers setup n ++ fresh_server setup n ∷ [] ≡ fresh_servers setup (n + 1)
servers_more setup n = rw add-one refl

pub controllers_more : (setup : Setup) (n : ℕ) → fresh_controllers setup n ++ fresh_controller setup n ∷ [] ≡ fresh_controllers setup (n + 1)
controllers_more setup n = rw add-one refl
