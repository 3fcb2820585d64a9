-- A server that did nothing yet.
use Rattle.std.proofs.Common.{◌≡◌, ◌<◌, ℕ, List, true, [], ap, sym, subst, refl, ◌∙◌}
use Rattle.std.proofs.lemmas.Bool.{false≢true}
use Rattle.std.proofs.lemmas.List.Elements.{All-nil}
use Rattle.rt_base.specs.declared.numbers.Instance.{Instance}
use Rattle.rt_ground.specs.Callers.{new_front}
use Rattle.rt_ground.specs.declared.blanks.Blanks.{Blanks}
use Rattle.rt_ground.proofs.Stores.{first_log}
use Rattle.rt_ground.proofs.Streams.{length_log}
use Rattle.rt_live_names.specs.Fronts.{Fronts, server_caller}
use Rattle.rt_live_names.specs.Names.{Names}
use Rattle.rt_live_names.specs.ServerPart.{IsGivenOver}
use Rattle.rt_model.specs.Metadata.{IsDone}
use Rattle.rt_model.specs.Setup.{IsSetup}
use Rattle.rt_model.specs.Starting.{Starting}
use Rattle.rt_model.specs.declared.node.Seen.{Seen}
use Rattle.rt_model.specs.declared.setup.Setup.{Setup}
use Rattle.rt_past.specs.IsPast.{fresh_past}
use Rattle.rt_past.specs.View.{Within}
use Rattle.rt_replica.specs.Own.{IsOwnRequest}
use Rattle.rt_server.specs.Fresh.{fresh}
use Rattle.rt_server.specs.Table.{ServerState}
use Rattle.rt_server.proofs.LastingStarts.{fresh_over}
use Rattle.rt_server.proofs.OwnGrows.{own_server_grows}
use Rattle.rt_server.proofs.ReadBack.{server_forget}
use Rattle.rt_store.specs.Contents.{starting_of}
use Rattle.rt_stream.proofs.Growth.{log_same}
use Rattle.rt_live_server.specs.Acting.{ActingNow, IsActing}
use Rattle.rt_live_server.specs.declared.did.ServerDid.{ServerDid}
use Rattle.rt_live_server.proofs.Acts.{view_at}

abbrev pub new_fronts : Blanks → ℕ → Fronts
new_fronts names k = record { store = new_front names.store k; deep = new_front names.deep k; stream = new_front names.stream k }

abbrev first_acting : ℕ → ServerState → Fronts → ActingNow
first_acting k server f = record { number = k; server = server; up = true; fronts = f; did = [] }

module _ (n : Names) (k : ℕ) (names : Blanks) (is : IsSetup n.setup) (within : k < n.setup.servers) where
  abbrev instance : Instance
  instance = record { 0 = k }

  abbrev first : ActingNow
  first = first_acting k (fresh n.setup instance) (new_fronts names (server_caller k))

  from_fresh : Within (fresh_past n.setup) (view_at n first)
  from_fresh = record {
    log = log_same (fresh_past n.setup).log;
    history = ([], refl);
    files = ([], refl);
    sent = λ m h. absurd h;
  }

  first_is : IsActing n (starting_of n.setup) first
  first_is = record {
    starting = refl;
    part = record {
      caller = record { store = refl; deep = refl; stream = refl };
      instance = refl;
      view = record {
        partitions = length_log n.setup.partitions [];
        lawful = (first_log (starting_of n.setup)).history;
        once = tt;
      };
      own =
          own_server_grows n.setup (fresh_past n.setup) (view_at n first) from_fresh (fresh n.setup instance)
          (server_forget n.setup (fresh_past n.setup) (fresh n.setup instance) (fresh_over n.setup instance is within));
      asks = All-nil (IsOwnRequest n.setup (view_at n first));
      gives = All-nil (IsGivenOver n (view_at n first));
      undone = All-nil (λ (w : Seen). IsDone w.node → ⊥);
      puts = refl;
      appends = refl;
    };
    replays = refl;
    down = λ isnt. absurd (false≢true (sym isnt));
  }

  pub begins : (s : Starting) (server : ServerState) → starting_of n.setup ≡ s → server ≡ fresh n.setup instance
      → IsActing n s (first_acting k server (new_fronts names (server_caller k)))
  begins s server starting at =
      subst (λ (x : Starting). IsActing n x (first_acting k server (new_fronts names (server_caller k)))) starting
      (subst (λ (x : ServerState). IsActing n (starting_of n.setup) (first_acting k x (new_fronts names (server_caller k)))) (sym at) first_is)

-- by what its seat is made of
pub began_with : (n : Names) (k : ℕ) (names : Blanks) (setup : Setup) (s : Starting) (server : ServerState) (f : Fronts) (did : List ServerDid) → setup ≡ n.setup → IsSetup setup
    → starting_of setup ≡ s → k < setup.servers → server ≡ fresh setup (record { 0 = k }) → f ≡ new_fronts names (server_caller k) → did ≡ []
    → IsActing n s (record { number = k; server = server; up = true; fronts = f; did = did })
began_with n k names setup s server f did same is starting within at fronts none =
    let there : IsActing n s (first_acting k server (new_fronts names (server_caller k))) =
    begins n k names (subst IsSetup same is) (subst (λ (x : Setup). k < x.servers) same within) s server (ap starting_of (sym same) ∙ starting)
    (at ∙ ap (λ (x : Setup). fresh x (record { 0 = k })) same) in
    subst (λ (x : Fronts). IsActing n s (record { number = k; server = server; up = true; fronts = x; did = did })) (sym fronts)
    (subst (λ (x : List ServerDid). IsActing n s (record { number = k; server = server; up = true; fronts = new_fronts names (server_caller k); did = x })) (sym none) there)
