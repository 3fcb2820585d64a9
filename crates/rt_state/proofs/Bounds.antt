-- What a world holds is far below what its numbers can count.
use Rattle.std.proofs.Common.{◌≡◌, ℕ, zero, suc, ◌+◌, ◌<◌, ◌≤◌, ◌^◌, [], ◌∷◌, ◌++◌, length, arith, length-append}
use Rattle.rt_base.specs.declared.numbers.Partition.{Partition}
use Rattle.rt_model.specs.Metadata.{sequences_of}
use Rattle.rt_model.specs.Starting.{Starting, starting_boot, starting_meta, starting_ideal, starting_boots, starting_metas, starting_contents}
use Rattle.rt_store.specs.Contents.{starting_of}
use Rattle.rt_state.specs.IsSafeWorld.{IsSafeWorld}
use Rattle.rt_state.specs.declared.state.State.{State}
use Rattle.rt_state.proofs.Sequences.{few_segments}

boots_length : (n : ℕ) → length (starting_boots n) ≡ n
boots_length zero = omega arith
boots_length (suc i) = omega (arith, length-append (starting_boots i) (starting_boot i ∷ []), boots_length i)

metas_length : (s : Starting) (n : ℕ) → length (starting_metas s n) ≡ n
metas_length s zero = omega arith
metas_length s (suc p) = omega (arith, length-append (starting_metas s p) (starting_meta s p ∷ []), metas_length s p)

-- a node of each server and of each partition, and the ideal state
pub contents_length : (s : Starting) → length (starting_contents s) ≡ s.servers + s.partitions + 1
contents_length s =
    omega (
      arith,
      length-append (starting_boots s.servers ++ starting_metas s s.partitions) (starting_ideal s ∷ []),
      length-append (starting_boots s.servers) (starting_metas s s.partitions),
      boots_length s.servers,
      metas_length s s.partitions,
    )

pub few_writes : (w : State) → IsSafeWorld w → length w.store.writes < 2 ^ 64
few_writes w s =
    omega (arith, s.few.written, s.few.events, contents_length (starting_of w.setup), s.safe.setup.few_servers, s.safe.setup.few_partitions)

pub few_sent : (w : State) → IsSafeWorld w → length w.sent < 2 ^ 63
few_sent w s = omega (arith, s.few.sent, s.few.events)

-- a partition has far fewer segments than there are numbers
pub few_sequences : (w : State) (p : Partition) → IsSafeWorld w → p.0 < w.setup.partitions → sequences_of w.store.writes p ≤ 4294967290
few_sequences w p s within =
    let st = starting_of w.setup in
    omega (
      arith,
      few_segments st w.store.writes p s.safe.past.lawful within,
      s.few.written,
      s.few.events,
      contents_length st,
      s.safe.setup.few_servers,
      s.safe.setup.few_partitions,
    )
