use Rattle.std.proofs.Common.{◌≡◌, ℕ, List, refl, sym, subst, length, ◌<◌}
use Rattle.std.specs.Prelude.{All, IfOk, slice_index}
use Rattle.std.proofs.lemmas.Result.{IfOk-weaker}
use Rattle.rt_pack.specs.Packed.{packed, unpacked, bytes_for, spare_bits, id_at}
use Rattle.rt_pack.proofs.Writing.{pack_more, packed_from}
use Rattle.rt_pack.proofs.Laws.{length_packed, packed_spare, unpacked_packed, id_at_packed}
use Rattle.rt_pack.proofs.packing.pack.Goals as goal
use Rattle.rt_pack.proofs.packing.pack.Goals.{After-finish}

-- what follows for the packed ids
packs : (c : After-finish) (Q : List ℕ → Type 0) → Q (packed c.args.width c.args.ids.now) → IfOk c.finish.result (λ bytes. Q bytes.items)
packs c Q q = IfOk-weaker c.finish.result _ (λ bytes. Q bytes.items)
    (λ bytes e. subst Q (sym (packed_from c.args.width c.loop-id.id-index c.args.ids.now c.loop-id.writer bytes.items c.loop-id-test.false c.loop-id.invariant e)) q)
    c.finish.ensures

pub loop-id-preserved : goal.loop-id-preserved
loop-id-preserved c =
    pack_more c.args.width c.loop-id.id-index _ c.args.ids.now c.loop-id.writer c.push.new.self c.loop-id-test.true refl c.loop-id.invariant c.in_ok-push.ensures.ok

pub returns-clause-value : goal.returns-clause-value
returns-clause-value c = packs c (λ bytes. bytes ≡ packed c.args.width c.args.ids.now) refl

pub returns-clause-byte_count : goal.returns-clause-byte_count
returns-clause-byte_count c = packs c (λ bytes. length bytes ≡ bytes_for c.args.width (length c.args.ids.now)) (length_packed c.args.width c.args.ids.now)

pub returns-clause-spare : goal.returns-clause-spare
returns-clause-spare c = packs c (λ bytes. All (λ bit. bit ≡ 0) (spare_bits c.args.width (length c.args.ids.now) bytes)) (packed_spare c.args.width c.args.ids.now)

pub returns-clause-unpacks : goal.returns-clause-unpacks
returns-clause-unpacks c = packs c (λ bytes. unpacked c.args.width (length c.args.ids.now) bytes ≡ c.args.ids.now) (unpacked_packed c.args.width c.args.ids.now c.requires.fit)

pub returns-clause-reads : goal.returns-clause-reads
returns-clause-reads c =
    packs c (λ bytes. (row : ℕ) → row < length c.args.ids.now → id_at c.args.width bytes row ≡ slice_index c.args.ids.now row)
    (λ row l. id_at_packed c.args.width c.args.ids.now row c.requires.fit l)
