use Rattle.std.proofs.Common.{map, string_bytes, arith, ◌∙◌}
use Rattle.tda_inputs.proofs.Noises.{seed_noise, seed_refused}
use Rattle.tda_inputs.proofs.noise.read_seed_file.Goals as goal

pub returns-then-len-ne-SEED-clause-noise : goal.returns-then-len-ne-SEED-clause-noise
returns-then-len-ne-SEED-clause-noise g c =
    seed_refused (map string_bytes c.args.words.now) _ c.in_ok-bytes.bytes.items _ c.refused.ensures c.in_ok-bytes.ensures.bytes c.in_ok-bytes.ensures.limit (omega (arith, c.len.ensures, c.if-len-ne-SEED.true))

pub returns-clause-noise : goal.returns-clause-noise
returns-clause-noise g c =
    seed_noise (map string_bytes c.args.words.now) _ c.in_ok-bytes.bytes.items _ _ _ c.number_of.ensures c.number_of-2.ensures (c.copy_from_slice.ensures.after ∙ c.deref.ensures.value) c.in_ok-bytes.ensures.bytes
    (omega (arith, c.len.ensures, c.if-len-ne-SEED.false))
