use Rattle.std.proofs.Common.{map, string_bytes, arith}
use Rattle.tda_inputs.proofs.Noises.{words_refused}
use Rattle.tda_inputs.proofs.noise.read_words_file.Goals as goal

pub returns-else-len-eq0-clause-noise : goal.returns-else-len-eq0-clause-noise
returns-else-len-eq0-clause-noise g c =
    words_refused (map string_bytes c.args.words.now) _ c.in_ok-bytes.bytes.items _ c.refused.ensures c.in_ok-bytes.ensures.bytes c.in_ok-bytes.ensures.limit (omega (arith, c.len.ensures, c.if-len-eq0.false))
