use Rattle.std.proofs.Common.{arith, rules, map, string_bytes, ℕ}
use Rattle.std.specs.Global.{Vec}
use Rattle.tda_inputs.specs.Files.{limit_of}
use Rattle.tda_inputs.proofs.Judged.{long_file, short_file, gives_none, asked_once, counts_none, failed_told}
use Rattle.tda_inputs.proofs.reading.read_bytes.Goals as goal

pub returns-in-Ok-clause-bytes : goal.returns-in-Ok-clause-bytes
returns-in-Ok-clause-bytes g c =
    gives_none (map string_bytes c.args.words.now) c.args.file _ _ c.refused.ensures
    (rw c.path_of.ensures at (long_file (limit_of c.args.file) _ _ _ (rw c.limit-limit.ensures.limit at c.in-Ok.ensures.bytes) (omega (arith, c.limit-limit.ensures.limit))))

pub returns-in-Ok-clause-asked : goal.returns-in-Ok-clause-asked
returns-in-Ok-clause-asked g c = asked_once (Vec ℕ) (map string_bytes c.args.words.now) c.args.file _ _ _ _ c.refused.ensures (rw c.path_of.ensures at c.in-Ok.ensures.told)

pub returns-in-Ok-clause-cause : goal.returns-in-Ok-clause-cause
returns-in-Ok-clause-cause g c = counts_none (Vec ℕ) c.args.file _ _ _ _ c.refused.ensures c.in-Ok.ensures.cause

pub returns-in-Ok-2-clause-bytes : goal.returns-in-Ok-2-clause-bytes
returns-in-Ok-2-clause-bytes g c =
    rw c.path_of.ensures at (short_file (limit_of c.args.file) _ _ _ (rw c.limit-limit.ensures.limit at c.in-Ok.ensures.bytes) (omega (arith, c.limit-limit.ensures.limit)))

pub returns-in-Ok-2-clause-asked : goal.returns-in-Ok-2-clause-asked
returns-in-Ok-2-clause-asked g c = rw c.path_of.ensures at c.in-Ok.ensures.told

pub returns-in-Err-Failed-clause-asked : goal.returns-in-Err-Failed-clause-asked
returns-in-Err-Failed-clause-asked g c =
    failed_told _ c.read.result _ _ (search rules) (rw c.path_of.ensures at c.read.ensures.told)
