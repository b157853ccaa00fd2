use Rattle.std.proofs.Common.{codes, map, string_bytes}
use Rattle.tda_spine.specs.Judged as spine
use Rattle.tda_refusal.specs.Refusal.{spine_text}
use Rattle.tda_inputs.specs.declared.reading.File.TheVariants as file
use Rattle.tda_inputs.specs.Files.{limit_of}
use Rattle.tda_inputs.proofs.Judged.{accepted}
use Rattle.tda_inputs.proofs.Stops.{stop_given}
use Rattle.tda_inputs.proofs.base.read_spine_file.Goals as goal

pub returns-in-Ok-clause-file : goal.returns-in-Ok-clause-file
returns-in-Ok-clause-file g c =
    accepted (limit_of file.Spine) (codes "spine") spine_text (spine.read c.args.schema.now) _ _ _ _ _ c.in_ok-bytes.ensures.bytes c.in_ok-bytes.ensures.limit c.deref.ensures.value c.in-Ok.ensures.gives

pub returns-clause-file : goal.returns-clause-file
returns-clause-file g c =
    stop_given (map string_bytes c.args.words.now) file.Spine spine_text (spine.read c.args.schema.now) _ _ _ _ _ _ c.spine_stop.ensures c.in_ok-bytes.ensures.bytes c.in_ok-bytes.ensures.limit c.deref.ensures.value c.in-Err.ensures.gives
