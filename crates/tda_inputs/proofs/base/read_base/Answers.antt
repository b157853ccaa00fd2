use Rattle.std.proofs.Common.{map, string_bytes, rules}
use Rattle.tda_inputs.proofs.Bases.{schema_read, spine_read, facilities_read, schema_halts, spine_halts, facilities_halt}
use Rattle.tda_inputs.proofs.base.read_base.Goals as goal

pub returns-in_err-schema : goal.returns-in_err-schema
returns-in_err-schema g c =
    let words = map string_bytes c.args.words.now in
    let halts = schema_halts words _ _ _ _ c.from_residual.ensures.1 c.requires.schema c.in_err-schema.ensures.file c.in_err-schema.ensures.asked in
    record { base = halts.0; limits = search rules; table = search rules; asked = halts.1; cause = search rules }

pub returns-in_err-spine : goal.returns-in_err-spine
returns-in_err-spine g c =
    let words = map string_bytes c.args.words.now in
    let s = c.in_ok-schema.schema in
    let one = schema_read words _ _ s c.requires.schema c.in_ok-schema.ensures.file c.in_ok-schema.ensures.asked in
    let halts = spine_halts words _ _ s one _ _ _ c.from_residual-in_err-spine.ensures.1 c.requires.spine c.in_err-spine.ensures.file c.in_err-spine.ensures.asked in
    record { base = halts.0; limits = search rules; table = search rules; asked = halts.1; cause = search rules }

pub returns-in_err-facilities : goal.returns-in_err-facilities
returns-in_err-facilities g c =
    let words = map string_bytes c.args.words.now in
    let s = c.in_ok-schema.schema in
    let sp = c.in_ok-spine.spine in
    let one = schema_read words _ _ s c.requires.schema c.in_ok-schema.ensures.file c.in_ok-schema.ensures.asked in
    let two = spine_read words _ _ s one _ sp c.requires.spine c.in_ok-spine.ensures.file c.in_ok-spine.ensures.asked in
    let halts = facilities_halt words _ _ s sp two _ _ _ c.from_residual-in_err-facilities.ensures.1 c.requires.facilities c.in_err-facilities.ensures.file c.in_err-facilities.ensures.asked in
    record { base = halts.0; limits = search rules; table = search rules; asked = halts.1; cause = search rules }

pub returns : goal.returns
returns g c =
    let words = map string_bytes c.args.words.now in
    let s = c.in_ok-schema.schema in
    let sp = c.in_ok-spine.spine in
    let f = c.in_ok-facilities.facilities in
    let one = schema_read words _ _ s c.requires.schema c.in_ok-schema.ensures.file c.in_ok-schema.ensures.asked in
    let two = spine_read words _ _ s one _ sp c.requires.spine c.in_ok-spine.ensures.file c.in_ok-spine.ensures.asked in
    let three = facilities_read words _ _ s sp two _ f c.requires.facilities c.in_ok-facilities.ensures.file c.in_ok-facilities.ensures.asked in
    record { base = three.come; limits = search rules; table = search rules; asked = three.asked.asked; cause = search rules }
