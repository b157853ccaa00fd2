use Rattle.std.proofs.Common.{◌≡◌, map, string_bytes}
use Rattle.tda_command.specs.Words.{source_of}
use Rattle.tda_command.specs.declared.words.Source.TheVariants as source
use Rattle.tda_inputs.proofs.Noises.{given_from, asked_from}
use Rattle.tda_inputs.proofs.noise.read_noise.Goals as goal

pub returns-in-Words-clause-noise : goal.returns-in-Words-clause-noise
returns-in-Words-clause-noise g c =
    let words = map string_bytes c.args.words.now in
    let at : source.Words ≡ source_of words = cc in
    given_from words source.Words at _ _ c.read_words_file.ensures.noise

pub returns-in-Words-clause-asked : goal.returns-in-Words-clause-asked
returns-in-Words-clause-asked g c =
    let words = map string_bytes c.args.words.now in
    let at : source.Words ≡ source_of words = cc in
    asked_from words source.Words at _ _ _ c.read_words_file.ensures.asked

pub returns-in-Seed-clause-noise : goal.returns-in-Seed-clause-noise
returns-in-Seed-clause-noise g c =
    let words = map string_bytes c.args.words.now in
    let at : source.Seed ≡ source_of words = cc in
    given_from words source.Seed at _ _ c.read_seed_file.ensures.noise

pub returns-in-Seed-clause-asked : goal.returns-in-Seed-clause-asked
returns-in-Seed-clause-asked g c =
    let words = map string_bytes c.args.words.now in
    let at : source.Seed ≡ source_of words = cc in
    asked_from words source.Seed at _ _ _ c.read_seed_file.ensures.asked
