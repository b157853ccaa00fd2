use Rattle.std.proofs.Common.{◌≡◌, ◌∙◌, get_or}
use Rattle.std.proofs.lemmas.List.{get_or_default}
use Rattle.tda_places.proofs.Rising.{finds}
use Rattle.tda_fitnet.proofs.first_place.find.Goals as goal

pub unreachable-requires : goal.unreachable-requires
unreachable-requires c =
    let xs = c.args.numbers.now in
    let there = c.requires.there in
    let at : get_or xs there.0 0 ≡ c.args.number = get_or_default xs there.0 0 c.args.number there.1 ∙ there.2 in
    let found = finds xs c.requires.rise c.args.number there.0 there.1 at c.binary_search.result c.binary_search.ensures.position in
    let other = c.in-Err.is in
    cc
