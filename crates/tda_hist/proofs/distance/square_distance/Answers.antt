use Rattle.std.proofs.Common.{◌∙◌, arith}
use Rattle.tda_schema.specs.Stated.{query_at}
use Rattle.tda_hist.proofs.ClassCells.{over_whole}
use Rattle.tda_hist.proofs.Distances.{same_distance, distance_limit, equal_distance, neighbour_distance}
use Rattle.tda_hist.proofs.distance.square_distance.Goals as goal

pub level_distance-requires-clause-room : goal.level_distance-requires-clause-room
level_distance-requires-clause-room c =
    let s = c.args.schema.now in
    let sp = c.args.spine.now in
    let q = query_at s c.args.level c.args.query in
    let whole = over_whole s c.args.level c.args.query c.queries.ensures.over_all c.requires.query in
    let is = same_distance s sp c.units.ensures.sound.tree q whole c.args.level (omega (arith, c.requires.belong, c.requires.level)) c.args.first.now c.args.second.now c.in_ok-ones.ones c.in_ok-others.others
    c.in_ok-ones.ensures c.in_ok-others.ensures in
    let le = distance_limit s sp c.units.ensures.sound.tree q whole c.args.level (omega (arith, c.requires.belong, c.requires.level)) c.args.first.now c.args.second.now c.requires.first c.requires.second in
    omega (arith, is, le)

distance : goal.returns-clause-distance
distance c =
    let s = c.args.schema.now in
    let sp = c.args.spine.now in
    let q = query_at s c.args.level c.args.query in
    let whole = over_whole s c.args.level c.args.query c.queries.ensures.over_all c.requires.query in
    c.level_distance.ensures
    ∙ same_distance s sp c.units.ensures.sound.tree q whole c.args.level (omega (arith, c.requires.belong, c.requires.level)) c.args.first.now c.args.second.now c.in_ok-ones.ones c.in_ok-others.others
    c.in_ok-ones.ensures c.in_ok-others.ensures

pub returns-clause-distance : goal.returns-clause-distance
returns-clause-distance c = distance c

pub returns-clause-limit : goal.returns-clause-limit
returns-clause-limit c =
    let s = c.args.schema.now in
    let whole = over_whole s c.args.level c.args.query c.queries.ensures.over_all c.requires.query in
    let le = distance_limit s c.args.spine.now c.units.ensures.sound.tree (query_at s c.args.level c.args.query) whole c.args.level (omega (arith, c.requires.belong, c.requires.level)) c.args.first.now c.args.second.now c.requires.first c.requires.second in
    rw (distance c) le

pub returns-clause-same : goal.returns-clause-same
returns-clause-same c = λ same.
    let s = c.args.schema.now in
    let whole = over_whole s c.args.level c.args.query c.queries.ensures.over_all c.requires.query in
    distance c
    ∙ equal_distance s c.args.spine.now c.units.ensures.sound.tree (query_at s c.args.level c.args.query) whole c.args.level (omega (arith, c.requires.belong, c.requires.level)) c.args.first.now c.args.second.now c.requires.first c.requires.second same

pub returns-clause-neighbours : goal.returns-clause-neighbours
returns-clause-neighbours c = λ near.
    let s = c.args.schema.now in
    let whole = over_whole s c.args.level c.args.query c.queries.ensures.over_all c.requires.query in
    let le = neighbour_distance s c.args.spine.now c.units.ensures.sound.tree (query_at s c.args.level c.args.query) whole c.args.level (omega (arith, c.requires.belong, c.requires.level)) c.args.first.now c.args.second.now c.requires.first c.requires.second near in
    rw (distance c) le
