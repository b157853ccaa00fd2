use Rattle.std.proofs.Common.{sym, ◌∙◌, arith, rules}
use Rattle.std.proofs.lemmas.List.{length-take-le}
use Rattle.tda_loss.specs.Curve.{value_of}
use Rattle.tda_loss.proofs.Laws.{IsCurve-value_of}
use Rattle.tda_cancel.proofs.Settled.{cost-low, falls}
use Rattle.tda_cancel.proofs.Prices.{solved}
use Rattle.tda_cancel.proofs.cancel.CancelSolver.solve.Goals as goal

pub loop-smaller : goal.loop-smaller
loop-smaller g c =
    falls _ _ (cost-low (value_of c.args.loss.now.curve) c.args.net.now c.improve.new.flow (IsCurve-value_of c.args.loss.now.curve)) (c.improve.ensures.cheaper c.loop-test.true)

pub loop-preserved : goal.loop-preserved
loop-preserved g c =
    let i = c.loop.invariant.inside in
    record {
      flow = c.improve.ensures.flow;
      inside = record { nodes = i.nodes; arcs = i.arcs; room = c.improve.ensures.room _ _ i.room };
      nodes = c.loop.invariant.nodes;
      arcs = c.loop.invariant.arcs;
    }

pub slice_bounds-write_prices-end : goal.slice_bounds-write_prices-end
slice_bounds-write_prices-end g c =
    let room = c.improve.ensures.room _ _ c.loop.invariant.inside.room in
    sym (length-take-le c.nodes-nodes.result c.deref.result.now (omega (arith, room.costs, c.loop.invariant.nodes, c.requires.nodes, c.deref.ensures.len, c.nodes-nodes.ensures.value)))

pub write_prices-requires-clause-some : goal.write_prices-requires-clause-some
write_prices-requires-clause-some g c =
    let room = c.improve.ensures.room _ _ c.loop.invariant.inside.room in
    let size = length-take-le c.nodes-nodes.result c.deref.result.now (omega (arith, room.costs, c.loop.invariant.nodes, c.requires.nodes, c.deref.ensures.len, c.nodes-nodes.ensures.value)) in
    omega (arith, size, c.nodes-nodes.ensures.sound.some_node, c.nodes-nodes.ensures.value)

pub write_prices-requires-clause-count : goal.write_prices-requires-clause-count
write_prices-requires-clause-count g c =
    let room = c.improve.ensures.room _ _ c.loop.invariant.inside.room in
    let size = length-take-le c.nodes-nodes.result c.deref.result.now (omega (arith, room.costs, c.loop.invariant.nodes, c.requires.nodes, c.deref.ensures.len, c.nodes-nodes.ensures.value)) in
    omega (arith, size, c.requires.prices, c.nodes-nodes.ensures.value)

pub invariant_of-self : goal.invariant_of-self
invariant_of-self g c =
    let i = c.loop.invariant.inside in
    let room = c.improve.ensures.room _ _ i.room in
    record {
      nodes = i.nodes;
      arcs = i.arcs;
      room = record { steps = room.steps; costs = room.costs; before = room.before; lasts = room.lasts; marks = room.marks; walk = room.walk };
    }

pub returns : goal.returns
returns g c =
    let room = c.improve.ensures.room _ _ c.loop.invariant.inside.room in
    let s = solved (value_of c.args.loss.now.curve) c.args.net.now c.improve.new.flow c.improve.new.tables.costs.items c.deref.result.now c.write_prices.new.prices c.nodes-nodes.result
    c.nodes-nodes.ensures.sound c.nodes-nodes.ensures.value
    (omega (arith, room.costs, c.loop.invariant.nodes, c.requires.nodes, c.deref.ensures.len, c.nodes-nodes.ensures.value)) c.deref.ensures.value
    (c.improve.ensures.settled c.loop-test.false) c.improve.ensures.near (c.write_prices.auto.prices ∙ c.requires.prices) c.write_prices.ensures in
    record {
      flow = c.improve.ensures.flow;
      certified = s.certified;
      hub = s.hub;
      prices = s.are;
      same_nodes = search rules;
      same_arcs = search rules;
      same_curves = search rules;
    }
