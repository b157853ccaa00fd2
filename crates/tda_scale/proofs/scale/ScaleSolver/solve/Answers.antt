use Rattle.std.proofs.Common.{◌≡◌, ℕ, ◌^◌, ◌<◌, ◌∙◌, ◌-ℤ◌, ap, sym, subst, length, replicate, arith}
use Rattle.tda_flow.specs.Network.{arc_count}
use Rattle.tda_flow.specs.Certificate.{price_at}
use Rattle.tda_scale.specs.Size.{Size}
use Rattle.tda_scale.specs.Spots.{no_spot}
use Rattle.tda_scale.specs.Searching.{price_of, AreFresh}
use Rattle.tda_scale.specs.Priced.{IsPriced}
use Rattle.tda_scale.specs.Tracked.{IsTracked}
use Rattle.tda_scale.specs.Phase.{square, AreWithin}
use Rattle.tda_scale.proofs.Solved.{solved, certified_curve, room_less, begun_tracked, begun_fresh, begun_small}
use Rattle.std.proofs.lemmas.List.{with_items_is}
use Rattle.tda_scale.proofs.scale.ScaleSolver.solve.Goals as goal

pub run_phases-requires-clause-own_room : goal.run_phases-requires-clause-own_room
run_phases-requires-clause-own_room g c =
    let room =
    c.begin.ensures.room c.args.net.now.nodes (arc_count c.args.net.now)
    (room_less c.self.inside.nodes c.self.inside.arcs c.args.net.now.nodes (arc_count c.args.net.now) c.self.inside.tables
    (let e = ap (λ (s : Size). s.nodes) c.self.view_is in let r = c.requires.nodes in omega (arith, e))
    (let e = ap (λ (s : Size). s.arcs) c.self.view_is in let r = c.requires.arcs in omega (arith, e)) c.self.invariant.room) in
    record { spots = room.spots; quotes = room.quotes; shut = room.shut; queue = room.queue; found = room.found; walk = room.walk }

pub invariant_of-self : goal.invariant_of-self
invariant_of-self g c =
    let i = c.self.invariant in
    let begun = c.begin.ensures.room c.self.inside.nodes c.self.inside.arcs i.room in
    let room = c.run_phases.ensures.room c.self.inside.nodes c.self.inside.arcs (record { spots = begun.spots; quotes = begun.quotes; shut = begun.shut; queue = begun.queue; found = begun.found; walk = begun.walk }) in
    record {
      nodes = i.nodes;
      arcs = i.arcs;
      slopes = let a = i.slopes in let b = c.list_slopes.ensures.room in omega arith;
      room = record { spots = room.spots; quotes = room.quotes; shut = room.shut; queue = room.queue; found = room.found; walk = room.walk };
    }

pub returns-clause-certified : goal.returns-clause-certified
returns-clause-certified g c =
    let spots = c.run_phases.new.tables.spots in
    let prices = c.write_prices.new.prices in
    certified_curve c.args._loss.now.curve c.args.net.now c.run_phases.new.flow prices
    (solved c.args.net.now c.run_phases.new.flow spots.items prices c.nodes.ensures.sound (sym spots.ok.0 ∙ c.run_phases.ensures.nodes) (c.write_prices.auto.prices ∙ c.requires.prices) c.run_phases.ensures.priced c.run_phases.ensures.small
    (subst (λ z. (v : ℕ) → v < length z → price_at prices v ≡ price_of z v -ℤ price_of z 0) c.deref-2.ensures.value c.write_prices.ensures)).certified

pub start-phases-requires-clause-tracked : goal.start-phases-requires-clause-tracked
start-phases-requires-clause-tracked g c =
    let n = c.args.net.now in
    let begun = c.deref_mut.ensures.value ∙ c.begin.ensures.spots ∙ ap (λ k. replicate k no_spot) c.nodes.ensures.value in
    begun_tracked n c.args.flow.now c.deref_mut.result.now c.requires.flow begun

pub start-phases-requires-clause-fresh : goal.start-phases-requires-clause-fresh
start-phases-requires-clause-fresh g c =
    let n = c.args.net.now in
    let begun = c.deref_mut.ensures.value ∙ c.begin.ensures.spots ∙ ap (λ k. replicate k no_spot) c.nodes.ensures.value in
    begun_fresh n.nodes c.deref_mut.result.now begun

pub start-phases-requires-clause-small : goal.start-phases-requires-clause-small
start-phases-requires-clause-small g c =
    let n = c.args.net.now in
    let begun = c.deref_mut.ensures.value ∙ c.begin.ensures.spots ∙ ap (λ k. replicate k no_spot) c.nodes.ensures.value in
    begun_small n.nodes (2 ^ 88) c.deref_mut.result.now begun

pub start-phases-requires-clause-count : goal.start-phases-requires-clause-count
start-phases-requires-clause-count g c =
    let n = c.args.net.now in
    let begun = c.deref_mut.ensures.value ∙ c.begin.ensures.spots ∙ ap (λ k. replicate k no_spot) c.nodes.ensures.value in
    let size = (begun_tracked n c.args.flow.now c.deref_mut.result.now c.requires.flow begun).nodes in
    c.requires.prices ∙ sym size

pub run_phases-requires-clause-tracked : goal.run_phases-requires-clause-tracked
run_phases-requires-clause-tracked g c =
    let n = c.args.net.now in
    let more = c.start-phases.new.spots in
    let spots = c.begin.new.self.spots in
    let e = with_items_is spots more (let a = c.start-phases.auto.spots in let b = c.deref_mut.ensures.len in omega arith) in
    subst (IsTracked n c.start-phases.new.flow) (sym e) c.start-phases.ensures.tracked

pub run_phases-requires-clause-priced : goal.run_phases-requires-clause-priced
run_phases-requires-clause-priced g c =
    let n = c.args.net.now in
    let more = c.start-phases.new.spots in
    let spots = c.begin.new.self.spots in
    let e = with_items_is spots more (let a = c.start-phases.auto.spots in let b = c.deref_mut.ensures.len in omega arith) in
    subst (λ z. IsPriced square n (2 ^ c.start-phases.result) c.start-phases.new.flow (price_of z)) (sym e) c.start-phases.ensures.priced

pub run_phases-requires-clause-fresh : goal.run_phases-requires-clause-fresh
run_phases-requires-clause-fresh g c =
    let n = c.args.net.now in
    let more = c.start-phases.new.spots in
    let spots = c.begin.new.self.spots in
    let e = with_items_is spots more (let a = c.start-phases.auto.spots in let b = c.deref_mut.ensures.len in omega arith) in
    subst AreFresh (sym e) c.start-phases.ensures.fresh

pub run_phases-requires-clause-small : goal.run_phases-requires-clause-small
run_phases-requires-clause-small g c =
    let n = c.args.net.now in
    let more = c.start-phases.new.spots in
    let spots = c.begin.new.self.spots in
    let e = with_items_is spots more (let a = c.start-phases.auto.spots in let b = c.deref_mut.ensures.len in omega arith) in
    subst (AreWithin (2 ^ 88)) (sym e) c.start-phases.ensures.small
