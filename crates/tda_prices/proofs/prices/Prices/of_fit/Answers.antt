use Rattle.std.proofs.Common.{◌+◌, ◌∙◌, ap, arith, length}
use Rattle.std.specs.List.{between}
use Rattle.tda_prices.proofs.Starts.{begins, part_is, room, start_is}
use Rattle.tda_prices.proofs.prices.Prices.of_fit.Goals as goal

pub overflow_add-result : goal.overflow_add-result
overflow_add-result c =
    let s = c.args.schema.now in
    let sp = c.args.spine.now in
    let t = c.units.ensures.sound.tree in
    let at = start_is s sp t c.args.self.now c.requires.prices c.args.fit c.requires.fit c.start-start.result c.start-start.ensures.none c.start-start.ensures.some in
    let view = ap (λ p. length p.numbers) c.self.view_is in
    omega (arith, at, room s sp t c.args.fit c.requires.fit, c.price_count-count.ensures, c.requires.prices.prices.size, view, ap length c.deref.ensures.value, c.self.inside.numbers.ok.0, c.self.inside.numbers.small)

pub offset_bounds-deref-start : goal.offset_bounds-deref-start
offset_bounds-deref-start c =
    let s = c.args.schema.now in
    let sp = c.args.spine.now in
    let t = c.units.ensures.sound.tree in
    let at = start_is s sp t c.args.self.now c.requires.prices c.args.fit c.requires.fit c.start-start.result c.start-start.ensures.none c.start-start.ensures.some in
    let view = ap (λ p. length p.numbers) c.self.view_is in
    omega (arith, at, room s sp t c.args.fit c.requires.fit, c.price_count-count.ensures, c.requires.prices.prices.size, view, ap length c.deref.ensures.value, c.self.inside.numbers.ok.0, c.self.inside.numbers.small)

pub slice_bounds-result-end : goal.slice_bounds-result-end
slice_bounds-result-end c =
    let s = c.args.schema.now in
    let sp = c.args.spine.now in
    let t = c.units.ensures.sound.tree in
    let at = start_is s sp t c.args.self.now c.requires.prices c.args.fit c.requires.fit c.start-start.result c.start-start.ensures.none c.start-start.ensures.some in
    let view = ap (λ p. length p.numbers) c.self.view_is in
    omega (arith, at, room s sp t c.args.fit c.requires.fit, c.price_count-count.ensures, c.requires.prices.prices.size, view, ap length c.deref.ensures.value, c.self.inside.numbers.ok.0, c.self.inside.numbers.small)

pub returns-clause-prices : goal.returns-clause-prices
returns-clause-prices c =
    let s = c.args.schema.now in
    let sp = c.args.spine.now in
    let t = c.units.ensures.sound.tree in
    let at = start_is s sp t c.args.self.now c.requires.prices c.args.fit c.requires.fit c.start-start.result c.start-start.ensures.none c.start-start.ensures.some in
    let view = ap (λ p. length p.numbers) c.self.view_is in
    let numbers = c.args.self.now.numbers in
    ap (between c.start-start.result (c.start-start.result + c.price_count-count.result)) (c.deref.ensures.value ∙ ap (λ p. p.numbers) c.self.view_is)
    ∙ ap (λ m. between m (m + c.price_count-count.result) numbers) at
    ∙ ap (λ n. between (begins s sp t c.args.fit) (begins s sp t c.args.fit + n) numbers) c.price_count-count.ensures
    ∙ part_is s sp t c.args.fit c.requires.fit numbers c.requires.prices.prices.size
