use Rattle.std.proofs.Common.{◌≡◌, ◌≤◌, ◌<◌, ◌+◌, ◌∙◌, ap, sym, subst, arith, length, get_or, pos, nat_abs}
use Rattle.std.proofs.lemmas.Int.{fits_signed_from_abs, to_z-of_z}
use Rattle.std.proofs.lemmas.List.{get_or_read}
use Rattle.std.specs.Int.{w128}
use Rattle.tda_prices.specs.PricesText.{price_limit}
use Rattle.tda_prices.proofs.Starts.{price_at, room, start_is}
use Rattle.tda_prices.proofs.prices.Prices.get.Goals as goal

pub overflow_add-start : goal.overflow_add-start
overflow_add-start c =
    let s = c.args.schema.now in
    let sp = c.args.spine.now in
    let t = c.units.ensures.sound.tree in
    let at = start_is s sp t c.args.self.now c.requires.prices c.args.fit c.requires.fit c.start.result c.start.ensures.none c.start.ensures.some in
    let view = ap (λ p. length p.numbers) c.self.view_is in
    omega (arith, at, room s sp t c.args.fit c.requires.fit, c.requires.prices.prices.size, view, c.requires.index, c.self.inside.numbers.ok.0, c.self.inside.numbers.small)

pub index-requires : goal.index-requires
index-requires c =
    let s = c.args.schema.now in
    let sp = c.args.spine.now in
    let t = c.units.ensures.sound.tree in
    let at = start_is s sp t c.args.self.now c.requires.prices c.args.fit c.requires.fit c.start.result c.start.ensures.none c.start.ensures.some in
    let view = ap (λ p. length p.numbers) c.self.view_is in
    omega (arith, at, room s sp t c.args.fit c.requires.fit, c.requires.prices.prices.size, view, c.requires.index, c.self.inside.numbers.ok.0)

pub returns-clause-price : goal.returns-clause-price
returns-clause-price c =
    let s = c.args.schema.now in
    let sp = c.args.spine.now in
    let t = c.units.ensures.sound.tree in
    let items = c.self.inside.numbers.items in
    let k = c.start.result + c.args.index in
    let v = c.index.result.now in
    let at = start_is s sp t c.args.self.now c.requires.prices c.args.fit c.requires.fit c.start.result c.start.ensures.none c.start.ensures.some in
    let view = ap (λ p. length p.numbers) c.self.view_is in
    let below : k < length items = omega (arith, at, room s sp t c.args.fit c.requires.fit, c.requires.prices.prices.size, view, c.requires.index) in
    let read : v ≡ get_or items k (pos 0) = get_or_read items k _ below c.index.ensures (pos 0) in
    let near : nat_abs v ≤ price_limit = subst (λ z. nat_abs z ≤ price_limit) (sym read) (c.self.invariant k (pos 0) below) in
    to_z-of_z w128 v (fits_signed_from_abs w128 v (omega (arith, near)))
    ∙ read ∙ ap (λ p. get_or p.numbers k (pos 0)) c.self.view_is ∙ ap (λ m. get_or c.args.self.now.numbers (m + c.args.index) (pos 0)) at
    ∙ sym (price_at s sp t c.args.fit c.requires.fit c.args.self.now.numbers c.args.index c.requires.index)

pub returns-clause-limit : goal.returns-clause-limit
returns-clause-limit c =
    let s = c.args.schema.now in
    let sp = c.args.spine.now in
    let t = c.units.ensures.sound.tree in
    let items = c.self.inside.numbers.items in
    let k = c.start.result + c.args.index in
    let v = c.index.result.now in
    let at = start_is s sp t c.args.self.now c.requires.prices c.args.fit c.requires.fit c.start.result c.start.ensures.none c.start.ensures.some in
    let view = ap (λ p. length p.numbers) c.self.view_is in
    let below : k < length items = omega (arith, at, room s sp t c.args.fit c.requires.fit, c.requires.prices.prices.size, view, c.requires.index) in
    let read : v ≡ get_or items k (pos 0) = get_or_read items k _ below c.index.ensures (pos 0) in
    let near : nat_abs v ≤ price_limit = subst (λ z. nat_abs z ≤ price_limit) (sym read) (c.self.invariant k (pos 0) below) in
    let same = to_z-of_z w128 v (fits_signed_from_abs w128 v (omega (arith, near))) in
    subst (λ z. nat_abs z ≤ price_limit) (sym same) near
