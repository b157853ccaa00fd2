use Rattle.std.proofs.Common.{◌≡◌, ◌∙◌, ◌*◌, ◌/◌, ◌%◌, ◌≤◌, ℕ, List, All, length, refl, sym, subst, ap, arith}
use Rattle.std.proofs.lemmas.List.Elements.{All-push}
use Rattle.std.proofs.lemmas.List.FromFn.{length-map-range_with_len}
use Rattle.tda_invar.specs.Facilities.{own_need}
use Rattle.tda_invar.specs.KindTable.{number_limit}
use Rattle.tda_invar.proofs.RangeLemmas.{map_more}
use Rattle.tda_invar.proofs.lows.own_needs.Goals as goal

pub loop-place-preserved : goal.loop-place-preserved
loop-place-preserved c =
    let f = c.args.facilities.now in
    let kinds = c.from-kinds.ensures ∙ c.kinds.ensures in
    record {
      needs =
          c.in_ok-push.ensures.items
          ∙ map_more (λ place. own_need f (place / f.kinds) (place % f.kinds)) c.loop-place.place c.loop-place.numbers.items c.own_need.result
          c.loop-place.invariant.needs (rw kinds at c.own_need.ensures.need);
      small =
          let Small : List ℕ → Type 0 = All (λ n. n ≤ number_limit) in
          subst Small (sym c.in_ok-push.ensures.items) (All-push (λ n. n ≤ number_limit) c.loop-place.numbers.items c.own_need.result c.loop-place.invariant.small c.own_need.ensures.limit);
    }

pub new-requires-clause-size : goal.new-requires-clause-size
new-requires-clause-size c =
    let f = c.args.facilities.now in
    let need : ℕ → ℕ = λ place. own_need f (place / f.kinds) (place % f.kinds) in
    let size = ap length c.loop-place.invariant.needs ∙ length-map-range_with_len need 0 c.loop-place.place in
    let all : c.loop-place.place ≡ c.units-units.result * c.from-kinds.result = omega (arith, c.loop-place-test.false, c.loop-place.auto.place-end) in
    let kinds : c.from-kinds.result ≡ c.kinds-2.result = c.from-kinds.ensures ∙ c.kinds.ensures ∙ sym c.kinds-2.ensures in
    size ∙ all ∙ ap (λ n. c.units-units.result * n) kinds
