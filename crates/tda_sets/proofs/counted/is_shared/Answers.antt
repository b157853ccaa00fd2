use Rattle.std.proofs.Common.{◌≡◌, ◌∙◌, ◌&&◌, ap, sym, arith, length, get_or, true, false}
use Rattle.std.proofs.lemmas.Bool.{not-true}
use Rattle.tda_sets.specs.Family.{is_in}
use Rattle.tda_sets.specs.Nested.{is_kept}
use Rattle.tda_sets.specs.Counted.{is_shared}
use Rattle.tda_sets.proofs.Kept.{both_kept, kept_length}
use Rattle.tda_sets.proofs.counted.is_shared.Goals as goal

pub bounds-kept-number : goal.bounds-kept-number
bounds-kept-number c = omega (arith, kept_length c.args.names.now c.args.others.now c.args.kept.now (length c.args.names.now) c.requires.kept, c.requires.number)

pub returns-then-kept-number : goal.returns-then-kept-number
returns-then-kept-number c =
    let names = c.args.names.now in
    let others = c.args.others.now in
    let i = c.args.number in
    let both = both_kept names others c.args.kept.now c.args.others_kept.now (length names) i c.requires.kept c.requires.others_kept c.requires.number
    (sym c.is_least.ensures ∙ c.if-not-is_least.false) (sym c.is_least-2.ensures ∙ c.if-not-is_least-2.false) in
    sym (both ∙ ap (λ b. b && get_or c.args.others_kept.now i false) c.if-kept-number.true)

pub returns-else-kept-number : goal.returns-else-kept-number
returns-else-kept-number c =
    let names = c.args.names.now in
    let others = c.args.others.now in
    let i = c.args.number in
    let both = both_kept names others c.args.kept.now c.args.others_kept.now (length names) i c.requires.kept c.requires.others_kept c.requires.number
    (sym c.is_least.ensures ∙ c.if-not-is_least.false) (sym c.is_least-2.ensures ∙ c.if-not-is_least-2.false) in
    c.if-kept-number.false ∙ sym (both ∙ ap (λ b. b && get_or c.args.others_kept.now i false) c.if-kept-number.false)
