use Rattle.std.proofs.Common.{◌≡◌, ◌∙◌, ap, Some, None, Option, ℕ, get_or, []}
use Rattle.tda_spine.specs.Rows.{place_of, code_in}
use Rattle.tda_spine.proofs.Places.{is_repeated-place, stands_before}
use Rattle.tda_spine.proofs.rows.SpineRows.is_repeated.Goals as goal

pub returns-in-Some : goal.returns-in-Some
returns-in-Some c =
    let rows = c.args.self.now in
    let at : Some c.in-Some.place ≡ place_of rows (code_in (get_or rows c.args.row [])) = c.in-Some.ensures.place ∙ ap (place_of rows) c.code.ensures in
    ap (λ o. stands_before o c.args.row) at ∙ is_repeated-place rows c.args.row c.requires

pub returns-in-None : goal.returns-in-None
returns-in-None c =
    let rows = c.args.self.now in
    let none : Option ℕ = None in
    let at : none ≡ place_of rows (code_in (get_or rows c.args.row [])) = c.in-None.ensures.place ∙ ap (place_of rows) c.code.ensures in
    ap (λ o. stands_before o c.args.row) at ∙ is_repeated-place rows c.args.row c.requires
