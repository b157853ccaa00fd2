use Rattle.std.proofs.Common.{◌∙◌, ◌++◌, ◌∷◌, [], ap, sym}
use Rattle.tda_model.specs.Cells.{is_possible}
use Rattle.tda_sets.proofs.Ranges.{filter_range_push, filter_range_skip}
use Rattle.tda_groups.proofs.sources.possible_cells.Goals as goal
use Rattle.tda_groups.proofs.sources.possible_cells.Goals.{then-possible+in_ok-push, else-possible}

pub loop-cell-preserved : goal.loop-cell-preserved
loop-cell-preserved c =
    let p = is_possible c.args.schema.now in
    let i = c.loop-cell.cell in
    elim c.if-possible.branch [
      | then-possible+in_ok-push w ↦
          w.set-is ∙ w.in_ok-push.ensures ∙ ap (λ xs. xs ++ i ∷ []) c.loop-cell.invariant ∙ sym (filter_range_push p i (sym c.possible.ensures ∙ w.if-possible.true))
      | else-possible w ↦ w.set-is ∙ c.loop-cell.invariant ∙ sym (filter_range_skip p i (sym c.possible.ensures ∙ w.if-possible.false))
    ]
