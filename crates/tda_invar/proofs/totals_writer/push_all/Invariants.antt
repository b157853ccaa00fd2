use Rattle.std.proofs.Common.{◌≡◌, ◌++◌, take}
use Rattle.std.specs.List.{flat_map}
use Rattle.tda_model.specs.TablesText.{row_text}
use Rattle.tda_invar.specs.Totals.{header, total_row}
use Rattle.tda_invar.proofs.totals_writer.push_all.Given as goal

abbrev pub invariant-loop-place : goal.invariant-loop-place
invariant-loop-place l = l.out.items ≡ l.fn.out.items ++ row_text header ++ flat_map (λ u. row_text (total_row l.spine l.totals u)) (take l.place l.state-items)
