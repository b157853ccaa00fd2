use Rattle.std.proofs.Common.{◌≡◌, ◌++◌, ◌∷◌, []}
use Rattle.std.specs.List.{flat_map}
use Rattle.tda_io.specs.Texts.{row_text}
use Rattle.tda_demo.specs.DemoSpine.{blocks}
use Rattle.tda_demo.specs.PreorderRows.{rows_below}
use Rattle.tda_demo.specs.Schema.{schema}
use Rattle.tda_demo.proofs.spine_rows.push_tracts.Given as goal

abbrev pub invariant-loop-k : goal.invariant-loop-k
invariant-loop-k l = l.out.items ≡ l.fn.out.items ++ flat_map row_text (rows_below schema ((record { letter = 84; count = l.k }) ∷ blocks l.size ∷ []) 2 l.county l.county)
