use Rattle.std.proofs.Common.{◌≡◌, ◌++◌, ◌∷◌, [], codes}
use Rattle.std.specs.List.{flat_map}
use Rattle.tda_io.specs.Texts.{row_text}
use Rattle.tda_demo.specs.DemoSpine.{counties, tracts, blocks}
use Rattle.tda_demo.specs.PreorderRows.{rows_below}
use Rattle.tda_demo.specs.Schema.{schema}
use Rattle.tda_demo.proofs.spine_rows.push_states.Given as goal

abbrev pub invariant-loop-k : goal.invariant-loop-k
invariant-loop-k l = l.out.items ≡ l.fn.out.items ++ flat_map row_text (rows_below schema ((record { letter = 83; count = l.k }) ∷ counties ∷ tracts ∷ blocks l.size ∷ []) 0 [] (codes "US"))
