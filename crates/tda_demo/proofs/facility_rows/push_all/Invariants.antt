use Rattle.std.proofs.Common.{◌≡◌, ◌++◌, []}
use Rattle.std.specs.List.{flat_map}
use Rattle.tda_io.specs.Texts.{row_text}
use Rattle.tda_demo.specs.BlockCodes.{leaf_code}
use Rattle.tda_demo.specs.DemoSpine.{branches}
use Rattle.tda_demo.specs.Facilities.{facility_rows}
use Rattle.tda_demo.specs.Schema.{schema}
use Rattle.tda_demo.proofs.facility_rows.push_all.Given as goal

abbrev pub invariant-loop-block : goal.invariant-loop-block
invariant-loop-block l = l.out.items ≡ l.fn.out.items ++ flat_map row_text (facility_rows schema (leaf_code (branches l.size) []) l.block)
