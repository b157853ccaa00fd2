use Rattle.std.proofs.Common.{◌≡◌, ℕ, List, take}
use Rattle.tda_io.specs.Csv.{after_header}
use Rattle.tda_spine.specs.Index.{found}
use Rattle.tda_spine.specs.Rows.{place_of}
use Rattle.tda_spine.proofs.rows.SpineRows.new.Given as goal

abbrev pub invariant-loop-row : goal.invariant-loop-row
invariant-loop-row l = (code : List ℕ) → found l.codes code ≡ place_of (take l.row (after_header l.rows)) code
