-- Spines of a release of one cell, judged by the definitions alone.
use Rattle.std.proofs.Common.{◌≡◌, [], ◌∷◌, List, ℕ, refl, Some, None, Ok, Err, codes}
use Rattle.tda_io.specs.Csv.{Row, judged}
use Rattle.tda_model.specs.Schema.{Schema}
use Rattle.tda_model.specs.Sizes.{fit_size}
use Rattle.tda_model.specs.Spine.{Spine}
use Rattle.tda_spine.specs.Judged.{format, fits_of}
use Rattle.tda_spine.specs.Rows.{spine_in}
use Rattle.tda_spine.specs.declared.fault.SpineFault.TheVariants.{BadHeader, BadCode, Repeated, UnknownParent, WrongLevel, NoNation, Childless}

abbrev schema : Schema
schema = record {
  total = record { num = 1; den = 1 };
  attributes = record { name = codes "kind"; values = codes "house" ∷ [] } ∷ [];
  recodes = [];
  zeros = [];
  levels = record { name = codes "nation"; queries = [] } ∷ record { name = codes "state"; queries = [] } ∷ record { name = codes "block"; queries = [] } ∷ [];
}

abbrev row : List ℕ → List ℕ → List ℕ → Row
row unit level parent = unit ∷ level ∷ parent ∷ []

abbrev header : Row
header = row (codes "unit") (codes "level") (codes "parent")

abbrev nation : Row
nation = row (codes "US") (codes "nation") []

abbrev state : Row
state = row (codes "S1") (codes "state") (codes "US")

abbrev block : List ℕ → Row
block code = row code (codes "block") (codes "S1")

accepted : judged (format schema) (header ∷ nation ∷ state ∷ block (codes "B1") ∷ block (codes "B2") ∷ [])
    ≡ Ok (record { depth = 3; units = record { code = codes "US"; level = 0; parent = None } ∷ record { code = codes "S1"; level = 1; parent = Some 0 } ∷ record { code = codes "B1"; level = 2; parent = Some 1 } ∷ record { code = codes "B2"; level = 2; parent = Some 1 } ∷ [] })
accepted = refl

-- a parent may stand in a later row
parent_later : judged (format schema) (header ∷ block (codes "B1") ∷ state ∷ nation ∷ [])
    ≡ Ok (record { depth = 3; units = record { code = codes "B1"; level = 2; parent = Some 1 } ∷ record { code = codes "S1"; level = 1; parent = Some 2 } ∷ record { code = codes "US"; level = 0; parent = None } ∷ [] })
parent_later = refl

without_rows : judged (format schema) [] ≡ Err (BadHeader 1)
without_rows = refl

-- a file of the header alone has no nation
header_alone : judged (format schema) (header ∷ []) ≡ Err NoNation
header_alone = refl

no_code : judged (format schema) (header ∷ nation ∷ row [] (codes "state") (codes "US") ∷ block (codes "B1") ∷ []) ≡ Err (BadCode 3)
no_code = refl

block_twice : judged (format schema) (header ∷ nation ∷ state ∷ block (codes "B1") ∷ block (codes "B1") ∷ []) ≡ Err (Repeated 5)
block_twice = refl

-- a header's field is no code
parent_in_header : judged (format schema) (header ∷ nation ∷ state ∷ row (codes "B1") (codes "block") (codes "unit") ∷ []) ≡ Err (UnknownParent 4)
parent_in_header = refl

below_the_nation : judged (format schema) (header ∷ nation ∷ state ∷ row (codes "B1") (codes "block") (codes "US") ∷ []) ≡ Err (WrongLevel 4)
below_the_nation = refl

its_own_parent : judged (format schema) (header ∷ nation ∷ row (codes "S1") (codes "state") (codes "S1") ∷ block (codes "B1") ∷ []) ≡ Err (WrongLevel 3)
its_own_parent = refl

-- the first row that has a fault is told, though it has a later one in the list of faults than another row
first_row : judged (format schema) (header ∷ row (codes "US") (codes "nation") (codes "S1") ∷ state ∷ state ∷ []) ≡ Err (WrongLevel 2)
first_row = refl

two_nations : judged (format schema) (header ∷ nation ∷ row (codes "UK") (codes "nation") [] ∷ state ∷ []) ≡ Err NoNation
two_nations = refl

-- the first of two units without a child
without_blocks : judged (format schema) (header ∷ nation ∷ state ∷ row (codes "S2") (codes "state") (codes "US") ∷ []) ≡ Err (Childless 1)
without_blocks = refl

-- two states, the second of which is the first in the file
abbrev two_states : Spine
two_states =
    spine_in schema (row (codes "S2") (codes "state") (codes "US") ∷ nation ∷ state ∷ block (codes "B1") ∷ row (codes "B2") (codes "block") (codes "S2") ∷ [])

-- the nation comes before its states, and these in file order
fit_order : fits_of two_states ≡ None ∷ Some 1 ∷ Some 0 ∷ Some 2 ∷ []
fit_order = refl

-- one hub, two states, one kind and one group; an arc for each state, state and kind, cell and group
size_of_root : fit_size schema two_states None ≡ record { nodes = 5; arcs = 6 }
size_of_root = refl

-- one hub, one cell, and one group for each of two children; an arc for each cell, child and cell, and child and group
size_of_split : fit_size schema two_states (Some 1) ≡ record { nodes = 4; arcs = 5 }
size_of_split = refl
