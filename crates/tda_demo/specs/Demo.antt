-- The demo's files, for a number below 2^32 and a size from 1 to 64. The schema's text is the same for all.
use Rattle.std.specs.Prelude.{ℕ, List, ◌∷◌}
use Rattle.std.specs.List.{flat_map}
use Rattle.tda_io.specs.Texts.{row_text}
use Rattle.tda_model.specs.Spine.{Spine}
use Rattle.tda_demo.specs.Schema.{schema}
use Rattle.tda_demo.specs.DemoSpine as regular
use Rattle.tda_demo.specs.SpineText as units
use Rattle.tda_demo.specs.Facilities as facilities
use Rattle.tda_demo.specs.Facilities.{block_code, block_count}
use Rattle.tda_demo.specs.Persons as persons
use Rattle.tda_demo.specs.Persons.{word}

-- what a contract sees of the files
pub record Files : Type 0 where
  pub schema : List ℕ
  pub spine : List ℕ
  pub facilities : List ℕ
  pub records : List ℕ
  pub seed : List ℕ
  pub place : ℕ
  pub budget : ℕ

unfoldable pub spine : ℕ → Spine
spine size = regular.spine size

unfoldable pub spine_text : ℕ → List ℕ
spine_text size = units.spine_text schema (regular.spine size)

-- the header, and the facilities of each block
unfoldable pub facilities_text : ℕ → List ℕ
facilities_text size =
    let sp = regular.spine size in
    flat_map row_text (facilities.header ∷ facilities.facility_rows schema (block_code sp) (block_count sp))

-- the header, and the persons of each block
unfoldable pub records_text : ℕ → ℕ → List ℕ
records_text number size =
    let sp = regular.spine size in
    flat_map row_text
    (persons.header schema ∷ persons.person_rows schema (word number) (block_code sp) (block_count sp))
