-- The files that each command reads first, one by one.
use Rattle.std.proofs.Common.{◌≡◌, refl, codes, Option, List, ℕ, Result, Ok, Err}
use Rattle.std.specs.Result.{IsErrAnd}
use Rattle.tda_io.specs.Outside.{Shelf}
use Rattle.tda_model.specs.Schema.{Schema}
use Rattle.tda_model.specs.Spine as model
use Rattle.tda_schema.specs.Read as schema
use Rattle.tda_spine.specs.Judged as spine
use Rattle.tda_invar.specs.KindTable.{NumberTable}
use Rattle.tda_invar.specs.Facilities as facilities
use Rattle.tda_inputs.specs.Ending.{Ending, judged_file}
use Rattle.tda_inputs.specs.Accepted.{Given, base_from}
use Rattle.tda_refusal.specs.Refusal.{schema_text, spine_text, facilities_text}
use Rattle.tda_inputs.specs.Files.{IsRead}
use Rattle.tda_inputs.specs.Reading.{GivesFile, AsksFile, AsksFiles, Gathers}
use Rattle.tda_inputs.specs.declared.base.Base.{Base}
use Rattle.tda_inputs.specs.declared.reading.File.TheVariants as file
use Rattle.tda_inputs.specs.declared.reading.Stop.{Stop}
use Rattle.tda_inputs.proofs.Stops.{From, goes_on, HasRead, no_file, read_on, halted, same_gathers}

-- how the files are judged
abbrev pub schema_from : From Schema
schema_from held = judged_file (codes "schema") schema_text schema.read held

abbrev pub spine_from : Schema → From model.Spine
spine_from s held = judged_file (codes "spine") spine_text (spine.read s) held

abbrev pub facilities_from : Schema → model.Spine → From NumberTable
facilities_from s sp held = judged_file (codes "facilities") facilities_text (facilities.read s sp) held

-- the base that is due once some of them are judged
abbrev pub base_with : Schema → model.Spine → NumberTable → Given → Result Base Ending
base_with s sp f given = Ok (record { schema = s; spine = sp; facilities = f })

abbrev pub after_spine : Schema → model.Spine → Given → Result Base Ending
after_spine s sp given = goes_on file.Facilities (facilities_from s sp) (base_with s sp) given

abbrev pub after_schema : Schema → Given → Result Base Ending
after_schema s given = goes_on file.Spine (spine_from s) (after_spine s) given

module _ (words : List (List ℕ)) where
  pub schema_read : (old new : Option Shelf) (s : Schema) → IsRead words file.Schema → GivesFile words file.Schema schema_text schema.read old (Ok s)
      → AsksFile {T = Schema} words file.Schema old new (Ok s) → HasRead words base_from old new 1 (after_schema s)
  schema_read old new s reads gives asked = read_on words base_from file.Schema schema_from after_schema old old new s reads (no_file words base_from old) gives asked

  pub schema_halts : (old new : Option Shelf) (e : Stop) (r : Result Base Stop) → IsErrAnd r (λ x. x ≡ e) → IsRead words file.Schema
      → GivesFile words file.Schema schema_text schema.read old (Err e) → AsksFile {T = Schema} words file.Schema old new (Err e) → Gathers words 3 base_from old r × AsksFiles {X = Base} words 3 old new r
  schema_halts old new e r same reads gives asked =
      same_gathers words 3 base_from old new e r same (halted words base_from file.Schema schema_from after_schema 3 old old new e refl reads (no_file words base_from old) gives asked)

  module _ (old mid : Option Shelf) (s : Schema) (before : HasRead words base_from old mid 1 (after_schema s)) where
    pub spine_read : (new : Option Shelf) (sp : model.Spine) → IsRead words file.Spine → GivesFile words file.Spine spine_text (spine.read s) mid (Ok sp)
        → AsksFile {T = model.Spine} words file.Spine mid new (Ok sp) → HasRead words base_from old new 2 (after_spine s sp)
    spine_read new sp reads gives asked = read_on words base_from file.Spine (spine_from s) (after_spine s) old mid new sp reads before gives asked

    pub spine_halts : (new : Option Shelf) (e : Stop) (r : Result Base Stop) → IsErrAnd r (λ x. x ≡ e) → IsRead words file.Spine
        → GivesFile words file.Spine spine_text (spine.read s) mid (Err e) → AsksFile {T = model.Spine} words file.Spine mid new (Err e) → Gathers words 3 base_from old r × AsksFiles {X = Base} words 3 old new r
    spine_halts new e r same reads gives asked =
        same_gathers words 3 base_from old new e r same (halted words base_from file.Spine (spine_from s) (after_spine s) 3 old mid new e refl reads before gives asked)

  module _ (old mid : Option Shelf) (s : Schema) (sp : model.Spine) (before : HasRead words base_from old mid 2 (after_spine s sp)) where
    pub facilities_read : (new : Option Shelf) (f : NumberTable) → IsRead words file.Facilities → GivesFile words file.Facilities facilities_text (facilities.read s sp) mid (Ok f)
        → AsksFile {T = NumberTable} words file.Facilities mid new (Ok f) → HasRead words base_from old new 3 (base_with s sp f)
    facilities_read new f reads gives asked = read_on words base_from file.Facilities (facilities_from s sp) (base_with s sp) old mid new f reads before gives asked

    pub facilities_halt : (new : Option Shelf) (e : Stop) (r : Result Base Stop) → IsErrAnd r (λ x. x ≡ e) → IsRead words file.Facilities
        → GivesFile words file.Facilities facilities_text (facilities.read s sp) mid (Err e) → AsksFile {T = NumberTable} words file.Facilities mid new (Err e) → Gathers words 3 base_from old r × AsksFiles {X = Base} words 3 old new r
    facilities_halt new e r same reads gives asked =
        same_gathers words 3 base_from old new e r same (halted words base_from file.Facilities (facilities_from s sp) (base_with s sp) 3 old mid new e refl reads before gives asked)
