-- Whether a row is the header of records, field by field.
use Rattle.std.proofs.Common.{◌≡◌, ◌≢◌, ℕ, suc, ◌+◌, ◌<◌, Bool, true, false, ◌&&◌, not, List, [], length, get_or, drop, Some, sym, ap, ◌∙◌, arith}
use Rattle.std.specs.Prelude.{option_map, slice_get}
use Rattle.std.specs.Str.{bytes_eq}
use Rattle.std.proofs.lemmas.List.{length-map}
use Rattle.std.proofs.lemmas.Option.{same_Some, slice_get-get_or}
use Rattle.std.proofs.Math.ListN.{get_or-map}
use Rattle.tda_io.specs.Csv.{Row, same_row}
use Rattle.tda_io.proofs.Headers.{same_row-long}
use Rattle.tda_model.specs.Schema.{Attribute, Schema}
use Rattle.tda_records.specs.Records.{header}

pub header-long : (s : Schema) → length (header s) ≡ length s.attributes + 1
header-long s = omega (arith, length-map s.attributes (λ a. a.name))

-- the name of an attribute in the header
pub header_name : (s : Schema) (a : ℕ) (name : List ℕ) → a < length s.attributes → option_map (λ x. x.name) (slice_get s.attributes a) ≡ Some name → get_or (header s) (a + 1) [] ≡ name
header_name s a name below named =
    let none : Attribute = record { name = []; values = [] } in
    let found = slice_get-get_or s.attributes a none below in
    let one : a + 1 ≡ suc a = omega arith in
    let same : Some (get_or s.attributes a none).name ≡ Some name = ap (option_map (λ (x : Attribute). x.name)) (sym found) ∙ named in
    rw one (get_or-map (λ x. x.name) s.attributes a none ∙ same_Some _ _ same)

pub other_width : (s : Schema) (row : Row) → length row ≢ length s.attributes + 1 → false ≡ same_row (header s) row
other_width s row other = sym (same_row-long (header s) row (λ e. other (sym e ∙ header-long s)))
