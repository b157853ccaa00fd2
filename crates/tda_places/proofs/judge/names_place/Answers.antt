use Rattle.std.proofs.Common.{◌≡◌, ◌∙◌, [], ◌∷◌, ap, false, get_or, sym, take, true}
use Rattle.std.specs.Fmt.{decimal}
use Rattle.std.specs.Str.{bytes_eq}
use Rattle.tda_io.specs.Csv.{same_row}
use Rattle.tda_model.specs.Spine.{code_of}
use Rattle.tda_schema.specs.Stated.{query_at}
use Rattle.tda_places.specs.Spots.{place_of}
use Rattle.tda_places.proofs.Fields.{other_first, other_second, third}
use Rattle.tda_places.proofs.Judging.{equal, fields_are, unequal}
use Rattle.tda_places.proofs.judge.names_place.Goals as goal

pub returns-then-ne : goal.returns-then-ne
returns-then-ne c =
    let s = c.args.schema.now in
    let sp = c.args.spine.now in
    let spot = c.args.spot in
    let p = place_of s sp spot in
    let row = c.args.row.now.row in
    let code : bytes_eq (code_of sp p.unit) (get_or row 0 []) ≡ false = unequal _ c.ne.result (rw (c.as_bytes.ensures.value, c.code.ensures.code, c.place_of-place.ensures.value, c.field.ensures) at c.ne.ensures) c.if-ne.true in
    sym (ap (λ r. same_row r (take 3 row)) (fields_are s sp c.requires.at.0 spot c.requires.at.1)
    ∙ other_first (code_of sp p.unit) (query_at s spot.level spot.query).name (decimal p.class) row c.requires.width code)

pub returns-then-ne-2 : goal.returns-then-ne-2
returns-then-ne-2 c =
    let s = c.args.schema.now in
    let sp = c.args.spine.now in
    let spot = c.args.spot in
    let p = place_of s sp spot in
    let row = c.args.row.now.row in
    let code : bytes_eq (code_of sp p.unit) (get_or row 0 []) ≡ true = equal _ c.ne.result (rw (c.as_bytes.ensures.value, c.code.ensures.code, c.place_of-place.ensures.value, c.field.ensures) at c.ne.ensures) c.if-ne.false in
    let query : bytes_eq (query_at s spot.level spot.query).name (get_or row 1 []) ≡ false = unequal _ c.ne-2.result (rw (c.as_bytes-2.ensures.value, c.query_name.ensures.value, c.field-2.ensures) at c.ne-2.ensures) c.if-ne-2.true in
    sym (ap (λ r. same_row r (take 3 row)) (fields_are s sp c.requires.at.0 spot c.requires.at.1)
    ∙ other_second (code_of sp p.unit) (query_at s spot.level spot.query).name (decimal p.class) row c.requires.width code query)

pub returns : goal.returns
returns c =
    let s = c.args.schema.now in
    let sp = c.args.spine.now in
    let spot = c.args.spot in
    let p = place_of s sp spot in
    let row = c.args.row.now.row in
    let code : bytes_eq (code_of sp p.unit) (get_or row 0 []) ≡ true = equal _ c.ne.result (rw (c.as_bytes.ensures.value, c.code.ensures.code, c.place_of-place.ensures.value, c.field.ensures) at c.ne.ensures) c.if-ne.false in
    let query : bytes_eq (query_at s spot.level spot.query).name (get_or row 1 []) ≡ true = equal _ c.ne-2.result (rw (c.as_bytes-2.ensures.value, c.query_name.ensures.value, c.field-2.ensures) at c.ne-2.ensures) c.if-ne-2.false in
    let class : c.is_decimal.result ≡ bytes_eq (decimal p.class) (get_or row 2 []) = rw (c.place_of-place.ensures.value, c.field-3.ensures) at c.is_decimal.ensures in
    class
    ∙ sym (ap (λ r. same_row r (take 3 row)) (fields_are s sp c.requires.at.0 spot c.requires.at.1)
    ∙ third (code_of sp p.unit) (query_at s spot.level spot.query).name (decimal p.class) row c.requires.width code query)
