use Rattle.std.proofs.Common.{◌≡◌, ◌∙◌, ◌++◌, ◌∷◌, ◌≤◌, ◌<◌, [], List, ℕ, ℤ, ap, append_assoc, arith, get_or, length, of_z, pos, refl, sym, take, to_z}
use Rattle.std.proofs.lemmas.Int.{fits_signed_from_abs, to_z-of_z}
use Rattle.std.specs.Int.{w64}
use Rattle.std.proofs.lemmas.List.{take_all}
use Rattle.std.specs.Fmt.{decimal, signed_decimal}
use Rattle.std.specs.List.{flat_map, zip}
use Rattle.tda_io.specs.Texts.{row_text}
use Rattle.tda_io.proofs.Appends.{kept_start, on_err, one_more}
use Rattle.tda_model.specs.Spine.{code_of}
use Rattle.tda_schema.specs.Stated.{query_at}
use Rattle.tda_places.specs.Measurements.{header, measurement_row, IsWithinLimit}
use Rattle.tda_places.specs.Places.{places_of}
use Rattle.tda_places.specs.Spots.{place_of}
use Rattle.tda_places.specs.declared.place.Place.{Place}
use Rattle.tda_places.proofs.Spots.{nowhere}
use Rattle.tda_places.proofs.Written.{measured_long, row_is}
use Rattle.tda_places.proofs.writer.push_all.Goals as goal

pub returns-in_err-push_measurement-clause-err : goal.returns-in_err-push_measurement-clause-err
returns-in_err-push_measurement-clause-err c =
    let s = c.args.schema.now in
    let sp = c.args.spine.now in
    let f = λ (x : Place × ℤ). row_text (measurement_row s sp x.0 x.1) in
    let done = flat_map f (take c.loop-index.index (zip (places_of s sp) c.args.m.now)) in
    on_err c.from_residual-in_err-push_measurement.result
    (kept_start c.args.out.now.items c.loop-index.out.items c.push_measurement.new.out.items (row_text header ++ done)
    (c.loop-index.invariant.text ∙ append_assoc c.args.out.now.items (row_text header) done) c.in_err-push_measurement.ensures.err)

pub loop-index-preserved : goal.loop-index-preserved
loop-index-preserved c =
    let s = c.args.schema.now in
    let sp = c.args.spine.now in
    let m = c.args.m.now in
    let k = c.loop-index.index in
    let spot = c.next_spot-spot.result in
    let f = λ (x : Place × ℤ). row_text (measurement_row s sp x.0 x.1) in
    let items = c.numbers-value-items.result.now in
    let below : k < length m = rw c.numbers-value-items.ensures at c.loop-index-test.true in
    let code : c.code.result.now ≡ code_of sp (place_of s sp spot).unit = rw c.place_of-place.ensures.value at c.code.ensures.code in
    let query : c.query_name-query.result.now ≡ (query_at s spot.level spot.query).name = c.query_name-query.ensures.value in
    let class : c.place_of-place.result.class ≡ (place_of s sp spot).class = ap (λ (p : Place). p.class) c.place_of-place.ensures.value in
    let number = get_or items k (pos 0) in
    let same : number ≡ get_or m k (pos 0) = ap (λ zs. get_or zs k (pos 0)) c.numbers-value-items.ensures in
    let limit : IsWithinLimit number = rw same (c.requires.measured.few k (pos 0) below) in
    let passed : to_z w64 (of_z w64 number) ≡ number = to_z-of_z w64 number (fits_signed_from_abs w64 number (omega (arith, limit))) in
    let part =
    ap (λ z. row_text (c.code.result.now ∷ c.query_name-query.result.now ∷ decimal c.place_of-place.result.class ∷ signed_decimal z ∷ [])) passed
    ∙ ap (λ x. row_text (x ∷ c.query_name-query.result.now ∷ decimal c.place_of-place.result.class ∷ signed_decimal (get_or items k (pos 0)) ∷ [])) code
    ∙ ap (λ x. row_text (code_of sp (place_of s sp spot).unit ∷ x ∷ decimal c.place_of-place.result.class ∷ signed_decimal (get_or items k (pos 0)) ∷ [])) query
    ∙ ap (λ n. row_text (code_of sp (place_of s sp spot).unit ∷ (query_at s spot.level spot.query).name ∷ decimal n ∷ signed_decimal (get_or items k (pos 0)) ∷ [])) class
    ∙ ap (λ zs. row_text (code_of sp (place_of s sp spot).unit ∷ (query_at s spot.level spot.query).name ∷ decimal (place_of s sp spot).class ∷ signed_decimal (get_or zs k (pos 0)) ∷ [])) c.numbers-value-items.ensures
    ∙ ap row_text (sym (row_is s sp m c.requires.measured k spot c.next_spot-spot.ensures below)) in
    record {
      text = one_more f (zip (places_of s sp) m) k (nowhere, pos 0) (c.args.out.now.items ++ row_text header) c.loop-index.out.items c.push_measurement.new.out.items _
          (omega (arith, below, measured_long s sp m c.requires.measured, c.requires.measured.size)) c.loop-index.invariant.text c.in_ok-push_measurement.ensures.ok part;
      last = (k, refl, c.next_spot-spot.ensures);
    }

pub returns-clause-ok : goal.returns-clause-ok
returns-clause-ok c =
    let s = c.args.schema.now in
    let sp = c.args.spine.now in
    let m = c.args.m.now in
    let f = λ (x : Place × ℤ). row_text (measurement_row s sp x.0 x.1) in
    let all = zip (places_of s sp) m in
    let items = ap (λ zs. length zs) c.numbers-value-items.ensures in
    let enough : length all ≤ c.loop-index.index = omega (arith, c.loop-index-test.false, items, measured_long s sp m c.requires.measured, c.requires.measured.size) in
    c.loop-index.invariant.text
    ∙ append_assoc c.args.out.now.items (row_text header) (flat_map f (take c.loop-index.index all))
    ∙ ap (λ xs. c.args.out.now.items ++ (row_text header ++ flat_map f xs)) (take_all c.loop-index.index all enough)
