use Rattle.std.proofs.Common.{◌≡◌, ◌∙◌, ◌+◌, None, Some, ap, sym}
use Rattle.tda_places.specs.Measurements.{measurement_in, measurement_named}
use Rattle.tda_places.specs.Spots.{place_of}
use Rattle.tda_places.specs.declared.fault.MeaFault.TheVariants.{BadNumber, WrongPlace}
use Rattle.tda_places.proofs.Judging.{no_fault, no_number, other_place}
use Rattle.tda_places.proofs.Spots.{index_below, place_got}
use Rattle.tda_places.proofs.judge.judge.Goals as goal

pub returns-then-not-names_place-clause-err : goal.returns-then-not-names_place-clause-err
returns-then-not-names_place-clause-err c =
    let s = c.args.schema.now in
    let sp = c.args.spine.now in
    let spot = c.next_spot-spot.result in
    let at = c.next_spot-spot.ensures in
    other_place s sp c.args.index (place_of s sp spot) (place_got s sp c.args.index spot at) (index_below s sp c.args.index spot at) c.args.row.now.row (sym c.names_place.ensures ∙ c.if-not-names_place.true)
    ∙ ap (λ n. Some (WrongPlace n)) (sym (c.number-number.ensures ∙ c.requires.number))

pub returns-in-Some-value-clause-fine : goal.returns-in-Some-value-clause-fine
returns-in-Some-value-clause-fine c =
    let s = c.args.schema.now in
    let sp = c.args.spine.now in
    let spot = c.next_spot-spot.result in
    let at = c.next_spot-spot.ensures in
    let number : measurement_in c.args.row.now.row ≡ Some c.in-Some-value.value = ap measurement_named (sym c.field.ensures) ∙ sym c.measurement_named-value.ensures.value ∙ c.in-Some-value.is in
    no_fault s sp c.args.index (place_of s sp spot) (place_got s sp c.args.index spot at) (index_below s sp c.args.index spot at) c.args.row.now.row (sym c.names_place.ensures ∙ c.if-not-names_place.false) c.in-Some-value.value number

pub returns-in-None-value-clause-err : goal.returns-in-None-value-clause-err
returns-in-None-value-clause-err c =
    let s = c.args.schema.now in
    let sp = c.args.spine.now in
    let spot = c.next_spot-spot.result in
    let at = c.next_spot-spot.ensures in
    let number : measurement_in c.args.row.now.row ≡ None = ap measurement_named (sym c.field.ensures) ∙ sym c.measurement_named-value.ensures.value ∙ c.in-None-value.is in
    no_number s sp c.args.index (place_of s sp spot) (place_got s sp c.args.index spot at) (index_below s sp c.args.index spot at) c.args.row.now.row (sym c.names_place.ensures ∙ c.if-not-names_place.false) number
    ∙ ap (λ n. Some (BadNumber n)) (sym (c.number-number.ensures ∙ c.requires.number))
