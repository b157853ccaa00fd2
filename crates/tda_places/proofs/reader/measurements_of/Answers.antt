use Rattle.std.proofs.Common.{◌≡◌, ◌∙◌, arith, length, of_z, to_z}
use Rattle.std.proofs.lemmas.Int.{fits_signed_from_abs, to_z-of_z}
use Rattle.std.specs.Int.{w64}
use Rattle.tda_places.specs.Measurements.{IsWithinLimit}
use Rattle.tda_places.proofs.Gathering.{goes_on}
use Rattle.tda_places.proofs.reader.measurements_of.Goals as goal

pub loop-numbers-preserved : goal.loop-numbers-preserved
loop-numbers-preserved c =
    let takes = rw c.if-branch.true at c.in_ok-next_row.ensures in
    let said = c.in-Ok.ensures in
    let index : c.len.result ≡ length c.loop-numbers.numbers.items = omega (arith, c.len.ensures, c.loop-numbers.numbers.ok) in
    let fine = rw index at said.fine in
    let at = rw index at said.at in
    let value = c.in-Ok.measured.value in
    let kept = to_z w64 (of_z w64 value) in
    let whole : kept ≡ value = to_z-of_z w64 value (fits_signed_from_abs w64 value (omega (arith, said.limit))) in
    let limit : IsWithinLimit kept = rw whole said.limit in
    rw c.in_ok-push-in-Ok.ensures.items
    (goes_on c.args.schema.now c.args.spine.now c.args.rows.now c.loop-numbers.rows c.next_row.new.self c.loop-numbers.numbers.items c.loop-numbers.last c.requires.number c.loop-numbers.invariant takes kept c.in-Ok.measured.spot fine (whole ∙ said.ok) limit at)
