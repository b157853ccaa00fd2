-- The rows of the demo's blocks, by the codes of their numbers.
use Rattle.std.proofs.Common.{◌≡◌, ℕ, ◌+◌, ◌*◌, ◌/◌, ◌%◌, ◌<◌, ◌≤◌, ◌^◌, true, List, [], ◌∷◌, codes, refl, ap, subst, sym, ◌∙◌, arith, length, map}
use Rattle.std.specs.List.{AllByRecursion}
use Rattle.std.proofs.Math.Nat.{div-le_self, mod-le}
use Rattle.tda_io.specs.Texts.{is_plain_byte, IsPlain}
use Rattle.tda_demo.specs.BlockCodes.{leaf_count, leaf_code}
use Rattle.tda_demo.specs.DemoSpine.{states, counties, tracts, blocks, branches, spine}
use Rattle.tda_demo.specs.Facilities.{block_code, block_count, block_facility_rows, facility_rows}
use Rattle.tda_demo.specs.Persons.{block_persons, person_row, person_rows}
use Rattle.tda_demo.specs.Preorder.{Branch, child_code}
use Rattle.tda_demo.specs.Schema.{schema}
use Rattle.tda_demo.proofs.LeafCodes.{count_is, code_is}
use Rattle.tda_demo.proofs.Ranges.{flat_same}
use Rattle.tda_demo.proofs.Rows.{plain_child}

deep : (size : ℕ) → 1 ≤ length (branches size)
deep size = omega arith

pub leaf_count_is : (size : ℕ) → leaf_count (branches size) ≡ 24 * size
leaf_count_is size = omega arith

pub facility_rows_are : (size : ℕ) → facility_rows schema (block_code (spine size)) (block_count (spine size)) ≡ facility_rows schema (leaf_code (branches size) []) (24 * size)
facility_rows_are size =
    ap (facility_rows schema (block_code (spine size))) (count_is (codes "US") (branches size) (deep size) ∙ leaf_count_is size)
    ∙ flat_same (λ i. block_facility_rows schema (block_code (spine size) i) i) (λ i. block_facility_rows schema (leaf_code (branches size) [] i) i) 0 (24 * size)
    (λ i lo hi. ap (λ code. block_facility_rows schema code i) (code_is (codes "US") (branches size) (deep size) i (subst (λ n. i < n) (sym (leaf_count_is size)) (omega (arith, hi)))))

pub person_rows_are : (words : ℕ → ℕ) (size : ℕ) → person_rows schema words (block_code (spine size)) (block_count (spine size)) ≡ person_rows schema words (leaf_code (branches size) []) (24 * size)
person_rows_are words size =
    ap (person_rows schema words (block_code (spine size))) (count_is (codes "US") (branches size) (deep size) ∙ leaf_count_is size)
    ∙ flat_same (λ i. map (person_row schema (block_code (spine size) i)) (block_persons words i)) (λ i. map (person_row schema (leaf_code (branches size) [] i)) (block_persons words i)) 0 (24 * size)
    (λ i lo hi. ap (λ code. map (person_row schema code) (block_persons words i)) (code_is (codes "US") (branches size) (deep size) i (subst (λ n. i < n) (sym (leaf_count_is size)) (omega (arith, hi)))))

-- ---- the codes are written as they are
plain_leaf : (bs : List Branch) (stem : List ℕ) (i : ℕ) → AllByRecursion (λ b. is_plain_byte b.letter ≡ true) bs → IsPlain stem → i < 2 ^ 63
    → IsPlain (leaf_code bs stem i)
plain_leaf [] stem i letters plain small = plain
plain_leaf (b ∷ bs) stem i letters plain small =
    let part = div-le_self i (leaf_count bs) in
    let rest = mod-le i (leaf_count bs) in
    let n = i / leaf_count bs in
    plain_leaf bs (child_code stem b n) (i % leaf_count bs) letters.1 (plain_child stem b.letter (n + 1) plain.plain letters.0 (omega arith)) (omega arith)

pub plain_block : (size i : ℕ) → i < 2 ^ 32 → IsPlain (leaf_code (branches size) [] i)
plain_block size i small =
    let low : List Branch = counties ∷ tracts ∷ blocks size ∷ [] in
    let part = div-le_self i (leaf_count low) in
    let rest = mod-le i (leaf_count low) in
    let n = i / leaf_count low in
    plain_leaf low (child_code [] states n) (i % leaf_count low) (refl, (refl, (refl, tt))) (plain_child [] 83 (n + 1) refl refl (omega arith)) (omega arith)
