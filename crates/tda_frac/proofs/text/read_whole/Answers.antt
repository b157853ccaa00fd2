-- The bytes that a number is written as are text, which `parse` reads as that number.
use Rattle.std.proofs.Common.{◌≡◌, ◌∙◌, arith, sym, subst}
use Rattle.std.proofs.lemmas.Fmt.{parse-decimal, IsAscii-decimal}
use Rattle.std.proofs.lemmas.Grind.{common_steps}
use Rattle.std.proofs.lemmas.Slice.Eq.{bytes_eq-Decides}
use Rattle.std.proofs.lemmas.Str.{IsUtf8-from_ascii}
use Rattle.std.specs.Fmt.{decimal}
use Rattle.std.specs.Str.{IsUtf8}
use Rattle.tda_frac.proofs.text.read_whole.Goals as goal

pub returns-in_err-text-clause-found : goal.returns-in_err-text-clause-found
returns-in_err-text-clause-found c = λ n fits is.
    let text : IsUtf8 c.args.bytes.now = subst IsUtf8 (sym is) (IsUtf8-from_ascii _ (IsAscii-decimal n fits)) in
    grind (arith, common_steps, text)

pub returns-in_err-value-clause-found : goal.returns-in_err-value-clause-found
returns-in_err-value-clause-found c = λ n fits is.
    let same : c.in_ok-text.text.now ≡ decimal n = grind (arith, common_steps) in
    let read = parse-decimal 64 n c.in_ok-text.text.now c.parse.result fits fits same c.parse.ensures.value.0 in
    grind (arith, common_steps, read)

pub returns-then-eq-clause-found : goal.returns-then-eq-clause-found
returns-then-eq-clause-found c = λ n fits is.
    let same : c.in_ok-text.text.now ≡ decimal n = grind (arith, common_steps) in
    let read = parse-decimal 64 n c.in_ok-text.text.now c.parse.result fits fits same c.parse.ensures.value.0 in
    grind (arith, common_steps, read)

pub returns-else-eq-clause-found : goal.returns-else-eq-clause-found
returns-else-eq-clause-found c = λ n fits is.
    let same : c.in_ok-text.text.now ≡ decimal n = grind (arith, common_steps) in
    let read = parse-decimal 64 n c.in_ok-text.text.now c.parse.result fits fits same c.parse.ensures.value.0 in
    let value : c.in_ok-value.value ≡ n = grind (arith, common_steps, read) in
    let text : c.as_bytes.result.now ≡ c.args.bytes.now = c.as_bytes.ensures.value ∙ rw value at c.format.ensures.text ∙ sym is in
    cc ((bytes_eq-Decides _ _).1 text, c.eq.ensures)
