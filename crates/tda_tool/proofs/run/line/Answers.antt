use Rattle.std.proofs.Common.{arith, ap, length, codes, ◌≡◌, ◌+◌, ◌++◌, ◌∷◌, [], ◌∙◌, append_assoc, List, ℕ}
use Rattle.std.specs.Fmt.{decimal}
use Rattle.tda_frac.specs.Fraction.{text_of}
use Rattle.tda_schema.specs.Shares.{frac_of, spent_of}
use Rattle.tda_model.specs.Spine.{fit_count}
use Rattle.tda_places.specs.Places.{places_of}
use Rattle.tda_tool.proofs.run.line.Goals as goal

regroup : (a p b s w t f n d e l : List ℕ) → ((a ++ (p ++ b)) ++ s) ++ (w ++ (t ++ (f ++ (n ++ (d ++ (e ++ l)))))) ≡ (((((((((a ++ p) ++ b) ++ s) ++ w) ++ t) ++ f) ++ n) ++ d) ++ e) ++ l
regroup a p b s w t f n d e l = simp append_assoc

pub returns : goal.returns
returns c =
    let long = ap length c.parents.ensures.value in
    let fits : length c.parents.result.now + 1 ≡ fit_count c.args.spine.now = omega arith in
    let spent = text_of (frac_of (spent_of c.args.schema.now)) in
    let first : ℕ → List ℕ = λ p. codes "ok run places=" ++ (decimal p ++ codes " spent=") in
    let rest : ℕ → List ℕ = λ n. codes " words=" ++ (decimal c.args.taken ++ (codes " fits=" ++ (decimal n ++ (codes " deviation=" ++ (decimal c.args.deviation ++ 10 ∷ []))))) in
    c.in_ok-extend_from_slice.ensures.items
    ∙ ap (λ t. c.push_spent.new.out.items ++ t) (c.as_bytes.ensures.value ∙ c.in_ok-rest.ensures.ok)
    ∙ ap (λ t. t ++ rest (length c.parents.result.now + 1)) (c.in_ok-push_spent.ensures ∙ ap (λ t. t ++ spent) (ap (λ v. v.items) c.into_bytes-line.ensures.value ∙ c.in_ok-format.ensures.ok))
    ∙ ap (λ p. (first p ++ spent) ++ rest (length c.parents.result.now + 1)) c.count-places.ensures.places
    ∙ ap (λ n. (first (length (places_of c.args.schema.now c.args.spine.now)) ++ spent) ++ rest n) fits
    ∙ regroup (codes "ok run places=") (decimal (length (places_of c.args.schema.now c.args.spine.now))) (codes " spent=") spent (codes " words=") (decimal c.args.taken) (codes " fits=") (decimal (fit_count c.args.spine.now)) (codes " deviation=") (decimal c.args.deviation) (10 ∷ [])
