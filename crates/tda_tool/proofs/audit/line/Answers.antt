use Rattle.std.proofs.Common.{arith, ap, sym, length, codes, ◌≡◌, ◌+◌, ◌++◌, ◌∷◌, [], ◌∙◌, append_assoc, List, ℕ}
use Rattle.std.specs.Fmt.{decimal}
use Rattle.tda_model.specs.Spine.{fit_count}
use Rattle.tda_tool.proofs.audit.line.Goals as goal

pub returns : goal.returns
returns c =
    let long = ap length c.parents.ensures.value in
    let fits : length c.parents.result.now + 1 ≡ fit_count c.args.spine.now = omega arith in
    let last : List ℕ = codes " deviation=" in
    let told = decimal c.args.deviation in
    c.in_ok-push.ensures.items
    ∙ ap (λ t. t ++ 10 ∷ [])
    (ap (λ v. v.items) c.into_bytes-line.ensures.value
    ∙ c.in_ok-format.ensures.ok
    ∙ ap (λ n. codes "ok audit fits=" ++ (decimal n ++ (last ++ told))) fits
    ∙ ap (λ t. codes "ok audit fits=" ++ t) (sym (append_assoc (decimal (fit_count c.args.spine.now)) last told)))
