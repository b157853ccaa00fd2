use Rattle.std.proofs.Common.{◌≡◌, ◌≤◌, ap, subst, ◌∙◌}
use Rattle.tda_frac.specs.Fraction.{Fraction, IsProduct}
use Rattle.tda_frac.proofs.Narrow.{fits_of_narrow, SomeIff-result_ok}
use Rattle.tda_frac.proofs.Products.{IsProduct-quotient, IsProduct-unique, rest_of_product}
use Rattle.tda_frac.proofs.frac.Frac.weight.Goals as goal

pub returns-then-product-den-eq0-clause-whole : goal.returns-then-product-den-eq0-clause-whole
returns-then-product-den-eq0-clause-whole c =
    let f = c.args.self in
    let l = c.args.l in
    let num : c.from.result ≡ f.num = c.from.ensures ∙ ap (λ (x : Fraction). x.num) c.self.view_is in
    let den : c.from-den.result ≡ f.den = c.from-den.ensures ∙ ap (λ (x : Fraction). x.den) c.self.view_is in
    let some : 1 ≤ f.den = subst (λ (x : Fraction). 1 ≤ x.den) c.self.view_is c.self.invariant.denominator in
    let product = IsProduct-quotient f l c.from.result c.from-2.result c.from-den.result num c.from-2.ensures den c.if-product-den-eq0.true in
    fits_of_narrow c.ok.result _ (IsProduct f l) product (λ w h. IsProduct-unique f l w _ some h product) (SomeIff-result_ok c.try_from.result c.ok.result _ c.try_from.ensures c.ok.ensures.value)

pub returns-else-product-den-eq0-clause-whole : goal.returns-else-product-den-eq0-clause-whole
returns-else-product-den-eq0-clause-whole c =
    let f = c.args.self in
    let num : c.from.result ≡ f.num = c.from.ensures ∙ ap (λ (x : Fraction). x.num) c.self.view_is in
    let den : c.from-den.result ≡ f.den = c.from-den.ensures ∙ ap (λ (x : Fraction). x.den) c.self.view_is in
    (λ e. absurd cc, λ h. absurd (c.if-product-den-eq0.false (rest_of_product f c.args.l c.from.result c.from-2.result c.from-den.result h.0 num c.from-2.ensures den h.1)))
