use Rattle.std.proofs.Common.{◌≡◌, Some, List, ℕ, Bool, true, map, is_some, sym, ap, ◌∙◌}
use Rattle.std.specs.List.{list_any, position_or_len}
use Rattle.std.specs.Str.{bytes_eq}
use Rattle.tda_schema.proofs.Finding.{numbered}
use Rattle.tda_schema.proofs.stating.value_number.Goals as goal

pub unwrap-requires : goal.unwrap-requires
unwrap-requires c =
    let test : List ℕ → Bool = λ v. bytes_eq v c.args.text.now in
    let known : list_any test (map (λ t. t.now) c.deref.result.now) ≡ true = ap (λ ts. list_any test (map (λ t. t.now) ts)) c.deref.ensures.value ∙ ap (λ a. list_any test a.values) c.attribute.view_is ∙ c.requires.known in
    ap is_some (numbered test (λ t. t.now) c.deref.result.now c.text_number.result c.text_number.ensures known)

pub returns : goal.returns
returns c =
    let test : List ℕ → Bool = λ v. bytes_eq v c.args.text.now in
    let values : map (λ t. t.now) c.deref.result.now ≡ c.args.attribute.now.values = ap (map (λ t. t.now)) c.deref.ensures.value ∙ ap (λ a. a.values) c.attribute.view_is in
    let known : list_any test (map (λ t. t.now) c.deref.result.now) ≡ true = ap (list_any test) values ∙ c.requires.known in
    let number : Some c.unwrap.result ≡ Some (position_or_len test c.args.attribute.now.values) =
    sym c.unwrap.ensures ∙ numbered test (λ t. t.now) c.deref.result.now c.text_number.result c.text_number.ensures known ∙ ap (λ vs. Some (position_or_len test vs)) values in
    cc
