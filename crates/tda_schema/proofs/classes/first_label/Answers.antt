use Rattle.std.proofs.Common.{◌≡◌, ◌∙◌, Bool, List, ℕ, Some, ap, sym, map, string_bytes, is_some, position}
use Rattle.std.specs.List.{position_or_len}
use Rattle.std.specs.Str.{bytes_eq}
use Rattle.tda_schema.proofs.Finding.{numbered}
use Rattle.tda_schema.proofs.classes.first_label.Goals as goal
use Rattle.tda_schema.proofs.classes.first_label.Goals.{After-position_in}

found : (c : After-position_in) → c.position_in.result ≡ Some (position_or_len (λ l. bytes_eq l c.args.label.now) (map string_bytes c.args.labels.now))
found c =
    let test : List ℕ → Bool = λ l. bytes_eq l c.args.label.now in
    numbered test string_bytes c.args.labels.now c.position_in.result
    (c.position_in.ensures ∙ ap (λ b. position (λ t. bytes_eq (string_bytes t) b) c.args.labels.now) c.as_bytes.ensures.value) c.requires

pub unwrap-requires : goal.unwrap-requires
unwrap-requires c = ap is_some (found c)

pub returns : goal.returns
returns c =
    let same : Some c.unwrap.result ≡ Some (position_or_len (λ l. bytes_eq l c.args.label.now) (map string_bytes c.args.labels.now)) =
    sym c.unwrap.ensures ∙ found ((goal.at.returns c).After-position_in) in
    cc
