use Rattle.std.proofs.Common.{◌≡◌, ◌++◌, ap, ◌∙◌}
use Rattle.tda_demo.specs.Text.{schema_text}
use Rattle.tda_demo.proofs.schema.schema_file.Goals as goal

pub returns : goal.returns
unfolding schema_text
returns c =
    let value : c.as_bytes.result.now ≡ schema_text = c.as_bytes.ensures.value in
    c.in_ok-extend_from_slice.ensures.items ∙ ap (λ t. t ++ c.as_bytes.result.now) c.new-text.ensures.items ∙ value
