use Rattle.std.proofs.Common.{◌≡◌, ◌++◌, [], codes, ap, sym, ◌∙◌, append_assoc}
use Rattle.std.specs.List.{flat_map}
use Rattle.tda_io.specs.Texts.{row_text}
use Rattle.tda_demo.specs.Demo.{spine_text}
use Rattle.tda_demo.specs.DemoSpine.{branches}
use Rattle.tda_demo.specs.PreorderRows.{nation_row, rows_below}
use Rattle.tda_demo.specs.Schema.{schema}
use Rattle.tda_demo.specs.SpineText.{header}
use Rattle.tda_demo.proofs.PreorderRows.{rows_are}
use Rattle.tda_demo.proofs.spine_rows.spine_file.Goals as goal

pub returns : goal.returns
unfolding spine_text
returns c =
    let below = flat_map row_text (rows_below schema (branches c.args.size) 0 [] (codes "US")) in
    let nation = row_text (nation_row schema (codes "US")) in
    let first : c.extend_from_slice.new.self.items ≡ row_text header ++ nation =
    c.in_ok-extend_from_slice.ensures.items ∙ ap (λ t. t ++ codes "unit,level,parent\nUS,nation,\n") c.new-text.ensures.items in
    c.in_ok-push_states.ensures
    ∙ ap (λ t. t ++ below) first
    ∙ append_assoc (row_text header) nation below
    ∙ sym (ap (λ rows. row_text header ++ flat_map row_text rows) (rows_are schema (codes "US") (branches c.args.size)))
