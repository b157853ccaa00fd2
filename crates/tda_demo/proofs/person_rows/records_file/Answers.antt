use Rattle.std.proofs.Common.{◌≡◌, ◌++◌, [], codes, ap, sym, ◌∙◌, ◌*◌}
use Rattle.std.specs.List.{flat_map}
use Rattle.tda_io.specs.Texts.{row_text}
use Rattle.tda_demo.specs.BlockCodes.{leaf_code}
use Rattle.tda_demo.specs.Demo.{records_text}
use Rattle.tda_demo.specs.DemoSpine.{branches}
use Rattle.tda_demo.specs.Persons.{header, person_rows, word}
use Rattle.tda_demo.specs.Schema.{schema}
use Rattle.tda_demo.proofs.BlockRows.{person_rows_are}
use Rattle.tda_demo.proofs.person_rows.records_file.Goals as goal

pub returns : goal.returns
unfolding records_text
returns c =
    let rows = flat_map row_text (person_rows schema (word c.args.number) (leaf_code (branches c.args.size) []) (24 * c.args.size)) in
    let first : c.extend_from_slice.new.self.items ≡ row_text (header schema) =
    c.in_ok-extend_from_slice.ensures.items ∙ ap (λ t. t ++ codes "block,kind,sex,age\n") c.new-text.ensures.items in
    c.in_ok-push_all.ensures
    ∙ ap (λ t. t ++ rows) first
    ∙ sym (ap (λ rs. row_text (header schema) ++ flat_map row_text rs) (person_rows_are (word c.args.number) c.args.size))
