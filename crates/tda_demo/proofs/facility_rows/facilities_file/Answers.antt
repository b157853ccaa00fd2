use Rattle.std.proofs.Common.{◌≡◌, ◌++◌, [], codes, ap, sym, ◌∙◌, ◌*◌}
use Rattle.std.specs.List.{flat_map}
use Rattle.tda_io.specs.Texts.{row_text}
use Rattle.tda_demo.specs.BlockCodes.{leaf_code}
use Rattle.tda_demo.specs.Demo.{facilities_text}
use Rattle.tda_demo.specs.DemoSpine.{branches}
use Rattle.tda_demo.specs.Facilities.{facility_rows, header}
use Rattle.tda_demo.specs.Schema.{schema}
use Rattle.tda_demo.proofs.BlockRows.{facility_rows_are}
use Rattle.tda_demo.proofs.facility_rows.facilities_file.Goals as goal

pub returns : goal.returns
unfolding facilities_text
returns c =
    let rows = flat_map row_text (facility_rows schema (leaf_code (branches c.args.size) []) (24 * c.args.size)) in
    let first : c.extend_from_slice.new.self.items ≡ row_text header =
    c.in_ok-extend_from_slice.ensures.items ∙ ap (λ t. t ++ codes "block,kind,count\n") c.new-text.ensures.items in
    c.in_ok-push_all.ensures
    ∙ ap (λ t. t ++ rows) first
    ∙ sym (ap (λ rs. row_text header ++ flat_map row_text rs) (facility_rows_are c.args.size))
