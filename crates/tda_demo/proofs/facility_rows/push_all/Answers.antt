use Rattle.std.proofs.Common.{◌++◌, [], ℕ, List, ap, sym, subst, ◌∙◌, arith}
use Rattle.std.specs.List.{flat_map}
use Rattle.tda_io.specs.Texts.{row_text, IsPlain}
use Rattle.tda_demo.specs.BlockCodes.{leaf_code}
use Rattle.tda_demo.specs.DemoSpine.{branches}
use Rattle.tda_demo.specs.Facilities.{block_facility_rows}
use Rattle.tda_demo.specs.Schema.{schema}
use Rattle.tda_demo.proofs.BlockRows.{plain_block}
use Rattle.tda_demo.proofs.Rows.{rows_more}
use Rattle.tda_demo.proofs.facility_rows.push_all.Goals as goal

pub push_block-requires : goal.push_block-requires
push_block-requires c =
    let low = c.loop-block-test.true in
    let few = c.requires.few in
    subst IsPlain (sym (c.deref.ensures.value ∙ c.in_ok-code.ensures)) (plain_block c.args.size c.loop-block.block (omega arith))

pub loop-block-preserved : goal.loop-block-preserved
loop-block-preserved c =
    let i = c.loop-block.block in
    let leaf = leaf_code (branches c.args.size) [] in
    let own : List ℕ → List ℕ = λ code. flat_map row_text (block_facility_rows schema code i) in
    rows_more (λ k. block_facility_rows schema (leaf k) k) c.args.out.now.items c.push_block.new.out.items i
    (c.in_ok-push_block.ensures
    ∙ ap (λ code. c.loop-block.out.items ++ own code) (c.deref.ensures.value ∙ c.in_ok-code.ensures)
    ∙ ap (λ t. t ++ own (leaf i)) c.loop-block.invariant)
