use Rattle.std.proofs.Common.{◌≡◌, ◌≤◌, ◌*◌, ◌-◌, ◌++◌, []}
use Rattle.std.specs.List.{flat_map}
use Rattle.tda_io.specs.Texts.{row_text}
use Rattle.tda_demo.specs.BlockCodes.{leaf_code}
use Rattle.tda_demo.specs.DemoSpine.{branches}
use Rattle.tda_demo.specs.Persons.{first_word, person_rows, word}
use Rattle.tda_demo.specs.Schema.{schema}
use Rattle.tda_demo.proofs.NextWords.{supply}
use Rattle.tda_demo.proofs.person_rows.push_all.Given as goal

abbrev pub invariant-loop-block : goal.invariant-loop-block
invariant-loop-block l = record {
  few : first_word (word l.number) l.block ≤ 16 * l.block;
  left : l.words.words ≡ supply (word l.number) (first_word (word l.number) l.block) (24576 - first_word (word l.number) l.block);
  made : l.out.items ≡ l.fn.out.items ++ flat_map row_text (person_rows schema (word l.number) (leaf_code (branches l.size) []) l.block);
}
