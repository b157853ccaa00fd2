use Rattle.std.proofs.Common.{◌≡◌, ◌++◌, map, take, drop}
use Rattle.std.specs.List.{flat_map}
use Rattle.tda_io.specs.Texts.{row_text}
use Rattle.tda_demo.specs.Facilities.{has_dormitory, has_prison}
use Rattle.tda_demo.specs.Persons.{drawn, person_row}
use Rattle.tda_demo.specs.Schema.{schema}
use Rattle.tda_demo.proofs.person_rows.push_drawn.Given as goal

abbrev pub invariant-loop-k : goal.invariant-loop-k
invariant-loop-k l = record {
  left : l.words.words ≡ drop l._k l.fn.words.words;
  made : l.out.items ≡ l.fn.out.items ++ flat_map row_text (map (person_row schema l.code) (map (drawn (has_dormitory l.block) (has_prison l.block)) (take l._k l.fn.words.words)));
}
