use Rattle.std.proofs.Common.{◌<◌, ◌≤◌, length, ap, arith, length-drop}
use Rattle.tda_demo.specs.Facilities.{has_dormitory, has_prison}
use Rattle.tda_demo.specs.Persons.{drawn, person_row}
use Rattle.tda_demo.specs.Schema.{schema}
use Rattle.tda_demo.proofs.NextWords.{taken, row_more}
use Rattle.tda_demo.proofs.person_rows.push_drawn.Goals as goal

pub take_word-word-requires : goal.take_word-word-requires
take_word-word-requires c =
    let all = c.args.words.now.words in
    let enough : c.args.further ≤ length all = c.requires.enough in
    let low = c.loop-k-test.true in
    let long = ap length c.loop-k.invariant.left in
    omega (arith, long, length-drop c.loop-k._k all)

pub loop-k-preserved : goal.loop-k-preserved
loop-k-preserved c =
    let all = c.args.words.now.words in
    let k = c.loop-k._k in
    let enough : c.args.further ≤ length all = c.requires.enough in
    let test = c.loop-k-test.true in
    let below : k < length all = omega arith in
    let made = drawn (has_dormitory c.args.block) (has_prison c.args.block) in
    let step = taken all c.loop-k.words.words c.take_word-word.new.words.words k c.take_word-word.result below c.loop-k.invariant.left c.take_word-word.ensures in
    record {
      left = step.1;
      made = row_more made (person_row schema c.args.code.now) all c.args.out.now.items c.loop-k.out.items c.push_person.new.out.items k
          c.take_word-word.result _ below step.0 c.drawn.ensures c.in_ok-push_person.ensures c.loop-k.invariant.made;
    }
