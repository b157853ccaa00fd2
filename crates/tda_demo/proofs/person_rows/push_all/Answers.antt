use Rattle.std.proofs.Common.{◌≤◌, ◌+◌, ◌-◌, ◌%◌, ◌++◌, [], refl, ℕ, List, ap, sym, subst, ◌∙◌, arith, map, take, drop, get_or, length, append-nil}
use Rattle.std.specs.List.{flat_map}
use Rattle.std.proofs.lemmas.List.FromFn.{length-map-range_with_len}
use Rattle.rand_chacha.specs.ChaCha.{key_of}
use Rattle.tda_words.specs.Words.{Supply, stream_words}
use Rattle.tda_io.specs.Texts.{row_text, IsPlain}
use Rattle.tda_demo.specs.BlockCodes.{leaf_code}
use Rattle.tda_demo.specs.DemoSpine.{branches}
use Rattle.tda_demo.specs.Facilities.{has_dormitory, has_prison}
use Rattle.tda_demo.specs.Persons.{block_persons, drawn, first_word, person_row, residents, word}
use Rattle.tda_demo.specs.Schema.{schema}
use Rattle.tda_demo.proofs.BlockRows.{plain_block}
use Rattle.tda_demo.proofs.NextWords.{first_few, left_is, persons_are}
use Rattle.tda_demo.proofs.Rows.{rows_more}
use Rattle.tda_demo.proofs.person_rows.push_all.Goals as goal

pub loop-block-init : goal.loop-block-init
loop-block-init c = record {
  few = omega arith;
  left = ap (λ (s : Supply). s.words) c.new-words.ensures ∙ ap (λ key. stream_words (key_of key) 0 24576) c.seed.ensures;
  made = sym (append-nil c.args.out.now.items);
}

pub push_block-requires : goal.push_block-requires
push_block-requires c =
    let i = c.loop-block.block in
    let low = c.loop-block-test.true in
    let few = c.requires.few in
    let used = c.loop-block.invariant.few in
    let at = first_word (word c.args.number) i in
    let long = ap length c.loop-block.invariant.left ∙ length-map-range_with_len (word c.args.number) at (24576 - at) in
    record {
      plain = subst IsPlain (sym (c.deref.ensures.value ∙ c.in_ok-code.ensures)) (plain_block c.args.size i (omega arith));
      enough = omega (arith, long, used);
    }

pub loop-block-preserved : goal.loop-block-preserved
loop-block-preserved c =
    let i = c.loop-block.block in
    let low = c.loop-block-test.true in
    let small = c.requires.few in
    let used = c.loop-block.invariant.few in
    let words = word c.args.number in
    let left = 24576 - first_word words i in
    let enough : 16 ≤ left = omega arith in
    let leaf = leaf_code (branches c.args.size) [] in
    let text : List ℕ → List ℕ → List ℕ = λ code persons. flat_map row_text (map (person_row schema code) persons) in
    let persons : List ℕ → List ℕ = λ ws. residents (has_dormitory i) (has_prison i) ++ map (drawn (has_dormitory i) (has_prison i)) (take (get_or ws 0 0 % 16) (drop 1 ws)) in
    record {
      few = omega (arith, used, first_few words i);
      left = c.in_ok-push_block.ensures.taken
          ∙ ap (λ ws. drop (1 + get_or ws 0 0 % 16) ws) c.loop-block.invariant.left
          ∙ left_is words i left enough 24576 refl;
      made = rows_more (λ k. map (person_row schema (leaf k)) (block_persons words k)) c.args.out.now.items c.push_block.new.out.items i
          (c.in_ok-push_block.ensures.made
          ∙ ap (λ code. c.loop-block.out.items ++ text code (persons c.loop-block.words.words)) (c.deref.ensures.value ∙ c.in_ok-code.ensures)
          ∙ ap (λ ws. c.loop-block.out.items ++ text (leaf i) (persons ws)) c.loop-block.invariant.left
          ∙ ap (λ ps. c.loop-block.out.items ++ text (leaf i) ps) (persons_are words i left enough)
          ∙ ap (λ t. t ++ text (leaf i) (block_persons words i)) c.loop-block.invariant.made);
    }
