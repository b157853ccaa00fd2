use Rattle.std.proofs.Common.{◌≡◌, ◌∙◌, ◌<◌, ap, sym, subst, map, string_bytes, length, get_or, true, arith, []}
use Rattle.std.specs.Str.{bytes_eq}
use Rattle.std.specs.List.{list_any, range_with_len, position_or_len}
use Rattle.std.proofs.lemmas.List.{length-map, get_or-map}
use Rattle.tda_sets.proofs.Ranges.{map_range_push}
use Rattle.tda_schema.proofs.DigitLemmas.{first_of, has_label, first_below, first_digits}
use Rattle.tda_schema.proofs.classes.label_digits.Goals as goal
use Rattle.tda_schema.proofs.classes.label_digits.Goals.{After-as_str, After-first_label}

-- the label at the place
label : (c : After-as_str) → c.as_str.result.now ≡ get_or (map string_bytes c.args.labels.now) c.loop-label.label-index []
label c =
    let item = c.label-item.result in
    c.as_str.ensures.value ∙ ap string_bytes c.label-item.is ∙ sym (get_or-map string_bytes c.args.labels.now c.loop-label.label-index item [] c.loop-label-test.true)

below : (c : After-as_str) → c.loop-label.label-index < length (map string_bytes c.args.labels.now)
below c = omega (arith, length-map c.args.labels.now string_bytes, c.loop-label-test.true)

pub first_label-requires : goal.first_label-requires
first_label-requires c =
    let labels = map string_bytes c.args.labels.now in
    subst (λ t. list_any (λ l. bytes_eq l t) labels ≡ true) (sym (label c)) (has_label labels c.loop-label.label-index (below c))

digit : (c : After-first_label) → c.first_label.result ≡ first_of (map string_bytes c.args.labels.now) c.loop-label.label-index
digit c =
    let labels = map string_bytes c.args.labels.now in
    c.first_label.ensures ∙ ap (λ t. position_or_len (λ l. bytes_eq l t) labels) (label ((goal.at.After-first_label c).After-as_str))

pub overflow_cast-first_label : goal.overflow_cast-first_label
overflow_cast-first_label c =
    let labels = map string_bytes c.args.labels.now in
    let few = first_below labels c.loop-label.label-index (below ((goal.at.After-first_label c).After-as_str)) in
    let all = length-map c.args.labels.now string_bytes in
    let is = digit c in
    let small : c.first_label.result < 128 = omega (arith, few, all, is, c.requires) in
    grind (arith, small)

pub loop-label-preserved : goal.loop-label-preserved
loop-label-preserved c =
    let labels = map string_bytes c.args.labels.now in
    map_range_push (first_of labels) c.loop-label.label-index c.loop-label.digits.items c.push.new.self.items c.first_label.result c.in_ok-push.ensures.items c.loop-label.invariant
    (digit ((goal.at.loop-label-preserved c).After-first_label))

pub returns : goal.returns
returns c = first_digits (map string_bytes c.args.labels.now) (length c.args.labels.now) c.loop-label.digits.items (sym (length-map c.args.labels.now string_bytes))
    (c.loop-label.invariant ∙ ap (λ n. map (first_of (map string_bytes c.args.labels.now)) (range_with_len 0 n)) (omega arith))
