use Rattle.std.proofs.Common.{◌≡◌, ◌∙◌, ap, sym, subst, length}
use Rattle.std.specs.List.{list_all, range_with_len}
use Rattle.tda_sets.specs.Family.{IsFamily, sets_of}
use Rattle.tda_sets.specs.Nested.{AreAllNested, meets_well}
use Rattle.tda_sets.proofs.Nesting.{nested_from, nested_tells}
use Rattle.tda_sets.proofs.nested.are_nested.Goals as goal

pub returns : goal.returns
returns c =
    let one = c.args.one.now in
    let other = c.args.other.now in
    let is : c.all_meet_well.result ≡ list_all (meets_well one other) (range_with_len 0 (length one)) =
    c.all_meet_well.ensures
    ∙ ap (λ ns. list_all (meets_well ns c.names-6.result.now) (range_with_len 0 (length ns))) c.names-5.ensures.value
    ∙ ap (λ ns. list_all (meets_well one ns) (range_with_len 0 (length one))) c.names-6.ensures.value in
    (λ true'. nested_from one other c.requires (sym is ∙ true'), λ nested. is ∙ nested_tells one other c.requires c.names.ensures.family c.names-2.ensures.family nested)
