use Rattle.std.proofs.Common.{◌∙◌, sym, subst, map, get_or, take, arith}
use Rattle.std.specs.List.{list_all}
use Rattle.std.proofs.lemmas.List.{length-map, get_or-map}
use Rattle.tda_model.specs.Groups.{alike_at}
use Rattle.tda_schema.specs.Stated.{entry_of, IsEntryOf}
use Rattle.tda_schema.specs.declared.stated.Entry.TheVariants.{Values}
use Rattle.tda_schema.proofs.ClassFamilies.{length-cells, entry_more, entries_all}
use Rattle.tda_schema.proofs.classes.entries_family.Goals as goal

pub split_by-requires-clause-cells : goal.split_by-requires-clause-cells
split_by-requires-clause-cells c =
    let by = map entry_of c.args.by.now in
    length-cells c.args.stated.now (λ i j. list_all (alike_at c.args.stated.now i j) (take c.loop-entry.entry-index by)) c.loop-entry.family c.loop-entry.invariant

pub split_by-requires-clause-entry : goal.split_by-requires-clause-entry
split_by-requires-clause-entry c =
    let by = c.args.by.now in
    let i = c.loop-entry.entry-index in
    subst (IsEntryOf c.args.stated.now) (get_or-map entry_of by i (Values 0) (entry_of (Values 0)) c.loop-entry-test.true)
    (c.requires.by i (entry_of (Values 0)) (omega (arith, length-map by entry_of, c.loop-entry-test.true)))

pub loop-entry-preserved : goal.loop-entry-preserved
loop-entry-preserved c =
    let by = c.args.by.now in
    let i = c.loop-entry.entry-index in
    let e = entry_of (get_or by i (Values 0)) in
    c.in_ok-family-2.ensures
    ∙ entry_more c.args.stated.now (map entry_of by) i e c.loop-entry.family (omega (arith, length-map by entry_of, c.loop-entry-test.true)) (sym (get_or-map entry_of by i (Values 0) e c.loop-entry-test.true)) c.loop-entry.invariant

pub returns : goal.returns
returns c =
    let by = map entry_of c.args.by.now in
    entries_all c.args.stated.now by c.loop-entry.entry-index c.loop-entry.family (omega (arith, length-map c.args.by.now entry_of)) c.loop-entry.invariant
