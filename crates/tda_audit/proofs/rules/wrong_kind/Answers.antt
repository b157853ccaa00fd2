use Rattle.std.proofs.Common.{map, length, Some, None, arith}
use Rattle.std.specs.List.{range_with_len}
use Rattle.tda_model.specs.Groups.{kind_count}
use Rattle.tda_invar.specs.Known.{known_of}
use Rattle.tda_out.specs.Counts.{count_at}
use Rattle.tda_audit.specs.Verdicts.{breaks}
use Rattle.tda_audit.specs.declared.verdict.Verdict.TheVariants.{Kind}
use Rattle.tda_audit.proofs.Walks.{number_none, number_found, no_number}
use Rattle.tda_audit.proofs.Passes.{kinds_found}
use Rattle.tda_audit.proofs.rules.wrong_kind.Goals as goal

pub returns-in-Some : goal.returns-in-Some
returns-in-Some c =
    let s = c.args.schema.now in
    let sp = c.args.spine.now in
    let known = known_of sp c.args.inv.now in
    let x = count_at c.args.tables.now in
    let u = c.loop-unit.unit in
    number_found (breaks s sp known x) (λ v. map (Kind v) (range_with_len 0 (kind_count s))) (length sp.units) u c.loop-unit.invariant.before (omega arith) (Kind u c.in-Some.kind)
    (kinds_found s sp known x u c.count_kinds.new.counts c.count_kinds.ensures.size c.count_kinds.ensures.sums (Some c.in-Some.kind) (c.in-Some.ensures s sp c.requires.joined))

pub loop-unit-preserved : goal.loop-unit-preserved
loop-unit-preserved c =
    let s = c.args.schema.now in
    let sp = c.args.spine.now in
    let known = known_of sp c.args.inv.now in
    let x = count_at c.args.tables.now in
    let u = c.loop-unit.unit in
    record {
      size = c.count_kinds.ensures.size;
      before = number_none (breaks s sp known x) (λ v. map (Kind v) (range_with_len 0 (kind_count s))) (length sp.units) u c.loop-unit.invariant.before (omega arith)
          (kinds_found s sp known x u c.count_kinds.new.counts c.count_kinds.ensures.size c.count_kinds.ensures.sums None (c.in_default.ensures s sp c.requires.joined));
    }

pub returns : goal.returns
returns c =
    let s = c.args.schema.now in
    let sp = c.args.spine.now in
    no_number (breaks s sp (known_of sp c.args.inv.now) (count_at c.args.tables.now)) (λ v. map (Kind v) (range_with_len 0 (kind_count s))) (length sp.units) c.loop-unit.unit c.loop-unit.invariant.before (omega arith)
