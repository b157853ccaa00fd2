use Rattle.std.proofs.Common.{slice_index}
use Rattle.tda_invar.specs.Known.{known_of}
use Rattle.tda_fitnet.specs.Inputs.{inputs_of}
use Rattle.tda_fitnet.proofs.NationShares.{attains_vanishes}
use Rattle.tda_fitnet.proofs.SplitBegun.{put_back, fit_grouped, ready, put_circulates}
use Rattle.tda_fitnet.proofs.starts.split_start.Goals as goal

pub sum_fit_groups-requires-clause-grouped : goal.sum_fit_groups-requires-clause-grouped
sum_fit_groups-requires-clause-grouped c =
    let s = c.args.schema.now in
    let sp = c.args.spine.now in
    let fit = c.requires.fit in
    let joined = c.requires.joined in
    let none = attains_vanishes s sp (known_of sp c.args.inv.now) c.args.parent (slice_index c.args.table.now) c.requires.can_be in
    fit_grouped (inputs_of s sp c.args.inv.now fit.measured) joined.tree joined.kinds joined.most c.args.parent c.requires.parent.here fit.tree fit.is_tree c.args.table.now none c.requires.few
    c.args.fit.now fit.is c.args.flow.now

pub sum_fit_groups-requires-clause-limit : goal.sum_fit_groups-requires-clause-limit
sum_fit_groups-requires-clause-limit c =
    let back = put_back (inputs_of c.args.schema.now c.args.spine.now c.args.inv.now c.requires.fit.measured) c.requires.joined.tree c.requires.joined.kinds c.requires.joined.most c.args.parent c.requires.parent.here
    c.requires.fit.tree c.requires.fit.is_tree c.args.table.now (attains_vanishes c.args.schema.now c.args.spine.now (known_of c.args.spine.now c.args.inv.now) c.args.parent (slice_index c.args.table.now) c.requires.can_be)
    c.requires.few c.args.fit.now c.layout-first.result c.cells.result.now c.cells-2.result.now c.args.flow.now c.fill.new.self c.give_table.new.flow c.put_counts.new.flow
    c.layout-first.ensures.value c.cells.ensures c.cells-2.ensures c.requires.flow (c.fill.ensures.after (λ y h. h)) c.give_table.ensures c.put_counts.ensures.count c.put_counts.ensures.cells c.put_counts.ensures.others in
    (ready (inputs_of c.args.schema.now c.args.spine.now c.args.inv.now c.requires.fit.measured) c.requires.joined.tree c.requires.joined.kinds c.requires.joined.most c.args.parent c.requires.parent.here
    c.requires.fit.tree c.requires.fit.is_tree c.args.table.now (attains_vanishes c.args.schema.now c.args.spine.now (known_of c.args.spine.now c.args.inv.now) c.args.parent (slice_index c.args.table.now) c.requires.can_be)
    c.requires.few
    c.fill.new.self c.give_table.new.flow c.put_counts.new.flow c.args.fit.now c.requires.fit.is back).limit

pub sum_fit_groups-requires-clause-none : goal.sum_fit_groups-requires-clause-none
sum_fit_groups-requires-clause-none c =
    let back = put_back (inputs_of c.args.schema.now c.args.spine.now c.args.inv.now c.requires.fit.measured) c.requires.joined.tree c.requires.joined.kinds c.requires.joined.most c.args.parent c.requires.parent.here
    c.requires.fit.tree c.requires.fit.is_tree c.args.table.now (attains_vanishes c.args.schema.now c.args.spine.now (known_of c.args.spine.now c.args.inv.now) c.args.parent (slice_index c.args.table.now) c.requires.can_be)
    c.requires.few c.args.fit.now c.layout-first.result c.cells.result.now c.cells-2.result.now c.args.flow.now c.fill.new.self c.give_table.new.flow c.put_counts.new.flow
    c.layout-first.ensures.value c.cells.ensures c.cells-2.ensures c.requires.flow (c.fill.ensures.after (λ y h. h)) c.give_table.ensures c.put_counts.ensures.count c.put_counts.ensures.cells c.put_counts.ensures.others in
    (ready (inputs_of c.args.schema.now c.args.spine.now c.args.inv.now c.requires.fit.measured) c.requires.joined.tree c.requires.joined.kinds c.requires.joined.most c.args.parent c.requires.parent.here
    c.requires.fit.tree c.requires.fit.is_tree c.args.table.now (attains_vanishes c.args.schema.now c.args.spine.now (known_of c.args.spine.now c.args.inv.now) c.args.parent (slice_index c.args.table.now) c.requires.can_be)
    c.requires.few
    c.fill.new.self c.give_table.new.flow c.put_counts.new.flow c.args.fit.now c.requires.fit.is back).empty

pub returns : goal.returns
returns c =
    let back = put_back (inputs_of c.args.schema.now c.args.spine.now c.args.inv.now c.requires.fit.measured) c.requires.joined.tree c.requires.joined.kinds c.requires.joined.most c.args.parent c.requires.parent.here
    c.requires.fit.tree c.requires.fit.is_tree c.args.table.now (attains_vanishes c.args.schema.now c.args.spine.now (known_of c.args.spine.now c.args.inv.now) c.args.parent (slice_index c.args.table.now) c.requires.can_be)
    c.requires.few c.args.fit.now c.layout-first.result c.cells.result.now c.cells-2.result.now c.args.flow.now c.fill.new.self c.give_table.new.flow c.put_counts.new.flow
    c.layout-first.ensures.value c.cells.ensures c.cells-2.ensures c.requires.flow (c.fill.ensures.after (λ y h. h)) c.give_table.ensures c.put_counts.ensures.count c.put_counts.ensures.cells c.put_counts.ensures.others in
    let sum = c.sum_fit_groups.ensures in
    put_circulates (inputs_of c.args.schema.now c.args.spine.now c.args.inv.now c.requires.fit.measured) c.requires.joined.tree c.requires.joined.kinds c.requires.joined.most c.args.parent c.requires.parent.here
    c.requires.fit.tree c.requires.fit.is_tree c.args.table.now (attains_vanishes c.args.schema.now c.args.spine.now (known_of c.args.spine.now c.args.inv.now) c.args.parent (slice_index c.args.table.now) c.requires.can_be)
    c.requires.few
    c.fill.new.self c.give_table.new.flow c.put_counts.new.flow c.args.fit.now c.requires.fit.is sum.sound back c.sum_fit_groups.new.flow
    (record { count = sum.count; kept = sum.kept; sums = sum.sums })
