-- The table of the nation, of which the split is.
use Rattle.std.proofs.Common.{◌≡◌, ◌+◌, slice_index, sym, ap, subst, arith}
use Rattle.tda_model.specs.Spine.{level_of}
use Rattle.tda_model.specs.Tables.{Attainable}
use Rattle.tda_schema.specs.Stated.{level_at}
use Rattle.tda_invar.specs.Known.{known_of}
use Rattle.tda_groups.specs.Tree.{IsTreeOf}
use Rattle.tda_fit_tests.proofs.starts.split_begun.Goals as goal

pub split_net-requires-clause-can_be : goal.split_net-requires-clause-can_be
split_net-requires-clause-can_be g c =
    let sp = c.args.spine.now in
    subst (λ u. Attainable c.args.schema.now sp (known_of sp c.args.inv.now) u (slice_index c.args.counts.now)) (sym c.nation-nation.ensures.nation) c.requires.begun.can_be

pub split_start-requires-clause-can_be : goal.split_start-requires-clause-can_be
split_start-requires-clause-can_be g c =
    let sp = c.args.spine.now in
    subst (λ u. Attainable c.args.schema.now sp (known_of sp c.args.inv.now) u (slice_index c.args.counts.now)) (sym c.nation-nation.ensures.nation) c.requires.begun.can_be

pub split_start-requires-clause-fit : goal.split_start-requires-clause-fit
split_start-requires-clause-fit g c =
    let sp = c.args.spine.now in
    let one : 1 ≡ level_of sp c.nation-nation.result + 1 = omega (arith, ap (level_of sp) c.nation-nation.ensures.nation, c.nation-nation.ensures.sound.tree.root_level) in
    record {
      measured = c.args.m.now;
      tree = c.args.tree.now;
      is_tree = subst (λ n. IsTreeOf c.args.schema.now (level_at c.args.schema.now n) c.args.tree.now) one c.requires.tree;
      is = c.in_ok-fit.ensures.fit;
    }
