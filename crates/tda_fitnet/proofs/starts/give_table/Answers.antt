use Rattle.std.proofs.Common.{◌≡◌, ℕ, ◌+◌, ◌-◌, ◌*◌, ◌≤◌, length, slice_index, sym, ap, ◌∙◌, arith}
use Rattle.std.specs.List.{sum_by, range_with_len}
use Rattle.tda_model.specs.Cells.{kind_of}
use Rattle.tda_model.specs.Groups.{kind_count}
use Rattle.tda_model.specs.Spine.{level_of, nation_of}
use Rattle.tda_model.specs.Bounds.{low}
use Rattle.tda_model.proofs.Attain.{attains_in_bounds, kind_lt}
use Rattle.tda_invar.specs.Known.{known_of}
use Rattle.tda_fitnet.specs.Giving.{spare_in, split_quota}
use Rattle.tda_fitnet.proofs.NationShares.{attains_vanishes}
use Rattle.tda_fitnet.proofs.NationQuotas.{quotas_at, add_at, size_at}
use Rattle.tda_fitnet.proofs.SplitQuotas.{quotas_are, quotas_add}
use Rattle.tda_fitnet.proofs.SplitBegun.{table_parts, table_persons, table_given}
use Rattle.tda_fitnet.proofs.UnitFacts.{cells_within}
use Rattle.tda_fitnet.proofs.starts.give_table.Goals as goal

pub put_counts-requires-clause-cells : goal.put_counts-requires-clause-cells
put_counts-requires-clause-cells c = λ k d l. let w = cells_within c.args.schema.now c.args.cells.now c.requires.cells k d l in omega (arith, w, c.requires.size)

pub give_shares-requires-clause-cells : goal.give_shares-requires-clause-cells
give_shares-requires-clause-cells c = cells_within c.args.schema.now c.args.cells.now c.requires.cells

pub give_within-requires-clause-cells : goal.give_within-requires-clause-cells
give_within-requires-clause-cells c = cells_within c.args.schema.now c.args.cells.now c.requires.cells

pub give_shares-requires-clause-shares : goal.give_shares-requires-clause-shares
give_shares-requires-clause-shares c =
    let s = c.args.schema.now in
    let sp = c.args.spine.now in
    let known = known_of sp c.args.inv.now in
    let top : level_of c.args.spine.now c.args.parent ≡ 0 = sym c.level.ensures ∙ c.if-level-eq0.true in
    let p_is = c.requires.joined.tree.root_alone c.args.parent c.requires.parent.here top in
    size_at sp c.requires.joined.tree s known (slice_index c.args.table.now) c.args.shares.now (c.requires.shares top) c.args.parent p_is
    ∙ ap (λ cs. length cs * kind_count s) (sym c.children.ensures)

pub give_shares-requires-clause-enough : goal.give_shares-requires-clause-enough
give_shares-requires-clause-enough c = λ k l.
    let s = c.args.schema.now in
    let sp = c.args.spine.now in
    let known = known_of sp c.args.inv.now in
    let top : level_of c.args.spine.now c.args.parent ≡ 0 = sym c.level.ensures ∙ c.if-level-eq0.true in
    let p_is = c.requires.joined.tree.root_alone c.args.parent c.requires.parent.here top in
    let none = attains_vanishes s sp known c.args.parent (slice_index c.args.table.now) c.requires.can_be in
    let add = add_at sp c.requires.joined.tree s known (slice_index c.args.table.now) c.args.shares.now (c.requires.shares top) c.args.parent p_is k l in
    let parts = table_parts s c.args.cells.now c.requires.cells c.args.table.now c.put_counts.new.flow none c.put_counts.ensures.cells k in
    let count = ap (λ cs. sum_by (λ u. slice_index c.args.shares.now (u * kind_count s + k)) (range_with_len 0 (length cs))) c.children.ensures in
    le _ _ _ _ count add parts
  where
    le : (a b c d : ℕ) → a ≡ b → b ≡ c → d ≡ c → a ≤ d
    le a b c d e f g = omega arith

pub give_within-requires-clause-few : goal.give_within-requires-clause-few
give_within-requires-clause-few c =
    let s = c.args.schema.now in
    let none = attains_vanishes s c.args.spine.now (known_of c.args.spine.now c.args.inv.now) c.args.parent (slice_index c.args.table.now) c.requires.can_be in
    let all = table_persons s c.args.cells.now c.requires.cells c.args.table.now c.put_counts.new.flow none c.put_counts.ensures.cells in
    omega (arith, all, c.requires.few)

pub give_within-requires-clause-needs : goal.give_within-requires-clause-needs
give_within-requires-clause-needs c = λ k l.
    let s = c.args.schema.now in
    let sp = c.args.spine.now in
    let known = known_of sp c.args.inv.now in
    let tree = c.requires.joined.tree in
    let none = attains_vanishes s sp known c.args.parent (slice_index c.args.table.now) c.requires.can_be in
    let parts = table_parts s c.args.cells.now c.requires.cells c.args.table.now c.put_counts.new.flow none c.put_counts.ensures.cells k in
    let bounds = attains_in_bounds sp (nation_of sp) tree s known c.args.parent c.requires.parent.here (omega (arith, c.level.ensures, c.if-level-eq0.false)) (slice_index c.args.table.now) c.requires.few c.requires.can_be in
    le _ _ _ (bounds.enough k l) parts
  where
    le : (a b c : ℕ) → a ≤ b → c ≡ b → a ≤ c
    le a b c e f = omega arith

pub give_within-requires-clause-enough : goal.give_within-requires-clause-enough
give_within-requires-clause-enough c = λ k l.
    let s = c.args.schema.now in
    let sp = c.args.spine.now in
    let known = known_of sp c.args.inv.now in
    let tree = c.requires.joined.tree in
    let under : 1 ≤ level_of c.args.spine.now c.args.parent = omega (arith, c.level.ensures, c.if-level-eq0.false) in
    let none = attains_vanishes s sp known c.args.parent (slice_index c.args.table.now) c.requires.can_be in
    let parts = table_parts s c.args.cells.now c.requires.cells c.args.table.now c.put_counts.new.flow none c.put_counts.ensures.cells in
    let bounds = attains_in_bounds sp (nation_of sp) tree s known c.args.parent c.requires.parent.here under (slice_index c.args.table.now) c.requires.few c.requires.can_be in
    let kind : ℕ → ℕ = λ r. kind_of c.args.schema.now (slice_index c.args.cells.now r) in
    let all = quotas_add s sp known tree c.requires.joined.kinds c.args.parent c.requires.parent.here under c.requires.parent.above c.requires.joined.fits.ordered (slice_index c.args.table.now) c.requires.few bounds
    (spare_in sp known c.args.parent kind c.put_counts.new.flow (length c.args.cells.now)) k l (ap (λ n. n - low sp known c.args.parent k) (parts k)) in
    le _ _ _ all (parts k)
  where
    le : (a b c : ℕ) → a ≡ b → c ≡ b → a ≤ c
    le a b c e f = omega arith

pub returns-then-level-eq0 : goal.returns-then-level-eq0
returns-then-level-eq0 c =
    let s = c.args.schema.now in
    let sp = c.args.spine.now in
    let known = known_of sp c.args.inv.now in
    let cells = c.args.cells.now in
    let top : level_of c.args.spine.now c.args.parent ≡ 0 = sym c.level.ensures ∙ c.if-level-eq0.true in
    let p_is = c.requires.joined.tree.root_alone c.args.parent c.requires.parent.here top in
    let none = attains_vanishes s sp known c.args.parent (slice_index c.args.table.now) c.requires.can_be in
    let quota : ℕ → ℕ → ℕ = λ u k. slice_index c.args.shares.now (u * kind_count c.args.schema.now + k) in
    let given = rw c.children.ensures at c.give_shares.ensures in
    table_given s sp known c.args.parent cells c.args.first c.args.table.now c.args.flow.now c.put_counts.new.flow c.give_shares.new.flow quota c.requires.apart
    (λ r l. kind_lt s (slice_index cells r) c.requires.joined.kinds.some (cells_within s cells c.requires.cells r 0 l))
    c.put_counts.ensures.count c.put_counts.ensures.cells c.put_counts.ensures.others
    (quotas_at sp c.requires.joined.tree s known (slice_index c.args.table.now) c.args.shares.now (c.requires.shares top) c.args.parent p_is)
    (λ k l. add_at sp c.requires.joined.tree s known (slice_index c.args.table.now) c.args.shares.now (c.requires.shares top) c.args.parent p_is k l
    ∙ sym (table_parts s cells c.requires.cells c.args.table.now c.put_counts.new.flow none c.put_counts.ensures.cells k))
    given

pub returns-else-level-eq0 : goal.returns-else-level-eq0
returns-else-level-eq0 c =
    let s = c.args.schema.now in
    let sp = c.args.spine.now in
    let known = known_of sp c.args.inv.now in
    let cells = c.args.cells.now in
    let tree = c.requires.joined.tree in
    let under : 1 ≤ level_of c.args.spine.now c.args.parent = omega (arith, c.level.ensures, c.if-level-eq0.false) in
    let none = attains_vanishes s sp known c.args.parent (slice_index c.args.table.now) c.requires.can_be in
    let parts = table_parts s cells c.requires.cells c.args.table.now c.put_counts.new.flow none c.put_counts.ensures.cells in
    let bounds = attains_in_bounds sp (nation_of sp) tree s known c.args.parent c.requires.parent.here under (slice_index c.args.table.now) c.requires.few c.requires.can_be in
    let kind : ℕ → ℕ = λ r. kind_of c.args.schema.now (slice_index c.args.cells.now r) in
    let spare = spare_in sp known c.args.parent kind c.put_counts.new.flow (length cells) in
    let quota = split_quota sp known c.args.parent kind c.put_counts.new.flow (length cells) in
    table_given s sp known c.args.parent cells c.args.first c.args.table.now c.args.flow.now c.put_counts.new.flow c.give_within.new.flow quota c.requires.apart
    (λ r l. kind_lt s (slice_index cells r) c.requires.joined.kinds.some (cells_within s cells c.requires.cells r 0 l))
    c.put_counts.ensures.count c.put_counts.ensures.cells c.put_counts.ensures.others
    (quotas_are s sp known tree c.requires.joined.kinds c.args.parent c.requires.parent.here under c.requires.parent.above c.requires.joined.fits.ordered (slice_index c.args.table.now) c.requires.few bounds spare)
    (λ k l. quotas_add s sp known tree c.requires.joined.kinds c.args.parent c.requires.parent.here under c.requires.parent.above c.requires.joined.fits.ordered (slice_index c.args.table.now) c.requires.few bounds
    spare k l (ap (λ n. n - low sp known c.args.parent k) (parts k)) ∙ sym (parts k))
    c.give_within.ensures
