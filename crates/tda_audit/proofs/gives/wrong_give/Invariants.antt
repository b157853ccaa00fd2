use Rattle.std.proofs.Common.{◌≡◌, ℤ, List}
use Rattle.tda_model.specs.Cells.{possible_cells}
use Rattle.tda_model.specs.Spine.{Spine, level_of}
use Rattle.tda_invar.specs.Known.{JoinedLists}
use Rattle.tda_loss.specs.declared.Curve.{Curve}
use Rattle.tda_out.specs.Counts.{count_at}
use Rattle.tda_fitnet.specs.declared.name.ArcName.TheVariants.{Give}
use Rattle.tda_fitnet.specs.Inputs.{inputs_of}
use Rattle.tda_prices.specs.Items.{Pricing}
use Rattle.tda_audit.specs.Certified.{level_groups}
use Rattle.tda_audit.specs.Prices.{AreGiverPrices, AreGroupPrices}
use Rattle.tda_audit.proofs.ArcWalks.{NoArcInto}
use Rattle.tda_audit.proofs.gives.wrong_give.Given as goal

abbrev pub invariant-loop-rank : goal.invariant-loop-rank
invariant-loop-rank l =
    (sp : Spine) (inv : JoinedLists) (m : List ℤ) (c : Curve) (price : Pricing) → l.tree.groups ≡ level_groups l.schema (level_of sp l.unit)
    → AreGiverPrices l.schema price l.fit l.givers → AreGroupPrices price l.fit l.unit l.groups
    → NoArcInto (inputs_of l.schema sp inv m) (level_groups l.schema) c (count_at l.tables) price l.fit (Give l.unit) (possible_cells l.schema) l.rank
