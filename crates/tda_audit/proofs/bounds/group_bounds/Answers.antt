-- The kind that is found is one of the kinds.
use Rattle.std.proofs.Common.{◌≡◌, ◌<◌, ℕ, List, Option, Some, None, sym, arith}
use Rattle.std.specs.Prelude.{IfSome}
use Rattle.tda_model.specs.Schema.{Schema}
use Rattle.tda_model.specs.Groups.{kind_count}
use Rattle.tda_groups.specs.Order.{group_at}
use Rattle.tda_fitnet.specs.Terms.{kind_with}
use Rattle.tda_fitnet.proofs.GroupBounds.{kind_with_tells}
use Rattle.tda_audit.proofs.bounds.group_bounds.Goals as goal

known : (s : Schema) (cells : List ℕ) (n : ℕ) (o : Option ℕ) → o ≡ kind_with s cells → n ≡ kind_count s → IfSome o (λ k. k < n)
known s cells n None e d = tt
known s cells n (Some k) e d = let t = kind_with_tells s cells k (sym e) in omega (arith, t.0)

pub kind_bounds-kind-requires-clause-kind : goal.kind_bounds-kind-requires-clause-kind
kind_bounds-kind-requires-clause-kind c =
    known c.args.schema.now (group_at c.args.tree.now.groups c.args.group) c.args.inv.now.lows.kinds c.kind_of_group.result c.kind_of_group.ensures c.requires.low_kinds
