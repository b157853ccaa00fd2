use Rattle.std.proofs.Common.{◌≡◌, ◌∙◌, Option, ℕ}
use Rattle.tda_sets.specs.Family.{split_key}
use Rattle.tda_sets.proofs.Ranges.{map_range_push}
use Rattle.tda_sets.proofs.Splits.{split_key_some, split_key_none}
use Rattle.tda_sets.proofs.family.split_keys.Goals as goal
use Rattle.tda_sets.proofs.family.split_keys.Goals.{in-Some, in-None}

pub loop-number-preserved : goal.loop-number-preserved
loop-number-preserved c =
    let names = c.args.names.now in
    let values = c.args.values.now in
    let digits = c.args.digits.now in
    let i = c.loop-number.number in
    let is : c.match-name.key ≡ split_key names values digits i =
    elim c.match-name.branch [
      | in-Some w ↦ w.key-is ∙ split_key_some names values digits i w.in-Some.first w.from.result w.from-in-Some.result w.in-Some.is w.from.ensures w.from-in-Some.ensures
      | in-None w ↦ w.key-is ∙ split_key_none names values digits i w.in-None.is
    ] in
    map_range_push (split_key names values digits) i c.loop-number.keys.items c.push.new.self.items c.match-name.key c.in_ok-push.ensures.items c.loop-number.invariant is
