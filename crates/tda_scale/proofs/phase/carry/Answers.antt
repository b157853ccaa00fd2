use Rattle.std.proofs.Common.{◌≡◌, ◌^◌, ℤ, ◌∙◌, ap, sym, subst, to_z, of_z, arith}
use Rattle.std.specs.Int.{w128}
use Rattle.std.proofs.lemmas.Int.{ints}
use Rattle.std.proofs.lemmas.List.{length-take-le}
use Rattle.tda_loss.specs.Curve.{IsWithin}
use Rattle.tda_scale.specs.Spots.{is_found, spot_at}
use Rattle.tda_scale.proofs.Carrying.{IsReached, small_of_floor, reached_tree, reached_label, reached_small, tracked_closed, reached_walk, reached_augmented, carried_priced, carried_falls, carried_gains, carried_floor}
use Rattle.tda_scale.proofs.Quoted.{quotes_but}
use Rattle.tda_scale.proofs.phase.carry.Goals as goal

-- a label, as the code passes it on
label_is : (x : ℤ) → IsWithin (2 ^ 92) x → to_z w128 (of_z w128 x) ≡ x
label_is x h = omega (arith, ints, h.low, h.high)

pub slice_bounds-turns-end-2 : goal.slice_bounds-turns-end-2
slice_bounds-turns-end-2 c =
    let deep = c.requires.finished.deep c.args.piece.target c.requires.found.nearest.found in
    let m = c.requires.walk in
    let k = c.requires.tracked.nodes in
    sym (length-take-le _ c.args.walk.now (omega arith))

pub trace-requires-clause-depth : goal.trace-requires-clause-depth
trace-requires-clause-depth c =
    let deep = c.requires.finished.deep c.args.piece.target c.requires.found.nearest.found in
    let m = c.requires.walk in
    let k = c.requires.tracked.nodes in
    length-take-le _ c.args.walk.now (omega arith)

pub trace-requires-clause-tree : goal.trace-requires-clause-tree
trace-requires-clause-tree c =
    let r = c.requires in
    let n = c.args.body.now.net.now in
    let s = c.args.body.now.slopes.now in
    let d = c.args.piece.step in
    let v = c.args.piece.source in
    let w = c.args.piece.target in
    let f = c.args.flow.now in
    let p = c.args.spots.now in
    let q = c.args.quotes.now in
    let l = c.args.found.now in
    let h : IsReached n s d v w f p q l =
    record { sound = c.nodes-nodes.ensures.sound; one = r.some; sloped = r.body; tracked = r.tracked; quoted = r.quotes; finished = r.finished; target_is = r.found; much = r.much; floor = r.floor } in
    reached_tree n s d v w f p q l h

pub reprice-requires-clause-labels : goal.reprice-requires-clause-labels
reprice-requires-clause-labels c =
    let r = c.requires in
    let n = c.args.body.now.net.now in
    let s = c.args.body.now.slopes.now in
    let d = c.args.piece.step in
    let v = c.args.piece.source in
    let w = c.args.piece.target in
    let f = c.args.flow.now in
    let p = c.args.spots.now in
    let q = c.args.quotes.now in
    let l = c.args.found.now in
    let h : IsReached n s d v w f p q l =
    record { sound = c.nodes-nodes.ensures.sound; one = r.some; sloped = r.body; tracked = r.tracked; quoted = r.quotes; finished = r.finished; target_is = r.found; much = r.much; floor = r.floor } in
    λ y done. reached_label n s d v w f p q l h y (r.finished.labelled.kept y done)

pub reprice-requires-clause-small : goal.reprice-requires-clause-small
reprice-requires-clause-small c =
    let r = c.requires in
    let n = c.args.body.now.net.now in
    let s = c.args.body.now.slopes.now in
    let d = c.args.piece.step in
    let v = c.args.piece.source in
    let w = c.args.piece.target in
    let f = c.args.flow.now in
    let p = c.args.spots.now in
    let q = c.args.quotes.now in
    let l = c.args.found.now in
    let h : IsReached n s d v w f p q l =
    record { sound = c.nodes-nodes.ensures.sound; one = r.some; sloped = r.body; tracked = r.tracked; quoted = r.quotes; finished = r.finished; target_is = r.found; much = r.much; floor = r.floor } in
    reached_small n s d v w f p q l _ h (label_is (spot_at p w).label (reached_label n s d v w f p q l h w r.found.nearest.found))

pub reprice-requires-clause-far : goal.reprice-requires-clause-far
reprice-requires-clause-far c =
    let r = c.requires in
    let n = c.args.body.now.net.now in
    let s = c.args.body.now.slopes.now in
    let d = c.args.piece.step in
    let v = c.args.piece.source in
    let w = c.args.piece.target in
    let f = c.args.flow.now in
    let p = c.args.spots.now in
    let q = c.args.quotes.now in
    let l = c.args.found.now in
    let h : IsReached n s d v w f p q l =
    record { sound = c.nodes-nodes.ensures.sound; one = r.some; sloped = r.body; tracked = r.tracked; quoted = r.quotes; finished = r.finished; target_is = r.found; much = r.much; floor = r.floor } in
    subst (IsWithin (2 ^ 92)) (sym (label_is (spot_at p w).label (reached_label n s d v w f p q l h w r.found.nearest.found))) (reached_label n s d v w f p q l h w r.found.nearest.found)

pub reprice-requires-clause-prices : goal.reprice-requires-clause-prices
reprice-requires-clause-prices c =
    let r = c.requires in
    let n = c.args.body.now.net.now in
    let s = c.args.body.now.slopes.now in
    let d = c.args.piece.step in
    let v = c.args.piece.source in
    let w = c.args.piece.target in
    let f = c.args.flow.now in
    let p = c.args.spots.now in
    let q = c.args.quotes.now in
    let l = c.args.found.now in
    let h : IsReached n s d v w f p q l =
    record { sound = c.nodes-nodes.ensures.sound; one = r.some; sloped = r.body; tracked = r.tracked; quoted = r.quotes; finished = r.finished; target_is = r.found; much = r.much; floor = r.floor } in
    λ y. let a = small_of_floor d p r.floor y in record { low = omega (arith, ints, a.low); high = omega (arith, ints, a.high) }

pub send-requires-clause-walk : goal.send-requires-clause-walk
send-requires-clause-walk c =
    let r = c.requires in
    let n = c.args.body.now.net.now in
    let s = c.args.body.now.slopes.now in
    let d = c.args.piece.step in
    let v = c.args.piece.source in
    let w = c.args.piece.target in
    let f = c.args.flow.now in
    let p = c.args.spots.now in
    let q = c.args.quotes.now in
    let l = c.args.found.now in
    let h : IsReached n s d v w f p q l =
    record { sound = c.nodes-nodes.ensures.sound; one = r.some; sloped = r.body; tracked = r.tracked; quoted = r.quotes; finished = r.finished; target_is = r.found; much = r.much; floor = r.floor } in
    reached_walk n s d v w f p q l c.trace.new.walk h c.trace.ensures

pub send-requires-clause-apart : goal.send-requires-clause-apart
send-requires-clause-apart c =
    let r = c.requires in
    let n = c.args.body.now.net.now in
    let s = c.args.body.now.slopes.now in
    let d = c.args.piece.step in
    let v = c.args.piece.source in
    let w = c.args.piece.target in
    let f = c.args.flow.now in
    let p = c.args.spots.now in
    let q = c.args.quotes.now in
    let l = c.args.found.now in
    let h : IsReached n s d v w f p q l =
    record { sound = c.nodes-nodes.ensures.sound; one = r.some; sloped = r.body; tracked = r.tracked; quoted = r.quotes; finished = r.finished; target_is = r.found; much = r.much; floor = r.floor } in
    (reached_augmented n s d v w f p q l c.trace.new.walk h c.trace.ensures).apart

pub send-requires-clause-tracked : goal.send-requires-clause-tracked
send-requires-clause-tracked c =
    let r = c.requires in
    let n = c.args.body.now.net.now in
    let s = c.args.body.now.slopes.now in
    let d = c.args.piece.step in
    let v = c.args.piece.source in
    let w = c.args.piece.target in
    let f = c.args.flow.now in
    let p = c.args.spots.now in
    let q = c.args.quotes.now in
    let l = c.args.found.now in
    let h : IsReached n s d v w f p q l =
    record { sound = c.nodes-nodes.ensures.sound; one = r.some; sloped = r.body; tracked = r.tracked; quoted = r.quotes; finished = r.finished; target_is = r.found; much = r.much; floor = r.floor } in
    tracked_closed n f p c.reprice.new.spots _ r.tracked c.reprice.ensures.count c.reprice.ensures.closed

pub requote-requires-clause-flow : goal.requote-requires-clause-flow
requote-requires-clause-flow c =
    λ k m. (c.send.ensures.tracked.within k m).1

pub requote-requires-clause-arcs : goal.requote-requires-clause-arcs
requote-requires-clause-arcs c =
    let r = c.requires in
    let n = c.args.body.now.net.now in
    let s = c.args.body.now.slopes.now in
    let d = c.args.piece.step in
    let v = c.args.piece.source in
    let w = c.args.piece.target in
    let f = c.args.flow.now in
    let p = c.args.spots.now in
    let q = c.args.quotes.now in
    let l = c.args.found.now in
    let h : IsReached n s d v w f p q l =
    record { sound = c.nodes-nodes.ensures.sound; one = r.some; sloped = r.body; tracked = r.tracked; quoted = r.quotes; finished = r.finished; target_is = r.found; much = r.much; floor = r.floor } in
    λ k t m. ((reached_walk n s d v w f p q l c.trace.new.walk h c.trace.ensures).usable k t m).arc

pub requote-requires-clause-others : goal.requote-requires-clause-others
requote-requires-clause-others c =
    let r = c.requires in
    let n = c.args.body.now.net.now in
    let s = c.args.body.now.slopes.now in
    let d = c.args.piece.step in
    let v = c.args.piece.source in
    let w = c.args.piece.target in
    let f = c.args.flow.now in
    let p = c.args.spots.now in
    let q = c.args.quotes.now in
    let l = c.args.found.now in
    let h : IsReached n s d v w f p q l =
    record { sound = c.nodes-nodes.ensures.sound; one = r.some; sloped = r.body; tracked = r.tracked; quoted = r.quotes; finished = r.finished; target_is = r.found; much = r.much; floor = r.floor } in
    quotes_but n s d f c.send.new.flow c.trace.new.walk q r.quotes c.send.ensures.flow

pub returns-clause-fresh : goal.returns-clause-fresh
returns-clause-fresh c =
    λ v. ap is_found (c.send.ensures.shift.mark v) ∙ c.reprice.ensures.fresh v

pub returns-clause-priced : goal.returns-clause-priced
returns-clause-priced c =
    let r = c.requires in
    let n = c.args.body.now.net.now in
    let s = c.args.body.now.slopes.now in
    let d = c.args.piece.step in
    let v = c.args.piece.source in
    let w = c.args.piece.target in
    let f = c.args.flow.now in
    let p = c.args.spots.now in
    let q = c.args.quotes.now in
    let l = c.args.found.now in
    let h : IsReached n s d v w f p q l =
    record { sound = c.nodes-nodes.ensures.sound; one = r.some; sloped = r.body; tracked = r.tracked; quoted = r.quotes; finished = r.finished; target_is = r.found; much = r.much; floor = r.floor } in
    carried_priced n s d v w f c.send.new.flow p c.reprice.new.spots c.send.new.spots q l c.trace.new.walk _ h c.trace.ensures (label_is (spot_at p w).label (reached_label n s d v w f p q l h w r.found.nearest.found)) c.reprice.ensures.closed c.send.ensures.shift.price c.send.ensures.flow

pub returns-clause-falls : goal.returns-clause-falls
returns-clause-falls c =
    let r = c.requires in
    let n = c.args.body.now.net.now in
    let s = c.args.body.now.slopes.now in
    let d = c.args.piece.step in
    let v = c.args.piece.source in
    let w = c.args.piece.target in
    let f = c.args.flow.now in
    let p = c.args.spots.now in
    let q = c.args.quotes.now in
    let l = c.args.found.now in
    let h : IsReached n s d v w f p q l =
    record { sound = c.nodes-nodes.ensures.sound; one = r.some; sloped = r.body; tracked = r.tracked; quoted = r.quotes; finished = r.finished; target_is = r.found; much = r.much; floor = r.floor } in
    carried_falls d v w p c.reprice.new.spots c.send.new.spots _ r.some r.found r.much c.reprice.ensures.closed c.send.ensures.shift

pub returns-clause-gains : goal.returns-clause-gains
returns-clause-gains c =
    let r = c.requires in
    let n = c.args.body.now.net.now in
    let s = c.args.body.now.slopes.now in
    let d = c.args.piece.step in
    let v = c.args.piece.source in
    let w = c.args.piece.target in
    let f = c.args.flow.now in
    let p = c.args.spots.now in
    let q = c.args.quotes.now in
    let l = c.args.found.now in
    let h : IsReached n s d v w f p q l =
    record { sound = c.nodes-nodes.ensures.sound; one = r.some; sloped = r.body; tracked = r.tracked; quoted = r.quotes; finished = r.finished; target_is = r.found; much = r.much; floor = r.floor } in
    carried_gains d v w p c.reprice.new.spots c.send.new.spots _ r.found c.reprice.ensures.closed c.send.ensures.shift

pub returns-clause-floor : goal.returns-clause-floor
returns-clause-floor c =
    let r = c.requires in
    let n = c.args.body.now.net.now in
    let s = c.args.body.now.slopes.now in
    let d = c.args.piece.step in
    let v = c.args.piece.source in
    let w = c.args.piece.target in
    let f = c.args.flow.now in
    let p = c.args.spots.now in
    let q = c.args.quotes.now in
    let l = c.args.found.now in
    let h : IsReached n s d v w f p q l =
    record { sound = c.nodes-nodes.ensures.sound; one = r.some; sloped = r.body; tracked = r.tracked; quoted = r.quotes; finished = r.finished; target_is = r.found; much = r.much; floor = r.floor } in
    λ b. carried_floor n s d v w f p c.reprice.new.spots c.send.new.spots q l _ b h (label_is (spot_at p w).label (reached_label n s d v w f p q l h w r.found.nearest.found)) c.reprice.ensures.closed c.send.ensures.shift
