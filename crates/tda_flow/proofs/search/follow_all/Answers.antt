use Rattle.std.proofs.Common.{◌≡◌, ◌+◌, sym, ap, subst, inl, inr, arith}
use Rattle.tda_flow.specs.Network.{Network}
use Rattle.tda_flow.specs.Rooms.{space_of}
use Rattle.tda_flow.specs.Search.{IsFollowed}
use Rattle.tda_flow.specs.Turns.{turn_number, turn_limit, IsLastBelow}
use Rattle.tda_flow.proofs.Marks.{followed-more, more-both}
use Rattle.tda_flow.proofs.Passes.{passed_more}
use Rattle.tda_flow.proofs.search.follow_all.Goals as goal

pub loop-next-preserved : goal.loop-next-preserved
loop-next-preserved c =
    let i = c.loop-next.invariant in
    let f = c.follow-filled.ensures in
    let net : Network = c.args.room.now.net.now in
    let here = i.due c.in-Some.turn c.in-Some.is in
    let limit : turn_limit c.loop-next.next ≡ turn_number c.in-Some.turn + 1 = ap turn_limit c.in-Some.is in
    let next = subst (λ v. IsLastBelow net v (turn_number c.in-Some.turn) c.next_turn-next.result) here.from c.next_turn-next.ensures in
    record {
      found = f.found;
      near = f.near;
      level = f.more.keeps c.args.node c.args.level i.level;
      more = more-both _ _ _ _ _ _ _ _ i.filled i.more f.more;
      filled = omega arith;
      due = next.leaves;
      followed =
          λ u from p usable.
          elim (passed_more net c.args.node c.in-Some.turn c.next_turn-next.result next u (record { arc = usable.arc; from = from }) p) [
            | inl e ↦ subst (λ z. IsFollowed (space_of c.args.room.now) c.follow-filled.new.marks c.args.level z) (sym e) f.followed usable
            | inr k ↦
                followed-more (space_of c.args.room.now) c.loop-next.marks c.follow-filled.new.marks c.args.level u f.more.keeps
                (i.followed u from (omega arith)) usable
          ];
    }
