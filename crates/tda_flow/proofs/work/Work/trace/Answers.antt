use Rattle.std.proofs.Common.{◌≡◌, ◌-◌, ◌<◌, ℕ, Option, Some, drop, set, sym, ap, subst, ◌∙◌, arith, length-set}
use Rattle.tda_flow.specs.declared.net.Turn.{Turn}
use Rattle.tda_flow.specs.Network.{arc_count}
use Rattle.tda_flow.specs.Tables.{rank_at, last_at}
use Rattle.tda_flow.specs.Turns.{turn_from, turn_to}
use Rattle.tda_flow.specs.Walk.{IsWalk}
use Rattle.tda_flow.specs.Reach.{AreLasts}
use Rattle.tda_flow.proofs.Marks.{none_unless_some}
use Rattle.tda_flow.proofs.Traces.{last_leads, last_none, trace_more, lasts_more}
use Rattle.tda_flow.proofs.work.Work.trace.Goals as goal

pub start-at-requires : goal.start-at-requires
start-at-requires c =
    let w = c.requires.searched in
    let a = last_leads w.0 w.1 (rank_at c.args.self.now.ranks) (last_at c.args.self.now.lasts) w.3 c.loop-turn.at c.loop-turn.left c.in-Some.turn c.loop-turn.invariant.rank (sym c.in-Some.ensures) in
    subst (λ z. c.in-Some.turn.arc < arc_count z) w.2 a.1.usable.arc

pub loop-turn-preserved : goal.loop-turn-preserved
loop-turn-preserved c =
    let rank : ℕ → Option ℕ = rank_at c.args.self.now.ranks in
    let last : ℕ → Option Turn = last_at c.args.self.now.lasts in
    let t : Turn = c.in-Some.turn in
    let i = c.loop-turn.invariant in
    let w = c.requires.searched in
    let a = last_leads w.0 w.1 rank last w.3 c.loop-turn.at c.loop-turn.left t i.rank (sym c.in-Some.ensures) in
    record {
      rank = rw c.start-at.ensures.value (subst (λ z. rank (turn_from z t) ≡ Some (c.loop-turn.left - 1)) w.2 a.1.from);
      left = omega (arith, length-set c.loop-turn.walk (c.loop-turn.left - 1) t);
      walks =
          λ s start e h.
          let b = last_leads s start rank last h c.loop-turn.at c.loop-turn.left t i.rank (sym c.in-Some.ensures) in
          let m = trace_more s c.loop-turn.walk c.loop-turn.left t c.loop-turn.at c.args.node b.0 i.left b.1.usable b.1.to (i.walks s start e h) in
          subst (λ z. IsWalk s z (drop (c.loop-turn.left - 1) (set c.loop-turn.walk (c.loop-turn.left - 1) t)) c.args.node)
          (ap (λ z. turn_from z t) e ∙ sym c.start-at.ensures.value) m;
      lasts =
          let own : last (turn_to c.args.net.now t) ≡ Some t = ap last (subst (λ z. turn_to z t ≡ c.loop-turn.at) w.2 a.1.to) ∙ sym c.in-Some.ensures in
          lasts_more c.args.net.now last c.loop-turn.walk c.loop-turn.left t a.0 i.left own i.lasts;
    }

pub returns-clause-walk : goal.returns-clause-walk
returns-clause-walk c =
    λ s start e h.
    let i = c.loop-turn.invariant in
    let a = last_none s start (rank_at c.args.self.now.ranks) (last_at c.args.self.now.lasts) h c.loop-turn.at c.loop-turn.left i.rank
    (none_unless_some (last_at c.args.self.now.lasts c.loop-turn.at) (λ t q. c.in_default.not-Some t (c.last.ensures ∙ q))) in
    subst (λ z. IsWalk s z c.loop-turn.walk c.args.node) (sym a.1) (subst (λ k. IsWalk s c.loop-turn.at (drop k c.loop-turn.walk) c.args.node) a.0 (i.walks s start e h))

pub returns-clause-lasts : goal.returns-clause-lasts
returns-clause-lasts c =
    let last : ℕ → Option Turn = last_at c.args.self.now.lasts in
    let i = c.loop-turn.invariant in
    let w = c.requires.searched in
    let a = last_none w.0 w.1 (rank_at c.args.self.now.ranks) last w.3 c.loop-turn.at c.loop-turn.left i.rank
    (none_unless_some (last c.loop-turn.at) (λ t q. c.in_default.not-Some t (c.last.ensures ∙ q))) in
    subst (λ k. AreLasts c.args.net.now last (drop k c.loop-turn.walk)) a.0 i.lasts
