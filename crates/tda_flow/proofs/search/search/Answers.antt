use Rattle.std.proofs.Common.{◌≡◌, ℕ, ◌<◌, length, slice_index, sym, ap, subst, ◌∙◌, arith, Some, None, replicate, length-set}
use Rattle.tda_flow.specs.Rooms.{space_of}
use Rattle.tda_flow.specs.Search.{mark_at, rank_of, marked_rank}
use Rattle.tda_flow.proofs.Marks.{found-first, first_rank, at_end, next-mark, near-next, followed-next, ranked-within, first_mark, none_unless_some}
use Rattle.tda_flow.proofs.Searched.{searched}
use Rattle.tda_flow.proofs.search.search.Goals as goal

pub loop-next-init : goal.loop-next-init
loop-next-init c =
    let n : ℕ = length c.args.marks.now in
    let marks : c.clear.new.marks ≡ replicate n None = c.clear.ensures in
    let l : c.args.start < n = omega arith in
    record {
      found = rw c.clear.ensures (found-first (space_of c.args.room.now) n c.args.start c.args.queue.now l (omega arith));
      start = at_end c.args.queue.now 0 c.args.start (omega arith);
      near = λ v m k h ev ek. let a = first_rank n c.args.start v m l (rw c.clear.ensures at ev) in omega (arith, a.1);
      followed = λ i k t h. absurd (omega arith);
    }

pub bounds : goal.bounds
bounds c =
    let a = c.loop-next.invariant.found.queued.holds c.loop-next.next c.loop-next-test.true in
    ranked-within c.loop-next.marks (slice_index c.loop-next.queue c.loop-next.next) a.0 a.1

pub unreachable-requires : goal.unreachable-requires
unreachable-requires c =
    next-mark (marked_rank c.loop-next.marks) c.loop-next.queue c.loop-next.filled c.loop-next.next c.loop-next.invariant.found.queued c.loop-next-test.true
    (ap rank_of (none_unless_some (mark_at c.loop-next.marks (slice_index c.loop-next.queue c.loop-next.next)) c.in_default.not-Some))

pub follow_all-filled-requires-clause-below : goal.follow_all-filled-requires-clause-below
follow_all-filled-requires-clause-below c =
    let a = c.loop-next.invariant.found.queued.holds c.loop-next.next c.loop-next-test.true in
    let b = ap rank_of c.in-Some.is in
    let same : a.0 ≡ c.in-Some.mark.rank = cc in
    omega (arith, a.2)

pub loop-next-preserved : goal.loop-next-preserved
loop-next-preserved c =
    let i = c.loop-next.invariant in
    let f = c.follow_all-filled.ensures in
    let here : marked_rank c.loop-next.marks (slice_index c.loop-next.queue c.loop-next.next) ≡ Some c.in-Some.mark.rank = ap rank_of c.in-Some.is in
    let at = f.more.stays c.loop-next.next c.loop-next-test.true in
    record {
      found = f.found;
      start = f.more.stays 0 i.found.some ∙ i.start;
      near =
          near-next (marked_rank c.follow_all-filled.new.marks) c.follow_all-filled.new.queue c.follow_all-filled.result c.loop-next.next c.in-Some.mark.rank f.found.queued
          (subst (λ z. marked_rank c.follow_all-filled.new.marks z ≡ Some c.in-Some.mark.rank) (sym at) (f.more.keeps _ _ here)) f.near;
      followed =
          followed-next (space_of c.args.room.now) c.loop-next.marks c.follow_all-filled.new.marks c.loop-next.queue c.follow_all-filled.new.queue c.loop-next.filled c.loop-next.next
          c.in-Some.mark.rank c.loop-next-test.true i.found.queued here f.more i.followed f.followed;
    }

pub returns : goal.returns
returns c =
    let i = c.loop-next.invariant in
    searched (space_of c.args.room.now) c.loop-next.marks c.loop-next.queue c.loop-next.filled c.loop-next.next c.args.start i.found (omega (arith, length-set c.clear.new.marks c.args.start (Some first_mark))) i.start (omega arith) i.followed
