use Rattle.std.proofs.Common.{◌≡◌, ◌∙◌, ◌-◌, ◌<◌, [], List, ℕ, length, get_or, Contains, sym, subst, rules}
use Rattle.std.proofs.lemmas.Bool.{false≢true}
use Rattle.std.proofs.lemmas.List.{get_or_read, map-id}
use Rattle.std.proofs.lemmas.Iterator.Adapters.{YieldsList-from_vec}
use Rattle.std.proofs.lemmas.Iterator.Consumers.{YieldsList-turn, YieldsList-end}
use Rattle.tda_groups.proofs.Once.{gathered_again, gathered_more}
use Rattle.tda_groups.proofs.order.distinct.Goals as goal
use Rattle.tda_groups.proofs.order.distinct.Goals.{After-is_last}

-- which set a turn has
turn : (c : After-is_last) → (length c.loop-set.yielded < length c.args.sets.items) × (c.in-Some.set ≡ get_or c.args.sets.items (length c.loop-set.yielded) c.in-Some.set)
turn c =
    YieldsList-turn (YieldsList-from_vec {s = c.into_iter-set-iterator.result} c.args.sets.items (search rules) (search rules))
    c.loop-set.yielded c.loop-set.set-iterator c.loop-set.yielded_by c.next.result c.next.new.self c.in-Some.set c.in-Some.is c.next.ensures.steps

set_is : (c : After-is_last) → c.in-Some.set ≡ get_or c.args.sets.items (length c.loop-set.yielded) []
set_is c = let t = turn c in get_or_read c.args.sets.items (length c.loop-set.yielded) c.in-Some.set t.0 t.1 []

-- the last of these is the set
abbrev LastIs : List ℕ → List (List ℕ) → Type 0
LastIs set groups = (0 < length groups) × (get_or groups (length groups - 1) [] ≡ set)

pub loop-set-preserved-in-Continue-branch-2 : goal.loop-set-preserved-in-Continue-branch-2
loop-set-preserved-in-Continue-branch-2 c =
    let d = (goal.at.loop-set-preserved-in-Continue-branch-2 c).After-is_last in
    let kept = c.loop-set.groups.items in
    let start : c.deref.result.now ≡ kept = c.deref.ensures.value in
    rw c.in_ok-push.ensures.items
    (gathered_more c.args.sets.items c.requires.sets c.requires.nested c.requires.sorted c.loop-set.yielded kept c.in-Some.set c.loop-set.invariant (turn d).0 (set_is d)
    (λ some same. false≢true (sym c.if-not-is_last.true ∙ c.is_last.ensures.1 (subst (LastIs c.in-Some.set) (sym start) (some, same)))))

pub loop-set-preserved : goal.loop-set-preserved
loop-set-preserved c =
    let d = (goal.at.loop-set-preserved c).After-is_last in
    let kept = c.loop-set.groups.items in
    let start : c.deref.result.now ≡ kept = c.deref.ensures.value in
    let last = subst (LastIs c.in-Some.set) start (c.is_last.ensures.0 c.if-not-is_last.false) in
    gathered_again c.args.sets.items c.requires.sets c.requires.nested c.requires.sorted c.loop-set.yielded kept c.in-Some.set c.loop-set.invariant (turn d).0 (set_is d) last.0 last.1

pub returns-clause-exact : goal.returns-clause-exact
returns-clause-exact c =
    let end = YieldsList-end (YieldsList-from_vec {s = c.into_iter-set-iterator.result} c.args.sets.items (search rules) (search rules))
    c.loop-set.yielded c.loop-set.set-iterator c.loop-set.yielded_by c.next.result c.next.new.self c.in-None.is c.next.ensures.steps in
    let all : c.loop-set.yielded ≡ c.args.sets.items = sym (map-id c.loop-set.yielded) ∙ end.0 in
    λ xs. (
      λ found. subst (λ zs. Contains zs xs) all (c.loop-set.invariant.from xs found),
      λ found. c.loop-set.invariant.has xs (subst (λ zs. Contains zs xs) (sym all) found),
    )
