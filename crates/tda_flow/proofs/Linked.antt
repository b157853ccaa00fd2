-- The links of the turns that begin at a node, after an arc more.
use Rattle.std.proofs.Common.{◌≡◌, ℕ, ◌+◌, ◌*◌, ◌<◌, ◌≤◌, Bool, true, false, cond, List, [], ◌∷◌, ◌++◌, length, get_or, set, Option, Some, refl, sym, ap, subst, ◌∙◌, inl, inr, arith, length-append, get_or-set_other, get_or-set_same}
use Rattle.std.proofs.lemmas.Bool.{cases_eq, cases_lt}
use Rattle.std.proofs.lemmas.List.{get_or_append_left, get_or_at}
use Rattle.tda_flow.specs.declared.net.Arc.{Arc}
use Rattle.tda_flow.specs.declared.net.Turn.{Turn}
use Rattle.tda_flow.specs.declared.links.Link.{Link}
use Rattle.tda_flow.specs.declared.links.Link.TheVariants.{End}
use Rattle.tda_flow.specs.declared.links.Links.{Links}
use Rattle.tda_flow.specs.Network.{Network, arc_count, arc_at, with_arc, no_arc}
use Rattle.tda_flow.specs.Turns.{turn_from, turn_number, Leaves, IsLastBelow}
use Rattle.tda_flow.specs.Links.{turn_of, head_at, next_in, links_at, link_at, no_links, AreEndsOf}
use Rattle.tda_flow.specs.NetView.{AreHeads, AreLinks, AreEnds}

pub turn_number-bounds : (t : Turn) → (2 * t.arc ≤ turn_number t) × (turn_number t ≤ 2 * t.arc + 1)
turn_number-bounds t = elim t.back as (λ b. (2 * t.arc ≤ 2 * t.arc + cond b 1 0) × (2 * t.arc + cond b 1 0 ≤ 2 * t.arc + 1)) [
  | true ↦ (omega arith, omega arith)
  | false ↦ (omega arith, omega arith)
]

same_back : (b c : Bool) (m n : ℕ) → 2 * m + cond b 1 0 ≡ 2 * n + cond c 1 0 → (m ≡ n) × (b ≡ c)
same_back true true m n e = (omega arith, refl)
same_back true false m n e = absurd (omega arith)
same_back false true m n e = absurd (omega arith)
same_back false false m n e = (omega arith, refl)

-- turns of one number begin at one node
pub same_turn : (net : Network) (t u : Turn) → turn_number t ≡ turn_number u → turn_from net t ≡ turn_from net u
same_turn net t u e =
    let s = same_back t.back u.back t.arc u.arc e in
    ap (λ k. cond t.back (arc_at net k).to (arc_at net k).from) s.0
    ∙ ap (λ b. cond b (arc_at net u.arc).to (arc_at net u.arc).from) s.1

arc_at-with_arc : (net : Network) (arc : Arc) (k : ℕ) → k < arc_count net → arc_at (with_arc net arc) k ≡ arc_at net k
arc_at-with_arc net arc k l = get_or_append_left net.arcs (arc ∷ []) no_arc k l

pub arc_at-last : (net : Network) (arc : Arc) → arc_at (with_arc net arc) (arc_count net) ≡ arc
arc_at-last net arc = get_or_at net.arcs arc [] no_arc (arc_count net) refl

turn_from-with_arc : (net : Network) (arc : Arc) (t : Turn) → t.arc < arc_count net → turn_from (with_arc net arc) t ≡ turn_from net t
turn_from-with_arc net arc t l = ap (λ a. cond t.back a.to a.from) (arc_at-with_arc net arc t.arc l)

-- an arc more leaves what is said of turns before it
pub last-with_arc : (net : Network) (arc : Arc) (v n : ℕ) (found : Option Turn) → n ≤ 2 * arc_count net → IsLastBelow net v n found → IsLastBelow (with_arc net arc) v n found
last-with_arc net arc v n found few h = record {
  leaves =
      λ t e.
      let old = h.leaves t e in
      let l : t.arc < arc_count net = old.arc in
      record { arc = omega (arith, length-append net.arcs (arc ∷ [])); from = turn_from-with_arc net arc t l ∙ old.from };
  below = h.below;
  last =
      λ t new l.
      let low : t.arc < arc_count net = omega (arith, turn_number-bounds t) in
      h.last t (record { arc = low; from = sym (turn_from-with_arc net arc t low) ∙ new.from }) l;
}

-- what is said of turns names the arcs alone
pub last-same_arcs : (net other : Network) (v n : ℕ) (found : Option Turn) → net.arcs ≡ other.arcs → IsLastBelow net v n found → IsLastBelow other v n found
last-same_arcs net other v n found e h = record {
  leaves = λ t is. there (h.leaves t is);
  below = h.below;
  last = λ t out l. h.last t (back out) l;
}
  where
    there : {t : Turn} → Leaves net v t → Leaves other v t
    there {t} out = record {
      arc = let q = ap length e in let l = out.arc in omega arith;
      from = ap (λ arcs. cond t.back (get_or arcs t.arc no_arc).to (get_or arcs t.arc no_arc).from) (sym e) ∙ out.from;
    }

    back : {t : Turn} → Leaves other v t → Leaves net v t
    back {t} out = record {
      arc = let q = ap length e in let l = out.arc in omega arith;
      from = ap (λ arcs. cond t.back (get_or arcs t.arc no_arc).to (get_or arcs t.arc no_arc).from) e ∙ out.from;
    }

-- a turn of the next number becomes the first at its node
pub heads-put_first : (net : Network) (n : ℕ) (heads : List Link) (x : Link) (t : Turn) (w : ℕ) → AreHeads net n heads → turn_of x ≡ Some t
    → turn_number t ≡ n → t.arc < arc_count net → turn_from net t ≡ w → w < length heads → AreHeads net (n + 1) (set heads w x)
heads-put_first net n heads x t w h leads e in_net begins room v =
    elim (cases_eq v w) [
      | inl same ↦
          let here : head_at (set heads w x) v ≡ Some t =
          ap (λ z. head_at (set heads w x) z) same ∙ ap turn_of (get_or-set_same heads w x End room) ∙ leads in
          subst (λ z. IsLastBelow net v (n + 1) z) (sym here) (record {
            leaves = λ u is. subst (λ z. Leaves net v z) (some_is is) (record { arc = in_net; from = begins ∙ sym same });
            below = λ u is. let q = ap turn_number (some_is is) in omega arith;
            last = λ u out l. omega arith;
          })
      | inr other ↦
          let here : head_at (set heads w x) v ≡ head_at heads v = ap turn_of (get_or-set_other heads w v x End other) in
          subst (λ z. IsLastBelow net v (n + 1) z) (sym here) (record {
            leaves = (h v).leaves;
            below = λ u is. let q = (h v).below u is in omega arith;
            last =
                λ u out l.
                elim (cases_eq (turn_number u) n) [
                  | inl q ↦ absurd (other (sym out.from ∙ same_turn net u t (q ∙ sym e) ∙ begins))
                  | inr q ↦ (h v).last u out (omega arith)
                ];
          })
    ]
  where
    some_is : {u x : Turn} → Some u ≡ Some x → u ≡ x
    some_is is = cc

-- the links of each arc before a new one, and those of the new one
links_at-old : (net : Network) (links : List Links) (new : Links) (k : ℕ) → length links ≡ arc_count net → k < arc_count net → links_at (links ++ new ∷ []) k ≡ links_at links k
links_at-old net links new k len l = get_or_append_left links (new ∷ []) no_links k (omega arith)

links_at-new : (net : Network) (links : List Links) (new : Links) (k : ℕ) → length links ≡ arc_count net → k ≡ arc_count net → links_at (links ++ new ∷ []) k ≡ new
links_at-new net links new k len e = get_or_at links new [] no_links k (len ∙ sym e)

-- the links of the turns over a new arc, and those of the other turns
pub links-push_arc : (net : Network) (arc : Arc) (links : List Links) (new : Links) → length links ≡ arc_count net → AreLinks net links
    → IsLastBelow (with_arc net arc) arc.from (2 * arc_count net) (turn_of new.next_forth) → IsLastBelow (with_arc net arc) arc.to (2 * arc_count net + 1) (turn_of new.next_back)
    → AreLinks (with_arc net arc) (links ++ new ∷ [])
links-push_arc net arc links new len h forth back t l =
    elim (cases_lt t.arc (arc_count net)) [
      | inl old ↦
          let there : link_at (links ++ new ∷ []) t ≡ link_at links t = ap (λ z. next_in z t) (links_at-old net links new t.arc len old) in
          let few : turn_number t ≤ 2 * arc_count net = omega (arith, turn_number-bounds t) in
          subst (λ z. IsLastBelow (with_arc net arc) z (turn_number t) (link_at (links ++ new ∷ []) t)) (sym (turn_from-with_arc net arc t old))
          (subst (λ z. IsLastBelow (with_arc net arc) (turn_from net t) (turn_number t) z) (sym there) (last-with_arc net arc _ _ _ few (h t old)))
      | inr late ↦
          let e : t.arc ≡ arc_count net = omega (arith, length-append net.arcs (arc ∷ [])) in
          let arc_is : arc_at (with_arc net arc) t.arc ≡ arc = ap (λ k. arc_at (with_arc net arc) k) e ∙ arc_at-last net arc in
          at_last t.back t.arc e (links_at (links ++ new ∷ []) t.arc) (links_at-new net links new t.arc len e) (arc_at (with_arc net arc) t.arc) arc_is
    ]
  where
    at_last : (b : Bool) (k : ℕ) → k ≡ arc_count net → (x : Links) → x ≡ new → (a : Arc) → a ≡ arc
        → IsLastBelow (with_arc net arc) (cond b a.to a.from) (2 * k + cond b 1 0) (cond b (turn_of x.next_back) (turn_of x.next_forth))
    at_last true k e x ex a ea =
        rw (e, ex, ea) back
    at_last false k e x ex a ea =
        let z : 2 * k + 0 ≡ 2 * arc_count net = omega arith in
        rw (z, ex, ea) forth

-- the ends of a new arc, and those of the other arcs
pub ends-push_arc : (net : Network) (arc : Arc) (links : List Links) (new : Links) → length links ≡ arc_count net → AreEnds net links → AreEndsOf arc new
    → AreEnds (with_arc net arc) (links ++ new ∷ [])
ends-push_arc net arc links new len h ends k l =
    elim (cases_lt k (arc_count net)) [
      | inl old ↦ rw (arc_at-with_arc net arc k old, links_at-old net links new k len old) (h k old)
      | inr late ↦
          let e : k ≡ arc_count net = omega (arith, length-append net.arcs (arc ∷ [])) in
          rw (ap (λ i. arc_at (with_arc net arc) i) e ∙ arc_at-last net arc, links_at-new net links new k len e) ends
    ]
