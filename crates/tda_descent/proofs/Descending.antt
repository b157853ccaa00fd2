-- The fits that were handed on so far, the tables that they agree on, and what the code keeps of them.
use Rattle.std.proofs.Common.{◌≡◌, ℕ, zero, suc, ◌+◌, ◌<◌, ◌≤◌, inl, inr, true, false, List, [], ◌∷◌, ◌++◌, ◌==◌, cond, map, length, get_or, take, Option, Some, None, refl, sym, ap, ◌∙◌, subst, arith}
use Rattle.std.specs.List.{All, FoldsTo, sum_by}
use Rattle.std.proofs.lemmas.List.{take-map, take_more, map-append, length-map, get_or_default, length-take-le}
use Rattle.std.proofs.lemmas.List.FromFn.{get_or-map-range_with_len}
use Rattle.std.proofs.lemmas.List.Elements.{All-from_recursion, recursion_from_All}
use Rattle.tda_model.specs.Schema.{Schema}
use Rattle.tda_model.specs.Bounds.{persons_limit}
use Rattle.tda_model.specs.Cells.{cell_count, all_cells, kind_of}
use Rattle.tda_model.specs.First.{counts_of}
use Rattle.tda_model.specs.Release.{Inputs, CanBe}
use Rattle.tda_model.specs.Spine.{Spine, is_child, children_of, unit_numbers, nation_of, parents_of, IsTree}
use Rattle.tda_model.specs.Tables.{Table, Tables, Published, persons_in, kind_sum}
use Rattle.tda_model.proofs.Sums.{Each, each_weaker, each_range, each_filter, each_any, sum_same, sum_le, each_le_sum}
use Rattle.tda_model.proofs.FitOrder.{inner_has}
use Rattle.tda_sets.proofs.Members.{Contains-filter, Contains-range}
use Rattle.tda_spine.specs.Judged.{fits_of}
use Rattle.tda_spine.specs.Sound.{IsInner}
use Rattle.tda_loss.specs.declared.Curve.{Curve}
use Rattle.tda_fitnet.specs.Fits.{AreListedShares}
use Rattle.tda_descent.specs.declared.fit.Fit.{Fit}
use Rattle.tda_descent.specs.Fits.{IsFitOf, AreFirstFits, units_of, IsLeastAt}
use Rattle.tda_descent.specs.Kept.{IsFormed}
use Rattle.tda_descent.specs.Made.{HasChildren, IsRootOf, IsSplitOf, AreStored}
use Rattle.tda_descent.proofs.Family.{AreSame, HaveSame, same_back}
use Rattle.tda_descent.proofs.Chunks.{counts_length}
use Rattle.tda_descent.proofs.Same.{split_is_fit, fit_is_split, root_is_fit}
use Rattle.tda_descent.proofs.Added.{with_children, added_here, kept_there, kept_earlier, nation_no_child, IsReached, reached_first, reached_next, reached_more, not_reached}
use Rattle.tda_descent.proofs.Steps.{split_formed, root_formed}

-- ---- tables with the same counts
pub can_be_same : (i : Inputs) (u : ℕ) (x z : Table) → HaveSame i.schema x z → CanBe i u x → CanBe i u z
can_be_same i u x z h can = (can.0, record { fits = can.1.fits; adds = λ j l. sym (h j l) ∙ can.1.adds j l; totals = can.1.totals })

pub persons_same : (s : Schema) (x z : Table) → HaveSame s x z → persons_in s x ≡ persons_in s z
persons_same s x z h = sum_same x z (all_cells s) (each_range (λ j. x j ≡ z j) 0 (cell_count s) (λ j low high. h j (omega arith)))

kind_same : (s : Schema) (k : ℕ) (x z : Table) → HaveSame s x z → kind_sum s k x ≡ kind_sum s k z
kind_same s k x z h =
    sum_same x z _ (each_filter (λ j. x j ≡ z j) (λ j. kind_of s j == k) (all_cells s) (each_range (λ j. (kind_of s j == k) ≡ true → x j ≡ z j) 0 (cell_count s) (λ j low high is. h j (omega arith))))

pub shares_same : (s : Schema) (sp : Spine) (known : Published) (x z : Table) (list : List ℕ) → HaveSame s x z → AreListedShares s sp known x list → AreListedShares s sp known z list
shares_same s sp known x z list h a = record {
  shares = a.shares;
  are = record { enough = a.are.enough; not_more = a.are.not_more; totals = a.are.totals; kinds = λ k l. a.are.kinds k l ∙ kind_same s k x z h };
  size = a.size;
  at = a.at;
}

-- the counts of a table, as a table
pub listed_same : (s : Schema) (x : Table) → HaveSame s (λ j. get_or (counts_of s x) j 0) x
listed_same s x j l = get_or-map-range_with_len x 0 (cell_count s) j j 0 l (omega arith)

each_at : (P : ℕ → Type 0) (xs : List ℕ) → Each P xs → (k : ℕ) → k < length xs → P (get_or xs k 0)
each_at P [] h k l = absurd (omega arith)
each_at P (x ∷ xs) h zero l = h.0
each_at P (x ∷ xs) h (suc k) l = each_at P xs h.1 k (omega arith)

-- ---- one fit more
each_more : {X : Type 0} (P : X → Type 0) (xs : List X) (x : X) → Each P xs → P x → Each P (xs ++ x ∷ [])
each_more P [] x h p = (p, tt)
each_more P (y ∷ ys) x h p = (h.0, each_more P ys x h.1 p)

pub folds_more : {P A : Type 0} (R : P → A → P → Type 0) (p : P) (xs : List A) (x : A) (q r : P) → FoldsTo R p xs q → R q x r → FoldsTo R p (xs ++ x ∷ []) r
folds_more R p [] x q r h step = (r, subst (λ j. R j x r) (sym h) step, refl)
folds_more R p (y ∷ ys) x q r h step = (h.0, h.1, folds_more R h.0 ys x q r h.2 step)

module _ (c : Curve) (i : Inputs) where
  abbrev s : Schema
  s = i.schema

  abbrev sp : Spine
  sp = i.spine

  abbrev pub parent_at : ℕ → ℕ
  parent_at k = get_or (parents_of sp) k 0

  -- the fit is the nation's, or that of one of the first k units with children
  abbrev pub IsPlaced : ℕ → Option ℕ → Type 0
  IsPlaced k None = Unit {0}
  IsPlaced k (Some q) = (j : ℕ) × (j < k) × (q ≡ parent_at j)

  pub record IsFitAt (k : ℕ) (x : Tables) (fit : Fit) : Type 0 where
    pub is_fit : IsFitOf c i x fit
    pub placed : IsPlaced k fit.parent

  -- the table of a unit, as it is kept
  abbrev pub table_at : List (List ℕ) → ℕ → Table
  table_at tables u j = get_or (get_or tables u []) j 0

  pub record HasTable (x : Tables) (tables : List (List ℕ)) (u : ℕ) : Type 0 where
    pub size : length (get_or tables u []) ≡ cell_count s
    pub same : HaveSame s (table_at tables u) (x u)
    pub can_be : CanBe i u (x u)
    pub few : persons_in s (x u) ≤ persons_limit

  pub record AreDone (k : ℕ) (x : Tables) (fits : List Fit) : Type 0 where
    pub order : map (λ fit. fit.parent) fits ≡ None ∷ map Some (take k (parents_of sp))
    pub each : Each (IsFitAt k x) fits
    pub formed : Each (IsFormed s sp) fits

  module _ (tree : IsTree i.spine (nation_of i.spine)) where
    pub done_are_first : (k : ℕ) (x : Tables) (fits : List Fit) → k ≤ length (parents_of sp) → AreDone k x fits → AreFirstFits c i fits × (length fits ≡ k + 1)
    done_are_first k x fits le d =
        let many : length fits ≡ k + 1 =
        sym (length-map fits (λ fit. fit.parent)) ∙ ap length d.order ∙ counted (length-map (take k (parents_of sp)) Some ∙ length-take-le k (parents_of sp) le) in
        let first : take (k + 1) (fits_of sp) ≡ None ∷ map Some (take k (parents_of sp)) = shifted k ∙ ap (λ os. None ∷ os) (take-map Some k (parents_of sp)) in (
          record {
            order = d.order ∙ sym first ∙ ap (λ n. take n (fits_of sp)) (sym many);
            tables = (x, All-from_recursion (IsFitOf c i x) fits (each_weaker (IsFitAt k x) (IsFitOf c i x) fits (λ fit h. h.is_fit) d.each));
          },
          many,
        )
      where
        counted : {n : ℕ} → n ≡ k → suc n ≡ k + 1
        counted e = omega arith

        shifted : (n : ℕ) → take (n + 1) (fits_of sp) ≡ None ∷ take n (map Some (parents_of sp))
        shifted n = let e : n + 1 ≡ suc n = omega arith in ap (λ m. take m (fits_of sp)) e

    -- ---- the fit of the nation
    pub root_done : (x : Table) (shares : List ℕ) (fit : Fit) → IsRootOf c i x shares fit → AreDone 0 (λ u. x) (fit ∷ [])
    root_done x shares fit h = record {
      order = ap (λ o. o ∷ []) h.parent;
      each = (record { is_fit = h.is_fit; placed = subst (IsPlaced 0) (sym h.parent) tt }, tt);
      formed = (root_formed c i fit x shares h, tt);
    }

    inner_children : (u : ℕ) → IsInner sp u → HasChildren sp u
    inner_children u inner = some (children_of sp u) (inner_has sp tree u inner.here inner.above)
      where
        some : (xs : List ℕ) → (xs ≡ [] → ⊥) → 0 < length xs
        some [] h = absurd (h refl)
        some (x ∷ xs) h = omega arith

    pub root_tables : (x : Table) (shares : List ℕ) (fit : Fit) (old tables : List (List ℕ)) → IsRootOf c i x shares fit → AreStored sp s fit.units.items (λ u. x) old tables
        → (u : ℕ) → IsInner sp u → IsReached sp 0 u → HasTable (λ v. x) tables u
    root_tables x shares fit old tables h stored u inner reached =
        let nation = nation_of sp in
        let same : u ≡ nation = reached_first sp tree u reached in
        let units : fit.units.items ≡ nation ∷ [] = h.is_fit.units ∙ ap (units_of sp) h.parent in
        let there : get_or fit.units.items 0 0 ≡ u = ap (λ us. get_or us 0 0) units ∙ sym same in
        let table : get_or tables u [] ≡ counts_of s x = subst (λ v. HasChildren sp v → get_or tables v [] ≡ counts_of s x) there (stored.kept 0 (omega (arith, ap length units))) (inner_children u inner) in
        record {
          size = ap length table ∙ counts_length s (λ v. x) u;
          same = λ j l. ap (λ t. get_or t j 0) table ∙ listed_same s x j l;
          can_be = subst (λ v. CanBe i v x) (sym same) (subst (λ o. IsLeastAt c i (λ v. x) o) h.parent h.is_fit.least).can_be;
          few = h.few;
        }

    -- ---- the fit of one unit's children more
    module _ (k : ℕ) (in_list : k < length (parents_of sp)) (x : Tables) (fits : List Fit) (done : AreDone k x fits) (tables : List (List ℕ))
        (has : HasTable x tables (parent_at k)) (fit : Fit) (family : Tables) (split : IsSplitOf c i (parent_at k) (table_at tables (parent_at k)) family fit) where
      abbrev p : ℕ
      p = parent_at k

      abbrev pub more : Tables
      more = with_children sp p family x

      own_kept : more p ≡ x p
      own_kept = kept_there sp p p family x (not_reached sp tree k p in_list (reached_next sp tree k in_list))

      new_fit : IsFitOf c i more fit
      new_fit =
          split_is_fit c i p (table_at tables p) family fit more split
          (λ j l. has.same j l ∙ ap (λ t. t j) (sym own_kept))
          (same_back (children_of sp p) more family (added_here sp p family x))

      pub nation_kept : more (nation_of sp) ≡ x (nation_of sp)
      nation_kept = kept_there sp p (nation_of sp) family x (nation_no_child sp tree p)

      old_fit : (f : Fit) (o : Option ℕ) → f.parent ≡ o → IsPlaced k o → IsFitOf c i x f → IsFitOf c i more f
      old_fit f None e placed h = root_is_fit c i f x more e (sym nation_kept) h
      old_fit f (Some q) e placed h =
          let earlier = kept_earlier sp tree placed.0 k family x placed.1 in_list in
          let children : AreSame (children_of sp q) x more = subst (λ v. AreSame (children_of sp v) x more) (sym placed.2) (same_back (children_of sp (parent_at placed.0)) more x earlier.0) in
          let own : x q ≡ more q = subst (λ v. x v ≡ more v) (sym placed.2) (sym earlier.1) in
          split_is_fit c i q (x q) x f more (fit_is_split c i q f x e h) (λ j l. ap (λ t. t j) own) children

      placed_later : (o : Option ℕ) → IsPlaced k o → IsPlaced (k + 1) o
      placed_later None h = tt
      placed_later (Some q) h = (h.0, omega (arith, h.1), h.2)

      pub split_done : IsInner sp p → AreDone (k + 1) more (fits ++ fit ∷ [])
      split_done inner = record {
        order = map-append (λ f. f.parent) fits (fit ∷ []) ∙ ap (λ os. os ++ fit.parent ∷ []) done.order ∙ ap (λ o. None ∷ (map Some (take k (parents_of sp)) ++ o ∷ [])) split.parent
            ∙ ap (λ os. None ∷ os) (sym (map-append Some (take k (parents_of sp)) (p ∷ [])) ∙ ap (map Some) (sym (take_more (parents_of sp) k 0 in_list)));
        each = each_more (IsFitAt (k + 1) more) fits fit
            (each_weaker (IsFitAt k x) (IsFitAt (k + 1) more) fits (λ f h. record { is_fit = old_fit f f.parent refl h.placed h.is_fit; placed = placed_later f.parent h.placed }) done.each)
            (record { is_fit = new_fit; placed = subst (IsPlaced (k + 1)) (sym split.parent) (k, omega arith, refl) });
        formed = each_more (IsFormed s sp) fits fit done.formed (split_formed c i fit p (table_at tables p) family inner split);
      }

      -- each child's counts are at most its parent's
      child_few : (u : ℕ) → (n : ℕ) → n < length (children_of sp p) → get_or (children_of sp p) n 0 ≡ u → persons_in s (family u) ≤ persons_limit
      child_few u n less at =
          let below : (j : ℕ) → j < cell_count s → family u j ≤ table_at tables p j = λ j l.
          let one = each_at (λ v. family v j ≤ sum_by (λ w. family w j) (children_of sp p)) (children_of sp p) (each_le_sum (λ w. family w j) (children_of sp p)) n less in
          let adds = split.least.is_family.adds j l in
          subst (λ v. family v j ≤ table_at tables p j) at (omega (arith, one, adds)) in
          let sums : persons_in s (family u) ≤ persons_in s (table_at tables p) =
          sum_le (family u) (table_at tables p) (all_cells s) (each_range (λ j. family u j ≤ table_at tables p j) 0 (cell_count s) (λ j low high. below j (omega arith))) in
          omega (arith, sums, persons_same s (table_at tables p) (x p) has.same, has.few)

      module _ (new : List (List ℕ)) (stored : AreStored sp s fit.units.items family tables new) where
        child_table : (u : ℕ) → IsInner sp u → is_child sp p u ≡ true → HasTable more new u
        child_table u inner is =
            let found = Contains-filter (is_child sp p) (unit_numbers sp) u (Contains-range (length sp.units) u inner.here) is in
            let n = found.0 in
            let at : get_or (children_of sp p) n 0 ≡ u = get_or_default (children_of sp p) n 0 u found.1 ∙ found.2 in
            let there : get_or fit.units.items n 0 ≡ u = ap (λ us. get_or us n 0) split.units ∙ at in
            let table : get_or new u [] ≡ counts_of s (family u) =
            subst (λ v. HasChildren sp v → get_or new v [] ≡ counts_of s (family v)) there (stored.kept n (omega (arith, ap length split.units, found.1))) (inner_children u inner) in
            let added : more u ≡ family u = ap (λ b. cond b (family u) (x u)) is in
            let can : CanBe i u (family u) =
            subst (λ v. CanBe i v (family v)) at (each_at (λ v. CanBe i v (family v)) (children_of sp p) (recursion_from_All (λ v. CanBe i v (family v)) (children_of sp p) split.least.is_family.can_be) n found.1) in
            record {
              size = ap length table ∙ counts_length s family u;
              same = λ j l. ap (λ t. get_or t j 0) table ∙ listed_same s (family u) j l ∙ ap (λ t. t j) (sym added);
              can_be = subst (CanBe i u) (sym added) can;
              few = subst (λ t. persons_in s t ≤ persons_limit) (sym added) (child_few u n found.1 at);
            }

        other_table : (u : ℕ) → is_child sp p u ≡ false → HasTable x tables u → HasTable more new u
        other_table u away h =
            let apart : All (λ v. u ≡ v → ⊥) fit.units.items =
            subst (All (λ v. u ≡ v → ⊥)) (sym split.units)
            (All-from_recursion (λ v. u ≡ v → ⊥) (children_of sp p)
            (each_filter (λ v. u ≡ v → ⊥) (is_child sp p) (unit_numbers sp) (each_any (λ v. is_child sp p v ≡ true → u ≡ v → ⊥) (unit_numbers sp)
            (λ v is same. let also : is_child sp p u ≡ true = ap (is_child sp p) same ∙ is in absurd cc)))) in
            let table : get_or new u [] ≡ get_or tables u [] = stored.others u apart in
            let kept : more u ≡ x u = kept_there sp p u family x away in
            record {
              size = ap length table ∙ h.size;
              same = λ j l. ap (λ t. get_or t j 0) table ∙ h.same j l ∙ ap (λ t. t j) (sym kept);
              can_be = subst (CanBe i u) (sym kept) h.can_be;
              few = subst (λ t. persons_in s t ≤ persons_limit) (sym kept) h.few;
            }

        pub split_tables : ((u : ℕ) → IsInner sp u → IsReached sp k u → HasTable x tables u) → (u : ℕ) → IsInner sp u → IsReached sp (k + 1) u → HasTable more new u
        split_tables before u inner reached =
            elim (reached_more sp tree k u reached) [
              | inl old ↦ other_table u (not_reached sp tree k u in_list old) (before u inner old)
              | inr is ↦ child_table u inner is
            ]
