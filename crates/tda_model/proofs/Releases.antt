-- The splits of a release in fit order, and the uniqueness of a first release.
use Rattle.std.proofs.Common.{◌≡◌, ℕ, zero, suc, ◌+◌, ◌<◌, List, [], ◌∷◌, ◌++◌, All, map, refl, sym, ap, ◌∙◌, subst, inl, inr, arith}
use Rattle.std.specs.List.{flat_map}
use Rattle.std.proofs.lemmas.List.Elements.{All-from_recursion, recursion_from_All}
use Rattle.tda_model.specs.Schema.{Schema}
use Rattle.tda_model.specs.Cells.{cell_count, all_cells}
use Rattle.tda_model.specs.Spine.{Spine, level_of, children_of, nation_of, parents_of, IsUnit, IsTree}
use Rattle.tda_model.specs.Tables.{Table, Tables}
use Rattle.tda_model.specs.Least.{LeastSplit, IsFamily}
use Rattle.tda_model.specs.First.{IsNotLater, FirstRoot, FirstSplit, FirstRelease, counts_of, family_counts}
use Rattle.tda_model.proofs.Sums.{Each, range_each}
use Rattle.tda_model.proofs.FitOrder.{parents_each, each_inner, inner_has, has_inner, among_children, some_child}

module _ (CanBe : ℕ → Table → Type 0) (dev : ℕ → Table → ℕ) (s : Schema) (sp : Spine) (t : IsTree sp (nation_of sp)) where
  -- the splits of the units with children, in fit order
  abbrev pub SplitsInOrder : Tables → Type 0
  SplitsInOrder x = All (λ p. LeastSplit CanBe dev s (children_of sp p) (x p) x) (parents_of sp)

  pub splits_from_order : (x : Tables) → SplitsInOrder x → (p : ℕ) → IsUnit sp p → ¬ (children_of sp p ≡ []) → LeastSplit CanBe dev s (children_of sp p) (x p) x
  splits_from_order x all p here some =
      each_inner sp t (λ q. LeastSplit CanBe dev s (children_of sp q) (x q) x) (recursion_from_All _ (parents_of sp) all) p here (has_inner sp t p some)

  pub order_from_splits : (x : Tables) → ((p : ℕ) → IsUnit sp p → ¬ (children_of sp p ≡ []) → LeastSplit CanBe dev s (children_of sp p) (x p) x) → SplitsInOrder x
  order_from_splits x h =
      All-from_recursion _ (parents_of sp)
      (parents_each sp t (λ q. LeastSplit CanBe dev s (children_of sp q) (x q) x) (λ p here inner. h p here (inner_has sp t p here inner)))

-- of two lists of which neither is later both are one
one_list : (xs ys : List ℕ) → IsNotLater xs ys → IsNotLater ys xs → xs ≡ ys
one_list [] [] h k = refl
one_list [] (y ∷ ys) h k = absurd k
one_list (x ∷ xs) [] h k = absurd h
one_list (x ∷ xs) (y ∷ ys) h k = elim h [
  | inl less ↦ elim k [ inl more ↦ absurd (omega arith) | inr same ↦ let e = same.0 in absurd (omega arith) ]
  | inr same ↦ elim k [
    | inl more ↦ let e = same.0 in absurd (omega arith)
    | inr back ↦ ap (λ z. z ∷ xs) same.0 ∙ ap (λ zs. y ∷ zs) (one_list xs ys same.1 back.1)
  ]
]

-- equal lists of counts are equal count by count
same_counts : (f g : ℕ → ℕ) (js xs ys : List ℕ) → (map f js ++ xs) ≡ (map g js ++ ys) → Each (λ j. f j ≡ g j) js × (xs ≡ ys)
same_counts f g [] xs ys e = (tt, e)
same_counts f g (j ∷ js) xs ys e =
    let rest = same_counts f g js xs ys (ap tail e) in ((ap head e, rest.0), rest.1)
  where
    head : List ℕ → ℕ
    head [] = 0
    head (z ∷ zs) = z

    tail : List ℕ → List ℕ
    tail [] = []
    tail (z ∷ zs) = zs

same_families : (x y : Tables) (js cs : List ℕ) → flat_map (λ c. map (x c) js) cs ≡ flat_map (λ c. map (y c) js) cs → Each (λ c. Each (λ j. x c j ≡ y c j) js) cs
same_families x y js [] e = tt
same_families x y js (c ∷ cs) e =
    let both = same_counts (x c) (y c) js (flat_map (λ d. map (x d) js) cs) (flat_map (λ d. map (y d) js) cs) e in
    (both.0, same_families x y js cs both.1)

module _ (CanBe : ℕ → Table → Type 0) (dev : ℕ → Table → ℕ) (s : Schema) where
  abbrev AreAlike : Table → Table → Type 0
  AreAlike x y = (j : ℕ) → j < cell_count s → x j ≡ y j

  by_cells : (x y : Table) → Each (λ j. x j ≡ y j) (all_cells s) → AreAlike x y
  by_cells x y each j low = range_each (λ i. x i ≡ y i) 0 (cell_count s) each j (omega arith) (omega arith)

  -- a family of one table is one of each table that has the same counts
  family_of : (cs : List ℕ) (x y : Table) (f : Tables) → AreAlike x y → IsFamily CanBe s cs x f → IsFamily CanBe s cs y f
  family_of cs x y f alike is = record { can_be = is.can_be; adds = λ j low. sym (alike j low) ∙ is.adds j low }

  split_of : (cs : List ℕ) (x y : Table) (f : Tables) → AreAlike x y → LeastSplit CanBe dev s cs x f → LeastSplit CanBe dev s cs y f
  split_of cs x y f alike is = record {
    is_family = family_of cs x y f alike is.is_family;
    least = λ other family. is.least other (family_of cs y x other (λ j low. sym (alike j low)) family);
  }

  one_root : (nation : ℕ) (x y : Table) → FirstRoot CanBe dev s nation x → FirstRoot CanBe dev s nation y → AreAlike x y
  one_root nation x y h k =
      let same = one_list (counts_of s x) (counts_of s y) (h.first y k.least) (k.first x h.least) in
      by_cells x y (same_counts x y (all_cells s) [] [] (ap (λ xs. xs ++ []) same)).0

  one_split : (cs : List ℕ) (x y : Table) (f g : Tables) → AreAlike x y → FirstSplit CanBe dev s cs x f → FirstSplit CanBe dev s cs y g
      → Each (λ c. AreAlike (f c) (g c)) cs
  one_split cs x y f g alike h k =
      let same = one_list (family_counts s cs f) (family_counts s cs g)
      (h.first g (split_of cs y x g (λ j low. sym (alike j low)) k.least)) (k.first f (split_of cs x y f alike h.least)) in
      each_alike cs (same_families f g (all_cells s) cs same)
    where
      each_alike : (ds : List ℕ) → Each (λ c. Each (λ j. f c j ≡ g c j) (all_cells s)) ds → Each (λ c. AreAlike (f c) (g c)) ds
      each_alike [] each = tt
      each_alike (d ∷ ds) each = (by_cells (f d) (g d) each.0, each_alike ds each.1)

  -- two first releases agree at each unit and cell
  module _ (sp : Spine) (t : IsTree sp (nation_of sp)) (x y : Tables) (h : FirstRelease CanBe dev s sp x) (k : FirstRelease CanBe dev s sp y) where
    by_level : (level u : ℕ) → IsUnit sp u → level_of sp u ≡ level → AreAlike (x u) (y u)
    by_level zero u here at =
        let same : nation_of sp ≡ u = sym (t.root_alone u here at) in
        subst (λ v. AreAlike (x v) (y v)) same (one_root (nation_of sp) (x (nation_of sp)) (y (nation_of sp)) h.root k.root)
    by_level (suc level) u here at =
        let p = t.parent u here (omega arith) in
        let above : level_of sp u ≡ level_of sp p.0 + 1 = p.1.above in
        let some = some_child sp p.0 u here p.1 in
        let up = by_level level p.0 p.1.here (omega arith) in
        among_children sp (λ c. AreAlike (x c) (y c)) p.0 u here p.1
        (one_split (children_of sp p.0) (x p.0) (y p.0) x y up (h.splits p.0 p.1.here some) (k.splits p.0 p.1.here some))

    pub one_release : (u : ℕ) → IsUnit sp u → (j : ℕ) → j < cell_count s → x u j ≡ y u j
    one_release u here = by_level (level_of sp u) u here refl
