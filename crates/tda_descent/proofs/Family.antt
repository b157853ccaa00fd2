-- What is said of a family looks at its members alone.
use Rattle.std.proofs.Common.{◌≡◌, ℕ, ◌<◌, ◌≤◌, List, [], ◌∷◌, ◌++◌, map, refl, sym, ap, ◌∙◌, subst}
use Rattle.std.specs.List.{flat_map}
use Rattle.std.proofs.lemmas.List.Elements.{recursion_from_All, All-from_recursion}
use Rattle.tda_model.specs.Schema.{Schema}
use Rattle.tda_model.specs.Cells.{cell_count}
use Rattle.tda_model.specs.Tables.{Table, Tables}
use Rattle.tda_model.specs.Least.{IsFamily, LeastSplit, family_deviation}
use Rattle.tda_model.specs.First.{family_counts, counts_of}
use Rattle.tda_model.proofs.Sums.{Each, each_weaker, each_both, sum_same}

pub flat_same : {A B : Type 0} (f g : A → List B) (xs : List A) → Each (λ x. f x ≡ g x) xs → flat_map f xs ≡ flat_map g xs
flat_same f g [] h = refl
flat_same f g (x ∷ xs) h = ap (λ l. l ++ flat_map f xs) h.0 ∙ ap (λ l. g x ++ l) (flat_same f g xs h.1)

pub map_same : {A B : Type 0} (f g : A → B) (xs : List A) → Each (λ x. f x ≡ g x) xs → map f xs ≡ map g xs
map_same f g [] h = refl
map_same f g (x ∷ xs) h = ap (λ y. y ∷ map f xs) h.0 ∙ ap (λ l. g x ∷ l) (map_same f g xs h.1)

-- two families have the same tables of these units
abbrev pub AreSame : List ℕ → Tables → Tables → Type 0
AreSame units x y = Each (λ u. x u ≡ y u) units

-- two tables have the same counts
abbrev pub HaveSame : Schema → Table → Table → Type 0
HaveSame s x y = (j : ℕ) → j < cell_count s → x j ≡ y j

pub same_back : (units : List ℕ) (x y : Tables) → AreSame units x y → AreSame units y x
same_back units x y h = each_weaker _ _ units (λ u e. sym e) h

module _ (CanBe : ℕ → Table → Type 0) (s : Schema) (units : List ℕ) where
  pub family_same : (t z : Table) (x y : Tables) → HaveSame s t z → AreSame units x y → IsFamily CanBe s units t x → IsFamily CanBe s units z y
  family_same t z x y ht hx f = record {
    can_be = All-from_recursion (λ c. CanBe c (y c)) units
        (each_both (λ u. x u ≡ y u) (λ c. CanBe c (x c)) (λ c. CanBe c (y c)) units (λ u e can. subst (CanBe u) e can) hx (recursion_from_All (λ c. CanBe c (x c)) units f.can_be));
    adds = λ j l. sym (ht j l) ∙ f.adds j l ∙ sum_same (λ u. x u j) (λ u. y u j) units (each_weaker _ _ units (λ u e. ap (λ q. q j) e) hx);
  }

  pub deviation_same : (dev : ℕ → Table → ℕ) (x y : Tables) → AreSame units x y → family_deviation dev units x ≡ family_deviation dev units y
  deviation_same dev x y h = sum_same (λ c. dev c (x c)) (λ c. dev c (y c)) units (each_weaker _ _ units (λ u e. ap (dev u) e) h)

  pub least_same : (dev : ℕ → Table → ℕ) (t z : Table) (x y : Tables) → HaveSame s t z → AreSame units x y → LeastSplit CanBe dev s units t x → LeastSplit CanBe dev s units z y
  least_same dev t z x y ht hx h = record {
    is_family = family_same t z x y ht hx h.is_family;
    least = λ other f.
        let below = h.least other (family_same z t other other (λ j l. sym (ht j l)) (all_same other) f) in
        subst (λ n. n ≤ family_deviation dev units other) (deviation_same dev x y hx) below;
  }
    where
      all_same : (w : Tables) → AreSame units w w
      all_same w = same units
        where
          same : (us : List ℕ) → AreSame us w w
          same [] = tt
          same (u ∷ us) = (refl, same us)

pub counts_same : (s : Schema) (units : List ℕ) (x y : Tables) → AreSame units x y → family_counts s units x ≡ family_counts s units y
counts_same s units x y h = flat_same (λ c. counts_of s (x c)) (λ c. counts_of s (y c)) units (each_weaker _ _ units (λ u e. ap (counts_of s) e) h)
