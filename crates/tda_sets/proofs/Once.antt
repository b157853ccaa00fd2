-- Lists of sets in which each stands once.
use Rattle.std.proofs.Common.{◌≡◌, ℕ, zero, suc, ◌+◌, ◌<◌, ◌≤◌, Bool, true, false, not, cond, ◌&&◌, ◌||◌, List, [], ◌∷◌, ◌++◌, length, map, filter, Contains, refl, sym, ap, ◌∙◌, subst, arith, inl, inr}
use Rattle.std.specs.Bool.{Decides}
use Rattle.std.specs.List.{list_any}
use Rattle.std.specs.Str.{bytes_eq}
use Rattle.std.proofs.lemmas.Bool.{cases_Bool, or_cases, false≢true, not_from_false, not-true}
use Rattle.std.proofs.lemmas.Bool.Decides.{same_from_decides}
use Rattle.std.proofs.lemmas.List.Elements.{All-contains, All-from_recursion, filter-append, filter_agree}
use Rattle.std.proofs.lemmas.List.Sums.{length-filter, count_by-le-length}
use Rattle.std.proofs.lemmas.Slice.Eq.{bytes_eq-Decides}
use Rattle.tda_model.specs.Groups.{each_once}
use Rattle.tda_model.proofs.Sums.{Each, each_weaker, each_filter, each_any}
use Rattle.tda_sets.proofs.Ranges.{filter-filter, filter_all}
use Rattle.tda_sets.proofs.Members.{Contains-here, Contains-later, Contains-cases, Contains-filter, Contains-unfiltered}

-- whether a set is among these
abbrev pub has : List (List ℕ) → List ℕ → Bool
has xss y = list_any (λ x. bytes_eq x y) xss

abbrev pub differs : List ℕ → List ℕ → Bool
differs x y = not (bytes_eq x y)

same_texts : (x y : List ℕ) → bytes_eq x y ≡ true → x ≡ y
same_texts x y e = (bytes_eq-Decides x y).0 e

itself : (x : List ℕ) → bytes_eq x x ≡ true
itself x = (bytes_eq-Decides x x).1 refl

pub has_tells : (xss : List (List ℕ)) (y : List ℕ) → has xss y ≡ true → Contains xss y
has_tells [] y h = absurd (false≢true h)
has_tells (x ∷ xss) y h =
    elim (or_cases (bytes_eq x y) (has xss y) h) [
      | inl here ↦ subst (λ z. Contains (x ∷ xss) z) (same_texts x y here) (Contains-here x xss)
      | inr later ↦ Contains-later x xss y (has_tells xss y later)
    ]

pub has_from : (xss : List (List ℕ)) (y : List ℕ) → Contains xss y → has xss y ≡ true
has_from [] y found = absurd (omega (arith, found.1))
has_from (x ∷ xss) y found =
    elim (Contains-cases x xss y found) [
      | inl here ↦ ap (λ b. b || has xss y) ((bytes_eq-Decides x y).1 here)
      | inr later ↦ ap (λ b. bytes_eq x y || b) (has_from xss y later) ∙ or_true (bytes_eq x y)
    ]
  where
    or_true : (b : Bool) → (b || true) ≡ true
    or_true true = refl
    or_true false = refl

-- ---- what each_once keeps

pub each_once_from : (xss : List (List ℕ)) (y : List ℕ) → Contains (each_once xss) y → Contains xss y
each_once_from [] y found = found
each_once_from (x ∷ xss) y found =
    elim (Contains-cases x (filter (differs x) (each_once xss)) y found) [
      | inl here ↦ subst (λ z. Contains (x ∷ xss) z) here (Contains-here x xss)
      | inr later ↦ Contains-later x xss y (each_once_from xss y (Contains-unfiltered (differs x) (each_once xss) y later))
    ]

pub each_once_has : (xss : List (List ℕ)) (y : List ℕ) → Contains xss y → Contains (each_once xss) y
each_once_has [] y found = found
each_once_has (x ∷ xss) y found =
    let rest = filter (differs x) (each_once xss) in
    elim (cases_Bool (bytes_eq x y)) [
      | inl same ↦ subst (λ z. Contains (x ∷ rest) z) (same_texts x y same) (Contains-here x rest)
      | inr other ↦
          elim (Contains-cases x xss y found) [
            | inl here ↦ absurd (false≢true (sym other ∙ (bytes_eq-Decides x y).1 here))
            | inr later ↦ Contains-later x rest y (Contains-filter (differs x) (each_once xss) y (each_once_has xss y later) (not_from_false (bytes_eq x y) other))
          ]
    ]

pub each_once-append : (xss yss : List (List ℕ)) → each_once (xss ++ yss) ≡ each_once xss ++ filter (λ y. not (has xss y)) (each_once yss)
each_once-append [] yss = sym (filter_all (λ y. true) (each_once yss) (each_any (λ y. true ≡ true) (each_once yss) (λ y. refl)))
each_once-append (x ∷ xss) yss =
    ap (λ zss. x ∷ filter (differs x) zss) (each_once-append xss yss)
    ∙ ap (λ zss. x ∷ zss) (filter-append (differs x) (each_once xss) (filter (λ y. not (has xss y)) (each_once yss))
    ∙ ap (λ zss. filter (differs x) (each_once xss) ++ zss) (filter-filter (differs x) (λ y. not (has xss y)) (each_once yss)
    ∙ filter_agree (λ y. not (has xss y) && differs x y) (λ y. not (has (x ∷ xss) y)) (λ y. none_of_both (has xss y) (bytes_eq x y)) (each_once yss)))
  where
    none_of_both : (a b : Bool) → (not a && not b) ≡ not (b || a)
    none_of_both true true = refl
    none_of_both true false = refl
    none_of_both false true = refl
    none_of_both false false = refl

-- ---- lists in which no set stands twice

abbrev pub AreDistinct : List (List ℕ) → Type 0
AreDistinct [] = Unit {0}
AreDistinct (x ∷ xss) = Each (λ y. bytes_eq x y ≡ false) xss × AreDistinct xss

pub each_once-distinct : (xss : List (List ℕ)) → AreDistinct xss → each_once xss ≡ xss
each_once-distinct [] h = refl
each_once-distinct (x ∷ xss) h =
    ap (λ zss. x ∷ filter (differs x) zss) (each_once-distinct xss h.1)
    ∙ ap (λ zss. x ∷ zss) (filter_all (differs x) xss (each_weaker (λ y. bytes_eq x y ≡ false) (λ y. differs x y ≡ true) xss (λ y e. not_from_false (bytes_eq x y) e) h.0))

filter_distinct : (p : List ℕ → Bool) (xss : List (List ℕ)) → AreDistinct xss → AreDistinct (filter p xss)
filter_distinct p [] h = h
filter_distinct p (x ∷ xss) h = by (p x) (filter_distinct p xss h.1)
  where
    by : (b : Bool) → AreDistinct (filter p xss) → AreDistinct (cond b (x ∷ filter p xss) (filter p xss))
    by true k = (each_filter (λ y. bytes_eq x y ≡ false) p xss (each_weaker (λ y. bytes_eq x y ≡ false) (λ y. p y ≡ true → bytes_eq x y ≡ false) xss (λ y e f. e) h.0), k)
    by false k = k

pub each_once_is_distinct : (xss : List (List ℕ)) → AreDistinct (each_once xss)
each_once_is_distinct [] = tt
each_once_is_distinct (x ∷ xss) = (
  each_filter (λ y. bytes_eq x y ≡ false) (differs x) (each_once xss)
      (each_any (λ y. differs x y ≡ true → bytes_eq x y ≡ false) (each_once xss) (λ y e. not-true (bytes_eq x y) e)),
  filter_distinct (differs x) (each_once xss) (each_once_is_distinct xss),
)

-- ---- how many there are

shorter : (x : List ℕ) (yss : List (List ℕ)) → Contains yss x → length (filter (differs x) yss) < length yss
shorter x [] found = absurd (omega (arith, found.1))
shorter x (y ∷ yss) found =
    let few : length (filter (differs x) yss) ≤ length yss = omega (arith, length-filter (differs x) yss, count_by-le-length (differs x) yss) in
    elim (cases_Bool (bytes_eq x y)) [
      | inl same ↦ rw same (omega arith)
      | inr other ↦
          elim (Contains-cases y yss x found) [
            | inl here ↦ absurd (false≢true (sym other ∙ (bytes_eq-Decides x y).1 (sym here)))
            | inr later ↦ let rest = shorter x yss later in rw other (omega (arith, rest))
          ]
    ]

pub fits : (xss yss : List (List ℕ)) → AreDistinct xss → ((z : List ℕ) → Contains xss z → Contains yss z) → length xss ≤ length yss
fits [] yss h among = omega arith
fits (x ∷ xss) yss h among =
    let less = shorter x yss (among x (Contains-here x xss)) in
    let rest = fits xss (filter (differs x) yss) h.1 (λ z found. Contains-filter (differs x) yss z (among z (Contains-later x xss z found))
    (not_from_false (bytes_eq x z) (All-contains (λ y. bytes_eq x y ≡ false) xss z (All-from_recursion (λ y. bytes_eq x y ≡ false) xss h.0) found))) in
    omega (arith, less, rest)

-- lists with the same sets have as many different ones
pub length-each_once-le : (xss yss : List (List ℕ)) → ((z : List ℕ) → Contains xss z → Contains yss z) → length (each_once xss) ≤ length (each_once yss)
length-each_once-le xss yss among = fits (each_once xss) (each_once yss) (each_once_is_distinct xss) (λ z found. each_once_has yss z (among z (each_once_from xss z found)))

pub length-each_once-same : (xss yss : List (List ℕ)) → ((z : List ℕ) → Contains xss z → Contains yss z) → ((z : List ℕ) → Contains yss z → Contains xss z)
    → length (each_once xss) ≡ length (each_once yss)
length-each_once-same xss yss one other = omega (arith, length-each_once-le xss yss one, length-each_once-le yss xss other)

pub length-each_once : (xss : List (List ℕ)) → length (each_once xss) ≤ length xss
length-each_once xss = fits (each_once xss) xss (each_once_is_distinct xss) (each_once_from xss)
