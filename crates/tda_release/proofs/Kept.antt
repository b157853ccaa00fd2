-- The texts after fits were kept, one after the other.
use Rattle.std.proofs.Common.{◌≡◌, ℕ, ◌+◌, List, [], ◌∷◌, ◌++◌, length, refl, sym, ap, ◌∙◌, subst, arith}
use Rattle.std.specs.List.{flat_map, sum_by, FoldsTo}
use Rattle.std.proofs.lemmas.List.{append_assoc, append-nil}
use Rattle.std.proofs.lemmas.List.Sums.{sum_by-append}
use denote.Ref.{Bor, MutBor}
use Rattle.tda_model.specs.Schema.{Schema}
use Rattle.tda_model.specs.Spine.{Spine}
use Rattle.tda_out.specs.Written.{units_text}
use Rattle.tda_prices.specs.PricesText.{fit_text}
use Rattle.tda_descent.specs.declared.fit.Fit.{Fit}
use Rattle.tda_release.specs.Texts.{HasFit, most_sum}
use Rattle.tda_release.specs.declared.release.Texts.{Texts}
use Rattle.tda_descent.specs.Kept.{IsFormed}
use Rattle.tda_release.proofs.Folded.{folded}

-- what the closure that keeps fits has borrowed
abbrev pub Keeper : Type 0
Keeper = MutBor Texts × Bor Schema × Bor Spine

-- it took a fit
pub record Takes (k : Keeper) (fit : Fit) (next : Keeper) : Type 0 where
  pub name : next.0.ghost_name ≡ k.0.ghost_name
  pub schema : next.1 ≡ k.1
  pub spine : next.2 ≡ k.2
  pub has : HasFit k.1.now k.2.now fit k.0.now next.0.now

module _ (s : Schema) (sp : Spine) where
  abbrev pub fit_rows : Fit → List ℕ
  fit_rows fit = units_text s sp fit.units.items fit.counts.items

  abbrev pub fit_price_rows : Fit → List ℕ
  fit_price_rows fit = fit_text s sp fit.parent fit.prices.items

  -- the texts have the rows of these fits besides
  pub record HasFits (old : Texts) (fits : List Fit) (new : Texts) : Type 0 where
    pub tables : new.tables.items ≡ old.tables.items ++ flat_map fit_rows fits
    pub prices : new.prices.items ≡ old.prices.items ++ flat_map fit_price_rows fits
    pub deviation : old.deviation ≡ 0 → new.deviation ≡ most_sum 0 (sum_by (λ fit. fit.deviation) fits)

  flat_more : (f : Fit → List ℕ) (fits : List Fit) (fit : Fit) → flat_map f (fits ++ fit ∷ []) ≡ flat_map f fits ++ f fit
  flat_more f [] fit = append-nil (f fit)
  flat_more f (x ∷ xs) fit = ap (λ t. f x ++ t) (flat_more f xs fit) ∙ sym (append_assoc (f x) (flat_map f xs) (f fit))

  alone : (n : ℕ) → 0 + n ≡ n
  alone n = omega arith

  sum_more : (f : Fit → ℕ) (fits : List Fit) (fit : Fit) → sum_by f (fits ++ fit ∷ []) ≡ sum_by f fits + f fit
  sum_more f fits fit = sum_by-append f fits (fit ∷ []) ∙ ap (λ n. sum_by f fits + n) (alone (f fit))

  text_more : (f : Fit → List ℕ) (old mid new : List ℕ) (fits : List Fit) (fit : Fit) → mid ≡ old ++ flat_map f fits → new ≡ mid ++ f fit → new ≡ old ++ flat_map f (fits ++ fit ∷ [])
  text_more f old mid new fits fit before here =
      here ∙ ap (λ t. t ++ f fit) before ∙ append_assoc old (flat_map f fits) (f fit) ∙ ap (λ t. old ++ t) (sym (flat_more f fits fit))

  most_more : (a b c : ℕ) → most_sum (most_sum a b) c ≡ most_sum a (b + c)
  most_more a b c = omega arith

  fits_more : (old mid new : Texts) (fits : List Fit) (fit : Fit) → HasFits old fits mid → HasFit s sp fit mid new → HasFits old (fits ++ fit ∷ []) new
  fits_more old mid new fits fit before here = record {
    tables = text_more fit_rows old.tables.items mid.tables.items new.tables.items fits fit before.tables here.tables;
    prices = text_more fit_price_rows old.prices.items mid.prices.items new.prices.items fits fit before.prices here.prices;
    deviation = λ none. here.deviation
        ∙ ap (λ d. most_sum d fit.deviation) (before.deviation none)
        ∙ most_more 0 (sum_by (λ f. f.deviation) fits) fit.deviation
        ∙ ap (most_sum 0) (sym (sum_more (λ f. f.deviation) fits fit));
  }

-- it took these fits
pub record HasTaken (k : Keeper) (fits : List Fit) (last : Keeper) : Type 0 where
  pub name : last.0.ghost_name ≡ k.0.ghost_name
  pub schema : last.1 ≡ k.1
  pub spine : last.2 ≡ k.2
  pub has : HasFits k.1.now k.2.now k.0.now fits last.0.now

taken_more : (k mid next : Keeper) (fits : List Fit) (fit : Fit) → HasTaken k fits mid → Takes mid fit next → HasTaken k (fits ++ fit ∷ []) next
taken_more k mid next fits fit before here = record {
  name = here.name ∙ before.name;
  schema = here.schema ∙ before.schema;
  spine = here.spine ∙ before.spine;
  has = fits_more k.1.now k.2.now k.0.now mid.0.now next.0.now fits fit before.has
      (subst (λ b. HasFit b.now k.2.now fit mid.0.now next.0.now) before.schema (subst (λ b. HasFit mid.1.now b.now fit mid.0.now next.0.now) before.spine here.has));
}

no_sum : 0 ≡ most_sum 0 0
no_sum = omega arith

taken_none : (k : Keeper) → HasTaken k [] k
taken_none k = record {
  name = refl;
  schema = refl;
  spine = refl;
  has = record { tables = sym (append-nil k.0.now.tables.items); prices = sym (append-nil k.0.now.prices.items); deviation = λ none. none ∙ no_sum };
}

-- calls that each take a fit take all of them
pub all_taken : (R : Keeper → Fit → Keeper → Type 0) → ((k : Keeper) (fit : Fit) (next : Keeper) → R k fit next → Takes k fit next)
    → (fits : List Fit) (k last : Keeper) → FoldsTo R k fits last → HasTaken k fits last
all_taken R steps fits k last folds =
    folded R (HasTaken k) (λ seen mid fit next before r. taken_more k mid next seen fit before (steps mid fit next r)) fits k last (taken_none k) folds

-- and may take one more
pub next_takes : (k last : Keeper) (fits : List Fit) → HasTaken k fits last → k.2.now.depth ≡ length k.1.now.levels → (fit y : Fit) → IsFormed k.1.now k.2.now fit → y ≡ fit
    → (last.2.now.depth ≡ length last.1.now.levels) × IsFormed last.1.now last.2.now y
next_takes k last fits taken belong fit y is same =
    subst (λ a. (last.2.now.depth ≡ length a.now.levels) × IsFormed a.now last.2.now y) (sym taken.schema)
    (subst (λ b. (b.now.depth ≡ length k.1.now.levels) × IsFormed k.1.now b.now y) (sym taken.spine) (belong, subst (IsFormed k.1.now k.2.now) (sym same) is))
