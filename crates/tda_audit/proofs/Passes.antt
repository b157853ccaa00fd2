-- What passes find in a unit.
use Rattle.std.proofs.Common.{◌≡◌, ℕ, Bool, true, false, cond, not, ◌==◌, ◌&&◌, ◌||◌, ◌<◌, ◌≤◌, nat_lt, List, [], ◌∷◌, ◌++◌, length, get_or, map, arith, Option, Some, None, ap, ◌∙◌, sym, refl, inl, inr, eqb, if◌then◌else◌}
use Rattle.std.proofs.lemmas.Bool.{cases_Bool, cases_eq, eq-eqb, eqb-true, false≢true, lt-ltb, le-ltb}
use Rattle.std.specs.Prelude.{find}
use Rattle.std.specs.Option.{option_map}
use Rattle.tda_model.specs.Schema.{Schema}
use Rattle.tda_model.specs.Cells.{all_cells}
use Rattle.std.specs.List.{flat_map, range_with_len}
use Rattle.std.specs.Option.{option_eq}
use Rattle.tda_model.specs.Spine.{Spine, level_of, unit_numbers}
use Rattle.tda_model.specs.Bounds.{low, high}
use Rattle.tda_model.specs.Groups.{kind_count}
use Rattle.tda_model.specs.Tables.{Published, Tables, kind_sum}
use Rattle.tda_model.proofs.Sums.{Each, each_range}
use Rattle.tda_invar.specs.Known.{unit_total}
use Rattle.tda_spine.specs.Judged.{is_inner}
use Rattle.tda_spine.proofs.Firsts.{find-map}
use Rattle.tda_audit.specs.Verdicts.{all_sums, all_impossible, all_totals, all_kinds, all_rules, breaks}
use Rattle.tda_audit.proofs.Walks.{or_else, find_joined, filtered}
use Rattle.tda_audit.specs.declared.verdict.Verdict.{Verdict}
use Rattle.tda_audit.specs.declared.verdict.Verdict.TheVariants.{Sum, Kind}

-- the sums of a unit with children, and none of another
abbrev pub sums_at : Schema → Spine → ℕ → List Verdict
sums_at s sp u = cond (is_inner sp u) (map (Sum u) (all_cells s)) []

module _ {X Y : Type 0} (p : Y → Bool) (f : X → Y) (xs : List X) where
  pub mapped_none : find (λ x. p (f x)) xs ≡ None → find p (map f xs) ≡ None
  mapped_none e = find-map f p xs ∙ ap (option_map f) e

  pub mapped_some : (x : X) → find (λ x. p (f x)) xs ≡ Some x → find p (map f xs) ≡ Some (f x)
  mapped_some x e = find-map f p xs ∙ ap (option_map f) e

module _ (s : Schema) (sp : Spine) (p : Verdict → Bool) where
  pub sums_inner : (u : ℕ) → is_inner sp u ≡ true → (o : Option Verdict) → find p (map (Sum u) (all_cells s)) ≡ o → find p (sums_at s sp u) ≡ o
  sums_inner u inner o e = ap (λ b. find p (cond b (map (Sum u) (all_cells s)) [])) inner ∙ e

  pub sums_other : (u : ℕ) → is_inner sp u ≡ false → find p (sums_at s sp u) ≡ None
  sums_other u not_inner = ap (λ b. find p (cond b (map (Sum u) (all_cells s)) [])) not_inner

  pub sums_filtered : find p (flat_map (sums_at s sp) (unit_numbers sp)) ≡ find p (all_sums s sp)
  sums_filtered = sym (ap (find p) (filtered (is_inner sp) (λ u. map (Sum u) (all_cells s)) (unit_numbers sp)))

-- ---- tests
pub differ : (a b : ℕ) → (a ≡ b → ⊥) → not (a == b) ≡ true
differ a b ne = elim (cases_Bool (a == b)) [ inl e ↦ absurd (ne (eqb-true a b e)) | inr e ↦ ap not e ]

pub alike : (a b : ℕ) → a ≡ b → not (a == b) ≡ false
alike a b e = ap not (eq-eqb a b e)

pub somebody : (can : Bool) (n : ℕ) → can ≡ false → (n ≡ 0 → ⊥) → (not can && not (n == 0)) ≡ true
somebody true n e ne = absurd (false≢true (sym e))
somebody false n e ne = differ n 0 ne

pub nobody : (can : Bool) (n : ℕ) → n ≡ 0 → (not can && not (n == 0)) ≡ false
nobody true n e = refl
nobody false n e = alike n 0 e

pub may_be : (can : Bool) (n : ℕ) → can ≡ true → (not can && not (n == 0)) ≡ false
may_be true n e = refl
may_be false n e = absurd (false≢true e)

-- ---- the total of a state
flip : (a b : ℕ) → not (a == b) ≡ not (b == a)
flip a b = elim (cases_eq a b) [
  | inl e ↦ alike a b e ∙ sym (alike b a (sym e))
  | inr ne ↦ differ a b ne ∙ sym (differ b a (λ e. ne (sym e)))
]

pub total_test : (sp : Spine) (p : Published) (u n : ℕ) → level_of sp u ≡ 1 → (r : Option ℕ) → r ≡ unit_total sp p u → not (option_eq eqb r (Some n)) ≡ not (n == p.total u)
total_test sp p u n at r e =
    let is : r ≡ Some (p.total u) = e ∙ ap (λ b. if b then Some (p.total u) else None) (eq-eqb (level_of sp u) 1 at) in
    ap (λ o. not (option_eq eqb o (Some n))) is ∙ flip (p.total u) n

-- ---- bounds
or_true : (b : Bool) → (b || true) ≡ true
or_true true = refl
or_true false = refl

pub too_few : (l h n : ℕ) → n < l → (nat_lt n l || nat_lt h n) ≡ true
too_few l h n below = ap (λ b. b || nat_lt h n) (lt-ltb n l below)

pub too_many : (l h n : ℕ) → h < n → (nat_lt n l || nat_lt h n) ≡ true
too_many l h n above = ap (λ b. nat_lt n l || b) (lt-ltb h n above) ∙ or_true (nat_lt n l)

pub within : (l h n : ℕ) → l ≤ n → n ≤ h → (nat_lt n l || nat_lt h n) ≡ false
within l h n low high = ap (λ b. b || nat_lt h n) (le-ltb n l low) ∙ le-ltb h n high

-- two tests that say the same find the same
pub find_alike : {X : Type 0} (p q : X → Bool) (xs : List X) → Each (λ x. p x ≡ q x) xs → find p xs ≡ find q xs
find_alike p q [] h = refl
find_alike p q (x ∷ xs) h = ap (λ b. cond b (Some x) (find p xs)) h.0 ∙ ap (λ o. cond (q x) (Some x) o) (find_alike p q xs h.1)

module _ (s : Schema) (sp : Spine) (known : Published) (x : Tables) where
  -- the kinds of a unit, by counts of them
  pub kinds_found : (u : ℕ) (counts : List ℕ) → length counts ≡ kind_count s → ((k : ℕ) → k < kind_count s → get_or counts k 0 ≡ kind_sum s k (x u)) → (o : Option ℕ)
      → o ≡ find (λ k. nat_lt (get_or counts k 0) (low sp known u k) || nat_lt (high sp known u k) (get_or counts k 0)) (range_with_len 0 (length counts))
      → find (breaks s sp known x) (map (Kind u) (range_with_len 0 (kind_count s))) ≡ option_map (Kind u) o
  kinds_found u counts size sums o e =
      find-map (Kind u) (breaks s sp known x) (range_with_len 0 (kind_count s))
      ∙ ap (option_map (Kind u))
      (sym (find_alike (λ k. nat_lt (get_or counts k 0) (low sp known u k) || nat_lt (high sp known u k) (get_or counts k 0)) (λ k. breaks s sp known x (Kind u k)) (range_with_len 0 (kind_count s))
      (each_range (λ k. (nat_lt (get_or counts k 0) (low sp known u k) || nat_lt (high sp known u k) (get_or counts k 0)) ≡ breaks s sp known x (Kind u k)) 0 (kind_count s)
      (λ k a b. ap (λ n. nat_lt n (low sp known u k) || nat_lt (high sp known u k) n) (sums k (omega arith)))))
      ∙ ap (λ n. find (λ k. nat_lt (get_or counts k 0) (low sp known u k) || nat_lt (high sp known u k) (get_or counts k 0)) (range_with_len 0 n)) (sym size) ∙ sym e)

  abbrev p : Verdict → Bool
  p = breaks s sp known x

  -- the rules one after the other
  pub rules_found : find p (all_rules s sp) ≡ or_else (find p (all_sums s sp)) (or_else (find p (all_impossible s sp)) (or_else (find p (all_totals s sp)) (find p (all_kinds s sp))))
  rules_found =
      find_joined p (all_sums s sp) (all_impossible s sp ++ (all_totals s sp ++ all_kinds s sp))
      ∙ ap (or_else (find p (all_sums s sp))) (find_joined p (all_impossible s sp) (all_totals s sp ++ all_kinds s sp)
      ∙ ap (or_else (find p (all_impossible s sp))) (find_joined p (all_totals s sp) (all_kinds s sp)))

  pub first_rule : (v : Verdict) → Some v ≡ find p (all_sums s sp) → Some v ≡ find p (all_rules s sp)
  first_rule v a = ap (λ o. or_else o (or_else (find p (all_impossible s sp)) (or_else (find p (all_totals s sp)) (find p (all_kinds s sp))))) a ∙ sym rules_found

  module _ (a : None ≡ find p (all_sums s sp)) where
    none_first : or_else (find p (all_impossible s sp)) (or_else (find p (all_totals s sp)) (find p (all_kinds s sp))) ≡ find p (all_rules s sp)
    none_first = ap (λ o. or_else o (or_else (find p (all_impossible s sp)) (or_else (find p (all_totals s sp)) (find p (all_kinds s sp))))) a ∙ sym rules_found

    pub second_rule : (v : Verdict) → Some v ≡ find p (all_impossible s sp) → Some v ≡ find p (all_rules s sp)
    second_rule v b = ap (λ o. or_else o (or_else (find p (all_totals s sp)) (find p (all_kinds s sp)))) b ∙ none_first

    module _ (b : None ≡ find p (all_impossible s sp)) where
      none_second : or_else (find p (all_totals s sp)) (find p (all_kinds s sp)) ≡ find p (all_rules s sp)
      none_second = ap (λ o. or_else o (or_else (find p (all_totals s sp)) (find p (all_kinds s sp)))) b ∙ none_first

      pub third_rule : (v : Verdict) → Some v ≡ find p (all_totals s sp) → Some v ≡ find p (all_rules s sp)
      third_rule v d = ap (λ o. or_else o (find p (all_kinds s sp))) d ∙ none_second

      pub fourth_rule : None ≡ find p (all_totals s sp) → (o : Option Verdict) → o ≡ find p (all_kinds s sp) → o ≡ find p (all_rules s sp)
      fourth_rule d o e = e ∙ ap (λ t. or_else t (find p (all_kinds s sp))) d ∙ none_second
