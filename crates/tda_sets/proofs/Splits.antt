-- Keys that make one set of what is marked, and keys that split the sets of a family.
use Rattle.std.proofs.Common.{◌≡◌, ◌==◌, ℕ, ◌+◌, ◌*◌, ◌<◌, ◌≤◌, ◌^◌, ◌/◌, ◌%◌, Bool, true, false, cond, ◌&&◌, List, length, get_or, map, All, IfSome, Option, Some, None, is_some, nat_eq, option_map, refl, sym, ap, ◌∙◌, subst, arith, inl, inr}
use Rattle.std.specs.List.{range_with_len}
use Rattle.std.specs.Option.{option_eq}
use Rattle.std.proofs.lemmas.Bool.{cases_eq, eq-eqb, ne_eqb}
use Rattle.std.proofs.lemmas.List.{length-map, get_or-map}
use Rattle.std.proofs.lemmas.List.Elements.{All-map, All-from_get_or}
use Rattle.std.proofs.lemmas.List.FromFn.{length-map-range_with_len, get_or-map-range_with_len}
use Rattle.std.proofs.lemmas.Nat.{mul-add-lt, div-mul-add, mod-mul-add}
use Rattle.tda_sets.specs.Family.{Names, IsFamily, name_at, is_in, are_together, is_member, family_of, digit_at, split_key, are_alike}
use Rattle.tda_sets.proofs.Families.{family_agree, is_in_below, name_is_same}

-- ---- one set

module _ (marks : List Bool) where
  abbrev pub mark_key : Bool → Option ℕ
  mark_key m = cond m (Some 0) None

  abbrev pub mark_keys : Names
  mark_keys = map mark_key marks

  one_key : (m : Bool) → IfSome (mark_key m) (λ k. k < 1)
  one_key true = omega arith
  one_key false = tt

  pub mark_keys_below : All (λ key. IfSome key (λ k. k < 1)) mark_keys
  mark_keys_below = All-map (λ key. IfSome key (λ k. k < 1)) mark_key marks (λ k d below. one_key (get_or marks k d))

  key_is : (i : ℕ) → i < length marks → name_at mark_keys i ≡ mark_key (get_or marks i false)
  key_is i below = get_or-map mark_key marks i false None below

  has_key : (m : Bool) → is_some (mark_key m) ≡ m
  has_key true = refl
  has_key false = refl

  pub mark_family : family_of (length mark_keys) (is_member mark_keys) (are_together mark_keys) ≡ family_of (length marks) (λ i. get_or marks i false) (λ i j. true)
  mark_family =
      let n = length marks in
      let same : length mark_keys ≡ n = length-map marks mark_key in
      ap (λ x. family_of x (is_member mark_keys) (are_together mark_keys)) same
      ∙ family_agree n (is_member mark_keys) (λ i. get_or marks i false) (are_together mark_keys) (λ i j. true)
      (λ i below. ap is_some (key_is i below) ∙ has_key (get_or marks i false))
      (λ i j low high here there.
      ap (λ o. option_eq nat_eq o (name_at mark_keys j)) (key_is i low) ∙ ap (λ o. option_eq nat_eq (mark_key (get_or marks i false)) o) (key_is j high)
      ∙ both (get_or marks i false) (get_or marks j false)
      (sym (has_key (get_or marks i false)) ∙ ap is_some (sym (key_is i low)) ∙ here)
      (sym (has_key (get_or marks j false)) ∙ ap is_some (sym (key_is j high)) ∙ there))
    where
      both : (a b : Bool) → a ≡ true → b ≡ true → option_eq nat_eq (mark_key a) (mark_key b) ≡ true
      both true true e f = refl
      both true false e f = cc
      both false b e f = cc

-- ---- split sets

module _ (names : Names) (values digits : List ℕ) (i : ℕ) where
  pub split_key_some : (first v d : ℕ) → name_at names i ≡ Some first → v ≡ get_or values i 0 → d ≡ get_or digits v 0 → Some (first * length digits + d) ≡ split_key names values digits i
  split_key_some first v d name value digit =
      ap (λ x. Some (first * length digits + x)) (digit ∙ ap (λ x. get_or digits x 0) value) ∙ sym (ap (option_map (λ x. x * length digits + digit_at values digits i)) name)

  pub split_key_none : name_at names i ≡ None → None ≡ split_key names values digits i
  split_key_none name = sym (ap (option_map (λ x. x * length digits + digit_at values digits i)) name)

-- two pairs of a number and a digit have one key where they are one pair
same_pair : (base a c b d : ℕ) → b < base → d < base → (a * base + b == c * base + d) ≡ ((a == c) && (b == d))
same_pair base a c b d low high =
    elim (cases_eq a c) [
      | inl e ↦
          elim (cases_eq b d) [
            | inl f ↦ rw (e, f) (eq-eqb (c * base + d) (c * base + d) refl ∙ sym (rw (eq-eqb c c refl, eq-eqb d d refl) refl))
            | inr other ↦ rw e (ne_eqb (c * base + b) (c * base + d) (λ g. other (omega (arith, g))) ∙ sym (rw (eq-eqb c c refl, ne_eqb b d other) refl))
          ]
      | inr other ↦
          ne_eqb (a * base + b) (c * base + d) (λ g. other (sym (div-mul-add a base b low) ∙ ap (λ x. x / base) g ∙ div-mul-add c base d high))
          ∙ sym (rw (ne_eqb a c other) refl)
    ]

module _ (names : Names) (values digits : List ℕ) (family : IsFamily names) (one_each : length values ≡ length names)
    (values_below : All (λ v. v < length digits) values) (digits_below : All (λ d. d < length digits) digits) where
  abbrev pub split_keys : Names
  split_keys = map (split_key names values digits) (range_with_len 0 (length names))

  digit_below : (i : ℕ) → i < length names → digit_at values digits i < length digits
  digit_below i below = digits_below (get_or values i 0) 0 (values_below i 0 (omega arith))

  split_key_is : (i : ℕ) → i < length names → name_at split_keys i ≡ split_key names values digits i
  split_key_is i below = get_or-map-range_with_len (split_key names values digits) 0 (length names) i i None below (omega arith)

  key_below : (i : ℕ) → i < length names → (o : Option ℕ) → name_at names i ≡ o → IfSome (option_map (λ first. first * length digits + digit_at values digits i) o) (λ k. k < length names * length digits)
  key_below i below None e = tt
  key_below i below (Some first) e =
      let within : is_in names first i ≡ true = name_is_same (name_at names i) (Some first) e in
      let room = mul-add-lt first (length digits) (digit_at values digits i) (length names) (is_in_below names first first (family.named first i within)) (digit_below i below) in
      omega (arith, room)

  pub split_keys_below : All (λ key. IfSome key (λ k. k < length names * length digits)) split_keys
  split_keys_below = All-from_get_or (λ key. IfSome key (λ k. k < length names * length digits)) split_keys None (λ i below.
      let near : i < length names = omega (arith, length-map-range_with_len (split_key names values digits) 0 (length names)) in
      subst (λ o. IfSome o (λ k. k < length names * length digits)) (sym (split_key_is i near)) (key_below i near (name_at names i) refl))

  some_key : (i : ℕ) (o : Option ℕ) → is_some (option_map (λ first. first * length digits + digit_at values digits i) o) ≡ is_some o
  some_key i None = refl
  some_key i (Some first) = refl

  pub split_family : family_of (length split_keys) (is_member split_keys) (are_together split_keys) ≡ family_of (length names) (is_member names) (are_alike names values digits)
  split_family =
      let n = length names in
      let same : length split_keys ≡ n = length-map-range_with_len (split_key names values digits) 0 n in
      ap (λ x. family_of x (is_member split_keys) (are_together split_keys)) same
      ∙ family_agree n (is_member split_keys) (is_member names) (are_together split_keys) (are_alike names values digits)
      (λ i below. ap is_some (split_key_is i below) ∙ some_key i (name_at names i))
      (λ i j low high here there.
      ap (λ o. option_eq nat_eq o (name_at split_keys j)) (split_key_is i low) ∙ ap (λ o. option_eq nat_eq (split_key names values digits i) o) (split_key_is j high)
      ∙ both (digit_at values digits i) (digit_at values digits j) (digit_below i low) (digit_below j high) (name_at names i) (name_at names j)
      (sym (some_key i (name_at names i)) ∙ ap is_some (sym (split_key_is i low)) ∙ here)
      (sym (some_key j (name_at names j)) ∙ ap is_some (sym (split_key_is j high)) ∙ there))
    where
      both : (b d : ℕ) → b < length digits → d < length digits → (o p : Option ℕ) → is_some o ≡ true → is_some p ≡ true
          → option_eq nat_eq (option_map (λ first. first * length digits + b) o) (option_map (λ first. first * length digits + d) p) ≡ (option_eq nat_eq o p && (b == d))
      both b d low high (Some x) (Some y) e f = same_pair (length digits) x y b d low high
      both b d low high (Some x) None e f = cc
      both b d low high None p e f = cc
