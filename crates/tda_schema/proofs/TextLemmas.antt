-- Texts by number, in a set that keeps the order of insertion.
use Rattle.std.proofs.Common.{◌≡◌, ℕ, ◌||◌, All, inl, inr, Bool, false, cond, List, [], ◌∷◌, ◌++◌, map, get_or, refl, sym, ap, ◌∙◌}
use Rattle.std.specs.List.{list_any}
use Rattle.std.specs.Str.{bytes_eq}
use Rattle.std.specs.Global.{Vec}
use Rattle.std.specs.Cmp.Lexicographic.{bytes_decides}
use Rattle.std.proofs.lemmas.List.{map-append}
use Rattle.std.proofs.lemmas.List.Folds.{list_any_none}
use Rattle.std.proofs.lemmas.Bool.{cases_Bool}

any_map : {X Y : Type 0} (f : X → Y) (p : Y → Bool) (xs : List X) → list_any (λ x. p (f x)) xs ≡ list_any p (map f xs)
any_map f p [] = refl
any_map f p (x ∷ xs) = ap (λ b. p (f x) || b) (any_map f p xs)

-- a text that isn't among the keys goes last
pub text_pushed : (old new : List (Vec ℕ)) (v : Vec ℕ) (text : List ℕ) → v.items ≡ text → All (λ known. text ≡ known → ⊥) (map (λ w. w.items) old)
    → new ≡ cond (list_any (λ w. bytes_eq v.items w.items) old) old (old ++ v ∷ []) → map (λ w. w.items) new ≡ map (λ w. w.items) old ++ text ∷ []
text_pushed old new v text same fresh e =
    let absent : list_any (λ w. bytes_eq v.items w.items) old ≡ false =
    any_map (λ w. w.items) (bytes_eq v.items) old
    ∙ list_any_none (bytes_eq v.items) (map (λ w. w.items) old) (λ k d lt. other (get_or (map (λ w. w.items) old) k d) (fresh k d lt)) in
    ap (map (λ w. w.items)) (e ∙ ap (λ b. cond b old (old ++ v ∷ [])) absent) ∙ map-append (λ w. w.items) old (v ∷ [])
    ∙ ap (λ xs. map (λ w. w.items) old ++ xs ∷ []) same
  where
    other : (known : List ℕ) → (text ≡ known → ⊥) → bytes_eq v.items known ≡ false
    other known ne = elim (cases_Bool (bytes_eq v.items known)) [ inl is ↦ absurd (ne (sym same ∙ (bytes_decides v.items known).0 is)) | inr is ↦ is ]
