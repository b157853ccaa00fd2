-- What calls that append leave.
use Rattle.std.proofs.Common.{◌≡◌, ℕ, ◌+◌, ◌<◌, List, ◌++◌, length, get_or, take, drop, Result, Ok, Err, sym, ap, ◌∙◌, append_assoc}
use Rattle.std.specs.Result.{OnErr}
use Rattle.std.specs.List.{flat_map}
use Rattle.std.proofs.Math.Seq.{take-append_seam}
use Rattle.std.proofs.lemmas.List.{take_more, take-append-drop, flat_map_more}

-- what began with old, and was then appended to, still begins with old
pub kept_start : (old mid new more : List ℕ) → mid ≡ old ++ more → take (length mid) new ≡ mid → take (length old) new ≡ old
kept_start old mid new more mid_is h =
    let rest = drop (length mid) new in
    let new_is : new ≡ old ++ (more ++ rest) =
    sym (take-append-drop (length mid) new) ∙ ap (λ t. t ++ rest) (h ∙ mid_is) ∙ append_assoc old more rest in
    ap (take (length old)) new_is ∙ take-append_seam old (more ++ rest)

pub on_err : {T E : Type 0} {P : Type 0} (r : Result T E) → P → OnErr r P
on_err (Ok x) p = tt
on_err (Err e) p = p

-- one more part is appended
pub one_more : {X : Type 0} (f : X → List ℕ) (xs : List X) (k : ℕ) (d : X) (start old new part : List ℕ) → k < length xs
    → old ≡ start ++ flat_map f (take k xs) → new ≡ old ++ part → part ≡ f (get_or xs k d) → new ≡ start ++ flat_map f (take (k + 1) xs)
one_more f xs k d start old new part below old_is new_is part_is =
    new_is ∙ ap (λ t. t ++ part) old_is ∙ ap (λ t. (start ++ flat_map f (take k xs)) ++ t) part_is
    ∙ flat_map_more f start (take k xs) (get_or xs k d)
    ∙ ap (λ ys. start ++ flat_map f ys) (sym (take_more xs k d below))
