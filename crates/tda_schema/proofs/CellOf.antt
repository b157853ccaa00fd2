-- The cell of a list of values, reached attribute by attribute.
use Rattle.std.proofs.Common.{◌≡◌, ℕ, suc, ◌<◌, ◌≤◌, ◌*◌, ◌+◌, ◌/◌, ◌%◌, List, [], ◌∷◌, length, slice_get, Some, None, get_or, refl, ap, ◌∙◌, arith}
use Rattle.std.proofs.lemmas.Nat.{div-mul-add, mod-mul-add, mul-add-lt, mul-le}
use Rattle.tda_model.specs.Schema.{Attribute}
use Rattle.tda_model.specs.Cells.{cells_in, values_in}

-- values of these attributes, one of each
abbrev pub AreValues : List Attribute → List ℕ → Type 0
AreValues [] [] = Unit {0}
AreValues [] (v ∷ vs) = ⊥
AreValues (a ∷ rest) [] = ⊥
AreValues (a ∷ rest) (v ∷ vs) = (v < length a.values) × AreValues rest vs

-- the cell that the values of the other attributes lead to
abbrev pub reached : ℕ → List Attribute → List ℕ → ℕ
reached cell (a ∷ rest) (v ∷ vs) = reached (cell * length a.values + v) rest vs
reached cell [] vs = cell
reached cell (a ∷ rest) [] = cell

pub record Reaches (cell : ℕ) (attributes : List Attribute) (values : List ℕ) : Type 0 where
  pub more : ℕ
  pub sum : reached cell attributes values ≡ cell * cells_in attributes + more
  pub less : more < cells_in attributes

pub reaches : (cell : ℕ) (attributes : List Attribute) (values : List ℕ) → AreValues attributes values → Reaches cell attributes values
reaches cell [] [] h = record { more = 0; sum = omega arith; less = omega arith }
reaches cell [] (v ∷ vs) h = absurd h
reaches cell (a ∷ rest) [] h = absurd h
reaches cell (a ∷ rest) (v ∷ vs) h =
    let n = length a.values in
    let m = cells_in rest in
    let r = reaches (cell * n + v) rest vs h.1 in
    record { more = v * m + r.more; sum = grind (arith, r.sum); less = omega (arith, mul-add-lt v m r.more n h.0 r.less) }

pub values_in-reached : (cell : ℕ) (attributes : List Attribute) (values : List ℕ) → AreValues attributes values → values_in attributes (reached cell attributes values) ≡ values
values_in-reached cell [] [] h = refl
values_in-reached cell [] (v ∷ vs) h = absurd h
values_in-reached cell (a ∷ rest) [] h = absurd h
values_in-reached cell (a ∷ rest) (v ∷ vs) h =
    let n = length a.values in
    let m = cells_in rest in
    let x = reached (cell * n + v) rest vs in
    let r = reaches (cell * n + v) rest vs h.1 in
    let over : x / m ≡ cell * n + v = ap (λ y. y / m) r.sum ∙ div-mul-add (cell * n + v) m r.more r.less in
    let here : x / m % n ≡ v = ap (λ y. y % n) over ∙ mod-mul-add cell n v h.0 in
    ap (λ y. y ∷ values_in rest x) here ∙ ap (λ ys. v ∷ ys) (values_in-reached (cell * n + v) rest vs h.1)

-- each value is one of its attribute, by the attributes' numbers
pub are_values : (attributes : List Attribute) (values : List ℕ) → length values ≡ length attributes
    → ((k : ℕ) → k < length values → get_or values k 0 < length (elim (slice_get attributes k) as (λ _. List (List ℕ)) [ Some x ↦ x.values | None ↦ [] ]))
    → AreValues attributes values
are_values [] [] same each = tt
are_values [] (v ∷ vs) same each = absurd (omega arith)
are_values (a ∷ rest) [] same each = absurd (omega arith)
are_values (a ∷ rest) (v ∷ vs) same each = (each 0 (omega arith), are_values rest vs (omega arith) (λ k below. each (suc k) (omega arith)))

pub cells_in-some : (attributes : List Attribute) (values : List ℕ) → AreValues attributes values → 1 ≤ cells_in attributes
cells_in-some attributes values h = let r = reaches 0 attributes values h in omega (arith, r.less)

-- one more value stays within the cells
pub room_for : (cell : ℕ) (attributes : List Attribute) (values : List ℕ) (a : Attribute) (rest : List Attribute) (v : ℕ) (vs : List ℕ) → attributes ≡ a ∷ rest → values ≡ v ∷ vs → AreValues attributes values
    → (cell + 1) * cells_in attributes ≤ 4096 → cell * length a.values + v < 4096
room_for cell attributes values a rest v vs first second are room =
    let here : AreValues (a ∷ rest) (v ∷ vs) = rw (first, second) at are in
    let all : (cell + 1) * (length a.values * cells_in rest) ≤ 4096 = rw first at room in
    let some = cells_in-some rest vs here.1 in
    let scaled : (cell + 1) * length a.values * 1 ≤ (cell + 1) * length a.values * cells_in rest = mul-le ((cell + 1) * length a.values) 1 ((cell + 1) * length a.values) (cells_in rest) (omega arith) some in
    omega (arith, here.0, all, scaled)

pub no_attribute_left : (cell : ℕ) (attributes : List Attribute) (values : List ℕ) → length attributes ≡ 0 → reached cell attributes values ≡ cell
no_attribute_left cell [] values h = refl
no_attribute_left cell (a ∷ rest) values h = absurd (omega arith)

pub no_value_left : (cell : ℕ) (attributes : List Attribute) (values : List ℕ) → length values ≡ 0 → reached cell attributes values ≡ cell
no_value_left cell [] values h = refl
no_value_left cell (a ∷ rest) [] h = refl
no_value_left cell (a ∷ rest) (v ∷ vs) h = absurd (omega arith)

pub record IsCellOf (attributes : List Attribute) (values : List ℕ) (cell : ℕ) : Type 0 where
  pub in_range : cell < cells_in attributes
  pub values_are : values_in attributes cell ≡ values

pub cell_is : (attributes : List Attribute) (values : List ℕ) (cell : ℕ) → AreValues attributes values → cell ≡ reached 0 attributes values → IsCellOf attributes values cell
cell_is attributes values cell h is =
    let r = reaches 0 attributes values h in
    record { in_range = omega (arith, is, r.sum, r.less); values_are = ap (values_in attributes) is ∙ values_in-reached 0 attributes values h }
