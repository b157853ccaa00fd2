-- The loop of a reader over the rows after the header, whatever it judges.
use Rattle.std.proofs.Common.{◌≡◌, ℕ, ◌+◌, ◌<◌, List, [], ◌∷◌, length, get_or, take, drop, Option, Some, None}
use Rattle.std.proofs.lemmas.List.{drop_more, take_more}
use Rattle.tda_io.specs.Csv.{Row, first_fault, or_else}

module _ {F : Type 0} (judge : List Row → Row → Option F) (rows : List Row) (due : Option F) where
  -- the rows that are left, beside those before them, give what is due
  abbrev pub Leads : ℕ → Type 0
  Leads k = first_fault judge (take k rows) (drop k rows) ≡ due

  pub one_more : (k : ℕ) → k < length rows → Leads k
      → or_else (judge (take k rows) (get_or rows k [])) (first_fault judge (take (k + 1) rows) (drop (k + 1) rows)) ≡ due
  one_more k below leads =
      let here : drop k rows ≡ get_or rows k [] ∷ drop (k + 1) rows = drop_more rows k [] below in
      let now = rw here at leads in
      rw (take_more rows k [] below) now

  pub goes_on : (k : ℕ) → k < length rows → judge (take k rows) (get_or rows k []) ≡ None → Leads k → Leads (k + 1)
  goes_on k below fine leads = let now = one_more k below leads in rw fine at now

  pub stops : (k : ℕ) (f : F) → k < length rows → judge (take k rows) (get_or rows k []) ≡ Some f → Leads k → Some f ≡ due
  stops k f below fault leads = let now = one_more k below leads in rw fault at now
