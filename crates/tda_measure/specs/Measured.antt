-- What is measured: at each place how many persons its class has in the table of its unit, plus the noise.
use Rattle.std.specs.Prelude.{◌≡◌, ◌≤◌, ◌+ℤ◌, ℕ, ℤ, pos, List, map, zip}
use Rattle.tda_model.specs.Bounds.{persons_limit}
use Rattle.tda_model.specs.Schema.{Schema}
use Rattle.tda_model.specs.Spine.{Spine, IsUnit, level_of}
use Rattle.tda_model.specs.Tables.{Tables, persons_in}
use Rattle.tda_schema.specs.Stated.{query_at}
use Rattle.tda_places.specs.Places.{places_of}
use Rattle.tda_places.specs.declared.place.Place.{Place}
use Rattle.tda_hist.specs.TrueTable.{class_sum}
use Rattle.tda_measure.specs.Noise.{variances_of, AreDrawn}

-- the sum at a place: the counts of its unit over the cells of its class
abbrev pub sum_at : Schema → Spine → Tables → Place → ℕ
sum_at s sp x p = class_sum s (query_at s (level_of sp p.unit) p.query) (x p.unit) p.class

-- the sums at all places, in the order of the places
abbrev pub sums_of : Schema → Spine → Tables → List ℕ
sums_of s sp x = map (sum_at s sp x) (places_of s sp)

-- each sum plus the number that stands beside it
abbrev pub noisy : List ℕ → List ℤ → List ℤ
noisy sums noise = map (λ p. pos p.0 +ℤ p.1) (zip sums noise)

-- the sums of the tables plus the noise on the words, and the words that are left
pub record AreMeasured (s : Schema) (sp : Spine) (x : Tables) (w : List ℕ) (m : List ℤ) (r : List ℕ) : Type 0 where
  pub noise : List ℤ
  pub drawn : AreDrawn (variances_of s sp) w noise r
  pub sums : m ≡ noisy (sums_of s sp x) noise

-- no unit has too many persons
abbrev pub HaveFewPersons : Schema → Spine → Tables → Type 0
HaveFewPersons s sp x = (u : ℕ) → IsUnit sp u → persons_in s (x u) ≤ persons_limit
