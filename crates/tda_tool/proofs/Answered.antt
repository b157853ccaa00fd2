-- An audit of what `fit` or `run` read and wrote has a case that answers yes.
use Rattle.std.proofs.Common.{◌≡◌, ◌∙◌, ◌≤◌, ◌<◌, ◌-◌, List, ◌∷◌, ℕ, ℤ, codes, length, nat_lt, refl, sym, ap, arith, if◌then◌else◌, inl, inr, Some, None, Result, Ok, Err}
use Rattle.std.proofs.lemmas.Bool.{cases_Bool, ltb-true}
use Rattle.tda_io.specs.Due.{◌>>=◌}
use Rattle.tda_model.specs.Release.{Inputs}
use Rattle.tda_model.specs.Schema.{Schema}
use Rattle.tda_model.specs.Spine.{Spine}
use Rattle.tda_model.specs.Sizes.{place_count, places_limit}
use Rattle.tda_invar.specs.KindTable.{NumberTable}
use Rattle.tda_invar.specs.Known.{known, join_fault}
use Rattle.tda_release.specs.Texts.{AreReadBack}
use Rattle.tda_release.specs.declared.release.Texts.{Texts}
use Rattle.tda_refusal.specs.Refusal as fault
use Rattle.tda_prices.specs.TablesRead as tables
use Rattle.tda_prices.specs.PricesText as prices
use Rattle.tda_places.specs.Measurements as measurements
use Rattle.tda_invar.specs.Totals as totals_file
use Rattle.tda_inputs.specs.Ending.{file_limit, written_limit, or_refused, judged_within}
use Rattle.tda_command.specs.Words.{source_of}
use Rattle.tda_inputs.specs.Survey.{Survey, noise_from}
use Rattle.tda_inputs.specs.Accepted.{Given, base_from, totals_from, measurements_from, inputs_from, survey_from, records_from, tables_from, prices_from, case_from}
use Rattle.tda_inputs.proofs.Gathered.{inputs_with, after_base, after_totals}
use Rattle.tda_inputs.proofs.Cases.{after_inputs, after_tables}
use Rattle.tda_invar.specs.Totals.{totals_text}
use Rattle.tda_places.specs.Measurements.{measurements_text}
use Rattle.tda_tool.specs.Answer.{AreMeasuredBack}
use Rattle.tda_tool.specs.Auditing.{case_over, followed, AreAnsweredYes}

-- ---- what is judged

-- a file that isn't too long, and is read as this value
judged_back : {A F : Type 0} (limit : ℕ) (file : List ℕ) (text : F → List ℕ) (read : List ℕ → Result A F) (bytes : List ℕ) (x : A) → length bytes ≤ limit → read bytes ≡ Ok x
    → judged_within limit file text read (Some bytes) ≡ Ok x
judged_back limit file text read bytes x short is =
    elim (cases_Bool (nat_lt limit (length bytes))) [ inl long ↦ absurd (let past = ltb-true limit (length bytes) long in omega (arith, past, short)) | inr not_long ↦ rw not_long (ap (or_refused file text) is) ]

-- the files of a release
pub answered_yes : (i : Inputs) (t : Texts) (deviation : ℕ) → AreReadBack i t → t.deviation ≡ deviation → AreAnsweredYes i t.tables.items t.prices.items deviation
answered_yes i t deviation back is = record {
  counts = back.counts;
  numbers = back.numbers;
  tables_are = judged_back written_limit (codes "tables") fault.tables_text (tables.read i.schema i.spine) t.tables.items back.counts back.tables_back.short back.tables_back.value_is;
  prices_are = judged_back written_limit (codes "prices") fault.prices_text (prices.read i.schema i.spine) t.prices.items back.numbers back.prices_back.short back.prices_back.value_is;
  certified = back.certified;
  yes = sym back.yes;
  deviation_is = back.deviation ∙ is;
}

module _ (s : Schema) (sp : Spine) (m : List ℤ) (totals : List ℕ) (back : AreMeasuredBack s sp m totals) where
  pub measurements_back : place_count s sp ≤ places_limit → measurements_from s sp (Some (measurements_text s sp m)) ≡ Ok m
  measurements_back few = judged_back written_limit (codes "measurements") fault.measurements_text (measurements.read s sp) (measurements_text s sp m) m (back.measured_short few) back.measured

  pub totals_back : (f : NumberTable) → join_fault s sp (known sp f totals) ≡ None → totals_from (record { schema = s; spine = sp; facilities = f }) (Some (totals_text sp totals)) ≡ Ok totals
  totals_back f enough = rw (judged_back file_limit (codes "totals") (fault.totals_text sp) (totals_file.read sp) (totals_text sp totals) totals back.totals_short back.totals_are, enough) refl

-- ---- what is read of the same files

-- the first k reads
abbrev clipped : ℕ → Given → Given
clipped k given n = if nat_lt n k then given n else None

clipped_at : (k : ℕ) (g h : Given) → ((n : ℕ) → n < k → g n ≡ h n) → (n : ℕ) → clipped k g n ≡ clipped k h n
clipped_at k g h same n =
    elim (cases_Bool (nat_lt n k)) [ inl low ↦ rw low (same n (ltb-true n k low)) | inr high ↦ rw high refl ]

clipped_same : (k : ℕ) (g h : Given) → ((n : ℕ) → n < k → g n ≡ h n) → clipped k g ≡ clipped k h
clipped_same k g h same = λ i n. clipped_at k g h same n i

-- the case of inputs with these texts of tables and prices
case_is : (g : Given) (i : Inputs) (tables prices : List ℕ) (deviation : ℕ) (has : AreAnsweredYes i tables prices deviation) → inputs_from g ≡ Ok i → g 5 ≡ Some tables → g 6 ≡ Some prices
    → case_from g ≡ Ok (case_over i has.counts has.numbers)
case_is g i tables prices deviation has accepted five six =
    ap (λ r. r >>= (λ j. after_inputs j g)) accepted
    ∙ ap (λ r. r >>= (λ x. after_tables i x g)) (ap (tables_from i.schema i.spine) five ∙ has.tables_are)
    ∙ ap (λ r. r >>= (λ p. Ok (case_over i has.counts p))) (ap (prices_from i.schema i.spine) six ∙ has.prices_are)

pub case_read : (g held : Given) (i : Inputs) (tables prices : List ℕ) (deviation : ℕ) (has : AreAnsweredYes i tables prices deviation) → inputs_from g ≡ Ok i → g 5 ≡ Some tables → g 6 ≡ Some prices
    → ((n : ℕ) → n < 7 → held n ≡ g n) → case_from held ≡ Ok (case_over i has.counts has.numbers)
case_read g held i tables prices deviation has accepted five six same = ap case_from (clipped_same 7 held g same) ∙ case_is g i tables prices deviation has accepted five six

-- ---- the inputs of `run`

bind_ok : {A B E : Type 0} (r : Result A E) (f : A → Result B E) (y : B) → r >>= f ≡ Ok y → (x : A) × (r ≡ Ok x) × (f x ≡ Ok y)
bind_ok (Ok x) f y is = (x, refl, is)
bind_ok (Err e) f y is = cc is

-- the schema, spine and facilities of a survey are those of its files
base_of : (words : List (List ℕ)) (g : Given) (v : Survey) → survey_from words g ≡ Ok v → base_from g ≡ Ok (record { schema = v.schema; spine = v.spine; facilities = v.facilities })
base_of words g v is =
    let b = bind_ok (base_from g) _ v is in
    let r = bind_ok (records_from b.0 (g 3)) _ v b.2 in
    let w = bind_ok (noise_from words (source_of words) (g 4)) _ v r.2 in
    b.1 ∙ ap (λ o. o >>= (λ u. Ok (record { schema = u.schema; spine = u.spine; facilities = u.facilities }))) w.2

-- what `run` made its tables from is read from what it wrote
pub inputs_read : (words : List (List ℕ)) (g : Given) (v : Survey) (m : List ℤ) (totals : List ℕ) (totals_file measurements_file : List ℕ) (rest : List (List ℕ)) → survey_from words g ≡ Ok v
    → totals_from (record { schema = v.schema; spine = v.spine; facilities = v.facilities }) (Some totals_file) ≡ Ok totals → measurements_from v.schema v.spine (Some measurements_file) ≡ Ok m
    → inputs_from (followed 3 (totals_file ∷ measurements_file ∷ rest) g) ≡ Ok (inputs_with (record { schema = v.schema; spine = v.spine; facilities = v.facilities }) totals m)
inputs_read words g v m totals totals_file measurements_file rest is totals_are measurements_are =
    ap (λ r. r >>= (λ x. after_base x (followed 3 (totals_file ∷ measurements_file ∷ rest) g))) (base_of words g v is)
    ∙ ap (λ r. r >>= (λ t. after_totals (record { schema = v.schema; spine = v.spine; facilities = v.facilities }) t (followed 3 (totals_file ∷ measurements_file ∷ rest) g))) totals_are
    ∙ ap (λ r. r >>= (λ n. Ok (inputs_with (record { schema = v.schema; spine = v.spine; facilities = v.facilities }) totals n))) measurements_are
