-- Counts agree with facilities as the table does that they are the counts of, and the blocks that a fault names are the spine's.
use Rattle.std.proofs.Common.{◌≡◌, ℕ, ◌-◌, Bool, true, false, cond, ◌&&◌, ◌==◌, nat_lt, List, [], ◌∷◌, ◌++◌, length, filter, slice_get, Option, Some, None, Err, refl, ap, ◌∙◌, subst, arith, sum, count_by}
use Rattle.std.proofs.lemmas.List.Sums.{count_by-le-length}
use Rattle.std.specs.List.{flat_map, range_with_len}
use Rattle.tda_io.specs.Due.{none_of}
use Rattle.tda_model.specs.Schema.{Schema}
use Rattle.tda_model.specs.Cells.{cell_count, kind_of, all_cells}
use Rattle.tda_model.specs.Groups.{kind_count}
use Rattle.tda_model.specs.Spine.{Spine, IsUnit, is_at, units_at, unit_numbers}
use Rattle.tda_model.specs.Tables.{Tables, kind_sum, persons_in}
use Rattle.tda_model.proofs.Sums.{Each, sum_same, each_filter, each_range}
use Rattle.tda_invar.specs.KindTable.{NumberTable, number_at}
use Rattle.tda_out.specs.Counts.{Counts, count_at, counts_of, AreCountsOf}
use Rattle.tda_out.proofs.RowLemmas.{count_of}
use Rattle.tda_records.specs.Records.{AreRecordsOf}
use Rattle.tda_records.specs.declared.records.Record.{Record}
use Rattle.tda_hist.specs.TrueTable.{lives_in, true_count, state_persons, BlocksAddUp}
use Rattle.tda_hist.specs.Agreement.{found, has_no_facility, is_short, faults_at, block_faults, faults, agree_fault, agree_due}
use Rattle.tda_hist.specs.declared.fault.HistFault.{HistFault}
use Rattle.tda_hist.specs.declared.fault.HistFault.TheVariants.{NoFacility, Short}
use Rattle.tda_refusal.specs.Refusal.{NamesKnown, IsPair}
use Rattle.tda_inputs.specs.Reading.{AreTrueCounts}
use Rattle.tda_refusal.specs.declared.text.Named.TheVariants.{Hist}

-- ---- lists put together

parts_same : {X A : Type 0} (f g : X → List A) (xs : List X) → Each (λ x. f x ≡ g x) xs → flat_map f xs ≡ flat_map g xs
parts_same f g [] same = refl
parts_same f g (x ∷ xs) same = ap (λ t. t ++ flat_map f xs) same.0 ∙ ap (λ t. g x ++ t) (parts_same f g xs same.1)

each_append : {A : Type 0} (P : A → Type 0) (xs ys : List A) → Each P xs → Each P ys → Each P (xs ++ ys)
each_append P [] ys here later = later
each_append P (x ∷ xs) ys here later = (here.0, each_append P xs ys here.1 later)

each_part : {X A : Type 0} (P : A → Type 0) (f : X → List A) (xs : List X) → Each (λ x. Each P (f x)) xs → Each P (flat_map f xs)
each_part P f [] each = tt
each_part P f (x ∷ xs) each = each_append P (f x) (flat_map f xs) each.0 (each_part P f xs each.1)

first_is : {A : Type 0} (P : A → Type 0) (xs : List A) (a : A) → Each P xs → slice_get xs 0 ≡ Some a → P a
first_is P [] a each is = cc is
first_is P (x ∷ xs) a each is = let same : x ≡ a = cc is in subst P same each.0

-- what holds of each unit holds of those of a level
each_unit : (sp : Spine) (level : ℕ) (P : ℕ → Type 0) → ((u : ℕ) → IsUnit sp u → P u) → Each P (units_at sp level)
each_unit sp level P every = each_filter P (is_at sp level) (unit_numbers sp) (each_range _ 0 (length sp.units) (λ u low high at. every u (omega arith)))

-- ---- counts

module _ (s : Schema) (sp : Spine) (x : Tables) (counts : Counts) (is : counts ≡ counts_of s sp x) where
  same_kind : (kind u : ℕ) → IsUnit sp u → kind_sum s kind (count_at counts u) ≡ kind_sum s kind (x u)
  same_kind kind u here =
      sum_same (count_at counts u) (x u) (filter (λ j. kind_of s j == kind) (all_cells s))
      (each_filter _ (λ j. kind_of s j == kind) (all_cells s) (each_range _ 0 (cell_count s) (λ j low high at. ap (λ c. count_at c u j) is ∙ count_of s sp x u j here (omega arith))))

  module _ (f : NumberTable) where
    same_faults : (kind u : ℕ) → IsUnit sp u → faults_at s f (count_at counts) u kind ≡ faults_at s f x u kind
    same_faults kind u here = ap faults_by (same_kind kind u here)
      where
        faults_by : ℕ → List HistFault
        faults_by n =
            cond (kind == 0) []
            (cond (nat_lt 0 n && (number_at f u kind == 0)) (NoFacility u kind ∷ []) (cond (nat_lt n (number_at f u kind)) (Short u kind n (number_at f u kind) ∷ []) []))

    same_block : (u : ℕ) → IsUnit sp u → block_faults s f (count_at counts) u ≡ block_faults s f x u
    same_block u here =
        parts_same (faults_at s f (count_at counts) u) (faults_at s f x u) (range_with_len 0 (kind_count s)) (each_range _ 0 (kind_count s) (λ k low high. same_faults k u here))

    pub same_due : agree_due s sp f (count_at counts) ≡ agree_due s sp f x
    same_due =
        ap (λ fs. none_of (slice_get fs 0))
        (parts_same (block_faults s f (count_at counts)) (block_faults s f x) (units_at sp (sp.depth - 1)) (each_unit sp (sp.depth - 1) _ same_block))

-- the counts of the true tables of these records can be measured
pub true_counts : (s : Schema) (sp : Spine) (r : List Record) (counts : Counts) → AreRecordsOf s sp r → AreCountsOf s sp counts → counts ≡ counts_of s sp (true_count sp r)
    → BlocksAddUp s sp (count_at counts) → ((u : ℕ) → IsUnit sp u → persons_in s (count_at counts u) ≡ count_by (lives_in sp u) r) → sum (state_persons s sp (count_at counts)) ≡ length r → AreTrueCounts s sp r counts
true_counts s sp r counts are sized is blocks persons states = record {
  records = are;
  counts_are = is;
  sized = sized;
  blocks = blocks;
  persons = persons;
  few = λ u here. omega (arith, persons u here, count_by-le-length (lives_in sp u) r, are.few);
  few_in_states = omega (arith, are.few);
}

-- ---- faults

module _ (s : Schema) (sp : Spine) (f : NumberTable) (x : Tables) where
  -- a fault names a unit and a kind
  abbrev Known : HistFault → Type 0
  Known e = NamesKnown s sp (Hist e)

  known_at : (u k : ℕ) → IsPair s sp u k → Each Known (faults_at s f x u k)
  known_at u k pair = by (k == 0) (has_no_facility s f x u k) (is_short s f x u k)
    where
      by : (a b c : Bool) → Each Known (cond a [] (cond b (NoFacility u k ∷ []) (cond c (Short u k (found s x u k) (number_at f u k) ∷ []) [])))
      by true b c = tt
      by false true c = (pair, tt)
      by false false true = (pair, tt)
      by false false false = tt

  known_in : (u : ℕ) → IsUnit sp u → Each Known (block_faults s f x u)
  known_in u here = each_part Known (faults_at s f x u) (range_with_len 0 (kind_count s)) (each_range _ 0 (kind_count s) (λ k low high. known_at u k (record { unit = here; kind = omega arith })))

  pub hist_names : (e : HistFault) → agree_due s sp f x ≡ Err e → Known e
  hist_names e is = first_is Known (faults s sp f x) e (each_part Known (block_faults s f x) (units_at sp (sp.depth - 1)) (each_unit sp (sp.depth - 1) _ known_in)) (by (agree_fault s sp f x) is)
    where
      by : (o : Option HistFault) → none_of o ≡ Err e → o ≡ Some e
      by (Some g) there = let same : g ≡ e = cc there in ap Some same
      by None there = cc there
