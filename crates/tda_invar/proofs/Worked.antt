-- Worked rows, computed from the definitions: two blocks of a state, and dormitories.
use Rattle.std.proofs.Common.{◌≡◌, ◌<◌, [], ◌∷◌, refl, Some, None, Err, codes, map}
use Rattle.std.specs.Fmt.{digits}
use Rattle.tda_io.specs.Csv.{Row, first_fault, judged}
use Rattle.tda_model.specs.Schema.{Schema}
use Rattle.tda_model.specs.Spine.{Spine}
use Rattle.tda_model.specs.Bounds.{low, high}
use Rattle.tda_invar.specs.KindTable.{NumberTable, number_at}
use Rattle.tda_invar.specs.Facilities as facilities
use Rattle.tda_invar.specs.Facilities.{facilities_of}
use Rattle.tda_invar.specs.Totals as totals
use Rattle.tda_invar.specs.Known.{known, join_fault}
use Rattle.tda_invar.specs.declared.fac_fault.FacFault.TheVariants as fac
use Rattle.tda_invar.specs.declared.tot_fault.TotFault.TheVariants as tot
use Rattle.tda_invar.specs.declared.join_fault.JoinFault.TheVariants.{Short}

abbrev schema : Schema
schema = record {
  total = record { num = 1; den = 1 };
  attributes = record { name = codes "kind"; values = codes "house" ∷ codes "dorm" ∷ [] } ∷ [];
  recodes = [];
  zeros = [];
  levels = record { name = codes "nation"; queries = [] } ∷ record { name = codes "state"; queries = [] } ∷ record { name = codes "block"; queries = [] } ∷ [];
}

abbrev spine : Spine
spine = record { depth = 3; units = record { code = codes "US"; level = 0; parent = None } ∷ record { code = codes "S1"; level = 1; parent = Some 0 } ∷ record { code = codes "B1"; level = 2; parent = Some 1 } ∷ record { code = codes "B2"; level = 2; parent = Some 1 } ∷ [] }

abbrev two_states : Spine
two_states = record { depth = 2; units = record { code = codes "US"; level = 0; parent = None } ∷ record { code = codes "S1"; level = 1; parent = Some 0 } ∷ record { code = codes "S2"; level = 1; parent = Some 0 } ∷ [] }

abbrev three_states : Spine
three_states = record { depth = 2; units = record { code = codes "US"; level = 0; parent = None } ∷ record { code = codes "S1"; level = 1; parent = Some 0 } ∷ record { code = codes "S2"; level = 1; parent = Some 0 } ∷ record { code = codes "S3"; level = 1; parent = Some 0 } ∷ [] }

-- ---- facilities

home : facilities.row_fault schema spine [] (codes "B1" ∷ codes "house" ∷ codes "1" ∷ []) ≡ Some (fac.Household 2)
home = refl

state : facilities.row_fault schema spine [] (codes "S1" ∷ codes "dorm" ∷ codes "1" ∷ []) ≡ Some (fac.UnknownBlock 2)
state = refl

no_kind : facilities.row_fault schema spine [] (codes "B1" ∷ codes "prison" ∷ codes "x" ∷ []) ≡ Some (fac.UnknownKind 2)
no_kind = refl

abbrev of_dorm : Row
of_dorm = codes "B1" ∷ codes "dorm" ∷ codes "2" ∷ []

abbrev no_dorm : Row
no_dorm = codes "B1" ∷ codes "dorm" ∷ codes "0" ∷ []

twice : first_fault (facilities.row_fault schema spine) [] (of_dorm ∷ of_dorm ∷ []) ≡ Some (fac.Repeated 3)
unfolding digits
twice = refl

-- a count of 0 is as no row, but a repetition all the same
none_twice : first_fault (facilities.row_fault schema spine) [] (no_dorm ∷ of_dorm ∷ []) ≡ Some (fac.Repeated 3)
unfolding digits
none_twice = refl

-- a row that is both bad and a repetition
bad_first : first_fault (facilities.row_fault schema spine) [] (of_dorm ∷ (codes "B1" ∷ codes "dorm" ∷ codes "x" ∷ []) ∷ []) ≡ Some (fac.BadCount 3)
unfolding digits
bad_first = refl

as_no_row : facilities_of schema spine (no_dorm ∷ []) ≡ facilities_of schema spine []
unfolding digits
as_no_row = refl

most : facilities.row_fault schema spine [] (codes "B1" ∷ codes "dorm" ∷ codes "1048576" ∷ []) ≡ None
unfolding digits
most = refl

one_more : facilities.row_fault schema spine [] (codes "B1" ∷ codes "dorm" ∷ codes "1048577" ∷ []) ≡ Some (fac.BadCount 2)
unfolding digits
one_more = refl

leading_zero : facilities.row_fault schema spine [] (codes "B1" ∷ codes "dorm" ∷ codes "01" ∷ []) ≡ Some (fac.BadCount 2)
unfolding digits
leading_zero = refl

-- ---- totals

missing : totals.file_fault spine [] ≡ Some (tot.Missing 1)
missing = refl

too_many : totals.file_fault two_states ((codes "S1" ∷ codes "1073741824" ∷ []) ∷ (codes "S2" ∷ codes "1" ∷ []) ∷ []) ≡ Some tot.TooManyPersons
unfolding digits
too_many = refl

just_enough : totals.file_fault two_states ((codes "S2" ∷ codes "1" ∷ []) ∷ (codes "S1" ∷ codes "1073741823" ∷ []) ∷ []) ≡ None
unfolding digits
just_enough = refl

-- a row that is both a repetition and bad
repeated_first : first_fault (totals.row_fault spine) [] ((codes "S1" ∷ codes "5" ∷ []) ∷ (codes "S1" ∷ codes "x" ∷ []) ∷ []) ≡ Some (tot.Repeated 3)
unfolding digits
repeated_first = refl

-- a state without a row, beside a row that has a fault, and beside too many persons
row_first : judged (totals.format two_states) (totals.header ∷ (codes "S2" ∷ codes "x" ∷ []) ∷ []) ≡ Err (tot.BadCount 2)
unfolding digits
row_first = refl

missing_first : totals.file_fault three_states ((codes "S1" ∷ codes "1073741824" ∷ []) ∷ (codes "S2" ∷ codes "1" ∷ []) ∷ []) ≡ Some (tot.Missing 3)
unfolding digits
missing_first = refl

-- rows in another order than the states
in_order : totals.totals_of two_states ((codes "S2" ∷ codes "1" ∷ []) ∷ (codes "S1" ∷ codes "50" ∷ []) ∷ []) ≡ 50 ∷ 1 ∷ []
unfolding digits
in_order = refl

-- ---- both

abbrev dorms : NumberTable
dorms = record { units = 4; kinds = 2; numbers = 0 ∷ 0 ∷ 0 ∷ 0 ∷ 0 ∷ 2 ∷ 0 ∷ 0 ∷ [] }

dorms_read : facilities_of schema spine (of_dorm ∷ []) ≡ dorms
unfolding digits
dorms_read = refl

short : join_fault schema spine (known spine dorms (1 ∷ [])) ≡ Some (Short 1 1 2)
short = refl

fits : join_fault schema spine (known spine dorms (2 ∷ [])) ≡ None
fits = refl

lows : map (λ u. low spine (known spine dorms (5 ∷ [])) u 1) (0 ∷ 1 ∷ 2 ∷ 3 ∷ []) ≡ 2 ∷ 2 ∷ 2 ∷ 0 ∷ []
lows = refl

highs : map (λ u. high spine (known spine dorms (5 ∷ [])) u 1) (0 ∷ 1 ∷ 2 ∷ 3 ∷ []) ≡ 1073741824 ∷ 1073741824 ∷ 1073741824 ∷ 0 ∷ []
highs = refl

homes : (low spine (known spine dorms (5 ∷ [])) 1 0 ≡ 0) × (high spine (known spine dorms (5 ∷ [])) 1 0 ≡ 1073741824)
homes = (refl, refl)

-- two states with facilities of the second kind, two in the first and one in the second
abbrev in_both : NumberTable
in_both = record { units = 3; kinds = 2; numbers = 0 ∷ 0 ∷ 0 ∷ 2 ∷ 0 ∷ 1 ∷ [] }

both_short : join_fault schema two_states (known two_states in_both (1 ∷ 0 ∷ [])) ≡ Some (Short 1 1 2)
both_short = refl

-- the second state's need isn't met by what the first has to spare
second_short : join_fault schema two_states (known two_states in_both (9 ∷ 0 ∷ [])) ≡ Some (Short 2 0 1)
second_short = refl

-- one in the first state alone: the second has at least and at most nobody of the kind
abbrev in_first : NumberTable
in_first = record { units = 3; kinds = 2; numbers = 0 ∷ 0 ∷ 0 ∷ 1 ∷ 0 ∷ 0 ∷ [] }

lows_in_first : map (λ u. low two_states (known two_states in_first (50 ∷ 50 ∷ [])) u 1) (0 ∷ 1 ∷ 2 ∷ []) ≡ 1 ∷ 1 ∷ 0 ∷ []
lows_in_first = refl

highs_in_first : map (λ u. high two_states (known two_states in_first (50 ∷ 50 ∷ [])) u 1) (0 ∷ 1 ∷ 2 ∷ []) ≡ 1073741824 ∷ 1073741824 ∷ 0 ∷ []
highs_in_first = refl
