-- One fit after the other is handed on.
use Rattle.std.proofs.Common.{◌≡◌, ℕ, suc, ◌+◌, ◌<◌, ◌≤◌, Bool, true, false, List, [], ◌∷◌, ◌++◌, map, length, get_or, Option, Some, None, refl, sym, ◌∙◌, subst, arith}
use Rattle.std.specs.Prelude.{Result, Ok, Err, IsErr, IsErrAnd}
use Rattle.std.specs.List.{All}
use Rattle.std.proofs.lemmas.List.{get_or-map, length-map}
use Rattle.std.proofs.lemmas.List.Elements.{All-from_recursion, All-get_or}
use Rattle.tda_model.specs.Bounds.{persons_limit}
use Rattle.tda_model.specs.Cells.{cell_count}
use Rattle.tda_model.specs.Release.{Inputs, CanBe}
use Rattle.tda_model.specs.Spine.{level_of, nation_of, parents_of, IsTree}
use Rattle.tda_model.specs.Tables.{Table, Tables, persons_in}
use Rattle.tda_spine.specs.Judged.{fits_of}
use Rattle.tda_spine.specs.Sound.{IsInner}
use Rattle.tda_spine.proofs.FitOrder.{parents_inner}
use Rattle.tda_loss.specs.declared.Curve.{Curve}
use Rattle.tda_fitnet.specs.Fits.{AreListedShares}
use Rattle.tda_descent.specs.declared.fit.Fit.{Fit}
use Rattle.tda_descent.specs.declared.fit.DescentStop.{DescentStop}
use Rattle.tda_descent.specs.declared.fit.DescentStop.TheVariants.{Stopped, NoMemory}
use Rattle.tda_descent.specs.Kept.{IsFormed, GoesOn, MayKeep, Ended, HandsOn}
use Rattle.tda_descent.specs.Made.{IsRootOf, IsSplitOf, AreStored}
use Rattle.tda_descent.specs.Handed.{Ends}
use Rattle.tda_descent.proofs.Added.{IsReached, reached_next}
use Rattle.tda_descent.proofs.Descending.{parent_at, table_at, HasTable, AreDone, done_are_first, root_done, root_tables, more, nation_kept, split_done, split_tables, folds_more, can_be_same, persons_same, shares_same}

-- what holds at each fit holds at the next one
pub at_next_fit : (P : Option ℕ → Type 0) (ps : List ℕ) (k : ℕ) → All P (None ∷ map Some ps) → k < length ps → P (Some (get_or ps k 0))
at_next_fit P ps k all less = subst P (get_or-map Some ps k 0 None less) (All-get_or P (None ∷ map Some ps) (suc k) None (omega (arith, length-map ps Some)) all)

module _ {K : Type 0} (takes : K → Fit → Type 0) (called : K → Fit → Bool → K → Type 0) (c : Curve) (i : Inputs) where
  -- after the fits of the nation and of the first k units with children
  pub record IsDescent (k : ℕ) (shares : List ℕ) (tables : List (List ℕ)) (old now : K) : Type 0 where
    pub fits : List Fit
    pub x : Tables
    pub calls : GoesOn takes called old fits now
    pub done : AreDone c i k x fits
    pub tables_are : (u : ℕ) → IsInner i.spine u → IsReached i.spine k u → HasTable c i x tables u
    pub shares_are : AreListedShares i.schema i.spine i.known (x (nation_of i.spine)) shares
    pub count : length tables ≡ length i.spine.units

  pub none_handed : (old : K) (why : DescentStop) → why ≡ NoMemory → Ended takes called c i old old why
  none_handed old why e = subst (Ended takes called c i old old) (sym e) ([], refl, record { order = refl; tables = ((λ u j. 0), λ j d below. absurd (omega arith)) })

  -- the error that the code answers is that one
  pub ends_so : (old new : K) (why : DescentStop) (r : Result (Unit {0}) DescentStop) → IsErr r × IsErrAnd r (λ e. e ≡ why) → Ended takes called c i old new why → HandsOn takes called c i old new r
  ends_so old new why (Ok u) is ended = absurd is.1
  ends_so old new why (Err e) is ended = subst (Ended takes called c i old new) (sym is.1) ended

  pub ends_before : (old : K) (r : Result (Unit {0}) DescentStop) → IsErr r × IsErrAnd r (λ e. e ≡ NoMemory) → HandsOn takes called c i old old r
  ends_before old r is = ends_so old old NoMemory r is (none_handed old NoMemory refl)

  pub may_take : (k : ℕ) (shares : List ℕ) (tables : List (List ℕ)) (old now : K) → MayKeep takes called i.schema i.spine old → IsDescent k shares tables old now
      → (fit : Fit) → IsFormed i.schema i.spine fit → takes now fit
  may_take k shares tables old now may d fit formed = may d.fits now (All-from_recursion (IsFormed i.schema i.spine) d.fits d.done.formed) d.calls fit formed

  module _ (tree : IsTree i.spine (nation_of i.spine)) where
    -- ---- the nation's fit
    pub first_handed : (x : Table) (shares : List ℕ) (fit : Fit) (before tables : List (List ℕ)) (old now : K) → IsRootOf c i x shares fit
        → AreStored i.spine i.schema fit.units.items (λ u. x) before tables → length tables ≡ length i.spine.units → called old fit true now → IsDescent 0 shares tables old now
    first_handed x shares fit before tables old now h stored count call = record {
      fits = fit ∷ [];
      x = λ u. x;
      calls = (now, call, refl);
      done = root_done c i tree x shares fit h;
      tables_are = root_tables c i tree x shares fit before tables h stored;
      shares_are = h.shares_are;
      count = count;
    }

    pub first_ended : (x : Table) (shares : List ℕ) (fit : Fit) (old now : K) → IsRootOf c i x shares fit
        → (why : DescentStop) → Ends called (λ f. f ≡ fit) old now why → Ended takes called c i old now why
    first_ended x shares fit old now h Stopped ends =
        ([], fit, old, refl, subst (λ f. called old f false now) ends.1 ends.2, (done_are_first c i tree 0 (λ u. x) (fit ∷ []) (omega arith) (root_done c i tree x shares fit h)).0)
    first_ended x shares fit old now h NoMemory ends = subst (λ q. Ended takes called c i old q NoMemory) ends (none_handed old NoMemory refl)

    -- ---- the next unit with children
    module _ (k : ℕ) (in_list : k < length (parents_of i.spine)) (shares : List ℕ) (tables : List (List ℕ)) (old now : K) (d : IsDescent k shares tables old now) where
      abbrev p : ℕ
      p = parent_at c i k

      pub next_inner : IsInner i.spine p
      next_inner = All-get_or (IsInner i.spine) (parents_of i.spine) k 0 in_list (All-from_recursion (IsInner i.spine) (parents_of i.spine) (parents_inner i.spine tree))

      pub next_table : HasTable c i d.x tables p
      next_table = d.tables_are p next_inner (reached_next i.spine tree k in_list)

      pub next_can_be : CanBe i p (table_at c i tables p)
      next_can_be = can_be_same i p (d.x p) (table_at c i tables p) (λ j l. sym (next_table.same j l)) next_table.can_be

      pub next_few : persons_in i.schema (table_at c i tables p) ≤ persons_limit
      next_few = omega (arith, next_table.few, persons_same i.schema (table_at c i tables p) (d.x p) next_table.same)

      pub next_shares : level_of i.spine p ≡ 0 → AreListedShares i.schema i.spine i.known (table_at c i tables p) shares
      next_shares top =
          let same : p ≡ nation_of i.spine = tree.root_alone p next_inner.here top in
          shares_same i.schema i.spine i.known (d.x p) (table_at c i tables p) shares (λ j l. sym (next_table.same j l))
          (subst (λ u. AreListedShares i.schema i.spine i.known (d.x u) shares) (sym same) d.shares_are)

      pub next_handed : (fit : Fit) (family : Tables) → IsSplitOf c i p (table_at c i tables p) family fit → (new : List (List ℕ)) (after : K)
          → AreStored i.spine i.schema fit.units.items family tables new → length new ≡ length tables → called now fit true after → IsDescent (k + 1) shares new old after
      next_handed fit family split new after stored count call =
          let y = more c i tree k in_list d.x d.fits d.done tables next_table fit family split in record {
            fits = d.fits ++ fit ∷ [];
            x = y;
            calls = folds_more (λ q f r. called q f true r) old d.fits fit now after d.calls call;
            done = split_done c i tree k in_list d.x d.fits d.done tables next_table fit family split next_inner;
            tables_are = split_tables c i tree k in_list d.x d.fits d.done tables next_table fit family split new stored d.tables_are;
            shares_are = subst (λ t. AreListedShares i.schema i.spine i.known t shares) (sym (nation_kept c i tree k in_list d.x d.fits d.done tables next_table fit family split)) d.shares_are;
            count = count ∙ d.count;
          }

      pub next_ended : (after : K) (why : DescentStop) → Ends called (λ fit. (family : Tables) × IsSplitOf c i p (table_at c i tables p) family fit) now after why
          → Ended takes called c i old after why
      next_ended after Stopped ends =
          let split = ends.1.1 in
          let done = split_done c i tree k in_list d.x d.fits d.done tables next_table ends.0 ends.1.0 split next_inner in
          (d.fits, ends.0, now, d.calls, ends.2, (done_are_first c i tree (k + 1) _ (d.fits ++ ends.0 ∷ []) (omega arith) done).0)
      next_ended after NoMemory ends =
          (d.fits, subst (GoesOn takes called old d.fits) ends d.calls, (done_are_first c i tree k d.x d.fits (omega arith) d.done).0)

    -- ---- the same, where the code has read the units with children
    module _ (ps : List ℕ) (value : ps ≡ parents_of i.spine) (k : ℕ) (less : k < length ps) (shares : List ℕ) (tables : List (List ℕ)) (old now : K)
        (d : IsDescent k shares tables old now) where
      in_parents : k < length (parents_of i.spine)
      in_parents = subst (λ qs. k < length qs) value less

      abbrev pub read_at : ℕ
      read_at = get_or ps k 0

      pub read_inner : IsInner i.spine read_at
      read_inner = subst (λ qs. IsInner i.spine (get_or qs k 0)) (sym value) (next_inner k in_parents shares tables old now d)

      pub read_size : length (get_or tables read_at []) ≡ cell_count i.schema
      read_size = subst (λ qs. length (get_or tables (get_or qs k 0) []) ≡ cell_count i.schema) (sym value) (next_table k in_parents shares tables old now d).size

      pub read_can_be : CanBe i read_at (table_at c i tables read_at)
      read_can_be = subst (λ qs. CanBe i (get_or qs k 0) (table_at c i tables (get_or qs k 0))) (sym value) (next_can_be k in_parents shares tables old now d)

      pub read_few : persons_in i.schema (table_at c i tables read_at) ≤ persons_limit
      read_few = subst (λ qs. persons_in i.schema (table_at c i tables (get_or qs k 0)) ≤ persons_limit) (sym value) (next_few k in_parents shares tables old now d)

      pub read_shares : level_of i.spine read_at ≡ 0 → AreListedShares i.schema i.spine i.known (table_at c i tables read_at) shares
      read_shares =
          subst (λ qs. level_of i.spine (get_or qs k 0) ≡ 0 → AreListedShares i.schema i.spine i.known (table_at c i tables (get_or qs k 0)) shares) (sym value)
          (next_shares k in_parents shares tables old now d)

      pub read_size_of : (P : Option ℕ → Type 0) → All P (fits_of i.spine) → P (Some read_at)
      read_size_of P all = subst (λ qs. P (Some (get_or qs k 0))) (sym value) (at_next_fit P (parents_of i.spine) k all in_parents)

      pub read_handed : (new : List (List ℕ)) (after : K)
          → (fit : Fit) × ((family : Tables) × IsSplitOf c i read_at (table_at c i tables read_at) family fit × AreStored i.spine i.schema fit.units.items family tables new) × called now fit true after
          → length new ≡ length tables → IsDescent (k + 1) shares new old after
      read_handed new after h count =
          let split = subst (λ qs. IsSplitOf c i (get_or qs k 0) (table_at c i tables (get_or qs k 0)) h.1.0 h.0) value h.1.1 in
          next_handed k in_parents shares tables old now d h.0 h.1.0 split new after h.1.2 count h.2

      pub read_ended : (after : K) (why : DescentStop) → Ends called (λ fit. (family : Tables) × IsSplitOf c i read_at (table_at c i tables read_at) family fit) now after why
          → Ended takes called c i old after why
      read_ended after why ends =
          next_ended k in_parents shares tables old now d after why
          (subst (λ qs. Ends called (λ fit. (family : Tables) × IsSplitOf c i (get_or qs k 0) (table_at c i tables (get_or qs k 0)) family fit) now after why) value ends)

    -- ---- all fits
    pub all_handed : (k : ℕ) (shares : List ℕ) (tables : List (List ℕ)) (old now : K) → IsDescent k shares tables old now → length (parents_of i.spine) ≡ k
        → HandsOn takes called c i old now (Ok tt)
    all_handed k shares tables old now d all =
        let first = done_are_first c i tree k d.x d.fits (omega arith) d.done in
        (d.fits, d.calls, first.0, first.1 ∙ omega (arith, all, length-map (parents_of i.spine) Some))
