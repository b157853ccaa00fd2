-- What reading rows for their places gives, and how it goes on.
use Rattle.std.proofs.Common.{◌≡◌, ℕ, ◌+◌, ◌<◌, ◌≤◌, List, [], ◌∷◌, ◌++◌, length, get_or, map, drop, Option, Some, None, Result, Ok, Err, ℤ, pos, nat_abs, refl, sym, ap, ◌∙◌, subst, arith, length-append}
use Rattle.std.specs.Prelude.{option_map, unwrap_or, IfErr}
use Rattle.std.proofs.lemmas.List.{append_assoc, append-nil, drop_more}
use Rattle.std.proofs.lemmas.List.Elements.{All-append, All-cons}
use Rattle.tda_io.specs.Csv.{Row}
use Rattle.tda_io.specs.Due.{◌>>◌, none_of}
use Rattle.tda_io.specs.RowReading.{RowsRead, TakesRow, EndsRows, ReadsRest, ReadsRow, bad_rest}
use Rattle.tda_io.specs.declared.rows.RowFault.{RowFault}
use Rattle.tda_io.specs.declared.rows.RowFault.TheVariants as row_fault
use Rattle.tda_prices.specs.Faults.{of_prices}
use Rattle.tda_prices.specs.Left.{price_in_row, placed_fault, past_fault, following, left_due, due, Reads, Stops}
use Rattle.tda_prices.specs.PricesText.{price_limit}
use Rattle.tda_prices.specs.declared.fault.PriFault.{PriFault}
use Rattle.tda_prices.specs.declared.fault.PriFault.TheVariants.{BadRow, Missing}

following_none : (r : Result (List ℤ) PriFault) → following [] r ≡ r
following_none (Ok xs) = refl
following_none (Err f) = refl

following_both : (xs ys : List ℤ) (r : Result (List ℤ) PriFault) → following (xs ++ ys) r ≡ following xs (following ys r)
following_both xs ys (Ok zs) = ap Ok (append_assoc xs ys zs)
following_both xs ys (Err f) = refl

behind : (bad : Option ℕ) (xs : List ℤ) (r : Result (List ℤ) PriFault)
    → (none_of (option_map BadRow bad) >> following xs r) ≡ following xs (none_of (option_map BadRow bad) >> r)
behind None xs r = refl
behind (Some n) xs r = refl

-- ---- one row
module _ (old : RowsRead) where
  pub bad_due : (places : List Row) (n : ℕ) → bad_rest old ≡ Some n → due places old ≡ Err (BadRow n)
  bad_due places n bad = rw bad refl

  module _ (place : Row) (rest : List Row) where
    pub missing_due : (new : RowsRead) → EndsRows old new → due (place ∷ rest) old ≡ Err Missing
    missing_due new ends = rw (ends.even, ends.none) refl

    module _ (new : RowsRead) (takes : TakesRow old new) where
      first_due : due (place ∷ rest) old
          ≡ none_of (option_map BadRow (bad_rest new)) >> none_of (placed_fault new.number place new.row)
          >> following (unwrap_or (price_in_row new.row) (pos 0) ∷ []) (left_due new.number rest new.rest)
      first_due = rw (takes.bad, takes.number, takes.rest) refl

      pub good_due : (z : ℤ) → placed_fault new.number place new.row ≡ None → price_in_row new.row ≡ Some z
          → due (place ∷ rest) old ≡ following (z ∷ []) (due rest new)
      good_due z fine price =
          first_due
          ∙ ap (λ o. none_of (option_map BadRow (bad_rest new)) >> none_of o >> following (unwrap_or (price_in_row new.row) (pos 0) ∷ []) (left_due new.number rest new.rest)) fine
          ∙ ap (λ o. none_of (option_map BadRow (bad_rest new)) >> following (unwrap_or o (pos 0) ∷ []) (left_due new.number rest new.rest)) price
          ∙ behind (bad_rest new) (z ∷ []) (left_due new.number rest new.rest)

      pub fault_due : (f : PriFault) → placed_fault new.number place new.row ≡ Some f → bad_rest new ≡ None → due (place ∷ rest) old ≡ Err f
      fault_due f fault even = first_due ∙ rw (even, fault) refl

  module _ (new : RowsRead) (takes : TakesRow old new) where
    pub later_due : (places : List Row) (n : ℕ) → bad_rest new ≡ Some n → due places old ≡ Err (BadRow n)
    later_due places n bad = bad_due places n (sym takes.bad ∙ bad)

    pub past_due : bad_rest new ≡ None → due [] old ≡ Err (past_fault new.number new.row)
    past_due even =
        let bad : bad_rest old ≡ None = sym takes.bad ∙ even in
        rw (bad, takes.number, takes.rest) refl

  pub ended_due : (new : RowsRead) → EndsRows old new → due [] old ≡ Ok []
  ended_due new ends = rw (ends.even, ends.none) refl

-- ---- many rows
pub reads_none : (places : List Row) (r : RowsRead) (before : List ℤ) → 0 < r.number → Reads places places r r before before
reads_none places r before some = record {
  prices = [];
  appended = sym (append-nil before);
  size = omega arith;
  near = λ k d below. absurd (omega (arith, below));
  gives = λ rest. sym (following_none (due (places ++ rest) r));
  width = refl;
  some = some;
}

module _ (places part left : List Row) (old mid : RowsRead) (before between : List ℤ) (reads : Reads places (part ++ left) old mid before between) where
  both : (rest : List Row) → due (places ++ rest) old ≡ following reads.prices (due (part ++ (left ++ rest)) mid)
  both rest = reads.gives rest ∙ ap (λ rows. following reads.prices (due rows mid)) (append_assoc part left rest)

  pub reads_on : (new : RowsRead) (after : List ℤ) → Reads part [] mid new between after → Reads places left old new before after
  reads_on new after more = record {
    prices = reads.prices ++ more.prices;
    appended = more.appended ∙ ap (λ zs. zs ++ more.prices) reads.appended ∙ append_assoc before reads.prices more.prices;
    size = let whole = length-append part left in let sum = length-append reads.prices more.prices in omega (arith, reads.size, more.size);
    near = All-append (λ z. nat_abs z ≤ price_limit) reads.prices more.prices reads.near more.near;
    gives = λ rest.
        both rest ∙ ap (following reads.prices) (more.gives (left ++ rest))
        ∙ sym (following_both reads.prices more.prices (due (left ++ rest) new));
    width = more.width ∙ reads.width;
    some = more.some;
  }

  pub stops_on : (f : PriFault) → Stops part mid f → Stops places old f
  stops_on f stops other rest = both rest ∙ ap (following reads.prices) (stops other (left ++ rest))

-- one place at a time: f is how a row names an item
module _ {X : Type 0} (f : X → Row) (xs : List X) (k : ℕ) (d : X) (below : k < length xs) where
  pub next_place : map f (drop k xs) ≡ (f (get_or xs k d) ∷ []) ++ map f (drop (k + 1) xs)
  next_place = ap (map f) (drop_more xs k d below)

-- ---- what the calls answer
pub row_stops : (places : List Row) (old new : RowsRead) (fault : RowFault) (f : PriFault) → ReadsRow (Err fault) old new → f ≡ of_prices fault → Stops places old f
row_stops places old new (row_fault.BadWidth n) f reads is other rest = bad_due old (places ++ rest) n reads.bad ∙ ap Err (sym is)
row_stops places old new row_fault.NoMemory f reads is other rest = absurd (other is)

pub rest_stops : (places : List Row) (old new : RowsRead) (fault : RowFault) (f : PriFault) → TakesRow old new → ReadsRest (Err fault) new → f ≡ of_prices fault → Stops places old f
rest_stops places old new (row_fault.BadWidth n) f takes reads is other rest = later_due old new takes (places ++ rest) n reads.0 ∙ ap Err (sym is)
rest_stops places old new row_fault.NoMemory f takes reads is other rest = absurd (other is)

module _ (place : Row) (old new : RowsRead) where
  pub missing_stops : EndsRows old new → Stops (place ∷ []) old Missing
  missing_stops ends other rest = missing_due old place rest new ends

  module _ (takes : TakesRow old new) where
    pub fault_stops : (f : PriFault) → placed_fault new.number place new.row ≡ Some f → bad_rest new ≡ None → Stops (place ∷ []) old f
    fault_stops f fault even other rest = fault_due old place rest new takes f fault even

    pub reads_one : 0 < old.number → (z : ℤ) → nat_abs z ≤ price_limit → placed_fault new.number place new.row ≡ None → price_in_row new.row ≡ Some z
        → Reads (place ∷ []) [] old new [] (z ∷ [])
    reads_one some z near fine price = record {
      prices = z ∷ [];
      appended = refl;
      size = refl;
      near = All-cons (λ z. nat_abs z ≤ price_limit) z [] near (λ k d below. absurd (omega (arith, below)));
      gives = λ rest. good_due old place rest new takes z fine price;
      width = takes.same some;
      some = omega (arith, takes.number);
    }

-- the price that was read is appended to others
pub reads_pushed : (places : List Row) (old new : RowsRead) (before after : List ℤ) (z : ℤ) → Reads places [] old new [] (z ∷ []) → after ≡ before ++ z ∷ [] → Reads places [] old new before after
reads_pushed places old new before after z reads is = record {
  prices = reads.prices;
  appended = is ∙ ap (λ zs. before ++ zs) reads.appended;
  size = reads.size;
  near = reads.near;
  gives = reads.gives;
  width = reads.width;
  some = reads.some;
}

-- what is done where no place is left
pub all_read : (places : List Row) (old new : RowsRead) (before after : List ℤ) (left : List Row) → left ≡ [] → Reads places left old new before after → Reads places [] old new before after
all_read places old new before after left none reads = subst (λ l. Reads places l old new before after) none reads

-- one place of those that are left
module _ (places left rest : List Row) (row fields : Row) (old mid : RowsRead) (before between : List ℤ) (e : left ≡ row ∷ rest) (same : fields ≡ row) (reads : Reads places left old mid before between) where
  here : Reads places ((row ∷ []) ++ rest) old mid before between
  here = subst (λ l. Reads places l old mid before between) e reads

  pub read_next : (new : RowsRead) (after : List ℤ) → Reads (fields ∷ []) [] mid new between after → Reads places rest old new before after
  read_next new after more = reads_on places (row ∷ []) rest old mid before between here new after (subst (λ f. Reads (f ∷ []) [] mid new between after) same more)

  pub stop_next : (f : PriFault) → Stops (fields ∷ []) mid f → Stops places old f
  stop_next f stops = stops_on places (row ∷ []) rest old mid before between here f (subst (λ r. Stops (r ∷ []) mid f) same stops)

-- a part of those that are left
module _ (places left part rest : List Row) (old mid : RowsRead) (before between : List ℤ) (e : left ≡ part ++ rest) (reads : Reads places left old mid before between) where
  part_here : Reads places (part ++ rest) old mid before between
  part_here = subst (λ l. Reads places l old mid before between) e reads

  pub read_part : (new : RowsRead) (after : List ℤ) → Reads part [] mid new between after → Reads places rest old new before after
  read_part new after more = reads_on places part rest old mid before between part_here new after more

  pub stop_part : (f : PriFault) → Stops part mid f → Stops places old f
  stop_part f stops = stops_on places part rest old mid before between part_here f stops

pub err_weaker : {P Q : PriFault → Type 0} (r : Result (Unit {0}) PriFault) → ((f : PriFault) → P f → Q f) → IfErr r P → IfErr r Q
err_weaker (Ok x) f h = tt
err_weaker (Err e) f h = f e h
