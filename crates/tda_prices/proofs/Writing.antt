-- Rows that are written one after the other, and what is left to be written.
use Rattle.std.proofs.Common.{◌≡◌, ℕ, zero, suc, suc-mul, ◌+◌, ◌-◌, ◌*◌, ◌<◌, ◌≤◌, List, [], ◌∷◌, ◌++◌, length, get_or, drop, take, ℤ, pos, nat_abs, of_z, to_z, All, Option, None, Some, refl, sym, ap, ◌∙◌, subst, arith, append_assoc, append-nil}
use Rattle.std.specs.List.{between}
use Rattle.std.specs.Int.{w128}
use Rattle.std.proofs.lemmas.Int.{fits_signed_from_abs, to_z-of_z}
use Rattle.std.proofs.Math.Seq.{drop-nil, take-append_seam}
use Rattle.std.proofs.lemmas.List.{take-append-drop}
use Rattle.tda_io.specs.Csv.{Row}
use Rattle.std.specs.Prelude.{IfSome}
use Rattle.tda_io.specs.Texts.{row_text, IsPlain}
use Rattle.tda_io.proofs.PlainNames.{plain_name}
use Rattle.tda_model.specs.Spine.{Spine, code_of, IsUnit}
use Rattle.tda_spine.specs.Sound.{IsSound}
use Rattle.tda_io.proofs.Appends.{kept_start}
use Rattle.tda_prices.specs.Numbered.{number_row}
use Rattle.tda_prices.specs.Parts.{numbered_text}
use Rattle.tda_prices.specs.PricesText.{fit_field, price_limit}

pub text_append : (ks js : List Row) (vs ws : List ℤ) → length ks ≡ length vs → numbered_text (ks ++ js) (vs ++ ws) ≡ numbered_text ks vs ++ numbered_text js ws
text_append [] js [] ws e = refl
text_append [] js (v ∷ vs) ws e = absurd (omega arith)
text_append (k ∷ ks) js [] ws e = absurd (omega arith)
text_append (k ∷ ks) js (v ∷ vs) ws e = ap (λ t. row_text (number_row k v) ++ t) (text_append ks js vs ws (omega arith)) ∙ sym (append_assoc (row_text (number_row k v)) (numbered_text ks vs) (numbered_text js ws))

-- a text that was only appended to
pub record Grows (start now : List ℕ) : Type 0 where
  pub more : List ℕ
  pub is : now ≡ start ++ more

pub grows_none : (start : List ℕ) → Grows start start
grows_none start = record { more = []; is = sym (append-nil start) }

pub grows_on : (start now new more : List ℕ) → Grows start now → new ≡ now ++ more → Grows start new
grows_on start now new more g is = record { more = g.more ++ more; is = is ∙ ap (λ t. t ++ more) g.is ∙ append_assoc start g.more more }

pub grows_field : (start now new field end : List ℕ) → Grows start now → new ≡ now ++ field ++ end → Grows start new
grows_field start now new field end g is = grows_on start (now ++ field) new end (grows_on start now (now ++ field) field g refl) is

pub grown_start : (start now : List ℕ) → Grows start now → take (length start) now ≡ start
grown_start start now g = ap (take (length start)) g.is ∙ take-append_seam start g.more

-- fields, one after the other
pub five_fields : (o0 o1 o2 o3 o4 o5 a b c d e : List ℕ) → o1 ≡ o0 ++ a ++ 44 ∷ [] → o2 ≡ o1 ++ b ++ 44 ∷ [] → o3 ≡ o2 ++ c ++ 44 ∷ [] → o4 ≡ o3 ++ d ++ 44 ∷ [] → o5 ≡ o4 ++ e ++ 10 ∷ []
    → o5 ≡ o0 ++ row_text (a ∷ b ∷ c ∷ d ∷ e ∷ [])
five_fields o0 o1 o2 o3 o4 o5 a b c d e e1 e2 e3 e4 e5 = rw (e5, e4, e3, e2, e1) (simp append_assoc)

pub two_numbers : (o3 o4 o5 o6 o7 d z : List ℕ) → o4 ≡ o3 ++ d → o5 ≡ o4 ++ 44 ∷ [] → o6 ≡ o5 ++ z → o7 ≡ o6 ++ 10 ∷ [] → (o7 ≡ (o3 ++ d ++ 44 ∷ []) ++ z ++ 10 ∷ [])
two_numbers o3 o4 o5 o6 o7 d z e4 e5 e6 e7 = rw (e7, e6, e5, e4) (simp append_assoc)

-- what was there, and these rows with these numbers, are what is there now, and the rows that are left with the numbers that are left
pub record Writes (places : List Row) (numbers : List ℤ) (left : List Row) (others : List ℤ) (start now : List ℕ) : Type 0 where
  pub whole : start ++ numbered_text places numbers ≡ now ++ numbered_text left others
  pub begins : take (length start) now ≡ start

-- a text that begins with another still does when it is appended to
pub begins_on : (start now new : List ℕ) → take (length start) now ≡ start → take (length now) new ≡ now → take (length start) new ≡ start
begins_on start now new begins kept =
    kept_start start now new (drop (length start) now)
    (sym (take-append-drop (length start) now) ∙ ap (λ t. t ++ drop (length start) now) begins) kept

pub begins_more : (start now more : List ℕ) → take (length start) now ≡ start → take (length start) (now ++ more) ≡ start
begins_more start now more begins = begins_on start now (now ++ more) begins (take-append_seam now more)

pub starts : (places : List Row) (numbers : List ℤ) (start : List ℕ) → Writes places numbers places numbers start start
starts places numbers start = record { whole = refl; begins = ap (take (length start)) (sym (append-nil start)) ∙ take-append_seam start [] }

module _ (places : List Row) (numbers : List ℤ) (start now : List ℕ) where
  -- one row is written
  pub one_row : (place : Row) (z : ℤ) (left : List Row) (others : List ℤ) (new : List ℕ) → Writes places numbers (place ∷ left) (z ∷ others) start now
      → new ≡ now ++ row_text (number_row place z) → Writes places numbers left others start new
  one_row place z left others new w is = record {
    whole = w.whole ∙ sym (append_assoc now (row_text (number_row place z)) (numbered_text left others)) ∙ ap (λ t. t ++ numbered_text left others) (sym is);
    begins = ap (take (length start)) is ∙ begins_more start now (row_text (number_row place z)) w.begins;
  }

  -- none is left
  pub all_written : (left : List Row) (others : List ℤ) → left ≡ [] → Writes places numbers left others start now → now ≡ start ++ numbered_text places numbers
  all_written left others none w = sym (w.whole ∙ ap (λ l. now ++ numbered_text l others) none ∙ append-nil now)

-- one row of those that are left
module _ (places : List Row) (numbers : List ℤ) (start now : List ℕ) (left rest : List Row) (others after : List ℤ) (row fields : Row) (z y : ℤ)
    (e : left ≡ row ∷ rest) (same : fields ≡ row) (d : others ≡ z ∷ after) (value : y ≡ z) (w : Writes places numbers left others start now) where
  pub write_next : (new : List ℕ) → new ≡ now ++ row_text (number_row fields y) → Writes places numbers rest after start new
  write_next new is =
      one_row places numbers start now row z rest after new
      (subst (λ zs. Writes places numbers (row ∷ rest) zs start now) d (subst (λ l. Writes places numbers l others start now) e w))
      (is ∙ ap (λ f. now ++ row_text (number_row f y)) same ∙ ap (λ v. now ++ row_text (number_row row v)) value)

-- a part of those that are left
module _ (places : List Row) (numbers : List ℤ) (start now : List ℕ) (left part rest : List Row) (others own after : List ℤ)
    (e : left ≡ part ++ rest) (d : others ≡ own ++ after) (long : length part ≡ length own) (w : Writes places numbers left others start now) where
  pub write_part : (new : List ℕ) → new ≡ now ++ numbered_text part own → Writes places numbers rest after start new
  write_part new is = record {
    whole = w.whole ∙ ap (λ t. now ++ t) (ap (λ l. numbered_text l others) e ∙ ap (numbered_text (part ++ rest)) d ∙ text_append part rest own after long)
        ∙ sym (append_assoc now (numbered_text part own) (numbered_text rest after)) ∙ ap (λ t. t ++ numbered_text rest after) (sym is);
    begins = ap (take (length start)) is ∙ begins_more start now (numbered_text part own) w.begins;
  }

-- a price is kept by 128 bits
pub kept : (numbers : List ℤ) → All (λ z. nat_abs z ≤ price_limit) numbers → (k : ℕ) → k < length numbers → to_z w128 (of_z w128 (get_or numbers k (pos 0))) ≡ get_or numbers k (pos 0)
kept numbers near k below = let within = near k (pos 0) below in to_z-of_z w128 (get_or numbers k (pos 0)) (fits_signed_from_abs w128 (get_or numbers k (pos 0)) (omega (arith, within)))

pub plain_fit : (sp : Spine) → IsSound sp → (fit : Option ℕ) → IfSome fit (IsUnit sp) → IsPlain (fit_field sp fit)
plain_fit sp sound None is = record { filled = omega arith; plain = refl }
plain_fit sp sound (Some p) is = plain_name 16 (code_of sp p) (sound.coded p is)

drop_twice : (a b : ℕ) (xs : List ℤ) → drop a (drop b xs) ≡ drop (b + a) xs
drop_twice a zero xs = let e : a ≡ 0 + a = omega arith in ap (λ n. drop n xs) e
drop_twice a (suc b) [] = drop-nil a ∙ sym (drop-nil (suc b + a))
drop_twice a (suc b) (x ∷ xs) = drop_twice a b xs ∙ (let e : suc (b + a) ≡ suc b + a = omega arith in ap (λ n. drop n (x ∷ xs)) e)

-- the k-th part of so many numbers, and those after it
pub next_part : (numbers : List ℤ) (k g : ℕ) → drop (k * g) numbers ≡ between (k * g) (k * g + g) numbers ++ drop ((k + 1) * g) numbers
next_part numbers k g =
    let n : k * g + g - k * g ≡ g = omega arith in
    let m : k * g + g ≡ (k + 1) * g = (let e : k + 1 ≡ suc k = omega arith in omega (arith, suc-mul k g, ap (λ a. a * g) e)) in
    sym (take-append-drop g (drop (k * g) numbers))
    ∙ ap (λ a. take a (drop (k * g) numbers) ++ drop g (drop (k * g) numbers)) (sym n)
    ∙ ap (λ ys. between (k * g) (k * g + g) numbers ++ ys) (drop_twice g (k * g) numbers ∙ ap (λ a. drop a numbers) m)

-- two parts, one after the other
pub two_parts : (rows others : List Row) (numbers : List ℤ) (mid : ℕ) (front back : List ℤ) → front ≡ take mid numbers → back ≡ drop mid numbers → length rows ≡ length front
    → (o0 o1 o2 : List ℕ) → o1 ≡ o0 ++ numbered_text rows front → o2 ≡ o1 ++ numbered_text others back → o2 ≡ o0 ++ numbered_text (rows ++ others) numbers
two_parts rows others numbers mid front back front_is back_is long o0 o1 o2 first second =
    second ∙ ap (λ t. t ++ numbered_text others back) first ∙ append_assoc o0 (numbered_text rows front) (numbered_text others back)
    ∙ ap (λ t. o0 ++ t) (sym (text_append rows others front back long))
    ∙ ap (λ zs. o0 ++ numbered_text (rows ++ others) zs) (ap (λ zs. zs ++ back) front_is ∙ ap (λ zs. take mid numbers ++ zs) back_is ∙ take-append-drop mid numbers)
