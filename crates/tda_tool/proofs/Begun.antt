-- Names that `begin` was asked for, one write after the other.
use Rattle.std.proofs.Common.{◌≡◌, ◌∙◌, ◌++◌, ◌∷◌, [], List, ℕ, zero, suc, Bool, true, false, take, refl, sym, ap, arith, Option, Some, None, option_map, inl, inr, append_assoc, if◌then◌else◌, Result, Ok, Err}
use Rattle.std.specs.Result.{OnErr, OnOk}
use Rattle.std.proofs.lemmas.List.{append-nil}
use Rattle.tda_io.specs.Outside.{Tray, refuses}
use Rattle.tda_io.specs.declared.outside.OutFault.{OutFault}
use Rattle.tda_command.specs.Words.{dash}
use Rattle.tda_tool.specs.Outcome.{whole, with_last, AsksBegin, BeginsPrefix}
use Rattle.tda_tool.specs.Output.{part, LeavesPart, BeginsFirst}

asks_none : (old new : Option Tray) → new ≡ old → AsksBegin [] old new
asks_none None new same = ap (option_map (λ t. t.asked)) same
asks_none (Some t) new same = ap (option_map (λ t. t.asked)) same ∙ ap Some (sym (append-nil t.asked))

pub asks_then : (xs ys : List (List ℕ)) (old mid new : Option Tray) → AsksBegin xs old mid → AsksBegin ys mid new → AsksBegin (xs ++ ys) old new
asks_then xs ys None None new first later = later
asks_then xs ys None (Some m) new first later = cc first
asks_then xs ys (Some t) None new first later = cc first
asks_then xs ys (Some t) (Some m) new first later =
    let same : m.asked ≡ t.asked ++ xs = cc in
    later ∙ ap (λ ns. Some (ns ++ ys)) same ∙ ap Some (append_assoc t.asked xs ys)

whole_asks : (name text : List ℕ) (old new : Option Tray) → new ≡ option_map (with_last (whole name text)) old → AsksBegin (name ∷ []) old new
whole_asks name text None new is = ap (option_map (λ t. t.asked)) is
whole_asks name text (Some t) new is = ap (option_map (λ t. t.asked)) is

refused_asks : (name : List ℕ) (old new : Option Tray) → new ≡ option_map (refuses name) old → AsksBegin (name ∷ []) old new
refused_asks name None new is = ap (option_map (λ t. t.asked)) is
refused_asks name (Some t) new is = ap (option_map (λ t. t.asked)) is

part_asks : (name text : List ℕ) (old new : Option Tray) → new ≡ option_map (with_last (part name text)) old → AsksBegin (name ∷ []) old new
part_asks name text None new is = ap (option_map (λ t. t.asked)) is
part_asks name text (Some t) new is = ap (option_map (λ t. t.asked)) is

-- a write, given up or not, asked for its name or for nothing
pub record AsksOnce (name : List ℕ) (old new : Option Tray) : Type 0 where
  pub done : Bool
  pub asked : AsksBegin (if done then name ∷ [] else []) old new

pub given_up_asks : (name text : List ℕ) (old new : Option Tray) → LeavesPart name text old new → AsksOnce name old new
given_up_asks name text old new (inl same) = record { done = false; asked = asks_none old new same }
given_up_asks name text old new (inr (inl is)) = record { done = true; asked = refused_asks name old new is }
given_up_asks name text old new (inr (inr left)) = record { done = true; asked = part_asks name (take left.0 text) old new left.2 }

pub write_asks : (name text : List ℕ) (r : Result (Unit {0}) OutFault) (old new : Option Tray)
    → OnOk r (new ≡ option_map (with_last (whole name text)) old) → OnErr r (LeavesPart name text old new) → AsksOnce name old new
write_asks name text (Ok x) old new ok err = record { done = true; asked = whole_asks name text old new ok }
write_asks name text (Err e) old new ok err = given_up_asks name text old new err

-- the report alone
pub report_begun : (old new : Option Tray) → AsksOnce dash old new → BeginsPrefix [] old new
report_begun old new once = record { count = 0; within = omega arith; report = once.done; asked = once.asked }

-- nothing
pub nothing_begun : (names : List (List ℕ)) (old new : Option Tray) → new ≡ old → BeginsFirst names old new
nothing_begun names old new same = record { count = 0; within = omega arith; asked = asks_none old new same }

first_begun : (name : List ℕ) (done : Bool) (old new : Option Tray) → AsksBegin (if done then name ∷ [] else []) old new → BeginsFirst (name ∷ []) old new
first_begun name true old new asked = record { count = 1; within = omega arith; asked = asked }
first_begun name false old new asked = record { count = 0; within = omega arith; asked = asked }

take_none : (n : ℕ) → take {A = List ℕ} n [] ≡ []
take_none zero = refl
take_none (suc n) = refl

tail_is : (n : ℕ) (report : Bool) (old new : Option Tray) → AsksBegin (take n [] ++ (if report then dash ∷ [] else [])) old new → AsksBegin (if report then dash ∷ [] else []) old new
tail_is n report old new asked = asked ∙ ap (λ ns. option_map (λ t. t.asked ++ (ns ++ (if report then dash ∷ [] else []))) old) (take_none n)

-- outputs, and then perhaps the report
pub begun_then : (names : List (List ℕ)) (old mid new : Option Tray) → BeginsFirst names old mid → BeginsPrefix [] mid new → BeginsPrefix names old new
begun_then names old mid new first later = record {
  count = first.count;
  within = first.within;
  report = later.report;
  asked = asks_then _ _ old mid new first.asked (tail_is later.count later.report mid new later.asked);
}

-- the report alone, before any output
pub begun_alone : (names : List (List ℕ)) (old new : Option Tray) → BeginsPrefix [] old new → BeginsPrefix names old new
begun_alone names old new alone = begun_then names old old new (nothing_begun names old old refl) alone
