-- Outputs that are written one after the other, each under a name of its own.
use Rattle.std.proofs.Common.{◌≡◌, ◌≢◌, ◌∙◌, ◌++◌, ◌∷◌, ◌+◌, ◌<◌, ◌≤◌, ◌&&◌, [], List, ℕ, Bool, true, false, not, cond, ◌==◌, length, map, take, drop, count_by, find, if◌then◌else◌, refl, sym, ap, subst, arith, inl, inr, Option, Some, None, IfSome, option_map, get_or, Result, Ok, Err, append_assoc}
use Rattle.std.specs.Str.{bytes_eq}
use Rattle.std.specs.List.{list_all}
use Rattle.std.specs.Result.{OnOk}
use Rattle.std.proofs.lemmas.Bool.{cases_Bool, eqb-true}
use Rattle.std.proofs.lemmas.List.{append-nil, take_all, take_more, take-map, take-append-drop, length-map, get_or-map}
use Rattle.std.proofs.lemmas.List.Folds.{list_all_at}
use Rattle.std.proofs.lemmas.List.Sums.{count_by_more_yes, sum_by-append, sum_by-cons}
use Rattle.tda_io.specs.Outside.{Tray, Written, IsNew, file_at}
use Rattle.tda_io.specs.declared.outside.OutFault.{OutFault}
use Rattle.tda_command.specs.Words.{Form, command_of, form_of, form_in, source_of, commands, pairs_of, pairs_after, values_in, reads_of, writes_of, is_free, has_form, has_values, dash}
use Rattle.tda_tool.specs.Outcome.{whole, with_last, with_all, IsEmpty, Leaves, AsksBegin}
use Rattle.tda_tool.specs.Output.{part, LeavesPart, BeginsFirst}
use Rattle.tda_tool.specs.Answer.{target_of, targets_of, outputs_of, WritesNames}
use Rattle.tda_tool.specs.declared.answer.Output.{Output}
use Rattle.tda_tool.specs.declared.answer.Answer.{Answer}
use Rattle.tda_command.specs.declared.words.Command.{Command}
use Rattle.tda_tool.proofs.Begun.{given_up_asks, asks_then}
use Rattle.tda_tool.proofs.Files.{same_name, other_name}
use Rattle.tda_tool.proofs.Outputs.{no_targets, targets_written}

-- ---- the files that a command writes have names of their own

and_left : (a b : Bool) → (a && b) ≡ true → a ≡ true
and_left true b is = refl
and_left false b is = cc is

and_right : (a b : Bool) → (a && b) ≡ true → b ≡ true
and_right true b is = is
and_right false b is = cc is

found : {X : Type 0} (test : X → Bool) (xs : List X) (x : X) → find test xs ≡ Some x → test x ≡ true
found test [] x is = cc is
found test (y ∷ xs) x is = elim (cases_Bool (test y)) [
  | inl so ↦ let same : y ≡ x = cc (rw so at is) in subst (λ z. test z ≡ true) same so
  | inr not_so ↦ found test xs x (rw not_so at is)
]

free_form : (f : Form) (words : List (List ℕ)) → has_form f words ≡ true
    → list_all (is_free (values_in (pairs_after words) f.reads) (values_in (pairs_after words) f.writes)) (values_in (pairs_after words) f.writes) ≡ true
free_form f [] is = cc is
free_form f (word ∷ rest) is =
    let values = and_right _ (has_values f (pairs_of rest)) is in and_right _ _ (and_left _ _ values)

abbrev free_in : List (List ℕ) → Option Command → Bool
free_in words o =
    list_all (is_free (values_in (pairs_after words) (form_in words o).reads) (values_in (pairs_after words) (form_in words o).writes)) (values_in (pairs_after words) (form_in words o).writes)

are_free_in : (words : List (List ℕ)) (o : Option Command) → command_of words ≡ o → free_in words o ≡ true
are_free_in words None is = refl
are_free_in words (Some c) is = free_form (form_of (source_of words) c) words (found (λ x. has_form (form_of (source_of words) x) words) commands c is)

pub writes_are_free : (words : List (List ℕ)) → list_all (is_free (reads_of words) (writes_of words)) (writes_of words) ≡ true
writes_are_free words = are_free_in words (command_of words) refl

-- ---- names among others

all_at : {X : Type 0} (p : X → Bool) (xs : List X) (i : ℕ) (d : X) → i < length xs → list_all p xs ≡ true → p (get_or xs i d) ≡ true
all_at p xs i d l all = elim (cases_Bool (p (get_or xs i d))) [ inl so ↦ so | inr not_so ↦ cc (all, list_all_at p xs i d l not_so) ]

count_first : {X : Type 0} (p : X → Bool) (xs : List X) (n : ℕ) → count_by p (take n xs) ≤ count_by p xs
count_first p xs n =
    let cut = sum_by-append (λ x. cond (p x) 1 0) (take n xs) (drop n xs) in
    let whole_is : count_by p (take n xs ++ drop n xs) ≡ count_by p xs = ap (count_by p) (take-append-drop n xs) in
    omega arith

-- the only one is no earlier one
alone_before : {X : Type 0} (p : X → Bool) (xs : List X) (i : ℕ) (d : X) → i < length xs → p (get_or xs i d) ≡ true → count_by p xs ≡ 1 → count_by p (take i xs) ≡ 0
alone_before p xs i d l here one =
    let more = count_by_more_yes p xs i d l here in
    let most = count_first p xs (i + 1) in
    omega arith

is_one : (n : ℕ) → (n == 1) ≡ true → n ≡ 1
is_one n e = eqb-true n 1 e

-- a path of a command's list is free of the ones before it, and is no `-`
pub record IsOwn (paths : List (List ℕ)) (k : ℕ) : Type 0 where
  pub before : count_by (bytes_eq (get_or paths k [])) (take k paths) ≡ 0
  pub file : get_or paths k [] ≢ dash

not_dash : (value : List ℕ) → not (bytes_eq value dash) ≡ true → value ≢ dash
not_dash value differs is =
    let same : bytes_eq value dash ≡ true = ap (λ v. bytes_eq v dash) is ∙ same_name dash in
    let never : not true ≡ true = ap not (sym same) ∙ differs in
    cc never

pub own_path : (reads paths : List (List ℕ)) (k : ℕ) → k < length paths → list_all (is_free reads paths) paths ≡ true → IsOwn paths k
own_path reads paths k l free =
    let here = all_at (is_free reads paths) paths k [] l free in
    record {
      before = alone_before (bytes_eq (get_or paths k [])) paths k [] l (same_name (get_or paths k [])) (is_one _ (and_right _ _ here));
      file = not_dash (get_or paths k []) (and_left _ _ (and_left _ _ here));
    }

not_among : (name value : List ℕ) → value ≢ name → bytes_eq name value ≡ false
not_among name value ne = other_name name value (λ e. ne (sym e))

no_dash : (reads paths rest : List (List ℕ)) → list_all (is_free reads paths) rest ≡ true → count_by (bytes_eq dash) rest ≡ 0
no_dash reads paths [] free = refl
no_dash reads paths (value ∷ rest) free =
    let here = and_left (is_free reads paths value) _ free in
    let ne = not_dash value (and_left _ _ (and_left _ _ here)) in
    rw (not_among dash value ne) (no_dash reads paths rest (and_right (is_free reads paths value) _ free))

pub dash_before : (reads paths : List (List ℕ)) (k : ℕ) → list_all (is_free reads paths) paths ≡ true → count_by (bytes_eq dash) (take k paths) ≡ 0
dash_before reads paths k free =
    let none = no_dash reads paths paths free in
    let most = count_first (bytes_eq dash) paths k in
    omega arith

-- ---- trays

some_of : (b : Bool) (n : ℕ) → b ≡ true → ¬ (cond b 1 0 + n ≡ 0)
some_of true n so none = omega arith
some_of false n so none = cc so

none_of : (b : Bool) (n : ℕ) → cond b 1 0 + n ≡ 0 → n ≡ 0
none_of true n none = omega arith
none_of false n none = omega arith

-- a name that stands nowhere
no_file : (name : List ℕ) (fs : List Written) → count_by (bytes_eq name) (map (λ f. f.name) fs) ≡ 0 → file_at name fs ≡ None
no_file name [] none = refl
no_file name (f ∷ fs) none =
    let total = sum_by-cons (λ x. cond (bytes_eq name x) 1 0) f.name (map (λ g. g.name) fs) in
    elim (cases_Bool (bytes_eq name f.name)) [
      | inl same ↦ absurd (some_of (bytes_eq name f.name) (count_by (bytes_eq name) (map (λ g. g.name) fs)) same (sym total ∙ none))
      | inr other ↦
          let ne : f.name ≢ name = λ e. let so : bytes_eq name f.name ≡ true = ap (bytes_eq name) e ∙ same_name name in cc (so, other) in
          rw (other_name f.name name ne) (no_file name fs (none_of (bytes_eq name f.name) (count_by (bytes_eq name) (map (λ g. g.name) fs)) (sym total ∙ none)))
    ]

abbrev tray : List Written → List (List ℕ) → Tray
tray files asked = record { files = files; asked = asked }

with_all_is : (fs : List Written) (t : Tray) → with_all fs t ≡ tray (t.files ++ fs) (t.asked ++ map (λ f. f.name) fs)
with_all_is [] t = ap (λ xs. tray xs t.asked) (sym (append-nil t.files)) ∙ ap (λ ns. tray (t.files ++ []) ns) (sym (append-nil t.asked))
with_all_is (f ∷ fs) t =
    with_all_is fs (with_last f t)
    ∙ ap (λ xs. tray xs ((t.asked ++ f.name ∷ []) ++ map (λ g. g.name) fs)) (append_assoc t.files (f ∷ []) fs)
    ∙ ap (λ ns. tray (t.files ++ f ∷ fs) ns) (append_assoc t.asked (f.name ∷ []) (map (λ g. g.name) fs))

with_all_last : (fs : List Written) (f : Written) (t : Tray) → with_last f (with_all fs t) ≡ with_all (fs ++ f ∷ []) t
with_all_last [] f t = refl
with_all_last (g ∷ fs) f t = with_all_last fs f (with_last g t)

-- one more file
pub one_more : (fs : List Written) (f : Written) (old mid new : Option Tray) → mid ≡ option_map (with_all fs) old → new ≡ option_map (with_last f) mid → new ≡ option_map (with_all (fs ++ f ∷ [])) old
one_more fs f None mid new was is = is ∙ ap (option_map (with_last f)) was
one_more fs f (Some t) mid new was is = is ∙ ap (option_map (with_last f)) was ∙ ap Some (with_all_last fs f t)

-- a name that is none of those that were written is new
pub new_after : (name : List ℕ) (fs : List Written) (old now : Option Tray) → IfSome old IsEmpty → now ≡ option_map (with_all fs) old → count_by (bytes_eq name) (map (λ f. f.name) fs) ≡ 0 → IfSome now (IsNew name)
new_after name fs None now e is none = rw is tt
new_after name fs (Some t) now e is none = rw (is, with_all_is fs t, e) (no_file name fs none)

last_other : (name : List ℕ) (fs : List Written) (f : Written) → file_at name fs ≡ None → bytes_eq f.name name ≡ false → file_at name (fs ++ f ∷ []) ≡ None
last_other name [] f none other = rw other refl
last_other name (g ∷ fs) f none other = elim (cases_Bool (bytes_eq g.name name)) [
  | inl same ↦ cc (rw same at none)
  | inr not_so ↦ rw not_so (last_other name fs f (rw not_so at none) other)
]

-- and stays new while another one is written, or given up
pub new_beside : (name path text : List ℕ) (mid new : Option Tray) → IfSome mid (IsNew name) → path ≢ name → LeavesPart path text mid new → IfSome new (IsNew name)
new_beside name path text mid new fresh ne (inl same) = rw same fresh
new_beside name path text None new fresh ne (inr (inl is)) = rw is tt
new_beside name path text (Some t) new fresh ne (inr (inl is)) = rw is fresh
new_beside name path text None new fresh ne (inr (inr left)) = rw left.2 tt
new_beside name path text (Some t) new fresh ne (inr (inr left)) = rw left.2 (last_other name t.files (part path (take left.0 text)) fresh (other_name path name ne))

-- ---- what `begin` was asked for

pub all_asked : (fs : List Written) (old new : Option Tray) → new ≡ option_map (with_all fs) old → AsksBegin (map (λ f. f.name) fs) old new
all_asked fs None new is = ap (option_map (λ t. t.asked)) is
all_asked fs (Some t) new is = ap (option_map (λ t. t.asked)) is ∙ ap (λ s. Some s.asked) (with_all_is fs t)

first_asked : (paths : List (List ℕ)) (k : ℕ) (done : Bool) (old mid new : Option Tray) → k < length paths → AsksBegin (take k paths) old mid
    → AsksBegin (if done then get_or paths k [] ∷ [] else []) mid new → BeginsFirst paths old new
first_asked paths k true old mid new l first later = record {
  count = k + 1;
  within = omega arith;
  asked = asks_then (take k paths) (get_or paths k [] ∷ []) old mid new first later ∙ ap (λ ns. option_map (λ t. t.asked ++ ns) old) (sym (take_more paths k [] l));
}
first_asked paths k false old mid new l first later = record {
  count = k;
  within = omega arith;
  asked = asks_then (take k paths) [] old mid new first later ∙ ap (λ ns. option_map (λ t. t.asked ++ ns) old) (append-nil (take k paths));
}

-- the outputs before the one that was given up, and perhaps that one
pub given_up : (paths : List (List ℕ)) (k : ℕ) (text : List ℕ) (old mid new : Option Tray) → k < length paths → AsksBegin (take k paths) old mid
    → LeavesPart (get_or paths k []) text mid new → BeginsFirst paths old new
given_up paths k text old mid new l first left =
    let once = given_up_asks (get_or paths k []) text mid new left in
    first_asked paths k once.done old mid new l first once.asked

-- ---- an answer's outputs, one after the other

path_names : (words : List (List ℕ)) (os : List Output) → map (λ f. f.name) (map (λ o. whole (target_of words o) o.text.items) os) ≡ map (target_of words) os
path_names words [] = refl
path_names words (o ∷ os) = ap (λ xs. target_of words o ∷ xs) (path_names words os)

first_names : (words : List (List ℕ)) (a : Answer) (k : ℕ) → map (λ f. f.name) (take k (outputs_of words a)) ≡ take k (targets_of words a)
first_names words a k = sym (take-map (λ f. f.name) k (outputs_of words a)) ∙ ap (take k) (path_names words a.outputs.items)

targets_free : (words : List (List ℕ)) (a : Answer) → WritesNames words a → list_all (is_free (reads_of words) (targets_of words a)) (targets_of words a) ≡ true
targets_free words a (inl none) = subst (λ paths. list_all (is_free (reads_of words) paths) paths ≡ true) (sym (no_targets words a none)) refl
targets_free words a (inr all) = subst (λ paths. list_all (is_free (reads_of words) paths) paths ≡ true) (sym (targets_written words a all)) (writes_are_free words)

-- an output is one of the answer's
pub record IsOutputAt (a : Answer) (k : ℕ) (o : Output) : Type 0 where
  pub within : k < length a.outputs.items
  pub is : o ≡ get_or a.outputs.items k o

module _ (words : List (List ℕ)) (a : Answer) (names : WritesNames words a) (k : ℕ) (old now : Option Tray)
    (empty : IfSome old IsEmpty) (told : now ≡ option_map (with_all (take k (outputs_of words a))) old) where
  -- after the first k outputs the report is new
  pub report_new : IfSome now (IsNew dash)
  report_new =
      new_after dash (take k (outputs_of words a)) old now empty told
      (ap (count_by (bytes_eq dash)) (first_names words a k) ∙ dash_before (reads_of words) (targets_of words a) k (targets_free words a names))

  first_begun : AsksBegin (take k (targets_of words a)) old now
  first_begun = subst (λ ns. AsksBegin ns old now) (first_names words a k) (all_asked (take k (outputs_of words a)) old now told)

  module _ (o : Output) (at : IsOutputAt a k o) where
    path_is : get_or (targets_of words a) k [] ≡ target_of words o
    path_is = get_or-map (target_of words) a.outputs.items k o [] at.within ∙ ap (target_of words) (sym at.is)

    inside : k < length (targets_of words a)
    inside = let same = length-map a.outputs.items (target_of words) in let here = at.within in omega arith

    own : IsOwn (targets_of words a) k
    own = own_path (reads_of words) (targets_of words a) k inside (targets_free words a names)

    -- and the next output too
    pub next_new : IfSome now (IsNew (target_of words o))
    next_new =
        new_after (target_of words o) (take k (outputs_of words a)) old now empty told
        (ap (count_by (bytes_eq (target_of words o))) (first_names words a k)
        ∙ subst (λ path. count_by (bytes_eq path) (take k (targets_of words a)) ≡ 0) path_is own.before)

    pub next_given_up : (new : Option Tray) (text : List ℕ) → LeavesPart (target_of words o) text now new → BeginsFirst (targets_of words a) old new
    next_given_up new text left =
        given_up (targets_of words a) k text old now new inside first_begun (subst (λ path. LeavesPart path text now new) (sym path_is) left)

    pub report_still_new : (new : Option Tray) (text : List ℕ) → LeavesPart (target_of words o) text now new → IfSome new (IsNew dash)
    report_still_new new text left = new_beside dash (target_of words o) text now new report_new (subst (λ path. path ≢ dash) path_is own.file) left

    file_is : get_or (outputs_of words a) k (whole [] []) ≡ whole (target_of words o) o.text.items
    file_is = get_or-map (λ p. whole (target_of words p) p.text.items) a.outputs.items k o (whole [] []) at.within ∙ ap (λ p. whole (target_of words p) p.text.items) (sym at.is)

    pub next_written : (new : Option Tray) → new ≡ option_map (with_last (whole (target_of words o) o.text.items)) now → new ≡ option_map (with_all (take (k + 1) (outputs_of words a))) old
    next_written new is =
        let size = length-map a.outputs.items (λ p. whole (target_of words p) p.text.items) in
        let here : k < length (outputs_of words a) = let within = at.within in omega arith in
        one_more (take k (outputs_of words a)) (whole (target_of words o) o.text.items) old now new told is
        ∙ ap (λ f. option_map (with_all (take k (outputs_of words a) ++ f ∷ [])) old) (sym file_is)
        ∙ ap (λ fs. option_map (with_all fs) old) (sym (take_more (outputs_of words a) k (whole [] []) here))

  -- all of them
  pub all_begun : length a.outputs.items ≤ k → BeginsFirst (targets_of words a) old now
  all_begun all =
      let same = length-map a.outputs.items (target_of words) in
      record {
        count = length (targets_of words a);
        within = omega arith;
        asked = subst (λ ns. AsksBegin ns old now) (take_all k (targets_of words a) (omega arith) ∙ sym (take_all (length (targets_of words a)) (targets_of words a) (omega arith))) first_begun;
      }

-- the outputs, and then the report
pub published : (fs : List Written) (name text report : List ℕ) (r : Result (Unit {0}) OutFault) (old mid new : Option Tray) → Leaves fs old mid → text ≡ report
    → OnOk r (new ≡ option_map (with_last (whole name text)) mid) → OnOk r (Leaves (fs ++ whole name report ∷ []) old new)
published fs name text report (Ok x) old mid new outputs same written =
    subst (λ t. Leaves (fs ++ whole name t ∷ []) old new) same (one_more fs (whole name text) old mid new outputs written)
published fs name text report (Err e) old mid new outputs same written = tt
