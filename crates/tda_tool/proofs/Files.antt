-- Calls of an outbox, one after the other, on one name.
use Rattle.std.proofs.Common.{◌≡◌, ◌++◌, ◌∷◌, [], List, ℕ, true, false, length, take, refl, sym, ap, arith, ◌∙◌, Option, Some, None, IfSome, option_map, inl, inr, ◌≢◌, Result, Ok, Err}
use Rattle.std.specs.Str.{bytes_eq}
use Rattle.std.specs.Result.{OnErr, OnOk, IsErr}
use Rattle.std.proofs.lemmas.Bool.{cases_Bool}
use Rattle.std.proofs.lemmas.List.{take_all}
use Rattle.std.proofs.lemmas.Slice.Eq.{bytes_eq-Decides}
use Rattle.tda_io.specs.declared.outside.OutFault.{OutFault}
use Rattle.tda_io.specs.Outside.{Written, Tray, IsNew, IsOpen, file_at, with_file, grown, closed, puts, ends, Puts, Ends}
use Rattle.std.proofs.lemmas.Bool.{false_from_ne_true}
use Rattle.tda_tool.specs.Outcome.{whole, with_last, IsEmpty}
use Rattle.tda_tool.specs.Output.{part, LeavesPart}

pub same_name : (name : List ℕ) → bytes_eq name name ≡ true
same_name name = (bytes_eq-Decides name name).1 refl

pub file_at-last : (name : List ℕ) (fs : List Written) (f : Written) → file_at name fs ≡ None → f.name ≡ name → file_at name (fs ++ f ∷ []) ≡ Some f
file_at-last name [] f new is = rw (is, same_name name) refl
file_at-last name (g ∷ fs) f new is = elim (cases_Bool (bytes_eq g.name name)) [
  | inl same ↦ cc (rw same at new)
  | inr other ↦ rw other (file_at-last name fs f (rw other at new) is)
]

pub with_file-last : (change : Written → Written) (name : List ℕ) (fs : List Written) (f : Written) → file_at name fs ≡ None → f.name ≡ name → with_file change name (fs ++ f ∷ []) ≡ fs ++ change f ∷ []
with_file-last change name [] f new is = rw (is, same_name name) refl
with_file-last change name (g ∷ fs) f new is = elim (cases_Bool (bytes_eq g.name name)) [
  | inl same ↦ cc (rw same at new)
  | inr other ↦ rw other (ap (λ xs. g ∷ xs) (with_file-last change name fs f (rw other at new) is))
]

-- a part that stands last is open
pub part_open : (name text : List ℕ) (old new : Option Tray) → IfSome old (IsNew name) → new ≡ option_map (with_last (part name text)) old → IfSome new (IsOpen name)
part_open name text None new fresh is = rw is tt
part_open name text (Some t) new fresh is = rw (is, file_at-last name t.files (part name text) fresh refl) refl

-- `put` makes a longer part
pub part_put : (name text piece : List ℕ) (old mid new : Option Tray) → IfSome old (IsNew name) → mid ≡ option_map (with_last (part name text)) old
    → new ≡ option_map (puts name piece) mid → new ≡ option_map (with_last (part name (text ++ piece))) old
part_put name text piece None mid new fresh was is = is ∙ ap (option_map (puts name piece)) was
part_put name text piece (Some t) mid new fresh was is = is ∙ ap (option_map (puts name piece)) was
    ∙ ap (λ fs. Some (record { files = fs; asked = t.asked ++ name ∷ [] })) (with_file-last (grown piece) name t.files (part name text) fresh refl)

-- `end` makes it whole
pub part_ended : (name text : List ℕ) (old mid new : Option Tray) → IfSome old (IsNew name) → mid ≡ option_map (with_last (part name text)) old
    → new ≡ option_map (ends name) mid → new ≡ option_map (with_last (whole name text)) old
part_ended name text None mid new fresh was is = is ∙ ap (option_map (ends name)) was
part_ended name text (Some t) mid new fresh was is = is ∙ ap (option_map (ends name)) was
    ∙ ap (λ fs. Some (record { files = fs; asked = t.asked ++ name ∷ [] })) (with_file-last closed name t.files (part name text) fresh refl)

-- a `put` that was given up
pub put_given_up : (name piece : List ℕ) (r e : Result (Unit {0}) OutFault) (old mid new : Option Tray) → IfSome old (IsNew name) → mid ≡ option_map (with_last (part name [])) old
    → IsErr e → Puts name piece e mid new → OnErr r (LeavesPart name piece old new)
put_given_up name piece (Ok x) e old mid new fresh was is put = tt
put_given_up name piece (Err f) (Ok x) old mid new fresh was is put = cc is
put_given_up name piece (Err f) (Err e) old mid new fresh was is put =
    let (n, within, left) = put in
    inr (inr (n, within, part_put name [] (take n piece) old mid new fresh was left))

-- an `end` that was given up leaves the whole text as a part
pub end_given_up : (name text : List ℕ) (r : Result (Unit {0}) OutFault) (old mid new : Option Tray) → mid ≡ option_map (with_last (part name text)) old
    → Ends name r mid new → OnErr r (LeavesPart name text old new)
end_given_up name text (Ok x) old mid new was left = tt
end_given_up name text (Err e) old mid new was left =
    inr (inr (length text, omega arith, left ∙ was ∙ ap (λ bs. option_map (with_last (part name bs)) old) (sym (take_all (length text) text (omega arith)))))

pub end_done : (name text : List ℕ) (r : Result (Unit {0}) OutFault) (old mid new : Option Tray) → IfSome old (IsNew name) → mid ≡ option_map (with_last (part name text)) old
    → Ends name r mid new → OnOk r (new ≡ option_map (with_last (whole name text)) old)
end_done name text (Ok x) old mid new fresh was left = part_ended name text old mid new fresh was left
end_done name text (Err e) old mid new fresh was left = tt

-- a name is new where nothing is begun
pub empty_new : (name : List ℕ) (old : Option Tray) → IfSome old IsEmpty → IfSome old (IsNew name)
empty_new name None e = tt
empty_new name (Some t) e = rw e refl

pub other_name : (a b : List ℕ) → a ≢ b → bytes_eq a b ≡ false
other_name a b ne = false_from_ne_true _ (λ e. ne ((bytes_eq-Decides a b).0 e))

-- and still where one file of another name is
pub new_after_last : (name : List ℕ) (file : Written) (old new : Option Tray) → IfSome old IsEmpty → file.name ≢ name → new ≡ option_map (with_last file) old → IfSome new (IsNew name)
new_after_last name file None new e ne is = rw is tt
new_after_last name file (Some t) new e ne is = rw (is, e, other_name file.name name ne) refl

pub new_after_part : (name target text : List ℕ) (old new : Option Tray) → IfSome old IsEmpty → target ≢ name → LeavesPart target text old new → IfSome new (IsNew name)
new_after_part name target text old new e ne (inl same) = rw same (empty_new name old e)
new_after_part name target text None new e ne (inr (inl is)) = rw is tt
new_after_part name target text (Some t) new e ne (inr (inl is)) = rw (is, e) refl
new_after_part name target text old new e ne (inr (inr left)) = new_after_last name (part target (take left.0 text)) old new e ne left.2
