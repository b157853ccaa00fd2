-- An answer's outputs: where the command has them, and their texts.
use Rattle.std.proofs.Common.{◌≡◌, ◌∙◌, ◌++◌, ◌∷◌, [], List, ℕ, refl, ap, subst, map, Option}
use Rattle.std.specs.List.{zip}
use Rattle.std.proofs.lemmas.List.{map-append}
use Rattle.tda_io.specs.Outside.{Written, Tray}
use Rattle.tda_command.specs.Words.{pairs_after, values_in, writes_of, write_names, dash}
use Rattle.tda_tool.specs.Outcome.{whole, Leaves, LeavesReport}
use Rattle.tda_inputs.specs.Ending.{Ending}
use Rattle.tda_tool.specs.Answer.{target_of, targets_of, outputs_of, files_of, AreOutputs, ReportsAlone}
use Rattle.tda_tool.specs.declared.answer.Output.{Output}
use Rattle.tda_tool.specs.declared.answer.Answer.{Answer}

-- the names of outputs, and their texts
abbrev pub names_in : List Output → List (List ℕ)
names_in os = map (λ o. o.name.now) os

abbrev pub texts_in : List Output → List (List ℕ)
texts_in os = map (λ o. o.text.items) os

-- files by their paths and texts
abbrev pub wholes : List (List ℕ) → List (List ℕ) → List Written
wholes paths texts = map (λ p. whole p.0 p.1) (zip paths texts)

targets_are : (words : List (List ℕ)) (os : List Output) → map (target_of words) os ≡ values_in (pairs_after words) (names_in os)
targets_are words [] = refl
targets_are words (o ∷ os) = ap (λ xs. target_of words o ∷ xs) (targets_are words os)

wholes_are : (words : List (List ℕ)) (os : List Output) → map (λ o. whole (target_of words o) o.text.items) os ≡ wholes (values_in (pairs_after words) (names_in os)) (texts_in os)
wholes_are words [] = refl
wholes_are words (o ∷ os) = ap (λ xs. whole (target_of words o) o.text.items ∷ xs) (wholes_are words os)

-- the outputs of these names and texts
pub outputs_are : (words names texts : List (List ℕ)) (a : Answer) → AreOutputs names texts a.outputs.items → outputs_of words a ≡ wholes (values_in (pairs_after words) names) texts
outputs_are words names texts a are =
    wholes_are words a.outputs.items
    ∙ ap (λ ns. wholes (values_in (pairs_after words) ns) (texts_in a.outputs.items)) are.names_are
    ∙ ap (λ ts. wholes (values_in (pairs_after words) names) ts) are.texts_are

-- the outputs that the command writes
pub written_outputs : (words : List (List ℕ)) (a : Answer) → names_in a.outputs.items ≡ write_names words → outputs_of words a ≡ wholes (writes_of words) (texts_in a.outputs.items)
written_outputs words a are = wholes_are words a.outputs.items ∙ ap (λ ns. wholes (values_in (pairs_after words) ns) (texts_in a.outputs.items)) are

pub targets_written : (words : List (List ℕ)) (a : Answer) → names_in a.outputs.items ≡ write_names words → targets_of words a ≡ writes_of words
targets_written words a are = targets_are words a.outputs.items ∙ ap (values_in (pairs_after words)) are

-- no outputs
pub no_targets : (words : List (List ℕ)) (a : Answer) → a.outputs.items ≡ [] → targets_of words a ≡ []
no_targets words a none = ap (map (target_of words)) none

pub report_alone : (words : List (List ℕ)) (e : Ending) (a : Answer) (old new : Option Tray) → ReportsAlone e a → Leaves (files_of words a) old new → LeavesReport e.report old new
report_alone words e a old new alone left =
    subst (λ files. Leaves files old new)
    (ap (λ os. map (λ o. whole (target_of words o) o.text.items) os ++ whole dash a.report.items ∷ []) alone.outputs ∙ ap (λ text. whole dash text ∷ []) alone.report)
    left

-- the outputs of these names and texts, and then this report
pub files_are : (words names texts : List (List ℕ)) (report : List ℕ) (a : Answer) → AreOutputs names texts a.outputs.items → a.report.items ≡ report
    → files_of words a ≡ wholes (values_in (pairs_after words) names) texts ++ whole dash report ∷ []
files_are words names texts report a are is =
    ap (λ fs. fs ++ whole dash a.report.items ∷ []) (outputs_are words names texts a are)
    ∙ ap (λ text. wholes (values_in (pairs_after words) names) texts ++ whole dash text ∷ []) is

-- one more output
pub more_outputs : (names texts : List (List ℕ)) (name text : List ℕ) (os : List Output) (o : Output) → AreOutputs names texts os → o.name.now ≡ name → o.text.items ≡ text
    → AreOutputs (names ++ name ∷ []) (texts ++ text ∷ []) (os ++ o ∷ [])
more_outputs names texts name text os o are name_is text_is = record {
  names_are = map-append (λ x. x.name.now) os (o ∷ []) ∙ ap (λ ns. ns ++ o.name.now ∷ []) are.names_are ∙ ap (λ n. names ++ n ∷ []) name_is;
  texts_are = map-append (λ x. x.text.items) os (o ∷ []) ∙ ap (λ ts. ts ++ o.text.items ∷ []) are.texts_are ∙ ap (λ t. texts ++ t ∷ []) text_is;
}
