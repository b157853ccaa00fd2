-- A release over what was measured.
use Rattle.std.proofs.Common.{◌≡◌, ◌≤◌, ◌∙◌, ◌++◌, ◌∷◌, [], List, ℕ, ℤ, length, codes, sym, ap, subst, None, Result, Ok, Err}
use Rattle.std.specs.Result.{IfOk}
use Rattle.tda_io.specs.declared.outside.NoMemory.{NoMemory}
use Rattle.tda_model.specs.Schema.{Schema}
use Rattle.tda_model.specs.Spine.{Spine}
use Rattle.tda_model.specs.Release as release
use Rattle.tda_model.specs.TablesText.{tables_text}
use Rattle.tda_model.specs.Sizes.{place_count, places_limit}
use Rattle.tda_release.specs.Certified.{pricing_text, total_deviation}
use Rattle.tda_schema.specs.Shares.{frac_of, spent_of}
use Rattle.tda_invar.specs.KindTable.{NumberTable}
use Rattle.tda_invar.specs.Known.{JoinedLists, known, known_of, join_fault}
use Rattle.tda_places.specs.Places.{places_of}
use Rattle.tda_frac.specs.Fraction.{IsAtMost}
use Rattle.tda_inputs.specs.Accepted.{inputs_by}
use Rattle.tda_release.specs.Texts.{AreReadBack, AreTextsOf}
use Rattle.tda_release.specs.declared.release.Texts.{Texts}
use Rattle.tda_tool.specs.Ending.{run_ending}
use Rattle.tda_out.specs.Counts.{count_at}
use Rattle.tda_hist.specs.TrueTable.{state_persons}
use Rattle.tda_inputs.specs.declared.counted.Counted.{Counted}
use Rattle.tda_tool.specs.declared.draw.Drawn.{Drawn}
use Rattle.tda_tool.specs.declared.answer.Cause.TheVariants as cause
use Rattle.tda_tool.specs.Answer.{AreOutputs, AreMeasuredFiles, AreMeasuredBack, TellsRun, AreDrawnFrom, AnswersBy, AnswersNoise, RunsWith}
use Rattle.tda_tool.specs.Auditing.{AreAnsweredYes}
use Rattle.tda_tool.proofs.Answered.{answered_yes, measurements_back, totals_back}
use Rattle.tda_tool.specs.declared.answer.Output.{Output}
use Rattle.tda_tool.specs.declared.answer.Answer.{Answer}
use Rattle.tda_tool.proofs.Outputs.{more_outputs}

-- what is joined of these facilities and totals is known of them
pub same_inputs : (s : Schema) (sp : Spine) (m : List ℤ) (f : NumberTable) (t : List ℕ) (inv : JoinedLists) → inv.facilities ≡ f → inv.totals ≡ t → inputs_by s sp (known_of sp inv) m ≡ inputs_by s sp (known sp f t) m
same_inputs s sp m f t inv f_is t_is =
    ap (λ k. inputs_by s sp k m) (ap (λ x. known sp x inv.totals) f_is ∙ ap (known sp f) t_is)

-- the line over the inputs that the tables were made from
abbrev line_over : ℕ → release.Inputs → ℕ → List ℕ
line_over taken i deviation = (run_ending (length (places_of i.schema i.spine)) (frac_of (spent_of i.schema)) taken i.spine deviation).report

module _ (s : Schema) (sp : Spine) (f : NumberTable) (totals : List ℕ) (m : List ℤ) (taken : ℕ) where
  abbrev made_from : release.Inputs
  made_from = inputs_by s sp (known sp f totals) m

  -- files of what was measured, and then the texts of a release over it, with the line that tells of them
  pub run_told : (i : release.Inputs) (texts : Texts) (os : List Output) (tables prices : Output) (a : Answer) → i ≡ made_from → AreTextsOf i texts → AreReadBack i texts → AreMeasuredFiles s sp m totals os
      → tables.name.now ≡ codes "tables" → tables.text ≡ texts.tables → prices.name.now ≡ codes "prices" → prices.text ≡ texts.prices
      → a.outputs.items ≡ (os ++ tables ∷ []) ++ prices ∷ [] → a.report.items ≡ line_over taken i texts.deviation → IsAtMost (frac_of (spent_of s)) (frac_of s.total)
      → AreMeasuredBack s sp m totals → place_count s sp ≤ places_limit → join_fault s sp (known sp f totals) ≡ None → TellsRun s sp f totals m taken a
  run_told i texts os tables prices a is are back files tables_name tables_text_is prices_name prices_text_is outputs report within measured few enough =
      let t = subst (λ j. AreTextsOf j texts) is are in
      let line = subst (λ j. a.report.items ≡ line_over taken j texts.deviation) is report in
      let files_and_tables = more_outputs _ _ (codes "tables") (tables_text s sp t.tables) os tables files tables_name (ap (λ v. v.items) tables_text_is ∙ t.tables_are) in
      let all = more_outputs _ _ (codes "prices") (pricing_text made_from t.price) (os ++ tables ∷ []) prices files_and_tables prices_name (ap (λ v. v.items) prices_text_is ∙ t.prices_are) in
      record {
        tables = t.tables;
        price = t.price;
        certified = t.certified;
        outputs = subst (AreOutputs _ _) (sym outputs) all;
        report = line ∙ ap (line_over taken made_from) t.deviation;
        within = within;
        measured_back = measurements_back s sp m totals measured few;
        totals_back = totals_back s sp m totals measured f enough;
        answered = subst (λ x. AreAnsweredYes made_from x (pricing_text made_from t.price) (total_deviation made_from t.tables)) t.tables_are
            (subst (λ y. AreAnsweredYes made_from texts.tables.items y (total_deviation made_from t.tables)) t.prices_are
            (answered_yes made_from texts _ (subst (λ j. AreReadBack j texts) is back) t.deviation));
      }

-- a release over what was drawn is what `run` answers
pub runs_with : (c : Counted) (words : List ℕ) (d : Drawn) (r : Result Answer NoMemory) → AreDrawnFrom c words d → IfOk r (λ a. a.cause ≡ cause.Done)
    → IfOk r (TellsRun c.schema c.spine c.facilities (state_persons c.schema c.spine (count_at c.tables)) d.measurements d.taken) → IfOk r (AnswersNoise RunsWith c words)
runs_with c words d (Ok a) drawn done tells =
    subst (λ k. AnswersBy (RunsWith c words a) k c words a) (sym done)
    (record { measurements = d.measurements; rest = drawn.rest; taken = d.taken; measured = drawn.measured; taken_are = drawn.taken_are; tells = tells })
runs_with c words d (Err e) drawn done tells = tt
