-- Two readings of one text give the same.
use Rattle.std.proofs.Common.{◌≡◌, Result, Ok, sym, ap, ◌∙◌}
use Rattle.tda_model.specs.Schema.{Schema}
use Rattle.tda_model.specs.Spine.{Spine}
use Rattle.tda_schema.specs.Read as schema_file
use Rattle.tda_spine.specs.Judged as spine_file
use Rattle.tda_invar.specs.Facilities as facilities_file
use Rattle.tda_invar.specs.KindTable.{NumberTable}
use Rattle.tda_records.specs.Records as records_file
use Rattle.tda_out.specs.Counts.{Counts, count_at, counts_of}
use Rattle.tda_hist.specs.Agreement.{agree_due}
use Rattle.tda_hist.specs.TrueTable.{true_count}
use Rattle.tda_demo.specs.Demo.{Files}
use Rattle.tda_demo_laws.specs.Inputs.{AreAcceptable, AreTablesOf}

pub same_Ok : {A F : Type 0} (x y : A) (r : Result A F) → r ≡ Ok x → r ≡ Ok y → x ≡ y
same_Ok x y r p q = cc

-- the counts of records that are read agree with the facilities that are read
pub agree_read : (f : Files) (a : AreAcceptable f) (s : Schema) (sp : Spine) (facilities : NumberTable) (tables : Counts)
    → schema_file.read f.schema ≡ Ok s → spine_file.read s f.spine ≡ Ok sp → facilities_file.read s sp f.facilities ≡ Ok facilities → AreTablesOf s sp f.records tables
    → agree_due s sp facilities (count_at tables) ≡ Ok tt
agree_read f a s sp facilities tables schema_read spine_read facilities_read t =
    let es : a.schema ≡ s = same_Ok a.schema s (schema_file.read f.schema) a.schema_read schema_read in
    let esp : a.spine ≡ sp = same_Ok a.spine sp (spine_file.read s f.spine) (ap (λ x. spine_file.read x f.spine) (sym es) ∙ a.spine_read) spine_read in
    let ef : a.facilities ≡ facilities =
    same_Ok a.facilities facilities (facilities_file.read s sp f.facilities)
    (ap (λ x. facilities_file.read x sp f.facilities) (sym es) ∙ ap (λ x. facilities_file.read a.schema x f.facilities) (sym esp) ∙ a.facilities_read) facilities_read in
    let er : a.records ≡ t.records =
    same_Ok a.records t.records (records_file.read s sp f.records)
    (ap (λ x. records_file.read x sp f.records) (sym es) ∙ ap (λ x. records_file.read a.schema x f.records) (sym esp) ∙ a.records_read) t.records_read in
    ap (λ c. agree_due s sp facilities (count_at c)) t.are_true.counts
    ∙ ap (λ rs. agree_due s sp facilities (count_at (counts_of s sp (true_count sp rs)))) (sym er)
    ∙ ap (λ g. agree_due s sp g (count_at (counts_of s sp (true_count sp a.records)))) (sym ef)
    ∙ ap (λ x. agree_due s x a.facilities (count_at (counts_of s x (true_count x a.records)))) (sym esp)
    ∙ ap (λ x. agree_due x a.spine a.facilities (count_at (counts_of x a.spine (true_count a.spine a.records)))) (sym es)
    ∙ a.agree
