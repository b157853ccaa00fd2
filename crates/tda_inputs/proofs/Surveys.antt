-- The files of `measure`, one after the other.
use Rattle.std.proofs.Common.{◌≡◌, refl, arith, List, ℕ, Option, Some, None, ap, option_map, Result, Ok, Err, codes}
use Rattle.std.specs.Result.{IsErrAnd}
use Rattle.tda_io.specs.Due.{◌>>=◌}
use Rattle.tda_io.specs.Outside.{Shelf, asks}
use Rattle.tda_records.specs.Records as records
use Rattle.tda_records.specs.declared.records.Record.{Record}
use Rattle.tda_out.specs.Counts.{Counts, count_at}
use Rattle.tda_hist.specs.TrueTable.{true_count}
use Rattle.tda_hist.specs.Agreement.{agree_due}
use Rattle.tda_spine.specs.Judged.{IsWithinLimits}
use Rattle.tda_invar.specs.Facilities.{IsTableOf}
use Rattle.tda_hist.specs.declared.fault.HistFault.{HistFault}
use Rattle.tda_inputs.specs.Survey.{Survey, noise_from}
use Rattle.tda_command.specs.Words.{source_of}
use Rattle.tda_inputs.specs.Ending.{Ending, judged_file}
use Rattle.tda_inputs.specs.Accepted.{Given, base_from, records_from, survey_from}
use Rattle.tda_refusal.specs.Refusal.{records_text, hist_text}
use Rattle.tda_inputs.specs.Files.{IsRead}
use Rattle.tda_inputs.specs.Reading.{path_of, GivesBy, GivesFile, GivesTables, GivesNoise, Judges, AreTrueCounts, AreEnough, AsksFile, Gathers, AsksFiles, noise_words, source_path, IsCounted, ReadsSurvey, Surveys}
use Rattle.tda_inputs.specs.declared.base.Base.{Base}
use Rattle.tda_inputs.specs.declared.counted.Counted.{Counted}
use Rattle.tda_inputs.specs.declared.noise.Noise.{Noise}
use Rattle.tda_command.specs.declared.words.Source.{Source}
use Rattle.tda_command.specs.declared.words.Source.TheVariants as source
use Rattle.tda_inputs.specs.declared.reading.File.TheVariants as file
use Rattle.tda_inputs.specs.declared.reading.Stop.{Stop}
use Rattle.tda_inputs.specs.declared.reading.Stop.TheVariants as stop
use Rattle.tda_inputs.proofs.Asked.{file_within}
use Rattle.tda_inputs.proofs.Stops.{From, HasRead, read_on, halted, part_read, asks_stopped, asks_file_stopped}
use Rattle.tda_inputs.proofs.Beside.{and_beside, accepted_beside, refused_beside}
use Rattle.tda_inputs.proofs.Agreed.{same_due}

-- ---- the records, beside the facilities too

module _ (words : List (List ℕ)) (b : Base) where
  -- how the file itself is judged, and then beside the facilities
  abbrev records_file : From (List Record)
  records_file held = judged_file (codes "records") records_text (records.read b.schema b.spine) held

  abbrev agrees : List Record → Result (Unit {0}) HistFault
  agrees r = agree_due b.schema b.spine b.facilities (true_count b.spine r)

  module _ (shelf : Option Shelf) (rs : List Record) (counts : Counts) (are : AreTrueCounts b.schema b.spine rs counts)
      (gives : GivesFile words file.Records records_text (records.read b.schema b.spine) shelf (Ok rs)) where
    -- what the counts agree with the records do
    by_table : (X : Type 0) (r : Result X Stop) → Judges file.Records (hist_text b.schema b.spine) (agree_due b.schema b.spine b.facilities (count_at counts)) r
        → Judges file.Records (hist_text b.schema b.spine) (agrees rs) r
    by_table X r judges = rw (same_due b.schema b.spine (true_count b.spine rs) counts are.counts_are b.facilities) at judges

    pub tables_given : (u : Unit {0}) → Judges file.Records (hist_text b.schema b.spine) (agree_due b.schema b.spine b.facilities (count_at counts)) (Ok u) → GivesTables words b shelf (Ok counts)
    tables_given u judges = (rs, are, accepted_beside words file.Records records_file (hist_text b.schema b.spine) agrees shelf rs u gives (by_table (Unit {0}) (Ok u) judges))

    pub tables_disagree : (e : Stop) (r : Result Counts Stop) → IsErrAnd r (λ x. x ≡ e)
        → Judges {X = Unit {0}} file.Records (hist_text b.schema b.spine) (agree_due b.schema b.spine b.facilities (count_at counts)) (Err e) → GivesTables words b shelf r
    tables_disagree e (Ok cs) same judges = absurd same
    tables_disagree e (Err x) same judges =
        let judged : Judges {X = Unit {0}} file.Records (hist_text b.schema b.spine) (agrees rs) (Err e) = by_table (Unit {0}) (Err e) judges in
        rw same (refused_beside words file.Records records_file (hist_text b.schema b.spine) agrees (Unit {0}) shelf rs e gives judged)

  -- records that aren't read
  unread : (shelf : Option Shelf) (e : Stop) → GivesFile {A = List Record} words file.Records records_text (records.read b.schema b.spine) shelf (Err e) → GivesBy {A = List Record} words file.Records (records_from b) shelf (Err e)
  unread shelf stop.NoMemory gives = tt
  unread shelf (stop.Read g) gives = gives
  unread None (stop.Refused r) gives = (gives.0, gives.1, tt)
  unread (Some h) (stop.Refused r) gives = (gives.0, gives.1, ap (λ o. o >>= and_beside words file.Records records_file (hist_text b.schema b.spine) agrees) gives.2)

  pub tables_unread : (shelf : Option Shelf) (e : Stop) (r : Result Counts Stop) → IsErrAnd r (λ x. x ≡ e)
      → GivesFile {A = List Record} words file.Records records_text (records.read b.schema b.spine) shelf (Err e) → GivesTables words b shelf r
  tables_unread shelf e (Ok cs) same gives = absurd same
  tables_unread shelf e (Err x) same gives = rw same (unread shelf e gives)

-- ---- all files

abbrev pub survey_with : Base → List Record → List ℕ → Survey
survey_with b r w = record { schema = b.schema; spine = b.spine; facilities = b.facilities; records = r; words = w }

abbrev pub with_words : Base → List Record → List ℕ → Given → Result Survey Ending
with_words b r w given = Ok (survey_with b r w)

module _ (words : List (List ℕ)) where
  abbrev pub after_records : Base → List Record → Given → Result Survey Ending
  after_records b r given = noise_from words (source_of words) (given 4) >>= (λ w. with_words b r w given)

  abbrev pub after_base : Base → Given → Result Survey Ending
  after_base b given = records_from b (given 3) >>= (λ r. after_records b r given)

  -- an answer that is this stop
  same_survey : (old new : Option Shelf) (e : Stop) (r : Result Counted Stop) → IsErrAnd r (λ x. x ≡ e)
      → Gathers words 5 (survey_from words) old (Err e) × AsksFiles {X = Survey} words 5 old new (Err e) → Surveys words old r × AsksFiles {X = Counted} words 5 old new r
  same_survey old new e (Ok c) same h = absurd same
  same_survey old new e (Err x) same h = rw same (h.0, asks_stopped Survey Counted words 5 5 old new e h.1)

  module _ (reads : ReadsSurvey words) (old mid : Option Shelf) (b : Base) (gathers : Gathers words 3 base_from old (Ok b)) (asked : AsksFiles {X = Base} words 3 old mid (Ok b)) where
    base_read : HasRead words (survey_from words) old mid 3 (after_base b)
    base_read = part_read words base_from after_base 3 old mid b (let l = file_within words file.Records reads.records in omega arith) gathers asked

    pub tables_halt : (new : Option Shelf) (e : Stop) (r : Result Counted Stop) → IsErrAnd r (λ x. x ≡ e) → GivesTables words b mid (Err e) → AsksFile {T = Counts} words file.Records mid new (Err e)
        → Surveys words old r × AsksFiles {X = Counted} words 5 old new r
    tables_halt new e r same gives asks_it =
        let asks_records = asks_file_stopped Counts (List Record) words file.Records mid new e asks_it in
        same_survey old new e r same (halted words (survey_from words) file.Records (records_from b) (after_records b) 5 old mid new e refl reads.records base_read gives asks_records)

    module _ (next : Option Shelf) (counts : Counts) (gives : GivesTables words b mid (Ok counts)) (asks_it : next ≡ option_map (asks (path_of words file.Records)) mid) where
      abbrev listed : List Record
      listed = gives.0

      tables_read : HasRead words (survey_from words) old next 4 (after_records b listed)
      tables_read = read_on words (survey_from words) file.Records (records_from b) (after_records b) old mid next listed reads.records base_read gives.2 asks_it

      -- the words come last
      words_halt : (new : Option Shelf) (e : Stop) (from : Source) → IsRead words (source_path from)
          → HasRead words (survey_from words) old next 4 (λ given. noise_from words from (given 4) >>= (λ w. with_words b listed w given))
          → GivesBy {A = List ℕ} words (source_path from) (noise_from words from) next (Err e) → AsksFile {T = List ℕ} words (source_path from) next new (Err e)
          → Gathers words 5 (survey_from words) old (Err e) × AsksFiles {X = Survey} words 5 old new (Err e)
      words_halt new e source.Words reads before gives_it asks_words = halted words (survey_from words) file.Words (noise_from words source.Words) (with_words b listed) 5 old next new e refl reads before gives_it asks_words
      words_halt new e source.Seed reads before gives_it asks_words = halted words (survey_from words) file.Seed (noise_from words source.Seed) (with_words b listed) 5 old next new e refl reads before gives_it asks_words

      words_read : (new : Option Shelf) (w : List ℕ) (from : Source) → IsRead words (source_path from)
          → HasRead words (survey_from words) old next 4 (λ given. noise_from words from (given 4) >>= (λ v. with_words b listed v given))
          → GivesBy words (source_path from) (noise_from words from) next (Ok w) → new ≡ option_map (asks (path_of words (source_path from))) next
          → HasRead words (survey_from words) old new 5 (with_words b listed w)
      words_read new w source.Words reads before gives_it asks_words = read_on words (survey_from words) file.Words (noise_from words source.Words) (with_words b listed) old next new w reads before gives_it asks_words
      words_read new w source.Seed reads before gives_it asks_words = read_on words (survey_from words) file.Seed (noise_from words source.Seed) (with_words b listed) old next new w reads before gives_it asks_words

      pub noise_halts : (new : Option Shelf) (e : Stop) (r : Result Counted Stop) → IsErrAnd r (λ x. x ≡ e) → GivesNoise words (source_path (source_of words)) (noise_from words (source_of words)) next (Err e)
          → AsksFile {T = Noise} words (source_path (source_of words)) next new (Err e) → Surveys words old r × AsksFiles {X = Counted} words 5 old new r
      noise_halts new e r same gives_it asks_noise =
          let asks_words = asks_file_stopped Noise (List ℕ) words (source_path (source_of words)) next new e asks_noise in
          same_survey old new e r same (words_halt new e (source_of words) reads.source tables_read gives_it asks_words)

      pub all_read : (new : Option Shelf) (n : Noise) → IsWithinLimits b.schema b.spine → IsTableOf b.schema b.spine b.facilities → AreEnough b.schema b.spine b.facilities counts → GivesNoise words (source_path (source_of words)) (noise_from words (source_of words)) next (Ok n)
          → new ≡ option_map (asks (path_of words (source_path (source_of words)))) next
          → (let c : Counted = record { schema = b.schema; spine = b.spine; facilities = b.facilities; tables = counts; noise = n } in Surveys words old (Ok c) × AsksFiles {X = Counted} words 5 old new (Ok c))
      all_read new n limits table enough gives_it asks_noise =
          let all = words_read new (noise_words n) (source_of words) reads.source tables_read gives_it.1 asks_noise in
          let counted : IsCounted (survey_with b listed (noise_words n)) (record { schema = b.schema; spine = b.spine; facilities = b.facilities; tables = counts; noise = n }) =
          record { schema = refl; spine = refl; facilities = refl; limits = limits; table = table; enough = enough; tables = gives.1; noise = gives_it.0; words = refl } in
          ((survey_with b listed (noise_words n), counted, all.come), all.asked.asked)
