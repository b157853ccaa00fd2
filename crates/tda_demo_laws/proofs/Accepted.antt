-- The demo's files are accepted, are short, and agree.
use Rattle.std.proofs.Common.{◌≡◌, ℕ, ◌≤◌, ◌^◌, length, Ok, refl, sym, ap, subst, ◌∙◌, arith}
use Rattle.tda_spine.specs.Judged as spine_file
use Rattle.tda_invar.specs.Facilities as facilities_file
use Rattle.tda_records.specs.Records as records_file
use Rattle.tda_demo.specs.Demo.{spine, spine_text, facilities_text}
use Rattle.tda_demo.specs.DemoSpine as regular
use Rattle.tda_demo.specs.Persons.{word}
use Rattle.tda_demo.specs.Schema.{schema}
use Rattle.tda_demo.specs.Text.{schema_text}
use Rattle.tda_demo_laws.specs.DemoEntries as entries
use Rattle.tda_demo_laws.specs.FacilitiesText.{entry_rows}
use Rattle.tda_demo_laws.specs.Laws.{AreAccepted, AreShort, IsSized, facility_table, records}
use Rattle.tda_out.specs.Counts.{count_at, counts_of}
use Rattle.tda_hist.specs.Agreement.{agree_due}
use Rattle.tda_hist.specs.TrueTable.{true_count}
use Rattle.tda_demo_laws.proofs.DemoAgrees as agreeing
use Rattle.tda_demo_laws.proofs.DemoFacilities as places
use Rattle.tda_demo_laws.proofs.DemoFacilities.{kind_names}
use Rattle.tda_demo_laws.proofs.DemoRecords as persons
use Rattle.tda_demo_laws.proofs.DemoTexts.{facilities_text_is, records_text_is}
use Rattle.tda_demo_laws.proofs.Document as document
use Rattle.tda_demo_laws.proofs.FacilitiesBack.{number_is}
use Rattle.tda_demo_laws.proofs.Lengths as lengths
use Rattle.tda_demo_laws.proofs.SpineAccepted as spines
use Rattle.tda_demo_laws.proofs.SpineLength.{spine_short}

schema_short : length schema_text ≤ 2 ^ 28
unfolding schema_text
schema_short = omega arith

module _ (number size : ℕ) (some : 1 ≤ size) (few : size ≤ 64) where
  pub is_sized : IsSized size
  unfolding spine
  is_sized = record { sound = spines.sound size some few; depth = refl; units = spines.unit_count size some few }

  spine_accepted : spine_file.read schema (spine_text size) ≡ Ok (spine size)
  unfolding spine spine_text
  spine_accepted = spines.spine_accepted size some few

  facilities_accepted : facilities_file.read schema (regular.spine size) (facilities_text size)
      ≡ Ok (facilities_file.facilities_of schema (regular.spine size) (entry_rows schema (regular.spine size) (entries.facilities (regular.spine size))))
  facilities_accepted =
      ap (facilities_file.read schema (regular.spine size)) (sym (facilities_text_is size)) ∙ places.facilities_accepted (regular.spine size) (spines.sound size some few)

  pub are_accepted : AreAccepted number size
  unfolding spine
  are_accepted = record {
    schema_read = document.accepted;
    spine_read = spine_accepted;
    facilities_read = facilities_accepted;
    numbers = number_is schema (regular.spine size) (spines.sound size some few) kind_names (entries.facilities (regular.spine size)) (places.are_entries (regular.spine size));
    records_read = ap (records_file.read schema (regular.spine size)) (sym (records_text_is number size)) ∙ persons.records_accepted (regular.spine size) (word number) (spines.sound size some few);
    records_are = lengths.are_few_records (regular.spine size) (spines.sound size some few) (spines.many size some few) (word number);
    agree = agreeing.demo_agrees (regular.spine size) (spines.sound size some few) (word number);
  }

  pub agree : agree_due schema (spine size) (facility_table size) (count_at (counts_of schema (spine size) (true_count (spine size) (records number size)))) ≡ Ok tt
  unfolding spine
  agree = agreeing.counts_agree (regular.spine size) (spines.sound size some few) (word number)

  spine_is_short : length (spine_text size) ≤ 2 ^ 28
  unfolding spine_text
  spine_is_short = spine_short schema (regular.spine size) (spines.sound size some few) spines.level_texts (spines.sound size some few).few

  pub are_short : AreShort number size
  are_short = record {
    schema = schema_short;
    spine = spine_is_short;
    facilities = subst (λ t. length t ≤ 2 ^ 28) (facilities_text_is size) (lengths.facilities_short (regular.spine size) (spines.sound size some few) (spines.many size some few));
    records = subst (λ t. length t ≤ 2 ^ 28) (records_text_is number size) (lengths.records_short (regular.spine size) (spines.sound size some few) (spines.many size some few) (word number));
  }
