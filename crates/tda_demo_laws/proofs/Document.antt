-- The text of the schema is accepted, and states the schema: computed in steps, each over the value that the step before gave.
use Rattle.std.proofs.Common.{◌≡◌, [], ◌∷◌, Some, Ok, codes, pos, refl, arith}
use Rattle.std.specs.Prelude.{true, nat_le}
use Rattle.std.specs.List.{list_all}
use Rattle.std.specs.Fmt.{digits}
use Rattle.tda_schema.specs.Shares.{has_denominators, is_within_total, sum_after, queries_of}
use Rattle.tda_schema.proofs.LowestTerms.{SameNumber-lowest}
use Rattle.std.proofs.lemmas.Bool.{le-leb}
use Rattle.tda_demo_laws.proofs.SchemaSteps.{read_by_steps, whole_by_steps, text_of_ascii}
use Rattle.tda_schema.specs.Parts.{is_nested, has_kinds}
use Rattle.toml.specs.Data.{array, integer, item, member, no_items, no_members, string, table, Members}
use Rattle.toml.specs.Parse.{parse_document}
use Rattle.toml.proofs.OnLiterals.{toml_on_literals}
use Rattle.tda_document.specs.Raw.{RawSchema}
use Rattle.tda_schema.specs.Read.{looked_up, raw_of, read}
use Rattle.tda_schema.specs.Lowest.{gcd, lcm, lowest, written_in}
use Rattle.tda_demo.specs.Schema.{schema}
use Rattle.tda_demo.specs.Text.{schema_text}

abbrev document : Members
document = member (codes "attribute") (array (item (table (member (codes "name") (string (codes "kind")) (member (codes "values") (array (item (string (codes "house")) (item (string (codes "dorm")) (item (string (codes "prison")) (no_items))))) (no_members)))) (item (table (member (codes "name") (string (codes "sex")) (member (codes "values") (array (item (string (codes "f")) (item (string (codes "m")) (no_items)))) (no_members)))) (item (table (member (codes "name") (string (codes "age")) (member (codes "values") (array (item (string (codes "minor")) (item (string (codes "adult")) (no_items)))) (no_members)))) (no_items))))) (member (codes "level") (array (item (table (member (codes "name") (string (codes "nation")) (member (codes "query") (array (item (table (member (codes "by") (array (item (string (codes "kind")) (no_items))) (member (codes "name") (string (codes "kind")) (member (codes "share") (string (codes "1/16")) (no_members))))) (item (table (member (codes "by") (array (item (string (codes "kind")) (item (string (codes "sex")) (item (string (codes "age")) (no_items))))) (member (codes "name") (string (codes "detail")) (member (codes "share") (string (codes "1/16")) (no_members))))) (no_items)))) (no_members)))) (item (table (member (codes "name") (string (codes "state")) (member (codes "query") (array (item (table (member (codes "by") (array (item (string (codes "kind")) (no_items))) (member (codes "name") (string (codes "kind")) (member (codes "share") (string (codes "1/16")) (no_members))))) (item (table (member (codes "by") (array (item (string (codes "kind")) (item (string (codes "sex")) (item (string (codes "age")) (no_items))))) (member (codes "name") (string (codes "detail")) (member (codes "share") (string (codes "1/16")) (no_members))))) (no_items)))) (no_members)))) (item (table (member (codes "name") (string (codes "county")) (member (codes "query") (array (item (table (member (codes "by") (array (no_items)) (member (codes "name") (string (codes "total")) (member (codes "share") (string (codes "1/16")) (no_members))))) (item (table (member (codes "by") (array (item (string (codes "kind")) (item (string (codes "age")) (no_items)))) (member (codes "name") (string (codes "kindage")) (member (codes "share") (string (codes "1/16")) (no_members))))) (no_items)))) (no_members)))) (item (table (member (codes "name") (string (codes "tract")) (member (codes "query") (array (item (table (member (codes "by") (array (no_items)) (member (codes "name") (string (codes "total")) (member (codes "share") (string (codes "1/8")) (no_members))))) (item (table (member (codes "by") (array (item (string (codes "kind")) (item (string (codes "sex")) (item (string (codes "age")) (no_items))))) (member (codes "name") (string (codes "detail")) (member (codes "share") (string (codes "1/8")) (no_members))))) (no_items)))) (no_members)))) (item (table (member (codes "name") (string (codes "block")) (member (codes "query") (array (item (table (member (codes "by") (array (no_items)) (member (codes "name") (string (codes "total")) (member (codes "share") (string (codes "1/8")) (no_members))))) (item (table (member (codes "by") (array (item (string (codes "kind")) (item (string (codes "sex")) (item (string (codes "age")) (no_items))))) (member (codes "name") (string (codes "detail")) (member (codes "share") (string (codes "1/4")) (no_members))))) (no_items)))) (no_members)))) (no_items))))))) (member (codes "total") (string (codes "1")) (member (codes "version") (integer (pos 1)) (member (codes "zero") (array (item (table (member (codes "age") (array (item (string (codes "minor")) (no_items))) (member (codes "kind") (array (item (string (codes "prison")) (no_items))) (no_members)))) (no_items))) (no_members)))))

abbrev raw : RawSchema
raw = record {
  total = codes "1";
  attributes = record { name = codes "kind"; values = codes "house" ∷ codes "dorm" ∷ codes "prison" ∷ [] } ∷ record { name = codes "sex"; values = codes "f" ∷ codes "m" ∷ [] } ∷ record { name = codes "age"; values = codes "minor" ∷ codes "adult" ∷ [] } ∷ [];
  recodes = [];
  zeros = (record { name = codes "age"; values = codes "minor" ∷ [] } ∷ record { name = codes "kind"; values = codes "prison" ∷ [] } ∷ []) ∷ [];
  levels = record { name = codes "nation"; queries = record { name = codes "kind"; by = codes "kind" ∷ []; share = codes "1/16" } ∷ record { name = codes "detail"; by = codes "kind" ∷ codes "sex" ∷ codes "age" ∷ []; share = codes "1/16" } ∷ [] } ∷ record { name = codes "state"; queries = record { name = codes "kind"; by = codes "kind" ∷ []; share = codes "1/16" } ∷ record { name = codes "detail"; by = codes "kind" ∷ codes "sex" ∷ codes "age" ∷ []; share = codes "1/16" } ∷ [] } ∷ record { name = codes "county"; queries = record { name = codes "total"; by = []; share = codes "1/16" } ∷ record { name = codes "kindage"; by = codes "kind" ∷ codes "age" ∷ []; share = codes "1/16" } ∷ [] } ∷ record { name = codes "tract"; queries = record { name = codes "total"; by = []; share = codes "1/8" } ∷ record { name = codes "detail"; by = codes "kind" ∷ codes "sex" ∷ codes "age" ∷ []; share = codes "1/8" } ∷ [] } ∷ record { name = codes "block"; queries = record { name = codes "total"; by = []; share = codes "1/8" } ∷ record { name = codes "detail"; by = codes "kind" ∷ codes "sex" ∷ codes "age" ∷ []; share = codes "1/4" } ∷ [] } ∷ [];
}

document_is : parse_document schema_text ≡ Some document
unfolding toml_on_literals schema_text
document_is = refl

raw_is : raw_of document ≡ Ok raw
raw_is = refl

looked_is : looked_up raw ≡ Ok schema
unfolding gcd lcm lowest written_in digits
looked_is = refl

-- the schema as a whole
denominators_are : has_denominators schema ≡ true
unfolding lcm
denominators_are = refl

nested_is : is_nested schema ≡ true
nested_is = refl

kinds_are : has_kinds schema ≡ true
kinds_are = refl

-- The sum is 1, over the product of the denominators. Its lowest terms are not computed: they are the same number.
within_is : is_within_total schema ≡ true
within_is =
    let same = SameNumber-lowest (sum_after (record { num = 0; den = 1 }) (queries_of schema)) in
    le-leb _ _ (omega (arith, same))

-- ---- the text is accepted
ascii : list_all (λ b. nat_le b 127) schema_text ≡ true
unfolding schema_text
ascii = refl

pub accepted : read schema_text ≡ Ok schema
accepted =
    read_by_steps schema_text document raw schema (text_of_ascii schema_text ascii) document_is raw_is looked_is
    (whole_by_steps schema denominators_are within_is nested_is kinds_are)
