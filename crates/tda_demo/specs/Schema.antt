-- The schema that the demo's text states.
use Rattle.std.specs.Prelude.{codes, ℕ, List, [], ◌∷◌}
use Rattle.tda_model.specs.Schema.{Attribute, Entry, Attribute_values, Level, Listed, Query, Schema}

-- a query of all cells, with a share of one part of so many
abbrev pub query : List ℕ → List Entry → ℕ → Query
query name by parts = record { name = name; by = by; only = []; share = record { num = 1; den = parts } }

-- by kind, sex and age
abbrev pub detail : ℕ → Query
detail parts =
    query (codes "detail") (Attribute_values 0 ∷ Attribute_values 1 ∷ Attribute_values 2 ∷ []) parts

abbrev pub by_kind : ℕ → Query
by_kind parts = query (codes "kind") (Attribute_values 0 ∷ []) parts

abbrev pub by_kind_and_age : ℕ → Query
by_kind_and_age parts = query (codes "kindage") (Attribute_values 0 ∷ Attribute_values 2 ∷ []) parts

abbrev pub of_all : ℕ → Query
of_all parts = query (codes "total") [] parts

abbrev pub level : List ℕ → Query → Query → Level
level name first second = record { name = name; queries = first ∷ second ∷ [] }

abbrev pub kinds : Attribute
kinds = record { name = codes "kind"; values = codes "house" ∷ codes "dorm" ∷ codes "prison" ∷ [] }

abbrev pub sexes : Attribute
sexes = record { name = codes "sex"; values = codes "f" ∷ codes "m" ∷ [] }

abbrev pub ages : Attribute
ages = record { name = codes "age"; values = codes "minor" ∷ codes "adult" ∷ [] }

-- nobody in a prison is a minor
abbrev pub no_minor_prisoners : List Listed
no_minor_prisoners = record { attribute = 2; values = 0 ∷ [] } ∷ record { attribute = 0; values = 2 ∷ [] } ∷ []

abbrev pub schema : Schema
schema = record {
  total = record { num = 1; den = 1 };
  attributes = kinds ∷ sexes ∷ ages ∷ [];
  recodes = [];
  zeros = no_minor_prisoners ∷ [];
  levels = level (codes "nation") (by_kind 16) (detail 16)
      ∷ level (codes "state") (by_kind 16) (detail 16)
      ∷ level (codes "county") (of_all 16) (by_kind_and_age 16)
      ∷ level (codes "tract") (of_all 8) (detail 8)
      ∷ level (codes "block") (of_all 8) (detail 4)
      ∷ [];
}
