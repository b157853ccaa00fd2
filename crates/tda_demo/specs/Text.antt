-- The text of the demo's schema.
use Rattle.std.specs.Prelude.{codes, ℕ, List, [], ◌∷◌, ◌++◌}
use Rattle.std.specs.List.{flat_map}

-- the line of a level's queries, each a piece between braces
abbrev pub query_line : List ℕ → List ℕ → List ℕ
query_line first second = codes "query = [{ " ++ first ++ codes " }, { " ++ second ++ codes " }]"

abbrev pub by_kind : List ℕ
by_kind = codes "name = \"kind\", by = [\"kind\"], share = \"1/16\""

abbrev pub by_kind_and_age : List ℕ
by_kind_and_age = codes "name = \"kindage\", by = [\"kind\", \"age\"], share = \"1/16\""

abbrev pub of_all : List ℕ → List ℕ
of_all share = codes "name = \"total\", by = [], share = \"" ++ share ++ codes "\""

abbrev pub in_detail : List ℕ → List ℕ
in_detail share = codes "name = \"detail\", by = [\"kind\", \"sex\", \"age\"], share = \"" ++ share ++ codes "\""

abbrev pub attribute_lines : List ℕ → List ℕ → List (List ℕ)
attribute_lines name values = codes "[[attribute]]" ∷ name ∷ values ∷ [] ∷ []

abbrev pub level_lines : List ℕ → List ℕ → List (List ℕ)
level_lines name queries = [] ∷ codes "[[level]]" ∷ name ∷ queries ∷ []

abbrev pub schema_lines : List (List ℕ)
schema_lines =
    codes "version = 1" ∷ codes "total = \"1\"" ∷ [] ∷ []
    ++ attribute_lines (codes "name = \"kind\"") (codes "values = [\"house\", \"dorm\", \"prison\"]")
    ++ attribute_lines (codes "name = \"sex\"") (codes "values = [\"f\", \"m\"]")
    ++ attribute_lines (codes "name = \"age\"") (codes "values = [\"minor\", \"adult\"]")
    ++ codes "[[zero]]" ∷ codes "kind = [\"prison\"]" ∷ codes "age = [\"minor\"]" ∷ []
    ++ level_lines (codes "name = \"nation\"") (query_line by_kind (in_detail (codes "1/16")))
    ++ level_lines (codes "name = \"state\"") (query_line by_kind (in_detail (codes "1/16")))
    ++ level_lines (codes "name = \"county\"") (query_line (of_all (codes "1/16")) by_kind_and_age)
    ++ level_lines (codes "name = \"tract\"") (query_line (of_all (codes "1/8")) (in_detail (codes "1/8")))
    ++ level_lines (codes "name = \"block\"") (query_line (of_all (codes "1/8")) (in_detail (codes "1/4")))

-- each line and a line feed
unfoldable pub schema_text : List ℕ
schema_text = flat_map (λ line. line ++ 10 ∷ []) schema_lines
