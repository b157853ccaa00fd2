-- One more class in the row of a query, one more query, and what a row tells of a group's terms.
use Rattle.std.proofs.Common.{◌≡◌, ℕ, ◌+◌, ◌<◌, List, [], ◌∷◌, ◌++◌, length, get_or, set, Option, Some, None, MatchOption, sym, ap, ◌∙◌, subst, arith, inl, inr, get_or-set_other, get_or-set_same}
use Rattle.std.proofs.lemmas.Bool.{cases_eq}
use Rattle.std.proofs.lemmas.List.{length-set}
use Rattle.std.proofs.Math.ListN.{get_or-append}
use Rattle.std.proofs.Math.Seq.{get_or-append_seam}
use Rattle.tda_model.specs.Schema.{Schema}
use Rattle.tda_groups.specs.Order.{AreGroups, group_at}
use Rattle.tda_groups.proofs.Chained.{same_group}
use Rattle.tda_places.specs.Spots.{before_query, class_count}
use Rattle.tda_fitnet.specs.TermTable.{ranked_cells, HasNoClass, IsClassPlace, IsRowOf, AreRowsOf}

module _ (s : Schema) (level : ℕ) (groups : List (List ℕ)) (are : AreGroups groups) (query : ℕ) where
  -- one class more at a group that isn't its own
  other : (n m g : ℕ) → m < length groups → g < length groups → group_at groups m ≡ ranked_cells s level query n → (m ≡ g → ⊥) → (o : Option ℕ)
      → MatchOption o (HasNoClass s level query n (group_at groups g)) (IsClassPlace s level query n (group_at groups g))
      → MatchOption o (HasNoClass s level query (n + 1) (group_at groups g)) (IsClassPlace s level query (n + 1) (group_at groups g))
  other n m g lm lg is ne None none = λ rank below e. elim (cases_eq rank n) [
    | inl last ↦ ne (same_group groups are m g lm lg (is ∙ ap (ranked_cells s level query) (sym last) ∙ e))
    | inr earlier ↦ none rank (omega arith) e
  ]
  other n m g lm lg is ne (Some place) at = record { rank = at.rank; below = omega (arith, at.below); same = at.same; at = at.at }

  pub class_more : (n m place : ℕ) (row : List (Option ℕ)) → m < length groups → group_at groups m ≡ ranked_cells s level query n → place ≡ before_query s level query + n
      → IsRowOf s level groups query n row → IsRowOf s level groups query (n + 1) (set row m (Some place))
  class_more n m place row lm is at is_row = record {
    size = length-set row m (Some place) ∙ is_row.size;
    each = λ g lg. elim (cases_eq g m) [
      | inl e ↦ subst (λ o. MatchOption o (HasNoClass s level query (n + 1) (group_at groups g)) (IsClassPlace s level query (n + 1) (group_at groups g)))
          (sym (ap (λ k. get_or (set row m (Some place)) k None) e ∙ get_or-set_same row m (Some place) None (omega (arith, is_row.size))))
          (record { rank = n; below = omega arith; same = sym is ∙ ap (group_at groups) (sym e); at = at })
      | inr ne ↦ subst (λ o. MatchOption o (HasNoClass s level query (n + 1) (group_at groups g)) (IsClassPlace s level query (n + 1) (group_at groups g)))
          (sym (get_or-set_other row m g (Some place) None ne))
          (other n m g lm lg is (λ e. ne (sym e)) (get_or row g None) (is_row.each g lg))
    ];
  }

-- one query more
pub rows_grow : (s : Schema) (level : ℕ) (groups : List (List ℕ)) (k : ℕ) (weights more : List ℕ) (rows : List (List (Option ℕ))) (row : List (Option ℕ)) → length rows ≡ k
    → AreRowsOf s level groups k (record { weights = weights; places = rows }) → IsRowOf s level groups k (class_count s level k) row
    → AreRowsOf s level groups (k + 1) (record { weights = more; places = rows ++ row ∷ [] })
rows_grow s level groups k weights more rows row count so_far last query low = elim (cases_eq query k) [
  | inl e ↦ subst (λ q. IsRowOf s level groups q (class_count s level q) (get_or (rows ++ row ∷ []) q [])) (sym e)
      (subst (IsRowOf s level groups k (class_count s level k)) (sym (ap (λ n. get_or (rows ++ row ∷ []) n []) (sym count) ∙ get_or-append_seam rows row [] [])) last)
  | inr ne ↦ subst (IsRowOf s level groups query (class_count s level query)) (sym (get_or-append rows (row ∷ []) [] query (omega (arith, ne, low, count)))) (so_far query (omega (arith, ne, low)))
]
