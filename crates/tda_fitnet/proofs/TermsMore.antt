-- The terms of the first queries, one query more, and how many there are.
use Rattle.std.proofs.Common.{◌≡◌, ℕ, zero, suc, ◌+◌, ◌<◌, ◌≤◌, Bool, true, cond, List, [], ◌∷◌, ◌++◌, length, get_or, take, filter, Contains, sym, ap, ◌∙◌, subst, arith, inl, inr, length-append}
use Rattle.std.proofs.lemmas.Bool.{cases_Bool}
use Rattle.std.proofs.lemmas.List.{append-nil, append_assoc, length-map}
use Rattle.std.proofs.lemmas.List.Elements.{All-contains, All-from_recursion}
use Rattle.tda_model.specs.Commons.{common_of}
use Rattle.tda_model.specs.Schema.{Query, Level}
use Rattle.tda_model.specs.Release.{Inputs}
use Rattle.tda_model.proofs.Sums.{Ascends}
use Rattle.tda_sets.proofs.Members.{Contains-here, Contains-later}
use Rattle.std.specs.Str.{bytes_eq}
use Rattle.std.proofs.lemmas.Slice.Eq.{bytes_eq-Decides}
use Rattle.tda_model.specs.Groups.{class_cells, classes_of}
use Rattle.tda_model.specs.Deviation.{weight_of}
use Rattle.tda_flow.specs.declared.net.Term.{Term}
use Rattle.tda_groups.specs.Order.{group_at, first_cell}
use Rattle.tda_groups.specs.Tree.{Tree, IsTreeOf}
use Rattle.tda_fitnet.specs.Terms.{query_terms, terms_from}
use Rattle.tda_fitnet.proofs.FirstClass.{filter_none, named_first, classes_ascend}
use Rattle.tda_invar.specs.Known.{JoinedLists}

-- lists with nothing in them
pub no_lists : JoinedLists
no_lists = record { facilities = record { units = 0; kinds = 0; numbers = [] }; totals = []; lows = record { units = 0; kinds = 0; numbers = [] }; unit_totals = [] }

-- one query more
pub terms_more : (i : Inputs) (unit n : ℕ) (qs : List Query) (cells : List ℕ) (k : ℕ) (d : Query) → k < length qs
    → terms_from i unit n (take (k + 1) qs) cells ≡ terms_from i unit n (take k qs) cells ++ query_terms i unit (n + k) (get_or qs k d) cells
terms_more i unit n [] cells k d l = absurd (omega arith)
terms_more i unit n (q ∷ qs) cells zero d l =
    let e : zero + 1 ≡ suc zero = omega arith in
    let z : n + 0 ≡ n = omega arith in
    ap (λ m. terms_from i unit n (take m (q ∷ qs)) cells) e ∙ append-nil (query_terms i unit n q cells) ∙ ap (λ m. query_terms i unit m q cells) (sym z)
terms_more i unit n (q ∷ qs) cells (suc k) d l =
    let e : suc k + 1 ≡ suc (k + 1) = omega arith in
    let z : n + 1 + k ≡ n + suc k = omega arith in
    let first = query_terms i unit n q cells in
    ap (λ m. terms_from i unit n (take m (q ∷ qs)) cells) e
    ∙ ap (λ ts. first ++ ts) (terms_more i unit (n + 1) qs cells k d (omega arith) ∙ ap (λ m. terms_from i unit (n + 1) (take k qs) cells ++ query_terms i unit m (get_or qs k d) cells) z)
    ∙ sym (append_assoc first (terms_from i unit (n + 1) (take k qs) cells) (query_terms i unit (n + suc k) (get_or qs k d) cells))

-- where one element alone may pass, one at most does
pub filter_few : (p : ℕ → Bool) (xs : List ℕ) (c : ℕ) → Ascends xs → ((d : ℕ) → Contains xs d → p d ≡ true → d ≡ c) → length (filter p xs) ≤ 1
filter_few p [] c up only = omega arith
filter_few p (x ∷ xs) c up only = elim (cases_Bool (p x)) [
  | inl here ↦
      let none : filter p xs ≡ [] = filter_none p xs (λ d l here_d.
      let less = All-contains (λ y. x < y) xs d (All-from_recursion (λ y. x < y) xs up.0) l in
      let one = only x (Contains-here x xs) here in
      let other = only d (Contains-later x xs d l) here_d in omega arith) in
      subst (λ ys. length ys ≤ 1) (sym (ap (λ b. cond b (x ∷ filter p xs) (filter p xs)) here ∙ ap (λ ys. x ∷ ys) none)) (omega arith)
  | inr other ↦
      subst (λ ys. length ys ≤ 1) (sym (ap (λ b. cond b (x ∷ filter p xs) (filter p xs)) other)) (filter_few p xs c up.1 (λ d l here_d. only d (Contains-later x xs d l) here_d))
]

-- a query has one term at most
pub one_term : (i : Inputs) (l : Level) (t : Tree) → IsTreeOf i.schema l t → (g : ℕ) → g < length t.groups → (unit n : ℕ) (q : Query) → q.only ≡ []
    → length (query_terms i unit n q (group_at t.groups g)) ≤ 1
one_term i l t is g low unit n q over_all =
    let has : ℕ → Bool = λ c. bytes_eq (class_cells i.schema q c) (group_at t.groups g) in
    subst (λ m. m ≤ 1) (sym (length-map (filter has (classes_of i.schema q)) (λ c. record { weight = weight_of (common_of i.schema) q; target = i.measured unit n c })))
    (filter_few has (classes_of i.schema q) (first_cell (group_at t.groups g)) (classes_ascend i l t is g low unit n q over_all)
    (λ d found here. named_first i l t is g low unit n q over_all d found ((bytes_eq-Decides (class_cells i.schema q d) (group_at t.groups g)).0 here)))

pub few_more : (xs ys zs : List Term) (k : ℕ) → zs ≡ xs ++ ys → length xs ≤ k → length ys ≤ 1 → length zs ≤ k + 1
few_more xs ys zs k e h one = omega (arith, ap length e, length-append xs ys)
