-- A unit's table as its children are given it, and the circulation that stands for it.
use Rattle.std.proofs.Common.{◌≡◌, ℕ, zero, ◌+◌, ◌-◌, ◌*◌, ◌<◌, ◌≤◌, List, length, slice_index, refl, sym, ap, ◌∙◌, subst, inl, inr, arith}
use Rattle.std.specs.List.{sum_by, range_with_len}
use Rattle.std.proofs.lemmas.Bool.{cases_lt}
use Rattle.std.specs.Prelude.{replicate}
use Rattle.std.proofs.lemmas.List.{length-replicate, get_or-replicate}
use Rattle.tda_fitnet.specs.declared.layout.Layout.{Layout}
use Rattle.tda_model.specs.Schema.{Schema}
use Rattle.tda_model.specs.Cells.{kind_of, possible_cells}
use Rattle.tda_model.specs.Groups.{kind_count}
use Rattle.tda_model.specs.Spine.{Spine, level_of, nation_of, children_of, IsUnit, IsTree}
use Rattle.tda_model.specs.Tables.{Published, kind_sum, persons_in}
use Rattle.tda_model.specs.Bounds.{persons_limit, MostHolds, HasKinds}
use Rattle.tda_model.specs.Release.{Inputs}
use Rattle.tda_model.proofs.Sums.{sum_by_index}
use Rattle.tda_schema.specs.Stated.{level_at}
use Rattle.tda_flow.specs.Network.{IsSound}
use Rattle.tda_flow.specs.Flow.{IsCirculation}
use Rattle.tda_groups.specs.Tree.{Tree, IsTreeOf}
use Rattle.tda_fitnet.specs.Layout.{arc_number, give_place, group_place, group_node}
use Rattle.tda_fitnet.specs.Arcs.{cell_at, split_layout, split_network}
use Rattle.tda_fitnet.specs.FitNetwork.{FitNetwork, net_at, split_fit}
use Rattle.tda_fitnet.specs.GroupFlows.{first_give, first_group, first_node, coming, IsGrouped}
use Rattle.tda_fitnet.specs.Giving.{kind_part, AreGiven, AreQuotas, IsTableGiven}
use Rattle.tda_fitnet.proofs.Ranges.{below, below_same, place_below}
use Rattle.tda_fitnet.proofs.Places.{split_place}
use Rattle.tda_fitnet.proofs.Passing.{term_le}
use Rattle.tda_fitnet.proofs.GivenOut.{part_same}
use Rattle.tda_fitnet.proofs.UnitsGiven.{nobody_left}
use Rattle.tda_fitnet.proofs.UnitFacts.{counts_few}
use Rattle.tda_fitnet.proofs.GroupBounds.{Vanishes, possible_persons}
use Rattle.tda_fitnet.proofs.SplitGiven.{kind_cells_part, split_grouped, given_circulates}

pub zeros_length : (n : ℕ) → length (replicate n zero) ≡ n
zeros_length n = length-replicate n zero

-- where the counts of the possible cells stand first, they have the table's persons
module _ (s : Schema) (cells : List ℕ) (e : cells ≡ possible_cells s) (table flow : List ℕ) (none : Vanishes s (slice_index table))
    (are : (r : ℕ) → r < length cells → slice_index flow r ≡ slice_index table (slice_index cells r)) where
  pub table_parts : (k : ℕ) → kind_part (λ r. kind_of s (slice_index cells r)) k (slice_index flow) (length cells) ≡ kind_sum s k (slice_index table)
  table_parts k =
      part_same (λ r. kind_of s (slice_index cells r)) k (slice_index flow) (λ r. slice_index table (slice_index cells r)) (length cells) are
      ∙ ap (λ cs. kind_part (λ r. kind_of s (slice_index cs r)) k (λ r. slice_index table (slice_index cs r)) (length cs)) e
      ∙ kind_cells_part s (slice_index table) k none

  pub table_persons : sum_by (slice_index flow) (range_with_len 0 (length cells)) ≡ persons_in s (slice_index table)
  table_persons =
      below_same (length cells) (slice_index flow) (λ r. slice_index table (slice_index cells r)) are
      ∙ ap (λ cs. below (length cs) (λ r. slice_index table (slice_index cs r))) e
      ∙ sym (sum_by_index (slice_index table) (possible_cells s) 0)
      ∙ possible_persons s (slice_index table) none

-- all is given out
pub table_given : (s : Schema) (sp : Spine) (known : Published) (p : ℕ) (cells : List ℕ) (first : ℕ) (table old flow1 flow2 : List ℕ) (quota : ℕ → ℕ → ℕ)
    → length cells ≤ first → ((r : ℕ) → r < length cells → kind_of s (slice_index cells r) < kind_count s)
    → length flow1 ≡ length old
    → ((r : ℕ) → r < length cells → slice_index flow1 r ≡ slice_index table (slice_index cells r))
    → ((r : ℕ) → length cells ≤ r → slice_index flow1 r ≡ slice_index old r)
    → AreQuotas s sp known p quota
    → ((k : ℕ) → k < kind_count s → below (length (children_of sp p)) (λ u. quota u k) ≡ kind_part (λ r. kind_of s (slice_index cells r)) k (slice_index flow1) (length cells))
    → AreGiven (λ r. kind_of s (slice_index cells r)) (length cells) (kind_count s) first quota flow1 (length (children_of sp p)) flow2
    → IsTableGiven s sp known p cells first table old flow2
table_given s sp known p cells first table old flow1 flow2 quota apart kinds count are others quotas all given = record {
  quota = quota;
  quotas = quotas;
  count = given.count ∙ count;
  sums = λ r l. nobody_left (λ r. kind_of s (slice_index cells r)) (length cells) (kind_count s) first apart quota flow1 (length (children_of sp p)) flow2 given kinds all r l ∙ are r l;
  own = given.own;
  others = λ j l. given.others j l ∙ others j (omega arith);
}

-- a flow of a split in which the children have the table, and each group what comes to it
pub record IsBegun (s : Schema) (children : ℕ) (f : FitNetwork) (table : List ℕ) (quota : ℕ → ℕ → ℕ) (flow : List ℕ) : Type 0 where
  pub count : length flow ≡ arc_number f.layout
  pub sources : (r : ℕ) → r < length f.cells → slice_index flow r ≡ slice_index table (slice_index f.cells r)
  pub sums : (r : ℕ) → r < length f.cells
      → sum_by (λ u. slice_index flow (f.layout.sources + (u * length f.cells + r))) (range_with_len 0 children) ≡ slice_index table (slice_index f.cells r)
  pub own : (u k : ℕ) → u < children → k < kind_count s
      → kind_part (λ r. kind_of s (slice_index f.cells r)) k (λ r. slice_index flow (f.layout.sources + (u * length f.cells + r))) (length f.cells) ≡ quota u k
  pub groups : (k : ℕ) → first_group f.layout ≤ k → k < arc_number f.layout
      → slice_index flow k ≡ coming (net_at f) flow (first_node f.layout + (k - first_group f.layout))

module _ (i : Inputs) (tree : IsTree i.spine (nation_of i.spine)) (has : HasKinds i.schema) (most : MostHolds i.known)
    (p : ℕ) (here : IsUnit i.spine p) (t : Tree) (is : IsTreeOf i.schema (level_at i.schema (level_of i.spine p + 1)) t)
    (table : List ℕ) (none : Vanishes i.schema (slice_index table)) (few : persons_in i.schema (slice_index table) ≤ persons_limit) where
  abbrev fit : FitNetwork
  fit = split_fit i t.groups p (slice_index table)

  abbrev U : ℕ
  U = length (children_of i.spine p)

  abbrev C : ℕ
  C = length (possible_cells i.schema)

  pub begun_circulates : (f : FitNetwork) → f ≡ split_fit i t.groups p (slice_index table) → IsSound (net_at f) → (quota : ℕ → ℕ → ℕ) → AreQuotas i.schema i.spine i.known p quota
      → (flow : List ℕ) → IsBegun i.schema (length (children_of i.spine p)) f table quota flow → IsCirculation (net_at f) flow
  begun_circulates f e sound quota quotas flow h =
      subst (λ f. IsSound (net_at f) → IsBegun i.schema U f table quota flow → IsCirculation (net_at f) flow) (sym e) at_fit sound h
    where
      place : (u r : ℕ) → C + (u * C + r) ≡ give_place (split_layout i t.groups p) u r
      place u r = omega arith

      at_fit : IsSound (net_at fit) → IsBegun i.schema U fit table quota flow → IsCirculation (net_at fit) flow
      at_fit sound h =
          given_circulates i tree has most p here t is (slice_index table) none few quota flow quotas
          (record {
            count = h.count;
            sources = h.sources;
            sums = λ r l. below_same U _ (λ u. slice_index flow (C + (u * C + r))) (λ u lu. ap (slice_index flow) (sym (place u r))) ∙ h.sums r l;
            own = λ u k l lk.
                part_same (λ r. kind_of i.schema (cell_at i r)) k (λ r. slice_index flow (give_place (split_layout i t.groups p) u r)) (λ r. slice_index flow (C + (u * C + r))) C
                (λ r lr. ap (slice_index flow) (sym (place u r))) ∙ h.own u k l lk;
            groups = λ u g l lg.
                let b = place_below U (length t.groups) u g l lg in
                let node : first_node (split_layout i t.groups p) + (group_place (split_layout i t.groups p) u g - first_group (split_layout i t.groups p)) ≡ group_node (split_layout i t.groups p) u g = omega arith in
                h.groups (group_place (split_layout i t.groups p) u g) (omega arith) (omega arith) ∙ ap (coming (split_network i t.groups p (slice_index table)) flow) node;
          }) sound

  pub fit_grouped : (f : FitNetwork) → f ≡ split_fit i t.groups p (slice_index table) → (flow : List ℕ) → IsGrouped (net_at f) (first_give f.layout) (first_group f.layout) (first_node f.layout)
  fit_grouped f e flow =
      subst (λ f. IsGrouped (net_at f) (first_give f.layout) (first_group f.layout) (first_node f.layout)) (sym e) (split_grouped i tree has most p here t is (slice_index table) none few flow)

  -- the cells' counts were put back after the table was given out of a flow of nothing
  pub record IsPutBack (f : FitNetwork) (cleared given flow : List ℕ) : Type 0 where
    pub size : length cleared ≡ arc_number f.layout
    pub zeros : (k : ℕ) → k < length cleared → slice_index cleared k ≡ 0
    pub table_is : IsTableGiven i.schema i.spine i.known p f.cells f.layout.sources table cleared given
    pub count : length flow ≡ length given
    pub cells : (r : ℕ) → r < length f.cells → slice_index flow r ≡ slice_index table (slice_index f.cells r)
    pub others : (r : ℕ) → length f.cells ≤ r → slice_index flow r ≡ slice_index given r

  pub put_back : (f : FitNetwork) (l : Layout) (cells1 cells2 start cleared given flow : List ℕ) → l ≡ f.layout → cells1 ≡ f.cells → cells2 ≡ f.cells
      → length start ≡ arc_number f.layout → cleared ≡ replicate (length start) 0
      → IsTableGiven i.schema i.spine i.known p cells1 l.sources table cleared given → length flow ≡ length given
      → ((r : ℕ) → r < length cells2 → slice_index flow r ≡ slice_index table (slice_index cells2 r))
      → ((r : ℕ) → length cells2 ≤ r → slice_index flow r ≡ slice_index given r)
      → IsPutBack f cleared given flow
  put_back f l cells1 cells2 start cleared given flow el e1 e2 size nothing got count cells others = record {
    size = ap length nothing ∙ zeros_length (length start) ∙ size;
    zeros = λ k low. ap (λ xs. slice_index xs k) nothing ∙ get_or-replicate (length start) k 0 0 (omega (arith, low, ap length nothing, zeros_length (length start)));
    table_is = subst (λ m. IsTableGiven i.schema i.spine i.known p f.cells m.sources table cleared given) el (subst (λ cs. IsTableGiven i.schema i.spine i.known p cs l.sources table cleared given) e1 got);
    count = count;
    cells = subst (λ cs. (r : ℕ) → r < length cs → slice_index flow r ≡ slice_index table (slice_index cs r)) e2 cells;
    others = subst (λ cs. (r : ℕ) → length cs ≤ r → slice_index flow r ≡ slice_index given r) e2 others;
  }

  -- so that groups may pass on what comes to them
  pub record IsReady (f : FitNetwork) (flow : List ℕ) : Type 0 where
    pub limit : (k : ℕ) → k < first_group f.layout → slice_index flow k ≤ persons_limit
    pub empty : (k : ℕ) → first_group f.layout ≤ k → k < arc_number f.layout → slice_index flow k ≡ 0

  pub record IsSummed (f : FitNetwork) (old flow : List ℕ) : Type 0 where
    pub count : length flow ≡ length old
    pub kept : (k : ℕ) → k < first_group f.layout → slice_index flow k ≡ slice_index old k
    pub sums : (k : ℕ) → first_group f.layout ≤ k → k < arc_number f.layout
        → slice_index flow k ≡ coming (net_at f) flow (first_node f.layout + (k - first_group f.layout))

  module _ (cleared given flow : List ℕ) where
    fit_ready : IsPutBack fit cleared given flow → IsReady fit flow
    fit_ready h = record {
      limit = λ k l. elim (cases_lt k C) [
        | inl cell ↦ subst (λ n. n ≤ persons_limit) (sym (h.cells k cell)) (few_at k cell)
        | inr later ↦
            let q = split_place U C (k - C) (omega arith) in
            let at : C + (q.0 * C + q.1) ≡ k = omega (arith, q.4) in
            let le = term_le (λ u. slice_index given (C + (u * C + q.1))) q.0 0 U (omega arith) (omega (arith, q.2)) in
            at_most _ _ _ _ (h.others k later ∙ ap (slice_index given) (sym at)) le (h.table_is.sums q.1 q.3) (few_at q.1 q.3)
      ];
      empty = λ k l m. h.others k (omega arith) ∙ h.table_is.others k (omega arith) ∙ h.zeros k (omega (arith, h.size));
    }
      where
        few_at : (r : ℕ) → r < C → slice_index table (slice_index (possible_cells i.schema) r) ≤ persons_limit
        few_at r l = counts_few i.schema table (possible_cells i.schema) refl few r 0 l

        at_most : (a b c d : ℕ) → a ≡ b → b ≤ c → c ≡ d → d ≤ persons_limit → a ≤ persons_limit
        at_most a b c d e f g l = omega arith

    pub ready : (f : FitNetwork) → f ≡ split_fit i t.groups p (slice_index table) → IsPutBack f cleared given flow → IsReady f flow
    ready f e h = subst (λ f. IsPutBack f cleared given flow → IsReady f flow) (sym e) fit_ready h

    fit_begun : (summed : List ℕ) (h : IsPutBack fit cleared given flow) → IsSummed fit flow summed → IsBegun i.schema U fit table h.table_is.quota summed
    fit_begun summed h m = record {
      count = m.count ∙ h.count ∙ h.table_is.count ∙ h.size;
      sources = λ r l. m.kept r (omega arith) ∙ h.cells r l;
      sums = λ r l. below_same U (λ u. slice_index summed (C + (u * C + r))) (λ u. slice_index given (C + (u * C + r))) (λ u lu. same u r lu l) ∙ h.table_is.sums r l;
      own = λ u k l lk.
          part_same (λ r. kind_of i.schema (cell_at i r)) k (λ r. slice_index summed (C + (u * C + r))) (λ r. slice_index given (C + (u * C + r))) C (λ r lr. same u r l lr)
          ∙ h.table_is.own u k l lk;
      groups = m.sums;
    }
      where
        same : (u r : ℕ) → u < U → r < C → slice_index summed (C + (u * C + r)) ≡ slice_index given (C + (u * C + r))
        same u r lu lr = let b = place_below U C u r lu lr in m.kept (C + (u * C + r)) (omega arith) ∙ h.others (C + (u * C + r)) (omega arith)

    pub put_circulates : (f : FitNetwork) → f ≡ split_fit i t.groups p (slice_index table) → IsSound (net_at f) → IsPutBack f cleared given flow
        → (summed : List ℕ) → IsSummed f flow summed → IsCirculation (net_at f) summed
    put_circulates f e sound h summed m =
        subst (λ f. IsSound (net_at f) → IsPutBack f cleared given flow → IsSummed f flow summed → IsCirculation (net_at f) summed) (sym e)
        (λ sound h m. begun_circulates fit refl sound h.table_is.quota h.table_is.quotas summed (fit_begun summed h m)) sound h m
