-- The totals of the states, each entered at its unit.
use Rattle.std.proofs.Common.{◌≡◌, ◌≢◌, ℕ, ◌+◌, ◌<◌, ◌≤◌, Bool, true, false, cond, List, length, get_or, set, map, replicate, Option, Some, None, refl, sym, ap, ◌∙◌, inl, inr, arith, eq-eqb}
use Rattle.std.proofs.lemmas.Bool.{cases_Bool, cases_lt, eqb-true}
use Rattle.std.proofs.lemmas.List.{length-set, get_or-set_same, get_or-set_other, get_or-replicate, length-replicate, get_or_past}
use Rattle.std.proofs.lemmas.List.Elements.{All-from_get_or, recursion_from_All}
use Rattle.std.proofs.lemmas.List.FromFn.{fill_by_all}
use Rattle.tda_model.specs.Spine.{Spine, IsUnit, level_of, is_at, units_at, unit_numbers}
use Rattle.tda_model.proofs.Sums.{filter_each, range_each}
use Rattle.tda_invar.specs.KindTable.{NumberTable}
use Rattle.tda_invar.specs.Known.{known, unit_total}
use Rattle.tda_invar.specs.Totals.{total_of}
use Rattle.tda_invar.proofs.StatePlaces.{states_rise, states_are, total_at}

module _ (sp : Spine) (totals : List ℕ) where
  -- the totals of the first states stand at their units, and nothing at a unit that is no state
  pub record AreEntered (place : ℕ) (entries : List (Option ℕ)) : Type 0 where
    pub size : length entries ≡ length sp.units
    pub states : (k : ℕ) → k < place → get_or entries (get_or (units_at sp 1) k 0) None ≡ Some (get_or totals k 0)
    pub others : (u : ℕ) → level_of sp u ≢ 1 → get_or entries u None ≡ None

  pub entered_none : (n : ℕ) → n ≡ length sp.units → AreEntered 0 (replicate n None)
  entered_none n size = record {
    size = length-replicate {A = Option ℕ} n None ∙ size;
    states = λ k l. absurd (omega arith);
    others = λ u other. elim (cases_lt u n) [
      | inl below ↦ get_or-replicate n u None None below
      | inr past ↦ get_or_past {X = Option ℕ} (replicate n None) u None (omega (arith, length-replicate {A = Option ℕ} n None, past))
    ];
  }

  pub entered_more : (place total : ℕ) (entries : List (Option ℕ)) → place < length (units_at sp 1) → AreEntered place entries
      → total ≡ get_or totals place 0 → AreEntered (place + 1) (set entries (get_or (units_at sp 1) place 0) (Some total))
  entered_more place total entries below h is =
      let state = get_or (units_at sp 1) place 0 in
      let own = states_are sp place 0 below in
      let within = own.here in
      record {
        size = length-set entries state (Some total) ∙ h.size;
        states = λ k l. elim (cases_lt k place) [
          | inl before ↦
              let less = states_rise sp k place 0 before below in
              get_or-set_other entries state (get_or (units_at sp 1) k 0) (Some total) None (λ e. omega arith) ∙ h.states k before
          | inr now ↦
              let same : k ≡ place = omega arith in
              ap (λ i. get_or (set entries state (Some total)) (get_or (units_at sp 1) i 0) None) same
              ∙ get_or-set_same entries state (Some total) None (omega (arith, within, h.size))
              ∙ ap Some is
              ∙ ap (λ i. Some (get_or totals i 0)) (sym same)
        ];
        others = λ u other. get_or-set_other entries state u (Some total) None (λ e. other (ap (level_of sp) e ∙ own.at)) ∙ h.others u other;
      }

  -- in the end each unit has the total that is due
  pub entered_all : (f : NumberTable) (place : ℕ) (entries : List (Option ℕ)) → length (units_at sp 1) ≤ place → AreEntered place entries
      → entries ≡ map (unit_total sp (known sp f totals)) (unit_numbers sp)
  entered_all f place entries all h =
      fill_by_all (unit_total sp (known sp f totals)) entries (length sp.units) None h.size (λ u l. elim (cases_Bool (is_at sp 1 u)) [
        | inl state ↦ at_state u l state ∙ sym (ap (λ b. cond b (Some (total_of sp totals u)) None) state)
        | inr other ↦
            h.others u (λ e. let is = eq-eqb (level_of sp u) 1 e in cc)
            ∙ sym (ap (λ b. cond b (Some (total_of sp totals u)) None) other)
      ])
    where
      at_state : (u : ℕ) → IsUnit sp u → is_at sp 1 u ≡ true → get_or entries u None ≡ Some (total_of sp totals u)
      at_state u here state =
          let each = All-from_get_or (λ v. get_or entries v None ≡ Some (total_of sp totals v)) (units_at sp 1) 0
          (λ k l. h.states k (omega arith) ∙ ap Some (sym (total_at sp totals k l))) in
          let among = filter_each (λ v. get_or entries v None ≡ Some (total_of sp totals v)) (is_at sp 1) (unit_numbers sp) (recursion_from_All _ (units_at sp 1) each) in
          range_each _ 0 (length sp.units) among u (omega arith) (omega arith) state
