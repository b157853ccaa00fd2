-- The tables of a fit's units are kept one after the other.
use Rattle.std.proofs.Common.{◌≡◌, ◌≢◌, ℕ, ◌+◌, ◌*◌, ◌<◌, inl, inr, List, [], length, get_or, sym, ap, ◌∙◌, subst, arith}
use Rattle.std.specs.List.{All, slice_range}
use Rattle.std.proofs.lemmas.Bool.{cases_eq}
use Rattle.tda_model.specs.Schema.{Schema}
use Rattle.tda_model.specs.Spine.{Spine}
use Rattle.tda_model.specs.Cells.{cell_count}
use Rattle.tda_model.specs.Tables.{Tables}
use Rattle.tda_model.specs.First.{family_counts, counts_of}
use Rattle.tda_descent.specs.Made.{HasChildren}
use Rattle.tda_descent.proofs.Chunks.{part_is}

-- of the first n units those that have children have their tables, and no other unit's table has changed
pub record AreKept (sp : Spine) (cells : ℕ) (counts units : List ℕ) (n : ℕ) (old new : List (List ℕ)) : Type 0 where
  pub count : length new ≡ length old
  pub kept : (s : Schema) (x : Tables) → cell_count s ≡ cells → counts ≡ family_counts s units x
      → (m : ℕ) → m < n → HasChildren sp (get_or units m 0) → get_or new (get_or units m 0) [] ≡ counts_of s (x (get_or units m 0))
  pub others : (u : ℕ) → All (λ v. u ≢ v) units → get_or new u [] ≡ get_or old u []

module _ (sp : Spine) (cells : ℕ) (counts units : List ℕ) (n : ℕ) (old before new : List (List ℕ)) where
  pub kept_more : AreKept sp cells counts units n old before → n < length units → length new ≡ length before
      → (HasChildren sp (get_or units n 0) → get_or new (get_or units n 0) [] ≡ slice_range counts (n * cells) ((n + 1) * cells))
      → ((u : ℕ) → u ≢ get_or units n 0 → get_or new u [] ≡ get_or before u [])
      → AreKept sp cells counts units (n + 1) old new
  kept_more h less count here others = record {
    count = count ∙ h.count;
    kept = kept;
    others = λ u apart. others u (apart n 0 less) ∙ h.others u apart;
  }
    where
      last : (s : Schema) (x : Tables) → cell_count s ≡ cells → counts ≡ family_counts s units x → HasChildren sp (get_or units n 0) → get_or new (get_or units n 0) [] ≡ counts_of s (x (get_or units n 0))
      last s x e f inner =
          here inner ∙ ap (λ c. slice_range c (n * cells) ((n + 1) * cells)) f
          ∙ part_is s x units n (n * cells) ((n + 1) * cells) less (ap (λ c. n * c) (sym e)) (ap (λ c. (n + 1) * c) (sym e))

      kept : (s : Schema) (x : Tables) → cell_count s ≡ cells → counts ≡ family_counts s units x
          → (m : ℕ) → m < n + 1 → HasChildren sp (get_or units m 0) → get_or new (get_or units m 0) [] ≡ counts_of s (x (get_or units m 0))
      kept s x e f m low inner =
          let Is : ℕ → Type 0 = λ u. HasChildren sp u → get_or new u [] ≡ counts_of s (x u) in
          elim (cases_eq (get_or units m 0) (get_or units n 0)) [
            | inl same ↦ subst Is (sym same) (last s x e f) inner
            | inr other ↦ elim (cases_eq m n) [
              | inl at ↦ absurd (other (ap (λ k. get_or units k 0) at))
              | inr away ↦ others (get_or units m 0) other ∙ h.kept s x e f m (omega (arith, low, away)) inner
            ]
          ]

  -- the same, where the code has read both lists
  pub kept_next : (us cs : List ℕ) → us ≡ units → cs ≡ counts → AreKept sp cells counts units n old before → n < length us → length new ≡ length before
      → (HasChildren sp (get_or us n 0) → get_or new (get_or us n 0) [] ≡ slice_range cs (n * cells) ((n + 1) * cells))
      → ((u : ℕ) → u ≢ get_or us n 0 → get_or new u [] ≡ get_or before u [])
      → AreKept sp cells counts units (n + 1) old new
  kept_next us cs e f h less count here others =
      let Here : List ℕ → List ℕ → Type 0 = λ vs ds. HasChildren sp (get_or vs n 0) → get_or new (get_or vs n 0) [] ≡ slice_range ds (n * cells) ((n + 1) * cells) in
      let Others : List ℕ → Type 0 = λ vs. (u : ℕ) → u ≢ get_or vs n 0 → get_or new u [] ≡ get_or before u [] in
      kept_more h (subst (λ vs. n < length vs) e less) count (subst (λ vs. Here vs counts) e (subst (Here us) f here)) (subst Others e others)
