use Rattle.std.proofs.Common.{◌≡◌, ℕ, zero, suc, ◌^◌, [], refl, ◌+◌, ◌*◌, ◌<◌, ◌≤◌, length, slice_index, sym, ap, ◌∙◌, inl, inr, arith, suc-mul, mul-le-mul_right}
use Rattle.std.specs.List.{sum_by, range_with_len}
use Rattle.std.proofs.lemmas.Bool.{cases_eq}
use Rattle.tda_model.specs.Groups.{kind_count}
use Rattle.tda_model.specs.Spine.{units_at}
use Rattle.tda_model.proofs.Shares.{sum_range_more}
use Rattle.tda_invar.specs.Known.{known_of}
use Rattle.tda_model.specs.Bounds.{persons_limit}
use Rattle.tda_fitnet.specs.Inputs.{inputs_of}
use Rattle.tda_fitnet.proofs.RootStart.{plain_not_more}
use Rattle.tda_fitnet.proofs.UnitFacts.{listed_state}
use Rattle.tda_fitnet.specs.Plain.{plain_at}
use Rattle.tda_fitnet.proofs.Ranges.{place_below}
use Rattle.tda_fitnet.proofs.states.put_states.Goals as goal

below_limit : (n c : ℕ) (f : ℕ → ℕ) → ((m : ℕ) → m < n → f m ≤ c) → sum_by f (range_with_len 0 n) ≤ n * c
below_limit zero c f h = omega arith
below_limit (suc n) c f h = omega (arith, sum_range_more f n, below_limit n c f (λ m l. h m (omega arith)), h n (omega arith), suc-mul n c)

pub put_state-requires-clause-few : goal.put_state-requires-clause-few
put_state-requires-clause-few c = λ k lk.
    let s = c.args.schema.now in
    let sp = c.args.spine.now in
    let known = known_of sp c.args.inv.now in
    let j = c.requires.joined in
    let low : c.loop-n.n < length (units_at c.args.spine.now 1) = omega (arith, c.loop-n-test.true, ap length c.at_level-n-end.ensures) in
    let each : (m : ℕ) → m < c.loop-n.n → plain_at s sp known m k ≤ persons_limit = λ m l.
    let in_range : m < length (units_at c.args.spine.now 1) = omega (arith, l, low) in
    let st = listed_state sp (units_at c.args.spine.now 1) refl m in_range in
    let most = plain_not_more (inputs_of s sp c.args.inv.now []) j.tree j.kinds j.most j.suffice m k in_range lk in
    let few = j.fits.limited (slice_index (units_at c.args.spine.now 1) m) k st.here lk in
    through _ _ _ most few in
    let all = below_limit c.loop-n.n persons_limit (λ m. plain_at s sp known m k) each in
    let is = c.loop-n.invariant.5 k lk in
    room _ _ c.loop-n.n is all (omega (arith, low, c.requires.few))
  where
    through : (a b c : ℕ) → a ≤ b → b ≤ c → a ≤ c
    through a b c h k = omega arith

    room : (a b n : ℕ) → a ≡ b → b ≤ n * persons_limit → n ≤ 2 ^ 20 → a ≤ 2 ^ 60
    room a b n e h l = omega arith

pub loop-n-preserved : goal.loop-n-preserved
loop-n-preserved c =
    let sp = c.args.spine.now in
    let h = c.loop-n.invariant in
    let r = c.put_state.ensures in
    let n : ℕ = c.loop-n.n in
    let kinds : ℕ = kind_count c.args.schema.now in
    let states : ℕ = length (units_at c.args.spine.now 1) in
    let low : n < states = omega (arith, c.loop-n-test.true, ap length c.at_level-n-end.ensures) in
    let own : n * kinds + kinds ≤ states * kinds = (let m = suc-mul n kinds in let le : suc n * kinds ≤ states * kinds = mul-le-mul_right kinds low in omega arith) in
    let next : suc n ≡ n + 1 = omega arith in (
      r.count ∙ h.0,
      r.sum_count ∙ h.1,
      λ m l. elim (cases_eq m n) [
        | inl e ↦ ap (slice_index c.put_state.new.flow) e ∙ r.total ∙ ap (λ v. (known_of sp c.args.inv.now).total (slice_index (units_at sp 1) v)) (sym e)
        | inr ne ↦ r.others m ne (inl (omega arith)) ∙ h.2 m (omega arith)
      ],
      λ m k l lk. elim (cases_eq m n) [
        | inl e ↦ ap (λ v. slice_index c.put_state.new.flow (states + (v * kinds + k))) e ∙ r.shares k lk ∙ ap (λ v. plain_at c.args.schema.now sp (known_of sp c.args.inv.now) v k) (sym e)
        | inr ne ↦ let b = place_below n kinds m k (omega arith) lk in r.others (states + (m * kinds + k)) (λ e. omega arith) (inl (omega arith)) ∙ h.3 m k (omega arith) lk
      ],
      λ j l. r.others j (λ e. omega arith) (inr (omega arith)) ∙ h.4 j l,
      λ k lk. r.sums k lk ∙ ap (λ v. v + plain_at c.args.schema.now sp (known_of sp c.args.inv.now) n k) (h.5 k lk)
          ∙ sym (sum_range_more (λ m. plain_at c.args.schema.now sp (known_of sp c.args.inv.now) m k) n)
          ∙ ap (λ v. sum_by (λ m. plain_at c.args.schema.now sp (known_of sp c.args.inv.now) m k) (range_with_len 0 v)) next,
    )

pub returns-clause-sums : goal.returns-clause-sums
returns-clause-sums c = λ k lk.
    let states : ℕ = length (units_at c.args.spine.now 1) in
    let done : c.loop-n.n ≡ states = omega (arith, c.loop-n-test.false, c.loop-n.auto.n-end, ap length c.at_level-n-end.ensures) in
    c.loop-n.invariant.5 k lk ∙ ap (λ v. sum_by (λ m. plain_at c.args.schema.now c.args.spine.now (known_of c.args.spine.now c.args.inv.now) m k) (range_with_len 0 v)) done
