use Rattle.std.proofs.Common.{◌≡◌, ℕ, suc, ◌+◌, ◌-◌, ◌*◌, ◌<◌, ◌≤◌, cond, length, get_or, slice_index, set, length-set, get_or-set_same, get_or-set_other, sym, ap, ◌∙◌, inl, inr, arith, ne_eqb}
use Rattle.std.proofs.lemmas.Bool.{cases_eq}
use Rattle.tda_model.specs.Groups.{kind_count}
use Rattle.tda_model.specs.Schema.{Schema}
use Rattle.tda_model.specs.Spine.{Spine, units_at}
use Rattle.tda_model.specs.Tables.{Published}
use Rattle.tda_model.specs.Bounds.{low, needed}
use Rattle.tda_model.proofs.Shares.{sum_range_more}
use Rattle.tda_invar.specs.Known.{known_of}
use Rattle.std.proofs.lemmas.Bool.{eqb-true}
use Rattle.tda_fitnet.specs.Plain.{plain_share}
use Rattle.tda_fitnet.proofs.Ranges.{below, place_below}
use Rattle.tda_fitnet.proofs.GivenOut.{below_le}
use Rattle.tda_fitnet.proofs.UnitFacts.{listed_state, state_total}
use Rattle.tda_fitnet.proofs.states.put_state.Goals as goal

next : (f : ℕ → ℕ) (k : ℕ) → below (k + 1) f ≡ below k f + f k
next f k = let e : k + 1 ≡ suc k = omega arith in ap (λ n. below n f) e ∙ sum_range_more f k

-- what the next kind takes is left
room : (f : ℕ → ℕ) (k kinds rest total : ℕ) → k < kinds → rest + below k f ≡ total → below kinds f ≤ total → f k ≤ rest
room f k kinds rest total l h enough = omega (arith, next f k, below_le (k + 1) kinds f (omega arith), h, enough)

-- the share of the first kind, and those of others
first_share : (s : Schema) (sp : Spine) (known : Published) (st rest total : ℕ) → rest + needed s sp known st ≡ total → total ≡ known.total st → rest ≡ plain_share s sp known st 0
first_share s sp known st rest total h e = back rest (needed s sp known st) total h ∙ ap (λ n. n - needed s sp known st + 0) e
  where
    back : (a b c : ℕ) → a + b ≡ c → a ≡ c - b + 0
    back a b c h = omega arith

later_share : (s : Schema) (sp : Spine) (known : Published) (st k : ℕ) → (k ≡ 0 → ⊥) → low sp known st k ≡ plain_share s sp known st k
later_share s sp known st k ne = plus_none _ _ (ap (λ b. cond b (known.total st - needed s sp known st) 0) (ne_eqb k 0 ne))
  where
    plus_none : (a b : ℕ) → b ≡ 0 → a ≡ b + a
    plus_none a b e = omega arith

pub total-requires : goal.total-requires
total-requires c =
    let st = listed_state c.args.spine.now c.at_level-states.result.now c.at_level-states.ensures c.args.n (omega (arith, ap length c.at_level-states.ensures, c.requires.state)) in
    record { unit = omega (arith, st.here, c.requires.joined.total_units) }

pub low-share-requires-clause-unit : goal.low-share-requires-clause-unit
low-share-requires-clause-unit c =
    let st = listed_state c.args.spine.now c.at_level-states.result.now c.at_level-states.ensures c.args.n (omega (arith, ap length c.at_level-states.ensures, c.requires.state)) in
    omega (arith, st.here, c.requires.joined.low_units)

pub overflow_sub-rest : goal.overflow_sub-rest
overflow_sub-rest c =
    let s = c.args.schema.now in
    let sp = c.args.spine.now in
    let known = known_of sp c.args.inv.now in
    let st = slice_index c.at_level-states.result.now c.args.n in
    let is = listed_state sp c.at_level-states.result.now c.at_level-states.ensures c.args.n (omega (arith, ap length c.at_level-states.ensures, c.requires.state)) in
    let total = c.unwrap_or-total.ensures ∙ state_total sp known st c.total.result is (c.total.ensures.total s sp c.requires.joined) in
    let enough = c.requires.joined.suffice.enough st is.here (eqb-true _ _ is.at) in
    let own = c.low-share.ensures.low s sp c.requires.joined in
    let left = room (low sp known st) c.loop-kind.kind (kind_count c.args.schema.now) c.loop-kind.rest c.unwrap_or-total.result (omega (arith, c.loop-kind-test.true, c.kinds-kinds.ensures.count)) c.loop-kind.invariant.3 (omega (arith, enough, total)) in
    omega (arith, own, left)

pub loop-kind-preserved : goal.loop-kind-preserved
loop-kind-preserved c =
    let s = c.args.schema.now in
    let sp = c.args.spine.now in
    let known = known_of sp c.args.inv.now in
    let st = slice_index c.at_level-states.result.now c.args.n in
    let h = c.loop-kind.invariant in
    let is = listed_state sp c.at_level-states.result.now c.at_level-states.ensures c.args.n (omega (arith, ap length c.at_level-states.ensures, c.requires.state)) in
    let total = c.unwrap_or-total.ensures ∙ state_total sp known st c.total.result is (c.total.ensures.total s sp c.requires.joined) in
    let enough = c.requires.joined.suffice.enough st is.here (eqb-true _ _ is.at) in
    let own = c.low-share.ensures.low s sp c.requires.joined in
    let kind : ℕ = c.loop-kind.kind in
    let in_range : kind < kind_count c.args.schema.now = omega (arith, c.loop-kind-test.true, c.kinds-kinds.ensures.count) in
    let left = room (low sp known st) kind (kind_count c.args.schema.now) c.loop-kind.rest c.unwrap_or-total.result in_range h.3 (omega (arith, enough, total)) in
    let first : ℕ = length c.at_level-states.result.now + c.args.n * c.kinds-kinds.result in
    let flow = c.loop-kind.flow in
    let sums = c.loop-kind.sums in
    let share : ℕ = c.low-share.result in
    let added : ℕ = slice_index sums kind + share in
    let fits : first + kind < length c.loop-kind.flow =
    (let b = place_below (length (units_at c.args.spine.now 1)) (kind_count c.args.schema.now) c.args.n kind c.requires.state in_range in
    let same = ap (λ m. c.args.n * m) c.kinds-kinds.ensures.count in omega (arith, b, same, ap length c.at_level-states.ensures, h.1, c.requires.room)) in (
      omega (arith, h.0),
      length-set _ _ _ ∙ h.1,
      length-set _ _ _ ∙ h.2,
      omega (arith, next (low sp known st) kind, own, left, h.3),
      λ k a b. elim (cases_eq k kind) [
        | inl e ↦ ap (λ m. get_or (set flow (first + kind) share) (first + m) 0) e ∙ get_or-set_same flow (first + kind) share 0 fits ∙ own ∙ ap (low sp known st) (sym e)
        | inr ne ↦ get_or-set_other flow (first + kind) (first + k) share 0 (λ e. ne (omega arith)) ∙ h.4 k a (omega arith)
      ],
      λ j side. get_or-set_other flow (first + kind) j share 0 (λ e. elim side [ inl early ↦ omega (arith, h.0) | inr late ↦ omega arith ])
          ∙ h.5 j (elim side [ inl early ↦ inl early | inr late ↦ inr (omega arith) ]),
      λ k a b. elim (cases_eq k kind) [
        | inl e ↦ ap (λ m. get_or (set sums kind added) m 0) e ∙ get_or-set_same sums kind added 0 (omega (arith, h.2, c.requires.kinds))
            ∙ ap (λ v. v + share) (h.7 kind (inr (omega arith))) ∙ ap (λ v. slice_index c.args.sums.now kind + v) own ∙ ap (λ m. slice_index c.args.sums.now m + low sp known st m) (sym e)
        | inr ne ↦ get_or-set_other sums kind k added 0 ne ∙ h.6 k a (omega arith)
      ],
      λ k side. get_or-set_other sums kind k added 0 (λ e. elim side [ inl early ↦ omega (arith, h.0) | inr late ↦ omega arith ])
          ∙ h.7 k (elim side [ inl early ↦ inl early | inr late ↦ inr (omega arith) ]),
    )

pub returns-clause-total : goal.returns-clause-total
returns-clause-total c =
    let s = c.args.schema.now in
    let sp = c.args.spine.now in
    let known = known_of sp c.args.inv.now in
    let st = slice_index c.at_level-states.result.now c.args.n in
    let h = c.loop-kind.invariant in
    let n : ℕ = c.args.n in
    let states : ℕ = length (units_at c.args.spine.now 1) in
    let kinds : ℕ = kind_count c.args.schema.now in
    let count = ap length c.at_level-states.ensures in
    let low_n : n < length c.at_level-states.result.now = omega (arith, count, c.requires.state) in
    let is = listed_state sp c.at_level-states.result.now c.at_level-states.ensures n low_n in
    let total = c.unwrap_or-total.ensures ∙ state_total sp known st c.total.result is (c.total.ensures.total s sp c.requires.joined) in
    let first : ℕ = length c.at_level-states.result.now + n * c.kinds-kinds.result in
    let flow = c.loop-kind.flow in
    let rest : ℕ = c.loop-kind.rest in
    let some = c.requires.joined.kinds.some in
    let done : c.loop-kind.kind ≡ kind_count c.args.schema.now = omega (arith, c.loop-kind-test.false, c.loop-kind.auto.kind-end, c.kinds-kinds.ensures.count, some, h.0) in
    let same = ap (λ m. n * m) c.kinds-kinds.ensures.count in
    let st_is : st ≡ slice_index (units_at c.args.spine.now 1) n = ap (λ xs. slice_index xs n) c.at_level-states.ensures in
    let first_is = first_share s sp known st rest c.unwrap_or-total.result (ap (λ m. rest + below m (low sp known st)) (sym done) ∙ h.3) total in
    get_or-set_other flow first n rest 0 (λ e. omega (arith, low_n))
    ∙ h.5 n (inl (omega (arith, low_n)))
    ∙ get_or-set_same c.args.flow.now n c.unwrap_or-total.result 0 (omega (arith, c.requires.state, c.requires.room))
    ∙ total ∙ ap known.total st_is

pub returns-clause-shares : goal.returns-clause-shares
returns-clause-shares c = λ k lk.
    let s = c.args.schema.now in
    let sp = c.args.spine.now in
    let known = known_of sp c.args.inv.now in
    let st = slice_index c.at_level-states.result.now c.args.n in
    let h = c.loop-kind.invariant in
    let n : ℕ = c.args.n in
    let states : ℕ = length (units_at c.args.spine.now 1) in
    let kinds : ℕ = kind_count c.args.schema.now in
    let count = ap length c.at_level-states.ensures in
    let low_n : n < length c.at_level-states.result.now = omega (arith, count, c.requires.state) in
    let is = listed_state sp c.at_level-states.result.now c.at_level-states.ensures n low_n in
    let total = c.unwrap_or-total.ensures ∙ state_total sp known st c.total.result is (c.total.ensures.total s sp c.requires.joined) in
    let first : ℕ = length c.at_level-states.result.now + n * c.kinds-kinds.result in
    let flow = c.loop-kind.flow in
    let rest : ℕ = c.loop-kind.rest in
    let some = c.requires.joined.kinds.some in
    let done : c.loop-kind.kind ≡ kind_count c.args.schema.now = omega (arith, c.loop-kind-test.false, c.loop-kind.auto.kind-end, c.kinds-kinds.ensures.count, some, h.0) in
    let same = ap (λ m. n * m) c.kinds-kinds.ensures.count in
    let st_is : st ≡ slice_index (units_at c.args.spine.now 1) n = ap (λ xs. slice_index xs n) c.at_level-states.ensures in
    let first_is = first_share s sp known st rest c.unwrap_or-total.result (ap (λ m. rest + below m (low sp known st)) (sym done) ∙ h.3) total in
    let b = place_below states kinds n 0 c.requires.state (omega (arith, some)) in
    let fits : first < length c.loop-kind.flow = omega (arith, b, same, count, h.1, c.requires.room) in
    let index : states + (n * kinds + k) ≡ first + k = omega (arith, same, count) in
    ap (slice_index (set flow first rest)) index
    ∙ elim (cases_eq k 0) [
      | inl z ↦
          let here : first + k ≡ first = omega (arith, z) in
          ap (slice_index (set flow first rest)) here ∙ get_or-set_same flow first rest 0 fits ∙ first_is ∙ ap (plain_share s sp known st) (sym z)
      | inr ne ↦ get_or-set_other flow first (first + k) rest 0 (λ e. ne (omega arith)) ∙ h.4 k (omega arith) (omega (arith, done)) ∙ later_share s sp known st k ne
    ]
    ∙ ap (λ v. plain_share s sp known v k) st_is

pub returns-clause-sums : goal.returns-clause-sums
returns-clause-sums c = λ k lk.
    let s = c.args.schema.now in
    let sp = c.args.spine.now in
    let known = known_of sp c.args.inv.now in
    let st = slice_index c.at_level-states.result.now c.args.n in
    let h = c.loop-kind.invariant in
    let n : ℕ = c.args.n in
    let states : ℕ = length (units_at c.args.spine.now 1) in
    let kinds : ℕ = kind_count c.args.schema.now in
    let count = ap length c.at_level-states.ensures in
    let low_n : n < length c.at_level-states.result.now = omega (arith, count, c.requires.state) in
    let is = listed_state sp c.at_level-states.result.now c.at_level-states.ensures n low_n in
    let total = c.unwrap_or-total.ensures ∙ state_total sp known st c.total.result is (c.total.ensures.total s sp c.requires.joined) in
    let first : ℕ = length c.at_level-states.result.now + n * c.kinds-kinds.result in
    let flow = c.loop-kind.flow in
    let rest : ℕ = c.loop-kind.rest in
    let some = c.requires.joined.kinds.some in
    let done : c.loop-kind.kind ≡ kind_count c.args.schema.now = omega (arith, c.loop-kind-test.false, c.loop-kind.auto.kind-end, c.kinds-kinds.ensures.count, some, h.0) in
    let same = ap (λ m. n * m) c.kinds-kinds.ensures.count in
    let st_is : st ≡ slice_index (units_at c.args.spine.now 1) n = ap (λ xs. slice_index xs n) c.at_level-states.ensures in
    let first_is = first_share s sp known st rest c.unwrap_or-total.result (ap (λ m. rest + below m (low sp known st)) (sym done) ∙ h.3) total in
    let sums = c.loop-kind.sums in
    let all : ℕ = slice_index sums 0 + rest in
    elim (cases_eq k 0) [
      | inl z ↦
          ap (slice_index (set sums 0 all)) z ∙ get_or-set_same sums 0 all 0 (omega (arith, h.2, c.requires.kinds, some)) ∙ ap (λ v. v + rest) (h.7 0 (inl (omega arith)))
          ∙ ap (λ v. slice_index c.args.sums.now 0 + v) first_is ∙ ap (λ m. slice_index c.args.sums.now m + plain_share s sp known st m) (sym z)
      | inr ne ↦ get_or-set_other sums 0 k all 0 ne ∙ h.6 k (omega arith) (omega (arith, done)) ∙ ap (λ v. slice_index c.args.sums.now k + v) (later_share s sp known st k ne)
    ]
    ∙ ap (λ v. slice_index c.args.sums.now k + plain_share s sp known v k) st_is
