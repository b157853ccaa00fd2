-- The term that the table of the level tells of.
use Rattle.std.proofs.Common.{◌≡◌, ◌<◌, ◌≤◌, ◌+◌, ◌^◌, ℤ, nat_abs, subst, ◌++◌, ◌∷◌, [], ℕ, pos, length, slice_index_or, Option, Some, None, refl, sym, ap, ◌∙◌, arith, FitsSigned}
use Rattle.std.specs.Int.{w64}
use Rattle.std.proofs.lemmas.Int.{ints, to_z-of_z}
use Rattle.tda_model.specs.Commons.{common_of}
use Rattle.tda_model.specs.Spine.{level_of}
use Rattle.tda_model.specs.Deviation.{weight_of}
use Rattle.tda_loss.specs.Curve.{IsWithin}
use Rattle.tda_schema.specs.Stated.{queries_at, query_at}
use Rattle.tda_fitnet.specs.NamedNetwork.{with_terms}
use Rattle.tda_fitnet.proofs.TermStep.{row_size, weight_there, weight_is, weight_few, index_low, has_term, has_none, told_some, told_none, no_more}
use Rattle.tda_fitnet.proofs.arcs.push_query_term.Goals as goal

within : (z : ℤ) → nat_abs z ≤ 2 ^ 31 → IsWithin (2 ^ 31) z
within z h = record { low = omega (arith, ints, h); high = omega (arith, ints, h) }

none_of : (o : Option ℕ) → ((n : ℕ) → o ≡ Some n → ⊥) → o ≡ None
none_of None h = refl
none_of (Some n) h = absurd (h n refl)

pub place-requires-clause-group : goal.place-requires-clause-group
place-requires-clause-group c =
    let (s, sp, t, unit, ready, low) = c.requires.ready in
    let lq : c.args.query < length (queries_at s (level_of sp unit)) = omega (arith, c.requires.query, ready.table_is.count) in
    omega (arith, row_size s sp t c.args.terms.now c.args.m.now unit c.args.first ready c.args.query lq c.args.group low, low)

pub weight-requires : goal.weight-requires
weight-requires c =
    let (s, sp, t, unit, ready, low) = c.requires.ready in
    weight_there s sp t c.args.terms.now c.args.m.now unit c.args.first ready c.args.query (omega (arith, c.requires.query, ready.table_is.count)) c.args.group low

pub get-requires : goal.get-requires
get-requires c =
    let (s, sp, t, unit, ready, low) = c.requires.ready in
    let lq : c.args.query < length (queries_at s (level_of sp unit)) = omega (arith, c.requires.query, ready.table_is.count) in
    let is = told_some s sp t c.args.terms.now c.args.m.now unit c.args.first ready c.args.query lq c.args.group low c.in-Some.place c.place.result c.place.ensures c.in-Some.is in
    omega (arith, index_low s sp t c.args.terms.now c.args.m.now unit c.args.first ready c.args.query lq c.args.group low c.in-Some.place is, c.from.ensures)

pub push_term-requires-clause-fits : goal.push_term-requires-clause-fits
push_term-requires-clause-fits c =
    let (s, sp, t, unit, ready, low) = c.requires.ready in
    let lq : c.args.query < length (queries_at s (level_of sp unit)) = omega (arith, c.requires.query, ready.table_is.count) in
    let few = weight_few s sp t c.args.terms.now c.args.m.now unit c.args.first ready c.args.query lq c.args.group low in
    let fits : FitsSigned w64 c.get.result = omega (arith, ints, c.get.ensures.limit) in
    record { weight = omega (arith, few, c.weight.ensures); target = subst (IsWithin (2 ^ 31)) (sym (to_z-of_z w64 c.get.result fits)) (within c.get.result c.get.ensures.limit) }

pub returns-in_ok-push_term : goal.returns-in_ok-push_term
returns-in_ok-push_term c s sp t unit ready low inv before last e =
    let table = c.args.terms.now in
    let ms = c.args.m.now in
    let lq : c.args.query < length (queries_at s (level_of sp unit)) = omega (arith, c.requires.query, ready.table_is.count) in
    let is = told_some s sp t table ms unit c.args.first ready c.args.query lq c.args.group low c.in-Some.place c.place.result c.place.ensures c.in-Some.is in
    let term = has_term s sp t table ms unit c.args.first ready c.args.query lq c.args.group low c.in-Some.place is inv in
    let fits : FitsSigned w64 c.get.result = omega (arith, ints, c.get.ensures.limit) in
    c.in_ok-push_term.ensures before last e
    ∙ ap (λ z. record { nodes = c.args.fit.now.nodes; arcs = before ++ with_terms last (record { weight = c.weight.result; target = z } ∷ []) ∷ [] }) (to_z-of_z w64 c.get.result fits)
    ∙ ap (λ w. record { nodes = c.args.fit.now.nodes; arcs = before ++ with_terms last (record { weight = w; target = c.get.result } ∷ []) ∷ [] })
    (c.weight.ensures ∙ weight_is s sp t table ms unit c.args.first ready c.args.query lq c.args.group low)
    ∙ ap (λ z. record { nodes = c.args.fit.now.nodes; arcs = before ++ with_terms last (record { weight = weight_of (common_of s) (query_at s (level_of sp unit) c.args.query); target = z } ∷ []) ∷ [] })
    (c.get.ensures.value ∙ ap (λ n. slice_index_or ms (c.args.first + n) (pos 0)) c.from.ensures)
    ∙ ap (λ ts. record { nodes = c.args.fit.now.nodes; arcs = before ++ with_terms last ts ∷ [] }) (sym term)

pub returns-in_default : goal.returns-in_default
returns-in_default c s sp t unit ready low inv before last e =
    let lq : c.args.query < length (queries_at s (level_of sp unit)) = omega (arith, c.requires.query, ready.table_is.count) in
    let none = told_none s sp t c.args.terms.now c.args.m.now unit c.args.first ready c.args.query lq c.args.group low c.place.result c.place.ensures (none_of c.place.result c.in_default.not-Some) in
    ap (λ xs. record { nodes = c.args.fit.now.nodes; arcs = xs }) e
    ∙ sym (no_more c.args.fit.now.nodes before last)
    ∙ ap (λ ts. record { nodes = c.args.fit.now.nodes; arcs = before ++ with_terms last ts ∷ [] }) (sym (has_none s sp t c.args.terms.now c.args.m.now unit c.args.first ready c.args.query lq c.args.group low inv none))
