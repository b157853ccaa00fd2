-- One query more.
use Rattle.std.proofs.Common.{◌≡◌, ◌<◌, ◌+◌, ◌++◌, ◌∷◌, [], ℕ, List, length, take, get_or, sym, ap, ◌∙◌, arith, length-append}
use Rattle.std.proofs.lemmas.List.{append_assoc, take_all}
use Rattle.tda_model.specs.Schema.{Query}
use Rattle.tda_model.specs.Spine.{level_of}
use Rattle.tda_model.specs.Release.{Inputs}
use Rattle.tda_schema.specs.Stated.{level_at, queries_at, query_at}
use Rattle.tda_groups.specs.Order.{group_at}
use Rattle.tda_flow.specs.declared.net.Term.{Term}
use Rattle.tda_fitnet.specs.Arcs.{NamedArc}
use Rattle.tda_fitnet.specs.Inputs.{inputs_of}
use Rattle.tda_fitnet.specs.Terms.{terms_from, query_terms}
use Rattle.tda_fitnet.specs.NamedNetwork.{NamedNetwork, with_terms}
use Rattle.tda_fitnet.proofs.TermsMore.{no_lists, terms_more, one_term, few_more}
use Rattle.tda_fitnet.proofs.arcs.push_terms.Goals as goal

more_is : (i : Inputs) (unit : ℕ) (qs : List Query) (cells : List ℕ) (k : ℕ) (d : Query) → k < length qs
    → terms_from i unit 0 (take (k + 1) qs) cells ≡ terms_from i unit 0 (take k qs) cells ++ query_terms i unit k (get_or qs k d) cells
more_is i unit qs cells k d l =
    let z : 0 + k ≡ k = omega arith in
    terms_more i unit 0 qs cells k d l ∙ ap (λ m. terms_from i unit 0 (take k qs) cells ++ query_terms i unit m (get_or qs k d) cells) z

joined : (nodes more : ℕ) (before : List NamedArc) (last : NamedArc) (xs ys zs : List Term) → nodes ≡ more → zs ≡ xs ++ ys
    → ◌≡◌ {A = NamedNetwork} (record { nodes = nodes; arcs = before ++ with_terms (with_terms last xs) ys ∷ [] }) (record { nodes = more; arcs = before ++ with_terms last zs ∷ [] })
joined nodes more before last xs ys zs e d =
    let at : ℕ → List Term → NamedNetwork = λ n ts. record { nodes = n; arcs = before ++ record { name = last.name; arc = last.arc; terms = ts } ∷ [] } in
    ap (λ n. at n ((last.terms ++ xs) ++ ys)) e ∙ ap (at more) (append_assoc last.terms xs ys ∙ ap (λ ts. last.terms ++ ts) (sym d))

pub push_query_term-requires-clause-last : goal.push_query_term-requires-clause-last
push_query_term-requires-clause-last c =
    let l = c.requires.last in
    let (s, sp, t, unit, ready, low) = c.requires.ready in
    let ts = terms_from (inputs_of s sp no_lists c.args.m.now) unit 0 (take c.loop-query.query (queries_at s (level_of sp unit))) (group_at t.groups c.args.group) in
    let old = c.loop-query.invariant s sp t unit ready low no_lists in (
      l.0,
      with_terms l.1 ts,
      ap (λ n. n.arcs) (old.0 l.0 l.1 l.2),
      omega (arith, length-append l.1.terms ts, ap length l.3, old.1, c.loop-query-test.true, c.queries-query-end.ensures, ready.table_is.count, ready.table_is.few),
    )

pub loop-query-preserved : goal.loop-query-preserved
loop-query-preserved c s sp t unit ready low inv =
    let i = inputs_of s sp inv c.args.m.now in
    let k = c.loop-query.query in
    let cells = group_at t.groups c.args.group in
    let qs = queries_at s (level_of sp unit) in
    let lk : k < length qs = omega (arith, c.loop-query-test.true, c.queries-query-end.ensures, ready.table_is.count) in
    let more : terms_from i unit 0 (take (k + 1) qs) cells ≡ terms_from i unit 0 (take k qs) cells ++ query_terms i unit k (query_at s (level_of sp unit) k) cells = more_is i unit qs cells k _ lk in
    let old = c.loop-query.invariant s sp t unit ready low inv in (
      λ before last e.
          let kept = old.0 before last e in
          c.in_ok-push_query_term.ensures s sp t unit ready low inv before (with_terms last (terms_from i unit 0 (take k qs) cells)) (ap (λ n. n.arcs) kept)
          ∙ joined _ _ before last _ _ _ (ap (λ n. n.nodes) kept) more,
      few_more _ _ _ k more old.1 (one_term i (level_at s (level_of sp unit)) t ready.tree c.args.group low unit k (query_at s (level_of sp unit) k) (ready.table_is.over_all k _ lk)),
    )

pub returns : goal.returns
returns c s sp t unit ready low inv before last e =
    (c.loop-query.invariant s sp t unit ready low inv).0 before last e
    ∙ ap (λ qs. record { nodes = c.args.fit.now.nodes; arcs = before ++ with_terms last (terms_from (inputs_of s sp inv c.args.m.now) unit 0 qs (group_at t.groups c.args.group)) ∷ [] })
    (take_all c.loop-query.query (queries_at s (level_of sp unit)) (omega (arith, c.queries-query-end.ensures, ready.table_is.count, c.loop-query-test.false)))
