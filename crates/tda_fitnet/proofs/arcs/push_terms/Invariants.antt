-- The queries so far.
use Rattle.std.proofs.Common.{◌≡◌, ◌<◌, ◌≤◌, ◌++◌, ◌∷◌, [], ℕ, List, length, take}
use Rattle.tda_model.specs.Schema.{Schema}
use Rattle.tda_model.specs.Spine.{Spine, level_of}
use Rattle.tda_schema.specs.Stated.{queries_at}
use Rattle.tda_invar.specs.Known.{JoinedLists}
use Rattle.tda_groups.specs.Order.{group_at}
use Rattle.tda_groups.specs.Tree.{Tree}
use Rattle.tda_fitnet.specs.Arcs.{NamedArc}
use Rattle.tda_fitnet.specs.Inputs.{inputs_of}
use Rattle.tda_fitnet.specs.Terms.{terms_from}
use Rattle.tda_fitnet.specs.TermTable.{AreTermsAt}
use Rattle.tda_fitnet.specs.NamedNetwork.{with_terms}
use Rattle.tda_fitnet.proofs.arcs.push_terms.Given as goal

abbrev pub invariant-loop-query : goal.invariant-loop-query
invariant-loop-query l =
    (s : Schema) (sp : Spine) (t : Tree) (unit : ℕ) → AreTermsAt s sp t l.fn.terms l.fn.m unit l.fn.first → l.fn.group < length t.groups → (inv : JoinedLists)
    → ((before : List NamedArc) (last : NamedArc) → l.fn.fit.arcs ≡ before ++ last ∷ []
    → l.fit ≡ record { nodes = l.fn.fit.nodes; arcs = before ++ with_terms last (terms_from (inputs_of s sp inv l.fn.m) unit 0 (take l.query (queries_at s (level_of sp unit))) (group_at t.groups l.fn.group)) ∷ [] })
    × (length (terms_from (inputs_of s sp inv l.fn.m) unit 0 (take l.query (queries_at s (level_of sp unit))) (group_at t.groups l.fn.group)) ≤ l.query)
