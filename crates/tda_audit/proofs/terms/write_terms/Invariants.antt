use Rattle.std.proofs.Common.{◌≡◌, ◌≤◌, All, length, take}
use Rattle.tda_model.specs.Spine.{level_of}
use Rattle.tda_schema.specs.Stated.{queries_at}
use Rattle.tda_invar.specs.Known.{JoinedLists}
use Rattle.tda_flow.specs.Network.{IsNetTerm}
use Rattle.tda_groups.specs.Order.{group_at}
use Rattle.tda_fitnet.specs.Inputs.{inputs_of}
use Rattle.tda_fitnet.specs.Terms.{terms_from}
use Rattle.tda_audit.proofs.terms.write_terms.Given as goal

abbrev pub invariant-loop-query : goal.invariant-loop-query
invariant-loop-query l = record {
  count : length l.terms.items ≤ l.query;
  each : All IsNetTerm l.terms.items;
  are : (inv : JoinedLists) → l.terms.items ≡ terms_from (inputs_of l.schema l.spine inv l.m) l.unit 0 (take l.query (queries_at l.schema (level_of l.spine l.unit))) (group_at l.tree.groups l.group);
}
