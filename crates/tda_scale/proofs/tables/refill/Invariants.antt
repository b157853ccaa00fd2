use Rattle.std.proofs.Common.{◌≡◌, ◌≤◌, replicate, vec_capacity}
use Rattle.tda_scale.proofs.tables.refill.Given as goal

abbrev pub invariant-loop : goal.invariant-loop
invariant-loop g l = record {
  items : l.list.items ≡ replicate l.counter l.item;
  room : vec_capacity l.fn.list ≤ vec_capacity l.list;
}
