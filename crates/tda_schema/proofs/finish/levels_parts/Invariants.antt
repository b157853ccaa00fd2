use Rattle.std.proofs.Common.{◌≡◌, true, map, take}
use Rattle.std.specs.List.{list_all}
use Rattle.tda_schema.specs.Levels as levels
use Rattle.tda_schema.specs.Parts.{level_is_nested}
use Rattle.tda_schema.proofs.finish.levels_parts.Given as goal

abbrev pub invariant-loop-level : goal.invariant-loop-level
invariant-loop-level l = record {
  nested : list_all (level_is_nested l.stated) (take l.level-index l.stated.levels) ≡ true;
  parts : l.parts.items ≡ map (levels.family_level l.stated) (take l.level-index l.stated.levels);
}
