use Rattle.tda_demo_laws.proofs.Accepted.{are_accepted, are_short, is_sized}
use Rattle.tda_demo_laws.proofs.law.demo_is_accepted.Goals as goal

pub returns : goal.returns
returns c = record {
  accepted = are_accepted c.args.number c.args.size c.requires.some c.requires.few;
  short = are_short c.args.number c.args.size c.requires.some c.requires.few;
  sized = is_sized c.args.number c.args.size c.requires.some c.requires.few;
}
