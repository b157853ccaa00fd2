-- The text of an audit's answer: `no`, and what fails first.
use Rattle.std.specs.Prelude.{codes, ℕ, ◌<◌, List, [], Option, Some, None, IfSome}
use Rattle.tda_model.specs.Schema.{Schema}
use Rattle.tda_model.specs.Groups.{kind_count}
use Rattle.tda_model.specs.Spine.{Spine, IsUnit, code_of}
use Rattle.tda_flow.specs.declared.judge.Side.{Side}
use Rattle.tda_flow.specs.declared.judge.Side.TheVariants.{Up, Down}
use Rattle.tda_fitnet.specs.declared.name.ArcName.{ArcName}
use Rattle.tda_fitnet.specs.declared.name.ArcName.TheVariants.{Fixed, Share, Give, Group}
use Rattle.tda_audit.specs.declared.verdict.Verdict.{Verdict}
use Rattle.tda_audit.specs.declared.verdict.Verdict.TheVariants.{Yes, Sum, Impossible, Total, Kind, Arc}
use Rattle.tda_refusal.specs.Refusal.{coded, numbered, kind_name, IsPair}

-- the nation's fit is named by a dash, and that of a unit's children by the unit's code
abbrev pub fit_name : Spine → Option ℕ → List ℕ
fit_name sp None = codes "-"
fit_name sp (Some p) = code_of sp p

abbrev pub side_name : Side → List ℕ
side_name Up = codes "up"
side_name Down = codes "down"

-- text before it, and then an arc
abbrev pub with_arc : Schema → Spine → List ℕ → ArcName → List ℕ
with_arc s sp text Fixed = coded text (codes "fixed")
with_arc s sp text (Share state kind) = coded (coded (coded text (codes "share")) (code_of sp state)) (kind_name s kind)
with_arc s sp text (Give unit cell) = numbered (coded (coded text (codes "give")) (code_of sp unit)) cell
with_arc s sp text (Group unit group) = numbered (coded (coded text (codes "group")) (code_of sp unit)) group

-- Yes has no text
abbrev pub verdict_text : Schema → Spine → Verdict → List ℕ
verdict_text s sp Yes = []
verdict_text s sp (Sum unit cell) = numbered (coded (codes "no sum") (code_of sp unit)) cell
verdict_text s sp (Impossible unit cell) = numbered (coded (codes "no impossible") (code_of sp unit)) cell
verdict_text s sp (Total state) = coded (codes "no total") (code_of sp state)
verdict_text s sp (Kind unit kind) = coded (coded (codes "no kind") (code_of sp unit)) (kind_name s kind)
verdict_text s sp (Arc fit arc side) = coded (with_arc s sp (coded (codes "no arc") (fit_name sp fit)) arc) (side_name side)

-- the units that it names are the spine's, and the kinds the schema's
abbrev pub ArcIsKnown : Schema → Spine → ArcName → Type 0
ArcIsKnown s sp Fixed = Unit {0}
ArcIsKnown s sp (Share state kind) = IsPair s sp state kind
ArcIsKnown s sp (Give unit cell) = IsUnit sp unit
ArcIsKnown s sp (Group unit group) = IsUnit sp unit

pub record IsArcKnown (s : Schema) (sp : Spine) (fit : Option ℕ) (arc : ArcName) : Type 0 where
  pub fit_is : IfSome fit (IsUnit sp)
  pub arc_is : ArcIsKnown s sp arc

abbrev pub VerdictIsKnown : Schema → Spine → Verdict → Type 0
VerdictIsKnown s sp Yes = Unit {0}
VerdictIsKnown s sp (Sum unit cell) = IsUnit sp unit
VerdictIsKnown s sp (Impossible unit cell) = IsUnit sp unit
VerdictIsKnown s sp (Total state) = IsUnit sp state
VerdictIsKnown s sp (Kind unit kind) = IsPair s sp unit kind
VerdictIsKnown s sp (Arc fit arc side) = IsArcKnown s sp fit arc
