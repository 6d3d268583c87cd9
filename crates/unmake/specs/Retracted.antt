-- Un-make as document 01 says it: the refusals 9 to 12 in order, and the one value of the un-made position.
use Rattle.std.specs.Prelude.{Bool, cond}
use Rattle.laws.specs.declared.Position.{Position}
use Rattle.laws.specs.declared.ChessRetraction.{ChessRetraction}
use Rattle.laws.specs.Positions.{Pos, retractor}
use Rattle.laws.specs.Unmaking.{source_ok, target_ok, held, supported, way_back, unmade}
use Rattle.refusal.specs.declared.Refusal.TheVariants.{Source, Target, Held, Step}
use Rattle.position.specs.declared.Positioned.{Positioned}
use Rattle.position.specs.Answers.{position_of, answered, refused}

-- 9 SOURCE passes, 10 TARGET passes, 11 HELD is given, 12 STEP passes: the Laws' tests of the retractor, shut
unfoldable pub source_for : Pos → ChessRetraction → Bool
source_for p r = source_ok (retractor p) p r

unfoldable pub target_for : Pos → ChessRetraction → Bool
target_for p r = target_ok p r

unfoldable pub held_for : Pos → ChessRetraction → Bool
held_for p r = held p.rights (retractor p) r.source

unfoldable pub step_for : Pos → ChessRetraction → Bool
step_for p r = supported (way_back (retractor p) p r) (retractor p) (unmade p r) p r

-- the un-made position's one value
unfoldable pub unmade_for : Pos → ChessRetraction → Position
unmade_for p r = position_of (unmade p r)

-- "un-make 9 to 12", in order of test
unfoldable pub stepped_to : Pos → ChessRetraction → Positioned
stepped_to p r = cond (step_for p r) (answered (unmade_for p r)) (refused Step)

unfoldable pub unmade_to : Pos → ChessRetraction → Positioned
unmade_to p r =
    cond (source_for p r) (cond (target_for p r) (cond (held_for p r) (refused Held) (stepped_to p r)) (refused Target)) (refused Source)
