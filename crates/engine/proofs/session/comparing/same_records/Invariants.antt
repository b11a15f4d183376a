use Rattle.std.proofs.Common.{◌≡◌, map, take}
use Rattle.engine.specs.Stores.{seen}
use Rattle.engine.proofs.session.comparing.same_records.Given as goal

abbrev pub invariant-loop-place : goal.invariant-loop-place
invariant-loop-place g l = map (seen g.V.ValueSystem.meaning) (take l.place l.left) ≡ map (seen g.V.ValueSystem.meaning) (take l.place l.right)
