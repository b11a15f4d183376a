use Rattle.std.proofs.Common.{ℕ, ◌<◌, ◌≤◌}
use Rattle.engine.specs.Lines.{panel}
use Rattle.engine.proofs.lines.Lines.behind.Given as goal

abbrev pub invariant-loop-place : goal.invariant-loop-place
invariant-loop-place l = (n : ℕ) → 0 < n → n ≤ l.place → l.tick ≤ ((panel l.self).progress n).tick
