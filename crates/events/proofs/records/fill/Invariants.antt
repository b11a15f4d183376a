use Rattle.std.proofs.Common.{◌≡◌, ◌-◌, replicate}
use Rattle.std.proofs.Math.Seq.{paste}
use Rattle.events.proofs.records.fill.Given as goal

abbrev pub invariant-loop-place : goal.invariant-loop-place
invariant-loop-place g l = l.records ≡ paste l.initial.records l.from (replicate (l.to - l.from) l.filler) (l.place - l.from)
