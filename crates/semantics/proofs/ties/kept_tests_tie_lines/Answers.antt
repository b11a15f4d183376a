use Rattle.std.proofs.Common.{◌≡◌, true}
use Rattle.semantics.proofs.Proved.{ties_lines}
use Rattle.semantics.proofs.ties.kept_tests_tie_lines.Goals as goal

pub returns : goal.returns
returns g c = record {
  tie_lines = λ test kept circuit room other wired. ties_lines g.V.ValueSystem.system g.W.ValueSystem.system circuit room other wired (λ left right. test left right ≡ true) kept;
}
