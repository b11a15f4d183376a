use Rattle.std.proofs.Common.{◌≡◌, ℕ, suc, ◌<◌, ◌≤◌, length, get_or}
use Rattle.semantics.specs.Accounts.{Account}
use Rattle.queue.specs.Keys.{no_key}
use Rattle.engine.specs.Lines.{panel}
use Rattle.engine.specs.Orders.{Keyed}
use Rattle.engine.specs.Standing.{machine_of, Stands}
use Rattle.engine.proofs.running.queue_of.Given as goal

abbrev pub invariant-loop-place : goal.invariant-loop-place
invariant-loop-place g l = record {
  long : length l.keys ≡ 1024;
  rest : (i : ℕ) → l.place ≤ i → i < 1024 → get_or l.keys i 0 ≡ no_key;
  keyed : (a : Account g.V.ValueSystem.Sense) → Stands g.V.ValueSystem.meaning g.V.ValueSystem.system (panel l.lines) l.store a → (i : ℕ) → i < l.place → Keyed (machine_of g.V.ValueSystem.system (panel l.lines)) a (suc i) (get_or l.keys i 0);
}
