use Rattle.std.proofs.Common.{◌≡◌, ℕ, ◌<◌, [], length, get_or}
use Rattle.semantics.specs.Accounts.{Account}
use Rattle.engine.specs.Lines.{panel}
use Rattle.engine.specs.Orders.{KeysStay, KeyedAt}
use Rattle.engine.specs.Standing.{machine_of, Stands}
use Rattle.engine.proofs.running.requeue.Given as goal

abbrev pub invariant-loop-readers : goal.invariant-loop-readers
invariant-loop-readers g l = record {
  long : length l.queue ≡ length l.initial.queue;
  keeps : (a : Account g.V.ValueSystem.Sense) → Stands g.V.ValueSystem.meaning g.V.ValueSystem.system (panel l.lines) l.store a → KeysStay (machine_of g.V.ValueSystem.system (panel l.lines)) a l.initial.queue l.queue;
  sets : (a : Account g.V.ValueSystem.Sense) → Stands g.V.ValueSystem.meaning g.V.ValueSystem.system (panel l.lines) l.store a → (place : ℕ) → place < l.readers-index → KeyedAt (machine_of g.V.ValueSystem.system (panel l.lines)) a (get_or l.lines.readers place []) l.line l.queue;
}
