use Rattle.std.proofs.Common.{◌≡◌, ◌<◌, length}
use Rattle.std.specs.Prelude.{IfSome}
use Rattle.semantics.specs.Accounts.{Account}
use Rattle.engine.specs.Lines.{panel}
use Rattle.engine.specs.Orders.{KeysStay}
use Rattle.engine.specs.Standing.{machine_of, Stands}
use Rattle.engine.proofs.Queueing.{Stands as StandsAt, Looked, steps_left}
use Rattle.engine.proofs.running.requeue_at.Given as goal

abbrev pub invariant-loop-next : goal.invariant-loop-next
invariant-loop-next g l = record {
  long : length l.queue ≡ length l.initial.queue;
  keeps : (a : Account g.V.ValueSystem.Sense) → Stands g.V.ValueSystem.meaning g.V.ValueSystem.system (panel l.lines) l.store a → KeysStay (machine_of g.V.ValueSystem.system (panel l.lines)) a l.initial.queue l.queue;
  few : IfSome l.next (λ place. place < 1024);
  at : StandsAt l.readers l.line l.next;
  looked : (a : Account g.V.ValueSystem.Sense) → Stands g.V.ValueSystem.meaning g.V.ValueSystem.system (panel l.lines) l.store a → Looked (machine_of g.V.ValueSystem.system (panel l.lines)) a l.readers l.line l.next l.queue;
}

abbrev pub decreases-loop-next : goal.decreases-loop-next
decreases-loop-next g l = steps_left l.next
