use Rattle.std.proofs.Common.{◌≡◌, sym, subst, arith, rules}
use Rattle.deck.specs.Faults.{told}
use Rattle.deck.specs.Readers.{Unfinished}
use Rattle.deck.specs.declared.phase.Phase.TheVariants.{Done}
use Rattle.deck.proofs.Exits.{carried}
use Rattle.deck.proofs.Running.{goes_on, took_some, unfinished, faulted}
use Rattle.deck.proofs.reader.DeckReader.run.Goals as goal

pub returns-in_err-_entry : goal.returns-in_err-_entry
returns-in_err-_entry c =
    let d = c.loop-self.self in
    let f = c.in_err-_entry.field-0.0 in
    let bad = c.in_err-_entry.ensures in
    let not_done : d.phase ≡ Done → ⊥ = search rules in
    carried c.from_residual.result f _ _ c.from_residual.ensures.1
    (faulted d c.args.bytes.now c.loop-self.used (told f) c.loop-self.invariant not_done bad.0, subst Unfinished (sym bad.1) (unfinished d not_done))

pub overflow_add-used : goal.overflow_add-used
overflow_add-used c =
    let next = goes_on c.loop-self.self c.next.new.self c.args.bytes.now c.loop-self.used c.in_ok-_entry.field-0 c.loop-self.invariant c.in_ok-_entry.ensures in
    search rules

pub loop-self-smaller : goal.loop-self-smaller
loop-self-smaller c =
    let next = goes_on c.loop-self.self c.next.new.self c.args.bytes.now c.loop-self.used c.in_ok-_entry.field-0 c.loop-self.invariant c.in_ok-_entry.ensures in
    omega (arith, next.0, took_some _ _ _ _ c.in_ok-_entry.ensures)

pub loop-self-preserved : goal.loop-self-preserved
loop-self-preserved c = goes_on c.loop-self.self c.next.new.self c.args.bytes.now c.loop-self.used c.in_ok-_entry.field-0 c.loop-self.invariant c.in_ok-_entry.ensures
