use Rattle.std.proofs.Common.{Ok, ◌≡◌, ◌-◌, min, length, Option, None, Some, sym, ap, ◌∙◌, subst, arith}
use Rattle.deck.specs.Faults.{told}
use Rattle.deck.specs.declared.fault.Layer.{Layer}
use Rattle.deck.proofs.Exits.{carried}
use Rattle.engine.specs.Answers.{numbered}
use Rattle.engine.specs.Sessions.{KeepsItsOwn}
use Rattle.netlist.specs.Closed.{circuit}
use Rattle.netlist.specs.Refusals.{number}
use Rattle.semantics.specs.Circuits.{lines}
use Rattle.stimulus.specs.Readers.{Place, place, Outcome}
use Rattle.stimulus.specs.declared.entry.Taken.{Taken}
use Rattle.stimulus.specs.declared.entry.Entry.TheVariants.{End}
use Rattle.listing.proofs.Giving.{begun, went_on, refused, all_given, stopped}
use Rattle.listing.proofs.lister.give_all.Goals as goal

-- what was answered, as it was found to be
answered : (p q : Place) (x y : Option Taken) → x ≡ y → Outcome p (Ok x) q → Outcome p (Ok y) q
answered p q x y is outcome = subst (λ z. Outcome p (Ok z) q) is outcome

pub loop-taken-init : goal.loop-taken-init
loop-taken-init c =
    let begins = c.new-reader.ensures.begins in
    let at : (place c.new-reader.result).at ≡ min c.args.first (18446744073709551615 - length c.args.stimulus.now) = ap (λ (p : Place). p.at) begins in
    begun c.args.session.now c.args.stimulus.now c.args.first (place c.new-reader.result) (ap (λ (p : Place). p.rest) begins) (omega (arith, c.requires))
    (ap (λ (p : Place). p.lines) begins ∙ c.lines.ensures ∙ ap (λ n. lines (circuit n)) c.netlist.ensures.is_its_netlist) (ap (λ (p : Place). p.phase) begins)

pub loop-taken-preserved : goal.loop-taken-preserved
loop-taken-preserved c =
    let took = answered (place c.loop-taken.reader) (place c.next.new.self) _ (Some c.in-Some.taken) c.in-Some.is c.in_ok-taken.ensures.answers in
    went_on c.args.session.now c.args.stimulus.now c.args.first c.loop-taken.session (place c.loop-taken.reader) c.loop-taken.invariant (place c.next.new.self) c.in-Some.taken took c.give.new.session (numbered c.give.result) (ap numbered c.in_default-give.is)
    c.give.ensures.keeps (λ is. (c.give.ensures.ends is).1) (λ given. c.give.ensures.answers given)

pub returns-in_err-taken-clause-keeps : goal.returns-in_err-taken-clause-keeps
returns-in_err-taken-clause-keeps c = c.loop-taken.invariant.under.keeps

pub returns-in_err-taken-clause-answers : goal.returns-in_err-taken-clause-answers
returns-in_err-taken-clause-answers c a stands =
    let f = c.in_err-taken.field-0.0 in
    let stop = stopped c.args.session.now c.args.stimulus.now c.args.first c.loop-taken.session (place c.loop-taken.reader) c.loop-taken.invariant (told f) c.in_err-taken.ensures.answers.0 a stands in
    (stop.0, stop.1, carried c.from_residual.result f _ _ c.from_residual.ensures.1 stop.2)

pub returns-in-Err-clause-keeps : goal.returns-in-Err-clause-keeps
returns-in-Err-clause-keeps c = subst (KeepsItsOwn c.args.session.now) (sym c.in-Err.ensures.refused_alters_nothing) c.loop-taken.invariant.under.keeps

pub returns-in-Err-clause-answers : goal.returns-in-Err-clause-answers
returns-in-Err-clause-answers c a stands =
    let took = answered (place c.loop-taken.reader) (place c.next.new.self) _ (Some c.in-Some.taken) c.in-Some.is c.in_ok-taken.ensures.answers in
    let no_end : c.in-Some.taken.entry ≡ End → ⊥ = λ is. let both = (c.in-Err.ensures.ends is).0 in cc in
    refused c.args.session.now c.args.stimulus.now c.args.first c.loop-taken.session (place c.loop-taken.reader) c.loop-taken.invariant (place c.next.new.self) c.in-Some.taken took c.give.new.session (number c.in-Err.refusal)
    (record { refusal = c.in-Err.refusal; layer = Layer.Session; «record» = c.in-Some.taken.«record»; column = 1 })
    (ap (λ n. record { number = number c.in-Err.refusal; layer = 83; at = n; column = 1 }) took.number) no_end c.in-Err.ensures.refused_alters_nothing (c.in-Err.ensures.answers no_end) a stands

pub returns-clause-keeps : goal.returns-clause-keeps
returns-clause-keeps c = c.loop-taken.invariant.under.keeps

pub returns-clause-answers : goal.returns-clause-answers
returns-clause-answers c a stands =
    let over = answered (place c.loop-taken.reader) (place c.next.new.self) _ None c.in_default.is c.in_ok-taken.ensures.answers in
    all_given c.args.session.now c.args.stimulus.now c.args.first c.loop-taken.session (place c.loop-taken.reader) c.loop-taken.invariant over.0 a stands
