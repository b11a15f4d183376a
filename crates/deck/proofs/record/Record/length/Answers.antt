use Rattle.std.proofs.Common.{eqb, sym, ap, ◌∙◌, add-one}
use Rattle.std.proofs.lemmas.List.Elements.{contains_decides}
use Rattle.std.proofs.lemmas.Bool.{both_ways}
use Rattle.std.proofs.lemmas.Bool.Decides.{same_from_decides, Decides-eqb}
use Rattle.deck.specs.Faults.{told}
use Rattle.deck.specs.Tests.{has}
use Rattle.deck.proofs.Cutting.{has_decides}
use Rattle.deck.proofs.record.Record.length.Goals as goal

pub returns-then-contains : goal.returns-then-contains
returns-then-contains c = ap (λ n. has n c.args.allowed.now) (sym (add-one _)) ∙ sym (same_from_decides c.contains.result _ (contains_decides eqb Decides-eqb c.args.allowed.now _ c.contains.result c.contains.ensures.cases) (has_decides _ c.args.allowed.now)) ∙ c.if-contains.true

pub returns-else-contains : goal.returns-else-contains
returns-else-contains c = record {
  fails = λ e. both_ways c.contains.result c.if-contains.false (same_from_decides c.contains.result _ (contains_decides eqb Decides-eqb c.args.allowed.now _ c.contains.result c.contains.ensures.cases) (has_decides _ c.args.allowed.now) ∙ ap (λ n. has n c.args.allowed.now) (add-one _) ∙ e);
  is = ap told c.fault.ensures;
}
