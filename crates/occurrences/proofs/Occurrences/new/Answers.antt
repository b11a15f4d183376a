use Rattle.std.proofs.Common.{None, refl, sym, subst, arith}
use Rattle.std.proofs.lemmas.List.{get_or-replicate}
use Rattle.occurrences.specs.Items.{LastBelow}
use Rattle.occurrences.proofs.Occurrences.new.Goals as goal

pub loop-place-init : goal.loop-place-init
loop-place-init c = record {
  last = (refl, λ item within. subst (LastBelow c.args.items item 0) (sym (get_or-replicate 1025 item None None (omega arith))) (λ i below. absurd (omega arith)));
  before = (refl, λ p below small. absurd (omega arith), λ p within great. get_or-replicate 1024 p None None within);
}
