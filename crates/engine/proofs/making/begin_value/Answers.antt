use Rattle.std.proofs.Common.{◌-◌, length, take, drop, get_or, subst, Contains, rules}
use Rattle.std.proofs.lemmas.List.Elements.{Contains-get_or}
use Rattle.engine.proofs.Folding.{of_rest}
use Rattle.engine.proofs.making.begin_value.Goals as goal

pub base_of-fold-requires-clause-a_line : goal.base_of-fold-requires-clause-a_line
base_of-fold-requires-clause-a_line g c =
    let reads = c.reads.result.now in
    c.requires.of_lines (get_or reads 0 0) (subst (λ ms. Contains ms (get_or reads 0 0)) c.reads.ensures (Contains-get_or reads 0 0 (search rules)))

pub base_of-requires-clause-a_line : goal.base_of-requires-clause-a_line
base_of-requires-clause-a_line g c =
    let reads = c.reads.result.now in
    let rest = take (length reads - 1) (drop 1 reads) in
    let m = get_or rest c.loop-line.line-index 0 in
    c.requires.of_lines m (subst (λ ms. Contains ms m) c.reads.ensures (of_rest reads m (Contains-get_or rest c.loop-line.line-index 0 (search rules))))
