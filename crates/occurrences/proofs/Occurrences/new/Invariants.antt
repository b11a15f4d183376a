use Rattle.occurrences.specs.Items.{LastFound, BeforeFound}
use Rattle.occurrences.proofs.Occurrences.new.Given as goal

abbrev pub invariant-loop-place : goal.invariant-loop-place
invariant-loop-place l = record {
  last : LastFound l.items l.place l.last;
  before : BeforeFound l.items l.place l.before;
}
