-- What the test of a range tells of a number, and that of a count of the lines that a kind takes.
use Rattle.std.proofs.Common.{◌≡◌, ℕ, ◌≤◌, true, leb, arith}
use Rattle.std.proofs.lemmas.Bool.{eqb-true, leb-true, le-leb, and_parts, and_from}
use Rattle.std.specs.Int.{is_in_range}
use Rattle.netlist.specs.declared.kind.Kind.{Kind}
use Rattle.netlist.specs.declared.kind.Kind.TheVariants.{Buf, Not, And, Or, Xor, Nand, Nor, Xnor}
use Rattle.netlist.specs.Gates.{fits}

pub bounds : (least most n : ℕ) → is_in_range least most n ≡ true → (least ≤ n) × (n ≤ most)
bounds least most n e =
    let parts = and_parts (leb least n) (leb n most) e in
    (leb-true least n parts.0, leb-true n most parts.1)

pub inside : (least most n : ℕ) → least ≤ n → n ≤ most → is_in_range least most n ≡ true
inside least most n low high = and_from _ _ (le-leb least n low) (le-leb n most high)

-- every kind takes from one to four lines
pub count_fits : (k : Kind) (n : ℕ) → fits k n ≡ true → (1 ≤ n) × (n ≤ 4)
count_fits Buf n e = omega (arith, eqb-true n 1 e)
count_fits Not n e = omega (arith, eqb-true n 1 e)
count_fits And n e = omega (arith, bounds 2 4 n e)
count_fits Or n e = omega (arith, bounds 2 4 n e)
count_fits Xor n e = omega (arith, bounds 2 4 n e)
count_fits Nand n e = omega (arith, bounds 2 4 n e)
count_fits Nor n e = omega (arith, bounds 2 4 n e)
count_fits Xnor n e = omega (arith, bounds 2 4 n e)
