-- No refusal has the number 0, so an answer of 0 says that nothing was refused.
use Rattle.std.proofs.Common.{◌≡◌, ℕ, ◌<◌, Bool, true, false, cond, ◌&&◌, length, refl, ◌∙◌, arith}
use Rattle.std.proofs.lemmas.Bool.{and_parts, cond-true}
use Rattle.std.specs.Int.{is_in_range}
use Rattle.netlist.specs.declared.refusal.Refusal.{Refusal}
use Rattle.netlist.specs.Drafts.{Sheet, gate_answer, output_answer, takes_gate, takes_output, lines}
use Rattle.netlist.specs.Gates.{Gate, legal, fits, delay_fits, on_lines}
use Rattle.netlist.specs.Refusals.{number}

pub number_some : (r : Refusal) → 0 < number r
number_some Refusal.Cut = omega arith
number_some Refusal.Letter = omega arith
number_some Refusal.Length = omega arith
number_some Refusal.Figure = omega arith
number_some Refusal.Range = omega arith
number_some Refusal.Turn = omega arith
number_some Refusal.Kind = omega arith
number_some Refusal.Open = omega arith
number_some Refusal.Free = omega arith
number_some Refusal.Store = omega arith
number_some Refusal.Starts = omega arith
number_some Refusal.Line = omega arith
number_some Refusal.Past = omega arith
number_some Refusal.Late = omega arith
number_some Refusal.Unsettled = omega arith
number_some Refusal.Full = omega arith
number_some Refusal.Idle = omega arith
number_some Refusal.None = omega arith

-- what is refused failed its test
pub failed : (r : Refusal) (test : Bool) (n : ℕ) → number r ≡ cond test 0 n → test ≡ false
failed r false n e = refl
failed r true n e = absurd (omega (arith, number_some r))

-- 0 says that the test passed, and those after it
pub passed : (test : Bool) (rest n : ℕ) → 0 < n → cond test rest n ≡ 0 → (test ≡ true) × (rest ≡ 0)
passed true rest n some e = (refl, e)
passed false rest n some e = absurd (omega arith)

-- a legal gate that is next is not refused, nor is an output on a line that is next
pub gate_taken : (s : Sheet) (g : Gate) → takes_gate s ≡ true → legal (lines s) g ≡ true → gate_answer s g ≡ 0
gate_taken s g next fine =
    let last = and_parts (delay_fits g.delay && on_lines (lines s) g.reads) (fits g.kind (length g.reads)) fine in
    let front = and_parts (delay_fits g.delay) (on_lines (lines s) g.reads) last.0 in
    cond-true (takes_gate s) _ 2 next ∙ cond-true (delay_fits g.delay) _ 5 front.0 ∙ cond-true (on_lines (lines s) g.reads) _ 5 front.1 ∙ cond-true (fits g.kind (length g.reads)) 0 7 last.1

pub output_taken : (s : Sheet) (n : ℕ) → takes_output s ≡ true → is_in_range 1 (lines s) n ≡ true → output_answer s n ≡ 0
output_taken s n next fine = cond-true (takes_output s) _ 2 next ∙ cond-true (is_in_range 1 (lines s) n) 0 5 fine
