-- The decks of the table: the netlist of one, and the first faults of the others.
use Rattle.std.proofs.Common.{◌≡◌, ℕ, zero, suc, ◌-◌, ◌^◌, ◌<◌, ◌≤◌, Bool, true, false, cond, not, eqb, nat_lt, List, [], ◌∷◌, ◌++◌, length, get_or, decimal, refl, sym, ap, inl, inr, codes, arith}
use Rattle.std.specs.Fmt.{digits}
use Rattle.std.specs.List.{list_all}
use Rattle.std.proofs.lemmas.Bool.{and_parts, not-true}
use Rattle.netlist.specs.declared.kind.Kind.{Kind}
use Rattle.netlist.specs.Drafts.{Sheet, within_limits, lines, complete}
use Rattle.netlist.specs.Gates.{Circuit, legal, on_lines, nothing}
use Rattle.netlist.specs.Judging.{LowestFree}
use Rattle.netlist.specs.Walks.{Walk, Reads, no_gate}
use Rattle.columns.proofs.Decimals.{no_number}
use Rattle.columns.proofs.Spelled.{after_blanks_same, decimal_no_blank, digit_decimal}
use Rattle.deck.specs.Closing.{Refused, ClosedOutcome}
use Rattle.deck.specs.Faults.{Told}
use Rattle.deck.specs.Outcomes.{FirstFault, Fails, FailsTest, Unended, used, fault}
use Rattle.deck.specs.Progress.{Begun, Whole, going, rows_begun}
use Rattle.deck.specs.Rows.{spell}
use Rattle.deck.specs.Tests.{Shows, figure, range}
use Rattle.deck.proofs.Numbers.{shows_one, narrow_small}
use Rattle.semantics.specs.Worked.{pulse}
use Rattle.semantics.proofs.Working.{reached}
use Rattle.cases.specs.Cases.{ended}

unended : (r : List ℕ) → list_all (λ b. not (eqb b 10)) r ≡ true → Unended r
unended [] all = tt
unended (b ∷ bs) all = let parts = and_parts (not (eqb b 10)) (list_all (λ b. not (eqb b 10)) bs) all in (λ is. differ b is (not-true (eqb b 10) parts.0), unended bs parts.1)
  where
    differ : (b : ℕ) → b ≡ 10 → eqb b 10 ≡ false → ⊥
    differ b is other = let same : eqb b 10 ≡ true = ap (λ k. eqb k 10) is in cc

-- a draft whose gates and outputs all stand
whole_draft : (s : Sheet) → within_limits s.circuit.inputs s.gates s.outputs ≡ true → length s.circuit.gates ≡ s.gates → length s.circuit.outputs ≡ s.outputs → list_all (legal (lines s)) s.circuit.gates ≡ true → on_lines (lines s) s.circuit.outputs ≡ true → complete s ≡ true → Whole s
whole_draft s limits gates outputs legal on_lines all = record {
  begun = record {
    limits = limits;
    inputs_few = omega arith;
    gates_few = omega (arith, gates);
    outputs_few = omega (arith, outputs);
    gates_legal = legal;
    outputs_on_lines = on_lines;
    inputs_first = λ some. refl;
    gates_first = λ some. gates;
  };
  all_there = all;
}

-- a deck that is whole
abbrev pulse_drawn : Sheet
pulse_drawn = record { gates = 2; outputs = 1; circuit = pulse }

pub pulse_read : ClosedOutcome (ended (codes "N   1   2   1" ∷ codes "I   1" ∷ codes "G   2NOT     2   1" ∷ codes "G   3AND     1   1   2" ∷ codes "O   3" ∷ codes "E" ∷ [])) (used 70) pulse
unfolding digits
pulse_read = record {
  draft = pulse_drawn;
  deck = record {
    whole = whole_draft pulse_drawn refl refl refl refl refl refl;
    rest = [];
    spelled = refl;
    count_is = refl;
  };
  reached = reached;
  same = refl;
}

-- a gate that reads itself, beside an input
abbrev alone : Circuit
alone = record { inputs = 1; gates = record { kind = Kind.Not; delay = 1; reads = 2 ∷ [] } ∷ []; outputs = 2 ∷ [] }

no_other_gate : (k : ℕ) → 1 ≤ k → (get_or alone.gates k no_gate).reads ≡ []
no_other_gate zero past = absurd (omega arith)
no_other_gate (suc k) past = refl

none_either_way : (b : Bool) (reads : List ℕ) → reads ≡ [] → length (cond b reads []) ≡ 0
none_either_way true reads none = ap length none
none_either_way false reads none = refl

only_itself : (n m : ℕ) → Reads alone n m → m ≡ 2
only_itself zero m read = absurd (omega (arith, read.within))
only_itself (suc zero) m read = absurd (omega (arith, read.within))
only_itself (suc (suc zero)) m read = at_place read.place read.within read.is
  where
    at_place : (k : ℕ) → k < 1 → get_or (2 ∷ []) k 0 ≡ m → m ≡ 2
    at_place zero within is = sym is
    at_place (suc k) within is = absurd (omega arith)
only_itself (suc (suc (suc n))) m read =
    let line = suc (suc (suc n)) in absurd (omega (arith, read.within, none_either_way (nat_lt 1 line) (get_or alone.gates (line - 2) no_gate).reads (no_other_gate (line - 2) (omega arith))))

from_itself : {m n : ℕ} → Walk alone m n → m ≡ 2
from_itself {m} (Walk.step {n = n} read) = only_itself n m read
from_itself {m} (Walk.on {j = j} read walk) = only_itself j m read

free : LowestFree alone 2
free = record {
  past_inputs = omega arith;
  a_line = omega arith;
  free = λ leads. omega (arith, leads.not_after, from_itself leads.walk);
  lower_reached = λ k past below. absurd (omega arith);
}

pub free_told : ClosedOutcome (ended (codes "N   1   1   1" ∷ codes "I   1" ∷ codes "G   2NOT     1   2" ∷ codes "O   2" ∷ codes "E" ∷ [])) (fault (record { number = 9; layer = 78; at = 3; column = 1 })) nothing
unfolding digits
free_told = (
  Refused.unreached (record {
    count = 47;
    draft = record { gates = 1; outputs = 1; circuit = alone };
    deck = record {
      whole = whole_draft (record { gates = 1; outputs = 1; circuit = alone }) refl refl refl refl refl refl;
      rest = [];
      spelled = refl;
      count_is = refl;
    };
    fault = record { line = 2; free = free; is = refl };
    its_gate = record { kind = Kind.Not; delay = 1; reads = 2 ∷ [] };
    its_record = refl;
  }),
  refl,
)

-- a draft of one input and one gate, of which so many inputs are told
abbrev opened : Sheet
opened = record { gates = 1; outputs = 1; circuit = record { inputs = 1; gates = []; outputs = [] } }

begun : (told : ℕ) → told ≤ 1 → Begun opened told
begun told few = record {
  limits = refl;
  inputs_few = few;
  gates_few = omega arith;
  outputs_few = omega arith;
  gates_legal = refl;
  outputs_on_lines = refl;
  inputs_first = λ some. absurd (omega arith);
  gates_first = λ some. absurd (omega arith);
}

-- the fault of a record, where the ones before it say these inputs
told_of : (told : ℕ) → told ≤ 1 → (rest : List ℕ) (f : Told) → Fails (going opened told) (suc (length (rows_begun opened told))) rest f → FirstFault (spell (rows_begun opened told) ++ rest) f
told_of told few rest f fails = record {
  before = going opened told;
  legal = begun told few;
  unfinished = λ s is. cc;
  rest = rest;
  spelled_before = refl;
  fails = fails;
}

zero_first : (n : ℕ) → n < 2 ^ 64 → codes "01" ≡ decimal n → ⊥
zero_first n small is = no_number (codes "01") (λ leads. omega (arith, leads.alone refl)) n small is

blank_last : (n : ℕ) → n < 2 ^ 64 → codes "1 " ≡ decimal n → ⊥
blank_last n small is = let digit = digit_decimal n 1 small (omega (arith, ap length is)) in omega (arith, digit, ap (λ l. get_or l 1 0) is)

-- a field of an input that ends in two bytes which are no number
no_figure : (one other : ℕ) → (one ≡ 32 → ⊥) → ((n : ℕ) → n < 2 ^ 64 → one ∷ other ∷ [] ≡ decimal n → ⊥) → (n : ℕ) → Shows (73 ∷ 32 ∷ 32 ∷ one ∷ other ∷ []) 2 4 n → ⊥
no_figure one other stop none n shown =
    let small = narrow_small 4 n (omega arith) shown.fits in
    none n small (after_blanks_same 2 (4 - length (decimal n)) (one ∷ other ∷ []) (decimal n) stop (decimal_no_blank n small) shown.spelling)

field_told : (one other : ℕ) → Unended (73 ∷ 32 ∷ 32 ∷ one ∷ other ∷ []) → (one ≡ 32 → ⊥) → ((n : ℕ) → n < 2 ^ 64 → one ∷ other ∷ [] ≡ decimal n → ⊥) → ClosedOutcome (ended (codes "N   1   1   1" ∷ (73 ∷ 32 ∷ 32 ∷ one ∷ other ∷ []) ∷ [])) (fault (record { number = 4; layer = 70; at = 2; column = 2 })) nothing
unfolding digits
field_told one other whole stop none = (
  Refused.unread (told_of 0 (omega arith) (73 ∷ 32 ∷ 32 ∷ one ∷ other ∷ 10 ∷ []) _ (FailsTest.failed (73 ∷ 32 ∷ 32 ∷ one ∷ other ∷ []) [] (figure 2 4) refl whole (inr ((32 ∷ 32 ∷ one ∷ other ∷ [], refl), inr (refl, inl (refl, λ shown. no_figure one other stop none shown.0 shown.1)))) refl)),
  refl,
)

pub zero_first_told : ClosedOutcome (ended (codes "N   1   1   1" ∷ codes "I  01" ∷ [])) (fault (record { number = 4; layer = 70; at = 2; column = 2 })) nothing
zero_first_told = field_told 48 49 (unended (codes "I  01") refl) (λ is. omega arith) zero_first

pub blank_last_told : ClosedOutcome (ended (codes "N   1   1   1" ∷ codes "I  1 " ∷ [])) (fault (record { number = 4; layer = 70; at = 2; column = 2 })) nothing
blank_last_told = field_told 49 32 (unended (codes "I  1 ") refl) (λ is. omega arith) blank_last

-- a delay of 0
no_delay : (n : ℕ) → Shows (codes "G   2NOT     0   1") 10 5 n → 1 ≤ n → ⊥
unfolding digits
no_delay n shown least = omega (arith, shows_one (codes "G   2NOT     0   1") 10 5 n 0 (omega arith) shown (record { fits = omega arith; spelling = refl }))

pub no_delay_told : ClosedOutcome (ended (codes "N   1   1   1" ∷ codes "I   1" ∷ codes "G   2NOT     0   1" ∷ [])) (fault (record { number = 5; layer = 82; at = 3; column = 10 })) nothing
unfolding digits
no_delay_told = (
  Refused.unread (told_of 1 (omega arith) (codes "G   2NOT     0   1" ++ (10 ∷ [])) _ (FailsTest.failed (codes "G   2NOT     0   1") [] (range 10 5 1 65535) refl (unended (codes "G   2NOT     0   1") refl)
      (inr ((codes "   2NOT     0   1", refl), inr (refl, inr ((2, line), inr (line, inr ((Kind.Not, refl), inr ((0, delay), inl (refl, λ shown. no_delay shown.0 shown.1 shown.2))))))))
      refl)),
  refl,
)
  where
    line : Shows (codes "G   2NOT     0   1") 2 4 2
    line = record { fits = omega arith; spelling = refl }

    delay : Shows (codes "G   2NOT     0   1") 10 5 0
    delay = record { fits = omega arith; spelling = refl }
