-- The text of a row that follows passes every test, and of a record that fails there is one first test.
use Rattle.std.proofs.Common.{◌≡◌, ℕ, zero, suc, ◌+◌, ◌*◌, ◌≤◌, true, List, [], ◌∷◌, ◌++◌, length, get_or, sym, refl, ap, ◌∙◌, inl, inr, arith}
use Rattle.std.specs.List.{AllByRecursion}
use Rattle.std.proofs.ByRecursion.{All-append}
use Rattle.std.proofs.lemmas.List.Sums.{AllPass-from_list_all}
use Rattle.std.specs.Int.{is_in_range}
use Rattle.netlist.specs.Gates.{Gate, fits}
use Rattle.netlist.proofs.Ranges.{bounds, count_fits}
use Rattle.deck.specs.Progress.{Expected, gate_next}
use Rattle.deck.specs.Records.{ReadsShown}
use Rattle.deck.specs.Rows.{Row, header, gate, text}
use Rattle.deck.specs.Tests.{Test, kind_known, kind_takes, Passes, FirstFailed, tests, number_tests, line_tests, reads_tests, reads_count, has}
use Rattle.deck.proofs.Failing.{number_pass, line_pass, reads_pass}
use Rattle.deck.proofs.Following.{Follows, a_header, an_input, a_gate, an_output, an_end, limited}
use Rattle.deck.proofs.Texts.{Says, says_text, Gated, gated}

pub none_failed : (r : List ℕ) (ts : List Test) (t : Test) → AllByRecursion (Passes r) ts → FirstFailed r ts t → ⊥
none_failed r [] t all first = first
none_failed r (u ∷ us) t all (inl here) = here.1 all.0
none_failed r (u ∷ us) t all (inr later) = none_failed r us t all.1 later.1

pub first_failed_one : (r : List ℕ) (ts : List Test) (t u : Test) → FirstFailed r ts t → FirstFailed r ts u → t ≡ u
first_failed_one r [] t u a b = absurd a
first_failed_one r (v ∷ vs) t u (inl a) (inl b) = a.0 ∙ sym b.0
first_failed_one r (v ∷ vs) t u (inl a) (inr b) = absurd (a.1 b.0)
first_failed_one r (v ∷ vs) t u (inr a) (inl b) = absurd (b.1 a.0)
first_failed_one r (v ∷ vs) t u (inr a) (inr b) = first_failed_one r vs t u a.1 b.1

gate_long : (n : ℕ) → 1 ≤ n → n ≤ 4 → has (14 + 4 * n) (18 ∷ 22 ∷ 26 ∷ 30 ∷ []) ≡ true
gate_long zero low high = absurd (omega arith)
gate_long (suc zero) low high = refl
gate_long (suc (suc zero)) low high = refl
gate_long (suc (suc (suc zero))) low high = refl
gate_long (suc (suc (suc (suc zero)))) low high = refl
gate_long (suc (suc (suc (suc (suc n))))) low high = absurd (omega arith)

gate_passes : (n m : ℕ) (g : Gate) → Gated m g → Says (text (gate n g)) (gate n g) → AllByRecursion (Passes (text (gate n g))) (tests (gate_next n m) (length (text (gate n g))))
gate_passes n m g parts a =
    let t = text (gate n g) in
    let long = a.0.long in
    let few = count_fits g.kind _ parts.fitting in
    let k = reads_count (length t) in
    let count : k ≡ length g.reads = omega arith in
    let shown : ReadsShown t m k g.reads = λ i below. let line = bounds 1 m (get_or g.reads i 0) (AllPass-from_list_all (is_in_range 1 m) g.reads parts.on i 0 (omega arith)) in (a.0.each i (omega arith), line.0, line.1) in
    let last = kind_takes k ∷ [] in
    let from_reads = reads_tests m k ++ last in
    let from_delay = number_tests 10 5 1 65535 ++ from_reads in (
      (_, refl),
      (
        ap (λ n. has n (18 ∷ 22 ∷ 26 ∷ 30 ∷ [])) long ∙ gate_long _ few.0 few.1,
        All-append (Passes t) (line_tests 2 4 n) (kind_known ∷ from_delay) (line_pass t 2 4 n a.1) (
          (g.kind, a.2),
          All-append (Passes t) (number_tests 10 5 1 65535) from_reads (number_pass t 10 5 1 65535 g.delay a.3 parts.delayed)
              (All-append (Passes t) (reads_tests m k) last (reads_pass t m k g.reads shown)
              ((g.kind, a.2, ap (fits g.kind) count ∙ parts.fitting), tt)),
        ),
      ),
    )

said_passes : (e : Expected) (r : Row) → Follows e r → Says (text r) r → AllByRecursion (Passes (text r)) (tests e (length (text r)))
said_passes _ _ (a_header {i} {g} {o} l) a =
    let limits = limited i g o l in
    let t = text (header i g o) in
    let outputs = number_tests 10 4 1 256 in (
      (_, refl),
      (
        ap (λ n. has n (13 ∷ [])) a.long,
        All-append (Passes t) (number_tests 2 4 1 256) (number_tests 6 4 1 768 ++ outputs) (number_pass t 2 4 1 256 i (a.each 0 (omega arith)) limits.inputs)
            (All-append (Passes t) (number_tests 6 4 1 768) outputs (number_pass t 6 4 1 768 g (a.each 1 (omega arith)) limits.gates)
            (number_pass t 10 4 1 256 o (a.each 2 (omega arith)) limits.outputs)),
      ),
    )
said_passes _ _ (an_input {n} l) a = ((_, refl), (ap (λ n. has n (5 ∷ [])) a.long, line_pass _ 2 4 n (a.each 0 (omega arith))))
said_passes _ _ (a_gate {n} {m} {g} k l fine) a = gate_passes n m g (gated m g l fine) a
said_passes _ _ (an_output {m} {n} l fine) a =
    ((_, refl), (ap (λ n. has n (5 ∷ [])) a.long, number_pass _ 2 4 1 m n (a.each 0 (omega arith)) (bounds 1 m n fine)))
said_passes _ _ an_end a = ((_, refl), (refl, tt))

pub follows_passes : (e : Expected) (r : Row) → Follows e r → AllByRecursion (Passes (text r)) (tests e (length (text r)))
follows_passes e r f = said_passes e r f (says_text e r f)
