-- Lines that have begun show a made account.
use Rattle.std.proofs.Common.{◌≡◌, ℕ, ◌-◌, ◌*◌, ◌/◌, ◌<◌, ◌≤◌, List, [], ◌∷◌, length, map, take, drop, replicate, Ok, Err, refl, ap, sym, ◌∙◌, subst, arith}
use mathlib.Core.Path.{ap₂}
use Rattle.std.specs.Prelude.{Result}
use Rattle.std.proofs.Math.Nat.{le-div_iff_mul-le, mul-div-le}
use Rattle.events.specs.declared.record.EventRecord.{EventRecord}
use Rattle.netlist.specs.declared.refusal.Refusal.{Refusal}
use Rattle.netlist.specs.Gates.{Circuit}
use Rattle.netlist.specs.declared.progress.Progress.{Progress}
use Rattle.netlist.specs.GateRow.{at_start}
use Rattle.semantics.specs.Accounts.{settled}
use Rattle.semantics.specs.Changes.Changes.{none}
use Rattle.semantics.specs.Circuits.{lines, topology, Wired}
use Rattle.semantics.specs.Computed.{initial}
use Rattle.semantics.specs.Logs.{Steps}
use Rattle.semantics.specs.Machines.{IsLine}
use Rattle.semantics.specs.Moves.{made}
use Rattle.semantics.proofs.Keeping.{made_stable}
use Rattle.semantics.proofs.Ruling.{rule_local}
use Rattle.values.specs.Systems.{System}
use Rattle.engine.specs.declared.session.Session.{Session}
use Rattle.engine.specs.Answers.{numbered, Making}
use Rattle.engine.specs.Lines.{Panel, extent, Holds}
use Rattle.engine.specs.Makings.{base, AllBegun, AllRight}
use Rattle.engine.specs.Recordings.{begun}
use Rattle.engine.specs.Sessions.{NotMade, Fresh, Made}
use Rattle.engine.specs.Standing.{Tells, machine_of, Shows, Stands}
use Rattle.engine.specs.Stores.{part, seen}
use Rattle.engine.proofs.Books.{of_line}
use Rattle.engine.proofs.Parts.{part_length}
use Rattle.engine.proofs.Trims.{map_replicate}

module _ {V M : Type 0} (meaning : V → M) (system : System M) (START : V) (p : Panel) (store : List (EventRecord V)) (start : ℕ → M) (wired : Wired p.circuit) (start_means : meaning START ≡ system.start) where
  -- the records of a line that has begun tell it
  begun_tells : (n : ℕ) (v : V) → IsLine (topology p.circuit) n → part p.stride n store ≡ begun (part p.stride n store) v START → length (part p.stride n store) ≡ p.stride → meaning v ≡ initial system p.circuit start n → Tells (machine_of system p) system.start (made start) n (settled (topology p.circuit) (made start) n) 0 (map (seen meaning) (part p.stride n store))
  begun_tells n v is_line begins long right = record {
    ticks = [];
    changes = none (made_stable (machine_of system p) (rule_local system p.circuit wired) start n is_line);
    count = refl;
    shown = ap (λ rs. take 1 (map (seen meaning) rs)) begins ∙ ap (λ x. (0, x) ∷ []) right;
    spare =
        ap (λ rs. drop 1 (map (seen meaning) rs)) begins
        ∙ (map_replicate (seen meaning) (record { tick = 0; value = START }) (length (part p.stride n store) - 1)
        ∙ (ap (λ k. replicate (k - 1) (0, meaning START)) long ∙ (ap (λ x. filled (p.stride - 1) x) start_means ∙ ap (λ k. filled k system.start) whole)));
  }
    where
      filled : ℕ → M → List (ℕ × M)
      filled k x = replicate k (0, x)

      whole : p.stride - 1 ≡ p.stride - 1 - 0
      whole = omega arith

  pub shows_made : p.trim ≡ 0 → ((n : ℕ) → p.progress n ≡ at_start) → AllBegun START p.stride store p.circuit → AllRight system p.circuit start (λ n. meaning (base START p.stride store n)) → Holds p store → Shows meaning system p store (made start)
  shows_made no_trim at_first begins right holds = record {
    trim = no_trim;
    ends = λ n an_input. ap (λ (q : Progress). q.tick) (at_first n);
    fronts = λ n a_gate. ap (λ (q : Progress). q.tick) (at_first n);
    records = λ n is_line.
        let range = of_line p n is_line in
        subst (λ (q : Progress). Tells (machine_of system p) system.start (made start) n (settled (topology p.circuit) (made start) n) q.kept (map (seen meaning) (part p.stride n store))) (sym (at_first n))
        (begun_tells n (base START p.stride store n) is_line (begins n is_line) (part_length p.stride (lines p.circuit) n store range.0 range.1 holds) (right n is_line));
  }

  pub stands_made : Shows meaning system p store (made start) → Stands meaning system p store (made start)
  stands_made shows = record { log = record { start = start; steps = Steps.none }; shows = shows }

-- what is known where a session can be made
pub record Accepted (c : Circuit) (records starts : ℕ) : Type 0 where
  pub some : 0 < lines c
  pub enough : 2 * lines c ≤ records
  pub one_each : starts ≡ c.inputs

pub accepted_so : (c : Circuit) (records starts : ℕ) → Making c records starts (Ok tt) → Accepted c records starts
accepted_so c records starts (Making.accepted some enough one_each) = record { some = some; enough = enough; one_each = one_each }

-- each line has two records at least, and all lines together have no more than there are
pub some_each : (count records : ℕ) → 0 < count → 2 * count ≤ records → 0 < records / count
some_each count records some enough = let two : 2 ≤ records / count = (le-div_iff_mul-le some).1 enough in omega arith

pub no_more : (p : Panel) (c : Circuit) (records : ℕ) → p.circuit ≡ c → p.stride ≡ records / lines c → extent p ≤ records
no_more p c records same each = subst (λ e. e ≤ records) (sym (ap₂ (λ d k. lines d * k) same each)) (mul-div-le records (lines c))

-- a refused making leaves a session without lines
pub refused_so : {V M : Type 0} (meaning : V → M) (system : System M) (filler : V) (c : Circuit) (starts : List V) (store : List (EventRecord V)) (s : Session V) (r : Result Unit Refusal) → ((x : Unit) → r ≡ Ok x → ⊥) → NotMade meaning system filler c starts store s → Made meaning system filler c starts store s (numbered r)
refused_so meaning system filler c starts store s (Ok x) other not_made = absurd (other x refl)
refused_so meaning system filler c starts store s (Err r) other not_made = Made.refused not_made

-- an accepted one gives a fresh session
pub made_so : {V M : Type 0} (meaning : V → M) (system : System M) (filler : V) (c : Circuit) (starts : List V) (store : List (EventRecord V)) (s : Session V) (r : Result Unit Refusal) (x : Unit) → r ≡ Ok x → Fresh meaning system filler c starts store s → Made meaning system filler c starts store s (numbered r)
made_so meaning system filler c starts store s r x is fresh = subst (λ q. Made meaning system filler c starts store s (numbered q)) (sym is) (Made.accepted fresh)
