-- What becomes of lines whose changes are dropped below a tick.
use Rattle.std.proofs.Common.{◌≡◌, ℕ, zero, suc, ◌+◌, ◌-◌, ◌*◌, ◌<◌, ◌≤◌, List, [], ◌∷◌, ◌++◌, length, map, take, drop, replicate, refl, ap, sym, ◌∙◌, subst, inl, inr, ⊎_elim, arith}
use mathlib.Core.Path.{ap₂}
use Rattle.std.proofs.lemmas.List.{take-map, drop-map, map-append, length-take-le, length-drop, replicate-append-replicate}
use Rattle.events.specs.declared.record.EventRecord.{EventRecord}
use Rattle.semantics.specs.Machines.{Machine, IsLine}
use Rattle.netlist.specs.declared.progress.Progress.{Progress}
use Rattle.semantics.specs.Accounts.{Account, settled, value}
use Rattle.semantics.specs.Circuits.{lines, topology}
use Rattle.semantics.specs.Logs.{Step, Steps}
use Rattle.netlist.specs.Gates.{Circuit}
use Rattle.semantics.specs.Moves.{put, trimmed, CanTrim}
use Rattle.semantics.proofs.Goals.{settled_input, settled_gate}
use Rattle.semantics.proofs.Wiring.{line_range}
use Rattle.semantics.proofs.Putting.{put_here, put_there}
use Rattle.values.specs.Systems.{System}
use Rattle.engine.specs.Droppings.{Dropping}
use Rattle.engine.specs.Lines.{Panel}
use Rattle.engine.specs.Panels.{moved}
use Rattle.engine.specs.Recordings.{DroppedIn, OnlyThere}
use Rattle.engine.specs.Standing.{Tells, machine_of, Stands, Keeps}
use Rattle.engine.specs.Stores.{part, seen}
use Rattle.engine.proofs.Books.{positive, of_line}
use Rattle.engine.proofs.Moving.{one_moved}
use Rattle.std.proofs.lemmas.Bool.{cases_eq}
use Rattle.engine.proofs.Reading.{Splits, changes_from}
use Rattle.engine.proofs.Telling.{in_order, value_told, splits_at, changes_told}

pub map_replicate : {A B : Type 0} (f : A → B) (x : A) (n : ℕ) → map f (replicate n x) ≡ replicate n (f x)
map_replicate f x zero = refl
map_replicate f x (suc n) = ap (λ l. f x ∷ l) (map_replicate f x n)

module _ {V M : Type 0} (meaning : V → M) (s : Machine M) (filler : V) (a : Account M) (n to t kept : ℕ) (reaches : a.trim ≤ t) (upto : t ≤ to) (part' : List (EventRecord V)) (result : ℕ) (within' : result < length part') where
  abbrev fill : EventRecord V
  fill = record { tick = 0; value = filler }

  of_part : (base : EventRecord V) (more : List (EventRecord V)) → kept ≤ length more → length more ≡ s.room → Tells s (meaning filler) a n to kept (map (seen meaning) (base ∷ more)) → DroppedIn t fill kept (base ∷ more) result part' → Tells s (meaning filler) (trimmed a t) n to result (map (seen meaning) part')
  of_part base more within long h dropped =
      let changes : List (EventRecord V) = take kept more in
      let many : length changes ≡ kept = length-take-le kept more within in
      let d = dropped (in_order meaning s (meaning filler) a n to kept (base ∷ more) h base changes refl) in
      let count = d.count in
      let few : count ≤ length changes = let w = d.within in omega arith in
      let told = changes_told meaning s (meaning filler) a n to kept (base ∷ more) h base changes refl in
      let parts : Splits h.ticks t count = splits_at meaning (value s a n) changes h.ticks told t count few d.parts.0 d.parts.1 base in
      let just_before = value_told meaning s (meaning filler) a n to kept (base ∷ more) h base changes refl t count fill reaches upto parts few in
      let stay : result ≡ kept - count = omega (arith, ap length d.changes, length-take-le (suc result) part' (omega arith), length-drop count changes, many) in
      record {
        ticks = drop count h.ticks;
        changes = changes_from t count reaches h.changes parts;
        count = omega (arith, length-drop count h.ticks, h.count, stay);
        shown =
            take-map (seen meaning) (suc result) part'
            ∙ (ap (map (seen meaning)) d.changes
            ∙ ap₂ ◌∷◌ (ap (λ x. (t, x)) just_before) (sym (drop-map (seen meaning) count changes) ∙ (ap (drop count) told ∙ drop-map (λ u. (u, value s a n u)) count h.ticks)));
        spare =
            let left : count + (s.room - kept) ≡ s.room - result = omega arith in
            drop-map (seen meaning) (suc result) part'
            ∙ (ap (map (seen meaning)) d.spare
            ∙ (map-append (seen meaning) (replicate count fill) (drop kept more)
            ∙ (ap₂ ◌++◌ (map_replicate (seen meaning) fill count) (sym (drop-map (seen meaning) (suc kept) (base ∷ more)) ∙ h.spare)
            ∙ (replicate-append-replicate count (s.room - kept) (0, meaning filler) ∙ ap (λ k. replicate k (0, meaning filler)) left))));
      }

  pub tells_trimmed : (part : List (EventRecord V)) → kept < length part → length part ≡ suc s.room → Tells s (meaning filler) a n to kept (map (seen meaning) part) → DroppedIn t fill kept part result part' → Tells s (meaning filler) (trimmed a t) n to result (map (seen meaning) part')
  tells_trimmed [] within long h dropped = absurd (omega arith)
  tells_trimmed (base ∷ more) within long h dropped = of_part base more (omega arith) (omega arith) h dropped

-- one line more
module _ {V M : Type 0} (meaning : V → M) (system : System M) (filler : V) (start : meaning filler ≡ system.start) (p q : Panel) (old new : List (EventRecord V)) (a : Account M) (t n : ℕ) (x : Progress) (so_far : Dropping meaning system p a t (n - 1) q old) (line : IsLine (topology p.circuit) n) (there : OnlyThere ((n - 1) * q.stride) q.stride old new) (same_tick : x.tick ≡ (q.progress n).tick) where
  pub drop_one : a.trim ≤ t → t ≤ settled (topology p.circuit) a n → (q.progress n).kept < length (part q.stride n old) → length (part q.stride n old) ≡ suc (p.stride - 1) → x.kept < length (part q.stride n new) → DroppedIn t (record { tick = 0; value = filler }) (q.progress n).kept (part q.stride n old) x.kept (part q.stride n new) → Dropping meaning system p a t n (moved q n x) new
  drop_one reaches upto within long within' dropped = record {
    ticks = λ m. ⊎_elim (λ is. subst (λ k. (put q.progress n x k).tick ≡ (p.progress k).tick) (sym is) (ap (λ (r : Progress). r.tick) (put_here q.progress n x) ∙ (same_tick ∙ so_far.ticks n))) (λ other. ap (λ (r : Progress). r.tick) (put_there q.progress n x m other) ∙ so_far.ticks m) (cases_eq m n);
    done = λ m a_line upto. one_moved q.progress q.stride n x old new some there (told_in (trimmed a t)) m (positive p.circuit m a_line) (λ is. told) (λ other. so_far.done m a_line (omega (arith, other)));
    left = λ m a_line after. one_moved q.progress q.stride n x old new some there (told_in a) m (positive p.circuit m a_line) (λ is. absurd (omega arith)) (λ other. so_far.left m a_line (omega arith));
  }
    where
      some : 0 < n
      some = positive p.circuit n line

      told : Tells (machine_of system p) system.start (trimmed a t) n (settled (topology p.circuit) a n) x.kept (map (seen meaning) (part q.stride n new))
      told =
          subst (λ f. Tells (machine_of system p) f (trimmed a t) n (settled (topology p.circuit) a n) x.kept (map (seen meaning) (part q.stride n new))) start
          (tells_trimmed meaning (machine_of system p) filler a n (settled (topology p.circuit) a n) t (q.progress n).kept reaches upto (part q.stride n new) x.kept within' (part q.stride n old) within long
          (subst (λ f. Tells (machine_of system p) f a n (settled (topology p.circuit) a n) (q.progress n).kept (map (seen meaning) (part q.stride n old))) (sym start) (so_far.left n line (omega (arith, some)))) dropped)

      told_in : Account M → ℕ → ℕ → List (EventRecord V) → Type 0
      told_in b m kept rs = Tells (machine_of system p) system.start b m (settled (topology p.circuit) a m) kept (map (seen meaning) rs)

-- all lines are told from the tick on
module _ {V M : Type 0} (meaning : V → M) (system : System M) (p q : Panel) (store new : List (EventRecord V)) (a : Account M) (h : Stands meaning system p store a) (t : ℕ) (reaches : a.trim ≤ t) (upto : (n : ℕ) → (0 < n) × (n ≤ lines p.circuit) → t ≤ (p.progress n).tick) where
  range : (n : ℕ) → IsLine (topology p.circuit) n → (0 < n) × (n ≤ lines p.circuit)
  range = of_line p

  pub can_trim : CanTrim (machine_of system p) a t
  can_trim = record {
    not_past = reaches;
    ends_reach = λ n an_input. let r = upto n (range n (inl an_input)) in omega (arith, h.shows.ends n an_input);
    fronts_reach = λ n a_gate. let r = upto n (range n (inr a_gate)) in omega (arith, h.shows.fronts n a_gate);
  }

  pub settled_upto : (n : ℕ) → IsLine (topology p.circuit) n → t ≤ settled (topology p.circuit) a n
  settled_upto n line = ⊎_elim (λ an_input. let r = upto n (range n (inl an_input)) in omega (arith, h.shows.ends n an_input, settled_input (topology p.circuit) a n an_input))
      (λ a_gate. let r = upto n (range n (inr a_gate)) in omega (arith, h.shows.fronts n a_gate, settled_gate (topology p.circuit) a n a_gate)) line

  pub trim_stands : (keeps : Keeps p q store new) → Dropping meaning system p a t (lines p.circuit) q new → Stands meaning system (record q { trim = t }) new (trimmed a t)
  trim_stands keeps dropped = by_circuit q.circuit q.stride keeps.circuit keeps.stride q.progress dropped.ticks (λ m line. dropped.done m line (line_range p.circuit m line))
    where
      by_circuit : (c : Circuit) (k : ℕ) → c ≡ p.circuit → k ≡ p.stride → (f : ℕ → Progress) → ((m : ℕ) → (f m).tick ≡ (p.progress m).tick) → ((m : ℕ) → IsLine (topology p.circuit) m → Tells (machine_of system p) system.start (trimmed a t) m (settled (topology p.circuit) a m) (f m).kept (map (seen meaning) (part k m new))) → Stands meaning system (record { circuit = c; stride = k; trim = t; progress = f }) new (trimmed a t)
      by_circuit c k same_circuit same_stride f ticks records =
          subst (λ c. Stands meaning system (record { circuit = c; stride = k; trim = t; progress = f }) new (trimmed a t)) (sym same_circuit)
          (subst (λ k. ((m : ℕ) → IsLine (topology p.circuit) m → Tells (machine_of system p) system.start (trimmed a t) m (settled (topology p.circuit) a m) (f m).kept (map (seen meaning) (part k m new))) → Stands meaning system (record { circuit = p.circuit; stride = k; trim = t; progress = f }) new (trimmed a t)) (sym same_stride)
          (λ records. record {
            log = record { start = h.log.start; steps = Steps.then h.log.steps (Step.trim can_trim) };
            shows = record {
              trim = refl;
              ends = λ n an_input. ticks n ∙ h.shows.ends n an_input;
              fronts = λ n a_gate. ticks n ∙ h.shows.fronts n a_gate;
              records = λ n line. records n line;
            };
          }) records)
