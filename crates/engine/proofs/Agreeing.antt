-- Two logs that agree: their records, and what they answer.
use Rattle.std.proofs.Common.{◌≡◌, ℕ, zero, suc, ◌-◌, ◌*◌, ◌<◌, ◌≤◌, List, [], ◌∷◌, ◌++◌, length, map, take, drop, replicate, get_or, Ok, Some, refl, ap, sym, ◌∙◌, subst, ⊎_elim, arith, Contains}
use Rattle.std.proofs.lemmas.Option.{get_or_from_slice_get, slice_get_cases}
use mathlib.Core.Path.{ap₂}
use Rattle.std.specs.Prelude.{Result, slice_get}
use Rattle.std.proofs.Math.Nat.{suc-mul, zero-mul}
use Rattle.std.proofs.lemmas.Bool.{cases_lt}
use Rattle.netlist.specs.Gates.{Circuit}
use Rattle.std.proofs.Math.Seq.{take-add}
use Rattle.std.proofs.lemmas.List.{take-append-drop, take-map, drop-map, get_or-map}
use Rattle.semantics.specs.Accounts.{Account, settled, before, value, KeptChanges}
use Rattle.events.specs.declared.record.EventRecord.{EventRecord}
use Rattle.semantics.specs.CircuitMachine.{machine}
use Rattle.semantics.specs.Circuits.{lines, topology}
use Rattle.semantics.specs.Comparisons.{Alike, Agree}
use Rattle.semantics.specs.Logs.{Log}
use Rattle.semantics.specs.Moves.{Rest}
use Rattle.semantics.proofs.Proved.{alike_rests_agree}
use Rattle.semantics.proofs.Listing.{one_list}
use Rattle.values.specs.Systems.{System}
use Rattle.engine.specs.Lines.{Panel, room, extent}
use Rattle.semantics.specs.Machines.{Machine, IsLine}
use Rattle.engine.specs.Answers.{Valued, Eventful, Stated}
use Rattle.engine.specs.Comparing.{AnswerAlike}
use Rattle.engine.specs.Standing.{Tells, machine_of, Stands}
use Rattle.engine.specs.Stores.{part, seen}
use Rattle.engine.proofs.Books.{Sure, trim_reached, line_of}
use Rattle.engine.proofs.Reading.{ticks_below}
use Rattle.engine.proofs.Retelling.{retell}

-- lists seen alike have elements seen alike
pub same_at : {X Y : Type 0} (see : X → Y) (xs ys : List X) (i : ℕ) (d e : X) → map see xs ≡ map see ys → i < length xs → i < length ys → see (get_or xs i d) ≡ see (get_or ys i e)
same_at see xs ys i d e same within also = sym (get_or-map see xs i d (see d) within) ∙ (ap (λ l. get_or l i (see d)) same ∙ get_or-map see ys i e (see d) also)

-- a list is its first elements and its others
split_same : {X : Type 0} (k : ℕ) (xs ys : List X) → take k xs ≡ take k ys → drop k xs ≡ drop k ys → xs ≡ ys
split_same k xs ys front back = sym (take-append-drop k xs) ∙ (ap₂ ◌++◌ front back ∙ take-append-drop k ys)

-- stores whose parts are the same are the same
pub whole_same : {X : Type 0} (stride count : ℕ) (xs ys : List X) → ((n : ℕ) → 0 < n → n ≤ count → part stride n xs ≡ part stride n ys) → take (count * stride) xs ≡ take (count * stride) ys
whole_same stride zero xs ys parts = ap (λ k. take k xs) nothing ∙ sym (ap (λ k. take k ys) nothing)
  where
    nothing : 0 * stride ≡ 0
    nothing = omega arith
whole_same {X = X} stride (suc count) xs ys parts = cut xs ∙ (ap₂ ◌++◌ (whole_same stride count xs ys (λ n some within. parts n some (omega arith))) (parts (suc count) (omega arith) (omega arith)) ∙ sym (cut ys))
  where
    cut : (zs : List X) → take (suc count * stride) zs ≡ take (count * stride) zs ++ part stride (suc count) zs
    cut zs =
        let place : count ≡ suc count - 1 = omega arith in
        ap (λ k. take k zs) (suc-mul count stride) ∙ (take-add (count * stride) stride zs ∙ ap (λ k. take (count * stride) zs ++ take stride (drop (k * stride) zs)) place)

-- records that tell one line of one account are the same
one_telling : {M : Type 0} (s : Machine M) (filler : M) (a : Account M) (n to kept other : ℕ) (rs qs : List (ℕ × M)) → Tells s filler a n to kept rs → Tells s filler a n to other qs → rs ≡ qs
one_telling {M = M} s filler a n to kept other rs qs h k =
    split_same (suc kept) rs qs
    (h.shown ∙ (ap (λ ts. (a.trim, before s a n a.trim) ∷ map change ts) ticks ∙ sym (ap (λ c. take (suc c) qs) count ∙ k.shown)))
    (h.spare ∙ (ap (λ c. replicate (s.room - c) (0, filler)) count ∙ sym (ap (λ c. drop (suc c) qs) count ∙ k.spare)))
  where
    change : ℕ → ℕ × M
    change t = (t, value s a n t)

    ticks : h.ticks ≡ k.ticks
    ticks = one_list h.changes k.changes

    count : kept ≡ other
    count = sym h.count ∙ (ap length ticks ∙ k.count)

module _ {M : Type 0} (s : Machine M) (a b : Account M) (agree : Agree s a b) (trims : a.trim ≡ b.trim) where
  settled_same : (n : ℕ) → IsLine s.topology n → settled s.topology a n ≡ settled s.topology b n
  settled_same n line = agree.settled_times n line

  ticks_same : (n : ℕ) (ts us : List ℕ) → IsLine s.topology n → KeptChanges s a n ts → KeptChanges s b n us → ts ≡ us
  ticks_same n ts us line kept also = one_list (agree.kept_changes n ts line kept) also

  -- the value at a kept change
  value_same : (n : ℕ) (ts : List ℕ) (t : ℕ) → IsLine s.topology n → KeptChanges s a n ts → Contains ts t → value s a n t ≡ value s b n t
  value_same n ts t line kept (i, within, is) = agree.values n t line (subst (λ u. u < settled s.topology a n) is (ticks_below kept i t within))

  -- their records are seen alike
  pub told_same : (filler : M) (n kept other : ℕ) (rs qs : List (ℕ × M)) → IsLine s.topology n → a.trim ≤ settled s.topology a n → Tells s filler a n (settled s.topology a n) kept rs → Tells s filler b n (settled s.topology b n) other qs → rs ≡ qs
  told_same filler n kept other rs qs line reached h k =
      one_telling s filler b n (settled s.topology a n) kept other rs qs
      (retell s filler n (settled s.topology a n) kept rs a b (sym trims) reached (agree.initial_values n line) (λ u below. agree.values n u line below) h)
      (subst (λ to. Tells s filler b n to other qs) (sym (settled_same n line)) k)

  values_alike : (n t : ℕ) (x y : Result M ℕ) → Valued s a n t x → Valued s b n t y → x ≡ y
  values_alike n t x y (Valued.no_line none) (Valued.no_line also) = refl
  values_alike n t x y (Valued.no_line none) (Valued.past line before) = absurd (none line)
  values_alike n t x y (Valued.no_line none) (Valued.unsettled line from beyond) = absurd (none line)
  values_alike n t x y (Valued.no_line none) (Valued.told line from within) = absurd (none line)
  values_alike n t x y (Valued.past line before) (Valued.no_line none) = absurd (none line)
  values_alike n t x y (Valued.past line before) (Valued.past also earlier) = refl
  values_alike n t x y (Valued.past line before) (Valued.unsettled also from beyond) = absurd (omega (arith, trims))
  values_alike n t x y (Valued.past line before) (Valued.told also from within) = absurd (omega (arith, trims))
  values_alike n t x y (Valued.unsettled line from beyond) (Valued.no_line none) = absurd (none line)
  values_alike n t x y (Valued.unsettled line from beyond) (Valued.past also before) = absurd (omega (arith, trims))
  values_alike n t x y (Valued.unsettled line from beyond) (Valued.unsettled also since past) = refl
  values_alike n t x y (Valued.unsettled line from beyond) (Valued.told also since within) = absurd (omega (arith, settled_same n line))
  values_alike n t x y (Valued.told line from within) (Valued.no_line none) = absurd (none line)
  values_alike n t x y (Valued.told line from within) (Valued.past also before) = absurd (omega (arith, trims))
  values_alike n t x y (Valued.told line from within) (Valued.unsettled also since beyond) = absurd (omega (arith, settled_same n line))
  values_alike n t x y (Valued.told line from within) (Valued.told also since below) = ap Ok (agree.values n t line within)

  -- a change at a place of a list
  within : (ts : List ℕ) (k t : ℕ) → slice_get ts k ≡ Some t → k < length ts
  within ts k t is = ⊎_elim (λ found. found.1) (λ past. cc) (slice_get_cases ts k).1

  at_place : (ts : List ℕ) (k t : ℕ) → slice_get ts k ≡ Some t → Contains ts t
  at_place ts k t is = (k, within ts k t is, get_or_from_slice_get ts k t t is)

  events_alike : (n k : ℕ) (x y : Result (ℕ × M) ℕ) → Eventful s a n k x → Eventful s b n k y → x ≡ y
  events_alike n k x y (Eventful.no_line none) (Eventful.no_line also) = refl
  events_alike n k x y (Eventful.no_line none) (Eventful.none_such line kept few) = absurd (none line)
  events_alike n k x y (Eventful.no_line none) (Eventful.told line kept at) = absurd (none line)
  events_alike n k x y (Eventful.none_such line kept few) (Eventful.no_line none) = absurd (none line)
  events_alike n k x y (Eventful.none_such line kept few) (Eventful.none_such also others none) = refl
  events_alike n k x y (Eventful.none_such {ticks = ts} line kept few) (Eventful.told {ticks = us} {t = u} also others at) =
      absurd (omega (arith, few, within us k u at, ap length (ticks_same n ts us line kept others)))
  events_alike n k x y (Eventful.told line kept at) (Eventful.no_line none) = absurd (none line)
  events_alike n k x y (Eventful.told {ticks = ts} {t = t} line kept at) (Eventful.none_such {ticks = us} also others few) =
      absurd (omega (arith, few, within ts k t at, ap length (ticks_same n ts us line kept others)))
  events_alike n k x y (Eventful.told {ticks = ts} {t = t} line kept at) (Eventful.told {ticks = us} {t = u} also others here) =
      let same : t ≡ u = sym (get_or_from_slice_get ts k t 0 at) ∙ (ap (λ l. get_or l k 0) (ticks_same n ts us line kept others) ∙ get_or_from_slice_get us k u 0 here) in
      ap₂ (λ v w. Ok (v, w)) same (value_same n ts t line kept (at_place ts k t at) ∙ ap (value s b n) same)

  states_alike : (n : ℕ) (x y : Result (ℕ × ℕ) ℕ) → Stated s a n x → Stated s b n y → x ≡ y
  states_alike n x y (Stated.no_line none) (Stated.no_line also) = refl
  states_alike n x y (Stated.no_line none) (Stated.told line kept) = absurd (none line)
  states_alike n x y (Stated.told line kept) (Stated.no_line none) = absurd (none line)
  states_alike n x y (Stated.told {ticks = ts} line kept) (Stated.told {ticks = us} also others) = ap₂ (λ t c. Ok (t, c)) (settled_same n line) (ap length (ticks_same n ts us line kept others))

  pub answer_alike : AnswerAlike s s a b
  answer_alike = record { values = values_alike; events = events_alike; states = states_alike }

-- Lines and records of two sessions stand for logs that are alike, both at rest.
pub record RestAlike {V M : Type 0} (meaning : V → M) (system : System M) (p q : Panel) (left right : List (EventRecord V)) (a b : Account M) : Type 0 where
  pub circuits : p.circuit ≡ q.circuit
  pub rooms : room p ≡ room q
  pub records_here : 0 < lines p.circuit → 0 < p.stride
  pub records_there : 0 < lines p.circuit → 0 < q.stride
  pub sure : Sure p
  pub here : Stands meaning system p left a
  pub there : Stands meaning system q right b
  pub rests_here : Rest (machine_of system p) a
  pub rests_there : Rest (machine_of system q) b
  pub alike : Alike (machine_of system p) a b

module _ {V M : Type 0} (meaning : V → M) (system : System M) (p q : Panel) (left right : List (EventRecord V)) (a b : Account M) (both : RestAlike meaning system p q left right a b) where
  machines : machine_of system q ≡ machine_of system p
  machines = ap₂ (machine system) (sym both.circuits) (sym both.rooms)

  log : Log (machine_of system p) b
  log = subst (λ m. Log m b) machines both.there.log

  pub agree : Agree (machine_of system p) a b
  agree = alike_rests_agree system p.circuit (room p) both.sure.wired a b both.here.log log both.rests_here (subst (λ m. Rest m b) machines both.rests_there) both.alike

  strides : 0 < lines p.circuit → p.stride ≡ q.stride
  strides some = let here = both.records_here some in let there = both.records_there some in omega (arith, both.rooms)

  parts_same : (n : ℕ) → 0 < n → n ≤ lines p.circuit → part p.stride n (map (seen meaning) left) ≡ part p.stride n (map (seen meaning) right)
  parts_same n some within =
      of_map left
      ∙ (told_same (machine_of system p) a b agree both.alike.trims system.start n (p.progress n).kept (q.progress n).kept (map (seen meaning) (part p.stride n left)) (map (seen meaning) (part p.stride n right)) line (trim_reached meaning system p left a both.sure both.here n line) (both.here.shows.records n line) told
      ∙ sym (of_map right))
    where
      of_map : (rs : List (EventRecord V)) → part p.stride n (map (seen meaning) rs) ≡ map (seen meaning) (part p.stride n rs)
      of_map rs = ap (take p.stride) (drop-map (seen meaning) ((n - 1) * p.stride) rs) ∙ take-map (seen meaning) p.stride (drop ((n - 1) * p.stride) rs)

      line : IsLine (topology p.circuit) n
      line = line_of p n (some, within)

      told : Tells (machine_of system p) system.start b n (settled (topology p.circuit) b n) (q.progress n).kept (map (seen meaning) (part p.stride n right))
      told =
          subst (λ j. Tells (machine_of system p) system.start b n (settled (topology p.circuit) b n) (q.progress n).kept (map (seen meaning) (part j n right))) (sym (strides (omega (arith, some, within))))
          (subst (λ m. Tells m system.start b n (settled m.topology b n) (q.progress n).kept (map (seen meaning) (part q.stride n right))) machines
          (both.there.shows.records n (subst (λ m. IsLine m.topology n) (sym machines) line)))

  pub stores_same : map (seen meaning) (take (extent p) left) ≡ map (seen meaning) (take (extent q) right)
  stores_same = ⊎_elim
      (λ some.
      sym (take-map (seen meaning) (extent p) left)
      ∙ (whole_same p.stride (lines p.circuit) (map (seen meaning) left) (map (seen meaning) right) parts_same
      ∙ (take-map (seen meaning) (extent p) right ∙ ap (λ e. map (seen meaning) (take e right)) (ap₂ (λ c j. lines c * j) both.circuits (strides some)))))
      (λ none. nothing left (extent p) (empty p.circuit p.stride none) ∙ sym (nothing right (extent q) (empty q.circuit q.stride (subst (λ c. lines c ≤ 0) both.circuits none))))
      (cases_lt 0 (lines p.circuit))
    where
      empty : (c : Circuit) (stride : ℕ) → lines c ≤ 0 → lines c * stride ≡ 0
      empty c stride none = let zero_lines : lines c ≡ 0 = omega arith in ap (λ k. k * stride) zero_lines ∙ zero-mul stride

      nothing : (rs : List (EventRecord V)) (k : ℕ) → k ≡ 0 → map (seen meaning) (take k rs) ≡ []
      nothing rs k is = ap (λ j. map (seen meaning) (take j rs)) is

  pub asked_same : AnswerAlike (machine_of system p) (machine_of system q) a b
  asked_same = subst (λ m. AnswerAlike (machine_of system p) m a b) (sym machines) (answer_alike (machine_of system p) a b agree both.alike.trims)
