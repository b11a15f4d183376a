-- The bases of lines that have begun.
use Rattle.std.proofs.Common.{◌≡◌, ℕ, ◌+◌, ◌-◌, ◌*◌, ◌<◌, ◌≤◌, List, ◌∷◌, length, replicate, set, drop, get_or, get_or-take, get_or-drop, get_or-set_same, length-set, ap, sym, ◌∙◌, subst, arith}
use Rattle.events.specs.declared.record.EventRecord.{EventRecord}
use Rattle.netlist.specs.Gates.{Circuit}
use Rattle.semantics.specs.Circuits.{topology}
use Rattle.semantics.specs.Machines.{IsLine}
use Rattle.engine.specs.Makings.{base, AllBegun}
use Rattle.engine.specs.Recordings.{begun, OnlyThere}
use Rattle.engine.specs.Stores.{part}
use Rattle.engine.proofs.Books.{positive}
use Rattle.engine.proofs.Parts.{part_else, one_part}

module _ {V : Type 0} (filler : V) (stride : ℕ) (some : 0 < stride) where
  abbrev pub at_zero : V → EventRecord V
  at_zero v = record { tick = 0; value = v }

  -- a base is the first record of its line's part
  pub base_in_part : (store : List (EventRecord V)) (n : ℕ) → base filler stride store n ≡ (get_or (part stride n store) 0 (at_zero filler)).value
  base_in_part store n =
      let place : (n - 1) * stride ≡ (n - 1) * stride + 0 = omega arith in
      ap (λ (r : EventRecord V). r.value)
      (ap (λ i. get_or store i (at_zero filler)) place
      ∙ sym (get_or-take stride (drop ((n - 1) * stride) store) 0 (at_zero filler) some ∙ get_or-drop ((n - 1) * stride) store 0 (at_zero filler)))

  -- a line that has begun with a value has it in its base
  pub base_begun : (store : List (EventRecord V)) (n : ℕ) (v : V) → part stride n store ≡ begun (part stride n store) v filler → base filler stride store n ≡ v
  base_begun store n v is = base_in_part store n ∙ ap (λ rs. (get_or rs 0 (at_zero filler)).value) is

  -- one line gets another value at its base
  module _ (old new : List (EventRecord V)) (line : ℕ) (value : V) (there : OnlyThere ((line - 1) * stride) stride old new) (written : part stride line new ≡ set (part stride line old) 0 (record { tick = 0; value = value })) (a_part : length (part stride line old) ≡ stride) (numbered : 0 < line) where
    pub base_here : base filler stride new line ≡ value
    base_here = base_in_part new line ∙ ap (λ (r : EventRecord V). r.value) (ap (λ rs. get_or rs 0 (at_zero filler)) written ∙ get_or-set_same (part stride line old) 0 (at_zero value) (at_zero filler) (omega (arith, a_part)))

    pub base_else : (m : ℕ) → 0 < m → (m ≡ line → ⊥) → base filler stride new m ≡ base filler stride old m
    base_else m some_line other = base_in_part new m ∙ (ap (λ rs. (get_or rs 0 (at_zero filler)).value) (part_else stride line old new numbered there m some_line other) ∙ sym (base_in_part old m))

    pub still_begun : (c : Circuit) → AllBegun filler stride old c → AllBegun filler stride new c
    still_begun c begins m is_line =
        one_part stride line old new numbered there (λ k rs. rs ≡ begun rs (base filler stride new k) filler) m (positive c m is_line) at_line
        (λ other. subst (λ v. part stride m old ≡ begun (part stride m old) v filler) (sym (base_else m (positive c m is_line) other)) (begins m is_line))
      where
        first : m ≡ line → part stride line old ≡ begun (part stride line old) (base filler stride old line) filler
        first same = begins line (subst (IsLine (topology c)) same is_line)

        again : (rs : List (EventRecord V)) (v : V) → rs ≡ begun rs v filler → set rs 0 (record { tick = 0; value = value }) ≡ begun (set rs 0 (record { tick = 0; value = value })) value filler
        again rs v is =
            ap (λ xs. set xs 0 (record { tick = 0; value = value })) is
            ∙ ap (λ k. record { tick = 0; value = value } ∷ replicate (k - 1) (record { tick = 0; value = filler })) (sym (length-set rs 0 (record { tick = 0; value = value })))

        at_line : m ≡ line → part stride line new ≡ begun (part stride line new) (base filler stride new line) filler
        at_line same =
            subst (λ v. part stride line new ≡ begun (part stride line new) v filler) (sym base_here)
            (subst (λ rs. rs ≡ begun rs value filler) (sym written) (again (part stride line old) (base filler stride old line) (first same)))

module _ {V : Type 0} (filler : V) (stride : ℕ) (f : ℕ → V) (c : Circuit) where
  -- the lines up to one have begun with given values
  abbrev pub BegunTo : List (EventRecord V) → ℕ → Type 0
  BegunTo store k = (n : ℕ) → IsLine (topology c) n → n ≤ k → part stride n store ≡ begun (part stride n store) (f n) filler

  pub begun_none : (store : List (EventRecord V)) → BegunTo store 0
  begun_none store n is_line upto = let low = positive c n is_line in absurd (omega arith)

  -- one line more begins
  pub begun_more : (old new : List (EventRecord V)) (k : ℕ) → OnlyThere ((k + 1 - 1) * stride) stride old new → length (part stride (k + 1) old) ≡ length (part stride (k + 1) new) → part stride (k + 1) new ≡ begun (part stride (k + 1) old) (f (k + 1)) filler → BegunTo old k → BegunTo new (k + 1)
  begun_more old new k there as_long written begins m is_line upto =
      one_part stride (k + 1) old new (omega arith) there (λ j rs. rs ≡ begun rs (f j) filler) m (positive c m is_line)
      (λ same. written ∙ ap (λ j. record { tick = 0; value = f (k + 1) } ∷ replicate (j - 1) (record { tick = 0; value = filler })) as_long)
      (λ other. begins m is_line (omega (arith, other)))
