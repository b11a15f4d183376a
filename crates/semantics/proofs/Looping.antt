-- The test of walks tells which lines lead to which.
use Rattle.std.proofs.Common.{◌≡◌, ℕ, zero, suc, ◌<◌, ◌≤◌, Bool, true, false, ◌&&◌, ◌||◌, eqb, ◌⊎◌, length, get_or, ap, subst, inl, inr, ⊎_elim, arith}
use Rattle.std.proofs.lemmas.Bool.{cases_lt, eqb-true, eq-eqb, and_parts, and_from, or_cases, both_ways, or_right}
use Rattle.std.proofs.lemmas.List.Folds.{Any-from_list_any, list_any_at}
use Rattle.netlist.specs.Gates.{Circuit}
use Rattle.netlist.specs.Walks.{reads, Reads, Walk, Looped}
use Rattle.netlist.proofs.Reading.{reads_past}
use Rattle.netlist.proofs.Searching.{joined}
use Rattle.semantics.specs.Circuits.{lines}
use Rattle.semantics.specs.Computed.{leads, looped}
use Rattle.semantics.proofs.Wiring.{reads_of}

module _ (c : Circuit) where
  -- a walk on which all lines between the first and the last are below k
  pub data Below (k : ℕ) : ℕ → ℕ → Type 0 where
    step : {m n : ℕ} → Reads c n m → Below k m n
    on : {m j n : ℕ} → Reads c j m → j < k → Below k j n → Below k m n

  abbrev Parted : ℕ → ℕ → ℕ → Type 0
  Parted k m n = Below k m n ⊎ Below k m k × Below k k n

  lower : (k m j n : ℕ) → Reads c j m → j < k → Parted k j n → Parted k m n
  lower k m j n read less rest = ⊎_elim (λ walk. inl (on read less walk)) (λ walks. inr (on read less walks.0, walks.1)) rest

  at_line : (k m n : ℕ) → Reads c k m → Parted k k n → Parted k m n
  at_line k m n read rest = inr (step read, ⊎_elim (λ walk. walk) (λ walks. walks.1) rest)

  -- a walk over lines below k + 1 keeps below k, or goes over line k
  parted : (k : ℕ) {m n : ℕ} → Below (suc k) m n → Parted k m n
  parted k (step read) = inl (step read)
  parted k {m = m} {n = n} (on {j = j} read below walk) =
      ⊎_elim (λ less. lower k m j n read less (parted k walk))
      (λ no_less. let same : j ≡ k = omega arith in at_line k m n (subst (λ i. Reads c i m) same read) (subst (λ i. Parted k i n) same (parted k walk))) (cases_lt j k)

  -- the test passes for a walk over lines below k, and only for walks
  pub passes : (k m n : ℕ) → Below k m n → leads c k m n ≡ true
  unfolding leads
  passes zero m n (step read) = list_any_at (λ j. eqb j m) (reads c n) read.place 0 read.within (eq-eqb _ m read.is)
  passes zero m n (on read below walk) = absurd (omega arith)
  passes (suc k) m n walk =
      ⊎_elim (λ kept. ap (λ b. b || (leads c k m k && leads c k k n)) (passes k m n kept)) (λ walks. or_right (leads c k m n) _ (and_from _ _ (passes k m k walks.0) (passes k k n walks.1)))
      (parted k walk)

  pub only_walks : (k m n : ℕ) → leads c k m n ≡ true → Walk c m n
  unfolding leads
  only_walks zero m n passed =
      let (place, j, within, is, same) = Any-from_list_any (λ j. eqb j m) (reads c n) passed in
      Walk.step (reads_of c n m (place, within, subst (λ x. get_or (reads c n) place x ≡ x) (eqb-true j m same) is))
  only_walks (suc k) m n passed =
      ⊎_elim (only_walks k m n) (λ both. let parts = and_parts (leads c k m k) (leads c k k n) both in joined c m k n (only_walks k m k parts.0) (only_walks k k n parts.1))
      (or_cases (leads c k m n) (leads c k m k && leads c k k n) passed)

  -- what reads a line is a line of the circuit
  pub read_within : (j m : ℕ) → Reads c j m → j ≤ lines c
  read_within j m read =
      ⊎_elim (λ past. let none : length (reads c j) ≡ 0 = ap length (reads_past c j past) in absurd (omega (arith, read.within))) (λ within. within) (cases_lt (lines c) j)

  all_below : {m n : ℕ} → Walk c m n → Below (suc (lines c)) m n
  all_below (Walk.step read) = step read
  all_below (Walk.on {m = m} {j = j} read walk) = on read (let w = read_within j m read in omega arith) (all_below walk)

  -- whether a line leads to another
  abbrev pub to : ℕ → ℕ → Bool
  to m n = leads c (suc (lines c)) m n

  pub to_passes : (m n : ℕ) → Walk c m n → to m n ≡ true
  to_passes m n walk = passes (suc (lines c)) m n (all_below walk)

  pub to_walks : (m n : ℕ) → to m n ≡ true → Walk c m n
  to_walks m n passed = only_walks (suc (lines c)) m n passed

  pub looped_passes : (n : ℕ) → Looped c n → looped c n ≡ true
  unfolding looped
  looped_passes n walk = to_passes n n walk

  pub not_looped : (n : ℕ) → looped c n ≡ false → Looped c n → ⊥
  not_looped n told walk = both_ways (looped c n) told (looped_passes n walk)

  pub looped_walks : (n : ℕ) → looped c n ≡ true → Looped c n
  unfolding looped
  looped_walks n passed = to_walks n n passed
