-- What the text of a row shows, that it holds no byte 10, and that no two rows that may follow share one.
use Rattle.std.proofs.Common.{◌≡◌, ℕ, zero, suc, ◌+◌, ◌-◌, ◌*◌, ◌^◌, ◌<◌, ◌≤◌, true, cond, ◌&&◌, eqb, List, [], ◌∷◌, ◌++◌, length, get_or, take, sum, sym, refl, ap, ◌∙◌, subst, append_assoc, append-nil, arith, length-append}
use Rattle.std.specs.List.{flat_map, AllByRecursion}
use Rattle.std.proofs.lemmas.List.{take_at, drop_at, ext_get_or}
use Rattle.std.proofs.ByRecursion.{All-append}
use Rattle.std.proofs.lemmas.Bool.{and_parts}
use Rattle.std.specs.Int.{is_in_range}
use Rattle.columns.specs.Spelling.{spelled}
use Rattle.columns.proofs.Spelled.{length-spelled, spelled_no_newline}
use Rattle.netlist.specs.declared.kind.Kind.{Kind}
use Rattle.netlist.specs.declared.kind.Kind.TheVariants.{Buf, Not, And, Or, Xor, Nand, Nor, Xnor}
use Rattle.netlist.specs.Gates.{Gate, on_lines, legal, fits, delay_fits}
use Rattle.netlist.proofs.Ranges.{bounds}
use Rattle.deck.specs.Rows.{Row, header, input, gate, output, end, kind_text, text}
use Rattle.deck.specs.Tests.{columns, Shows}
use Rattle.deck.specs.Outcomes.{Unended}
use Rattle.deck.specs.Progress.{Expected}
use Rattle.deck.proofs.Numbers.{shows_one}
use Rattle.deck.proofs.Following.{Follows, a_header, an_input, a_gate, an_output, an_end, limited}

pub columns_at : (front field back : List ℕ) (c w : ℕ) → length front ≡ c - 1 → length field ≡ w → columns (front ++ (field ++ back)) c w ≡ field
columns_at front field back c w before wide = ap (take w) (drop_at front (field ++ back) (c - 1) before) ∙ take_at field back w wide

-- a width of which every number is one of 64 bits
abbrev pub Narrow : ℕ → Type 0
Narrow w = (0 < w) × (10 ^ w ≤ 2 ^ 64)

pub shown : (front back : List ℕ) (c w n : ℕ) → length front ≡ c - 1 → Narrow w → n < 10 ^ w → Shows (front ++ (spelled w n ++ back)) c w n
shown front back c w n before narrow small =
    record { fits = small; spelling = columns_at front (spelled w n) back c w before (length-spelled w n small narrow.0 (omega arith)) }

abbrev pub Fours : List ℕ → Type 0
Fours ls = AllByRecursion (λ n. n < 10 ^ 4) ls

-- so many bytes and then the numbers, in four columns each; none of the bytes is byte 10
pub record Fields (t : List ℕ) (front : ℕ) (ls : List ℕ) : Type 0 where
  pub long : length t ≡ front + 4 * length ls
  pub each : (j : ℕ) → j < length ls → Shows t (suc front + 4 * j) 4 (get_or ls j 0)
  pub unended : Unended t

pub fields_shown : (t front ls : List ℕ) (wide : ℕ) → length front ≡ wide → Unended front → Fours ls → t ≡ front ++ flat_map (spelled 4) ls → Fields t wide ls
fields_shown t front [] wide before clean small is = rw (is, append-nil front) (record { long = omega arith; each = λ j within. absurd (omega arith); unended = clean })
fields_shown t front (l ∷ ls) wide before clean small is =
    let four = length-spelled 4 l small.0 (omega arith) (omega arith) in
    let longer = length-append front (spelled 4 l) in
    let clean-on : Unended (front ++ spelled 4 l) = All-append _ front (spelled 4 l) clean (spelled_no_newline 4 l (omega arith)) in
    let is-on = is ∙ sym (append_assoc front (spelled 4 l) (flat_map (spelled 4) ls)) in
    let on = fields_shown t (front ++ spelled 4 l) ls (wide + 4) (omega arith) clean-on small.1 is-on in
    let column : (j : ℕ) → suc (wide + 4) + 4 * j ≡ suc wide + 4 * suc j = λ j. omega arith in
    record {
      long = omega arith;
      each = elim [
        | zero ↦ λ within. rw is (shown front (flat_map (spelled 4) ls) _ 4 l (omega arith) (omega arith) small.0)
        | suc j ↦ λ within. rw (column j) at (on.each j (omega arith))
      ];
      unended = on.unended;
    }

pub fields_one : (t : List ℕ) (front : ℕ) (ls ms : List ℕ) → Fields t front ls → Fields t front ms → ls ≡ ms
fields_one t front ls ms a b =
    let same : length ls ≡ length ms = omega arith in
    ext_get_or 0 ls ms same (λ j within. shows_one t _ 4 _ _ (omega arith) (a.each j within) (b.each j (omega arith)))

-- the bytes of each kind's text have a sum of their own
abbrev kind_of_sum : ℕ → Kind
kind_of_sum n =
    cond (eqb n 253) Buf (cond (eqb n 273) Not (cond (eqb n 243) And (cond (eqb n 225) Or (cond (eqb n 281) Xor (cond (eqb n 289) Nand (cond (eqb n 271) Nor Xnor))))))

-- four bytes, none of them byte 10, of which the kind can be told
pub kind_facts : (k : Kind) → (length (kind_text k) ≡ 4) × Unended (kind_text k) × (kind_of_sum (sum (kind_text k)) ≡ k)
kind_facts Buf = (refl, omega arith, refl)
kind_facts Not = (refl, omega arith, refl)
kind_facts And = (refl, omega arith, refl)
kind_facts Or = (refl, omega arith, refl)
kind_facts Xor = (refl, omega arith, refl)
kind_facts Nand = (refl, omega arith, refl)
kind_facts Nor = (refl, omega arith, refl)
kind_facts Xnor = (refl, omega arith, refl)

pub kind_one : (k l : Kind) → kind_text k ≡ kind_text l → k ≡ l
kind_one k l e = sym (kind_facts k).2 ∙ ap (λ t. kind_of_sum (sum t)) e ∙ (kind_facts l).2

fours_on_lines : (m : ℕ) (ls : List ℕ) → m < 10 ^ 4 → on_lines m ls ≡ true → Fours ls
fours_on_lines m [] small fine = tt
fours_on_lines m (l ∷ ls) small fine =
    let parts = and_parts (is_in_range 1 m l) (on_lines m ls) fine in
    (omega (arith, bounds 1 m l parts.0), fours_on_lines m ls small parts.1)

-- what a legal gate of a netlist with so many lines has
pub record Gated (m : ℕ) (g : Gate) : Type 0 where
  pub delayed : (1 ≤ g.delay) × (g.delay ≤ 65535)
  pub on : on_lines m g.reads ≡ true
  pub fours : Fours g.reads
  pub fitting : fits g.kind (length g.reads) ≡ true

pub gated : (m : ℕ) (g : Gate) → m < 10 ^ 4 → legal m g ≡ true → Gated m g
gated m g small fine =
    let last = and_parts (delay_fits g.delay && on_lines m g.reads) _ fine in
    let front = and_parts (delay_fits g.delay) _ last.0 in
    record { delayed = bounds 1 65535 g.delay front.0; on = front.1; fours = fours_on_lines m g.reads small front.1; fitting = last.1 }

-- the bytes show the fields of the row
abbrev pub Says : List ℕ → Row → Type 0
Says t (header i g o) = Fields t 1 (i ∷ g ∷ o ∷ [])
Says t (input n) = Fields t 1 (n ∷ [])
Says t (gate n g) = Fields t 14 g.reads × Shows t 2 4 n × (columns t 6 4 ≡ kind_text g.kind) × Shows t 10 5 g.delay
Says t (output n) = Fields t 1 (n ∷ [])
Says t end = Fields t 1 []

says_unended : (t : List ℕ) (r : Row) → Says t r → Unended t
says_unended t (header i g o) a = a.unended
says_unended t (input n) a = a.unended
says_unended t (gate n g) a = a.0.unended
says_unended t (output n) a = a.unended
says_unended t end a = a.unended

gate_one : (t : List ℕ) (n : ℕ) (g h : Gate) → Says t (gate n g) → Says t (gate n h) → g ≡ h
gate_one t n g h a b =
    let lines = fields_one t 14 g.reads h.reads a.0 b.0 in
    let kinds = kind_one g.kind h.kind (sym a.2 ∙ b.2) in
    let delays = shows_one t 10 5 g.delay h.delay (omega arith) a.3 b.3 in
    λ x. record { kind = kinds x; delay = delays x; reads = lines x }

-- of the rows that may follow, the bytes show one
says_one : (t : List ℕ) (e : Expected) (r q : Row) → Follows e r → Follows e q → Says t r → Says t q → r ≡ q
says_one t _ _ _ (a_header l) (a_header m) a b = let same = fields_one t 1 _ _ a b in cc
says_one t _ _ _ (an_input l) (an_input m) a b = refl
says_one t _ _ _ (a_gate {n} {g} k l m) (a_gate {g = h} k' l' m') a b = ap (gate n) (gate_one t n g h a b)
says_one t _ _ _ (an_output l m) (an_output l' m') a b = let same = fields_one t 1 _ _ a b in cc
says_one t _ _ _ an_end an_end a b = refl

-- a letter and then numbers
fours_said : (t : List ℕ) (byte : ℕ) (ls : List ℕ) → (byte ≡ 10 → ⊥) → Fours ls → t ≡ byte ∷ flat_map (spelled 4) ls → Fields t 1 ls
fours_said t byte ls other small is = fields_shown t (byte ∷ []) ls 1 refl (other, tt) small is

gate_said : (n m : ℕ) (g : Gate) → n < 10 ^ 4 → Gated m g → Says (text (gate n g)) (gate n g)
gate_said n m g small parts =
    let line = spelled 4 n in
    let kind = kind_text g.kind in
    let delay = spelled 5 g.delay in
    let four = length-spelled 4 n small (omega arith) (omega arith) in
    let kinds = kind_facts g.kind in
    let five = length-spelled 5 g.delay (omega arith) (omega arith) (omega arith) in
    let long = length-append line (kind ++ delay) in
    let longer = length-append kind delay in
    let clean : Unended (line ++ (kind ++ delay)) = All-append _ line _ (spelled_no_newline 4 n (omega arith)) (All-append _ kind delay kinds.1 (spelled_no_newline 5 g.delay (omega arith))) in
    let delayed = shown (71 ∷ (line ++ kind)) (flat_map (spelled 4) g.reads) 10 5 g.delay (omega (arith, length-append line kind)) (omega arith) (omega arith) in (
      fields_shown _ (71 ∷ (line ++ (kind ++ delay))) g.reads 14 (omega arith) (omega arith, clean) parts.fours (simp append_assoc),
      shown (71 ∷ []) _ 2 4 n refl (omega arith) small,
      columns_at (71 ∷ line) kind _ 6 4 (omega arith) kinds.0,
      subst (λ t. Shows (71 ∷ t) 10 5 g.delay) (append_assoc line kind _) delayed,
    )

-- the text of a row that follows shows its fields
pub says_text : (e : Expected) (r : Row) → Follows e r → Says (text r) r
says_text _ _ (a_header {i} {g} {o} l) =
    let limits = limited i g o l in
    fours_said _ 78 (i ∷ g ∷ o ∷ []) (omega arith) (omega arith) (rw append-nil)
says_text _ _ (an_input {n} l) = fours_said _ 73 (n ∷ []) (omega arith) (omega arith) (rw append-nil)
says_text _ _ (a_gate {n} {m} {g} k l fine) = gate_said n m g k (gated m g l fine)
says_text _ _ (an_output {m} {n} l fine) = fours_said _ 79 (n ∷ []) (omega arith) (omega (arith, bounds 1 m n fine)) (rw append-nil)
says_text _ _ an_end = fours_said _ 69 [] (omega arith) tt refl

pub text_unended : (e : Expected) (r : Row) → Follows e r → Unended (text r)
text_unended e r f = says_unended (text r) r (says_text e r f)

pub text_one : (e : Expected) (r q : Row) → Follows e r → Follows e q → text r ≡ text q → r ≡ q
text_one e r q f g same = says_one (text r) e r q f g (says_text e r f) (subst (λ t. Says t q) (sym same) (says_text e q g))
