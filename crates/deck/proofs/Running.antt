-- A reader that goes on: what it has taken is spelled by the bytes used, and what it comes to is the deck's outcome.
use Rattle.std.proofs.Common.{◌≡◌, ℕ, suc, ◌+◌, ◌-◌, ◌<◌, ◌≤◌, List, [], ◌∷◌, ◌++◌, length, take, drop, sym, refl, ap, ◌∙◌, subst, append-nil, arith}
use Rattle.std.proofs.lemmas.List.{length-append, drop_at, take_rest}
use Rattle.netlist.specs.Drafts.{Sheet, sheet, dead}
use Rattle.deck.specs.Faults.{Told}
use Rattle.deck.specs.Outcomes.{Fails, FirstFault, Deck}
use Rattle.deck.specs.Phases.{progress}
use Rattle.deck.specs.Progress.{Progress, blank, going, over, rows, Legal}
use Rattle.deck.specs.Readers.{progress_of, TookFrom, ReadAll, Unfinished, finished}
use Rattle.deck.specs.Rows.{Row, row_of, text, spell}
use Rattle.deck.specs.declared.entry.Taken.{Taken}
use Rattle.deck.specs.declared.phase.Phase.{Phase}
use Rattle.deck.specs.declared.phase.Phase.TheVariants.{Header, Inputs, Gates, Outputs, End, Done}
use Rattle.deck.specs.declared.reader.DeckReader.{DeckReader}
use Rattle.deck.proofs.Bytes.{ended_more}
use Rattle.deck.proofs.Readers.{reader_legal}

abbrev pub Going : DeckReader → List ℕ → ℕ → Type 0
Going d bytes used =
    (used ≤ length bytes) × (used ≡ length (spell (rows (progress_of d)))) × (bytes ≡ spell (rows (progress_of d)) ++ drop used bytes)

length_more : (rs : List Row) (r : Row) → length (spell (rs ++ (r ∷ []))) ≡ length (spell rs) + suc (length (text r))
length_more rs r =
    let same = ap length (sym (append-nil (spell (rs ++ (r ∷ [])))) ∙ ended_more text rs r []) in
    let outer = length-append (spell rs) (text r ++ (10 ∷ [])) in
    let inner = length-append (text r) (10 ∷ []) in
    omega arith

pub goes_on : (d t : DeckReader) (bytes : List ℕ) (used : ℕ) (k : Taken) → Going d bytes used → TookFrom d t (take (length bytes - used) (drop used bytes)) k → Going t bytes (used + k.bytes)
goes_on d t bytes used k so_far took_on =
    let took = subst (λ l. TookFrom d t l k) (take_rest bytes used) took_on in
    let rs = rows (progress_of d) in
    let r = row_of k.entry in
    let spelled : bytes ≡ spell (rs ++ (r ∷ [])) ++ took.rest = so_far.2 ∙ ap (λ l. spell rs ++ l) took.spelling ∙ sym (ended_more text rs r took.rest) in
    let long = length_more rs r in
    let used-is : used + k.bytes ≡ length (spell (rs ++ (r ∷ []))) = omega (arith, so_far.1, took.count) in
    let left : drop (used + k.bytes) bytes ≡ took.rest = ap (drop (used + k.bytes)) spelled ∙ drop_at (spell (rs ++ (r ∷ []))) took.rest _ (sym used-is) in
    let all = ap length spelled ∙ length-append (spell (rs ++ (r ∷ []))) took.rest in
    let Then : List Row → Type 0 = λ qs. (used + k.bytes ≤ length bytes) × (used + k.bytes ≡ length (spell qs)) × (bytes ≡ spell qs ++ drop (used + k.bytes) bytes) in
    subst Then (sym took.one_more) (omega arith, used-is, spelled ∙ ap (λ l. spell (rs ++ (r ∷ [])) ++ l) (sym left))

pub took_some : (d t : DeckReader) (bytes : List ℕ) (k : Taken) → TookFrom d t bytes k → 0 < k.bytes
took_some d t bytes k took = omega (arith, took.count)

pub took_within : (d t : DeckReader) (bytes : List ℕ) (k : Taken) → TookFrom d t bytes k → k.bytes ≤ length bytes
took_within d t bytes k took =
    let long = length-append (text (row_of k.entry)) (10 ∷ took.rest) in
    omega (arith, ap length took.spelling, took.count)

-- only the last phase is past the end
over_done : (p : Phase) (s t : Sheet) → progress p s ≡ over t → p ≡ Done
over_done Header s t e = cc
over_done (Inputs told) s t e = cc
over_done Gates s t e = cc
over_done Outputs s t e = cc
over_done End s t e = cc
over_done Done s t e = refl

pub unfinished : (d : DeckReader) → (d.phase ≡ Done → ⊥) → Unfinished d
unfinished d not_done s e = not_done (over_done d.phase (sheet d.draft) s e)

pub faulted : (d : DeckReader) (bytes : List ℕ) (used : ℕ) (f : Told) → Going d bytes used → (d.phase ≡ Done → ⊥) → Fails (progress_of d) (suc (length (rows (progress_of d)))) (take (length bytes - used) (drop used bytes)) f → FirstFault bytes f
faulted d bytes used f so_far not_done bad = record {
  before = progress_of d;
  legal = reader_legal d;
  unfinished = unfinished d not_done;
  rest = drop used bytes;
  spelled_before = so_far.2;
  fails = subst (λ l. Fails (progress_of d) (suc (length (rows (progress_of d)))) l f) (take_rest bytes used) bad;
}

finished_dead : (p : Progress) → ((s : Sheet) → p ≡ over s → ⊥) → finished p ≡ dead
finished_dead blank un = refl
finished_dead (going s told) un = refl
finished_dead (over s) un = absurd (un s refl)

pub dead_then : (d : DeckReader) (s : Sheet) → Unfinished d → s ≡ finished (progress_of d) → s ≡ dead
dead_then d s un e = e ∙ finished_dead (progress_of d) un

-- a reader that came to the end has read the deck of its draft
pub decked : (d : DeckReader) (bytes : List ℕ) (n : ℕ) (s : Sheet) → ReadAll d bytes n → s ≡ finished (progress_of d) → Deck bytes n s
decked d bytes n s all is =
    let same : s ≡ all.whole = is ∙ ap finished all.at_end in
    subst (Deck bytes n) (sym same) (record {
      whole = subst Legal all.at_end (reader_legal d);
      rest = all.rest;
      spelled = all.spelling ∙ ap (λ p. spell (rows p) ++ all.rest) all.at_end;
      count_is = all.count_is ∙ ap (λ p. length (spell (rows p))) all.at_end;
    })
