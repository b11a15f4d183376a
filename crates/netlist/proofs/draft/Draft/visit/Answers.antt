use Rattle.std.proofs.Common.{◌≡◌, ℕ, ◌+◌, ◌<◌, List, length, get_or, sym, ap, ◌∙◌, subst, arith}
use Rattle.netlist.specs.declared.draft.Draft.{Draft}
use Rattle.netlist.specs.declared.draft.search.Search.{Search}
use Rattle.netlist.specs.Drafts.{sheet}
use Rattle.netlist.specs.Walks.{reads, Reads}
use Rattle.netlist.proofs.Ranges.{bounds}
use Rattle.netlist.proofs.Reading.{read_bounds}
use Rattle.netlist.specs.Walks.Walk.{step}
use Rattle.netlist.proofs.Searching.{room, Visiting, visit_marked, visit_seen}
use Rattle.netlist.proofs.draft.Draft.visit.Goals as goal
use Rattle.netlist.proofs.draft.Draft.visit.Goals.{then-not-search-read, else-not-search-read}

-- the line at place k of those that a line reads
read_at : (d : Draft) (n k : ℕ) (ks : List ℕ) → ks ≡ reads (sheet d).circuit n → k < length ks → Reads (sheet d).circuit n (get_or ks k 0)
read_at d n k ks e within = record { place = k; within = subst (λ l. k < length l) e within; is = ap (λ l. get_or l k 0) (sym e) }

on_table : (d : Draft) (n m : ℕ) → Reads (sheet d).circuit n m → m < 1025
on_table d n m read = let b = read_bounds (sheet d).circuit (d.size.inputs + d.size.gates) n m d.wired read in omega arith

pub returns-then-contains-clause-leads : goal.returns-then-contains-clause-leads
returns-then-contains-clause-leads c =
    let d = c.args.self.now in
    let read = read_at d c.args.line c.loop-read.read-index _ c.reads-read-items.ensures c.loop-read-test.true in
    let inside = bounds c.args.sources.first c.args.sources.last _ (sym c.if-contains.ensures) in
    λ _. record { from = _; not_before = inside.0; not_after = inside.1; walk = step read }

pub bounds-search-read : goal.bounds-search-read
bounds-search-read c = on_table c.args.self.now c.args.line _ (read_at c.args.self.now c.args.line c.loop-read.read-index _ c.reads-read-items.ensures c.loop-read-test.true)

pub mark-requires : goal.mark-requires
mark-requires c =
    let d = c.args.self.now in
    let fits = on_table d c.args.line _ (read_at d c.args.line c.loop-read.read-index _ c.reads-read-items.ensures c.loop-read-test.true) in
    record { on_table = fits; room = room (sheet d).circuit c.args.sources.first c.args.sources.last c.args.line c.loop-read.search c.loop-read.invariant.sound _ fits c.if-not-search-read.true }

pub loop-read-preserved : goal.loop-read-preserved
loop-read-preserved c =
    let d = c.args.self.now in
    let i = c.loop-read.read-index in
    let m = get_or c.reads-read-items.result.now i 0 in
    let read = read_at d c.args.line i _ c.reads-read-items.ensures c.loop-read-test.true in
    let at : get_or (reads (sheet d).circuit c.args.line) i 0 ≡ m = ap (λ l. get_or l i 0) (sym c.reads-read-items.ensures) in
    let Then : Search → Type 0 = Visiting (sheet d).circuit c.args.sources.first c.args.sources.last c.args.line c.args.search.now (i + 1) in
    elim c.if-not-search-read.branch [
      | then-not-search-read w ↦ subst Then (sym (w.search-is ∙ w.mark.ensures)) (visit_marked (sheet d).circuit c.args.sources.first c.args.sources.last c.args.line c.args.search.now c.loop-read.search i m at c.loop-read.invariant read (on_table d c.args.line m read) w.if-not-search-read.true (sym c.if-contains.ensures))
      | else-not-search-read w ↦ subst Then (sym w.search-is) (visit_seen (sheet d).circuit c.args.sources.first c.args.sources.last c.args.line c.args.search.now c.loop-read.search i m at c.loop-read.invariant w.if-not-search-read.false)
    ]
