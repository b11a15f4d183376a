use Rattle.std.proofs.Common.{◌≡◌, ◌+◌, take, drop, sym, subst, arith}
use Rattle.std.proofs.lemmas.List.{take_all}
use Rattle.std.specs.Io.KnownBytes.{Appends}
use Rattle.std.proofs.KnownBytes.{Appends-nil, Appends-trans}
use Rattle.deck.proofs.Exits.{carried}
use Rattle.listing.specs.Listers.{machine_in}
use Rattle.listing.specs.Listings.{change_rows}
use Rattle.listing.specs.Rows.{change_row}
use Rattle.listing.proofs.Changing.{event_row, event_there, rows_split}
use Rattle.listing.proofs.Putting.{stopped_within, refused_all}
use Rattle.listing.proofs.lister.list_changes.Goals as goal

pub loop-k-init : goal.loop-k-init
loop-k-init g c a stands ticks contents = Appends-nil _

pub loop-k-preserved : goal.loop-k-preserved
loop-k-preserved g c a stands ticks contents =
    let s = machine_in c.args.session.now in
    let out = g.S.Sink.contents in
    let row = event_row s a c.args.line ticks c.args.kept c.loop-k.k contents c.loop-k-test.true c.in-Ok.change.tick c.in-Ok.change.value (c.in-Ok.ensures.answers a stands) in
    let wrote = subst (Appends (out c.loop-k.out) (out c.put.new.self)) c.change_row.ensures c.in_ok-put.ensures.takes_or_refuses in
    subst (Appends (out c.args.out.now) (out c.put.new.self)) (sym row) (Appends-trans _ _ _ _ _ (c.loop-k.invariant a stands ticks contents) wrote)

pub returns-in_default : goal.returns-in_default
returns-in_default g c a stands ticks contents =
    absurd (event_there (machine_in c.args.session.now) a c.args.line ticks c.args.kept c.loop-k.k contents c.loop-k-test.true _ (c.in_default.ensures.answers a stands))

pub returns-in_err-put : goal.returns-in_err-put
returns-in_err-put g c a stands ticks contents =
    let s = machine_in c.args.session.now in
    let refuses = g.S.Sink.Refuses in
    let change = c.in-Ok.change in
    let split = rows_split s a c.args.line ticks c.args.kept c.loop-k.k contents c.loop-k-test.true change.tick change.value (c.in-Ok.ensures.answers a stands) in
    let refused = subst (λ l. refuses c.loop-k.out l c.put.new.self) c.change_row.ensures c.in_err-put.ensures.takes_or_refuses in
    carried c.from_residual.result c.in_err-put.field-0.0 _ _ c.from_residual.ensures.1
    (stopped_within g.S.Sink.contents refuses c.args.out.now c.loop-k.out c.put.new.self (change_rows s a c.args.line (take c.loop-k.k ticks)) (change_row change.tick change.value) (change_rows s a c.args.line (drop (c.loop-k.k + 1) ticks)) (change_rows s a c.args.line ticks) split (c.loop-k.invariant a stands ticks contents) (refused_all g.S.Sink.contents refuses c.loop-k.out c.put.new.self (change_row change.tick change.value) refused))

pub returns : goal.returns
returns g c a stands ticks contents =
    let s = machine_in c.args.session.now in
    let out = g.S.Sink.contents in
    let all : take c.loop-k.k ticks ≡ ticks = take_all c.loop-k.k ticks (omega (arith, contents.so_many)) in
    subst (λ l. Appends (out c.args.out.now) (out c.loop-k.out) (change_rows s a c.args.line l)) all (c.loop-k.invariant a stands ticks contents)
