use Rattle.std.proofs.Common.{◌≡◌, [], ◌++◌, sym, ap, subst, append-nil}
use Rattle.std.specs.Io.KnownBytes.{Appends}
use Rattle.std.proofs.KnownBytes.{Appends-nil}
use Rattle.deck.proofs.Exits.{carried}
use Rattle.listing.specs.Listers.{machine_in}
use Rattle.listing.specs.Listings.{change_rows}
use Rattle.listing.specs.Rows.{line_row}
use Rattle.listing.specs.Sinks.{Put}
use Rattle.listing.proofs.Changing.{state_told, state_there, rows_are}
use Rattle.listing.proofs.Putting.{stopped_within, refused_all, put_on}
use Rattle.listing.proofs.lister.list_line.Goals as goal

pub returns-in_default : goal.returns-in_default
returns-in_default g c a stands line rows is = absurd (state_there (machine_in c.args.session.now) a c.args.line _ (c.in_default.ensures.answers a stands) line)

pub returns-in_err-put : goal.returns-in_err-put
returns-in_err-put g c a stands line rows is =
    let s = machine_in c.args.session.now in
    let refuses = g.S.Sink.Refuses in
    let state = c.in-Ok.state in
    let told = state_told s a c.args.line state.settled state.kept (c.in-Ok.ensures.answers a stands) line in
    let refused = subst (λ l. refuses c.args.out.now l c.put.new.self) c.line_row.ensures c.in_err-put.ensures.takes_or_refuses in
    carried c.from_residual.result c.in_err-put.field-0.0 _ _ c.from_residual.ensures.1
    (stopped_within g.S.Sink.contents refuses c.args.out.now c.args.out.now c.put.new.self [] (line_row c.args.line state.settled state.kept) (change_rows s a c.args.line told.ticks) rows (rows_are s a c.args.line state.settled state.kept told rows is) (Appends-nil _) (refused_all g.S.Sink.contents refuses c.args.out.now c.put.new.self (line_row c.args.line state.settled state.kept) refused))

pub returns : goal.returns
returns g c a stands line rows is =
    let s = machine_in c.args.session.now in
    let out = g.S.Sink.contents in
    let state = c.in-Ok.state in
    let told = state_told s a c.args.line state.settled state.kept (c.in-Ok.ensures.answers a stands) line in
    let first = line_row c.args.line state.settled state.kept in
    let changes = change_rows s a c.args.line told.ticks in
    let are : rows ≡ first ++ changes = rows_are s a c.args.line state.settled state.kept told rows is in
    let wrote = subst (Appends (out c.args.out.now) (out c.put.new.self)) c.line_row.ensures c.in_ok-put.ensures.takes_or_refuses in
    subst (Put out g.S.Sink.Refuses c.list_changes.result c.args.out.now c.list_changes.new.out) (sym are)
    (put_on out g.S.Sink.Refuses c.list_changes.result c.args.out.now c.put.new.self c.list_changes.new.out first changes [] (first ++ changes) (ap (λ l. first ++ l) (sym (append-nil changes))) wrote (c.list_changes.ensures a stands told.ticks told.contents))
