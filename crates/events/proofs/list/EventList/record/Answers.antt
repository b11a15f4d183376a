use Rattle.std.proofs.Common.{false, refl}
use Rattle.std.proofs.lemmas.Bool.Decides.{not_from_Decides}
use Rattle.events.proofs.Lists.{stays, is_full, grows}
use Rattle.events.proofs.list.EventList.record.Goals as goal

pub returns-then-alike-clause-recorded : goal.returns-then-alike-clause-recorded
returns-then-alike-clause-recorded g c = stays g.E.Element.Alike c.args.self.now.records.now c.args.self.now.kept c.index-self-self.result _ c.args.self.now.within (c.if-alike.ensures.decides_alike.0 refl)

pub returns-then-self-clause-recorded : goal.returns-then-self-clause-recorded
returns-then-self-clause-recorded g c = is_full g.E.Element.Alike c.args.self.now.records.now c.args.self.now.kept c.index-self-self.result _ c.args.self.now.within (not_from_Decides false c.if-alike.ensures.decides_alike refl) c.if-self.true

pub returns-clause-recorded : goal.returns-clause-recorded
returns-clause-recorded g c = grows g.E.Element.Alike c.args.self.now.records.now c.args.self.now.kept c.index-self-self.result _ c.args.self.now.within (not_from_Decides false c.if-alike.ensures.decides_alike refl) c.if-self.false
