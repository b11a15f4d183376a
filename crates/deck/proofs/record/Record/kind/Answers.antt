use Rattle.std.proofs.Common.{◌<◌, length, ap, arith}
use Rattle.deck.specs.Faults.{told}
use Rattle.deck.specs.Records.{whole}
use Rattle.deck.specs.Tests.{columns}
use Rattle.deck.proofs.Numbers.{few_columns}
use Rattle.deck.proofs.Texts.{kind_facts}
use Rattle.deck.proofs.record.Record.kind.Goals as goal

pub returns-in_default : goal.returns-in_default
returns-in_default c =
    let r = c.args.self.now in
    let few : length (columns (whole r) 6 4) < 4 = few_columns r.letter r.fields.now 6 4 (omega arith) (omega arith) c.in_default.ensures in
    record { fails = λ known. let wide = (kind_facts known.0).0 in omega (arith, ap length known.1); is = ap told c.fault-fault.ensures }
