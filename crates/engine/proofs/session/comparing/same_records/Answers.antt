use Rattle.std.proofs.Common.{ℕ, ◌<◌, false, length, refl, ap, arith}
use Rattle.std.proofs.lemmas.Bool.{both_ways}
use Rattle.engine.specs.Stores.{seen}
use Rattle.engine.proofs.Agreeing.{same_at}
use Rattle.engine.proofs.session.comparing.same_records.Goals as goal

pub returns-then-left-place : goal.returns-then-left-place
returns-then-left-place g c =
    let meaning = g.V.ValueSystem.meaning in
    let left = c.args.left.now in
    let right = c.args.right.now in
    let i = c.loop-place.place in
    let also : i < length right = omega (arith, c.if-left-right.false, c.loop-place-test.true) in
    (λ no. absurd (both_ways false refl no), λ same. absurd (c.if-left-place.true (ap (λ (r : ℕ × g.V.ValueSystem.Sense). r.0) (same_at (seen meaning) left right i c.index-left-place.result c.index-right-place.result same c.loop-place-test.true also))))

pub returns-then-not-same : goal.returns-then-not-same
returns-then-not-same g c =
    let meaning = g.V.ValueSystem.meaning in
    let left = c.args.left.now in
    let right = c.args.right.now in
    let i = c.loop-place.place in
    let also : i < length right = omega (arith, c.if-left-right.false, c.loop-place-test.true) in
    (λ no. absurd (both_ways false refl no), λ same. absurd (both_ways c.same.result c.if-not-same.true (c.same.ensures.decides_equal_meanings.1 (ap (λ (r : ℕ × g.V.ValueSystem.Sense). r.1) (same_at (seen meaning) left right i c.index-left-place-in-loop-place.result c.index-right-place-in-loop-place.result same c.loop-place-test.true also)))))
