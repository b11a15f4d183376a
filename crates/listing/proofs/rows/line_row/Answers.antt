use Rattle.std.proofs.Common.{◌≡◌, [], ◌∷◌, ◌++◌, length, refl, ap, ◌∙◌}
use Rattle.deck.specs.Faults.{in_columns}
use Rattle.deck.proofs.Writing.{in_columns_is, length-in_columns, second_blank, third_blank, room_for_third, row_three_is}
use Rattle.listing.proofs.rows.line_row.Goals as goal

pub slice_bounds-row-end-3 : goal.slice_bounds-row-end-3
slice_bounds-row-end-3 c =
    let a = c.write.new.columns in
    let b = c.write-2.new.columns in
    let first = in_columns_is 4 _ c.write.result _ a c.write.ensures.fits c.write.ensures.spells c.write.ensures.keeps refl in
    let four = ap length first ∙ length-in_columns 4 _ in
    let second = in_columns_is 10 _ c.write-2.result _ b c.write-2.ensures.fits c.write-2.ensures.spells c.write-2.ensures.keeps (second_blank 76 4 10 4 (10 ∷ []) a four) in
    room_for_third 76 4 10 4 (10 ∷ []) a four b (ap length second ∙ length-in_columns 10 _)

pub returns : goal.returns
returns c =
    let a = c.write.new.columns in
    let b = c.write-2.new.columns in
    let d = c.write-3.new.columns in
    let first : a ≡ in_columns 4 c.args.line = in_columns_is 4 _ c.write.result _ a c.write.ensures.fits c.write.ensures.spells c.write.ensures.keeps refl in
    let four = ap length first ∙ length-in_columns 4 _ in
    let second : b ≡ in_columns 10 c.args.settled = in_columns_is 10 _ c.write-2.result _ b c.write-2.ensures.fits c.write-2.ensures.spells c.write-2.ensures.keeps (second_blank 76 4 10 4 (10 ∷ []) a four) in
    let ten = ap length second ∙ length-in_columns 10 _ in
    let third : d ≡ in_columns 4 c.args.kept = in_columns_is 4 _ c.write-3.result _ d c.write-3.ensures.fits c.write-3.ensures.spells c.write-3.ensures.keeps (third_blank 76 4 10 4 (10 ∷ []) a four b ten) in
    row_three_is 76 4 10 4 (10 ∷ []) a four b ten d
    ∙ (λ i. 76 ∷ (first i ++ (second i ++ (third i ++ (10 ∷ [])))))
