use Rattle.std.proofs.Common.{◌≡◌, [], ◌∷◌, ◌++◌, length, set, refl, ap, ◌∙◌}
use Rattle.deck.specs.Faults.{in_columns}
use Rattle.deck.proofs.Writing.{in_columns_is, length-in_columns, second_blank, third_blank, room_for_third, row_three_is, layer_written}
use Rattle.deck.proofs.fault.Fault.row.Goals as goal

pub slice_bounds-row-end-3 : goal.slice_bounds-row-end-3
slice_bounds-row-end-3 c =
    let a = c.write.new.columns in
    let b = c.write-2.new.columns in
    let tail = 32 ∷ 32 ∷ 10 ∷ [] in
    let first = in_columns_is 4 _ c.write.result _ a c.write.ensures.fits c.write.ensures.spells c.write.ensures.keeps refl in
    let four = ap length first ∙ length-in_columns 4 _ in
    let second = in_columns_is 5 _ c.write-2.result _ b c.write-2.ensures.fits c.write-2.ensures.spells c.write-2.ensures.keeps (second_blank 82 4 5 4 tail a four) in
    room_for_third 82 4 5 4 tail a four b (ap length second ∙ length-in_columns 5 _)

pub returns : goal.returns
returns c =
    let f = c.args.self.now in
    let a = c.write.new.columns in
    let b = c.write-2.new.columns in
    let d = c.write-3.new.columns in
    let tail = 32 ∷ 32 ∷ 10 ∷ [] in
    let first : a ≡ in_columns 4 c.number.result = in_columns_is 4 _ c.write.result _ a c.write.ensures.fits c.write.ensures.spells c.write.ensures.keeps refl in
    let four = ap length first ∙ length-in_columns 4 _ in
    let second : b ≡ in_columns 5 f.«record» = in_columns_is 5 _ c.write-2.result _ b c.write-2.ensures.fits c.write-2.ensures.spells c.write-2.ensures.keeps (second_blank 82 4 5 4 tail a four) in
    let five = ap length second ∙ length-in_columns 5 _ in
    let third : d ≡ in_columns 4 f.column = in_columns_is 4 _ c.write-3.result _ d c.write-3.ensures.fits c.write-3.ensures.spells c.write-3.ensures.keeps (third_blank 82 4 5 4 tail a four b five) in
    let last = ap length third ∙ length-in_columns 4 _ in
    ap (λ l. set l 15 c.letter.result) (row_three_is 82 4 5 4 tail a four b five d)
    ∙ layer_written a b d c.letter.result four five last
    ∙ (λ i. 82 ∷ ((first ∙ ap (in_columns 4) c.number.ensures) i ++ (second i ++ (third i ++ (32 ∷ c.letter.ensures i ∷ 10 ∷ [])))))
