-- The function of each kind of gate, in any value system.
use Rattle.std.specs.Prelude.{List, [], ◌∷◌, fold}
use Rattle.netlist.specs.declared.kind.Kind.{Kind}
use Rattle.netlist.specs.declared.kind.Kind.TheVariants.{Buf, Not, And, Or, Xor, Nand, Nor, Xnor}
use Rattle.values.specs.Systems.{System}

-- the next operand combined with the fold of those before it; gates of one operand have no next
abbrev pub combined : {M : Type 0} → System M → Kind → M → M → M
combined s Buf a b = a
combined s Not a b = a
combined s And a b = s.and a b
combined s Or a b = s.or a b
combined s Xor a b = s.xor a b
combined s Nand a b = s.and a b
combined s Nor a b = s.or a b
combined s Xnor a b = s.xor a b

-- what a gate shows of the fold of its operands: NOT, NAND, NOR and XNOR show NOT of it
abbrev pub finished : {M : Type 0} → System M → Kind → M → M
finished s Buf a = a
finished s Not a = s.not a
finished s And a = a
finished s Or a = a
finished s Xor a = a
finished s Nand a = s.not a
finished s Nor a = s.not a
finished s Xnor a = s.not a

-- the operands folded from the first to the last; START where there are none, which no gate of a netlist has
abbrev pub gate_function : {M : Type 0} → System M → Kind → List M → M
gate_function s kind [] = s.start
gate_function s kind (first ∷ rest) = finished s kind (fold (combined s kind) first rest)
