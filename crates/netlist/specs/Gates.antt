-- Gates and circuits as the subject has them, apart from how they are stored.
use Rattle.std.specs.Prelude.{ℕ, Bool, ◌&&◌, List, [], length, codes, ◌==◌}
use Rattle.std.specs.List.{list_all}
use Rattle.std.specs.Int.{is_in_range}
use Rattle.netlist.specs.declared.kind.Kind.{Kind}
use Rattle.netlist.specs.declared.kind.Kind.TheVariants.{Buf, Not, And, Or, Xor, Nand, Nor, Xnor}

-- a gate, with the lines it reads from first to last
pub record Gate : Type 0 where
  pub kind : Kind
  pub delay : ℕ
  pub reads : List ℕ

-- lines are numbered from 1: first the inputs, then the gates, each driving one line
pub record Circuit : Type 0 where
  pub inputs : ℕ
  pub gates : List Gate
  pub outputs : List ℕ

-- the circuit without lines
abbrev pub nothing : Circuit
nothing = record { inputs = 0; gates = []; outputs = [] }

abbrev pub kind_name : Kind → List ℕ
kind_name Buf = codes "BUF"
kind_name Not = codes "NOT"
kind_name And = codes "AND"
kind_name Or = codes "OR"
kind_name Xor = codes "XOR"
kind_name Nand = codes "NAND"
kind_name Nor = codes "NOR"
kind_name Xnor = codes "XNOR"

-- BUF and NOT have one input, the others two to four
abbrev pub fits : Kind → ℕ → Bool
fits Buf n = n == 1
fits Not n = n == 1
fits And n = is_in_range 2 4 n
fits Or n = is_in_range 2 4 n
fits Xor n = is_in_range 2 4 n
fits Nand n = is_in_range 2 4 n
fits Nor n = is_in_range 2 4 n
fits Xnor n = is_in_range 2 4 n

-- a delay is 1 to 65,535 ticks
abbrev pub delay_fits : ℕ → Bool
delay_fits d = is_in_range 1 65535 d

-- each of them is a line of a netlist with so many lines
abbrev pub on_lines : ℕ → List ℕ → Bool
on_lines lines ns = list_all (is_in_range 1 lines) ns

-- a gate that a netlist with so many lines may have
abbrev pub legal : ℕ → Gate → Bool
legal lines g = delay_fits g.delay && on_lines lines g.reads && fits g.kind (length g.reads)
