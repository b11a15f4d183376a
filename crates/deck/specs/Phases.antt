-- What a phase says of a draft, and how far a deck is read in it.
use Rattle.std.specs.Prelude.{Bool, true, ◌&&◌, length, ◌==◌, nat_lt}
use Rattle.netlist.specs.Drafts.{Sheet, within_limits, takes_gate, takes_output, complete}
use Rattle.deck.specs.Progress.{Progress, blank, going, over}
use Rattle.deck.specs.declared.phase.Phase.{Phase}
use Rattle.deck.specs.declared.phase.Phase.TheVariants.{Header, Inputs, Gates, Outputs, End, Done}

abbrev pub progress : Phase → Sheet → Progress
progress Header s = blank
progress (Inputs told) s = going s told
progress Gates s = going s s.circuit.inputs
progress Outputs s = going s s.circuit.inputs
progress End s = going s s.circuit.inputs
progress Done s = over s

abbrev pub limited : Sheet → Bool
limited s = within_limits s.circuit.inputs s.gates s.outputs

-- the phase is that of the draft; from the gates on all inputs are told
abbrev pub agrees : Phase → Sheet → Bool
agrees Header s = true
agrees (Inputs told) s =
    limited s && nat_lt told s.circuit.inputs && length s.circuit.gates == 0 && length s.circuit.outputs == 0
agrees Gates s = limited s && takes_gate s && length s.circuit.outputs == 0
agrees Outputs s = limited s && takes_output s
agrees End s = limited s && complete s
agrees Done s = limited s && complete s
