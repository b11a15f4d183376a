-- A kept relation ties what gates of one kind show of tied operands.
use Rattle.std.proofs.Common.{List, [], ◌∷◌}
use Rattle.std.specs.Prelude.{fold}
use Rattle.std.specs.List.{AllZip}
use Rattle.netlist.specs.declared.kind.Kind.{Kind}
use Rattle.netlist.specs.declared.kind.Kind.TheVariants.{Buf, Not, And, Or, Xor, Nand, Nor, Xnor}
use Rattle.values.specs.Systems.{System}
use Rattle.values.specs.Relations.{Kept}
use Rattle.gates.specs.Functions.{combined, finished, gate_function}

module _ {M N : Type 0} (s : System M) (t : System N) (R : M → N → Type 0) (k : Kept s t R) where
  combined_tied : (kind : Kind) (a c : M) (b d : N) → R a b → R c d → R (combined s kind a c) (combined t kind b d)
  combined_tied Buf a c b d ab cd = ab
  combined_tied Not a c b d ab cd = ab
  combined_tied And a c b d ab cd = k.and a c b d ab cd
  combined_tied Or a c b d ab cd = k.or a c b d ab cd
  combined_tied Xor a c b d ab cd = k.xor a c b d ab cd
  combined_tied Nand a c b d ab cd = k.and a c b d ab cd
  combined_tied Nor a c b d ab cd = k.or a c b d ab cd
  combined_tied Xnor a c b d ab cd = k.xor a c b d ab cd

  finished_tied : (kind : Kind) (a : M) (b : N) → R a b → R (finished s kind a) (finished t kind b)
  finished_tied Buf a b ab = ab
  finished_tied Not a b ab = k.not a b ab
  finished_tied And a b ab = ab
  finished_tied Or a b ab = ab
  finished_tied Xor a b ab = ab
  finished_tied Nand a b ab = k.not a b ab
  finished_tied Nor a b ab = k.not a b ab
  finished_tied Xnor a b ab = k.not a b ab

  folds_tied : (kind : Kind) (a : M) (b : N) (cs : List M) (ds : List N) → R a b → AllZip R cs ds → R (fold (combined s kind) a cs) (fold (combined t kind) b ds)
  folds_tied kind a b [] [] ab all = ab
  folds_tied kind a b [] (d ∷ ds) ab all = absurd all
  folds_tied kind a b (c ∷ cs) [] ab all = absurd all
  folds_tied kind a b (c ∷ cs) (d ∷ ds) ab all = folds_tied kind (combined s kind a c) (combined t kind b d) cs ds (combined_tied kind a c b d ab all.0) all.1

  pub gates_tied : (kind : Kind) (cs : List M) (ds : List N) → AllZip R cs ds → R (gate_function s kind cs) (gate_function t kind ds)
  gates_tied kind [] [] all = k.start
  gates_tied kind [] (d ∷ ds) all = absurd all
  gates_tied kind (c ∷ cs) [] all = absurd all
  gates_tied kind (c ∷ cs) (d ∷ ds) all = finished_tied kind (fold (combined s kind) c cs) (fold (combined t kind) d ds) (folds_tied kind c d cs ds all.0 all.1)
