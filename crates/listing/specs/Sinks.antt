-- What becomes of a text that is put into a sink.
use Rattle.std.specs.Prelude.{◌≡◌, ℕ, List, ◌++◌, Option, Result, MatchResult}
use Rattle.std.specs.Io.KnownBytes.{Appends}

module _ {S : Type 0} (contents : S → Option (List ℕ)) (Refuses : S → List ℕ → S → Type 0) where
  -- the sink took what comes before some bytes of the text, and refused these
  pub record Stopped (old new : S) (text : List ℕ) : Type 0 where
    pub before : List ℕ
    pub bytes : List ℕ
    pub after : List ℕ
    pub is : text ≡ before ++ (bytes ++ after)
    pub sink : S
    pub took : Appends (contents old) (contents sink) before
    pub refused : Refuses sink bytes new

  -- the whole text was put into it; or there is an error, and it refused some of the text
  abbrev pub Put : {E : Type 0} → Result Unit E → S → S → List ℕ → Type 0
  Put result old new text = MatchResult result (λ _. Appends (contents old) (contents new) text) (λ _. Stopped old new text)
