-- A text is put into a sink in parts.
use Rattle.std.proofs.Common.{◌≡◌, ℕ, List, [], ◌++◌, Option, Result, MatchResult, sym, ap, ◌∙◌, subst, append_assoc, append-nil}
use Rattle.std.specs.Io.KnownBytes.{Appends}
use Rattle.std.proofs.KnownBytes.{Appends-nil, Appends-trans}
use Rattle.std.proofs.lemmas.Result.{MatchResult-weaker}
use Rattle.listing.specs.Sinks.{Stopped, Put}

module _ {S : Type 0} (contents : S → Option (List ℕ)) (Refuses : S → List ℕ → S → Type 0) where
  -- a part between others was refused
  pub stopped_within : (old mid new : S) (front part rest text : List ℕ) → text ≡ front ++ (part ++ rest) → Appends (contents old) (contents mid) front → Stopped contents Refuses mid new part → Stopped contents Refuses old new text
  stopped_within old mid new front part rest text split took s = record {
    before = front ++ s.before;
    bytes = s.bytes;
    after = s.after ++ rest;
    is = split ∙ ap (λ l. front ++ (l ++ rest)) s.is ∙ ap (λ l. front ++ l) (append_assoc s.before (s.bytes ++ s.after) rest ∙ ap (λ l. s.before ++ l) (append_assoc s.bytes s.after rest)) ∙ sym (append_assoc front s.before (s.bytes ++ (s.after ++ rest)));
    sink = s.sink;
    took = Appends-trans _ _ _ _ _ took s.took;
    refused = s.refused;
  }

  -- some bytes were refused as they are
  pub refused_all : (old new : S) (bytes : List ℕ) → Refuses old bytes new → Stopped contents Refuses old new bytes
  refused_all old new bytes refuses = record { before = []; bytes = bytes; after = []; is = sym (append-nil bytes); sink = old; took = Appends-nil (contents old); refused = refuses }

  -- after a part that was taken comes another
  pub put_on : {E : Type 0} (r : Result Unit E) (old mid new : S) (front part rest text : List ℕ) → text ≡ front ++ (part ++ rest) → Appends (contents old) (contents mid) front → Put contents Refuses r mid new part → MatchResult r (λ _. Appends (contents old) (contents new) (front ++ part)) (λ _. Stopped contents Refuses old new text)
  put_on r old mid new front part rest text split took p =
      MatchResult-weaker r p (λ done more. Appends-trans _ _ _ _ _ took more) (λ error s. stopped_within old mid new front part rest text split took s)

  -- as it was put by itself
  pub put_so : {E : Type 0} (r : Result Unit E) (old new : S) (bytes text : List ℕ) → bytes ≡ text → MatchResult r (λ _. Appends (contents old) (contents new) bytes) (λ _. Refuses old bytes new) → Put contents Refuses r old new text
  put_so r old new bytes text same p =
      MatchResult-weaker r p (λ done more. subst (Appends (contents old) (contents new)) same more) (λ error refuses. subst (Stopped contents Refuses old new) same (refused_all old new bytes refuses))
