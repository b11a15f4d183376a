-- What `{}` prints of an error.
use Rattle.std.specs.Prelude.{ℕ, List, codes}
use Rattle.columns.specs.declared.FieldError.{FieldError}
use Rattle.columns.specs.declared.FieldError.TheVariants.{Blank, Unreadable}

abbrev pub message : FieldError → List ℕ
message Blank = codes "the columns are blank"
message Unreadable = codes "the columns hold no number"
