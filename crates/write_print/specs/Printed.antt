-- What `rvz write` writes. Assumes nothing.
use Rattle.std.specs.Prelude.{List, ℕ, Option, Some, None, Result}
use Rattle.std.specs.Result.{result_err}
use Rattle.decimal.specs.Ascii.{ascii}
use Rattle.text.specs.Text.{no_number_text}
use Rattle.writer.specs.Writer.{log_of, written_of}
use Rattle.printed.specs.Printed.{Prints, Complains}

-- with room for the longest log. What is no number is said to be none, as EDITION
abbrev pub WritePrinted : Option ℕ → List ℕ → List ℕ → List ℕ → Result ℕ ℕ → Type 0
WritePrinted None notes run out' p = Complains (no_number_text (ascii "EDITION")) out' p
WritePrinted (Some edition) notes run out' p = Prints (result_err (written_of edition notes run 32_768)) (log_of notes run edition) out' p
