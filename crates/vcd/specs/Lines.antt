-- The lines of a dump as bytes: docs/WAVEFORM.md. Assumes nothing.
use Rattle.std.specs.Prelude.{List, [], ◌∷◌, ◌++◌, map, ℕ, ◌+◌, ◌*◌, ◌/◌, ◌%◌, get_or}
use Rattle.decimal.specs.Ascii.{ascii}
use Rattle.decimal.specs.Digits.{digits_of}
use Rattle.vcd.specs.declared.Mark.{Mark}
use Rattle.vcd.specs.declared.Mark.TheVariants.{Timescale, Scope, Upscope, EndDefinitions, DumpVars, End}
use Rattle.vcd.specs.declared.Line.{Line}
use Rattle.vcd.specs.declared.Line.TheVariants.{Fixed, Var, Unknown, Time, Change, Other}

-- the six fixed lines
unfoldable pub fixed_lines : List (List ℕ)
fixed_lines = map ascii ("$timescale 1 ns $end" ∷ "$scope module pins $end" ∷ "$upscope $end" ∷ "$enddefinitions $end" ∷ "$dumpvars" ∷ "$end" ∷ [])

-- the place of a fixed line among these
abbrev pub place : Mark → ℕ
place Timescale = 0
place Scope = 1
place Upscope = 2
place EndDefinitions = 3
place DumpVars = 4
place End = 5

-- "capitals `A` to `T` for bank 0, small letters `a` to `t` for bank 1"
abbrev pub code_of : ℕ → ℕ
code_of w = 65 + w % 20 + 32 * (w / 20)

-- "$var wire 1 G bank0_encoder3_A $end"
unfoldable pub var_of : ℕ → List ℕ
var_of w = ascii "$var wire 1 " ++ code_of w ∷ ascii " bank" ++ (48 + w / 20) ∷ ascii "_encoder" ++ (48 + w / 2 % 10) ∷ ascii "_" ++ (65 + w % 2) ∷ ascii " $end"

-- "xG", "#100", "0G" and "1G"
unfoldable pub print_of : Line → List ℕ
print_of (Fixed m) = get_or fixed_lines (place m) []
print_of (Var w) = var_of w
print_of (Unknown w) = ascii "x" ++ code_of w ∷ []
print_of (Time t) = ascii "#" ++ digits_of t
print_of (Change w b) = (48 + b) ∷ code_of w ∷ []
print_of Other = []

-- "Every line ends in one newline"
unfoldable pub text_of : List Line → List ℕ
text_of [] = []
text_of (l ∷ ls) = print_of l ++ (10 ∷ text_of ls)
