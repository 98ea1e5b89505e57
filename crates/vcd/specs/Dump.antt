-- The dump of a log's steps: docs/WAVEFORM.md, sentence by sentence. Assumes nothing.
use Rattle.std.specs.Prelude.{Bool, false, ◌&&◌, ◌||◌, not, cond, ℕ, ◌+◌, ◌*◌, ◌/◌, ◌%◌, ◌<◌, eqb, ltb, get_or, set, replicate}
use mathlib.Core.List.{List, [], ◌∷◌, ◌++◌, foldl}
use Rattle.vcd.specs.declared.Step.{Step}
use Rattle.vcd.specs.declared.Step.TheVariants.{Wait, Pins}
use Rattle.vcd.specs.declared.Mark.TheVariants.{Timescale, Scope, Upscope, EndDefinitions, DumpVars, End}
use Rattle.vcd.specs.declared.Line.{Line}
use Rattle.vcd.specs.declared.Line.TheVariants.{Fixed, Var, Unknown, Time, Change}

-- ---- what is known of the pins of each of the 20 encoders: a value 0 to 3, 4 unknown, 5 no wire

-- "one wire for each pin of each encoder that has a pins record, unknown until the first"
unfoldable pub declared : List ℕ → Step → List ℕ
declared pins (Wait t) = pins
declared pins (Pins e v) = set pins e 4

abbrev pub start_of : List Step → List ℕ
start_of steps = foldl declared (replicate 20 5) steps

-- ---- the header: "the line of its pin A and then of its pin B"

unfoldable pub wires_from : (ℕ → Line) → ℕ → List ℕ → List Line
wires_from line e [] = []
wires_from line e (p ∷ ps) = cond (eqb p 5) [] (line (2 * e) ∷ line (2 * e + 1) ∷ []) ++ wires_from line (e + 1) ps

-- pins: of the encoders that are declared; unknown: of those with `x` lines
abbrev pub header_of : List ℕ → List ℕ → List Line
header_of pins unknown = Fixed Timescale ∷ Fixed Scope ∷ (wires_from Var 0 pins ++ Fixed Upscope ∷ Fixed EndDefinitions ∷ Fixed DumpVars ∷ (wires_from Unknown 0 unknown ++ Fixed End ∷ []))

-- ---- the changes

-- "a pin that did not change is not written"
abbrev pub change_of : ℕ → Bool → ℕ → ℕ → List Line
change_of wire known old new = cond (known && eqb old new) [] (Change wire new ∷ [])

-- "A before B": the pins of encoder e were p and are v
unfoldable pub changes_of : ℕ → ℕ → ℕ → List Line
changes_of e p v = change_of (2 * e) (ltb p 4) (p % 2) (v % 2) ++ change_of (2 * e + 1) (ltb p 4) (p / 2) (v / 2)

-- "A time is written only if something follows it", and once: whether it is has been told
unfoldable pub timed : Bool → ℕ → List Line → List Line
timed told now [] = []
timed told now (l ∷ ls) = cond told [] (Time now ∷ []) ++ l ∷ ls

-- "Changes at one time appear in record order"; "each tick 25 ns"
unfoldable pub body_from : Bool → ℕ → List ℕ → List Step → List Line
body_from told now pins [] = []
body_from told now pins (Wait t ∷ ss) = body_from (told && eqb t 0) (now + 25 * t) pins ss
body_from told now pins (Pins e v ∷ ss) = let p = get_or pins e 0 in timed told now (changes_of e p v) ++ body_from (told || not (eqb p v)) now (set pins e v) ss

unfoldable pub dump_of : List Step → List Line
dump_of steps = header_of (start_of steps) (start_of steps) ++ body_from false 0 (start_of steps) steps

-- ---- steps of 20 encoders and pins 0 to 3, that end before a time

abbrev pub Good : ℕ → ℕ → List Step → Type 0
Good end now [] = now < end
Good end now (Wait t ∷ ss) = Good end (now + 25 * t) ss
Good end now (Pins e v ∷ ss) = (e < 20) × (v < 4) × Good end now ss
