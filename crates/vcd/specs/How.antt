-- How the reader gets there: a text cut into lines, what each line says, and what it makes of the reader. No public promise rests on this.
-- Assumes nothing.
use Rattle.std.specs.Prelude.{Bool, ◌&&◌, ◌||◌, not, cond, ℕ, ◌+◌, ◌-◌, ◌*◌, ◌/◌, ◌%◌, eqb, ltb, leb, length, get_or, set, drop, replicate, Option, Some, None, bytes_eq}
use mathlib.Core.List.{List, [], ◌∷◌, ◌++◌, foldl, map}
use Rattle.decimal.specs.Decimal.{decimal_of}
use Rattle.vcd.specs.declared.Mark.{Mark}
use Rattle.vcd.specs.declared.Mark.TheVariants.{Timescale, Scope, Upscope, EndDefinitions, DumpVars, End}
use Rattle.vcd.specs.declared.Line.{Line}
use Rattle.vcd.specs.declared.Line.TheVariants.{Fixed, Var, Unknown, Time, Change, Other}
use Rattle.vcd.specs.declared.Phase.{Phase}
use Rattle.vcd.specs.declared.Phase.TheVariants.{Header, FirstTime, FirstChange, Changes, Refused}
use Rattle.vcd.specs.declared.Phase.TheVariants as phase
use Rattle.vcd.specs.declared.Channel.{Channel}
use Rattle.vcd.specs.declared.Reader.{Reader}
use Rattle.vcd.specs.Lines.{fixed_lines, place, var_of}
use Rattle.vcd.specs.Entries.{Entry, entries_at}

-- ---- a line

-- a letter's wire
abbrev pub wire_of : ℕ → Option ℕ
wire_of c = cond (leb 65 c && leb c 84) (Some (c - 65)) (cond (leb 97 c && leb c 116) (Some (c - 77)) None)

-- a line that begins with "$"; byte 12 of a declaration is the wire's letter
abbrev pub var_with : List ℕ → Option ℕ → Line
var_with s None = Other
var_with s (Some w) = cond (bytes_eq s (var_of w)) (Var w) Other

abbrev pub fixed_at : ℕ → List ℕ
fixed_at k = get_or fixed_lines k []

unfoldable pub head_of : List ℕ → Line
head_of s =
    cond (bytes_eq s (fixed_at 0)) (Fixed Timescale)
    (cond (bytes_eq s (fixed_at 1)) (Fixed Scope)
    (cond (bytes_eq s (fixed_at 2)) (Fixed Upscope)
    (cond (bytes_eq s (fixed_at 3)) (Fixed EndDefinitions)
    (cond (bytes_eq s (fixed_at 4)) (Fixed DumpVars)
    (cond (bytes_eq s (fixed_at 5)) (Fixed End) (var_with s (wire_of (get_or s 12 0))))))))

-- a line that begins with "#": "no leading zero"
abbrev pub number_of : Option ℕ → Line
number_of (Some t) = Time t
number_of None = Other

unfoldable pub time_of : List ℕ → Line
time_of s = cond (eqb (get_or s 1 0) 48 && ltb 2 (length s)) Other (number_of (decimal_of (drop 1 s)))

-- a line of two bytes, a value and a wire's letter
abbrev pub value_of : ℕ → Option ℕ → Line
value_of b None = Other
value_of b (Some w) = cond (eqb b 120) (Unknown w) (cond (eqb b 48) (Change w 0) (cond (eqb b 49) (Change w 1) Other))

unfoldable pub change_in : List ℕ → Line
change_in s = cond (eqb (length s) 2) (value_of (get_or s 0 0) (wire_of (get_or s 1 0))) Other

-- what a line says, without its newline
unfoldable pub line_of : List ℕ → Line
line_of s = cond (eqb (get_or s 0 0) 35) (time_of s) (cond (eqb (get_or s 0 0) 36) (head_of s) (change_in s))

-- a text's lines, the one under way first; what has no newline is no line
unfoldable pub lines_from : List ℕ → List ℕ → List Line
lines_from line [] = cond (eqb (length line) 0) [] (Other ∷ [])
lines_from line (b ∷ s) = cond (eqb b 10) (line_of line ∷ lines_from [] s) (lines_from (line ++ b ∷ []) s)

abbrev pub lines_of : List ℕ → List Line
lines_of text = lines_from [] text

-- ---- where a reader stands, in numbers

-- phases 0 to 5 await the fixed line of that place, 2 and 5 the wires before it; 6 the first time, 7 the first change at a time, 8 another
-- change or a later time; 9 has refused, as all above it
abbrev pub number_of_phase : Phase → ℕ
number_of_phase (Header m) = place m
number_of_phase FirstTime = 6
number_of_phase FirstChange = 7
number_of_phase Changes = 8
number_of_phase Refused = 9
number_of_phase (phase.Other n) = 10 + n

abbrev pub pins_of : List Channel → List ℕ
pins_of xs = map (λ (x : Channel). x.pins) xs

abbrev pub changed_of : List Channel → List ℕ
changed_of xs = map (λ (x : Channel). x.changed) xs

pub record Position : Type 0 where
  pub phase : ℕ
  pub awaited : ℕ
  pub now : ℕ
  pub pins : List ℕ
  pub changed : List ℕ

abbrev pub position_of : Reader → Position
position_of r = record { phase = number_of_phase r.phase; awaited = r.awaited; now = r.now; pins = pins_of r.channels; changed = changed_of r.channels }

-- ---- the reader, line by line

-- no encoder has changed at this time
abbrev pub unchanged : List ℕ
unchanged = replicate 20 0

abbrev pub refused : Position → Position
refused r = record { phase = 9; awaited = r.awaited; now = r.now; pins = r.pins; changed = r.changed }

-- "an encoder's two pins always together", in order: after an A just its B, else the A of a later encoder
abbrev pub follows : ℕ → ℕ → Bool
follows awaited w = cond (eqb (awaited % 2) 1) (eqb w awaited) (eqb (w % 2) 0 && leb awaited w)

abbrev pub fixed_turn : Position → Mark → Position
fixed_turn r m =
    cond (eqb r.phase (place m) && eqb (r.awaited % 2) 0)
    (record { phase = place m + 1; awaited = 0; now = r.now; pins = r.pins; changed = r.changed }) (refused r)

abbrev pub var_turn : Position → ℕ → Position
var_turn r w =
    cond (eqb r.phase 2 && follows r.awaited w)
    (record { phase = 2; awaited = w + 1; now = r.now; pins = set r.pins (w / 2) 4; changed = r.changed }) (refused r)

abbrev pub unknown_turn : Position → ℕ → Position
unknown_turn r w =
    cond (eqb r.phase 5 && (follows r.awaited w && eqb (get_or r.pins (w / 2) 0) 4))
    (record { phase = 5; awaited = w + 1; now = r.now; pins = r.pins; changed = r.changed }) (refused r)

-- "each time a multiple of 25, .. later than the one before, with a change behind it"
abbrev pub time_turn : Position → ℕ → Position
time_turn r t =
    cond ((eqb r.phase 6 || (eqb r.phase 8 && ltb r.now t)) && (eqb r.awaited 0 && eqb (t % 25) 0))
    (record { phase = 7; awaited = 0; now = t; pins = r.pins; changed = unchanged }) (refused r)

-- a change to b of the wire w, whose encoder has the pins p: "an encoder's first change A's, B's on the next line", else of a wire
-- "that is there, to another value"
abbrev pub pin_of : ℕ → ℕ → ℕ
pin_of p w = cond (eqb (w % 2) 0) (p % 2) (p / 2)

abbrev pub taken : ℕ → ℕ → ℕ → ℕ → Bool
taken awaited p w b = cond (eqb awaited 0) (cond (eqb p 4) (eqb (w % 2) 0) (ltb p 4 && not (eqb (pin_of p w) b))) (eqb w awaited)

abbrev pub pinned : ℕ → ℕ → ℕ → ℕ
pinned p w b = cond (eqb (w % 2) 0) (2 * (p / 2) + b) (p % 2 + 2 * b)

abbrev pub change_turn : Position → ℕ → ℕ → Position
change_turn r w b =
    let p = get_or r.pins (w / 2) 0 in
    cond ((eqb r.phase 7 || eqb r.phase 8) && taken r.awaited p w b)
    (record {
      phase = 8;
      awaited = cond (eqb r.awaited 0 && eqb p 4) (w + 1) 0;
      now = r.now;
      pins = set r.pins (w / 2) (pinned p w b);
      changed = set r.changed (w / 2) 1;
    })
    (refused r)

unfoldable pub turn_of : Position → Line → Position
turn_of r (Fixed m) = fixed_turn r m
turn_of r (Var w) = var_turn r w
turn_of r (Unknown w) = unknown_turn r w
turn_of r (Time t) = time_turn r t
turn_of r (Change w b) = change_turn r w b
turn_of r Other = refused r

abbrev pub opening : Position
opening = record { phase = 0; awaited = 0; now = 0; pins = replicate 20 5; changed = unchanged }

-- ---- what it tells: when a time comes, and at the end, each encoder that has changed

abbrev pub standing : Position → List Entry
standing r = entries_at r.now 0 r.pins r.changed

unfoldable pub told_before : Position → Line → List Entry
told_before r (Fixed m) = []
told_before r (Var w) = []
told_before r (Unknown w) = []
told_before r (Time t) = standing r
told_before r (Change w b) = []
told_before r Other = []

unfoldable pub told_from : Position → List Line → List Entry
told_from r [] = standing r
told_from r (l ∷ ls) = told_before r l ++ told_from (turn_of r l) ls

-- the end may come before any time, or after a change
abbrev pub whole : Position → Bool
whole r = (eqb r.phase 6 || eqb r.phase 8) && eqb r.awaited 0

pub data Told : Type 0 where
  entries : List Entry → Told
  refusal : Told

unfoldable pub told_by : List Line → Told
told_by ls = cond (whole (foldl turn_of opening ls)) (entries (told_from opening ls)) refusal

-- "no more than 25,207 bytes"
unfoldable pub read_of : List ℕ → Told
read_of text = cond (ltb 25207 (length text)) refusal (told_by (lines_of text))
