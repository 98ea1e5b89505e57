-- One PWM channel, as paper 01 has it: its registers, and what ticks move, by either edition's rule.
-- Assumes nothing.
use Rattle.std.specs.Prelude.{ℕ, zero, suc, ◌+◌, Bool, false, cond, not, ◌&&◌, [], ◌∷◌, ◌==◌, nat_le, nat_lt, slice_index_or}
use Rattle.bits.specs.Bits.{bit, num}
use Rattle.divider.specs.Divider.{divider_of}
use Rattle.pwm.specs.declared.Registers.{Registers}
use Rattle.pwm.specs.declared.Wave.{Wave}
use Rattle.pwm.specs.declared.Pwm.{Pwm}

-- "CNFG ..: bit 0 INV, bit 2 MODE"
abbrev pub mode : ℕ → Bool
mode cnfg = bit 2 cnfg

-- ---- a tick

-- "the top is MAX in MODE 1, 65,535 in MODE 0"; by paper 02 (e), in an edition whose counter runs on, "a PWM counter that stands
-- above MAX runs on to 65,535"
abbrev pub top_of : Bool → Registers → ℕ → ℕ
top_of runs g counter = cond (mode g.cnfg && not (runs && nat_lt g.max counter)) g.max 65535

-- "A step goes to 0 if the counter is at or above the top, else adds 1"
abbrev pub next_of : Bool → Registers → ℕ → ℕ
next_of runs g counter = cond (nat_le (top_of runs g counter) counter) 0 (counter + 1)

-- "In MODE 1, INV 0, arriving at 0 sets the output, then arriving at CMP clears it; INV 1 swaps set and clear"
abbrev pub arrived : Registers → ℕ → Bool → Bool
arrived g counter output = let inv = bit 0 g.cnfg in
    cond (mode g.cnfg) (cond (counter == g.cmp) inv (cond (counter == 0) (not inv) output)) output

-- "at N the remainder is 0 and the counter steps"
abbrev pub stepped : Bool → Registers → Wave → Wave
stepped runs g w = let next = next_of runs g w.counter in record { counter = next; remainder = 0; output = arrived g next w.output }

-- "With CS 0 a tick does nothing. Otherwise a tick adds one to a remainder; at N the remainder is 0 and the counter steps"
unfoldable pub ticked : Bool → Registers → Wave → Wave
ticked runs g w = cond (divider_of g.cs == 0) w
    (cond (nat_lt (w.remainder + 1) (divider_of g.cs))
    (record { counter = w.counter; remainder = w.remainder + 1; output = w.output }) (stepped runs g w))

-- "A record of t ticks is t single ticks"
unfoldable pub waited : Bool → ℕ → Registers → Wave → Wave
waited runs zero g w = w
waited runs (suc t) g w = ticked runs g (waited runs t g w)

abbrev pub on_ticks : Bool → ℕ → Pwm → Pwm
on_ticks runs t p = record { registers = p.registers; wave = waited runs t p.registers p.wave }

-- ---- a write of register 0 CNFG, 1 CS, 2 MAX or 3 CMP: "No other write moves counter or output"

abbrev pub set : ℕ → ℕ → Registers → Registers
set register v g = let to : ℕ → ℕ → ℕ = λ n old. cond (register == n) v old in
    record { cnfg = to 0 g.cnfg; cs = to 1 g.cs; max = to 2 g.max; cmp = to 3 g.cmp }

-- "Writing CS sets the remainder to 0"; "Writing CNFG with MODE 0 makes the output 0"
abbrev pub on_write : ℕ → ℕ → Pwm → Pwm
on_write register v p = let output = cond (register == 0) (p.wave.output && mode v) p.wave.output in
    let w : Wave = record { counter = p.wave.counter; remainder = cond (register == 1) 0 p.wave.remainder; output = output } in
    record { registers = set register v p.registers; wave = w }

-- ---- what is read: "0 CNFG, 1 CS, 2 MAX, 3 CMP, 4 CNTR, 5 output level"

abbrev pub register_of : ℕ → Pwm → ℕ
register_of register p = let g = p.registers in slice_index_or (g.cnfg ∷ g.cs ∷ g.max ∷ g.cmp ∷ p.wave.counter ∷ []) register (num p.wave.output)

-- "Fresh state: all registers 0"
abbrev pub fresh : Pwm
fresh = record { registers = record { cnfg = 0; cs = 0; max = 0; cmp = 0 }; wave = record { counter = 0; remainder = 0; output = false } }
