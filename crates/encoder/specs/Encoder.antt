-- One encoder, as paper 01 has it.
-- Assumes nothing.
use Rattle.std.specs.Prelude.{ℕ, zero, suc, Bool, true, false, not, cond, ◌&&◌, ◌||◌, eqb, ℤ, pos, negsuc, ◌+ℤ◌}
use Rattle.bits.specs.Bits.{bit, rises, changes}
use Rattle.encoder_count.specs.Count.{pattern, wrap}
pub use Rattle.encoder_pins.specs.Pins.{en, rst, mode, place, places}
unfoldable pub use Rattle.encoder_stat.specs.Stat.{stat_of}
pub use Rattle.encoder_stat.specs.Stat.{cleared, marked, erred}
use Rattle.encoder.specs.declared.Encoder.{Encoder}

-- ---- a write to CNFG

-- "RST 1 sets the count to 0 .., and touches no flag. A change of EN or MODE .. makes the pins unseen"
abbrev pub on_cnfg : ℕ → Encoder → Encoder
on_cnfg v e = let stat = cleared (rises (bit 3 e.cnfg) (bit 3 v)) (rises (bit 4 e.cnfg) (bit 4 v)) e.stat in
    let seen = e.seen && not (changes (en e.cnfg) (en v) || changes (mode e.cnfg) (mode v)) in
    record { count = cond (rst v) (pos 0) e.count; cnfg = v; stat = stat; pins = e.pins; seen = seen }

-- a write to SELECT, with whether the encoder was routed before it and is now: "being newly routed, makes the pins unseen"
abbrev pub on_select : Bool → Bool → Encoder → Encoder
on_select was now e = record { count = e.count; cnfg = e.cnfg; stat = e.stat; pins = e.pins; seen = e.seen && not (rises was now) }

-- ---- pins that are stored, with the count and STAT that they leave

abbrev pub stored : ℕ → ℤ → ℕ → Encoder → Encoder
stored v count stat e = record { count = count; cnfg = e.cnfg; stat = stat; pins = v; seen = true }

abbrev pub kept : ℕ → Encoder → Encoder
kept v e = stored v e.count e.stat e

-- ---- one counted step, forward (false) or back (true)

-- "One place forward is +1, one back is -1". "The count is a 32-bit signed number that wraps on purpose"
abbrev pub counted : Bool → ℕ → Encoder → Encoder
counted back v e = stored v (wrap (e.count +ℤ cond back (negsuc 0) (pos 1))) (marked back (pattern e.count) e.stat) e

-- ---- MODE 0

-- "One place forward is +1, one back is -1, equal is nothing, both pins changed sets ERR": three places forward are one back, and
-- two are both pins changed
abbrev pub quadrature : ℕ → ℕ → Encoder → Encoder
quadrature zero v e = kept v e
quadrature (suc zero) v e = counted false v e
quadrature (suc (suc zero)) v e = stored v e.count (erred e.stat) e
quadrature (suc (suc (suc n))) v e = counted true v e

-- ---- MODE 1: "A going 0 to 1 counts +1 if the new B is 0, else -1; ERR is not set"

abbrev pub clocked : ℕ → Encoder → Encoder
clocked v e = cond (rises (bit 0 e.pins) (bit 0 v)) (counted (bit 1 v) v e) (kept v e)

-- ---- pins: "Pins with EN 0 change nothing. Otherwise they are stored; if they were unseen, or RST is 1, that is all"

abbrev pub on_pins : ℕ → Encoder → Encoder
on_pins v e = cond (not (en e.cnfg)) e
    (cond (not e.seen || rst e.cnfg) (kept v e)
    (cond (mode e.cnfg) (clocked v e) (quadrature (places e.pins v) v e)))

-- "An encoder counts in quadrature while it is routed with EN 1, RST 0 and MODE 0"
abbrev pub counts_in_quadrature : Bool → ℕ → Bool
counts_in_quadrature routed cnfg = routed && (en cnfg && (not (rst cnfg) && not (mode cnfg)))

-- ---- what is read: "0 CNFG, 1 STAT, 2 CNTR"; "CNTR reads its bit pattern"

abbrev pub register_of : ℕ → Encoder → ℕ
register_of register e = cond (eqb register 0) e.cnfg (cond (eqb register 1) e.stat (pattern e.count))

-- "Fresh state: all registers 0, .. no pins seen"
abbrev pub fresh : Encoder
fresh = record { count = pos 0; cnfg = 0; stat = 0; pins = 0; seen = false }
