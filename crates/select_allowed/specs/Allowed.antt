-- The pins of a SELECT, and which SELECTs are allowed: of the ELVIS III as paper 01 has it, of the myRIO's expansion port as paper 02 (n) has it.
-- A SELECT is a number; the ELVIS III's pins are the DIO 0 to 19.
-- Assumes nothing.
use Rattle.std.specs.Prelude.{ℕ, zero, suc, ◌+◌, ◌*◌, ◌/◌, ◌%◌, ◌^◌, Bool, false, not, cond, ◌&&◌, ◌||◌, ltb, eqb}
use Rattle.bits.specs.Bits.{changes}

-- "two bits per DIO, DIO 0 lowest"; there are 20
unfoldable pub field_of : ℕ → ℕ → ℕ
field_of select pin = cond (ltb pin 20) (select / 2 ^ (2 * pin) % 4) 0

-- some number below n passes the test
unfoldable pub some : (ℕ → Bool) → ℕ → Bool
some f zero = false
some f (suc n) = some f n || f n

-- a pin that is 3, and one that is 2
abbrev pub three : ℕ → ℕ → Bool
three select pin = eqb (field_of select pin) 3

abbrev pub two : ℕ → ℕ → Bool
two select pin = eqb (field_of select pin) 2

-- "Refusal 10: a 3 on any pin but 5, 6, 7, 14, 15; 5, 6, 7 not all 3 when one is; 14, 15 likewise; one pin of an encoder pair
-- (2i, 2i+1) at 2 without the other": a SELECT with none of these four. Of a port "10 is never given"
abbrev pub allowed : Bool → ℕ → Bool
allowed port select = port || not
    (some (λ pin. three select pin && not (eqb pin 5 || (eqb pin 6 || (eqb pin 7 || (eqb pin 14 || eqb pin 15))))) 20
    || (((three select 5 || (three select 6 || three select 7)) && not (three select 5 && (three select 6 && three select 7)))
    || (((three select 14 || three select 15) && not (three select 14 && three select 15))
    || some (λ i. changes (two select (2 * i)) (two select (2 * i + 1))) 10)))
