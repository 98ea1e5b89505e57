-- STAT as a number: a rule on its six bits is a test at each of the 64 numbers that they make, which antt computes.
-- Assumes nothing.
use mathlib.Core.Path.{◌≡◌, ◌∙◌}
use mathlib.Core.Bool.{Bool, true, false, cond, ◌&&◌, ◌||◌}
use Prim.Native.Nat.{ℕ, ◌+◌, ◌*◌, ◌/◌, ◌%◌}
use native.Mathlib.Omega.{arith}
use lib.Dec.{T, eqb, eqb→eq}
use lib.ListN.{replicate}
use mir.Val.{bool_byte}
use Rattle.bits.specs.Bits.{bit}
use Rattle.encoder_stat.specs.Stat.{stat_of, marked}
use Rattle.laws.proofs.Table.{every, at}

low : (m q r : ℕ) → m ≡ 2 * q + r → r % 2 ≡ m % 2
low m q r e = omega arith

-- a rule at the bits of a STAT
abbrev pub on : (Bool → Bool → Bool → Bool → Bool → Bool → ℕ) → ℕ → ℕ
on rule s = rule (bit 0 s) (bit 1 s) (bit 2 s) (bit 3 s) (bit 4 s) (bit 5 s)

-- no higher bit is a flag
six : (rule : Bool → Bool → Bool → Bool → Bool → Bool → ℕ) (n : ℕ) → on rule (n % 64) ≡ on rule n
six rule n =
    let dir : n % 64 % 2 ≡ n % 2 = omega arith in
    let err = low (n / 2) (16 * (n / 64)) (n % 64 / 2) (omega arith) in
    let uovr = low (n / 4) (8 * (n / 64)) (n % 64 / 4) (omega arith) in
    let sovr = low (n / 8) (4 * (n / 64)) (n % 64 / 8) (omega arith) in
    let uoerr = low (n / 16) (2 * (n / 64)) (n % 64 / 16) (omega arith) in
    let soerr = low (n / 32) (n / 64) (n % 64 / 32) (omega arith) in
    rw (dir, err, uovr, sovr, uoerr, soerr)

-- the rule, computed on numbers by f
pub by_bits : (f : ℕ → ℕ) (rule : Bool → Bool → Bool → Bool → Bool → Bool → ℕ) → T (every (λ n _. eqb (f n) (on rule n)) 0 (replicate 64 0))
    → (stat : ℕ) → f (stat % 64) ≡ on rule stat
by_bits f rule t stat =
    eqb→eq (f (stat % 64)) (on rule (stat % 64)) (at (λ n _. eqb (f n) (on rule n)) (replicate 64 0) t (stat % 64) (omega arith))
    ∙ six rule stat

-- whether a step back or forward from the bit pattern x passes the unsigned or the signed border
abbrev pub passes_unsigned : Bool → ℕ → Bool
passes_unsigned back x = eqb x (cond back 0 4294967295)

abbrev pub passes_signed : Bool → ℕ → Bool
passes_signed back x = eqb x (cond back 2147483648 2147483647)

-- a step from there
abbrev marking : Bool → ℕ → Bool → Bool → Bool → Bool → Bool → Bool → ℕ
marking back x dir err uovr sovr uoerr soerr =
    stat_of back err (uovr || passes_unsigned back x) (sovr || passes_signed back x) (uoerr || (uovr && passes_unsigned back x)) (soerr || (sovr && passes_signed back x))

-- from x, which may go by the direction
module _ (x : Bool → ℕ) (f : ℕ → ℕ → ℕ)
    (true-way : T (every (λ n _. eqb (f 1 n) (on (marking true (x true)) n)) 0 (replicate 64 0)))
    (false-way : T (every (λ n _. eqb (f 0 n) (on (marking false (x false)) n)) 0 (replicate 64 0))) where
  pub by_direction : (back : Bool) (stat : ℕ) → f (bool_byte back) (stat % 64) ≡ marked back (x back) stat
  by_direction true stat = by_bits (f 1) (marking true (x true)) true-way stat
  by_direction false stat = by_bits (f 0) (marking false (x false)) false-way stat
