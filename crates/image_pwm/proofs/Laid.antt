-- A channel's words in bytes are its bytes.
-- Assumes nothing.
use mathlib.Core.Path.{◌≡◌, refl, ap, ap₂, ◌∙◌}
use mathlib.Core.List.{List, [], ◌++◌}
use Prim.Native.Nat.{ℕ, ◌+◌, ◌*◌, ◌^◌, ◌<◌}
use native.Mathlib.Omega.{arith}
use Rattle.bits.specs.Bits.{num}
use Rattle.fold.specs.Output.{bytes_of}
use Rattle.numbers.specs.Bytes.{le_bytes}
use Rattle.pwm.specs.declared.Pwm.{Pwm}
use Rattle.image_pwm.specs.Words.{pwm_bytes, FitsPwm}
use Rattle.image_pwm.specs.How.{registers_number, wave_number}
use Rattle.image_pwm.proofs.Numbers.{cnfg_small, divider_small}
use Rattle.image_words.proofs.Digits.{one}
use Rattle.image_words.proofs.Laid.{low, lows}

-- a remainder in range is a byte
pub remainder_small : (p : Pwm) → FitsPwm p → p.wave.remainder < 256
remainder_small p f =
    let a = f.5 in
    let b = divider_small p.registers.cs f.3 in
    omega arith

pub pwm_bytes_lem : (p : Pwm) → FitsPwm p → le_bytes 8 (registers_number p.registers) ++ le_bytes 8 (wave_number p.wave) ≡ pwm_bytes p
unfolding registers_number wave_number bytes_of
pwm_bytes_lem p f =
    let g = p.registers in
    let w = p.wave in
    let c = cnfg_small g.cnfg f.2 in
    let a : g.max + 2 ^ 16 * g.cmp + 2 ^ 32 * g.cnfg + 2 ^ 48 * g.cs ≡ g.max + 256 ^ 2 * (g.cmp + 256 ^ 2 * (g.cnfg + 256 ^ 2 * (g.cs + 256 ^ 2 * 0))) = omega arith in
    let b : w.counter + 2 ^ 16 * w.remainder + 2 ^ 24 * num w.output ≡ w.counter + 256 ^ 2 * (w.remainder + 256 * (num w.output + 256 * 0)) = omega arith in
    ap₂ (λ (x y : List ℕ). x ++ y)
    (ap (le_bytes 8) a ∙ lows 2 6 g.max _ _ f.0 (lows 2 4 g.cmp _ _ f.1 (lows 2 2 g.cnfg _ _ (omega arith) (lows 2 0 g.cs 0 [] (omega arith) refl))))
    (ap (le_bytes 8) b ∙ lows 2 6 w.counter _ _ f.4 (low 5 w.remainder _ _ (remainder_small p f) (low 4 (num w.output) 0 _ (omega (arith, one w.output)) refl)))
