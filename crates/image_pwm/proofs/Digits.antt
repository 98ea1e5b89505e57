-- A channel's numbers give it back, and each two that pass are a channel's.
-- Assumes nothing.
use mathlib.Core.Path.{◌≡◌, refl}
use mathlib.Core.Bool.{true}
use Prim.Native.Nat.{ℕ, ◌+◌, ◌*◌, ◌/◌, ◌%◌, ◌^◌, ◌<◌}
use native.Mathlib.Omega.{arith}
use native.Mathlib.Nat.{mod-lt}
use lib.Dec.{ltb→lt}
use borrow.Author.Tests.{lt-ltb, ltb-true}
use Rattle.laws.proofs.Truth.{both_true}
use Rattle.bits.specs.Bits.{num}
use Rattle.codec.specs.How.{Number}
use Rattle.codec.proofs.Many.{both}
use Rattle.records.specs.Record.{pwm_cnfg}
use Rattle.pwm.specs.declared.Registers.{Registers}
use Rattle.pwm.specs.declared.Wave.{Wave}
use Rattle.image_pwm.specs.How.{registers_number, registers_of, is_registers, wave_number, wave_of, is_wave}
use Rattle.image_pwm.proofs.Numbers.{cnfg_small}
use Rattle.image_words.proofs.Digits.{one, is, num_bit, more}

pub record FitsRegisters (g : Registers) : Type 0 where
  pub max : g.max < 65536
  pub cmp : g.cmp < 65536
  pub cnfg : pwm_cnfg g.cnfg ≡ true
  pub cs : g.cs < 8

pub record FitsWave (w : Wave) : Type 0 where
  pub counter : w.counter < 65536
  pub remainder : w.remainder < 256

module _ (a b c d n : ℕ) (e : n ≡ a + 2 ^ 16 * b + 2 ^ 32 * c + 2 ^ 48 * d) (ha : a < 65536) (hb : b < 65536) (hc : pwm_cnfg c ≡ true) (hd : d < 8) where
  c_small : c < 8
  c_small = cnfg_small c hc

  reg_a : n % 2 ^ 16 ≡ a
  reg_a = omega (arith, c_small)

  reg_b : n / 2 ^ 16 % 2 ^ 16 ≡ b
  reg_b = omega (arith, c_small)

  reg_c : n / 2 ^ 32 % 2 ^ 16 ≡ c
  reg_c = omega (arith, c_small)

  reg_d : n / 2 ^ 48 ≡ d
  reg_d = omega (arith, c_small)

  reg_small : n < 256 ^ 8
  reg_small = omega (arith, c_small)

  reg_pass : is_registers n ≡ true
  reg_pass = rw (reg_c, reg_d) (both _ _ hc (lt-ltb d 8 hd))

pub registers_number_lem : Number is_registers registers_number registers_of FitsRegisters
unfolding registers_number registers_of
registers_number_lem = record {
  small = λ g f. reg_small g.max g.cmp g.cnfg g.cs _ refl f.max f.cmp f.cnfg f.cs;
  back = λ g f i. record {
    max = reg_a g.max g.cmp g.cnfg g.cs (registers_number g) refl f.max f.cmp f.cnfg f.cs i;
    cmp = reg_b g.max g.cmp g.cnfg g.cs (registers_number g) refl f.max f.cmp f.cnfg f.cs i;
    cnfg = reg_c g.max g.cmp g.cnfg g.cs (registers_number g) refl f.max f.cmp f.cnfg f.cs i;
    cs = reg_d g.max g.cmp g.cnfg g.cs (registers_number g) refl f.max f.cmp f.cnfg f.cs i;
  };
  passes = λ g f. reg_pass g.max g.cmp g.cnfg g.cs _ refl f.max f.cmp f.cnfg f.cs;
  image = λ v s h. rw (more v (2 ^ 16) (2 ^ 16) tt tt, more v (2 ^ 32) (2 ^ 16) tt tt) (omega arith);
  fits = λ v s h.
      let k = both_true _ _ h in
      record { max = mod-lt v (ltb→lt 0 65536 tt); cmp = mod-lt (v / 2 ^ 16) (ltb→lt 0 65536 tt); cnfg = k.0; cs = ltb-true _ _ k.1 };
}

module _ (a b c n : ℕ) (e : n ≡ a + 2 ^ 16 * b + 2 ^ 24 * c) (ha : a < 65536) (hb : b < 256) (hc : c < 2) where
  wave_a : n % 2 ^ 16 ≡ a
  wave_a = omega arith

  wave_b : n / 2 ^ 16 % 2 ^ 8 ≡ b
  wave_b = omega arith

  wave_c : n / 2 ^ 24 ≡ c
  wave_c = omega arith

  wave_small : n < 256 ^ 8
  wave_small = omega arith

  wave_pass : is_wave n ≡ true
  wave_pass = rw wave_c (lt-ltb c 2 hc)

pub wave_number_lem : Number is_wave wave_number wave_of FitsWave
unfolding wave_number wave_of
wave_number_lem = record {
  small = λ w f. wave_small w.counter w.remainder (num w.output) _ refl f.counter f.remainder (one w.output);
  back = λ w f i. record {
    counter = wave_a w.counter w.remainder (num w.output) (wave_number w) refl f.counter f.remainder (one w.output) i;
    remainder = wave_b w.counter w.remainder (num w.output) (wave_number w) refl f.counter f.remainder (one w.output) i;
    output = is w.output (wave_number w / 2 ^ 24) (wave_c w.counter w.remainder (num w.output) (wave_number w) refl f.counter f.remainder (one w.output)) i;
  };
  passes = λ w f. wave_pass w.counter w.remainder (num w.output) _ refl f.counter f.remainder (one w.output);
  image = λ v s h. rw (num_bit (v / 2 ^ 24) (ltb-true (v / 2 ^ 24) 2 h), more v (2 ^ 16) (2 ^ 8) tt tt) (omega arith);
  fits = λ v s h. record { counter = mod-lt v (ltb→lt 0 65536 tt); remainder = mod-lt (v / 2 ^ 16) (ltb→lt 0 256 tt) };
}
