-- How the code has each block of a bank: in words, numbers of 8 bytes, least byte first. Its number, the block of a number, and whether a number is a block's.
-- Assumes nothing.
use Rattle.std.specs.Prelude.{ℕ, ◌+◌, ◌*◌, ◌/◌, ◌%◌, ◌^◌, Bool, cond, ◌&&◌, eqb, ltb, Option, None, Some}
use Rattle.bits.specs.Bits.{bit, num}
use Rattle.encoder_count.specs.Count.{pattern, signed}
use Rattle.encoder.specs.declared.Encoder.{Encoder}
use Rattle.i2c_code.specs.declared.Phase.{Phase}
use Rattle.i2c_code.specs.declared.Phase.TheVariants.{Idle, TxIdle, RxIdle}
use Rattle.i2c_code.specs.declared.Failure.{Failure}
use Rattle.i2c_code.specs.declared.Failure.TheVariants.{Address, Data, Other}
use Rattle.i2c.specs.declared.I2c.{I2c}
use Rattle.i2c.specs.I2c.{state_of, failure_number}

-- ---- SELECT

abbrev pub is_select : ℕ → Bool
is_select v = ltb v (2 ^ 40)

-- ---- the I2C

abbrev pub phase_of : ℕ → Phase
phase_of n = cond (eqb n 0) Idle (cond (eqb n 1) TxIdle RxIdle)

abbrev pub failure_of : ℕ → Option Failure
failure_of n = cond (eqb n 0) None (cond (eqb n 1) (Some Address) (cond (eqb n 2) (Some Data) (Some (Other n))))

unfoldable pub i2c_number : I2c → ℕ
i2c_number c =
    c.addr + 2 ^ 8 * c.cntl + 2 ^ 16 * state_of c.phase + 2 ^ 24 * num c.acknowledged + 2 ^ 32 * c.answer + 2 ^ 40 * failure_number c.failure

unfoldable pub i2c_of : ℕ → I2c
i2c_of v = record {
  addr = v % 2 ^ 8;
  cntl = v / 2 ^ 8 % 2 ^ 8;
  phase = phase_of (v / 2 ^ 16 % 2 ^ 8);
  acknowledged = bit 24 v;
  answer = v / 2 ^ 32 % 2 ^ 8;
  failure = failure_of (v / 2 ^ 40 % 2 ^ 8);
}

abbrev pub is_i2c : ℕ → Bool
is_i2c v =
    ltb (v / 2 ^ 8 % 2 ^ 8) 16
    && (ltb (v / 2 ^ 16 % 2 ^ 8) 3 && (ltb (v / 2 ^ 24 % 2 ^ 8) 2 && (ltb (v / 2 ^ 32 % 2 ^ 8) 4 && ltb (v / 2 ^ 40) 3)))

-- ---- an encoder

unfoldable pub encoder_number : Encoder → ℕ
encoder_number e = pattern e.count + 2 ^ 32 * e.cnfg + 2 ^ 40 * e.stat + 2 ^ 48 * e.pins + 2 ^ 56 * num e.seen

-- with the low bytes of CNFG and STAT, which are all of them where the encoder is in range
unfoldable pub low_number : Encoder → ℕ
low_number e = pattern e.count + 2 ^ 32 * (e.cnfg % 2 ^ 8) + 2 ^ 40 * (e.stat % 2 ^ 8) + 2 ^ 48 * e.pins + 2 ^ 56 * num e.seen

unfoldable pub encoder_of : ℕ → Encoder
encoder_of v = record {
  count = signed (v % 2 ^ 32);
  cnfg = v / 2 ^ 32 % 2 ^ 8;
  stat = v / 2 ^ 40 % 2 ^ 8;
  pins = v / 2 ^ 48 % 2 ^ 8;
  seen = bit 56 v;
}

abbrev pub is_encoder : ℕ → Bool
is_encoder v = ltb (v / 2 ^ 32 % 2 ^ 8) 32 && (ltb (v / 2 ^ 40 % 2 ^ 8) 64 && (ltb (v / 2 ^ 48 % 2 ^ 8) 4 && ltb (v / 2 ^ 56) 2))
