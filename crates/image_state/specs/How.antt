-- A stream in bytes as the code has it: saved and loaded in words, and the test whether bytes are a state; both banks laid out flat, channel i of
-- bank k of n at n * k + i, in the image as in the arrays.
-- Assumes nothing.
use Rattle.std.specs.Prelude.{ℕ, ◌+◌, ◌*◌, ◌-◌, ◌/◌, ◌%◌, ◌^◌, ◌<◌, ◌≡◌, Option, None, Some, cond, Bool, ◌&&◌, ◌||◌, length, take, drop, replicate, eqb, ltb, leb}
use mathlib.Core.List.{List, [], ◌∷◌, ◌++◌, map, flatten}
use Rattle.refused.specs.declared.Refusal.{Refusal}
use Rattle.refused.specs.declared.Refusal.TheVariants.{NoSuchRecord, ValueOutOfRange, NotRouted, WrongSelect, WrongControl, StopAfterAck, StepAndDirection}
use Rattle.numbers.specs.Bytes.{byte, le_of, le_bytes}
use Rattle.edition.specs.Edition.{known}
use Rattle.pwm.specs.declared.Pwm.{Pwm}
use Rattle.bank.specs.declared.Bank.{Bank}
use Rattle.banks.specs.declared.State.{State}
use Rattle.banks.specs.declared.Flat.{Flat}
use Rattle.banks.specs.State.{bank_at}
use Rattle.banks.specs.How.{state_of}
use Rattle.banks.proofs.Whole.{Whole}
use Rattle.live_state.specs.Live.{Live}
use Rattle.live_state.specs.declared.Stream.{Stream}
use Rattle.live_state.specs.How.{live_of}
use Rattle.codec.specs.How.{save_word, load_word, ok_word, save_many, load_many, ok_many}
use Rattle.image_words.specs.How.{is_select, i2c_number, i2c_of, is_i2c, encoder_number, encoder_of, is_encoder}
use Rattle.image_pwm.specs.How.{registers_number, wave_number, pwm_of, is_registers, is_wave, is_short, is_quick}
use Rattle.image_state.specs.Image.{size, FitsBank, Fits}

abbrev pub FitsState : State → Type 0
FitsState s = (length s.banks ≡ 2) × ((k : ℕ) → k < 2 → FitsBank (bank_at k s))

-- ---- saved

unfoldable pub head_number : ℕ → ℕ → ℕ → ℕ
head_number refused held edition = refused + 2 ^ 8 * held + 2 ^ 16 * edition

abbrev pub save_pwm : Pwm → List ℕ
save_pwm p = le_bytes 8 (registers_number p.registers) ++ le_bytes 8 (wave_number p.wave)

unfoldable pub words_of : Live → List ℕ
words_of l = let banks = l.state.banks in
    le_bytes 8 (head_number l.refused (length l.carried) l.edition)
    ++ (le_bytes 8 l.applied
    ++ ((l.carried ++ replicate (16 - length l.carried) 0)
    ++ (save_many (le_bytes 8) (map (λ (b : Bank). b.select) banks)
    ++ (save_many (save_word i2c_number) (map (λ (b : Bank). b.i2c) banks)
    ++ (save_many (save_word encoder_number) (flatten (map (λ (b : Bank). b.encoders) banks))
    ++ save_many save_pwm (flatten (map (λ (b : Bank). b.pwms) banks)))))))

-- ---- loaded

abbrev pub load_pwm : List ℕ → ℕ → Pwm
load_pwm s at = pwm_of (le_of 8 s at) (le_of 8 s (at + 8))

abbrev pub load_bank : List ℕ → ℕ → Bank
load_bank s k = record {
  select = le_of 8 s (32 + 8 * k);
  i2c = i2c_of (le_of 8 s (48 + 8 * k));
  encoders = load_many 8 (load_word encoder_of) 10 s (64 + 80 * k);
  pwms = load_many 16 load_pwm 20 s (224 + 320 * k);
}

unfoldable pub load_of : List ℕ → Live
load_of s = let head = le_of 8 s 0 in record {
  edition = head / 2 ^ 16;
  state = record { banks = load_bank s 0 ∷ load_bank s 1 ∷ [] };
  carried = take (head / 2 ^ 8 % 2 ^ 8) (drop 16 s);
  applied = le_of 8 s 8;
  refused = head % 2 ^ 8;
}

-- ---- the test

abbrev pub refusal_of : ℕ → Option Refusal
refusal_of n = cond (eqb n 7) (Some NoSuchRecord) (cond (eqb n 8) (Some ValueOutOfRange) (cond (eqb n 9) (Some NotRouted) (cond (eqb n 10) (Some WrongSelect)
    (cond (eqb n 11) (Some WrongControl) (cond (eqb n 16) (Some StopAfterAck) (cond (eqb n 18) (Some StepAndDirection) None))))))

abbrev pub is_refusal : ℕ → Bool
is_refusal n = eqb n 0 || ((leb 7 n && leb n 11) || (eqb n 16 || eqb n 18))

abbrev pub is_head : ℕ → ℕ → ℕ → Bool
is_head refused held edition = known edition && (is_refusal refused && (ltb held 16 && (eqb refused 0 || eqb held 0)))

-- a carried byte, before the place where they end, or a 0
abbrev pub is_carried : ℕ → List ℕ → ℕ → Bool
is_carried end s at = ltb at end || eqb (byte s at) 0

abbrev pub ok_pwm : List ℕ → ℕ → Bool
ok_pwm s at = (is_registers (le_of 8 s at) && is_wave (le_of 8 s (at + 8))) && is_short (load_pwm s at)

unfoldable pub is_state : List ℕ → Bool
is_state s = let head = le_of 8 s 0 in let held = head / 2 ^ 8 % 2 ^ 8 in
    leb size (length s)
    && (is_head (head % 2 ^ 8) held (head / 2 ^ 16)
    && (ok_many 1 (is_carried (16 + held)) 16 s 16
    && (ok_many 8 (ok_word is_select) 2 s 32
    && (ok_many 8 (ok_word is_i2c) 2 s 48
    && (ok_many 8 (ok_word is_encoder) 20 s 64
    && ok_many 16 ok_pwm 40 s 224)))))

-- ---- both banks flat

unfoldable pub flat_of : List ℕ → Flat
flat_of s = record {
  selects = load_many 8 (le_of 8) 2 s 32;
  encoders = load_many 8 (load_word encoder_of) 20 s 64;
  pwms = load_many 16 load_pwm 40 s 224;
  i2cs = load_many 8 (load_word i2c_of) 2 s 48;
}

-- the second word of a channel, and both
abbrev pub ok_wave : List ℕ → ℕ → Bool
ok_wave s at = is_wave (le_of 8 s (at + 8))

abbrev pub ok_quick : List ℕ → ℕ → Bool
ok_quick s at = is_quick (le_of 8 s at) (le_of 8 s (at + 8))

-- at each of n places from one on, a width apart, what is answered is the value that the bytes s have there
abbrev pub Gives : {X : Type 0} → (ℕ → X → Type 0) → (List ℕ → ℕ → X) → List ℕ → ℕ → ℕ → ℕ → Type 0
Gives {X} answers value s from width n = (i : ℕ) (x : X) → i < n → answers (from + width * i) x → x ≡ value s (from + width * i)

-- what is known of a stream that was loaded, besides its state: what a chunk asks for
pub record Loads (s : List ℕ) (r : Stream) : Type 0 where
  pub live : live_of r ≡ load_of s
  pub whole : Whole (state_of r.flat)
  pub few : r.held < 16
  pub zeros : drop r.held r.carried ≡ replicate (16 - r.held) 0

-- what a stream has to be to be saved
pub record Saves (x : Stream) : Type 0 where
  pub fits : Fits (live_of x)
  pub few : x.held < 16
  pub zeros : drop x.held x.carried ≡ replicate (16 - x.held) 0
