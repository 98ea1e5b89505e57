-- The test, and the stream that is loaded, are the codec's.
-- Assumes nothing.
use mathlib.Core.Path.{◌≡◌, refl, sym, ap, ◌∙◌}
use mathlib.Core.Bool.{Bool, true, false, ◌&&◌}
use mathlib.Core.List.{List}
use Prim.Native.Nat.{ℕ, zero, suc, ◌+◌, ◌/◌, ◌%◌, ◌^◌, ◌≤◌, ◌<◌}
use native.Mathlib.Omega.{arith}
use lib.ListN.{length, take, drop, length-drop}
use lib.Seq.{ext_get_or, get_or-take, get_or-drop, length-take-le, take-take}
use lib.Dec.{leb}
use borrow.Author.Tests.{le-leb, leb-true}
use Rattle.laws.proofs.Truth.{both_true}
use Rattle.numbers.specs.Bytes.{byte, le_of}
use Rattle.codec.specs.How.{ok_word, load_many, ok_many}
use Rattle.codec.proofs.Many.{both}
use Rattle.codec.proofs.Each.{byte_many, length_many}
use Rattle.image_words.specs.How.{is_select, is_i2c, is_encoder}
use Rattle.edition.specs.Edition.{known}
use Rattle.refused.specs.Number.{number_of}
use Rattle.image_state.specs.How.{refusal_of, is_refusal, ok_pwm, load_of, is_head, is_carried, is_state, flat_of}
use Rattle.image_state.proofs.Flats.{state_loaded}
use Rattle.image_state.proofs.Refusals.{refusal_number}
use Rattle.image_state.proofs.Pads.{padded, padded_there}
use Rattle.image_state.proofs.Lawful.{head_small, load_at, ok_at}

all_true : (n : ℕ) (s : List ℕ) (at : ℕ) → ok_many 1 (λ t j. true) n s at ≡ true
unfolding ok_many
all_true zero s at = refl
all_true (suc n) s at = all_true n s (at + 1)

order : (h t p c r : Bool) → t ≡ true → p ≡ c → ((h && (true && (t && r))) && p) ≡ h && (c && r)
order false t p c r e f = refl
order true t p c r e f = rw (e, f) (swap r c)
  where
    swap : (r c : Bool) → (r && c) ≡ c && r
    swap true true = refl
    swap true false = refl
    swap false true = refl
    swap false false = refl

abbrev head_in : List ℕ → Bool
head_in s = let v = le_of 8 s 0 in is_head (v % 2 ^ 8) (v / 2 ^ 8 % 2 ^ 8) (v / 2 ^ 16)

abbrev rest_in : List ℕ → Bool
rest_in s = ok_many 8 (ok_word is_select) 2 s 32 && (ok_many 8 (ok_word is_i2c) 2 s 48 && (ok_many 8 (ok_word is_encoder) 20 s 64 && ok_many 16 ok_pwm 40 s 224))

pub tests_same : (s : List ℕ) → ok_at s 0 ≡ head_in s && (ok_many 1 (is_carried (16 + le_of 8 s 0 / 2 ^ 8 % 2 ^ 8)) 16 s 16 && rest_in s)
tests_same s = order (head_in s) (ok_many 1 (λ t j. true) 16 s 16) (padded (le_of 8 s 0 / 2 ^ 8 % 2 ^ 8) (load_many 1 byte 16 s 16)) _ (rest_in s) (all_true 16 s 16) (padded_there (le_of 8 s 0 / 2 ^ 8 % 2 ^ 8) s)

-- what is known of bytes that pass
pub record Passed (s : List ℕ) : Type 0 where
  pub long : 864 ≤ length s
  pub held : le_of 8 s 0 / 2 ^ 8 % 2 ^ 8 < 16
  pub refused : number_of (refusal_of (le_of 8 s 0 % 2 ^ 8)) ≡ le_of 8 s 0 % 2 ^ 8
  pub okay : ok_at s 0 ≡ true
  pub pads : padded (le_of 8 s 0 / 2 ^ 8 % 2 ^ 8) (load_many 1 byte 16 s 16) ≡ true

pub passed : (s : List ℕ) → is_state s ≡ true → Passed s
unfolding is_state
passed s h =
    let a = both_true (leb 864 (length s)) (head_in s && (ok_many 1 (is_carried (16 + le_of 8 s 0 / 2 ^ 8 % 2 ^ 8)) 16 s 16 && rest_in s)) h in
    let b = both_true (head_in s) (ok_many 1 (is_carried (16 + le_of 8 s 0 / 2 ^ 8 % 2 ^ 8)) 16 s 16 && rest_in s) a.1 in
    let c = both_true (ok_many 1 (is_carried (16 + le_of 8 s 0 / 2 ^ 8 % 2 ^ 8)) 16 s 16) (rest_in s) b.1 in
    let d = both_true (known (le_of 8 s 0 / 2 ^ 16)) (is_refusal (le_of 8 s 0 % 2 ^ 8) && _) b.0 in
    record {
      refused = refusal_number (le_of 8 s 0 % 2 ^ 8) (both_true (is_refusal (le_of 8 s 0 % 2 ^ 8)) _ d.1).0;
      long = leb-true 864 (length s) a.0;
      held = (head_small (le_of 8 s 0 % 2 ^ 8) (le_of 8 s 0 / 2 ^ 8 % 2 ^ 8) (le_of 8 s 0 / 2 ^ 16) b.0).held;
      okay = tests_same s ∙ a.1;
      pads = padded_there (le_of 8 s 0 / 2 ^ 8 % 2 ^ 8) s ∙ c.0;
    }

pub passes : (s : List ℕ) → 864 ≤ length s → ok_at s 0 ≡ true → is_state s ≡ true
unfolding is_state
passes s h k = both (leb 864 (length s)) (head_in s && (ok_many 1 (is_carried (16 + le_of 8 s 0 / 2 ^ 8 % 2 ^ 8)) 16 s 16 && rest_in s)) (le-leb 864 (length s) h) (sym (tests_same s) ∙ k)

-- sixteen bytes read one by one
pub bytes_taken : (s : List ℕ) (n at : ℕ) → at + n ≤ length s → load_many 1 byte n s at ≡ take n (drop at s)
bytes_taken s n at h =
    let left : length (take n (drop at s)) ≡ n = length-take-le n (drop at s) (rw (length-drop at s) (omega arith)) in
    ext_get_or 0 (load_many 1 byte n s at) (take n (drop at s)) (length_many 1 byte s n at ∙ sym left)
    (λ i l.
    let m : i < n = rw (length_many 1 byte s n at) at l in
    byte_many s n at i m ∙ sym (get_or-drop at s i 0) ∙ sym (get_or-take n (drop at s) i 0 m))

pub carried_same : (s : List ℕ) (held : ℕ) → 864 ≤ length s → held < 16 → take held (load_many 1 byte 16 s 16) ≡ take held (drop 16 s)
carried_same s held h k = ap (take held) (bytes_taken s 16 16 (omega arith)) ∙ take-take held 16 (drop 16 s) (omega arith)

pub loads_same : (s : List ℕ) → 864 ≤ length s → le_of 8 s 0 / 2 ^ 8 % 2 ^ 8 < 16 → load_at s 0 ≡ load_of s
unfolding load_of flat_of
loads_same s h k i = record {
  edition = le_of 8 s 0 / 2 ^ 16;
  state = state_loaded s i;
  carried = carried_same s (le_of 8 s 0 / 2 ^ 8 % 2 ^ 8) h k i;
  applied = le_of 8 s 8;
  refused = le_of 8 s 0 % 2 ^ 8;
}
