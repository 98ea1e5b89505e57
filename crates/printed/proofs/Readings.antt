-- The bytes of readings say the readings, each of which is below 2^64. Assumes nothing.
use mathlib.Core.Path.{◌≡◌, refl, ap, ◌∙◌}
use mathlib.Core.List.{List, [], ◌∷◌}
use Prim.Native.Nat.{ℕ, suc, ◌*◌, ◌/◌, ◌^◌, ◌<◌}
use native.Mathlib.Omega.{arith}
use lib.ListN.{length, get_or}
use Rattle.fold.specs.Output.{bytes_of}
use Rattle.fold.proofs.Written.{length_bytes}
use Rattle.numbers.specs.Bytes.{le_bytes}
use Rattle.numbers.proofs.Numbers.{le_bytes_lem}
use Rattle.text.specs.Text.{numbers_in, readings_in}

pub long_bytes : (vs : List ℕ) → length (bytes_of (le_bytes 8) vs) ≡ 8 * length vs
long_bytes vs = length_bytes (le_bytes 8) (λ v. refl) vs

numbers_back : (vs : List ℕ) → ((i : ℕ) → get_or vs i 0 < 2 ^ 64) → numbers_in (length vs) (bytes_of (le_bytes 8) vs) ≡ vs
unfolding numbers_in bytes_of
numbers_back [] h = refl
numbers_back (v ∷ vs) h =
    let e = le_bytes_lem 8 v (bytes_of (le_bytes 8) vs) (h 0) in
    let r = numbers_back vs (λ i. h (suc i)) in
    cc

pub readings_back : (vs : List ℕ) → ((i : ℕ) → get_or vs i 0 < 2 ^ 64) → readings_in (bytes_of (le_bytes 8) vs) ≡ vs
readings_back vs h =
    let e : length (bytes_of (le_bytes 8) vs) / 8 ≡ length vs = omega (arith, long_bytes vs) in
    ap (λ (n : ℕ). numbers_in n (bytes_of (le_bytes 8) vs)) e ∙ numbers_back vs h
