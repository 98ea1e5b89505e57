-- The table's rule is a test at each of its sixteen entries, which antt computes.
use mathlib.Core.Path.{◌≡◌, ap, sym, ◌∙◌}
use mathlib.Core.Bool.{Bool}
use mathlib.Core.List.{List, map}
use Prim.Native.Nat.{ℕ, ◌+◌, ◌-◌, ◌*◌, ◌/◌, ◌%◌}
use native.Mathlib.Omega.{arith}
use lib.Dec.{T, eqb, eqb→eq}
use lib.ListN.{length, get_or, get_or-map}
use Rattle.encoder_pins.specs.Pins.{place, places, forward}
use Rattle.encoder_pins.specs.declared.Change.{Change}
use Rattle.encoder_pins.specs.declared.Change.TheVariants.{Same}
use Rattle.laws.proofs.Table.{every, at}
use Rattle.encoder_pins.proofs.places.Goals as goal

right : ℕ → ℕ → Bool
right k x = eqb x (places (k / 4) (k % 4))

low : (m q r : ℕ) → m ≡ 2 * q + r → r % 2 ≡ m % 2
low m q r e = omega arith

-- of each only the two pins count
two : (n : ℕ) → place (n % 4) ≡ place n
two n =
    let a : n % 4 % 2 ≡ n % 2 = omega arith in
    rw (a, low (n / 2) (n / 4) (n % 4 / 2) (omega arith))

-- at old * 4 + new stands how many places forward new is of old
rule : (xs : List Change) → T (every right 0 (map forward xs)) → length (map forward xs) ≡ 16 → (old new : ℕ)
    → forward (get_or xs (old % 4 * 4 + new % 4) Same) ≡ places old new
unfolding right
rule xs all long old new =
    let k = old % 4 * 4 + new % 4 in
    let first : k / 4 ≡ old % 4 = omega arith in
    let second : k % 4 ≡ new % 4 = omega arith in
    sym (get_or-map forward xs k Same)
    ∙ eqb→eq (get_or (map forward xs) k 0) (places (k / 4) (k % 4)) (at right (map forward xs) all k (omega arith))
    ∙ ap (λ (p : ℕ). (4 + place (k % 4) - p) % 4) (ap place first ∙ two old)
    ∙ ap (λ (p : ℕ). (4 + p - place old) % 4) (ap place second ∙ two new)

pub returns : goal.returns
unfolding right
returns c = search (rule, tt)
