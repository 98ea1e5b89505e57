-- A pin's field.
-- Assumes nothing.
use mathlib.Core.Path.{◌≡◌}
use Prim.Native.Nat.{ℕ, ◌*◌, ◌/◌, ◌%◌, ◌^◌, ◌<◌}
use borrow.Author.Tests.{lt-ltb}
use Rattle.select_allowed.specs.Allowed.{field_of}

pub inside : (select pin : ℕ) → pin < 20 → select / 2 ^ (2 * pin) % 4 ≡ field_of select pin
unfolding field_of
inside select pin h = rw (lt-ltb pin 20 h)
