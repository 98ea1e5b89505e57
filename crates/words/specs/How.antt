-- How the parts of an answer about rates are put together. No exported call's promise names it. Assumes nothing.
use Rattle.std.specs.Prelude.{ℕ, ◌+◌, ◌*◌}

abbrev pub find_word : ℕ × ℕ × ℕ × ℕ → ℕ
find_word v = v.0 + 256 * v.1 + 65_536 * v.2 + 4_294_967_296 * v.3

abbrev pub rate_word : ℕ × ℕ × ℕ → ℕ
rate_word v = v.0 + 256 * v.2 + 4_294_967_296 * v.1
