-- A register's bits.
-- Assumes nothing.
use Rattle.std.specs.Prelude.{ℕ, zero, suc, ◌/◌, ◌%◌, ◌^◌, Bool, not, cond, ◌&&◌, eqb}
use Rattle.std.specs.Bool.{beq}

-- bit k of a number
abbrev pub bit : ℕ → ℕ → Bool
bit zero v = eqb (v % 2) 1
bit (suc k) v = eqb (v / 2 ^ suc k % 2) 1

-- what a bit adds at place 0
abbrev pub num : Bool → ℕ
num b = cond b 1 0

-- a bit going 0 to 1
abbrev pub rises : Bool → Bool → Bool
rises old new = not old && new

-- a change of a bit
abbrev pub changes : Bool → Bool → Bool
changes old new = not (beq old new)
