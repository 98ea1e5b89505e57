-- STAT, as paper 01 has it.
-- Assumes nothing.
use Rattle.std.specs.Prelude.{ℕ, ◌+◌, ◌*◌, Bool, true, not, cond, ◌&&◌, ◌||◌, eqb}
use Rattle.bits.specs.Bits.{bit, num}

-- "0 DIR .., 1 ERR, 2 UOVR .., 3 SOVR .., 4 UOERR, 5 SOERR"
unfoldable pub stat_of : Bool → Bool → Bool → Bool → Bool → Bool → ℕ
stat_of dir err uovr sovr uoerr soerr = num dir + 2 * num err + 4 * num uovr + 8 * num sovr + 16 * num uoerr + 32 * num soerr

-- "A CERR bit going 0 to 1 clears ERR; COVR going 0 to 1 clears the four overflow flags" of the STAT s: whether each of them does
abbrev pub cleared : Bool → Bool → ℕ → ℕ
cleared error overflow s = let keep = not overflow in
    stat_of (bit 0 s) (bit 1 s && not error) (bit 2 s && keep) (bit 3 s && keep) (bit 4 s && keep) (bit 5 s && keep)

-- a counted step, forward (false) or back (true), from the bit pattern b: "DIR (1 if the last counted step was backward)";
-- "UOVR (step from 4,294,967,295 up to 0)", "also set by a step from 0 down to 4,294,967,295"; "SOVR (step from 2,147,483,647 up to -2,147,483,648)", or "from -2,147,483,648 down to 2,147,483,647"; "UOERR, SOERR (the
-- same again with the first flag still set)"
abbrev pub marked : Bool → ℕ → ℕ → ℕ
marked back b s = let uovr = eqb b (cond back 0 4294967295) in let sovr = eqb b (cond back 2147483648 2147483647) in
    stat_of back (bit 1 s) (bit 2 s || uovr) (bit 3 s || sovr) (bit 4 s || (bit 2 s && uovr)) (bit 5 s || (bit 3 s && sovr))

-- "both pins changed sets ERR and counts nothing"
abbrev pub erred : ℕ → ℕ
erred s = stat_of (bit 0 s) true (bit 2 s) (bit 3 s) (bit 4 s) (bit 5 s)
