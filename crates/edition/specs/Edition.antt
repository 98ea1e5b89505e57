-- The editions, and what each turns on.
-- Assumes nothing.
use Rattle.std.specs.Prelude.{ℕ, Bool, ◌&&◌, ltb, leb, eqb}
use Rattle.edition.specs.declared.Edition.{Edition}

-- "Refusal 4 now means none of 1 to 4"
abbrev pub known : ℕ → Bool
known number = leb 1 number && leb number 4

-- a counter "runs on to 65,535 and then goes to 0 .. edition 2. Edition 1 keeps document 01's step to 0"; "In edition 2 byte 4 of a
-- record is the bank .. Edition 1 still demands zero"; "In edition 2 a kind 5 record .. tells how the slave answers"; "Edition 3 is edition 2 with
-- one change: writing an encoder CNFG with MODE 1 is refusal 18"; "Edition 4 logs are for" myRIO boxes,
-- whose "Records .., counting, ticking and I2C follow edition 2"
abbrev pub edition_of : ℕ → Edition
edition_of number = record { runs = ltb 1 number; banks = ltb 1 number; answers = ltb 1 number; quadrature = eqb number 3; port = eqb number 4 }
