-- The pins as they stand after all changes at each time at which something changed, said from the log's steps alone. Assumes nothing.
use Rattle.std.specs.Prelude.{cond, List, [], ◌∷◌, ◌++◌, ℕ, ◌+◌, ◌*◌, ◌/◌, ◌%◌, eqb, get_or, set, replicate}
use Rattle.numbers.specs.Bytes.{le_bytes}
use Rattle.vcd.specs.declared.Step.{Step}
use Rattle.vcd.specs.declared.Step.TheVariants.{Wait, Pins}
use Rattle.vcd.specs.Dump.{start_of}

pub record Entry : Type 0 where
  pub time : ℕ
  pub encoder : ℕ
  pub pins : ℕ

-- an entry for each encoder, from the eth on, that has changed
unfoldable pub entries_at : ℕ → ℕ → List ℕ → List ℕ → List Entry
entries_at now e [] changed = []
entries_at now e (p ∷ pins) [] = []
entries_at now e (p ∷ pins) (c ∷ changed) = cond (eqb c 0) [] (record { time = now; encoder = e; pins = p } ∷ []) ++ entries_at now (e + 1) pins changed

-- pins: those of each encoder by its last record, 4 before the first; changed: 1 for those that other pins came to at this time.
-- They are told when time goes on, and at the end
unfoldable pub entries_from : ℕ → List ℕ → List ℕ → List Step → List Entry
entries_from now pins changed [] = entries_at now 0 pins changed
entries_from now pins changed (Wait t ∷ ss) =
    cond (eqb t 0) (entries_from now pins changed ss) (entries_at now 0 pins changed ++ entries_from (now + 25 * t) pins (replicate 20 0) ss)
entries_from now pins changed (Pins e v ∷ ss) = entries_from now (set pins e v) (cond (eqb (get_or pins e 0) v) changed (set changed e 1)) ss

abbrev pub entries_in : List Step → List Entry
entries_in steps = entries_from 0 (start_of steps) (replicate 20 0) steps

-- "16 bytes each: 0-7 the time in ns, 8 bank, 9 encoder, 10 its pins after all changes at that time, 11-15 zero"
abbrev pub entry_bytes : Entry → List ℕ
entry_bytes x = le_bytes 8 x.time ++ (x.encoder / 10 ∷ x.encoder % 10 ∷ x.pins ∷ 0 ∷ 0 ∷ 0 ∷ 0 ∷ 0 ∷ [])
