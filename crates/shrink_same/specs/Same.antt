-- What is shown of the smaller log, of any log that replays without refusal. Assumes nothing.
use Rattle.std.specs.Prelude.{ℕ, ◌≤◌, ◌≡◌, List, [], ◌∷◌, ◌++◌, Ok, length, take}
use Rattle.fold.specs.Run.{going, under}
use Rattle.trailer.specs.Trailer.{trailer_of, records_of, edition_in}
use Rattle.trailer.specs.declared.Trailer.{Trailer}
use Rattle.replay.specs.Replay.{replay_of}
use Rattle.shaft.specs.Shaft.{doubles, steps}
use Rattle.travel.specs.Stretch.{pins_in, Stretch}
use Rattle.shrink.specs.Shrink.{smaller_of}
use Rattle.shrink_rule.specs.Drops.{kept}

pub record Same (log : List ℕ) (room : ℕ) (goes : (replay_of log room).course ≡ going) : Type 0 where
  -- "The smaller log has the same edition"; "notes are kept"
  pub trailer : (t : Trailer) → trailer_of log ≡ Ok t → (trailer_of (smaller_of log) ≡ Ok (record { start = t.start; count = length (kept [] (records_of log)); edition = t.edition }))
      × (take t.start (smaller_of log) ≡ take t.start log)
  -- its records are those that the rule keeps
  pub records : records_of (smaller_of log) ≡ kept [] (records_of log)
  -- "the same readings and the same end state", both banks; all of its records are applied
  pub replay : replay_of (smaller_of log) room ≡ under (replay_of log room).state (length (kept [] (records_of log))) (replay_of log room).readings
  -- "shrinking it again changes no byte"
  pub again : smaller_of (smaller_of log) ≡ smaller_of log
  pub shorter : length (smaller_of log) ≤ length log

-- ---- demand 3: a stretch of the log is one of the smaller log too, with the same counted steps S and the same d. It begins with the same
-- pins record, or with an equal one before it where that is dropped

pub record Kept (k i : ℕ) (log : List ℕ) (r : List ℕ) (rs : List (List ℕ)) : Type 0 where
  pub before : List (List ℕ)
  pub first : List ℕ
  pub stay : List (List ℕ)
  pub later : List (List ℕ)
  pub cut : records_of (smaller_of log) ≡ before ++ first ∷ stay ++ later
  pub stretch : Stretch (edition_in (smaller_of log)) k i before first stay
  pub same_steps : steps (pins_in k i (first ∷ stay)) ≡ steps (pins_in k i (r ∷ rs))
  pub same_doubles : doubles (pins_in k i (first ∷ stay)) ≡ doubles (pins_in k i (r ∷ rs))

abbrev pub Stretches : Type 0
Stretches = (k i : ℕ) (log r : List ℕ) (before rs later : List (List ℕ)) (room : ℕ) → (replay_of log room).course ≡ going
    → records_of log ≡ before ++ r ∷ rs ++ later → Stretch (edition_in log) k i before r rs → Kept k i log r rs
