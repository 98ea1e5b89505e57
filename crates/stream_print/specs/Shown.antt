-- What `rvz stream` prints, as bytes. Assumes nothing.
use Rattle.std.specs.Prelude.{List, ℕ}
use Rattle.text.specs.Text.{lines_of, stop_text}
use Rattle.live_state.specs.Live.{Live, Taken, chunk_of, end_of}

-- what a chunk of at most 4,096 bytes comes to, with room for 257 readings: 15 bytes that are carried and the chunk's finish no more records
abbrev pub arrived : Live → List ℕ → Taken
arrived s chunk = chunk_of s chunk 2056

-- its readings
abbrev pub shown_of : Taken → List ℕ
shown_of t = lines_of t.readings

-- the last line, of a stream that has ended
abbrev pub last_of : Live → List ℕ
last_of s = stop_text s.applied (end_of s)

-- and of an edition that is none of 1 to 4
abbrev pub no_edition : List ℕ
no_edition = stop_text 0 4
