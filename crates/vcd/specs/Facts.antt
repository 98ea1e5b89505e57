-- What is shown of a dump's lines besides what the reader makes of them. Assumes nothing.
use Rattle.std.specs.Prelude.{◌≡◌, List, ◌∷◌, ◌++◌, ℕ, ◌≤◌, ◌<◌, ◌^◌, length}
use Rattle.vcd.specs.declared.Step.{Step}
use Rattle.vcd.specs.declared.Line.{Line}
use Rattle.vcd.specs.declared.Line.TheVariants.{Time, Change}
use Rattle.vcd.specs.Lines.{text_of}
use Rattle.vcd.specs.Dump.{dump_of, Good}
use Rattle.vcd.specs.Entries.{entries_in}
use Rattle.vcd.specs.Reader.{Reads}

pub record Shown (steps : List Step) : Type 0 where
  -- the reader gives back the pins as they stand after all changes at each time at which something changed; RVZ_DUMP_BYTES are enough
  pub back : Reads (text_of (dump_of steps)) (entries_in steps)
  -- each time is below 2^48, and later than one before it
  pub early : (a b : List Line) (t : ℕ) → dump_of steps ≡ a ++ Time t ∷ b → t < 2 ^ 48
  pub rises : (a b c : List Line) (s t : ℕ) → dump_of steps ≡ a ++ Time s ∷ b ++ Time t ∷ c → s < t
  -- two changes of a wire with none between are to different values
  pub alternates : (a b c : List Line) (w u v : ℕ) → dump_of steps ≡ a ++ Change w u ∷ b ++ Change w v ∷ c
      → ((d e : List Line) (x : ℕ) → b ≡ d ++ Change w x ∷ e → ⊥) → u ≡ v → ⊥

-- a log has at most 2,047 records, which end below 2^48 ns
abbrev pub AllShown : Type 0
AllShown = (steps : List Step) → Good (2 ^ 48) 0 steps → length steps ≤ 2047 → Shown steps
