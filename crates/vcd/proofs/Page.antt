-- The dump of docs/WAVEFORM.md, line by line, and its entries. Assumes nothing.
use mathlib.Core.Path.{◌≡◌, refl}
use mathlib.Core.List.{List, [], ◌∷◌}
use Prim.Native.Nat.{ℕ}
use Rattle.vcd.specs.declared.Step.{Step}
use Rattle.vcd.specs.declared.Step.TheVariants.{Wait, Pins}
use Rattle.vcd.specs.declared.Mark.TheVariants.{Timescale, Scope, Upscope, EndDefinitions, DumpVars, End}
use Rattle.vcd.specs.declared.Line.TheVariants.{Fixed, Var, Unknown, Time, Change}
use Rattle.vcd.specs.Dump.{declared, wires_from, changes_of, timed, body_from, dump_of}
use Rattle.vcd.specs.Entries.{Entry, entries_at, entries_from, entries_in}

-- encoder 10 is encoder 0 of bank 1
abbrev pub steps : List Step
steps = Wait 4 ∷ Pins 3 0 ∷ Wait 4 ∷ Pins 3 1 ∷ Pins 3 3 ∷ Pins 10 2 ∷ Wait 0 ∷ Pins 10 2 ∷ Wait 4 ∷ Pins 3 3 ∷ Wait 4 ∷ Pins 3 0 ∷ Wait 1_000 ∷ []

pub page : dump_of steps
    ≡ Fixed Timescale ∷ Fixed Scope ∷ Var 6 ∷ Var 7 ∷ Var 20 ∷ Var 21 ∷ Fixed Upscope ∷ Fixed EndDefinitions ∷ Fixed DumpVars ∷ Unknown 6 ∷ Unknown 7 ∷ Unknown 20 ∷ Unknown 21 ∷ Fixed End
    ∷ Time 100 ∷ Change 6 0 ∷ Change 7 0
    ∷ Time 200 ∷ Change 6 1 ∷ Change 7 1 ∷ Change 20 0 ∷ Change 21 1
    ∷ Time 400 ∷ Change 6 0 ∷ Change 7 0 ∷ []
unfolding dump_of declared wires_from changes_of timed body_from
page = refl

abbrev entry : ℕ → ℕ → ℕ → Entry
entry time encoder pins = record { time = time; encoder = encoder; pins = pins }

pub page_entries : entries_in steps ≡ entry 100 3 0 ∷ entry 200 3 3 ∷ entry 200 10 2 ∷ entry 400 3 0 ∷ []
unfolding declared entries_at entries_from
page_entries = refl
