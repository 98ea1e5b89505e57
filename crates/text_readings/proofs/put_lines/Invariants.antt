-- `text_readings::put_lines`: what puts the readings that are left puts them all.
use Rattle.std.proofs.Common.{◌≡◌}
use Rattle.text.specs.declared.Text.{Text}
use Rattle.text.specs.Puts.{Puts}
use Rattle.text.specs.Text.{lines_of, readings_in}
use Rattle.text_readings.proofs.put_lines.Given as goal

abbrev pub invariant-loop-reading : goal.invariant-loop-reading
invariant-loop-reading l =
    (l.reading-iterator.size ≡ 8) × ((o : Text) → Puts l.text o (lines_of (readings_in l.reading-iterator.rest.now)) → Puts l.fn.text o (lines_of (readings_in l.readings)))
