-- The wires and values that a line can name. Assumes nothing.
use Rattle.std.specs.Prelude.{◌<◌}
use Rattle.vcd.specs.declared.Line.{Line}
use Rattle.vcd.specs.declared.Line.TheVariants.{Fixed, Var, Unknown, Time, Change, Other}

abbrev pub Bounded : Line → Type 0
Bounded (Fixed m) = Unit {0}
Bounded (Var w) = w < 40
Bounded (Unknown w) = w < 40
Bounded (Time t) = Unit {0}
Bounded (Change w b) = (w < 40) × (b < 2)
Bounded Other = Unit {0}
