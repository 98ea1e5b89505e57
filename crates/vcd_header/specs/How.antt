-- How the code gets there: the lines that name a wire of an encoder. No public promise rests on this.
-- Assumes nothing.
use Rattle.std.specs.Prelude.{◌<◌}
use Rattle.vcd.specs.declared.Line.{Line}
use Rattle.vcd.specs.declared.Line.TheVariants.{Fixed, Var, Unknown, Time, Change, Other}

abbrev pub NamesWire : Line → Type 0
NamesWire (Fixed m) = ⊥
NamesWire (Var w) = w < 40
NamesWire (Unknown w) = w < 40
NamesWire (Time t) = ⊥
NamesWire (Change w b) = ⊥
NamesWire Other = ⊥
