-- The encoders passed have their lines. Assumes nothing.
use Rattle.std.proofs.Common.{◌≡◌, ℕ, ◌<◌, take}
use Rattle.decimal.specs.Put.{Put}
use Rattle.vcd.specs.declared.Line.{Line}
use Rattle.vcd.specs.Lines.{text_of}
use Rattle.vcd.specs.Dump.{wires_from}
use Rattle.vcd_header.proofs.put_wires.Given as goal

abbrev pub invariant-loop-e : goal.invariant-loop-e
invariant-loop-e g l = (of : ℕ → Line) → ((w : ℕ) (x : Line) → w < 40 → goal.F-post g l.line w x → x ≡ of w) → Put l.fn.out l.at (text_of (wires_from of 0 (take l.e l.pins))) l.out l.end
