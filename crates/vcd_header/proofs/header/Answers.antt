-- The header's parts. Assumes nothing.
use Rattle.std.proofs.Common.{rules}
use Rattle.vcd.specs.declared.Line.TheVariants.{Var, Unknown}
use Rattle.vcd.specs.Lines as lines
use Rattle.vcd_header.proofs.Wires.{header_put}
use Rattle.vcd_header.proofs.header.Goals as goal

pub returns : goal.returns
unfolding lines.text_of lines.print_of lines.fixed_lines
returns c =
    header_put _ _ _ _ _ _ _ _ _ _ _ _ c.put_word-a.ensures (c.put_wires-b.ensures Var (λ w l h e. search rules)) c.put_word-c.ensures
    (c.put_wires-d.ensures Unknown (λ w l h e. search rules)) c.put_word.ensures
