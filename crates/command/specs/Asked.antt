-- What the program's arguments ask for. Assumes nothing.
use Rattle.std.specs.Prelude.{cond, List, ℕ, eqb, ltb, leb}
use Rattle.decimal.specs.Ascii.{ascii}
use Rattle.rate_print.specs.Said.{same}
use Rattle.command.specs.declared.Command.{Command}
use Rattle.command.specs.declared.Command.TheVariants.{Replay, Dump, Shrink, Sign, Judge, Write, Stream, Rate, Version, Help}

-- one word
unfoldable pub alone_of : List ℕ → Command
alone_of word =
    cond (same word (ascii "dump")) Dump
    (cond (same word (ascii "shrink")) Shrink
    (cond (same word (ascii "sign")) Sign
    (cond (same word (ascii "version")) Version Help)))

-- the first of two
unfoldable pub of_two : List ℕ → Command
of_two word = cond (same word (ascii "judge")) Judge (cond (same word (ascii "stream")) Stream Help)

-- the first word where there are n with the program's own name; three that do not begin with `write` are a rate's
unfoldable pub command_of : List ℕ → ℕ → Command
command_of word n =
    cond (ltb n 2) Replay
    (cond (eqb n 2) (alone_of word)
    (cond (same word (ascii "write")) (cond (leb n 4) Write Help)
    (cond (eqb n 3) (of_two word)
    (cond (eqb n 4) Rate Help))))
