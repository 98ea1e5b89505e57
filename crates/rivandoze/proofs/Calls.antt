-- How large the numbers are that C gets. Assumes nothing.
use Rattle.std.proofs.Common.{◌≡◌, ℕ, ◌^◌, ◌<◌, List, ap, sym, ◌∙◌, arith}
use Rattle.std.specs.Prelude.{Result, Ok}
use Rattle.fold.specs.declared.Stop.{Stop}
use Rattle.fold.specs.Output.{stop_of}
use Rattle.replay.specs.Replay.{replay_of}
use Rattle.replay.proofs.Numbers.{small}
use Rattle.made.specs.declared.Failure.{Failure}
use Rattle.made.specs.Made.{made_of, size_in}
use Rattle.made.proofs.Makes.{size_small}
use Rattle.dump.specs.Dump.{dump_text}
use Rattle.dump.proofs.Whole.{text_short}
use Rattle.shrink.specs.Shrink.{smaller_of}
use Rattle.shrink.proofs.Whole.{smaller_small}
use Rattle.sign.specs.declared.Signed.{Signed}
use Rattle.sign.specs.Sign.{sign_of, signed_of}
use Rattle.sign.proofs.Telling.{count_small}
use Rattle.writer.specs.Writer.{written_of}
use Rattle.writer.proofs.Answers.{accepted}

pub replay_small : (log : List ℕ) (room : ℕ) (s : Stop) → s ≡ stop_of (replay_of log room) → s.applied < 2 ^ 56
replay_small log room s e = omega (arith, small log room s e)

pub dump_small : (log : List ℕ) (room : ℕ) (d : Result ℕ Failure) → d ≡ made_of dump_text log room → size_in d < 2 ^ 56
dump_small log room d e = omega (arith, ap size_in e, size_small dump_text log room 25207 (text_short log))

pub shrink_small : (log : List ℕ) (room : ℕ) (s : Result ℕ Failure) → s ≡ made_of smaller_of log room → size_in s < 2 ^ 56
shrink_small log room s e = omega (arith, ap size_in e, size_small smaller_of log room 32768 (smaller_small log))

pub sign_small : (log : List ℕ) (room : ℕ) (s : Signed) → s ≡ signed_of (sign_of log room) → s.count < 2 ^ 56
sign_small log room s e = omega (arith, ap (λ (x : Signed). x.count) e, count_small log room)

pub write_small : (edition : ℕ) (notes run : List ℕ) (room n : ℕ) (w : Result ℕ Failure) → w ≡ written_of edition notes run room → w ≡ Ok n → n < 2 ^ 56
write_small edition notes run room n w e f =
    let a = accepted edition notes run room n (sym e ∙ f) in
    omega (arith, a.size, a.short)
