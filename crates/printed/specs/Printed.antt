-- What a command that makes a log or a dump writes. Assumes nothing.
use Rattle.std.specs.Prelude.{◌≡◌, true, cond, List, ℕ, Option, None, Some, Result, Ok, Err, is_err, is_some, ltb, take}
use Rattle.outside.specs.Counts.{IsPrefixLen}
use Rattle.decimal.specs.Put.{Put}
use Rattle.refused.specs.Number.{number}
use Rattle.text.specs.Text.{refused_text, refused_record_text}
use Rattle.replay.specs.Replay.{replayed}
use Rattle.made.specs.declared.Failure.{Failure}
use Rattle.made.specs.Made.{failure_by}

-- how many bytes are written, wherever they go
abbrev pub size_of : Result ℕ ℕ → ℕ
size_of (Ok n) = n
size_of (Err n) = n

-- "told on standard error (`refused R`, for a record with ` record I`)": a record is refused by 7 and above
abbrev pub failure_text : Failure → List ℕ
failure_text f = let k = number f.refusal in cond (ltb k 7) (refused_text k) (refused_record_text k f.index)

-- "a refusal leaves standard output empty"
abbrev pub printed_by : Option Failure → List ℕ → List ℕ
printed_by None text = text
printed_by (Some f) text = failure_text f

-- the bytes that are written, and where: text, or why there is none
pub record Prints (f : Option Failure) (text out' : List ℕ) (p : Result ℕ ℕ) : Type 0 where
  pub counts : IsPrefixLen (size_of p) out'
  pub bytes : take (size_of p) out' ≡ printed_by f text
  pub where_to : is_err p ≡ is_some f

-- what is said to arguments that are wrong
pub record Complains (text out' : List ℕ) (p : Result ℕ ℕ) : Type 0 where
  pub counts : IsPrefixLen (size_of p) out'
  pub bytes : take (size_of p) out' ≡ text
  pub where_to : is_err p ≡ true

-- of what is made of a log
abbrev pub MadePrinted : (List ℕ → List ℕ) → List ℕ → List ℕ → Result ℕ ℕ → Type 0
MadePrinted make log out' p = Prints (failure_by (replayed log).course (replayed log).applied) (make log) out' p

-- what `told` does to the text behind a call
abbrev pub Printing : Result ℕ Failure → List ℕ → List ℕ → Result ℕ ℕ → Type 0
Printing (Ok n) out out' p = (p ≡ Ok n) × (out' ≡ out)
Printing (Err f) out out' p = (n : ℕ) × (p ≡ Err n) × Put out 0 (failure_text f) out' n
