-- A call that makes bytes or is refused, and what is then written. Assumes nothing.
use mathlib.Core.Path.{◌≡◌, refl, sym, ap, ◌∙◌}
use mathlib.Core.Bool.{Bool, true, false, cond}
use mathlib.Core.List.{List, [], ◌∷◌, ◌++◌}
use Prim.Native.Nat.{ℕ, ◌^◌, ◌≤◌, ◌<◌}
use native.Mathlib.Omega.{arith}
use lib.Dec.{ltb}
use lib.ListN.{length, length-append}
use lib.Seq.{take_at, length-take-le}
use Rattle.decimal.specs.Ascii.{ascii}
use Rattle.outside.specs.Counts.{IsPrefixLen}
use Rattle.decimal.specs.Digits.{digits_of}
use Rattle.decimal.specs.Put.{Put}
use Rattle.decimal.proofs.Back.{twenty_digits}
use Rattle.decimal.proofs.Puts.{put_whole, put_long}
use Rattle.text.specs.Text.{refused_text, refused_record_text}
use Rattle.std.specs.Prelude.{Result, Ok, Err, Some, None}
use Rattle.refused.specs.Number.{number}
use Rattle.made.specs.declared.Failure.{Failure}
use Rattle.printed.specs.Printed.{Prints, Printing, failure_text}

-- bytes in front of others, and bytes put at the front
pub fronts : (s rest : List ℕ) → IsPrefixLen (length s) (s ++ rest)
fronts s rest = let h : length s ≤ length (s ++ rest) = omega (arith, length-append s rest) in (h, sym (length-take-le (length s) (s ++ rest) h))

pub put_counts : (a b s : List ℕ) (n : ℕ) → Put a 0 s b n → IsPrefixLen n b
put_counts a b s n x = let h : n ≤ length b = omega (arith, x.place, put_long a b s 0 n x) in (h, sym (length-take-le n b h))

-- a text by the case that it is of
pub arm : {A : Type 0} (f : A → List ℕ) (a b : A) (out out' : List ℕ) (n : ℕ) → a ≡ b → Put out 0 (f b) out' n → Put out 0 (f a) out' n
arm f a b out out' n e x = rw e x

-- how long the two refusals are
refused_short : (k : ℕ) → k < 2 ^ 64 → length (refused_text k) ≤ 29
refused_short k h = omega (arith, length-append (ascii "refused " ++ digits_of k) (10 ∷ []), length-append (ascii "refused ") (digits_of k), twenty_digits k h)

record_short : (k i : ℕ) → k < 2 ^ 64 → i < 2 ^ 64 → length (refused_record_text k i) ≤ 57
record_short k i h l =
    let first = ascii "refused " ++ digits_of k in
    omega (arith, length-append (first ++ ascii " record " ++ digits_of i) (10 ∷ []), length-append (first ++ ascii " record ") (digits_of i), length-append first (ascii " record "), length-append (ascii "refused ") (digits_of k), twenty_digits k h, twenty_digits i l)

failure_short : (f : Failure) → number f.refusal < 2 ^ 64 → f.index < 2 ^ 64 → length (failure_text f) ≤ 57
failure_short f small i = by (ltb (number f.refusal) 7)
  where
    by : (t : Bool) → length (cond t (refused_text (number f.refusal)) (refused_record_text (number f.refusal) f.index)) ≤ 57
    by true = omega (arith, refused_short (number f.refusal) small)
    by false = record_short (number f.refusal) f.index small i

-- a call has left `mid`: the text's bytes in front of others, n of them, or has failed
module _ (text mid out' : List ℕ) (p : Result ℕ ℕ) where
  pub prints_made : (n : ℕ) (rest : List ℕ) → Printing (Ok n) mid out' p → n ≡ length text → mid ≡ text ++ rest → Prints None text out' p
  prints_made n rest x m e =
      let q : p ≡ Ok (length text) = x.0 ∙ ap Ok m in
      let o : out' ≡ text ++ rest = x.1 ∙ e in
      rw (q, o) (record { counts = fronts text rest; bytes = take_at text rest (length text) refl; where_to = refl })

  pub prints_refused : (f : Failure) → Printing (Err f) mid out' p → number f.refusal < 2 ^ 64 → f.index < 2 ^ 64 → 57 ≤ length mid → Prints (Some f) text out' p
  prints_refused f x small i room =
      rw x.1 (record {
        counts = put_counts mid out' (failure_text f) x.0 x.2;
        bytes = (put_whole mid (failure_text f) out' x.0 x.2 (omega (arith, failure_short f small i))).1;
        where_to = refl;
      })
