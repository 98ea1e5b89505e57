-- The whole text: what stands in it before each entry, and at the end. Assumes nothing.
use Rattle.std.proofs.Common.{◌≡◌, ℕ, ◌+◌, ◌*◌, ◌^◌, ◌<◌, ◌≤◌, true, leb, List, [], ◌∷◌, ◌++◌, map, length, take, sym, refl, ap, ◌∙◌, arith, length-append, length-take-le, take_all, le-leb}
use mathlib.Core.List.{flatten}
use Rattle.decimal.specs.Ascii.{ascii}
use Rattle.outside.specs.Counts.{IsPrefixLen}
use Rattle.decimal.specs.Put.{Put}
use Rattle.decimal.proofs.Puts.{put_long}
use Rattle.text.specs.declared.Text.{Text}
use Rattle.text.specs.Puts.{Puts}
use Rattle.text.proofs.Puts.{puts_nothing, puts_then}
use Rattle.refused.specs.Number.{number_of}
use Rattle.fold.specs.Output.{refusal_of, stop_of}
use Rattle.fold.specs.declared.Stop.{Stop}
use Rattle.replay.specs.Replay.{replay_of}
use Rattle.form.specs.Form.{form_text}
use Rattle.trailer.specs.Trailer.{records_of}
use Rattle.trailer.proofs.Laws.{few_records}
use Rattle.sign.specs.Sign.{stretches_of, pins_records, sign_of, signed_of, sign_output}
use Rattle.sign.specs.declared.Signed.{Signed}
use Rattle.sign.proofs.Fine.{log_fine}
use Rattle.sign.proofs.Listing.{pins_few}
use Rattle.sign.proofs.Telling.{count_small}
use Rattle.sign_print.specs.Said.{stretch_text, stretches_text, end_text, sign_text}
use Rattle.sign_print.specs.How.{spelt_at, There, Entries}
use Rattle.sign_print.proofs.Words.{stop_line}
use Rattle.sign_print.proofs.Spelt.{entry_there, one_more}
use Rattle.sign_print.proofs.Room.{lines_long, stop_long}

-- what stands in the text after the first i entries
pub record Saying (log entries : List ℕ) (first : Text) (n : ℕ) (text : Text) (i : ℕ) : Type 0 where
  pub within : i ≤ n
  pub there : Entries log entries n
  pub said : Puts first text (flatten (map stretch_text (take i (stretches_of log))))

-- ---- 65,504 bytes have room for every entry

roomy : (log : List ℕ) (room : ℕ) → room ≡ 65_504 → leb (32 * pins_records (records_of log)) room ≡ true
roomy log room e = le-leb (32 * pins_records (records_of log)) room (omega (arith, pins_few (records_of log), few_records log))

few_stretches : (log : List ℕ) → length (stretches_of log) < 2048
unfolding sign_of
few_stretches log = rw (roomy log 65_504 refl) at (count_small log 65_504)

module _ (log out : List ℕ) (room : length out ≡ 65_504) where
  pub all_entries : (x : Signed) (entries : List ℕ) → x ≡ signed_of (sign_of log (length out)) → entries ≡ sign_output log out → Entries log entries x.count
  unfolding sign_of
  all_entries x entries e f = record {
    few = omega (arith, ap (λ (y : Signed). y.count) e, count_small log (length out));
    all = ap (λ (y : Signed). y.count) e ∙ rw (roomy log (length out) room);
    out = out;
    listed = f ∙ rw (roomy log (length out) room);
  }

-- ---- the entries' lines

pub begins : (log entries : List ℕ) (text : Text) (n : ℕ) → Entries log entries n → Saying log entries text n text 0
unfolding flatten
begins log entries text n x = record { within = omega arith; there = x; said = puts_nothing text }

module _ (log entries : List ℕ) (first : Text) (n : ℕ) (text : Text) (i : ℕ) (s : Saying log entries first n text i) where
  module _ (h : i < n) where
    pub here : There entries (32 * i)
    here = entry_there (stretches_of log) (log_fine log) s.there.out entries s.there.listed i (omega (arith, s.there.all))

    pub next : (text' : Text) → Puts text text' (spelt_at entries (32 * i)) → Saying log entries first n text' (i + 1)
    next text' x = record {
      within = omega arith;
      there = s.there;
      said = rw (one_more (stretches_of log) (log_fine log) s.there.out entries s.there.listed i (omega (arith, s.there.all))) (puts_then first text text' _ _ s.said x);
    }

  pub all_said : n ≤ i → Puts first text (stretches_text log)
  unfolding stretches_text
  all_said h = rw (take_all i (stretches_of log) (omega (arith, s.there.all))) at s.said

-- ---- the last line

module _ (log : List ℕ) (stop : Stop) (is : stop ≡ stop_of (replay_of log 16_384)) where
  pub stop_said : (n : ℕ) → n ≡ number_of stop.refused → (text text' : Text)
      → Puts text text' (form_text (ascii "applied " ++ 35 ∷ 32 ∷ ascii "refused " ++ 35 ∷ 10 ∷ []) (stop.applied ∷ n ∷ [])) → Puts text text' (end_text log)
  unfolding end_text stop_of
  stop_said n e text text' x = rw is at (rw e at (rw (stop_line stop.applied n) at x))

  pub stop_short : stop.applied < 2 ^ 64 → number_of stop.refused < 2 ^ 64 → length (end_text log) ≤ 58
  unfolding end_text stop_of
  stop_short p q = let t = replay_of log 16_384 in stop_long t.applied (number_of (refusal_of t.course)) (rw is at p) (rw is at q)

pub text_long : (log : List ℕ) → length (end_text log) ≤ 58 → length (sign_text log) ≤ 298_920
unfolding stretches_text
text_long log h = omega (arith, length-append (stretches_text log) (end_text log), lines_long (stretches_of log) (log_fine log), few_stretches log)

pub put_counts : (a b s : List ℕ) (n : ℕ) → Put a 0 s b n → IsPrefixLen n b
put_counts a b s n x =
    let h : n ≤ length b = omega (arith, x.place, put_long a b s 0 n x) in
    (h, sym (length-take-le n b h))
