-- The whole call: which way through the code each answer is.
-- Assumes nothing.
use mathlib.Core.Path.{◌≡◌, refl, sym, ap, ◌∙◌}
use mathlib.Core.List.{List, ◌++◌}
use Prim.Native.Nat.{ℕ, ◌*◌, ◌≤◌}
use native.Mathlib.Omega.{arith}
use lib.ListN.{length, drop, length-append}
use lib.Seq.{take-append_seam}
use Rattle.fold.specs.Run.{Run, Course, going, stopped}
use Rattle.fold.specs.Output.{refusal_of, bytes_of, over, stop_of, output_of}
use Rattle.fold.specs.declared.Stop.{Stop}
use Rattle.fold.proofs.Written.{length_bytes}
use Rattle.numbers.specs.Bytes.{le_bytes}
use Rattle.trailer.specs.Trailer.{trailer_of, records_of, edition_in}
use Rattle.trailer.specs.declared.Trailer.{Trailer}
use Rattle.std.specs.Prelude.{Some, None, Result, Ok, Err}
use Rattle.refused.specs.declared.Refusal.{Refusal}
use Rattle.refused.specs.declared.Refusal.TheVariants.{WrongTranscript}
use Rattle.trailer.proofs.Laws.{ends}
use Rattle.banks.specs.declared.State.{State}
use Rattle.replay.specs.Replay.{played, replay_from, replay_of, replayed}
use Rattle.walk.specs.Turn.{written}
use Rattle.replay.proofs.Numbers.{accepted}
use Rattle.transcript.specs.Judge.{plain, refused, other_length, Answer}
use Rattle.transcript.specs.How.{Ready}

-- the readings are in the output
pub few : (log : List ℕ) (room : ℕ) (x : Stop) (out out' : List ℕ) → x ≡ stop_of (replay_of log room) → out' ≡ written (replay_of log room) out → 8 * x.readings ≤ length out'
unfolding stop_of output_of over
few log room x out out' is wrote =
    let vs = (replay_of log room).readings in
    let bytes = bytes_of (le_bytes 8) vs in
    omega (arith, ap (λ (s : Stop). s.readings) is, length_bytes (le_bytes 8) (λ v. refl) vs, ap length wrote, length-append bytes (drop (length bytes) out))

module _ (log : List ℕ) (room : ℕ) (enough : room ≡ 16_384) (x : Stop) (is : x ≡ stop_of (replay_of log room)) where
  told : x.refused ≡ refusal_of (replayed log).course
  unfolding stop_of
  told = ap (λ (s : Stop). s.refused) is ∙ ap (λ (n : ℕ). refusal_of (replay_of log n).course) enough

  long : ((replayed log).course ≡ going) → 8 * x.readings ≡ length (plain log)
  unfolding stop_of
  long a =
      omega (arith, ap (λ (s : Stop). s.readings) is, ap (λ (n : ℕ). length (replay_of log n).readings) enough, ap (λ (r : Run State ℕ). length r.readings) (accepted log 16_384 a), length_bytes (le_bytes 8) (λ v. refl) (played (edition_in log) (records_of log)).readings)

  goes_through : x.refused ≡ None → (replayed log).course ≡ going
  goes_through z = by (replayed log).course told
    where
      by : (c : Course) → x.refused ≡ refusal_of c → c ≡ going
      by going e = refl
      by (stopped k) e = absurd (let h : Some k ≡ None = sym e ∙ z in cc)

  stops : (k : Refusal) → x.refused ≡ Some k → (replayed log).course ≡ stopped k
  stops k z = by (replayed log).course told
    where
      by : (c : Course) → x.refused ≡ refusal_of c → c ≡ stopped k
      by going e = absurd (let h : None ≡ Some k = sym e ∙ z in cc)
      by (stopped j) e = let h : Some j ≡ Some k = sym e ∙ z in cc

  module _ (ts : List ℕ) where
    -- the log's refusal first, then 17
    pub refuses : (k : Refusal) → x.refused ≡ Some k → Answer log ts (Err k)
    refuses k z = refused (stops k z)

    module _ (z : x.refused ≡ None) where
      pub wrong_length : (length ts ≡ 8 * x.readings → ⊥) → Answer log ts (Err WrongTranscript)
      wrong_length d = let a = goes_through z in other_length a (λ q. d (q ∙ sym (long a)))

      pub ready : (out out' : List ℕ) → out' ≡ written (replay_of log room) out → length ts ≡ 8 * x.readings → (t : Trailer) → trailer_of log ≡ Ok t → Ready log t.start out' ts
      unfolding output_of over
      ready out out' wrote fits t q =
          let a = goes_through z in
          let out-is : out' ≡ plain log ++ drop (length (plain log)) out =
          wrote ∙ ap (λ (j : ℕ). written (replay_of log j) out) enough ∙ ap (λ (r : Run State ℕ). written r out) (accepted log 16_384 a) in
          record {
            records = t.count;
            edition = t.edition;
            found = q;
            within = omega (arith, ends log t q);
            accepted = a;
            wrote = rw out-is (take-append_seam (plain log) (drop (length (plain log)) out));
            long = fits ∙ long a;
          }

-- a trailer that is refused, again
pub no_trailer : (log ts : List ℕ) (k : Refusal) → trailer_of log ≡ Err k → Answer log ts (Err k)
unfolding replay_of replay_from
no_trailer log ts k e = refused (ap (λ (r : Result Trailer Refusal). (replay_from r log 16_384).course) e)
