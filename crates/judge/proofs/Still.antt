-- Where each CNTR reading is 0 or 2^31, and only there, the negated transcript is the plain one; and negating twice is nothing.
-- Assumes nothing.
use mathlib.Core.Path.{◌≡◌, refl, sym, ap, ◌∙◌}
use mathlib.Core.Logic.{◌⊎◌, inl, inr}
use mathlib.Core.List.{List, [], ◌∷◌, ◌++◌}
use mathlib.Core.Bool.{Bool, true, false, cond}
use Prim.Native.Nat.{ℕ, ◌*◌, ◌-◌, ◌%◌, ◌^◌, ◌<◌}
use native.Mathlib.Omega.{arith}
use lib.Dec.{eqb}
use borrow.Author.Tests.{eqb-true, eqb-false}
use Rattle.edition.specs.declared.Edition.{Edition}
use Rattle.fold.specs.Turn.{Turn, goes, reads, refused, retell, applies, leaves, given}
use Rattle.fold.specs.Run.{Run, going, resumed, run_of}
use Rattle.fold.proofs.Turns.{retell_applies, retell_leaves}
use Rattle.fold.proofs.Runs.{first_applied, every_going}
use Rattle.fold.specs.Output.{bytes_of}
use Rattle.numbers.specs.Bytes.{le_of, le_bytes}
use Rattle.wire.specs.Decode.{reads_in}
use Rattle.trailer.specs.Trailer.{records_of, edition_in}
use Rattle.banks.specs.declared.State.{State}
use Rattle.banks.specs.State.{fresh}
use Rattle.replay.specs.Replay.{played, replayed}
use Rattle.walk.specs.Turn.{turn_of}
use Rattle.transcript.specs.Judge.{neg, of_cntr, negating, plain, opposite}
use Rattle.transcript.specs.How.{transcript_by}
use Rattle.judge.specs.Facts.{Still}
use Rattle.transcript.proofs.Numbers.{said, said_small}
use Rattle.transcript.proofs.Records.{cntr_small}
use Rattle.transcript.proofs.Placed.{turned, goes_through, shown, turned_over}

-- ---- a number and its negation

abbrev Unmoved : ℕ → Type 0
Unmoved v = (v ≡ 0) ⊎ (v ≡ 2_147_483_648)

unmoved_neg : (v : ℕ) → Unmoved v → neg v ≡ v
unmoved_neg v (inl e) = rw e
unmoved_neg v (inr e) = rw e

neg_unmoved : (v : ℕ) → v < 2 ^ 32 → v ≡ neg v → Unmoved v
neg_unmoved v h e = by (eqb v 0) refl
  where
    by : (b : Bool) → eqb v 0 ≡ b → Unmoved v
    by true z = inl (eqb-true v 0 z)
    by false z =
        let p : 0 < v = omega (arith, eqb-false v 0 z) in
        let m : v % 2 ^ 32 ≡ v = omega arith in
        let n : (2 ^ 32 - v) % 2 ^ 32 ≡ 2 ^ 32 - v = omega arith in
        let f : v ≡ 2 ^ 32 - v = e ∙ ap (λ (w : ℕ). (2 ^ 32 - w) % 2 ^ 32) m ∙ n in
        inr (omega arith)

twice_neg : (v : ℕ) → v < 2 ^ 32 → neg (neg v) ≡ v
twice_neg v h = omega arith

-- ---- the transcripts are the same only where each CNTR reading stands still

module _ (log : List ℕ) (accepted : (replayed log).course ≡ going) where
  pub still_only : plain log ≡ opposite log → Still (edition_in log) (records_of log)
  still_only e before later r v cut c read =
      let small = cntr_small (edition_in log) (played (edition_in log) before).state r v c read in
      let k = 8 * reads_in before in
      let said_same : said v ≡ said (turned r v) =
      sym (shown log accepted before r later cut v read) ∙ ap (λ (l : List ℕ). le_of 8 l k) e ∙ turned_over log accepted before r later cut v read in
      neg_unmoved v small (sym (said_small v small) ∙ said_same ∙ ap said (rw c) ∙ said_small (neg v) (omega arith))

-- ---- and where it does

same_given : (r : List ℕ) (x : Turn State ℕ) → ((v : ℕ) → of_cntr r ≡ true → x ≡ reads v → Unmoved v) → given (retell (turned r) x) ≡ given x
same_given r (goes b) h = refl
same_given r (refused k) h = refl
same_given r (reads v) h = by (of_cntr r) refl
  where
    by : (c : Bool) → of_cntr r ≡ c → cond c (neg v) v ∷ [] ≡ v ∷ []
    by true c = ap (λ (w : ℕ). w ∷ []) (unmoved_neg v (h v c refl))
    by false c = refl

module _ (turn : State → List ℕ → Turn State ℕ) where
  StillFrom : State → List (List ℕ) → Type 0
  StillFrom b rs =
      (before later : List (List ℕ)) (r : List ℕ) (v : ℕ) → rs ≡ before ++ r ∷ later → of_cntr r ≡ true
      → turn (run_of turn b before).state r ≡ reads v → Unmoved v

  same_readings : (b : State) (rs : List (List ℕ)) → (run_of turn b rs).course ≡ going → StillFrom b rs
      → (run_of (negating turn) b rs).readings ≡ (run_of turn b rs).readings
  unfolding run_of resumed StillFrom
  same_readings b rs g =
      every_going turn (λ b rs x. StillFrom b rs → (run_of (negating turn) b rs).readings ≡ x.readings) (λ b s. refl) more b rs g
    where
      more : (b : State) (r : List ℕ) (rs : List (List ℕ)) → applies (turn b r) ≡ true
          → (StillFrom (leaves b (turn b r)) rs → (run_of (negating turn) (leaves b (turn b r)) rs).readings ≡ (run_of turn (leaves b (turn b r)) rs).readings)
          → StillFrom b (r ∷ rs) → (run_of (negating turn) b (r ∷ rs)).readings ≡ given (turn b r) ++ (run_of turn (leaves b (turn b r)) rs).readings
      more b r rs a ih s =
          let x = turn b r in
          ap (λ (y : Run State ℕ). y.readings) (first_applied (negating turn) b r rs (retell_applies (turned r) x ∙ a))
          ∙ rw (retell_leaves (turned r) b x, same_given r x (λ v c e. s [] rs r v refl c e))
          (ap (λ (l : List ℕ). given x ++ l)
          (ih (λ before later q v e c read. s (r ∷ before) later q v (ap (λ (l : List (List ℕ)). r ∷ l) e) c (ap (λ (y : Run State ℕ). turn y.state q) (first_applied turn b r before a) ∙ read))))

pub still_same : (log : List ℕ) → (replayed log).course ≡ going → Still (edition_in log) (records_of log) → plain log ≡ opposite log
unfolding StillFrom
still_same log accepted s = sym (ap (bytes_of (le_bytes 8)) (same_readings (turn_of (edition_in log)) fresh (records_of log) (goes_through log accepted) s))

-- ---- negating twice

twice_told : (r : List ℕ) (v : ℕ) → (of_cntr r ≡ true → v < 2 ^ 32) → turned r (turned r v) ≡ v
twice_told r v h = by (of_cntr r) refl
  where
    by : (c : Bool) → of_cntr r ≡ c → cond c (neg (cond c (neg v) v)) (cond c (neg v) v) ≡ v
    by true c = twice_neg v (h c)
    by false c = refl

twice_turn : (o : Edition) (b : State) (r : List ℕ) → negating (negating (turn_of o)) b r ≡ turn_of o b r
twice_turn o b r = by (turn_of o b r) refl
  where
    by : (x : Turn State ℕ) → turn_of o b r ≡ x → retell (turned r) (retell (turned r) x) ≡ x
    by (goes s) e = refl
    by (reads v) e = ap reads (twice_told r v (λ c. cntr_small o b r v c e))
    by (refused k) e = refl

pub negated_twice : (log : List ℕ) → transcript_by (negating (negating (turn_of (edition_in log)))) log ≡ plain log
negated_twice log = λ i. transcript_by (λ b r. twice_turn (edition_in log) b r i) log
