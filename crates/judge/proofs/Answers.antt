-- There is an answer, and no two: by how the log's replay ends, by the length, and by the two comparisons.
-- Assumes nothing.
use mathlib.Core.Path.{◌≡◌, refl, sym, ap, ◌∙◌}
use mathlib.Core.List.{List, [], ◌∷◌, List-discrete}
use mathlib.Core.Bool.{Bool, true, false, cond}
use Prim.Native.Nat.{ℕ, zero, suc, ◌+◌, ◌*◌, ◌≤◌, ◌<◌}
use native.Mathlib.Numerals.{add-one}
use native.Mathlib.Omega.{arith}
use native.Mathlib.Decide.{ℕ_discrete}
use lib.ListN.{length, take}
use lib.Seq.{take_all}
use Rattle.fold.specs.Run.{Course, going, stopped, tally}
use Rattle.refused.specs.Number.{number}
use Rattle.wire.specs.Decode.{asks, reads_in}
use Rattle.trailer.specs.Trailer.{records_of}
use Rattle.trailer.proofs.Laws.{few_records}
use Rattle.replay.specs.Replay.{replayed}
use Rattle.transcript.specs.Judge.{plain, opposite, Judged, refused, other_length, same, negated, both, different}
use Rattle.transcript.specs.How.{Agree}
use Rattle.transcript.proofs.Numbers.{fewer}
use Rattle.transcript.proofs.Placed.{plain_long, opposite_long}

pub alike : (s t : List ℕ) → Dec (s ≡ t)
alike = List-discrete ℕ_discrete

-- ---- the first reading that differs

abbrev First : List ℕ → List ℕ → ℕ → Type 0
First s t i = Agree i s t × (Agree (i + 1) s t → ⊥)

first_below : (n : ℕ) (s t : List ℕ) → (Agree n s t → ⊥) → (i : ℕ) × First s t i
first_below zero s t d = absurd (d refl)
first_below (suc n) s t d = by (alike (take (8 * n) s) (take (8 * n) t)) (first_below n s t)
  where
    by : Dec (Agree n s t) → ((Agree n s t → ⊥) → (i : ℕ) × First s t i) → (i : ℕ) × First s t i
    by (yes a) more = (n, (a, λ b. d (rw (add-one n) at b)))
    by (no b) more = more b

first_of : (s t : List ℕ) → length s ≡ length t → (s ≡ t → ⊥) → (i : ℕ) × First s t i
first_of s t e d = first_below (length s) s t (λ a. d (sym (take_all (8 * length s) s (omega arith)) ∙ a ∙ take_all (8 * length s) t (omega arith)))

one_first : (s t : List ℕ) (i j : ℕ) → First s t i → First s t j → i ≡ j
one_first s t i j p q =
    let no_less : i < j → ⊥ = λ h. p.1 (fewer (i + 1) j s t (omega arith) q.0) in
    let no_more : j < i → ⊥ = λ h. q.1 (fewer (j + 1) i s t (omega arith) p.0) in
    omega (arith, no_less, no_more)

-- ---- by tests

test : {A : Type 0} → Dec A → Bool
test (yes a) = true
test (no n) = false

passed : {A : Type 0} (d : Dec A) → A → test d ≡ true
unfolding test
passed (yes a) b = refl
passed (no n) b = absurd (n b)

failed : {A : Type 0} (d : Dec A) → (A → ⊥) → test d ≡ false
unfolding test
failed (yes a) n = absurd (n a)
failed (no m) n = refl

-- the answer by whether the length fits, the comparisons, and the index
picked : Course → Bool → Bool → Bool → ℕ → ℕ × ℕ × ℕ
picked (stopped k) l p q i = (number k, 0, 0)
picked going false p q i = (17, 0, 0)
picked going true true true i = (0, 3, 0)
picked going true true false i = (0, 1, 0)
picked going true false true i = (0, 2, 0)
picked going true false false i = (0, 4, i)

module _ (log ts : List ℕ) where
  fits : Dec (length ts ≡ length (plain log))
  fits = ℕ_discrete (length ts) (length (plain log))

  -- the index, where there is one
  Index : ℕ → Type 0
  Index i = length ts ≡ length (plain log) → (ts ≡ plain log → ⊥) → First ts (plain log) i

  an_index : Dec (length ts ≡ length (plain log)) → Dec (ts ≡ plain log) → (i : ℕ) × Index i
  unfolding Index
  an_index (yes l) (yes p) = (0, λ m n. absurd (n p))
  an_index (yes l) (no p) = let f = first_of ts (plain log) l p in (f.0, λ m n. f.1)
  an_index (no l) d = (0, λ m n. absurd (l m))

  index : ℕ
  index = (an_index fits (alike ts (plain log))).0

  answer : ℕ × ℕ × ℕ
  answer = picked (replayed log).course (test fits) (test (alike ts (plain log))) (test (alike ts (opposite log))) index

  is_answer : (a : ℕ × ℕ × ℕ) → Judged log ts a → a ≡ answer
  unfolding answer index Index picked
  is_answer a (refused c) = rw c
  is_answer a (other_length c l) = rw (c, failed fits l)
  is_answer a (same c p q) = rw (c, passed fits (ap length p), passed (alike ts (plain log)) p, failed (alike ts (opposite log)) q)
  is_answer a (negated c p q) = rw (c, passed fits (ap length q ∙ opposite_long log c), failed (alike ts (plain log)) p, passed (alike ts (opposite log)) q)
  is_answer a (both c p q) = rw (c, passed fits (ap length p), passed (alike ts (plain log)) p, passed (alike ts (opposite log)) q)
  is_answer a (different {i} c l q f g) =
      let p : ts ≡ plain log → ⊥ = λ e. g (ap (take (8 * (i + 1))) e) in
      let e : i ≡ index = one_first ts (plain log) i index (f, g) ((an_index fits (alike ts (plain log))).1 l p) in
      rw (c, passed fits l, failed (alike ts (plain log)) p, failed (alike ts (opposite log)) q, e)

  an_answer : (c : Course) → (replayed log).course ≡ c → Dec (length ts ≡ length (plain log)) → Dec (ts ≡ plain log) → Dec (ts ≡ opposite log) → (a : ℕ × ℕ × ℕ) × Judged log ts a
  an_answer (stopped k) c l p q = ((number k, 0, 0), refused c)
  an_answer going c (no l) p q = ((17, 0, 0), other_length c l)
  an_answer going c (yes l) (yes p) (yes q) = ((0, 3, 0), both c p q)
  an_answer going c (yes l) (yes p) (no q) = ((0, 1, 0), same c p q)
  an_answer going c (yes l) (no p) (yes q) = ((0, 2, 0), negated c p q)
  an_answer going c (yes l) (no p) (no q) =
      let f = first_of ts (plain log) l p in
      ((0, 4, f.0), different c l q f.1.0 f.1.1)

  pub there_is : (a : ℕ × ℕ × ℕ) × Judged log ts a
  there_is = an_answer (replayed log).course refl fits (alike ts (plain log)) (alike ts (opposite log))

  pub no_two : (a b : ℕ × ℕ × ℕ) → Judged log ts a → Judged log ts b → a ≡ b
  no_two a b p q = is_answer a p ∙ sym (is_answer b q)

  -- "both", and what it says
  pub when_both : (a : ℕ × ℕ × ℕ) → a.1 ≡ 3 → Judged log ts a → ((replayed log).course ≡ going) × (ts ≡ plain log) × (ts ≡ opposite log)
  when_both a e (refused c) = absurd (omega arith)
  when_both a e (other_length c l) = absurd (omega arith)
  when_both a e (same c p q) = absurd (omega arith)
  when_both a e (negated c p q) = absurd (omega arith)
  when_both a e (both c p q) = (c, p, q)
  when_both a e (different c l q f g) = absurd (omega arith)

-- ---- the index is that of a reading

-- the readings of any log have room in 16,384 bytes
few_reads : (rs : List (List ℕ)) → reads_in rs ≤ length rs
unfolding tally
few_reads [] = omega arith
few_reads (r ∷ rs) = by (asks r) (few_reads rs)
  where
    by : (t : Bool) → reads_in rs ≤ length rs → cond t 1 0 + reads_in rs ≤ length (r ∷ rs)
    by true h = omega arith
    by false h = omega arith

pub has_room : (log : List ℕ) → reads_in (records_of log) < 2048
has_room log = omega (arith, few_reads (records_of log), few_records log)

pub small_index : (log ts : List ℕ) (a : ℕ × ℕ × ℕ) → Judged log ts a → a.2 < 2048
small_index log ts a (refused c) = omega arith
small_index log ts a (other_length c l) = omega arith
small_index log ts a (same c p q) = omega arith
small_index log ts a (negated c p q) = omega arith
small_index log ts a (both c p q) = omega arith
small_index log ts a (different {i} c l q f g) =
    let long = plain_long log c in
    let within : 2048 ≤ i → ⊥ = λ h.
    g (take_all (8 * (i + 1)) ts (omega (arith, has_room log)) ∙ sym (take_all (8 * i) ts (omega (arith, has_room log))) ∙ f
    ∙ take_all (8 * i) (plain log) (omega (arith, has_room log)) ∙ sym (take_all (8 * (i + 1)) (plain log) (omega (arith, has_room log)))) in
    omega (arith, within)

-- ---- two logs that replay alike

pub carried : (log other ts : List ℕ) (a : ℕ × ℕ × ℕ) → (replayed log).course ≡ (replayed other).course → plain log ≡ plain other → opposite log ≡ opposite other
    → Judged log ts a → Judged other ts a
carried log other ts a e p q (refused c) = refused (sym e ∙ c)
carried log other ts a e p q (other_length c l) = other_length (sym e ∙ c) (λ m. l (m ∙ ap length (sym p)))
carried log other ts a e p q (same c u v) = same (sym e ∙ c) (u ∙ p) (λ w. v (w ∙ sym q))
carried log other ts a e p q (negated c u v) = negated (sym e ∙ c) (λ w. u (w ∙ sym p)) (v ∙ q)
carried log other ts a e p q (both c u v) = both (sym e ∙ c) (u ∙ p) (v ∙ q)
carried log other ts a e p q (different {i} c l u f g) =
    different (sym e ∙ c) (l ∙ ap length p) (λ w. u (w ∙ sym q)) (f ∙ ap (take (8 * i)) p) (λ w. g (w ∙ ap (take (8 * (i + 1))) (sym p)))
