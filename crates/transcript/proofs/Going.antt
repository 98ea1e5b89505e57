-- The pass over the records: what holds before each, and that each way through the code keeps it or ends it.
-- Assumes nothing.
use Rattle.std.proofs.Common.{◌≡◌, ℕ, zero, suc, ◌+◌, ◌-◌, ◌*◌, ◌/◌, ◌<◌, ◌≤◌, Bool, true, false, cond, ◌&&◌, eqb, List, [], ◌∷◌, ◌++◌, length, get_or, take, drop, sym, refl, ap, ◌∙◌, true≢false, add-zero, add-suc, suc-add, zero-add, arith, length-take, get_or-drop, take_all, get_or-take, take-take, w8, w64, Fits, eq-eqb, ne_eqb, eqb-true}
use borrow.Author.Tests.{eqb-false}
use Rattle.laws.proofs.Truth.{both_true}
use Rattle.fold.specs.Run.{tally}
use Rattle.fold.proofs.Laws.{tally_cut}
use Rattle.fold.proofs.Places.{between, placed, places_next, records_placed}
use Rattle.numbers.specs.Bytes.{byte, le_of}
use Rattle.wire.specs.Decode.{asks, reads_in}
use Rattle.trailer.specs.Trailer.{records_at, records_of}
use Rattle.trailer.specs.declared.Trailer.{Trailer}
use Rattle.wire.proofs.Laws.{first_byte}
use Rattle.trailer.proofs.Laws.{ends}
use Rattle.std.specs.Prelude.{Result, Ok}
use Rattle.refused.specs.declared.Refusal.{Refusal}
use Rattle.transcript.specs.declared.Verdict.{Verdict}
use Rattle.transcript.specs.declared.Verdict.TheVariants.{Negated, Both}
use Rattle.transcript.specs.Judge.{neg, of_cntr, plain, opposite, same, negated, both, different, Answer}
use Rattle.transcript.specs.How.{Agree, Ready, Plainly, all, until}
use Rattle.transcript.proofs.Numbers.{in_slice, in_bytes, le_take, one_more}
use Rattle.transcript.proofs.Placed.{turned, plain_long, opposite_long, over}

-- ---- records by their places, cut at one of them

between_cut : {R : Type 0} (this : ℕ → R) (k i m : ℕ) → between this k (i + m) ≡ between this k i ++ between this (k + i) m
unfolding between
between_cut this k zero m = rw (zero-add m, add-zero k)
between_cut this k (suc i) m = rw (suc-add i m, between_cut this (suc k) i m, add-suc k i, suc-add k i)

module _ (log : List ℕ) (start : ℕ) (ts : List ℕ) where
  -- the records before the place at have been passed, with j readings among them: the transcript has these negated, and the plain
  -- readings are the same so far, or never
  pub record Going (still : Bool) (at j : ℕ) : Type 0 where
    pub index : ℕ
    pub place : at ≡ start + 16 * index
    pub within : j ≤ length ts / 8
    pub count : j ≡ reads_in (between (placed 16 start log) 0 index)
    pub agrees : Agree j ts (opposite log)
    pub stands : still ≡ true → Agree j (plain log) (opposite log)
    pub moves : still ≡ false → plain log ≡ opposite log → ⊥

  pub begins : Going true start 0
  unfolding between tally
  begins = record { index = 0; place = omega arith; within = omega arith; count = refl; agrees = refl; stands = λ e. refl; moves = λ e. absurd (true≢false e) }

module _ (log : List ℕ) (start : ℕ) (out ts : List ℕ) (ready : Ready log start out ts) where
  abbrev n : ℕ
  n = ready.records

  abbrev this : ℕ → List ℕ
  this = placed 16 start log

  all_records : records_of log ≡ between this 0 n
  all_records = ap (λ (t : Result Trailer Refusal). records_at t log) ready.found ∙ records_placed 16 start n log

  -- what is in out is the plain transcript
  out_long : length (plain log) ≤ length out
  out_long = omega (arith, ap length ready.wrote, length-take (length (plain log)) out)

  pub out_enough : length ts ≤ length out
  out_enough = omega (arith, out_long, ready.long)

  in_out : (m : ℕ) → m ≤ length (plain log) → take m out ≡ take m (plain log)
  in_out m h = sym (take-take m (length (plain log)) out h) ∙ ap (take m) ready.wrote

  -- the plain comparison, where the negated one has failed
  settled : (r : Verdict) → Plainly ts out r → (ts ≡ opposite log → ⊥) → Answer log ts (Ok r)
  settled r (all a) d =
      let n : 8 * (length ts / 8) ≡ length ts = omega (arith, ready.long, plain_long log ready.accepted) in
      same ready.accepted (sym (take_all (length ts) ts (omega arith)) ∙ (rw n at a) ∙ in_out (length ts) (omega (arith, ready.long)) ∙ take_all (length ts) (plain log) (omega (arith, ready.long))) d
  settled r (until {i} l a b) d =
      let h : 8 * (i + 1) ≤ length (plain log) = omega (arith, ready.long) in
      different ready.accepted ready.long d (a ∙ in_out (8 * i) (omega arith)) (λ e. b (e ∙ sym (in_out (8 * (i + 1)) h)))

  module _ (still : Bool) (at j : ℕ) (g : Going log start ts still at j) where
    abbrev i : ℕ
    i = g.index

    -- ---- the last reading is behind

    module _ (last : j ≡ length ts / 8) where
      all_read : 8 * j ≡ length (plain log)
      all_read = omega (arith, plain_long log ready.accepted, ready.long)

      whole : (s t : List ℕ) → length s ≡ length (plain log) → length t ≡ length (plain log) → Agree j s t → s ≡ t
      whole s t p q a = sym (take_all (8 * j) s (omega (arith, all_read))) ∙ a ∙ take_all (8 * j) t (omega (arith, all_read))

      is_opposite : ts ≡ opposite log
      is_opposite = whole ts (opposite log) ready.long (opposite_long log ready.accepted) g.agrees

      pub ends_both : still ≡ true → Answer log ts (Ok Both)
      ends_both e = both ready.accepted (is_opposite ∙ sym (whole (plain log) (opposite log) refl (opposite_long log ready.accepted) (g.stands e))) is_opposite

      pub ends_negated : still ≡ false → Answer log ts (Ok Negated)
      ends_negated e = negated ready.accepted (λ p. g.moves e (sym p ∙ is_opposite)) is_opposite

    -- ---- one record more

    module _ (not_last : j < length ts / 8) where
      more : i < n
      more =
          let none_left : n ≤ i → ⊥ = λ h. (
          let e : i ≡ n + (i - n) = omega arith in
          let rest = between this (0 + n) (i - n) in
          let all-j : reads_in (between this 0 i) ≡ reads_in (between this 0 n) + reads_in rest = ap (λ (k : ℕ). reads_in (between this 0 k)) e ∙ ap reads_in (between_cut this 0 n (i - n)) ∙ tally_cut asks (between this 0 n) rest in
          omega (arith, not_last, g.within, g.count, plain_long log ready.accepted, ready.long, ap reads_in all_records)
          ) in
          omega (arith, none_left)

      -- there is a record
      a_record : at + 16 ≤ length log
      a_record = omega (arith, more, g.place, ready.within)

      pub in_log : at < length log
      in_log = omega (arith, a_record)

      pub at_in_log : (k : ℕ) → k < 16 → at + k < length log
      at_in_log k h = omega (arith, a_record)

      pub place_fits : (k : ℕ) → k ≤ 16 → Fits w64 (at + k)
      place_fits k h = record { fits = omega (arith, a_record, ends log (record { start = start; count = n; edition = ready.edition }) ready.found) }

      pub nearer : length log - (at + 16) < length log - at
      nearer = omega (arith, a_record)

      abbrev before : List (List ℕ)
      before = between this 0 i

      abbrev later : List (List ℕ)
      later = between this (i + 1) (n - (i + 1))

      cut : records_of log ≡ before ++ this i ∷ later
      cut =
          let e : n ≡ i + (n - i) = omega (arith, more) in
          all_records ∙ ap (between this 0) e ∙ between_cut this 0 i (n - i) ∙ rw (zero-add i, places_next this n i more)

      counted : reads_in (between this 0 (i + 1)) ≡ j + cond (asks (this i)) 1 0
      unfolding between tally
      counted = rw (between_cut this 0 i 1, zero-add i, tally_cut asks (between this 0 i) (this i ∷ [])) (omega (arith, g.count))

      byte_at : (k : ℕ) → k < 16 → byte (this i) k ≡ byte log (at + k)
      byte_at k h = get_or-take 16 (drop (start + 16 * i) log) k 0 h ∙ get_or-drop (start + 16 * i) log k 0 ∙ ap (λ (a : ℕ). byte log (a + k)) (sym g.place)

      first : byte (this i) 0 ≡ byte log at
      first = first_byte log (start + 16 * i) ∙ ap (byte log) (sym g.place)

      pub skips : (byte log at ≡ 2 → ⊥) → Going log start ts still (at + 16) j
      skips h =
          let no : asks (this i) ≡ false = ne_eqb (byte (this i) 0) 2 (λ e. h (sym first ∙ e)) in
          record {
            index = i + 1;
            place = omega (arith, g.place);
            within = g.within;
            count = sym (rw no at counted ∙ add-zero j);
            agrees = g.agrees;
            stands = g.stands;
            moves = g.moves;
          }

      module _ (two : byte log at ≡ 2) where
        asked : asks (this i) ≡ true
        asked = eq-eqb (byte (this i) 0) 2 (first ∙ two)

        one_read : reads_in (between this 0 (i + 1)) ≡ j + 1
        one_read = rw asked at counted

        room : 8 * j + 8 ≤ length (plain log)
        room =
            let e : n ≡ (i + 1) + (n - (i + 1)) = omega (arith, more) in
            omega (arith, plain_long log ready.accepted, one_read, ap reads_in (all_records ∙ ap (between this 0) e ∙ between_cut this 0 (i + 1) (n - (i + 1))), tally_cut asks (between this 0 (i + 1)) (between this (0 + (i + 1)) (n - (i + 1))))

        pub room_transcript : 8 * j + 8 ≤ length ts
        room_transcript = omega (arith, room, ready.long)

        pub room_out : 8 * j + 8 ≤ length out
        room_out = omega (arith, room, out_long)

        module _ (t v : ℕ) (c : Bool) (is : t ≡ le_of 8 ts (8 * j)) (was : v ≡ le_of 8 out (8 * j))
            (cntr : c ≡ (eqb (byte log (at + 1)) 1 && eqb (byte log (at + 3)) 2)) where
          is_cntr : of_cntr (this i) ≡ c
          is_cntr = rw (byte_at 1 (omega arith), byte_at 3 (omega arith)) (sym cntr)

          plain_at : le_of 8 (plain log) (8 * j) ≡ v
          plain_at = ap (λ (l : List ℕ). le_of 8 l (8 * j)) (sym ready.wrote) ∙ le_take 8 (length (plain log)) out (8 * j) room ∙ sym was

          opposite_at : le_of 8 (opposite log) (8 * j) ≡ cond c (neg v) v
          opposite_at =
              ap (λ (k : ℕ). le_of 8 (opposite log) (8 * k)) g.count
              ∙ over log ready.accepted before (this i) later cut asked
              ∙ ap (λ (k : ℕ). turned (this i) (le_of 8 (plain log) (8 * k))) (sym g.count)
              ∙ rw (is_cntr, plain_at)

          -- the transcript has something else
          pub not_opposite : (t ≡ cond c (neg v) v → ⊥) → ts ≡ opposite log → ⊥
          not_opposite d e = d (is ∙ ap (λ (l : List ℕ). le_of 8 l (8 * j)) e ∙ opposite_at)

          -- or what it should have, x
          module _ (x : ℕ) (e : x ≡ cond c (neg v) v) (agreed : t ≡ x) (bytes : (k : ℕ) → Fits w8 (get_or ts k 0)) where
            long_opposite : 8 * j + 8 ≤ length (opposite log)
            long_opposite = omega (arith, room, opposite_long log ready.accepted)

            reads_on : (next : Bool) → (next ≡ true → (still ≡ true) × (x ≡ v)) → (next ≡ false → plain log ≡ opposite log → ⊥) → Going log start ts next (at + 16) (j + 1)
            reads_on next p q = record {
              index = i + 1;
              place = omega (arith, g.place);
              within = omega (arith, g.within, not_last);
              count = sym one_read;
              agrees = one_more j ts (opposite log) (in_slice ts bytes) (in_bytes _) room_transcript long_opposite g.agrees (sym is ∙ agreed ∙ e ∙ sym opposite_at);
              stands = λ s. one_more j (plain log) (opposite log) (in_bytes _) (in_bytes _) room long_opposite (g.stands (p s).0) (plain_at ∙ sym (p s).1 ∙ e ∙ sym opposite_at);
              moves = q;
            }

          pub other_on : c ≡ false → t ≡ v → ((k : ℕ) → Fits w8 (get_or ts k 0)) → Going log start ts still (at + 16) (j + 1)
          other_on f a bytes = reads_on v (sym (rw f)) a bytes still (λ s. (s, refl)) g.moves

          unmoved : (w : ℕ) → w ≡ cond c (neg v) v → plain log ≡ opposite log → w ≡ v
          unmoved w e p = e ∙ sym opposite_at ∙ ap (λ (l : List ℕ). le_of 8 l (8 * j)) (sym p) ∙ plain_at

          pub cntr_on : (w : ℕ) → c ≡ true → w ≡ neg v → t ≡ w → ((k : ℕ) → Fits w8 (get_or ts k 0)) → Going log start ts (still && eqb w v) (at + 16) (j + 1)
          cntr_on w f h a bytes =
              let e : w ≡ cond c (neg v) v = h ∙ sym (rw f) in
              reads_on w e a bytes (still && eqb w v) (λ s. let k = both_true still (eqb w v) s in (k.0, eqb-true w v k.1)) (by still (eqb w v) refl g.moves e)
            where
              by : (s d : Bool) → eqb w v ≡ d → (s ≡ false → plain log ≡ opposite log → ⊥) → w ≡ cond c (neg v) v → (s && d) ≡ false → plain log ≡ opposite log → ⊥
              by true true h m e f p = absurd (true≢false f)
              by true false h m e f p = eqb-false w v h (unmoved w e p)
              by false d h m e f p = m refl p

          -- ---- a reading that is not the negated one: the plain comparison decides

          module _ (r : Verdict) (plainly : Plainly ts out r) where
            pub other_breaks : c ≡ false → (t ≡ v → ⊥) → Answer log ts (Ok r)
            other_breaks f d = settled r plainly (not_opposite (λ e. d (rw f at e)))

            pub cntr_breaks : (w : ℕ) → c ≡ true → w ≡ neg v → (t ≡ w → ⊥) → Answer log ts (Ok r)
            cntr_breaks w f h d = settled r plainly (not_opposite (λ e. d ((rw f at e) ∙ sym h)))
