-- The two passes over the records: which encoders have a wire, and their changes. Assumes nothing.
use mathlib.Core.Path.{◌≡◌, refl, sym, ap, ◌∙◌, subst}
use mathlib.Core.Bool.{Bool, false, ◌&&◌, ◌||◌, not}
use mathlib.Core.List.{List, [], ◌∷◌, ◌++◌, foldl, map, append_assoc, append-nil}
use Prim.Native.Nat.{ℕ, ◌+◌, ◌-◌, ◌*◌, ◌/◌, ◌^◌, ◌≤◌, ◌<◌}
use native.Mathlib.Omega.{arith}
use native.Mathlib.Nat.{mul-le-mul_right, zero-add}
use lib.Dec.{eqb}
use mir.Syntax.{w8, w64}
use mir.Val.{Fits}
use lib.ListN.{length, take, drop, get_or, set, replicate, length-set}
use Rattle.fold.proofs.Places.{between, placed, places_next, places_end, places_all, records_placed}
use Rattle.decimal.specs.Put.{Put}
use Rattle.decimal.proofs.Puts.{put_nothing, put_then, put_long}
use Rattle.vcd.specs.declared.Step.{Step}
use Rattle.vcd.specs.declared.Step.TheVariants.{Wait, Pins}
use Rattle.vcd.specs.declared.Line.{Line}
use Rattle.vcd.specs.Lines.{text_of}
use Rattle.vcd.specs.Dump.{declared, start_of, header_of, changes_of, timed, body_from, dump_of, Good}
use Rattle.vcd.proofs.Starts.{There, there_set, there_start, long_start}
use Rattle.vcd.proofs.Bound.{text_append, in_time}
use Rattle.dump.specs.Dump.{seen_of}
use Rattle.dump.specs.How.{steps_in, Ready}

module _ (bytes : List ℕ) where
  abbrev n : ℕ
  n = length bytes / 16

  -- the steps from the ith on
  pub rest_of : ℕ → List Step
  rest_of i = map seen_of (between (placed 16 0 bytes) i (n - i))

  all_rest : rest_of 0 ≡ steps_in bytes
  unfolding rest_of
  all_rest = rw (places_all (placed 16 0 bytes) n, records_placed 16 0 n bytes)

  rest_next : (i : ℕ) → i < n → rest_of i ≡ seen_of (take 16 (drop (16 * i) bytes)) ∷ rest_of (i + 1)
  unfolding rest_of
  rest_next i h = let z : 0 + 16 * i ≡ 16 * i = zero-add (16 * i) in ap (map seen_of) (places_next (placed 16 0 bytes) n i h) ∙ rw z

  rest_end : (i : ℕ) → n ≤ i → rest_of i ≡ []
  unfolding rest_of
  rest_end i h = ap (map seen_of) (places_end (placed 16 0 bytes) n i h)

  pub rest_step : (i : ℕ) (s : Step) → i < n → s ≡ seen_of (take (16 * i + 16 - 16 * i) (drop (16 * i) bytes)) → rest_of i ≡ s ∷ rest_of (i + 1)
  rest_step i s h e = let z : 16 * i + 16 - 16 * i ≡ 16 = omega arith in rest_next i h ∙ ap (λ (x : Step). x ∷ rest_of (i + 1)) (sym (rw z at e))

  -- ---- the first pass

  pub record Marking (pins : List ℕ) (i : ℕ) : Type 0 where
    pub within : i ≤ n
    pub long : length pins ≡ 20
    pub time : ℕ
    pub good : Good (2 ^ 48) time (rest_of i)
    pub left : start_of (steps_in bytes) ≡ foldl declared pins (rest_of i)

  module _ (ready : Ready bytes) where
    pub marking : Marking (replicate 20 5) 0
    marking = record { within = omega arith; long = refl; time = 0; good = subst (Good (2 ^ 48) 0) (sym all_rest) ready.good; left = ap (foldl declared (replicate 20 5)) (sym all_rest) }

  module _ (pins : List ℕ) (i : ℕ) (m : Marking pins i) where
    pub all_marked : n ≤ i → pins ≡ start_of (steps_in bytes)
    all_marked h = sym (m.left ∙ ap (foldl declared pins) (rest_end i h))

    module _ (s : Step) (h : i < n) (is : s ≡ seen_of (take (16 * i + 16 - 16 * i) (drop (16 * i) bytes))) where
      goods : (x : Step) → s ≡ x → Good (2 ^ 48) m.time (x ∷ rest_of (i + 1))
      goods x q = subst (Good (2 ^ 48) m.time) (rest_step i s h is ∙ ap (λ (y : Step). y ∷ rest_of (i + 1)) q) m.good

      pub marks_wait : (t : ℕ) → s ≡ Wait t → Marking pins (i + 1)
      unfolding declared
      marks_wait t e = record {
        within = omega arith;
        long = m.long;
        time = m.time + 25 * t;
        good = goods (Wait t) e;
        left = m.left ∙ ap (foldl declared pins) (rest_step i s h is ∙ ap (λ (x : Step). x ∷ rest_of (i + 1)) e);
      }

      module _ (e v : ℕ) (q : s ≡ Pins e v) where
        pub pins_encoder : e < 20
        pins_encoder = (goods (Pins e v) q).0

        pub marks_pins : Marking (set pins e 4) (i + 1)
        unfolding declared
        marks_pins = record {
          within = omega arith;
          long = length-set pins e 4 ∙ m.long;
          time = m.time;
          good = (goods (Pins e v) q).2;
          left = m.left ∙ ap (foldl declared pins) (rest_step i s h is ∙ ap (λ (x : Step). x ∷ rest_of (i + 1)) q);
        }

  -- ---- the second pass

  pub record Going (unknown out₀ : List ℕ) (from : ℕ) (out pins : List ℕ) (time : ℕ) (told : Bool) (at i : ℕ) : Type 0 where
    pub lines : List Line
    pub within : i ≤ n
    pub long : length pins ≡ 20
    pub good : Good (2 ^ 48) time (rest_of i)
    pub there : There pins (rest_of i)
    pub wrote : Put out₀ from (text_of lines) out at
    pub left : body_from false 0 unknown (steps_in bytes) ≡ lines ++ body_from told time pins (rest_of i)

  module _ (unknown out₀ : List ℕ) (from : ℕ) where
    pub begins : Ready bytes → unknown ≡ start_of (steps_in bytes) → Going unknown out₀ from out₀ unknown 0 false from 0
    unfolding text_of
    begins ready e = record {
      lines = [];
      within = omega arith;
      long = ap length e ∙ long_start (steps_in bytes);
      good = subst (Good (2 ^ 48) 0) (sym all_rest) ready.good;
      there = rw (e, all_rest) (there_start (steps_in bytes) (2 ^ 48) 0 ready.good);
      wrote = put_nothing out₀ from;
      left = ap (body_from false 0 unknown) (sym all_rest);
    }

    module _ (out pins : List ℕ) (time : ℕ) (told : Bool) (at i : ℕ) (g : Going unknown out₀ from out pins time told at i) where
      pub same_long : length out ≡ length out₀
      same_long = put_long out₀ out (text_of g.lines) from at g.wrote

      pub ends : n ≤ i → Put out₀ from (text_of (body_from false 0 unknown (steps_in bytes))) out at
      unfolding body_from
      ends h = subst (λ (ls : List Line). Put out₀ from (text_of ls) out at) (sym (g.left ∙ ap (λ (ss : List Step). g.lines ++ body_from told time pins ss) (rest_end i h) ∙ append-nil g.lines)) g.wrote

      module _ (s : Step) (h : i < n) (is : s ≡ seen_of (take (16 * i + 16 - 16 * i) (drop (16 * i) bytes))) where
        good_now : (x : Step) → s ≡ x → Good (2 ^ 48) time (x ∷ rest_of (i + 1))
        good_now x q = subst (Good (2 ^ 48) time) (rest_step i s h is ∙ ap (λ (y : Step). y ∷ rest_of (i + 1)) q) g.good

        module _ (t : ℕ) (e : s ≡ Wait t) where
          wait_small : time + 25 * t < 2 ^ 48
          wait_small = in_time (rest_of (i + 1)) (2 ^ 48) (time + 25 * t) (good_now (Wait t) e)

          pub ticks_fit : (a : ℕ) → a ≤ 25 → Fits w64 (a * t)
          ticks_fit a l = record { fits = omega (arith, wait_small, mul-le-mul_right t l) }

          pub time_fits : (a : ℕ) → a ≤ 25 → Fits w64 (time + a * t)
          time_fits a l = record { fits = omega (arith, wait_small, mul-le-mul_right t l) }

          pub goes_wait : Going unknown out₀ from out pins (time + 25 * t) (told && eqb t 0) at (i + 1)
          unfolding body_from
          goes_wait =
              let rest = rest_step i s h is ∙ ap (λ (x : Step). x ∷ rest_of (i + 1)) e in
              record {
                lines = g.lines;
                within = omega arith;
                long = g.long;
                good = good_now (Wait t) e;
                there = subst (There pins) rest g.there;
                wrote = g.wrote;
                left = g.left ∙ ap (λ (ss : List Step). g.lines ++ body_from told time pins ss) rest;
              }

        module _ (e v : ℕ) (q : s ≡ Pins e v) where
          pub going_encoder : e < 20
          going_encoder = (good_now (Pins e v) q).0

          pub going_value : v < 4
          going_value = (good_now (Pins e v) q).1

          pub value_fits : Fits w8 v
          value_fits = record { fits = omega (arith, going_value) }

          rest_pins : rest_of i ≡ Pins e v ∷ rest_of (i + 1)
          rest_pins = rest_step i s h is ∙ ap (λ (x : Step). x ∷ rest_of (i + 1)) q

          there_now : There pins (Pins e v ∷ rest_of (i + 1))
          there_now = subst (There pins) rest_pins g.there

          pub going_known : get_or pins e 0 < 5
          going_known = there_now.0

          pub goes_pins : (out' : List ℕ) (at' : ℕ) → Put out at (text_of (timed told time (changes_of e (get_or pins e 0) v))) out' at'
              → Going unknown out₀ from out' (set pins e v) time (told || not (eqb (get_or pins e 0) v)) at' (i + 1)
          unfolding body_from
          goes_pins out' at' y = record {
            lines = g.lines ++ timed told time (changes_of e (get_or pins e 0) v);
            within = omega arith;
            long = length-set pins e v ∙ g.long;
            good = (good_now (Pins e v) q).2;
            there = there_set (rest_of (i + 1)) pins e v (omega (arith, going_value)) there_now.1;
            wrote = rw text_append (put_then out₀ out out' (text_of g.lines) (text_of (timed told time (changes_of e (get_or pins e 0) v))) from at at' g.wrote y);
            left =
                g.left ∙ ap (λ (ss : List Step). g.lines ++ body_from told time pins ss) rest_pins
                ∙ sym (append_assoc g.lines (timed told time (changes_of e (get_or pins e 0) v)) (body_from (told || not (eqb (get_or pins e 0) v)) time (set pins e v) (rest_of (i + 1))));
          }

-- ---- the header and then the changes

pub dump_put : (steps : List Step) (pins o a b : List ℕ) (p q : ℕ) → pins ≡ start_of steps → Put o 0 (text_of (header_of pins pins)) a p
    → Put a p (text_of (body_from false 0 pins steps)) b q → Put o 0 (text_of (dump_of steps)) b q
unfolding dump_of
dump_put steps pins o a b p q e u v =
    subst (λ (l : List ℕ). Put o 0 (text_of (header_of l l ++ body_from false 0 l steps)) b q) e
    (rw text_append (put_then o a b (text_of (header_of pins pins)) (text_of (body_from false 0 pins steps)) 0 p q u v))
