-- The way through a text, and what is answered. Assumes nothing.
use mathlib.Core.Path.{◌≡◌, refl, sym, ap, ◌∙◌, subst}
use mathlib.Core.Bool.{Bool, true, false, not, cond}
use mathlib.Core.List.{List, [], ◌∷◌, ◌++◌, foldl, append_assoc}
use Prim.Native.Nat.{ℕ, suc, ◌+◌, ◌-◌, ◌*◌, ◌/◌, ◌≤◌, ◌<◌}
use native.Mathlib.Omega.{arith}
use native.Mathlib.Nat.{zero-add}
use native.Mathlib.Numerals.{add-one}
use lib.Dec.{eqb}
use lib.ListN.{length, take, drop, get_or, length-drop, drop_of_length-le}
use lib.Seq.{drop-cons, take-suc, get_or-drop, length-take-le, sets-eq}
use borrow.Author.Tests.{not-true, not-false, eq-eqb, ne_eqb, le-ltb, eqb-true, eqb-false}
use Rattle.fold.specs.Output.{over}
use Rattle.vcd.specs.declared.Line.{Line}
use Rattle.vcd.specs.declared.Line.TheVariants.{Other}
use Rattle.vcd.specs.declared.Reader.{Reader}
use Rattle.vcd.specs.Entries.{Entry}
use Rattle.vcd.specs.How.{Position, position_of, line_of, lines_from, lines_of, refused, turn_of, opening, standing, told_before, told_from, whole, entries, refusal, told_by, read_of}
use Rattle.dump_read.specs.declared.Scan.{Scan}
use Rattle.dump_read.specs.Reading.{Answer}
use Rattle.dump_read.specs.How.{bytes_of, Stored}
use Rattle.dump_read.proofs.Stores.{bytes_long, stored_none, stored_then}
use Rattle.dump_read.proofs.Answers.{refusing, too_small, reading_all}

-- ---- the line from start to i is under way

abbrev pub rest_of : List ℕ → ℕ → ℕ → List Line
rest_of text start i = lines_from (take (i - start) (drop start text)) (drop i text)

module _ (text : List ℕ) (start i : ℕ) (o : start ≤ i) where
  module _ (h : i < length text) where
    here : drop i text ≡ get_or text i 0 ∷ drop (i + 1) text
    here = rw (add-one i) (drop-cons text i 0 h)

    longer : take (i - start) (drop start text) ++ (get_or text i 0 ∷ []) ≡ take (i + 1 - start) (drop start text)
    longer =
        let e : i + 1 - start ≡ suc (i - start) = omega arith in
        let f : start + (i - start) ≡ i = omega arith in
        sym (rw (e, take-suc (drop start text) (i - start) 0 (omega (arith, length-drop start text)), get_or-drop start text (i - start) 0, f))

    rest_on : (get_or text i 0 ≡ 10 → ⊥) → rest_of text start i ≡ rest_of text start (i + 1)
    unfolding lines_from
    rest_on n = rw (here, ne_eqb (get_or text i 0) 10 n, longer)

    rest_cut : get_or text i 0 ≡ 10 → rest_of text start i ≡ line_of (take (i - start) (drop start text)) ∷ rest_of text (i + 1) (i + 1)
    unfolding lines_from
    rest_cut e = let z : i + 1 - (i + 1) ≡ 0 = omega arith in rw (here, eq-eqb (get_or text i 0) 10 e, z)

  -- the end: nothing is left, or something that is no line
  rest_end : length text ≤ i → i ≤ length text → rest_of text start i ≡ cond (eqb start i) [] (Other ∷ [])
  unfolding lines_from
  rest_end h k = go (eqb start i) refl
    where
      long : length (take (i - start) (drop start text)) ≡ i - start
      long = length-take-le (i - start) (drop start text) (omega (arith, length-drop start text))

      cut : rest_of text start i ≡ cond (eqb (i - start) 0) [] (Other ∷ [])
      cut = rw (drop_of_length-le text {i = i} h, long)

      go : (x : Bool) → eqb start i ≡ x → rest_of text start i ≡ cond x [] (Other ∷ [])
      go true q = cut ∙ rw (eq-eqb (i - start) 0 (omega (arith, eqb-true start i q)))
      go false q = let n = eqb-false start i q in cut ∙ rw (ne_eqb (i - start) 0 (omega arith))

-- before the ith byte: what is told already, and what the rest will tell
pub record Reading (text out₀ out : List ℕ) (s : Scan) (start i : ℕ) : Type 0 where
  pub so_far : List Entry
  pub order : start ≤ i
  pub within : i ≤ length text
  pub turned : foldl turn_of opening (lines_of text) ≡ foldl turn_of (position_of s.reader) (rest_of text start i)
  pub told : told_from opening (lines_of text) ≡ so_far ++ told_from (position_of s.reader) (rest_of text start i)
  pub wrote : Stored out₀ 0 so_far out s.count
  pub near : s.count ≤ 20 * i

pub reading : (text out : List ℕ) (r : Reader) → position_of r ≡ opening → Reading text out out (record { reader = r; count = 0 }) 0 0
reading text out r e = record {
  so_far = [];
  order = omega arith;
  within = omega arith;
  turned = ap (λ (u : Position). foldl turn_of u (lines_of text)) (sym e);
  told = ap (λ (u : Position). told_from u (lines_of text)) (sym e);
  wrote = stored_none out 0;
  near = omega arith;
}

module _ (text out₀ out : List ℕ) (s : Scan) (start i : ℕ) (g : Reading text out₀ out s start i) where
  pub reads_on : i < length text → (get_or text i 0 ≡ 10 → ⊥) → Reading text out₀ out s start (i + 1)
  reads_on h n =
      let e = rest_on text start i g.order h n in
      record {
        so_far = g.so_far;
        order = omega (arith, g.order);
        within = omega arith;
        turned = g.turned ∙ ap (foldl turn_of (position_of s.reader)) e;
        told = g.told ∙ ap (λ (ls : List Line). g.so_far ++ told_from (position_of s.reader) ls) e;
        wrote = g.wrote;
        near = omega (arith, g.near);
      }

  pub reads_line : (q : Scan) (out' : List ℕ) → i < length text → get_or text i 0 ≡ 10 → (position_of q.reader) ≡ turn_of (position_of s.reader) (line_of (take (i - start) (drop start text)))
      → Stored out s.count (told_before (position_of s.reader) (line_of (take (i - start) (drop start text)))) out' q.count → q.count ≤ s.count + 20 → Reading text out₀ out' q (i + 1) (i + 1)
  unfolding told_from
  reads_line q out' h e f x k =
      let c = rest_cut text start i g.order h e in
      let l = line_of (take (i - start) (drop start text)) in
      let rest = rest_of text (i + 1) (i + 1) in
      record {
        so_far = g.so_far ++ told_before (position_of s.reader) l;
        order = omega arith;
        within = omega arith;
        turned = g.turned ∙ ap (foldl turn_of (position_of s.reader)) c ∙ ap (λ (u : Position). foldl turn_of u rest) (sym f);
        told =
            g.told ∙ ap (λ (ls : List Line). g.so_far ++ told_from (position_of s.reader) ls) c
            ∙ sym (append_assoc g.so_far (told_before (position_of s.reader) l) (told_from (turn_of (position_of s.reader) l) rest))
            ∙ ap (λ (u : Position). g.so_far ++ told_before (position_of s.reader) l ++ told_from u rest) (sym f);
        wrote = stored_then out₀ out out' g.so_far (told_before (position_of s.reader) l) 0 s.count q.count g.wrote x;
        near = omega (arith, g.near);
      }

  module _ (end : length text ≤ i) where
    last_lines : rest_of text start i ≡ cond (eqb start i) [] (Other ∷ [])
    last_lines = rest_end text start i g.order end g.within

    last_turn : (t : Bool) → foldl turn_of (position_of s.reader) (cond t [] (Other ∷ [])) ≡ cond t (position_of s.reader) (refused (position_of s.reader))
    unfolding turn_of
    last_turn true = refl
    last_turn false = refl

    last_told : (t : Bool) → told_from (position_of s.reader) (cond t [] (Other ∷ [])) ≡ standing (position_of s.reader)
    unfolding told_from told_before turn_of
    last_told true = refl
    last_told false = refl

    pub read_turned : (q : Position) → q ≡ cond (eqb start (length text)) (position_of s.reader) (refused (position_of s.reader)) → q ≡ foldl turn_of opening (lines_of text)
    read_turned q e =
        let n : length text ≡ i = omega (arith, g.within) in
        (rw n at e) ∙ sym (g.turned ∙ ap (foldl turn_of (position_of s.reader)) last_lines ∙ last_turn (eqb start i))

    module _ (out' : List ℕ) (count : ℕ) (x : Stored out s.count (standing (position_of s.reader)) out' count) where
      pub read_told : Stored out₀ 0 (told_from opening (lines_of text)) out' count
      read_told =
          subst (λ (xs : List Entry). Stored out₀ 0 xs out' count)
          (sym (g.told ∙ ap (λ (ls : List Line). g.so_far ++ told_from (position_of s.reader) ls) last_lines ∙ ap (λ (xs : List Entry). g.so_far ++ xs) (last_told (eqb start i))))
          (stored_then out₀ out out' g.so_far (standing (position_of s.reader)) 0 s.count count g.wrote x)

-- ---- the whole

module _ (text out : List ℕ) where
  module _ (fits : length text ≤ 25207) (s : Scan) (is : position_of s.reader ≡ foldl turn_of opening (lines_of text)) (t : Bool) (w : t ≡ whole (position_of s.reader)) where
    abbrev xs : List Entry
    xs = told_from opening (lines_of text)

    as_told : read_of text ≡ cond t (entries xs) refusal
    unfolding read_of told_by
    as_told = rw (le-ltb 25207 (length text) fits) (ap (λ (b : Bool). cond b (entries xs) refusal) (ap whole (sym is) ∙ sym w))

    pub bad_answer : not t ≡ true → Answer text out 20 0 out
    bad_answer q = refusing text out (as_told ∙ ap (λ (b : Bool). cond b (entries xs) refusal) (not-true t q))

    module _ (yes : not t ≡ false) (none none' : List ℕ) (y : Stored none 0 xs none' s.count) where
      tells : read_of text ≡ entries xs
      tells = as_told ∙ ap (λ (b : Bool). cond b (entries xs) refusal) (not-false t yes)

      counted : s.count ≡ length xs
      counted = y.number ∙ zero-add (length xs)

      pub small_answer : length out / 16 < s.count → Answer text out 6 0 out
      small_answer h = too_small text out xs tells (omega (arith, counted))

      module _ (h : s.count ≤ length out / 16) (out' : List ℕ) (count : ℕ) (z : Stored out 0 xs out' count) where
        enough : 16 * length xs ≤ length out
        enough = omega (arith, counted)

        over_front : out' ≡ over (bytes_of xs) out
        unfolding over
        over_front =
            z.bytes ∙ sets-eq (bytes_of xs) out 0 (omega (arith, bytes_long xs, enough))
            ∙ ap (λ (k : ℕ). bytes_of xs ++ drop k out) (zero-add (length (bytes_of xs)))

        pub whole_answer : Answer text out 0 count out'
        whole_answer = reading_all text out xs tells count out' enough (z.number ∙ zero-add (length xs)) over_front
