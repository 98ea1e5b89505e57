-- The line that is spelt from an entry's bytes is the entry's. Assumes nothing.
use Rattle.std.proofs.Common.{◌≡◌, ℕ, zero, suc, ◌+◌, ◌-◌, ◌*◌, ◌/◌, ◌%◌, ◌<◌, Bool, true, false, cond, ltb, List, [], ◌∷◌, ◌++◌, map, length, get_or, take, drop, ℤ, pos, negsuc, ◌+ℤ◌, ◌-ℤ◌, nat_abs, sym, refl, ap, ◌∙◌, append_assoc, append-nil, add-zero, add-one, arith, length-append, length-take-le, take-suc, ltb-false, ltb-true, le-ltb, lt-ltb, ne_eqb}
use mathlib.Core.List.{flatten}
use lib.IntN.{sub_ℕ}
use lib.Seq.{split_at}
use Rattle.decimal.specs.Ascii.{ascii}
use Rattle.decimal.specs.Digits.{digits_of}
use Rattle.decimal.proofs.Back.{digits_small}
use Rattle.form.specs.Form.{sign_of, plural_of, form_text}
use Rattle.fold.specs.Output.{over}
use Rattle.shaft.specs.Shaft.{forward, backward, still}
use Rattle.text.specs.Text.{line}
use Rattle.numbers.specs.Bytes.{le_of, le_bytes}
use Rattle.sign_entry.specs.Entry.{Entry, entry_bytes, listing, complement, Verdict, settled, unsettled, verdict_of, verdict_number}
use Rattle.sign.specs.Facts.{Each}
use Rattle.sign.proofs.Fine.{Fine}
use Rattle.sign_entry.proofs.Bytes.{below}
use Rattle.sign.proofs.Listing.{length_concat, concat_more, entry_long}
use Rattle.sign.proofs.Adding.{eight}
use Rattle.sign.proofs.Settling.{few_verdicts, each_at}
use Rattle.sign_print.specs.Said.{plural, counted, signed, place_text, sums_text, travel_text, verdict_text, stretch_text}
use Rattle.sign_print.specs.How.{whole_of, stretch_form, numbers_by, numbered_text, spelt, spelt_at, There}

-- ---- an entry's four numbers

numbered : (v : Verdict) (size d : ℕ) → numbered_text (verdict_number v) size d ≡ verdict_text v size d
unfolding numbered_text
numbered (settled forward) size d = refl
numbered (settled backward) size d = refl
numbered (settled still) size d = refl
numbered unsettled size d = refl

-- two's complement gives the number back, and what is m more or less
up : (n : ℕ) → n < 9223372036854775808 → whole_of n ≡ pos n
unfolding whole_of
up n h = rw (lt-ltb n 9223372036854775808 h)

down : (n : ℕ) → n < 9223372036854775808 → whole_of (18446744073709551615 - n) ≡ negsuc n
unfolding whole_of
down n h =
    let e : 18446744073709551615 - (18446744073709551615 - n) ≡ n = omega arith in
    rw (le-ltb (18446744073709551615 - n) 9223372036854775808 (omega arith), e)

difference : (r a b : ℕ) → r < 18446744073709551616 → a < 9223372036854775808 → b < 9223372036854775808 → (r + b) % 18446744073709551616 ≡ a → whole_of r ≡ sub_ℕ a b
difference r a b h k l e = by (ltb a b) refl
  where
    by : (t : Bool) → ltb a b ≡ t → whole_of r ≡ cond t (negsuc (b - suc a)) (pos (a - b))
    by true f =
        let g : r ≡ 18446744073709551615 - (b - suc a) = omega (arith, ltb-true a b f) in
        ap whole_of g ∙ down (b - suc a) (omega arith)
    by false f =
        let g : r ≡ a - b = omega (arith, ltb-false a b f) in
        ap whole_of g ∙ up (a - b) (omega arith)

whole : (z : ℤ) → nat_abs z < 2048 → whole_of (complement z) ≡ z
whole (pos n) h = let e : n % 18446744073709551616 ≡ n = omega arith in ap whole_of e ∙ up n (omega arith)
whole (negsuc n) h = let e : n % 18446744073709551616 ≡ n = omega arith in ap (λ (k : ℕ). whole_of (18446744073709551615 - k)) e ∙ down n (omega arith)

module _ (m : ℕ) (few : m < 4096) where
  less : (z : ℤ) → nat_abs z < 2048 → whole_of ((complement z + 18446744073709551616 - m) % 18446744073709551616) ≡ z -ℤ pos m
  less (pos n) h = by m few
    where
      by : (k : ℕ) → k < 4096 → whole_of ((n % 18446744073709551616 + 18446744073709551616 - k) % 18446744073709551616) ≡ pos n -ℤ pos k
      by zero l = let e : (n % 18446744073709551616 + 18446744073709551616 - 0) % 18446744073709551616 ≡ n + 0 = omega arith in ap whole_of e ∙ up (n + 0) (omega arith)
      by (suc k) l = difference _ n (suc k) (omega arith) (omega arith) (omega arith) (omega arith)
  less (negsuc n) h = by m few
    where
      by : (k : ℕ) → k < 4096 → whole_of ((18446744073709551615 - n % 18446744073709551616 + 18446744073709551616 - k) % 18446744073709551616) ≡ negsuc n -ℤ pos k
      by zero l = difference _ 0 (suc n) (omega arith) (omega arith) (omega arith) (omega arith)
      by (suc k) l =
          let e : (18446744073709551615 - n % 18446744073709551616 + 18446744073709551616 - suc k) % 18446744073709551616 ≡ 18446744073709551615 - suc (n + k) = omega arith in
          ap whole_of e ∙ down (suc (n + k)) (omega arith)

  further : (z : ℤ) → nat_abs z < 2048 → whole_of ((complement z + m) % 18446744073709551616) ≡ z +ℤ pos m
  further (pos n) h = let e : (n % 18446744073709551616 + m) % 18446744073709551616 ≡ n + m = omega arith in ap whole_of e ∙ up (n + m) (omega arith)
  further (negsuc n) h = difference _ m (suc n) (omega arith) (omega arith) (omega arith) (omega arith)

-- the sign and the size are the number
signed_is : (n : ℕ) → sign_of n ++ digits_of (nat_abs (whole_of n)) ≡ signed (whole_of n)
unfolding sign_of whole_of signed
signed_is zero = digits_small 0 (omega arith)
signed_is (suc n) = rw (ne_eqb (suc n) 0 (λ e. omega arith)) (by (ltb (suc n) 9223372036854775808))
  where
    by : (t : Bool) → cond t (43 ∷ []) (45 ∷ []) ++ digits_of (nat_abs (cond t (pos (suc n)) (negsuc (18446744073709551615 - suc n)))) ≡ signed (cond t (pos (suc n)) (negsuc (18446744073709551615 - suc n)))
    by true = refl
    by false = refl

-- the form filled in
grouped : (a b c d e f g h i j k l m n o p q r s t u v w x : List ℕ)
    → a ++ (b ++ (c ++ (d ++ (e ++ (f ++ (g ++ (h ++ (i ++ (j ++ (k ++ (l ++ (i ++ (m ++ (n ++ (o ++ (p ++ (i ++ (q ++ (r ++ (s ++ (t ++ (u ++ (v ++ (g ++ (w ++ (x ++ []))))))))))))))))))))))))))
    ≡ (a ++ b ++ c ++ d ++ e ++ f ++ g ++ h) ++ (i ++ (j ++ (k ++ l)) ++ (i ++ (m ++ n) ++ (o ++ p)) ++ i ++ (q ++ (r ++ s))) ++ (t ++ (u ++ v) ++ g ++ (w ++ x))
grouped a b c d e f g h i j k l m n o p q r s t u v w x = simp (append_assoc, append-nil)

form_is : (b i f l n s d least most : ℕ) → form_text stretch_form (numbers_by b i f l n s d least most)
    ≡ place_text b i f l ++ (ascii ", " ++ counted n (ascii " pin") ++ (ascii ", " ++ signed (whole_of s) ++ plural (ascii " step") (nat_abs (whole_of s))) ++ ascii ", " ++ counted d (ascii " double change")) ++ (ascii ", travel " ++ signed (whole_of least) ++ ascii " to " ++ signed (whole_of most))
unfolding form_text place_text
form_is b i f l n s d least most =
    let z : ℕ → List ℕ = λ (k : ℕ). digits_of (nat_abs (whole_of k)) in
    grouped (ascii "bank ") (digits_of b) (ascii " encoder ") (digits_of i) (ascii ": records ") (digits_of f) (ascii " to ") (digits_of l) (ascii ", ") (digits_of n) (ascii " pin") (plural_of n) (sign_of s) (z s) (ascii " step") (plural_of (nat_abs (whole_of s))) (digits_of d) (ascii " double change") (plural_of d) (ascii ", travel ") (sign_of least) (z least) (sign_of most) (z most)
    ∙ rw (signed_is s, signed_is least, signed_is most)

spelt_by : (n x b i v f l m d s : ℕ) → n % 256 ≡ b → n / 256 % 256 ≡ i → n / 65536 % 4 ≡ v → n / 4294967296 ≡ f → x % 4294967296 ≡ l → x / 4294967296 ≡ m
    → spelt n x s d ≡ form_text stretch_form (numbers_by b i f l m s d ((s + 18446744073709551616 - 2 * d) % 18446744073709551616) ((s + 2 * d) % 18446744073709551616)) ++ line (numbered_text v (nat_abs (whole_of s)) d)
unfolding spelt
spelt_by n x b i v f l m d s eb ei ev ef el em = rw (eb, ei, ev, ef, el, em)

module _ (e : Entry) (small : Fine e) where
  abbrev verdict : Verdict
  verdict = verdict_of e.steps e.doubles

  abbrev names : ℕ
  names = e.bank + 256 * e.encoder + 65536 * verdict_number verdict + 4294967296 * e.first

  abbrev span : ℕ
  span = e.last + 4294967296 * e.number

  spelt_is : spelt names span (complement e.steps) e.doubles ≡ stretch_text e
  unfolding stretch_text sums_text travel_text
  spelt_is =
      let v = few_verdicts verdict in
      let z = e.steps in
      let d = e.doubles in
      spelt_by names span e.bank e.encoder (verdict_number verdict) e.first e.last e.number d (complement z) (omega arith) (omega arith) (omega arith) (omega arith) (omega arith) (omega arith)
      ∙ ap (λ (l : List ℕ). l ++ line (numbered_text (verdict_number verdict) (nat_abs (whole_of (complement z))) d)) (form_is e.bank e.encoder e.first e.last e.number (complement z) d _ _)
      ∙ rw (whole z small.steps, less (2 * d) (omega (arith, small.doubles)) z small.steps, further (2 * d) (omega (arith, small.doubles)) z small.steps, numbered verdict (nat_abs z) d)
      (sym (append_assoc (place_text e.bank e.encoder e.first e.last ++ sums_text e.number z d ++ travel_text z d) (verdict_text verdict (nat_abs z) d) (10 ∷ [])))

  -- behind other bytes
  module _ (a rest : List ℕ) (at : ℕ) (is : at ≡ length a) where
    w1 : List ℕ
    w1 = le_bytes 8 names

    w2 : List ℕ
    w2 = w1 ++ le_bytes 8 span

    w3 : List ℕ
    unfolding w1 w2
    w3 = w2 ++ le_bytes 8 (complement e.steps)

    last : le_of 8 (a ++ (entry_bytes e ++ rest)) (at + 24) ≡ e.doubles
    unfolding entry_bytes w1 w2 w3
    last = eight a w3 rest at e.doubles is (omega (arith, small.doubles))

    spelt_there : spelt_at (a ++ (entry_bytes e ++ rest)) at ≡ stretch_text e
    unfolding entry_bytes w1 w2 w3
    spelt_there =
        let v = few_verdicts verdict in
        let z : at + 0 ≡ at = add-zero at in
        let p : le_of 8 (a ++ (entry_bytes e ++ rest)) (at + 0) ≡ names = eight a [] _ at names is (omega arith) in
        let q : le_of 8 (a ++ (entry_bytes e ++ rest)) (at + 8) ≡ span = eight a w1 _ at span is (omega arith) in
        let r : le_of 8 (a ++ (entry_bytes e ++ rest)) (at + 16) ≡ complement e.steps = eight a w2 _ at (complement e.steps) is (below e.steps) in
        ap (λ (n : ℕ). spelt n (le_of 8 (a ++ (entry_bytes e ++ rest)) (at + 8)) (le_of 8 (a ++ (entry_bytes e ++ rest)) (at + 16)) (le_of 8 (a ++ (entry_bytes e ++ rest)) (at + 24))) (sym (ap (le_of 8 (a ++ (entry_bytes e ++ rest))) z) ∙ p)
        ∙ ap (λ (n : ℕ). spelt names n (le_of 8 (a ++ (entry_bytes e ++ rest)) (at + 16)) (le_of 8 (a ++ (entry_bytes e ++ rest)) (at + 24))) q
        ∙ ap (λ (n : ℕ). spelt names span n (le_of 8 (a ++ (entry_bytes e ++ rest)) (at + 24))) r
        ∙ ap (spelt names span (complement e.steps)) last
        ∙ spelt_is

-- ---- the entries in a row

none : Entry
none = record { bank = 0; encoder = 0; first = 0; last = 0; number = 0; steps = pos 0; doubles = 0 }

text_more : (es fs : List Entry) → flatten (map stretch_text (es ++ fs)) ≡ flatten (map stretch_text es) ++ flatten (map stretch_text fs)
unfolding flatten
text_more [] fs = refl
text_more (e ∷ es) fs = ap (λ (l : List ℕ). stretch_text e ++ l) (text_more es fs) ∙ sym (append_assoc (stretch_text e) (flatten (map stretch_text es)) (flatten (map stretch_text fs)))

module _ (es : List Entry) (small : Each Fine es) (out s : List ℕ) (is : s ≡ listing es out) (i : ℕ) (h : i < length es) where
  abbrev e : Entry
  e = get_or es i none

  abbrev front : List ℕ
  front = flatten (map entry_bytes (take i es))

  abbrev behind : List ℕ
  behind = flatten (map entry_bytes (drop (suc i) es)) ++ drop (length (flatten (map entry_bytes es))) out

  one : flatten (map entry_bytes es) ≡ front ++ (entry_bytes e ++ flatten (map entry_bytes (drop (suc i) es)))
  unfolding flatten
  one =
      ap (λ (l : List Entry). flatten (map entry_bytes l)) (split_at es i none h)
      ∙ concat_more entry_bytes entry_long (take i es) (e ∷ drop (suc i) es)

  stands : s ≡ front ++ (entry_bytes e ++ behind)
  unfolding listing over
  stands =
      is
      ∙ ap (λ (l : List ℕ). l ++ drop (length (flatten (map entry_bytes es))) out) one
      ∙ append_assoc front (entry_bytes e ++ flatten (map entry_bytes (drop (suc i) es))) (drop (length (flatten (map entry_bytes es))) out)
      ∙ ap (λ (l : List ℕ). front ++ l) (append_assoc (entry_bytes e) (flatten (map entry_bytes (drop (suc i) es))) (drop (length (flatten (map entry_bytes es))) out))

  place : 32 * i ≡ length front
  place = omega (arith, length_concat entry_bytes entry_long (take i es), length-take-le i es (omega arith))

  pub entry_there : There s (32 * i)
  entry_there = record {
    within = omega (arith, place, ap length stands, length-append front (entry_bytes e ++ behind), length-append (entry_bytes e) behind, entry_long e);
    doubles = rw stands (rw (last e (each_at Fine none es i small h) front behind (32 * i) place) (omega (arith, (each_at Fine none es i small h).doubles)));
  }

  pub one_more : flatten (map stretch_text (take (i + 1) es)) ≡ flatten (map stretch_text (take i es)) ++ spelt_at s (32 * i)
  unfolding flatten
  one_more =
      rw (add-one i, take-suc es i none h)
      (text_more (take i es) (e ∷ [])
      ∙ ap (λ (l : List ℕ). flatten (map stretch_text (take i es)) ++ l) (append-nil (stretch_text e) ∙ sym (spelt_there e (each_at Fine none es i small h) front behind (32 * i) place) ∙ ap (λ (l : List ℕ). spelt_at l (32 * i)) (sym stands)))
