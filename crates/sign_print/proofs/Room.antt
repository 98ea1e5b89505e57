-- How long the text can be. Assumes nothing.
use Rattle.std.proofs.Common.{◌≡◌, ℕ, zero, suc, ◌+◌, ◌-◌, ◌*◌, ◌^◌, ◌<◌, ◌≤◌, Bool, true, false, cond, eqb, ltb, List, [], ◌∷◌, ◌++◌, map, length, ℤ, pos, negsuc, ◌+ℤ◌, ◌-ℤ◌, neg_ℤ, nat_abs, refl, arith, length-append, ltb-true}
use mathlib.Core.List.{flatten}
use lib.IntN.{sub_ℕ}
use Rattle.decimal.specs.Ascii.{ascii}
use Rattle.decimal.specs.Digits.{digits_of}
use Rattle.decimal.proofs.Back.{few_digits, twenty_digits}
use Rattle.shaft.specs.Shaft.{forward, backward, still}
use Rattle.text.specs.Text.{stop_text}
use Rattle.sign_entry.specs.Entry.{Entry, Verdict, settled, unsettled, verdict_of}
use Rattle.sign.specs.Facts.{Each}
use Rattle.sign.proofs.Fine.{Fine}
use Rattle.sign_print.specs.Said.{plural, counted, signed, steps_text, place_text, sums_text, travel_text, verdict_text, stretch_text}

four : (n : ℕ) → n < 10000 → length (digits_of n) ≤ 4
four n h = few_digits n 3 (omega arith)

plural_long : (word : List ℕ) (n : ℕ) → length (plural word n) ≤ length word + 1
plural_long word n = omega (arith, length-append word (cond (eqb n 1) [] (115 ∷ [])), by (eqb n 1))
  where
    by : (t : Bool) → length {A = ℕ} (cond t [] (115 ∷ [])) ≤ 1
    by true = omega arith
    by false = omega arith

counted_long : (n : ℕ) (word : List ℕ) → n < 10000 → length (counted n word) ≤ length word + 5
counted_long n word h = omega (arith, length-append (digits_of n) (plural word n), four n h, plural_long word n)

signed_long : (z : ℤ) → nat_abs z < 10000 → length (signed z) ≤ 5
unfolding signed
signed_long (pos zero) h = omega arith
signed_long (pos (suc n)) h = omega (arith, four (suc n) h)
signed_long (negsuc n) h = omega (arith, four (suc n) h)

place_long : (k i f l : ℕ) → k < 10 → i < 10 → f < 10000 → l < 10000 → length (place_text k i f l) ≤ 38
unfolding place_text
place_long k i f l hk hi hf hl =
    let a = ascii "bank " ++ digits_of k in
    let b = a ++ ascii " encoder " ++ digits_of i in
    let c = b ++ ascii ": records " ++ digits_of f in
    omega (arith, length-append (c ++ ascii " to ") (digits_of l), length-append c (ascii " to "), length-append (b ++ ascii ": records ") (digits_of f), length-append b (ascii ": records "), length-append (a ++ ascii " encoder ") (digits_of i), length-append a (ascii " encoder "), length-append (ascii "bank ") (digits_of k), few_digits k 0 (omega arith), few_digits i 0 (omega arith), four f hf, four l hl)

sums_long : (n d : ℕ) (s : ℤ) → n < 10000 → d < 10000 → nat_abs s < 10000 → length (sums_text n s d) ≤ 45
unfolding sums_text
sums_long n d s hn hd hs =
    let a = ascii ", " ++ counted n (ascii " pin") in
    let b = a ++ steps_text s in
    omega (arith, length-append (b ++ ascii ", ") (counted d (ascii " double change")), length-append b (ascii ", "), length-append a (steps_text s), length-append (ascii ", ") (counted n (ascii " pin")), length-append (ascii ", " ++ signed s) (plural (ascii " step") (nat_abs s)), length-append (ascii ", ") (signed s), counted_long n (ascii " pin") hn, counted_long d (ascii " double change") hd, signed_long s hs, plural_long (ascii " step") (nat_abs s))

sub_size : (a b : ℕ) → nat_abs (sub_ℕ a b) ≤ a + b
sub_size a b = by (ltb a b) refl
  where
    by : (t : Bool) → ltb a b ≡ t → nat_abs (cond t (negsuc (b - suc a)) (pos (a - b))) ≤ a + b
    by true e = omega (arith, ltb-true a b e)
    by false e = omega arith

sum_size : (s t : ℤ) → nat_abs (s +ℤ t) ≤ nat_abs s + nat_abs t
sum_size (pos a) (pos b) = omega arith
sum_size (pos a) (negsuc b) = sub_size a (suc b)
sum_size (negsuc a) (pos b) = omega (arith, sub_size b (suc a))
sum_size (negsuc a) (negsuc b) = omega arith

neg_size : (n : ℕ) → nat_abs (neg_ℤ (pos n)) ≡ n
neg_size zero = refl
neg_size (suc n) = refl

travel_long : (s : ℤ) (d : ℕ) → nat_abs s < 2048 → d < 2048 → length (travel_text s d) ≤ 23
unfolding travel_text
travel_long s d hs hd =
    let least = signed (s -ℤ pos (2 * d)) in
    let most = signed (s +ℤ pos (2 * d)) in
    let p = signed_long (s -ℤ pos (2 * d)) (omega (arith, sum_size s (neg_ℤ (pos (2 * d))), neg_size (2 * d))) in
    let q = signed_long (s +ℤ pos (2 * d)) (omega (arith, sum_size s (pos (2 * d)))) in
    omega (arith, length-append (ascii ", travel " ++ least ++ ascii " to ") most, length-append (ascii ", travel " ++ least) (ascii " to "), length-append (ascii ", travel ") least)

verdict_long : (v : Verdict) (size d : ℕ) → d < 2048 → length (verdict_text v size d) ≤ 39
verdict_long (settled forward) size d h = omega arith
verdict_long (settled backward) size d h = omega arith
verdict_long (settled still) size d h = omega arith
verdict_long unsettled size d h =
    let n = 2 * d + 1 - size in
    omega (arith, length-append (ascii ": open, " ++ counted n (ascii " step")) (ascii " short of a direction"), length-append (ascii ": open, ") (counted n (ascii " step")), counted_long n (ascii " step") (omega arith))

line_long : (e : Entry) → Fine e → length (stretch_text e) ≤ 146
unfolding stretch_text
line_long e x =
    let s = e.steps in
    let d = e.doubles in
    let a = place_text e.bank e.encoder e.first e.last in
    let b = sums_text e.number s d in
    let t = travel_text s d in
    let v = verdict_text (verdict_of s d) (nat_abs s) d in
    let p : length a ≤ 38 = place_long e.bank e.encoder e.first e.last (omega (arith, x.bank)) x.encoder (omega (arith, x.first)) (omega (arith, x.last)) in
    let q : length b ≤ 45 = sums_long e.number d s (omega (arith, x.number)) (omega (arith, x.doubles)) (omega (arith, x.steps)) in
    let r : length t ≤ 23 = travel_long s d x.steps x.doubles in
    let w : length v ≤ 39 = verdict_long (verdict_of s d) (nat_abs s) d x.doubles in
    omega (arith, length-append (a ++ b ++ t ++ v) (10 ∷ []), length-append (a ++ b ++ t) v, length-append (a ++ b) t, length-append a b)

pub lines_long : (es : List Entry) → Each Fine es → length (flatten (map stretch_text es)) ≤ 146 * length es
unfolding flatten
lines_long [] h = omega arith
lines_long (e ∷ es) h = omega (arith, length-append (stretch_text e) (flatten (map stretch_text es)), line_long e h.0, lines_long es h.1)

pub stop_long : (k r : ℕ) → k < 2 ^ 64 → r < 2 ^ 64 → length (stop_text k r) ≤ 58
stop_long k r p q =
    let first = ascii "applied " ++ digits_of k in
    let second = first ++ (ascii " refused ") in
    omega (arith, length-append (second ++ digits_of r) (10 ∷ []), length-append second (digits_of r), length-append first (ascii " refused "), length-append (ascii "applied ") (digits_of k), twenty_digits k p, twenty_digits r q)
