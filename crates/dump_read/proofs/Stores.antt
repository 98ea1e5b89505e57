-- Entries stored one after the other. Assumes nothing.
use mathlib.Core.Path.{◌≡◌, refl, sym, ap, ◌∙◌, subst}
use mathlib.Core.Bool.{cond}
use mathlib.Core.List.{List, [], ◌∷◌, ◌++◌, append_assoc, append-nil, flatten}
use Prim.Native.Nat.{ℕ, suc, ◌+◌, ◌*◌, ◌≤◌, ◌<◌}
use native.Mathlib.Omega.{arith}
use native.Mathlib.Nat.{add-zero, add-suc, suc-add, zero-add}
use native.Mathlib.Numerals.{add-one}
use lib.Dec.{eqb}
use borrow.Author.Tests.{ne_eqb}
use lib.ListN.{length, take, get_or, set, length-append, length-map}
use lib.Seq.{sets, length-sets, take-suc, take_all, length-take-le}
use Rattle.std.proofs.lemmas.List.{get_or-map}
use Rattle.decimal.specs.Put.{Put}
use Rattle.vcd.specs.declared.Line.{Line}
use Rattle.vcd.specs.declared.Line.TheVariants.{Fixed, Var, Unknown, Time, Change, Other}
use Rattle.vcd.specs.declared.Channel.{Channel}
use Rattle.vcd.specs.Entries.{Entry, entries_at, entry_bytes}
use Rattle.vcd.specs.How.{Position, pins_of, changed_of, standing, told_before}
use Rattle.dump_read.specs.How.{bytes_of, Stored}

sets_append : (s t out : List ℕ) (at : ℕ) → sets (sets out at s) (at + length s) t ≡ sets out at (s ++ t)
sets_append [] t out at = rw add-zero
sets_append (a ∷ s) t out at = rw (add-suc, ← suc-add at (length s)) (sets_append s t (set out at a) (suc at))

pub bytes_append : (xs ys : List Entry) → bytes_of (xs ++ ys) ≡ bytes_of xs ++ bytes_of ys
unfolding flatten
bytes_append [] ys = refl
bytes_append (x ∷ xs) ys = rw (bytes_append xs ys) (sym (append_assoc (entry_bytes x) (bytes_of xs) (bytes_of ys)))

pub bytes_long : (xs : List Entry) → length (bytes_of xs) ≡ 16 * length xs
unfolding flatten
bytes_long [] = refl
bytes_long (x ∷ xs) = omega (arith, length-append (entry_bytes x) (bytes_of xs), bytes_long xs)

pub stored_none : (out : List ℕ) (n : ℕ) → Stored out n [] out n
unfolding flatten
stored_none out n = record { bytes = refl; number = sym (add-zero n) }

pub stored_then : (a b c : List ℕ) (xs ys : List Entry) (m n k : ℕ) → Stored a m xs b n → Stored b n ys c k → Stored a m (xs ++ ys) c k
stored_then a b c xs ys m n k x y = record {
  bytes =
      y.bytes
      ∙ ap (λ (l : List ℕ). sets l (16 * n) (bytes_of ys)) x.bytes
      ∙ ap (λ (j : ℕ). sets (sets a (16 * m) (bytes_of xs)) j (bytes_of ys)) (omega (arith, x.number, bytes_long xs))
      ∙ sets_append (bytes_of xs) (bytes_of ys) a (16 * m)
      ∙ ap (sets a (16 * m)) (sym (bytes_append xs ys));
  number = omega (arith, x.number, y.number, length-append xs ys);
}

pub stored_long : (a b : List ℕ) (xs : List Entry) (m n : ℕ) → Stored a m xs b n → length b ≡ length a
stored_long a b xs m n x = ap length x.bytes ∙ length-sets a (16 * m) (bytes_of xs)

-- ---- one encoder's entry

module _ (time e : ℕ) (x : Channel) (out : List ℕ) (n : ℕ) where
  pub entry_none : x.changed ≡ 0 → Stored out n (entries_at time e (x.pins ∷ []) (x.changed ∷ [])) out n
  unfolding entries_at
  entry_none q = rw q (stored_none out n)

  pub entry_some : (out' y : List ℕ) (k : ℕ) → (x.changed ≡ 0 → ⊥) → y ≡ entry_bytes (record { time = time; encoder = e; pins = x.pins }) → Put out (16 * n) y out' k
      → Stored out n (entries_at time e (x.pins ∷ []) (x.changed ∷ [])) out' (n + 1)
  unfolding entries_at flatten
  entry_some out' y k q is z = rw (ne_eqb x.changed 0 q) (record { bytes = z.bytes ∙ ap (sets out (16 * n)) (is ∙ sym (append-nil _)); number = refl })

-- ---- the encoders in turn

entries_snoc : (ps cs : List ℕ) (now k p c : ℕ) → length ps ≡ length cs
    → entries_at now k (ps ++ p ∷ []) (cs ++ c ∷ []) ≡ entries_at now k ps cs ++ entries_at now (k + length ps) (p ∷ []) (c ∷ [])
unfolding entries_at
entries_snoc [] [] now k p c l = rw add-zero
entries_snoc [] (d ∷ cs) now k p c l = absurd (omega arith)
entries_snoc (q ∷ ps) [] now k p c l = absurd (omega arith)
entries_snoc (q ∷ ps) (d ∷ cs) now k p c l =
    let e : k + suc (length ps) ≡ k + 1 + length ps = omega arith in
    rw (e, entries_snoc ps cs now (k + 1) p c (omega arith))
    (sym (append_assoc (cond (eqb d 0) [] (record { time = now; encoder = k; pins = q } ∷ [])) (entries_at now (k + 1) ps cs) (entries_at now (k + 1 + length ps) (p ∷ []) (c ∷ []))))

pub standing_none : (time count : ℕ) (out : List ℕ) → Stored out count (entries_at time 0 [] []) out count
unfolding entries_at
standing_none time count out = stored_none out count

module _ (time count : ℕ) (out mid : List ℕ) (xs : List Channel) (n e : ℕ)
    (x : Stored out count (entries_at time 0 (take e (pins_of xs)) (take e (changed_of xs))) mid n) (l : length xs ≡ 20) where
  long_pins : length (pins_of xs) ≡ 20
  long_pins = length-map xs (λ (y : Channel). y.pins) ∙ l

  long_changed : length (changed_of xs) ≡ 20
  long_changed = length-map xs (λ (y : Channel). y.changed) ∙ l

  pub standing_next : (out' : List ℕ) (k : ℕ) (d : Channel) → e < 20
      → Stored mid n (entries_at time e ((get_or xs e d).pins ∷ []) ((get_or xs e d).changed ∷ [])) out' k
      → Stored out count (entries_at time 0 (take (e + 1) (pins_of xs)) (take (e + 1) (changed_of xs))) out' k
  standing_next out' k d h y =
      let p = get_or-map (λ (z : Channel). z.pins) xs e d 0 (omega arith) in
      let q = get_or-map (λ (z : Channel). z.changed) xs e d 0 (omega arith) in
      let a = length-take-le e (pins_of xs) (omega (arith, long_pins)) in
      let b = length-take-le e (changed_of xs) (omega (arith, long_changed)) in
      let s = entries_snoc (take e (pins_of xs)) (take e (changed_of xs)) time 0 (get_or xs e d).pins ((get_or xs e d).changed) (a ∙ sym b) in
      let z : 0 + length (take e (pins_of xs)) ≡ e = zero-add (length (take e (pins_of xs))) ∙ a in
      rw (add-one e, take-suc (pins_of xs) e 0 (omega (arith, long_pins)), take-suc (changed_of xs) e 0 (omega (arith, long_changed)), p, q, s, z)
      (stored_then out mid out' (entries_at time 0 (take e (pins_of xs)) (take e (changed_of xs)))
      (entries_at time e ((get_or xs e d).pins ∷ []) ((get_or xs e d).changed ∷ [])) count n k x y)

  pub standing_done : 20 ≤ e → Stored out count (entries_at time 0 (pins_of xs) (changed_of xs)) mid n
  standing_done h =
      subst (λ (ps : List ℕ). Stored out count (entries_at time 0 ps (changed_of xs)) mid n) (take_all e (pins_of xs) (omega (arith, long_pins)))
      (subst (λ (cs : List ℕ). Stored out count (entries_at time 0 (take e (pins_of xs)) cs) mid n) (take_all e (changed_of xs) (omega (arith, long_changed))) x)

-- ---- before a line

module _ (r : Position) (l : Line) (a : List ℕ) (m : ℕ) where
  pub at_time : (b : List ℕ) (n t : ℕ) → l ≡ Time t → Stored a m (standing r) b n → Stored a m (told_before r l) b n
  unfolding told_before
  at_time b n t e x = rw e x

  -- nothing is told before another line
  pub quiet : ((t : ℕ) → l ≡ Time t → ⊥) → Stored a m (told_before r l) a m
  unfolding told_before
  quiet h = go l h
    where
      go : (k : Line) → ((t : ℕ) → k ≡ Time t → ⊥) → Stored a m (told_before r k) a m
      go (Fixed k) h = stored_none a m
      go (Var w) h = stored_none a m
      go (Unknown w) h = stored_none a m
      go (Time t) h = absurd (h t refl)
      go (Change w v) h = stored_none a m
      go Other h = stored_none a m
