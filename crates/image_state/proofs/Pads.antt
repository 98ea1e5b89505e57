-- The carried bytes in their sixteen: those past the ones that are held are 0.
-- Assumes nothing.
use mathlib.Core.Path.{◌≡◌, refl, sym, ap, ◌∙◌}
use mathlib.Core.Bool.{Bool, true, false, ◌||◌}
use mathlib.Core.List.{List, ◌++◌}
use Prim.Native.Nat.{ℕ, zero, suc, ◌+◌, ◌*◌, ◌-◌, ◌<◌, ◌≤◌}
use native.Mathlib.Omega.{arith}
use lib.ListN.{length, take, drop, get_or, replicate, length-drop, length-append, length-replicate, get_or-replicate, take-append-drop}
use lib.Seq.{ext_get_or, get_or-drop, length-take-le, take_at, get_or-append-add}
use lib.Dec.{ltb, eqb}
use borrow.Author.Tests.{lt-ltb, le-ltb, ltb-true, ltb-false, eqb-true}
use Rattle.numbers.specs.Bytes.{byte}
use Rattle.codec.specs.How.{load_many, ok_many}
use Rattle.codec.proofs.Each.{byte_many, many_each, each_many}
use Rattle.image_state.specs.How.{is_carried}

-- sixteen bytes whose held ones are at the front
abbrev pub padded : ℕ → List ℕ → Bool
padded held t = ok_many 1 (is_carried held) 16 t 0

abbrev pub filled : List ℕ → List ℕ
filled l = l ++ replicate (16 - length l) 0

-- the same test of the same bytes, at another place
same_below : (k a e f : ℕ) → k + f ≡ a + e → ltb k e ≡ ltb a f
same_below k a e f h = by (ltb k e) refl
  where
    by : (b : Bool) → ltb k e ≡ b → b ≡ ltb a f
    by true x = let l = ltb-true k e x in sym (lt-ltb a f (omega arith))
    by false x = let l = ltb-false k e x in sym (le-ltb a f (omega arith))

moved : (n k a e f : ℕ) (t s : List ℕ) → k + f ≡ a + e → ((j : ℕ) → j < n → byte t (k + j) ≡ byte s (a + j)) → ok_many 1 (is_carried e) n t k ≡ ok_many 1 (is_carried f) n s a
unfolding ok_many
moved zero k a e f t s h b = refl
moved (suc n) k a e f t s h b =
    let z : byte t k ≡ byte s a = first in
    rw (same_below k a e f h, z, moved n (k + 1) (a + 1) e f t s (omega arith) (λ j l. next j l))
  where
    first : byte t k ≡ byte s a
    first = let p : k + 0 ≡ k = omega arith in let q : a + 0 ≡ a = omega arith in rw (p, q) at (b 0 (omega arith))

    next : (j : ℕ) → j < n → byte t (k + 1 + j) ≡ byte s (a + 1 + j)
    next j l = let p : k + suc j ≡ k + 1 + j = omega arith in let q : a + suc j ≡ a + 1 + j = omega arith in rw (p, q) at (b (suc j) (omega arith))

pub padded_there : (held : ℕ) (s : List ℕ) → padded held (load_many 1 byte 16 s 16) ≡ ok_many 1 (is_carried (16 + held)) 16 s 16
padded_there held s = moved 16 0 16 held (16 + held) (load_many 1 byte 16 s 16) s (omega arith) (λ j l. let e : 0 + j ≡ j = omega arith in rw e (byte_many s 16 16 j l))

-- what is past the held ones is 0
zero_past : (held : ℕ) (t : List ℕ) → padded held t ≡ true → (j : ℕ) → held ≤ j → j < 16 → byte t j ≡ 0
zero_past held t h j l m =
    let e : 0 + 1 * j ≡ j = omega arith in
    let p : (ltb j held || eqb (byte t j) 0) ≡ true = rw e at (many_each 1 (is_carried held) t 16 0 h j m) in
    eqb-true (byte t j) 0 (rw (le-ltb j held l) at p)

pub zeros_past : (held : ℕ) (t : List ℕ) → length t ≡ 16 → held < 16 → padded held t ≡ true → drop held t ≡ replicate (16 - held) 0
zeros_past held t e h p =
    ext_get_or 0 (drop held t) (replicate (16 - held) 0) (length-drop held t ∙ rw (e, length-replicate {A = ℕ} (16 - held) 0)) by
  where
    by : (i : ℕ) → i < length (drop held t) → get_or (drop held t) i 0 ≡ get_or (replicate (16 - held) 0) i 0
    by i l =
        let m : i < 16 - held = rw (length-drop held t, e) at l in
        get_or-drop held t i 0 ∙ zero_past held t p (held + i) (omega arith) (omega arith) ∙ sym (get_or-replicate (16 - held) i 0 0 m)

pub filled_back : (held : ℕ) (t : List ℕ) → length t ≡ 16 → held < 16 → padded held t ≡ true → filled (take held t) ≡ t
filled_back held t e h p =
    let long : length (take held t) ≡ held = length-take-le held t (omega arith) in
    rw (long, ← zeros_past held t e h p) (take-append-drop held t)

pub filled_long : (l : List ℕ) → length l < 16 → length (filled l) ≡ 16
filled_long l h = omega (arith, length-append l (replicate (16 - length l) 0), length-replicate {A = ℕ} (16 - length l) 0)

pub filled_padded : (l : List ℕ) → length l < 16 → padded (length l) (filled l) ≡ true
filled_padded l h = each_many 1 (is_carried (length l)) (filled l) 16 0 (λ j m. let e : 0 + 1 * j ≡ j = omega arith in rw e (by j m (ltb j (length l)) refl))
  where
    by : (j : ℕ) → j < 16 → (b : Bool) → ltb j (length l) ≡ b → (ltb j (length l) || eqb (byte (filled l) j) 0) ≡ true
    by j m true x = rw x
    by j m false x =
        let k = ltb-false j (length l) x in
        let e : length l + (j - length l) ≡ j = omega arith in
        let z : byte (filled l) j ≡ 0 = ap (byte (filled l)) (sym e) ∙ get_or-append-add l (replicate (16 - length l) 0) (j - length l) 0 ∙ get_or-replicate (16 - length l) (j - length l) 0 0 (omega arith) in
        rw (x, z)

pub take_filled : (l : List ℕ) → take (length l) (filled l) ≡ l
take_filled l = take_at l (replicate (16 - length l) 0) (length l) refl
