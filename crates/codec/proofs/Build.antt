-- Codecs put together: one after the other, a further test, and a struct. And what a codec says of bytes from place 0 on.
-- Assumes nothing.
use mathlib.Core.Path.{◌≡◌, sym, ap, ◌∙◌, subst}
use mathlib.Core.Bool.{Bool, true, ◌&&◌}
use mathlib.Core.List.{List, ◌++◌}
use Prim.Native.Nat.{ℕ, ◌+◌, ◌≤◌}
use native.Mathlib.Omega.{arith}
use lib.ListN.{length, take, length-append}
use Rattle.laws.proofs.Truth.{both_true}
use Rattle.codec.specs.How.{Has, Bytes, Lawful}
use Rattle.codec.proofs.Has.{has_first, has_second, has_both, has_self, has_front, bytes_both}
use Rattle.codec.proofs.Many.{both}

-- one value, and then another
pub then_lawful : {X Y : Type 0} {w v : ℕ} {save : X → List ℕ} {save' : Y → List ℕ} {load : List ℕ → ℕ → X} {load' : List ℕ → ℕ → Y}
    {ok ok' : List ℕ → ℕ → Bool} {Fits : X → Type 0} {Fits' : Y → Type 0}
    → Lawful w save load ok Fits → Lawful v save' load' ok' Fits'
    → Lawful {X = X × Y} (w + v) (λ p. save p.0 ++ save' p.1) (λ s at. (load s at, load' s (at + w))) (λ s at. ok s at && ok' s (at + w)) (λ p. Fits p.0 × Fits' p.1)
then_lawful {w = w} {save = save} {save' = save'} {load = load} {load' = load'} l m = record {
  long = λ p f. omega (arith, length-append (save p.0) (save' p.1), l.long p.0 f.0, m.long p.1 f.1);
  bytes = λ p f. bytes_both (save p.0) (save' p.1) (l.bytes p.0 f.0) (m.bytes p.1 f.1);
  back = λ p f s at h i. (l.back p.0 f.0 s at (has_first s (save p.0) (save' p.1) at h) i, m.back p.1 f.1 s (at + w) (has_second s (save p.0) (save' p.1) at w (l.long p.0 f.0) h) i);
  passes = λ p f s at h. both _ _ (l.passes p.0 f.0 s at (has_first s (save p.0) (save' p.1) at h)) (m.passes p.1 f.1 s (at + w) (has_second s (save p.0) (save' p.1) at w (l.long p.0 f.0) h));
  image = λ s at b h.
      let k = both_true _ _ h in
      has_both s (save (load s at)) (save' (load' s (at + w))) at w (l.long _ (l.fits s at b k.0)) (l.image s at b k.0) (m.image s (at + w) b k.1);
  fits = λ s at b h.
      let k = both_true _ _ h in
      (l.fits s at b k.0, m.fits s (at + w) b k.1);
}

-- a further test of the value
pub such_lawful : {X : Type 0} {w : ℕ} {save : X → List ℕ} {load : List ℕ → ℕ → X} {ok : List ℕ → ℕ → Bool} {Fits : X → Type 0} (good : X → Bool)
    → Lawful w save load ok Fits → Lawful w save load (λ s at. ok s at && good (load s at)) (λ x. Fits x × (good x ≡ true))
such_lawful good l = record {
  long = λ x g. l.long x g.0;
  bytes = λ x g. l.bytes x g.0;
  back = λ x g s at h. l.back x g.0 s at h;
  passes = λ x g s at h. both _ _ (l.passes x g.0 s at h) (ap good (l.back x g.0 s at h) ∙ g.1);
  image = λ s at b h. l.image s at b (both_true _ _ h).0;
  fits = λ s at b h.
      let k = both_true _ _ h in
      (l.fits s at b k.0, k.1);
}

-- a value made of the parts that a codec is for, and its range by its own fields
pub struct_lawful : {X Y : Type 0} {w : ℕ} {save : Y → List ℕ} {load : List ℕ → ℕ → Y} {ok : List ℕ → ℕ → Bool} {Fits : Y → Type 0} {Ranges : X → Type 0}
    (parts : X → Y) (whole : Y → X) → ((x : X) → Ranges x → whole (parts x) ≡ x) → ((y : Y) → Fits y → parts (whole y) ≡ y)
    → ((x : X) → Ranges x → Fits (parts x)) → ((y : Y) → Fits y → Ranges (whole y)) → Lawful w save load ok Fits
    → Lawful w (λ x. save (parts x)) (λ s at. whole (load s at)) ok Ranges
struct_lawful {save = save} {load = load} {Fits = Fits} parts whole e f to from l = record {
  long = λ x g. l.long (parts x) (to x g);
  bytes = λ x g. l.bytes (parts x) (to x g);
  back = λ x g s at h. ap whole (l.back (parts x) (to x g) s at h) ∙ e x g;
  passes = λ x g s at h. l.passes (parts x) (to x g) s at h;
  image = λ s at b h. subst (λ y. Has s at (save y)) (sym (f (load s at) (l.fits s at b h))) (l.image s at b h);
  fits = λ s at b h. from (load s at) (l.fits s at b h);
}

-- bytes that begin with a value's
module _ {X : Type 0} {w : ℕ} {save : X → List ℕ} {load : List ℕ → ℕ → X} {ok : List ℕ → ℕ → Bool} {Fits : X → Type 0} (l : Lawful w save load ok Fits) where
  pub loads_back : (x : X) → Fits x → (rest : List ℕ) → load (save x ++ rest) 0 ≡ x
  loads_back x f rest = l.back x f (save x ++ rest) 0 (has_first (save x ++ rest) (save x) rest 0 (has_self (save x ++ rest)))

  pub passes_own : (x : X) → Fits x → (rest : List ℕ) → ok (save x ++ rest) 0 ≡ true
  passes_own x f rest = l.passes x f (save x ++ rest) 0 (has_first (save x ++ rest) (save x) rest 0 (has_self (save x ++ rest)))

  pub is_image : (s : List ℕ) → w ≤ length s → Bytes s → ok s 0 ≡ true → save (load s 0) ≡ take w s
  is_image s e b h =
      let long = l.long _ (l.fits s 0 b h) in
      has_front s (save (load s 0)) (omega (arith, long)) (l.image s 0 b h) ∙ ap (λ (n : ℕ). take n s) long
