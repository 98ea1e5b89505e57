-- The test of the code, and what it loads, by the images: bytes that pass begin with the image of the stream that they load to, and no others begin with an image.
-- Assumes nothing.
use mathlib.Core.Path.{◌≡◌, sym, ap, ◌∙◌, subst}
use mathlib.Core.Bool.{true}
use mathlib.Core.List.{List, ◌++◌}
use Prim.Native.Nat.{ℕ, ◌≤◌}
use native.Mathlib.Omega.{arith}
use lib.ListN.{length, take, drop, length-append, take-append-drop}
use Rattle.codec.specs.How.{Bytes}
use Rattle.codec.proofs.Build.{loads_back, passes_own, is_image}
use Rattle.live_state.specs.Live.{Live}
use Rattle.image_state.specs.Image.{image_of, Fits, Stands}
use Rattle.image_state.specs.How.{load_of, is_state}
use Rattle.image_state.proofs.Lawful.{stream_lawful}
use Rattle.image_state.proofs.Passing.{passed, passes, loads_same}
use Rattle.image_state.proofs.Laid.{words_laid}

module _ (l : Live) (f : Fits l) where
  pub image_long : length (image_of l) ≡ 864
  image_long = ap length (sym (words_laid l f)) ∙ stream_lawful.long l f

  pub image_bytes : Bytes (image_of l)
  image_bytes = subst Bytes (words_laid l f) (stream_lawful.bytes l f)

  module _ (rest : List ℕ) where
    long_with : 864 ≤ length (image_of l ++ rest)
    long_with = omega (arith, length-append (image_of l) rest, image_long)

    state_with : is_state (image_of l ++ rest) ≡ true
    state_with = passes (image_of l ++ rest) long_with (rw (words_laid l f) at (passes_own stream_lawful l f rest))

    pub back_with : load_of (image_of l ++ rest) ≡ l
    back_with =
        sym (loads_same (image_of l ++ rest) long_with (passed (image_of l ++ rest) state_with).held)
        ∙ (rw (words_laid l f) at (loads_back stream_lawful l f rest))

module _ (s : List ℕ) where
  pub stands : Bytes s → is_state s ≡ true → Stands s (load_of s)
  stands b h =
      let p = passed s h in
      let same = loads_same s p.long p.held in
      let f = stream_lawful.fits s 0 b p.okay in
      (subst Fits same f, subst (λ (l : Live). image_of l ≡ take 864 s) same (sym (words_laid _ f) ∙ is_image stream_lawful s p.long b p.okay))

  pub only_states : (l : Live) → Stands s l → is_state s ≡ true
  only_states l h = ap is_state (sym (ap (λ (t : List ℕ). t ++ drop 864 s) h.1 ∙ take-append-drop 864 s)) ∙ state_with l h.0 (drop 864 s)
