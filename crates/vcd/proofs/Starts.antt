-- The encoders that have a wire. Assumes nothing.
use mathlib.Core.Path.{◌≡◌, refl, sym, ap, ◌∙◌, subst}
use mathlib.Core.Bool.{Bool, true, false, cond}
use mathlib.Core.List.{List, [], ◌∷◌, ◌++◌, foldl, foldl-append}
use Prim.Native.Nat.{ℕ, zero, suc, ◌+◌, ◌*◌, ◌≤◌, ◌<◌}
use native.Mathlib.Omega.{arith}
use lib.Dec.{eqb}
use lib.ListN.{length, get_or, set, replicate, length-set, length-append}
use lib.Seq.{append_snoc, get_or_at, set_at, get_or-set_same, set-get_or}
use borrow.Author.Tests.{eqb-true, eqb-false}
use Rattle.vcd.specs.declared.Step.{Step}
use Rattle.vcd.specs.declared.Step.TheVariants.{Wait, Pins}
use Rattle.vcd.specs.Dump.{declared, start_of, Good}

-- ---- at the start each is unknown or has no wire

abbrev pub Fresh : List ℕ → Type 0
Fresh [] = Unit {0}
Fresh (x ∷ xs) = ((4 ≤ x) × (x ≤ 5)) × Fresh xs

fresh_set : (l : List ℕ) (i : ℕ) → Fresh l → Fresh (set l i 4)
fresh_set [] i h = tt
fresh_set (x ∷ l) zero h = (omega arith, h.1)
fresh_set (x ∷ l) (suc i) h = (h.0, fresh_set l i h.1)

fresh_declared : (ss : List Step) (l : List ℕ) → Fresh l → Fresh (foldl declared l ss)
unfolding declared
fresh_declared [] l h = h
fresh_declared (Wait t ∷ ss) l h = fresh_declared ss l h
fresh_declared (Pins e v ∷ ss) l h = fresh_declared ss (set l e 4) (fresh_set l e h)

fresh_none : (n : ℕ) → Fresh (replicate n 5)
fresh_none zero = tt
fresh_none (suc n) = (omega arith, fresh_none n)

pub fresh_start : (ss : List Step) → Fresh (start_of ss)
fresh_start ss = fresh_declared ss (replicate 20 5) (fresh_none 20)

pub long_declared : (ss : List Step) (l : List ℕ) → length (foldl declared l ss) ≡ length l
unfolding declared
long_declared [] l = refl
long_declared (Wait t ∷ ss) l = long_declared ss l
long_declared (Pins e v ∷ ss) l = long_declared ss (set l e 4) ∙ length-set l e 4

pub long_start : (ss : List Step) → length (start_of ss) ≡ 20
long_start ss = long_declared ss (replicate 20 5)

-- ---- the encoder of every pins record has one

low_set : (l : List ℕ) (i j b : ℕ) → b < 5 → get_or l j 0 < 5 → get_or (set l i b) j 0 < 5
low_set [] i j b h k = k
low_set (x ∷ l) zero zero b h k = h
low_set (x ∷ l) zero (suc j) b h k = k
low_set (x ∷ l) (suc i) zero b h k = k
low_set (x ∷ l) (suc i) (suc j) b h k = low_set l i j b h k

abbrev pub There : List ℕ → List Step → Type 0
There pins [] = Unit {0}
There pins (Wait t ∷ ss) = There pins ss
There pins (Pins e v ∷ ss) = (get_or pins e 0 < 5) × There pins ss

pub there_set : (ss : List Step) (pins : List ℕ) (e v : ℕ) → v < 5 → There pins ss → There (set pins e v) ss
there_set [] pins e v h t = tt
there_set (Wait k ∷ ss) pins e v h t = there_set ss pins e v h t
there_set (Pins i u ∷ ss) pins e v h t = (low_set pins e i v h t.0, there_set ss pins e v h t.1)

low_unset : (l : List ℕ) (i j b : ℕ) → get_or l i 0 < 5 → get_or (set l i b) j 0 < 5 → get_or l j 0 < 5
low_unset [] i j b h k = k
low_unset (x ∷ l) zero zero b h k = h
low_unset (x ∷ l) zero (suc j) b h k = k
low_unset (x ∷ l) (suc i) zero b h k = k
low_unset (x ∷ l) (suc i) (suc j) b h k = low_unset l i j b h k

pub there_unset : (ss : List Step) (pins : List ℕ) (e v : ℕ) → get_or pins e 0 < 5 → There (set pins e v) ss → There pins ss
there_unset [] pins e v h t = tt
there_unset (Wait k ∷ ss) pins e v h t = there_unset ss pins e v h t
there_unset (Pins i u ∷ ss) pins e v h t = (low_unset pins e i v h t.0, there_unset ss pins e v h t.1)

low_declared : (ss : List Step) (l : List ℕ) (j : ℕ) → get_or l j 0 < 5 → get_or (foldl declared l ss) j 0 < 5
unfolding declared
low_declared [] l j h = h
low_declared (Wait t ∷ ss) l j h = low_declared ss l j h
low_declared (Pins e v ∷ ss) l j h = low_declared ss (set l e 4) j (low_set l e j 4 (omega arith) h)

pub there_declared : (ss : List Step) (l : List ℕ) (end now : ℕ) → Good end now ss → length l ≡ 20 → There (foldl declared l ss) ss
unfolding declared
there_declared [] l end now h k = tt
there_declared (Wait t ∷ ss) l end now h k = there_declared ss l end (now + 25 * t) h k
there_declared (Pins e v ∷ ss) l end now h k =
    let p : get_or (set l e 4) e 0 ≡ 4 = get_or-set_same l e 4 0 (omega (arith, h.0)) in
    (low_declared ss (set l e 4) e (omega arith), there_declared ss (set l e 4) end now h.2 (length-set l e 4 ∙ k))

pub there_start : (ss : List Step) (end now : ℕ) → Good end now ss → There (start_of ss) ss
there_start ss end now h = there_declared ss (replicate 20 5) end now h refl

-- ---- more steps declare no less

-- where xs has a wire ys has one that is unknown
abbrev pub Under : List ℕ → List ℕ → Type 0
Under [] ys = Unit {0}
Under (x ∷ xs) [] = Unit {0}
Under (x ∷ xs) (y ∷ ys) = ((x ≡ 5 → ⊥) → y ≡ 4) × Under xs ys

under_both : (xs ys : List ℕ) (i : ℕ) → Under xs ys → Under (set xs i 4) (set ys i 4)
under_both [] ys i h = tt
under_both (x ∷ xs) [] zero h = tt
under_both (x ∷ xs) [] (suc i) h = tt
under_both (x ∷ xs) (y ∷ ys) zero h = (λ n. refl, h.1)
under_both (x ∷ xs) (y ∷ ys) (suc i) h = (h.0, under_both xs ys i h.1)

under_right : (xs ys : List ℕ) (i : ℕ) → Under xs ys → Under xs (set ys i 4)
under_right [] ys i h = tt
under_right (x ∷ xs) [] i h = tt
under_right (x ∷ xs) (y ∷ ys) zero h = (λ n. refl, h.1)
under_right (x ∷ xs) (y ∷ ys) (suc i) h = (h.0, under_right xs ys i h.1)

under_none : (n : ℕ) (ys : List ℕ) → Under (replicate n 5) ys
under_none zero ys = tt
under_none (suc n) [] = tt
under_none (suc n) (y ∷ ys) = (λ m. absurd (m refl), under_none n ys)

under_declared : (ss : List Step) (xs ys : List ℕ) → Under xs ys → Under (foldl declared xs ss) (foldl declared ys ss)
unfolding declared
under_declared [] xs ys h = h
under_declared (Wait t ∷ ss) xs ys h = under_declared ss xs ys h
under_declared (Pins e v ∷ ss) xs ys h = under_declared ss (set xs e 4) (set ys e 4) (under_both xs ys e h)

under_more : (ss : List Step) (xs ys : List ℕ) → Under xs ys → Under xs (foldl declared ys ss)
unfolding declared
under_more [] xs ys h = h
under_more (Wait t ∷ ss) xs ys h = under_more ss xs ys h
under_more (Pins e v ∷ ss) xs ys h = under_more ss xs (set ys e 4) (under_right xs ys e h)

module _ (more unknown steps : List Step) where
  pub three : start_of (more ++ unknown ++ steps) ≡ foldl declared (foldl declared (start_of more) unknown) steps
  three = foldl-append declared (replicate 20 5) (more ++ unknown) steps ∙ ap (λ (l : List ℕ). foldl declared l steps) (foldl-append declared (replicate 20 5) more unknown)

  pub under_start : Under (start_of unknown) (start_of (more ++ unknown ++ steps))
  under_start =
      rw three
      (under_more steps (start_of unknown) (foldl declared (start_of more) unknown) (under_declared unknown (replicate 20 5) (start_of more) (under_none 20 (start_of more))))

  pub there_all : (end now : ℕ) → Good end now steps → There (start_of (more ++ unknown ++ steps)) steps
  there_all end now h = rw three (there_declared steps (foldl declared (start_of more) unknown) end now h (long_declared unknown (start_of more) ∙ long_start more))

-- ---- steps whose encoders are declared declare nothing

abbrev pub Known : List ℕ → List Step → Type 0
Known pins [] = Unit {0}
Known pins (Wait t ∷ ss) = Known pins ss
Known pins (Pins e v ∷ ss) = (get_or pins e 0 ≡ 4) × Known pins ss

pub stays : (ss : List Step) (l : List ℕ) → Known l ss → foldl declared l ss ≡ l
unfolding declared
stays [] l h = refl
stays (Wait t ∷ ss) l h = stays ss l h
stays (Pins e v ∷ ss) l h =
    let q : set l e 4 ≡ l = ap (set l e) (sym h.0) ∙ set-get_or l e 0 in
    ap (λ (k : List ℕ). foldl declared k ss) q ∙ stays ss l h.1

fresh_at : (l : List ℕ) (i : ℕ) → Fresh l → i < length l → 4 ≤ get_or l i 0
fresh_at [] i h k = absurd (omega arith)
fresh_at (x ∷ l) zero h k = h.0.0
fresh_at (x ∷ l) (suc i) h k = fresh_at l i h.1 (omega arith)

pub known_there : (ss : List Step) (l : List ℕ) (end now : ℕ) → Fresh l → length l ≡ 20 → Good end now ss → There l ss → Known l ss
known_there [] l end now f k g t = tt
known_there (Wait u ∷ ss) l end now f k g t = known_there ss l end (now + 25 * u) f k g t
known_there (Pins e v ∷ ss) l end now f k g t = (omega (arith, fresh_at l e f (omega (arith, g.0)), t.0), known_there ss l end now f k g.2 t.1)

-- ---- steps that declare given encoders

pub pins_from : ℕ → List ℕ → List Step
pins_from e [] = []
pins_from e (x ∷ xs) = cond (eqb x 5) [] (Pins e 0 ∷ []) ++ pins_from (e + 1) xs

declares : (xs p : List ℕ) (e : ℕ) → length p ≡ e → Fresh xs → foldl declared (p ++ replicate (length xs) 5) (pins_from e xs) ≡ p ++ xs
unfolding pins_from declared
declares [] p e l h = refl
declares (x ∷ xs) p e l h =
    go (eqb x 5) refl
    (rw (append_snoc p x (replicate (length xs) 5), append_snoc p x xs) at (declares xs (p ++ x ∷ []) (e + 1) (length-append p (x ∷ []) ∙ omega arith) h.1))
  where
    rest : List ℕ
    rest = replicate (length xs) 5

    go : (t : Bool) → eqb x 5 ≡ t → foldl declared (p ++ x ∷ rest) (pins_from (e + 1) xs) ≡ p ++ x ∷ xs
        → foldl declared (p ++ 5 ∷ rest) (cond t [] (Pins e 0 ∷ []) ++ pins_from (e + 1) xs) ≡ p ++ x ∷ xs
    go true q ih = subst (λ (y : ℕ). foldl declared (p ++ y ∷ rest) (pins_from (e + 1) xs) ≡ p ++ x ∷ xs) (eqb-true x 5 q) ih
    go false q ih =
        let n = eqb-false x 5 q in
        let f : x ≡ 4 = omega (arith, h.0) in
        ap (λ (l : List ℕ). foldl declared l (pins_from (e + 1) xs)) (set_at p 5 rest 4 e l ∙ ap (λ (y : ℕ). p ++ y ∷ rest) (sym f)) ∙ ih

pub declares_all : (xs : List ℕ) → length xs ≡ 20 → Fresh xs → start_of (pins_from 0 xs) ≡ xs
declares_all xs l h = rw l at (declares xs [] 0 refl h)

known_from : (xs p ys : List ℕ) (e : ℕ) → length p ≡ e → length xs ≡ length ys → Under xs ys → Known (p ++ ys) (pins_from e xs)
unfolding pins_from
known_from [] p ys e l m h = tt
known_from (x ∷ xs) p [] e l m h = absurd (omega arith)
known_from (x ∷ xs) p (y ∷ ys) e l m h =
    go (eqb x 5) refl (rw (append_snoc p y ys) at (known_from xs (p ++ y ∷ []) ys (e + 1) (length-append p (y ∷ []) ∙ omega arith) (omega arith) h.1))
  where
    go : (t : Bool) → eqb x 5 ≡ t → Known (p ++ y ∷ ys) (pins_from (e + 1) xs) → Known (p ++ y ∷ ys) (cond t [] (Pins e 0 ∷ []) ++ pins_from (e + 1) xs)
    go true q ih = ih
    go false q ih = (get_or_at p y ys 0 e l ∙ h.0 (eqb-false x 5 q), ih)

-- the declared encoders, those with `x` lines among them, and steps of declared ones
module _ (pins unknown : List ℕ) (steps : List Step) (l : length pins ≡ 20) (m : length unknown ≡ 20) (f : Fresh pins) (under : Under unknown pins) (k : Known pins steps) where
  pub all_declared : pins ≡ start_of (pins_from 0 pins ++ pins_from 0 unknown ++ steps)
  all_declared =
      let u = known_from unknown [] pins 0 refl (m ∙ sym l) under in
      sym (three (pins_from 0 pins) (pins_from 0 unknown) steps
      ∙ ap (λ (z : List ℕ). foldl declared (foldl declared z (pins_from 0 unknown)) steps) (declares_all pins l f)
      ∙ ap (λ (z : List ℕ). foldl declared z steps) (stays (pins_from 0 unknown) pins u) ∙ stays steps pins k)
