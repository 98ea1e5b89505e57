-- The channels of a reader as lists of numbers. Assumes nothing.
use Rattle.std.proofs.Common.{◌≡◌, refl, ℕ, suc, replicate, ◌+◌, ◌<◌, length, List, [], ◌∷◌, arith, get_or, set, ◌≢◌, get_or-set_other, get_or-set_same, below_more}
use Rattle.std.proofs.lemmas.List.{map-set, get_or-map}
use Rattle.std.proofs.Math.Seq.{map-set_same}
use Rattle.vcd.specs.declared.Channel.{Channel}
use Rattle.vcd.specs.How.{pins_of, changed_of}

abbrev pub none : Channel
none = record { pins = 0; changed = 0 }

module _ (xs : List Channel) (e : ℕ) where
  -- the pins of one
  pub pins_at : e < length xs → get_or (pins_of xs) e 0 ≡ (get_or xs e none).pins
  pins_at h = get_or-map (λ (x : Channel). x.pins) xs e none 0 h

  pub pins_set : (v : ℕ) (b : ℕ) → pins_of (set xs e (record { pins = v; changed = b })) ≡ set (pins_of xs) e v
  pins_set v b = map-set (λ (x : Channel). x.pins) xs e (record { pins = v; changed = b })

  pub changed_set : (v : ℕ) (b : ℕ) → changed_of (set xs e (record { pins = v; changed = b })) ≡ set (changed_of xs) e b
  changed_set v b = map-set (λ (x : Channel). x.changed) xs e (record { pins = v; changed = b })

  pub changed_kept : (v : ℕ) → changed_of (set xs e (record { pins = v; changed = (get_or xs e none).changed })) ≡ changed_of xs
  changed_kept v = map-set_same (λ (x : Channel). x.changed) xs e (record { pins = v; changed = (get_or xs e none).changed }) none refl

pub all_unchanged : (xs : List Channel) → ((k : ℕ) → k < length xs → (get_or xs k none).changed ≡ 0) → changed_of xs ≡ replicate (length xs) 0
all_unchanged [] h = refl
all_unchanged (x ∷ xs) h = rw (h 0 (omega arith), all_unchanged xs (λ k l. h (suc k) (omega arith)))

module _ (xs : List Channel) (i : ℕ) (h : i < length xs) where
  pub pins_kept : pins_of (set xs i (record { pins = (get_or xs i none).pins; changed = 0 })) ≡ pins_of xs
  pins_kept = map-set_same (λ (x : Channel). x.pins) xs i (record { pins = (get_or xs i none).pins; changed = 0 }) none refl

  pub one_more : ((k : ℕ) → k < i → (get_or xs k none).changed ≡ 0) → (k : ℕ) → k < i + 1
      → (get_or (set xs i (record { pins = (get_or xs i none).pins; changed = 0 })) k none).changed ≡ 0
  one_more past =
      below_more _ _
      (λ k l. let ne : k ≢ i = omega arith in rw get_or-set_other (past k l))
      (rw get_or-set_same)
