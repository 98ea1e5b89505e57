-- A rule in a unit of which there are 1,000 as many answers to 1,000 times the rate what it answered before. Assumes nothing.
use mathlib.Core.Path.{◌≡◌}
use mathlib.Core.Logic.{◌↔◌}
use Prim.Native.Nat.{ℕ, ◌*◌}
use native.Mathlib.Omega.{arith}
use Rattle.rate.specs.declared.Rule.{Rule}
use Rattle.rate.specs.Rate.{apart, Within, AsGood, Outcome, outside, loose, none, pair}
use Rattle.rate.specs.How.{Fair}
use Rattle.rate.proofs.Answers.{settled}

abbrev pub in_thousands : Rule → Rule
in_thousands h = record { hertz = h.hertz; clock = 1_000 * h.clock; low = 1_000 * h.low; high = 1_000 * h.high; base = h.base }

module _ (C f : ℕ) where
  off : (P : ℕ) → apart (1_000 * C) (1_000 * f * P) ≡ 1_000 * apart C (f * P)
  off P = omega arith

  within_there : (tol P : ℕ) → Within C f tol P → Within (1_000 * C) (1_000 * f) tol P
  within_there tol P h = rw (off P) (omega arith)

  within_back : (tol P : ℕ) → Within (1_000 * C) (1_000 * f) tol P → Within C f tol P
  within_back tol P h = omega (arith, rw (off P) at h)

  as_good : (P N Q M : ℕ) → AsGood C f P N Q M → AsGood (1_000 * C) (1_000 * f) P N Q M
  as_good P N Q M h =
      record {
        near = rw (off P, off Q) (omega (arith, h.near));
        small = λ t. h.small (back t);
        fine = λ t. h.fine (back t);
      }
    where
      back : apart (1_000 * C) (1_000 * f * P) * Q ≡ apart (1_000 * C) (1_000 * f * Q) * P → apart C (f * P) * Q ≡ apart C (f * Q) * P
      back t = omega (arith, rw (off P, off Q) at t)

there : (h : Rule) (f tol : ℕ) {v : ℕ × ℕ × ℕ × ℕ} → Outcome h f tol v → Outcome (in_thousands h) (1_000 * f) tol v
there h f tol (outside a) = outside (λ r. a (omega arith))
there h f tol (loose a t) = loose (omega arith) t
there h f tol (none a t g) = none (omega arith) t (λ d y p w. g d y p (within_back h.clock f tol _ w))
there h f tol (pair a t w) =
    pair (omega arith) t
    (record {
      pair = w.pair;
      within = within_there h.clock f tol _ w.within;
      best = λ d y p. as_good h.clock f _ _ _ _ (w.best d y p);
    })

-- the other way round, since a request has one answer
pub thousandfold : (h : Rule) → Fair h → Fair (in_thousands h) → (f tol : ℕ) (v : ℕ × ℕ × ℕ × ℕ) → Outcome h f tol v ↔ Outcome (in_thousands h) (1_000 * f) tol v
thousandfold h fair fair' f tol v =
    let a = settled h fair f tol in
    let b = settled (in_thousands h) fair' (1_000 * f) tol in
    (there h f tol, λ g. rw (b.2 v g, ← b.2 a.0 (there h f tol a.1)) a.1)
