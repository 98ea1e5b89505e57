-- The sums of the proof, over any abelian group.
-- Assumes nothing.
use mathlib.Core.Path.{◌≡◌, sym, ap, ◌∙◌}

module _ {A : Type 0} (◌⊕◌ : A → A → A) (assoc : (a b c : A) → (a ⊕ b) ⊕ c ≡ a ⊕ (b ⊕ c)) (comm : (a b : A) → a ⊕ b ≡ b ⊕ a) where
  infixl 50 ◌⊕◌
  swap : (a b c : A) → a ⊕ (b ⊕ c) ≡ b ⊕ (a ⊕ c)
  swap a b c = sym (assoc a b c) ∙ ap (λ (x : A). x ⊕ c) (comm a b) ∙ assoc b a c

  -- a move m that counts s, with e for a double and x for one that went back
  pub shuffle : (p s c e D m L K x : A) → s ⊕ e ≡ m ⊕ x → p ⊕ m ⊕ c ⊕ D ≡ L ⊕ K → p ⊕ (s ⊕ c) ⊕ (e ⊕ D) ≡ L ⊕ (x ⊕ K)
  shuffle p s c e D m L K x h k = left ∙ ap (λ (y : A). y ⊕ (p ⊕ c ⊕ D)) h ∙ middle ∙ ap (λ (y : A). x ⊕ y) k ∙ swap x L K
    where
      left : p ⊕ (s ⊕ c) ⊕ (e ⊕ D) ≡ (s ⊕ e) ⊕ (p ⊕ c ⊕ D)
      left = simp (assoc, comm, swap)

      middle : (m ⊕ x) ⊕ (p ⊕ c ⊕ D) ≡ x ⊕ (p ⊕ m ⊕ c ⊕ D)
      middle = simp (assoc, comm, swap)

  -- the two sides of t + m = s + n, with a and b to make them natural numbers
  pub lift : (t m s n a b : A) → t ⊕ m ≡ s ⊕ n → (t ⊕ a) ⊕ (m ⊕ b) ≡ (s ⊕ b) ⊕ (n ⊕ a)
  lift t m s n a b h = left ∙ ap (λ (y : A). y ⊕ (a ⊕ b)) h ∙ right
    where
      left : (t ⊕ a) ⊕ (m ⊕ b) ≡ (t ⊕ m) ⊕ (a ⊕ b)
      left = simp (assoc, comm, swap)

      right : (s ⊕ n) ⊕ (a ⊕ b) ≡ (s ⊕ b) ⊕ (n ⊕ a)
      right = simp (assoc, comm, swap)

  module _ (z : A) (neg : A → A) (idr : (a : A) → a ⊕ z ≡ a) (inv : (a : A) → a ⊕ neg a ≡ z) where
    -- the travel from p to L
    pub travels : (p s D L K : A) → p ⊕ s ⊕ D ≡ L ⊕ K → (L ⊕ neg p) ⊕ K ≡ s ⊕ D
    travels p s D L K h = left ∙ ap (λ (y : A). y ⊕ neg p) (sym h) ∙ right ∙ ap (λ (y : A). (s ⊕ D) ⊕ y) (inv p) ∙ idr (s ⊕ D)
      where
        left : (L ⊕ neg p) ⊕ K ≡ (L ⊕ K) ⊕ neg p
        left = simp (assoc, comm, swap)

        right : (p ⊕ s ⊕ D) ⊕ neg p ≡ (s ⊕ D) ⊕ (p ⊕ neg p)
        right = simp (assoc, comm, swap)

    -- what is added on both sides, taken away
    pub crossed : (t k s d : A) → t ⊕ k ≡ s ⊕ d → s ⊕ neg t ≡ k ⊕ neg d
    crossed t k s d h =
        sym (idr (s ⊕ neg t)) ∙ ap (λ (y : A). (s ⊕ neg t) ⊕ y) (sym (inv d)) ∙ left ∙ ap (λ (y : A). y ⊕ (neg t ⊕ neg d)) (sym h)
        ∙ right ∙ ap (λ (y : A). (k ⊕ neg d) ⊕ y) (inv t) ∙ idr (k ⊕ neg d)
      where
        left : (s ⊕ neg t) ⊕ (d ⊕ neg d) ≡ (s ⊕ d) ⊕ (neg t ⊕ neg d)
        left = simp (assoc, comm, swap)

        right : (t ⊕ k) ⊕ (neg t ⊕ neg d) ≡ (k ⊕ neg d) ⊕ (t ⊕ neg t)
        right = simp (assoc, comm, swap)
