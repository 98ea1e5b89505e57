-- Texts put one after the other, and the slice that holds them where its loan ends. Assumes nothing.
use mathlib.Core.Path.{◌≡◌, refl, sym, ◌∙◌}
use mathlib.Core.List.{List, [], ◌++◌}
use base.Fml.{GName}
use Prim.Native.Nat.{ℕ}
use Rattle.decimal.specs.Put.{Put}
use Rattle.decimal.proofs.Puts.{put_nothing, put_then}
use Rattle.text.specs.Puts.{Puts}
use Rattle.text.specs.declared.Text.{Text}
use Rattle.text.specs.Text.{line}
use Rattle.text.proofs.Lines.{put_line}

pub puts_nothing : (a : Text) → Puts a a []
puts_nothing a = record { same = refl; put = put_nothing _ _ }

pub puts_then : (a b c : Text) (s t : List ℕ) → Puts a b s → Puts b c t → Puts a c (s ++ t)
puts_then a b c s t x y = record { same = y.same ∙ x.same; put = put_then _ _ _ s t _ _ _ x.put y.put }

pub puts_line : (a b c : Text) (s t u : List ℕ) → Puts a b s → Puts b c (line (t ++ u)) → Puts a c (line (s ++ t ++ u))
puts_line a b c s t u x y = record { same = y.same ∙ x.same; put = put_line t u _ _ _ s _ _ _ x.put y.put }

-- a is the text when it was lent out, whose reference has the name n, and b when the loan ends: x is the slice then
pub puts_end : (a b : Text) (n : GName) (s out x : List ℕ) → a.out.ghost_name ≡ n → a.out.now ≡ out → a.at ≡ 0 → Puts a b s
    → (n ≡ b.out.ghost_name → x ≡ b.out.now) → Put out 0 s x b.at
puts_end a b n s out x g e z p f = let k : x ≡ b.out.now = f (sym (p.same ∙ g)) in rw (k, ← e, ← z) p.put
