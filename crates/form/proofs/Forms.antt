-- A form, byte by byte. Assumes nothing.
use mathlib.Core.Path.{◌≡◌, refl, sym, ap, ◌∙◌}
use mathlib.Core.List.{List, [], ◌++◌, append_assoc, append-nil}
use Prim.Native.Nat.{ℕ, ◌+◌, ◌<◌, ◌≤◌}
use native.Mathlib.Nat.{add-zero}
use native.Mathlib.Numerals.{add-one}
use native.Mathlib.Omega.{arith}
use lib.ListN.{length, get_or, drop, drop_of_length-le}
use lib.Seq.{drop-cons, drop-drop, get_or-drop}
use Rattle.text.specs.declared.Text.{Text}
use Rattle.text.specs.Puts.{Puts}
use Rattle.text.proofs.Puts.{puts_nothing, puts_then}
use Rattle.form.specs.Form.{part_of, taken_by, form_text}

-- ---- a form: what stands in the text after its first i bytes, which took k numbers

pub record Forming (a : Text) (form ns : List ℕ) (b : Text) (k i : ℕ) : Type 0 where
  pub few : k ≤ i
  pub said : List ℕ
  pub puts : Puts a b said
  pub left : said ++ form_text (drop i form) (drop k ns) ≡ form_text form ns

pub begins : (a : Text) (form ns : List ℕ) → Forming a form ns a 0 0
begins a form ns = record { few = omega arith; said = []; puts = puts_nothing a; left = refl }

module _ (a : Text) (form ns : List ℕ) (b : Text) (k i : ℕ) (f : Forming a form ns b k i) where
  pub next : (n t : ℕ) (c : Text) → i < length form → n ≡ get_or ns k 0 → (t ≡ taken_by (get_or form i 0)) × (t ≤ 1) → Puts b c (part_of (get_or form i 0) n)
      → Forming a form ns c (k + t) (i + 1)
  unfolding form_text
  next n t c h en et x = record {
    few = omega (arith, f.few);
    said = f.said ++ part_of (get_or form i 0) n;
    puts = puts_then a b c _ _ f.puts x;
    left =
        append_assoc f.said (part_of (get_or form i 0) n) (form_text (drop (i + 1) form) (drop (k + t) ns))
        ∙ ap (λ (l : List ℕ). f.said ++ l) (sym one)
        ∙ f.left;
  }
    where
      one : form_text (drop i form) (drop k ns) ≡ part_of (get_or form i 0) n ++ form_text (drop (i + 1) form) (drop (k + t) ns)
      one = rw (drop-cons form i 0 h, get_or-drop k ns 0 0, add-zero k, ← en, ← et.0, drop-drop t k ns, add-one i)

  pub all_formed : length form ≤ i → Puts a b (form_text form ns)
  unfolding form_text
  all_formed h = rw (← f.left, drop_of_length-le form {i = i} h, append-nil f.said) f.puts
