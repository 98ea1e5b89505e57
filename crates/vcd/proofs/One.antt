-- A reader's numbers are of one reader. Assumes nothing.
use Rattle.std.proofs.Common.{ℕ, ◌≡◌, ◌+◌, ◌-◌, cond, ltb, lt-ltb, List, [], ◌∷◌, get_or, length, drop, refl, sym, ap, ◌∙◌, arith}
use Rattle.vcd.specs.declared.Mark.TheVariants.{Timescale, Scope, Upscope, EndDefinitions, DumpVars, End}
use Rattle.vcd.specs.declared.Phase.{Phase}
use Rattle.vcd.specs.declared.Phase.TheVariants.{Header, FirstTime, FirstChange, Changes, Refused, Other}
use Rattle.vcd.specs.declared.Channel.{Channel}
use Rattle.vcd.specs.declared.Reader.{Reader}
use Rattle.vcd.specs.How.{Position, number_of_phase, pins_of, changed_of, position_of}

phase_at : ℕ → Phase
phase_at n =
    cond (ltb 9 n) (Other (n - 10))
    (get_or (Header Timescale ∷ Header Scope ∷ Header Upscope ∷ Header EndDefinitions ∷ Header DumpVars ∷ Header End ∷ FirstTime ∷ FirstChange ∷ Changes ∷ []) n Refused)

phase_back : (p : Phase) → phase_at (number_of_phase p) ≡ p
unfolding phase_at
phase_back (Header Timescale) = refl
phase_back (Header Scope) = refl
phase_back (Header Upscope) = refl
phase_back (Header EndDefinitions) = refl
phase_back (Header DumpVars) = refl
phase_back (Header End) = refl
phase_back FirstTime = refl
phase_back FirstChange = refl
phase_back Changes = refl
phase_back Refused = refl
phase_back (Other n) = let e : 10 + n - 10 ≡ n = omega arith in rw (lt-ltb 9 (10 + n) (omega arith), e)

channels_are : (xs ys : List Channel) → pins_of xs ≡ pins_of ys → changed_of xs ≡ changed_of ys → xs ≡ ys
channels_are [] [] p c = refl
channels_are [] (y ∷ ys) p c = let z : ◌≡◌ {A = ℕ} 0 (length (pins_of (y ∷ ys))) = ap length p in absurd (omega (arith, z))
channels_are (x ∷ xs) [] p c = let z : ◌≡◌ {A = ℕ} (length (pins_of (x ∷ xs))) 0 = ap length p in absurd (omega (arith, z))
channels_are (x ∷ xs) (y ∷ ys) p c =
    λ i. record { pins = ap (λ (l : List ℕ). get_or l 0 0) p i; changed = ap (λ (l : List ℕ). get_or l 0 0) c i } ∷ channels_are xs ys (ap (drop 1) p) (ap (drop 1) c) i

pub one_reader : (r s : Reader) → position_of r ≡ position_of s → r ≡ s
one_reader r s e =
    let phases : number_of_phase r.phase ≡ number_of_phase s.phase = ap (λ (p : Position). p.phase) e in
    λ i. record {
      phase = (sym (phase_back r.phase) ∙ ap phase_at phases ∙ phase_back s.phase) i;
      awaited = ap (λ (p : Position). p.awaited) e i;
      now = ap (λ (p : Position). p.now) e i;
      channels = channels_are r.channels s.channels (ap (λ (p : Position). p.pins) e) (ap (λ (p : Position). p.changed) e) i;
    }
