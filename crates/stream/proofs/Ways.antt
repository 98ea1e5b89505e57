-- The ways of each call. Assumes nothing.
use mathlib.Core.Path.{◌≡◌, sym, ap, ◌∙◌, subst}
use mathlib.Core.Bool.{Bool, true, false}
use mathlib.Core.List.{List, ◌++◌}
use mathlib.Core.Logic.{inl}
use Prim.Native.Nat.{ℕ, ◌+◌, ◌-◌, ◌≤◌}
use native.Mathlib.Omega.{arith}
use lib.ListN.{length, get_or, drop, length-drop, length-replicate}
use borrow.Author.Tests.{le-leb}
use mir.Syntax.{w8}
use mir.Val as val
use Rattle.fold.specs.Output.{over}
use Rattle.edition.specs.Edition.{known}
use Rattle.numbers.specs.Bytes.{le_of}
use Rattle.live_state.specs.Live.{Live, fresh_of, chunk_of, end_of}
use Rattle.live_state.specs.How.{live_of, Good, Comes, written_by}
use Rattle.live_state.specs.declared.Stream.{Stream}
use Rattle.live_state.specs.declared.Chunked.{Chunked}
use Rattle.codec.specs.How.{Bytes}
use Rattle.image_state.specs.Image.{size, image_of, Fits, Stands}
use Rattle.image_state.specs.How.{load_of, is_state, Loads, Saves}
use Rattle.image_state.proofs.Passing.{passed}
use Rattle.image_state.proofs.Loaded.{image_long, stands, only_states}
use Rattle.std.proofs.Common.{Result, Err, Some}
use Rattle.std.specs.Result.{result_err}
use Rattle.refused.specs.Number.{number_of}
use Rattle.refused.specs.declared.Refusal.{Refusal}
use Rattle.refused.specs.declared.Refusal.TheVariants.{NoState}
use Rattle.stream.specs.Stream.{started_in, Tells, On}
use Rattle.stream.specs.declared.Told.{Told}
use Rattle.stream.proofs.Keeping.{fits_chunk, fits_fresh}

-- a slice's elements are bytes, as the code knows it
abbrev Held : List ℕ → Type 0
Held s = (i : ℕ) → val.Fits w8 (get_or s i 0)

bytes_held : (s : List ℕ) → Held s → Bytes s
bytes_held s h i = let f = h i in omega arith

-- an image over what was there
pub image_over : (l : Live) → Fits l → (state : List ℕ) → image_of l ++ drop size state ≡ over (image_of l) state
unfolding over
image_over l f state = ap (λ (n : ℕ). image_of l ++ drop n state) (sym (image_long l f))

-- ---- start

module _ (edition : ℕ) (state : List ℕ) where
  module _ (k : Bool) (is : k ≡ known edition) (h : k ≡ true) where
    module _ (s : Stream) (fresh : live_of s ≡ fresh_of edition) (good : Good s) where
      fits : Fits (fresh_of edition)
      fits = fits_fresh edition (sym is ∙ h)

      pub fresh_saves : Saves s
      fresh_saves = record { fits = subst Fits (sym fresh) fits; few = good.few; zeros = good.zeros }

      module _ (l : 864 ≤ length state) where
        pub started : (after : List ℕ) → after ≡ image_of (live_of s) ++ drop size state → after ≡ started_in edition state
        started after e = rw (← is, h, le-leb size (length state) l) (e ∙ rw fresh (image_over (fresh_of edition) fits state))

-- ---- a state

module _ (state : List ℕ) (t : Bool) (is : t ≡ is_state state) where
  -- no stream stands in it
  pub nothing : t ≡ false → (l : Live) → Stands state l → ⊥
  nothing none l h = let z : ◌≡◌ {A = Bool} true false = sym (only_states state l h) ∙ sym is ∙ none in different z
    where
      different : ◌≡◌ {A = Bool} true false → ⊥
      different e = let w : ◌≡◌ {A = ℕ} 0 1 = cc in omega arith

  module _ (yes : t ≡ true) where
    pub is_state_lem : is_state state ≡ true
    is_state_lem = sym is ∙ yes

    pub long : 8 + 8 ≤ length state
    long = omega (arith, (passed state is_state_lem).long)

    pub has_size : size ≤ length state
    has_size = omega (arith, (passed state is_state_lem).long)

    module _ (held : Held state) where
      pub applied_told : (n : ℕ) → n ≡ le_of 8 state 8 → On state (λ l. n ≡ l.applied) (n ≡ 0)
      unfolding load_of
      applied_told n e = inl (load_of state, stands state (bytes_held state held) is_state_lem, e)

      pub ends : (e : Result (Unit {0}) Refusal) → number_of (result_err e) ≡ end_of (load_of state) → On state (λ l. number_of (result_err e) ≡ end_of l) (e ≡ Err NoState)
      ends e p = inl (load_of state, stands state (bytes_held state held) is_state_lem, p)

      module _ (r : Stream) (loads : Loads state r) where
        there : Stands state (live_of r)
        there = subst (Stands state) (sym loads.live) (stands state (bytes_held state held) is_state_lem)

        pub good : Good r
        good = record {
          whole = loads.whole;
          long = omega (arith, ap length loads.zeros, length-drop r.held r.carried, length-replicate {A = ℕ} (16 - r.held) 0, loads.few);
          few = loads.few;
          small = there.0.applied;
          zeros = loads.zeros;
        }

        module _ (bytes : List ℕ) (given : Held bytes) (room : ℕ) (c : Chunked) (comes : Comes (chunk_of (live_of r) bytes room) c) where
          fits_on : Fits (live_of c.stream)
          fits_on = subst Fits (sym comes.live) (fits_chunk (live_of r) there.0 bytes (bytes_held bytes given) room)

          pub saves : Good c.stream → Saves c.stream
          saves g = record { fits = fits_on; few = g.few; zeros = g.zeros }

          abbrev told : Told
          told = record { refused = c.refused; readings = c.readings }

          pub tells : On state (λ l. Tells (chunk_of l bytes room) told) (told ≡ record { refused = Some NoState; readings = 0 })
          tells = inl (live_of r, there, (comes.refused, comes.readings))

          pub keeps : (after : List ℕ) → after ≡ image_of (live_of c.stream) ++ drop size state → On state (λ l. after ≡ over (image_of (chunk_of l bytes room).live) state) (after ≡ state)
          keeps after e = inl (live_of r, there, e ∙ image_over (live_of c.stream) fits_on state ∙ ap (λ (l : Live). over (image_of l) state) comes.live)

        pub output : (bytes out out' : List ℕ) → out' ≡ written_by (chunk_of (live_of r) bytes (length out)) out → On state (λ l. out' ≡ written_by (chunk_of l bytes (length out)) out) (out' ≡ out)
        output bytes out out' e = inl (live_of r, there, e)
