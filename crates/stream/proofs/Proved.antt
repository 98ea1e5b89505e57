-- The facts of specs/Facts.antt. Assumes nothing.
use mathlib.Core.Logic.{inl, inr}
use mathlib.Core.Path.{◌≡◌, refl, sym, ap, ◌∙◌, subst}
use mathlib.Core.Bool.{Bool, true, false, cond}
use mathlib.Core.List.{List, [], ◌∷◌, ◌++◌, flatten}
use Prim.Native.Nat.{ℕ, zero, suc, ◌+◌, ◌<◌}
use native.Mathlib.Omega.{arith}
use lib.Dec.{leb}
use lib.ListN.{length, drop}
use lib.Seq.{take_at, get_or-append-add}
use Rattle.fold.specs.Output.{over}
use Rattle.numbers.specs.Bytes.{byte}
use Rattle.edition.specs.Edition.{known}
use Rattle.live_state.specs.Live.{Live, Taken, fresh_of, chunk_of}
use Rattle.live_cut.specs.Cut.{Lent, bytes_in, streamed}
use Rattle.live_cut.proofs.Proved.{cuts}
use Rattle.image_state.specs.Image.{size, image_of, Fits, Stands}
use Rattle.image_state.proofs.Loaded.{image_long}
use Rattle.image_state.proofs.Proved.{images}
use Rattle.stream.specs.Stream.{start_of, started_in}
use Rattle.stream.specs.Facts.{Called, Streams, OnSettled}
use Rattle.stream.proofs.Keeping.{fits_chunk, fits_fresh}

-- a stream stands where its image is put
put : (l : Live) → Fits l → (state : List ℕ) → Stands (over (image_of l) state) l
unfolding over
put l f state = (f, sym (take_at (image_of l) (drop (length (image_of l)) state) size (image_long l f)))

starts : (edition : ℕ) (state : List ℕ) → start_of edition (length state) ≡ 0 → Stands (started_in edition state) (fresh_of edition)
starts edition state z = by (known edition) (leb size (length state)) refl z
  where
    by : (k r : Bool) → known edition ≡ k → cond {A = ℕ} k (cond r 0 6) 4 ≡ 0 → Stands (started_in edition state) (fresh_of edition)
    by true true e h = rw z (put (fresh_of edition) (fits_fresh edition e) state)
    by true false e h = absurd (omega arith)
    by false r e h = absurd (omega arith)

keeps : (state bytes : List ℕ) (room : ℕ) (l : Live) → ((i : ℕ) → byte bytes i < 256) → Stands state l
    → Stands (over (image_of (chunk_of l bytes room).live) state) (chunk_of l bytes room).live
keeps state bytes room l given h = put _ (fits_chunk l h.0 bytes given room) state

-- one stream stands in bytes
one : (state : List ℕ) (l m : Live) → Stands state l → Stands state m → m ≡ l
one state l m a b = (images l a.0).2 m b.0 (b.1 ∙ sym a.1)

-- ---- chunk after chunk

front : (a b : List ℕ) → ((i : ℕ) → byte (a ++ b) i < 256) → (i : ℕ) → byte a i < 256
front [] b g i = omega arith
front (x ∷ a) b g zero = g 0
front (x ∷ a) b g (suc i) = front a b (λ j. g (suc j)) i

called : (cs : List Lent) (state after vs : List ℕ) (l : Live) → ((i : ℕ) → byte (bytes_in cs) i < 256) → Stands state l → Called state cs after vs
    → Stands after (streamed l cs).live × (vs ≡ (streamed l cs).readings)
unfolding Called streamed flatten
called [] state after vs l g h c = (rw c.0 h, c.1)
called (d ∷ cs) state after vs l g h (mid, ws, inl a, c) =
    let next = (chunk_of l d.bytes d.room).live in
    let same = one state l a.0 h a.1 in
    let is : mid ≡ over (image_of next) state = a.2.0 ∙ ap (λ (m : Live). over (image_of (chunk_of m d.bytes d.room).live) state) same in
    let told : vs ≡ (chunk_of l d.bytes d.room).readings ++ ws = a.2.1 ∙ ap (λ (m : Live). (chunk_of m d.bytes d.room).readings ++ ws) same in
    let on =
    called cs mid after ws next (λ i. rw (get_or-append-add d.bytes (bytes_in cs) i 0) at (g (length d.bytes + i)))
    (rw is (keeps state d.bytes d.room l (front d.bytes (bytes_in cs) g) h)) c in
    (on.0, told ∙ ap (λ (us : List ℕ). (chunk_of l d.bytes d.room).readings ++ us) on.1)
called (d ∷ cs) state after vs l g h (mid, ws, inr b, c) = absurd (b.0 l h)

pub streams : Streams
streams = record {
  starts = starts;
  keeps = keeps;
  any_calls = λ edition state after vs cs z g roomy c.
      subst (λ (t : Taken). Stands after t.live × (vs ≡ t.readings)) (cuts.any_cut edition cs roomy)
      (called cs (started_in edition state) after vs (fresh_of edition) g (starts edition state z) c);
}

pub on_settled : OnSettled
on_settled A state P N p n v w (inl a) (inl b) = p a.0 v w a.2 (subst (λ (l : Live). P l w) (one state a.0 b.0 a.1 b.1) b.2)
on_settled A state P N p n v w (inl a) (inr b) = absurd (b.0 a.0 a.1)
on_settled A state P N p n v w (inr a) (inl b) = absurd (a.0 b.0 b.1)
on_settled A state P N p n v w (inr a) (inr b) = n v w a.1 b.1
