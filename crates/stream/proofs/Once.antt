-- Two answers that a contract of a stream's calls allows are the same. Assumes nothing.
use Rattle.std.proofs.Common.{ℕ, ◌≡◌, ◌<◌, ◌*◌, Bool, true, false, cond, leb, eqb, List, [], ◌++◌, length, Option, sym, ◌∙◌, arith}
use Rattle.refused.specs.declared.Refusal.{Refusal}
use Rattle.refused.specs.Number.{number_of}
use Rattle.refused.proofs.Numbers.{one_refusal}
use Rattle.fold.specs.Stream.{wholes}
use Rattle.wire.specs.Decode.{reads_in}
use Rattle.codec.specs.How.{Bytes}
use Rattle.live_state.specs.Live.{Live, Taken, taken_of, chunk_of, end_of}
use Rattle.edition.specs.Edition.{known}
use Rattle.image_state.specs.Image.{size, Fits}
use Rattle.image_state.proofs.Lawful.{refusal_small}
use Rattle.stream.specs.declared.Told.{Told}
use Rattle.stream.specs.Stream.{start_of, Tells}
use Rattle.stream.proofs.Keeping.{fits_chunk}

-- the number that a chunk is answered with is 6 or the stream's
answered : (l : Live) (bytes : List ℕ) (room : ℕ) → (chunk_of l bytes room).live.refused < 19 → (chunk_of l bytes room).refused < 19
unfolding chunk_of taken_of
answered l bytes room = by (eqb l.refused 0) (leb (8 * reads_in (wholes 16 (l.carried ++ bytes))) room)
  where
    by : (none fits : Bool)
        → (cond {A = Taken} none (cond fits (taken_of l bytes) (record { live = l; refused = 6; readings = [] })) (record { live = l; refused = l.refused; readings = [] })).live.refused < 19
        → (cond {A = Taken} none (cond fits (taken_of l bytes) (record { live = l; refused = 6; readings = [] })) (record { live = l; refused = l.refused; readings = [] })).refused < 19
    by true true h = h
    by true false h = omega arith
    by false fits h = h

pub one_told : (l : Live) (bytes : List ℕ) (room : ℕ) → Fits l → Bytes bytes → (r s : Told) → Tells (chunk_of l bytes room) r → Tells (chunk_of l bytes room) s → r ≡ s
one_told l bytes room f given r s a b =
    let small = answered l bytes room (refusal_small _ (fits_chunk l f bytes given room).refused) in
    λ i. record { refused = one_refusal r.refused s.refused (a.0 ∙ sym b.0) (λ e. omega (arith, small, a.0, e)) i; readings = (a.1 ∙ sym b.1) i }

pub one_start : (edition room : ℕ) (r s : Option Refusal) → number_of r ≡ start_of edition room → number_of s ≡ start_of edition room → r ≡ s
one_start edition room r s a b = one_refusal r s (a ∙ sym b) (by (known edition) (leb size room) a)
  where
    by : (k fits : Bool) → number_of r ≡ cond k (cond fits 0 6) 4 → number_of r ≡ 21 → ⊥
    by true true e h = omega (arith, e, h)
    by true false e h = omega (arith, e, h)
    by false fits e h = omega (arith, e, h)

end_small : (l : Live) → l.refused < 19 → end_of l < 19
end_small l = by (eqb l.refused 0) (eqb (length l.carried) 0)
  where
    by : (none whole : Bool) → l.refused < 19 → cond none (cond whole 0 5) l.refused < 19
    by true true h = omega arith
    by true false h = omega arith
    by false whole h = h

pub one_end : (l : Live) → Fits l → (r s : Option Refusal) → number_of r ≡ end_of l → number_of s ≡ end_of l → r ≡ s
one_end l f r s a b = let small = end_small l (refusal_small l.refused f.refused) in one_refusal r s (a ∙ sym b) (λ e. omega (arith, small, a, e))
