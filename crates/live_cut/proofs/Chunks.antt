-- Chunk after chunk is one chunk: by induction over the cuts, from the law of two.
-- Assumes nothing.
use mathlib.Core.Path.{◌≡◌, refl, sym, ap, ◌∙◌, subst}
use mathlib.Core.List.{List, [], ◌∷◌, ◌++◌, append-nil, flatten}
use mathlib.Core.Logic.{⊎_elim}
use Prim.Native.Nat.{ℕ, ◌+◌, ◌*◌, ◌/◌, ◌%◌, ◌^◌, ◌<◌}
use native.Mathlib.Nat.{add-zero, mod-lt, mod-eq_of_lt}
use native.Mathlib.Omega.{arith}
use lib.ListN.{length, length-drop}
use Rattle.fold.specs.Run.{Course, going, stopped, under, resumed, run_of}
use Rattle.refused.specs.Number.{number, number_of}
use Rattle.refused.specs.declared.Refusal.{Refusal}
use Rattle.fold.specs.Output.{refusal_of}
use Rattle.fold.specs.Stream.{wholes, left_over}
use Rattle.fold.proofs.Streams.{no_wholes, all_left}
use Rattle.edition.specs.Edition.{edition_of}
use Rattle.walk.specs.Turn.{turn_of}
use Rattle.walk.proofs.Numbers.{run_number}
use Rattle.live_state.specs.Live.{Live, Taken, taken_of, chunk_of}
use Rattle.live_state.specs.How.{finished}
use Rattle.live_state.proofs.Two.{joined, ran, two_refused, two_going}
use Rattle.live_state.proofs.Ways.{Way, again, taken, not_taken, way, refused_again}
use Rattle.live_cut.specs.Cut.{Lent, bytes_in, streamed, Roomy}

-- ---- after a refusal

pub stays : (s : Live) (cs : List Lent) → (s.refused ≡ 0 → ⊥) → streamed s cs ≡ record { live = s; refused = s.refused; readings = [] }
unfolding streamed
stays s [] h = refl
stays s (c ∷ cs) h =
    ap (λ (t : Taken). joined t (streamed t.live cs)) (refused_again s c.bytes c.room h)
    ∙ stays s cs h

-- ---- a refused record's number is neither 0 nor 6

number_not : (s : Live) (b : List ℕ) (k : Refusal) (j : ℕ) → (ran s b).course ≡ stopped k → j < 7 → number k ≡ j → ⊥
number_not s b k j e small is = ⊎_elim (λ w. omega arith) (λ w. ⊎_elim (λ q. omega arith) (λ q. omega arith) w) (run_number (edition_of s.edition) s.state (finished s b) k e)

taken_some : (s : Live) (b : List ℕ) (k : Refusal) → (ran s b).course ≡ stopped k → (taken_of s b).live.refused ≡ 0 → ⊥
unfolding taken_of
taken_some s b k e h = number_not s b k 0 e (omega arith) (sym (ap (λ (c : Course). number_of (refusal_of c)) e) ∙ h)

nothing_behind : (s : Live) (b : List ℕ) → joined (taken_of s b) (record { live = (taken_of s b).live; refused = (taken_of s b).live.refused; readings = [] }) ≡ taken_of s b
unfolding taken_of
nothing_behind s b = rw (append-nil (ran s b).readings)

pub taken_not_six : (s : Live) (b : List ℕ) → (taken_of s b).refused ≡ 6 → ⊥
unfolding taken_of
taken_not_six s b h = by (ran s b).course refl h
  where
    by : (c : Course) → (ran s b).course ≡ c → number_of (refusal_of c) ≡ 6 → ⊥
    by going e i = omega arith
    by (stopped k) e i = number_not s b k 6 e (omega arith) i

-- ---- a stream that goes on

pub record Going (s : Live) : Type 0 where
  pub none : s.refused ≡ 0
  pub few : length s.carried < 16
  pub small : s.applied < 2 ^ 64

nothing_more : (s : Live) → Going s → record { live = s; refused = s.refused; readings = [] } ≡ taken_of s []
unfolding taken_of run_of resumed
nothing_more s g =
    let bytes : s.carried ++ [] ≡ s.carried = append-nil s.carried in
    let run : ran s [] ≡ under s.state 0 [] =
    ap (run_of (turn_of (edition_of s.edition)) s.state) (ap (wholes 16) bytes ∙ no_wholes 16 s.carried g.few) in
    let applied : (s.applied + 0) % 2 ^ 64 ≡ s.applied = ap (λ (k : ℕ). k % 2 ^ 64) (add-zero s.applied) ∙ mod-eq_of_lt g.small in
    let carried : left_over 16 (s.carried ++ []) ≡ s.carried = ap (left_over 16) bytes ∙ all_left 16 s.carried g.few in
    rw run (sym (rw (carried, applied, ← g.none)))

left_few : (b : List ℕ) → length (left_over 16 b) < 16
left_few b = omega (arith, length-drop (16 * (length b / 16)) b)

goes_on : (s : Live) (b : List ℕ) → (ran s b).course ≡ going → Going (taken_of s b).live
unfolding taken_of
goes_on s b e = record { none = ap (λ (c : Course). number_of (refusal_of c)) e; few = rw e (left_few (s.carried ++ b)); small = mod-lt (s.applied + (ran s b).applied) (omega arith) }

pub all_at_once : (s : Live) (cs : List Lent) → Going s → Roomy s cs → streamed s cs ≡ taken_of s (bytes_in cs)
unfolding streamed Roomy flatten
all_at_once s [] g h = nothing_more s g
all_at_once s (c ∷ cs) g h = by (way s c.bytes c.room) (λ q p. all_at_once q cs p)
  where
    taken_on : chunk_of s c.bytes c.room ≡ taken_of s c.bytes → ((q : Live) → Going q → Roomy q cs → streamed q cs ≡ taken_of q (bytes_in cs))
        → (d : Course) → (ran s c.bytes).course ≡ d → joined (taken_of s c.bytes) (streamed (taken_of s c.bytes).live cs) ≡ taken_of s (c.bytes ++ bytes_in cs)
    taken_on is ih going e =
        ap (joined (taken_of s c.bytes)) (ih (taken_of s c.bytes).live (goes_on s c.bytes e) (subst (λ (t : Taken). Roomy t.live cs) is h.1))
        ∙ sym (two_going s c.bytes (bytes_in cs) e)
    taken_on is ih (stopped k) e =
        ap (joined (taken_of s c.bytes)) (stays (taken_of s c.bytes).live cs (taken_some s c.bytes k e))
        ∙ nothing_behind s c.bytes
        ∙ sym (two_refused s c.bytes (bytes_in cs) k e)

    by : Way s c.bytes c.room → ((q : Live) → Going q → Roomy q cs → streamed q cs ≡ taken_of q (bytes_in cs))
        → joined (chunk_of s c.bytes c.room) (streamed (chunk_of s c.bytes c.room).live cs) ≡ taken_of s (c.bytes ++ bytes_in cs)
    by (again some e) ih = absurd (some g.none)
    by (not_taken none e) ih = absurd (h.0 (ap (λ (t : Taken). t.refused) e))
    by (taken none e) ih = ap (λ (t : Taken). joined t (streamed t.live cs)) e ∙ taken_on e ih (ran s c.bytes).course refl
