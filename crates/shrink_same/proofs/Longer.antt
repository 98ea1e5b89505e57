-- A stretch whose first pins record is dropped goes on from an equal one before it that stays. Assumes nothing.
use mathlib.Core.Path.{◌≡◌, refl, sym, ap, ◌∙◌, subst}
use mathlib.Core.Bool.{Bool, true, false, not, cond, ◌&&◌, ◌||◌, true≢false, false≢true}
use mathlib.Core.List.{List, [], ◌∷◌, ◌++◌, map, foldl, reverse, reverse_aux, reverse-reverse, reverse-append, reverse-cons, append_assoc}
use Prim.Native.Nat.{ℕ, ◌<◌}
use native.Mathlib.Omega.{arith}
use lib.Dec.{eqb}
use borrow.Author.Tests.{eqb-true, not-true}
use Rattle.laws.proofs.Truth.{both_true, neither}
use Rattle.fold.specs.Run.{going, run_of}
use Rattle.fold.proofs.Laws as laws
use Rattle.fold.proofs.Runs.{goes_applies}
use Rattle.edition.specs.declared.Edition.{Edition}
use Rattle.encoder.specs.Encoder.{counts_in_quadrature}
use Rattle.encoder.proofs.Counting.{pins_cnfg}
use Rattle.numbers.specs.Bytes.{byte, le_of}
use Rattle.wire.specs.Decode.{bank_of, decode_of}
use Rattle.std.specs.Prelude.{Ok}
use Rattle.records.specs.declared.Record.TheVariants.{Pins}
use Rattle.wire.proofs.Formed.{formed, bank_formed}
use Rattle.banks.specs.declared.State.{State}
use Rattle.banks.specs.State.{fresh}
use Rattle.banks.proofs.Whole.{Both}
use Rattle.replay.specs.Replay.{played}
use Rattle.walk.specs.Turn.{turn_of}
use Rattle.travel.specs.Stretch.{names, pins_in, keeps, undisturbed, Stretch}
use Rattle.travel.proofs.Events.{pins, config, route, nothing, event_at, pins_bank}
use Rattle.travel.proofs.Counting.{Channel, on_event}
use Rattle.travel.proofs.Banks.{Sound, view_at, turn_view, turn_pins, sound_turn, sound_fresh}
use Rattle.shrink_rule.specs.Drops.{shows, drops}
use Rattle.shrink_rule.specs.How.{writes}
use Rattle.shrink_rule.proofs.Every.{Every}
use Rattle.shrink_same.proofs.Runs.{dropped_shows}

-- ---- the first of the equal pins

-- a record that does not disturb, and whose pins, if it has some of that encoder, say v
abbrev Quiet : ℕ → ℕ → ℕ → List ℕ → Type 0
Quiet k i v q = (writes k i q ≡ false) × (names k 3 1 i q ≡ true → le_of 8 q 8 ≡ v)

record First (k i v : ℕ) (before : List (List ℕ)) : Type 0 where
  mid : List (List ℕ)
  p : List ℕ
  earlier : List (List ℕ)
  cut : before ≡ mid ++ p ∷ earlier
  is_pins : names k 3 1 i p ≡ true
  says : le_of 8 p 8 ≡ v
  stays : drops earlier p ≡ false
  quiet : Every (Quiet k i v) mid

-- pins are no write
pins_no_write : (k i : ℕ) (q : List ℕ) → names k 3 1 i q ≡ true → writes k i q ≡ false
pins_no_write k i q n =
    let kind = eqb-true (byte q 0) 3 (both_true (eqb (byte q 0) 3) _ (both_true (eqb (bank_of q) k) _ n).1).0 in
    rw kind (by (eqb (bank_of q) k))
  where
    by : (b : Bool) → ((b && false) || (b && false)) ≡ false
    by true = refl
    by false = refl

first : (k i v : ℕ) (before : List (List ℕ)) → shows k i v before ≡ true → First k i v before
unfolding shows
first k i v [] h = absurd (false≢true h)
first k i v (x ∷ b) h = by (names k 3 1 i x) refl (drops b x) refl (first k i v b) h
  where
    on : writes k i x ≡ false → (names k 3 1 i x ≡ true → le_of 8 x 8 ≡ v) → First k i v b → First k i v (x ∷ b)
    on w s y = record {
      mid = x ∷ y.mid;
      p = y.p;
      earlier = y.earlier;
      cut = ap (λ (l : List (List ℕ)). x ∷ l) y.cut;
      is_pins = y.is_pins;
      says = y.says;
      stays = y.stays;
      quiet = ((w, s), y.quiet);
    }

    by : (n : Bool) → names k 3 1 i x ≡ n → (d : Bool) → drops b x ≡ d → (shows k i v b ≡ true → First k i v b)
        → cond n (eqb (le_of 8 x 8) v) (not (writes k i x) && shows k i v b) ≡ true → First k i v (x ∷ b)
    by true n false d ih g = record { mid = []; p = x; earlier = b; cut = refl; is_pins = n; says = eqb-true (le_of 8 x 8) v g; stays = d; quiet = tt }
    by true n true d ih g =
        let s = eqb-true (le_of 8 x 8) v g in
        on (pins_no_write k i x n) (λ e. s) (ih (subst (λ (u : ℕ). shows k i u b ≡ true) s (dropped_shows k i x b n d)))
    by false n d e ih g =
        let t = both_true (not (writes k i x)) (shows k i v b) g in
        on (not-true (writes k i x) t.0) (λ m. absurd (true≢false (sym m ∙ n))) (ih t.1)

-- ---- what such records leave

every_onto : (P : List ℕ → Type 0) (l acc : List (List ℕ)) → Every P l → Every P acc → Every P (reverse_aux l acc)
every_onto P [] acc w u = u
every_onto P (x ∷ l) acc w u = every_onto P l (x ∷ acc) w.1 (w.0, u)

module _ (port : Bool) (k i : ℕ) where
  Calm : Channel → Channel → Type 0
  Calm c d = (d.routed ≡ c.routed) × (d.encoder.cnfg ≡ c.encoder.cnfg)

  calm_one : (q : List ℕ) (c : Channel) → writes k i q ≡ false → Calm c (on_event c (event_at port k i q))
  unfolding Calm
  calm_one q c =
      by (eqb (bank_of q) k) (eqb (byte q 0) 3 && (eqb (byte q 1) 1 && eqb (byte q 2) i)) (eqb (byte q 0) 1 && (eqb (byte q 1) 1 && eqb (byte q 2) i)) (eqb (byte q 0) 1 && (eqb (byte q 1) 0 && eqb (byte q 2) 0)) _
    where
      w : ℕ
      w = le_of 8 q 8

      by : (t a b d z : Bool) → ((t && b) || (t && d)) ≡ false → Calm c (on_event c (cond t (cond a (pins w) (cond b (config w) (cond d (route z) nothing))) nothing))
      by true true b d z h = (refl, pins_cnfg w c.encoder)
      by true false true d z h = absurd (true≢false h)
      by true false false true z h = absurd (true≢false h)
      by true false false false z h = (refl, refl)
      by false a b d z h = (refl, refl)

  calm_view : (v : ℕ) (qs : List (List ℕ)) (c : Channel) → Every (Quiet k i v) qs → Calm c (foldl on_event c (map (event_at port k i) qs))
  unfolding Calm
  calm_view v [] c w = (refl, refl)
  calm_view v (q ∷ qs) c w =
      let x = calm_one q c w.0.0 in
      let y = calm_view v qs (on_event c (event_at port k i q)) w.1 in
      (y.0 ∙ x.0, y.1 ∙ x.1)

  keeps_quiet : (q : List ℕ) → writes k i q ≡ false → keeps port k i q ≡ true
  keeps_quiet q h = let n = neither (names k 1 1 i q) (names k 1 0 0 q) h in rw (n.0, n.1)

  calm_on : (v : ℕ) (qs : List (List ℕ)) (r : List ℕ) (rs : List (List ℕ)) → Every (Quiet k i v) qs → names k 3 1 i r ≡ true → undisturbed port k i rs ≡ true
      → undisturbed port k i (qs ++ r ∷ rs) ≡ true
  calm_on v [] r rs w n h = rw (keeps_quiet r (pins_no_write k i r n)) h
  calm_on v (q ∷ qs) r rs w n h = rw (keeps_quiet q w.0.0) (calm_on v qs r rs w.1 n h)

  -- a number told of pins in a row
  module _ {N : Type 0} (told : List ℕ → N) (again : (v : ℕ) (vs : List ℕ) → told (v ∷ v ∷ vs) ≡ told (v ∷ vs)) where
    told_on : (v : ℕ) (qs : List (List ℕ)) (r : List ℕ) (rs : List (List ℕ)) → Every (Quiet k i v) qs → names k 3 1 i r ≡ true → le_of 8 r 8 ≡ v
        → told (v ∷ pins_in k i (qs ++ r ∷ rs)) ≡ told (v ∷ pins_in k i rs)
    told_on v [] r rs w n e = rw n (ap (λ (u : ℕ). told (v ∷ u ∷ pins_in k i rs)) e ∙ again v (pins_in k i rs))
    told_on v (q ∷ qs) r rs w n e = by (names k 3 1 i q) refl (told_on v qs r rs w.1 n e)
      where
        by : (t : Bool) → names k 3 1 i q ≡ t → told (v ∷ pins_in k i (qs ++ r ∷ rs)) ≡ told (v ∷ pins_in k i rs)
            → told (v ∷ cond t (le_of 8 q 8 ∷ pins_in k i (qs ++ r ∷ rs)) (pins_in k i (qs ++ r ∷ rs))) ≡ told (v ∷ pins_in k i rs)
        by true m ih = ap (λ (u : ℕ). told (v ∷ u ∷ pins_in k i (qs ++ r ∷ rs))) (w.0.1 m) ∙ again v (pins_in k i (qs ++ r ∷ rs)) ∙ ih
        by false m ih = ih

    pub told_longer : (v : ℕ) (p : List ℕ) (qs : List (List ℕ)) (r : List ℕ) (rs : List (List ℕ)) → Every (Quiet k i v) qs → names k 3 1 i p ≡ true → le_of 8 p 8 ≡ v
        → names k 3 1 i r ≡ true → le_of 8 r 8 ≡ v → told (pins_in k i (p ∷ (qs ++ r ∷ rs))) ≡ told (pins_in k i (r ∷ rs))
    told_longer v p qs r rs w m f n e =
        rw (m, n) (ap (λ (u : ℕ). told (u ∷ pins_in k i (qs ++ r ∷ rs))) f ∙ told_on v qs r rs w n e ∙ ap (λ (u : ℕ). told (u ∷ pins_in k i rs)) (sym e))

-- ---- the longer stretch

pub record Longer (o : Edition) (k i : ℕ) (before : List (List ℕ)) (r : List ℕ) (rs : List (List ℕ)) : Type 1 where
  pub earlier : List (List ℕ)
  pub p : List ℕ
  pub qs : List (List ℕ)
  pub cut : before ≡ earlier ++ p ∷ qs
  pub stretch : Stretch o k i earlier p (qs ++ r ∷ rs)
  pub stays : drops (reverse earlier) p ≡ false
  pub same_told : {N : Type 0} (told : List ℕ → N) → ((v : ℕ) (vs : List ℕ) → told (v ∷ v ∷ vs) ≡ told (v ∷ vs)) → told (pins_in k i (p ∷ (qs ++ r ∷ rs))) ≡ told (pins_in k i (r ∷ rs))

module _ (o : Edition) (k i : ℕ) (before : List (List ℕ)) (r : List ℕ) (rs : List (List ℕ)) (st : Stretch o k i before r rs) (d : drops (reverse before) r ≡ true) where
  abbrev v : ℕ
  v = le_of 8 r 8

  f : First k i v (reverse before)
  f = first k i v (reverse before) (dropped_shows k i r (reverse before) st.begins d)

  abbrev e : List (List ℕ)
  e = reverse f.earlier

  abbrev mids : List (List ℕ)
  mids = reverse f.mid

  all_quiet : Every (Quiet k i v) mids
  all_quiet = every_onto (Quiet k i v) f.mid [] f.quiet tt

  cut_again : before ≡ e ++ f.p ∷ mids
  cut_again =
      sym (reverse-reverse before) ∙ ap reverse f.cut ∙ reverse-append f.mid (f.p ∷ f.earlier)
      ∙ ap (λ (l : List (List ℕ)). l ++ mids) (reverse-cons f.p f.earlier)
      ∙ append_assoc e (f.p ∷ []) mids

  applied : (played o (e ++ f.p ∷ (mids ++ r ∷ rs))).course ≡ going
  applied =
      ap (λ (l : List (List ℕ)). (played o l).course) (sym (append_assoc e (f.p ∷ mids) (r ∷ rs)) ∙ ap (λ (l : List (List ℕ)). l ++ r ∷ rs) (sym cut_again)) ∙ st.applied

  -- the states before and after the records between
  s₀ : State
  s₀ = (played o e).state

  goes_mid : (played o (e ++ f.p ∷ mids)).course ≡ going
  goes_mid = ap (λ (l : List (List ℕ)). (played o l).course) (sym cut_again) ∙ laws.first_goes (turn_of o) fresh before (r ∷ rs) st.applied

  rest : (run_of (turn_of o) s₀ (f.p ∷ mids)).course ≡ going
  unfolding s₀
  rest = laws.rest_goes (turn_of o) fresh e (f.p ∷ mids) goes_mid

  sound : Both Sound s₀
  unfolding s₀
  sound = laws.keeps (turn_of o) (Both Sound) (sound_turn o) fresh e sound_fresh

  decoded : decode_of o f.p ≡ Ok (Pins i (le_of 8 f.p 8))
  decoded = turn_pins o k i s₀ f.p f.is_pins (goes_applies (turn_of o) s₀ f.p (laws.first_goes (turn_of o) s₀ (f.p ∷ []) mids rest))

  in_ten : i < 10
  in_ten = (formed o f.p (Pins i (le_of 8 f.p 8)) decoded).1

  in_two : k < 2
  in_two = omega (arith, bank_formed o f.p (Pins i (le_of 8 f.p 8)) decoded, pins_bank o i f.p k f.is_pins)

  view_after : view_at o.port k i (played o before).state ≡ foldl on_event (view_at o.port k i s₀) (map (event_at o.port k i) (f.p ∷ mids))
  unfolding s₀
  view_after =
      ap (λ (l : List (List ℕ)). view_at o.port k i (played o l).state) cut_again
      ∙ ap (view_at o.port k i) (laws.rest_state (turn_of o) fresh e (f.p ∷ mids) goes_mid)
      ∙ laws.seen_by (turn_of o) (Both Sound) (sound_turn o) (view_at o.port k i) (event_at o.port k i) on_event (turn_view o k i in_two in_ten) s₀ (f.p ∷ mids) sound rest

  counts : counts_in_quadrature (view_at o.port k i s₀).routed (view_at o.port k i s₀).encoder.cnfg ≡ true
  unfolding Calm
  counts =
      let c = calm_view o.port k i v (f.p ∷ mids) (view_at o.port k i s₀) ((pins_no_write k i f.p f.is_pins, λ m. f.says), all_quiet) in
      ap (λ (b : Bool). counts_in_quadrature b (view_at o.port k i s₀).encoder.cnfg) (sym c.0) ∙ ap (λ (n : ℕ). counts_in_quadrature (foldl on_event (view_at o.port k i s₀) (map (event_at o.port k i) (f.p ∷ mids))).routed n) (sym c.1)
      ∙ ap (λ (x : Channel). counts_in_quadrature x.routed x.encoder.cnfg) (sym view_after)
      ∙ st.counts

  pub longer : Longer o k i before r rs
  unfolding s₀
  longer = record {
    earlier = e;
    p = f.p;
    qs = mids;
    cut = cut_again;
    stretch = record { applied = applied; begins = f.is_pins; counts = counts; calm = calm_on o.port k i v mids r rs all_quiet st.begins st.calm };
    stays = ap (λ (l : List (List ℕ)). drops l f.p) (reverse-reverse f.earlier) ∙ f.stays;
    same_told = λ told again. told_longer o.port k i told again v f.p mids r rs all_quiet f.is_pins f.says st.begins refl;
  }
