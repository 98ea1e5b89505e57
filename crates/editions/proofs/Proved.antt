-- The facts of specs/Facts.antt.
-- Assumes nothing.
use mathlib.Core.Path.{◌≡◌, refl, sym, ap, ◌∙◌}
use mathlib.Core.Bool.{Bool, true, false, cond, ◌&&◌, false≢true}
use mathlib.Core.List.{List, []}
use Prim.Native.Nat.{ℕ, ◌*◌}
use Rattle.fold.specs.Turn.{Turn, goes, lift, applies}
use Rattle.fold.specs.Run.{Run, going, halted, step, resumed, run_of}
use Rattle.fold.proofs.Laws as fold
use lib.Dec.{leb}
use borrow.Author.Tests.{eq-eqb, ne_eqb}
use Rattle.edition.specs.Edition.{edition_of}
use Rattle.edition.specs.declared.Edition.{Edition}
use Rattle.numbers.specs.Bytes.{byte, le_of}
use Rattle.wire.specs.Decode.{reads_in}
use Rattle.records.specs.declared.Record.{Record}
use Rattle.wire.specs.Decode.{bank_of, decode_of}
use Rattle.records.specs.Record.{named_of, write_of, pins_of}
use Rattle.trailer.specs.Trailer.{trailer_of, records_of}
use Rattle.trailer.specs.declared.Trailer.{Trailer}
use Rattle.std.specs.Prelude.{Ok}
use Rattle.refused.specs.declared.Refusal.TheVariants.{OutputTooShort, WrongSelect}
use Rattle.laws.specs.Each.{map_from}
use Rattle.select.specs.Select.{field_of, some, encoder_routed}
use Rattle.encoder.specs.Encoder.{en, rst, mode, stat_of, counts_in_quadrature}
use Rattle.bank.specs.Bank.{encoder_at}
use Rattle.bank.specs.Bank as bank
use Rattle.banks.specs.declared.State.{State}
use Rattle.banks.specs.State.{fresh, bank_at, with_bank, both_banks}
use Rattle.banks.proofs.Whole.{Both, holds_first}
use Rattle.replay.specs.Replay.{played, play_of, replay_from, replay_of}
use Rattle.walk.specs.Turn.{decoded_turn, turn_of}
use Rattle.fold.proofs.Turns.{lift_applies}
use Rattle.walk.proofs.Replaying.{by_turn, ticking, ticked, banking, both_kept}
use Rattle.editions.specs.Facts.{Editions}
use Rattle.editions.proofs.Four.{record_no_ten}
use Rattle.editions.proofs.Three.{as_two, Moded, moded_first, moded_next}

-- ---- edition 3 as edition 2

module _ (s : State) (r : List ℕ) where
  two_is : (x : Record) → decode_of (edition_of 3) r ≡ Ok x → turn_of (edition_of 2) s r ≡ decoded_turn (edition_of 2) s r (Ok x)
  unfolding turn_of decode_of
  two_is x e = ap (decoded_turn (edition_of 2) s r) e

  abbrev ticks : Edition → Turn State ℕ
  ticks e = goes (both_banks (bank.on_ticks e (le_of 8 r 8)) s)

  same_turn : applies (turn_of (edition_of 3) s r) ≡ true → turn_of (edition_of 2) s r ≡ turn_of (edition_of 3) s r
  same_turn =
      by_turn (edition_of 3) s r (λ t. applies t ≡ true → turn_of (edition_of 2) s r ≡ t) (λ n e a. absurd (false≢true a)) both one
    where
      both : (x : Record) → decode_of (edition_of 3) r ≡ Ok x → byte r 0 ≡ 4 → applies (ticking (edition_of 3) s r x) ≡ true
          → turn_of (edition_of 2) s r ≡ ticking (edition_of 3) s r x
      both x e four a =
          two_is x e
          ∙ ap (λ (t : Bool). cond t (ticks (edition_of 2)) (banking (edition_of 2) s r x)) (eq-eqb (byte r 0) 4 four)
          ∙ sym (ticked (edition_of 3) s r x e four)

      one : (x : Record) → decode_of (edition_of 3) r ≡ Ok x → (byte r 0 ≡ 4 → ⊥) → applies (banking (edition_of 3) s r x) ≡ true
          → turn_of (edition_of 2) s r ≡ banking (edition_of 3) s r x
      one x e other a =
          let f = with_bank (bank_of r) s in
          let b = bank_at (bank_of r) s in
          two_is x e
          ∙ ap (λ (t : Bool). cond t (ticks (edition_of 2)) (banking (edition_of 2) s r x)) (ne_eqb (byte r 0) 4 other)
          ∙ ap (lift f) (as_two b x (sym (lift_applies f (bank.turn_of (edition_of 3) b x)) ∙ a))

-- a replay by its trailer
replay_is : (log : List ℕ) (t : Trailer) (n room : ℕ) → trailer_of log ≡ Ok t → t.edition ≡ n → replay_of log room ≡ play_of (edition_of n) (records_of log) room
unfolding replay_of replay_from
replay_is log t n room e f = rw (e, f)

same_play : (rs : List (List ℕ)) (room : ℕ) → (play_of (edition_of 3) rs room).course ≡ going → play_of (edition_of 2) rs room ≡ play_of (edition_of 3) rs room
unfolding play_of
same_play rs room = by (leb (8 * reads_in rs) room)
  where
    by : (t : Bool) → (cond t (played (edition_of 3) rs) (halted fresh 0 [] OutputTooShort)).course ≡ going
        → cond t (played (edition_of 2) rs) (halted fresh 0 [] OutputTooShort) ≡ cond t (played (edition_of 3) rs) (halted fresh 0 [] OutputTooShort)
    by true h = fold.alike (turn_of (edition_of 3)) (turn_of (edition_of 2)) same_turn fresh rs h
    by false h = refl

as_edition_two : (log other : List ℕ) (t u : Trailer) (room : ℕ) → trailer_of log ≡ Ok t → t.edition ≡ 3 → trailer_of other ≡ Ok u → u.edition ≡ 2
    → records_of other ≡ records_of log → (replay_of log room).course ≡ going → replay_of other room ≡ replay_of log room
as_edition_two log other t u room first three second two same through =
    let is = replay_is log t 3 room first three in
    replay_is other u 2 room second two
    ∙ ap (λ (rs : List (List ℕ)). play_of (edition_of 2) rs room) same
    ∙ same_play (records_of log) room (ap (λ (x : Run State ℕ). x.course) (sym is) ∙ through)
    ∙ sym is

-- ---- edition 3 in quadrature

quadrature : (routed : Bool) (cnfg : ℕ) → mode cnfg ≡ false → en cnfg ≡ true → rst cnfg ≡ false → counts_in_quadrature routed cnfg ≡ routed
quadrature routed cnfg m e r = rw (e, r, m) (and_true routed)
  where
    and_true : (b : Bool) → (b && true) ≡ b
    and_true true = refl
    and_true false = refl

-- ---- all

pub editions : Editions
unfolding run_of resumed step turn_of bank.turn_of le_of decode_of named_of write_of pins_of field_of some map_from stat_of bank.fresh
editions = record {
  as_two = as_edition_two;
  in_quadrature = λ rs k i h e r.
      let keep = both_kept Moded (edition_of 3) moded_next in
      let all = fold.keeps (turn_of (edition_of 3)) (Both Moded) keep fresh rs (holds_first Moded moded_first) in
      let b = bank_at k (played (edition_of 3) rs).state in
      quadrature (encoder_routed false b.select i) (encoder_at i b).cnfg (all.each k h i) e r;
  goes_in_two = refl;
  stops_in_three = refl;
  nine_first = refl;
  never_ten = λ rs h. fold.stopped_by (turn_of (edition_of 4)) (λ k. k ≡ WrongSelect → ⊥) record_no_ten fresh rs WrongSelect h refl;
  encoder_is_routed = refl;
  not_by_bit_4 = refl;
  pwm_is_routed = refl;
  i2c_is_routed = refl;
  reserved = refl;
}
