-- One record: that it reads just if its first byte is 2, and how large an encoder's CNTR is.
-- Assumes nothing.
use Rattle.std.proofs.Common.{◌≡◌, ℕ, ◌^◌, ◌<◌, true, false, eqb, List, sym, refl, ap, ◌∙◌, arith, eqb-true}
use mathlib.Core.Bool.{false≢true}
use Rattle.edition.specs.declared.Edition.{Edition}
use Rattle.laws.proofs.Truth.{both_true}
use Rattle.fold.specs.Turn.{Turn, reads, applies, answers}
use Rattle.numbers.specs.Bytes.{byte}
use Rattle.wire.specs.Decode.{asks}
use Rattle.wire.specs.Decode.{bank_of}
use Rattle.records.specs.declared.Record.{Record}
use Rattle.records.specs.declared.Record.TheVariants.{WriteSelect, WriteEncoder, WritePwm, WriteI2c, Answer, ReadSelect, ReadEncoder, ReadPwm, ReadI2c, Pins, Ticks}
use Rattle.wire.proofs.Formed.{Formed, formed}
use Rattle.wire.proofs.Known.{is_read, reads_ask}
use Rattle.encoder.specs.Encoder.{register_of}
use Rattle.encoder_count.specs.Count.{pattern}
use Rattle.encoder_count.proofs.Wrap.{pattern_lt}
use Rattle.bank.specs.declared.Bank.{Bank}
use Rattle.bank.specs.Bank.{encoder_at}
use Rattle.bank.specs.Bank as bank
use Rattle.bank.proofs.Turns.{reading, exactly}
use Rattle.banks.specs.declared.State.{State}
use Rattle.banks.specs.State.{bank_at}
use Rattle.walk.specs.Turn.{turn_of}
use Rattle.fold.proofs.Turns.{lift_answers, lift_applies, lift_reads}
use Rattle.walk.proofs.Replaying.{by_turn}
use Rattle.transcript.specs.Judge.{of_cntr}

pub reads_exactly : (o : Edition) (s : State) (bytes : List ℕ) → applies (turn_of o s bytes) ≡ true → answers (turn_of o s bytes) ≡ asks bytes
reads_exactly o s bytes =
    by_turn o s bytes (λ t. applies t ≡ true → answers t ≡ asks bytes) (λ n e h. absurd (false≢true h)) (λ r e k h. ap (λ (n : ℕ). eqb n 2) (sym k))
    (λ r e k h. lift_answers _ (turn r) ∙ exactly o (bank_at (bank_of bytes) s) r (sym (lift_applies _ (turn r)) ∙ h) ∙ reads_ask bytes o r e)
  where
    turn : Record → Turn Bank ℕ
    turn r = bank.turn_of o (bank_at (bank_of bytes) s) r

-- "CNTR reads its bit pattern"
bank_small : (o : Edition) (b : Bank) (bytes : List ℕ) (v : ℕ) → of_cntr bytes ≡ true → (r : Record) → Formed bytes r → bank.turn_of o b r ≡ reads v → v < 2 ^ 32
unfolding bank.turn_of
bank_small o b bytes v c = named
  where
    is_block : byte bytes 1 ≡ 1
    is_block = eqb-true (byte bytes 1) 1 (both_true (eqb (byte bytes 1) 1) (eqb (byte bytes 3) 2) c).0

    is_register : byte bytes 3 ≡ 2
    is_register = eqb-true (byte bytes 3) 2 (both_true (eqb (byte bytes 1) 1) (eqb (byte bytes 3) 2) c).1

    no_read : (r : Record) → is_read r ≡ false → bank.turn_of o b r ≡ reads v → v < 2 ^ 32
    no_read r n e = absurd (false≢true (sym n ∙ reading o b r (ap answers e)))

    other : (k : ℕ) → byte bytes 1 ≡ k → (k ≡ 1 → ⊥) → v < 2 ^ 32
    other k e d = absurd (d (sym e ∙ is_block))

    named : (r : Record) → Formed bytes r → bank.turn_of o b r ≡ reads v → v < 2 ^ 32
    named (WriteSelect w) f e = no_read (WriteSelect w) refl e
    named (WriteEncoder i w) f e = no_read (WriteEncoder i w) refl e
    named (WritePwm i g w) f e = no_read (WritePwm i g w) refl e
    named (WriteI2c g w) f e = no_read (WriteI2c g w) refl e
    named (Answer w) f e = no_read (Answer w) refl e
    named (Pins i w) f e = no_read (Pins i w) refl e
    named (Ticks t) f e = no_read (Ticks t) refl e
    named ReadSelect f e = other 0 f.is_block (λ z. omega arith)
    named (ReadPwm i g) f e = other 2 f.0.is_block (λ z. omega arith)
    named (ReadI2c g) f e = other 3 f.0.is_block (λ z. omega arith)
    named (ReadEncoder i g) f e =
        let two : g ≡ 2 = sym f.0.is_register ∙ is_register in
        let count : reads (register_of 2 (encoder_at i b)) ≡ reads v = ap {B = Turn Bank ℕ} (λ (k : ℕ). reads (register_of k (encoder_at i b))) (sym two) ∙ e in
        let is : pattern (encoder_at i b).count ≡ v = cc in
        omega (arith, pattern_lt (encoder_at i b).count)

pub cntr_small : (o : Edition) (s : State) (bytes : List ℕ) (v : ℕ) → of_cntr bytes ≡ true → turn_of o s bytes ≡ reads v → v < 2 ^ 32
cntr_small o s bytes v c =
    by_turn o s bytes (λ t. t ≡ reads v → v < 2 ^ 32) (λ n e h. absurd (false≢true (ap answers h))) (λ r e k h. absurd (false≢true (ap answers h)))
    (λ r e k h. bank_small o (bank_at (bank_of bytes) s) bytes v c r (formed o bytes r e) (lift_reads _ _ v h))
