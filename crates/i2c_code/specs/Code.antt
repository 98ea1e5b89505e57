-- The control code of a GO, as paper 01 has it, with the stop that paper 02 forbids (h) and the slave's answer (i).
-- Assumes nothing.
use Rattle.std.specs.Prelude.{ℕ, Bool, not, cond, ◌&&◌, ◌||◌, ltb, eqb, Option, None, Some}
use Rattle.bits.specs.Bits.{bit}
use Rattle.i2c_code.specs.declared.Failure.{Failure}
use Rattle.i2c_code.specs.declared.Failure.TheVariants.{Address, Data, Other}
use Rattle.i2c_code.specs.declared.Phase.{Phase}
use Rattle.i2c_code.specs.declared.Phase.TheVariants.{Idle, TxIdle, RxIdle}
use Rattle.i2c_code.specs.declared.Code.{Code}

-- "ADDR bit 0 is R/S. CNTL: bit 0 TX/RX, 1 START, 2 STOP, 3 ACK"
abbrev pub code_of : ℕ → ℕ → Code
code_of addr cntl = record { receive = bit 0 addr; byte = bit 0 cntl; start = bit 1 cntl; stop = bit 2 cntl; ack = bit 3 cntl }

-- "States read 0 idle, 1 TX idle, 2 RX idle"
abbrev pub state_of : Phase → ℕ
state_of Idle = 0
state_of TxIdle = 1
state_of RxIdle = 2

-- "TX/RX 1: refused if R/S, ACK and STOP are all 1. START 1 is allowed from each state; START 0 only in TX idle with R/S 0 or RX
-- idle with R/S 1", the states 1 and 2
-- "TX/RX 0: allowed only with START 0, STOP 1, not idle", in a state above 0
unfoldable pub allowed : Phase → Code → Bool
allowed p k = cond k.byte
    (not (k.receive && (k.ack && k.stop)) && (k.start || eqb (state_of p) (cond k.receive 2 1)))
    (not k.start && (k.stop && ltb 0 (state_of p)))

-- "STOP alone": TX/RX 0, START 0, STOP 1, ACK and R/S any
abbrev pub stop_alone : Code → Bool
stop_alone k = not k.byte && (not k.start && k.stop)

-- "A GO in RX idle with STOP alone after such a byte", RX idle being the state 2
unfoldable pub forbidden : Phase → Bool → Code → Bool
forbidden p acknowledged k = acknowledged && (eqb (state_of p) 2 && stop_alone k)

-- the failure: "value bit 0 address acknowledged, bit 1 data acknowledged"; "The address bit matters only with START, the data bit only when
-- sending, and if both fail it is an address failure"
abbrev pub failed : ℕ → Code → Option Failure
failed answer k = cond (k.start && not (bit 0 answer)) (Some Address) (cond (k.byte && (not k.receive && not (bit 1 answer))) (Some Data) None)

-- the number that is read of a failure: "0 none, 1 address, 2 data"
abbrev pub failure_number : Option Failure → ℕ
failure_number None = 0
failure_number (Some Address) = 1
failure_number (Some Data) = 2
failure_number (Some (Other n)) = cond (ltb n 3) 3 n

-- the state after a byte, by its direction: "TX idle for R/S 0, RX idle for 1"
abbrev pub idle_in : Bool → Phase
idle_in receive = cond receive RxIdle TxIdle

-- by whether nobody was there: "An address not acknowledged ends idle; data not acknowledged ends as document 01 says for the code"
-- "TX/RX 0: .. ends idle"
-- "TX/RX 1: .. Ends idle on STOP, else TX idle for R/S 0, RX idle for 1"
abbrev pub ended : Bool → Code → Phase
ended nobody k = cond nobody Idle (cond k.byte (cond k.stop Idle (cond k.receive RxIdle TxIdle)) Idle)
