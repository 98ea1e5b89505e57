use Rattle.std.proofs.Common.{arith, drop}
use Rattle.live_state.proofs.Steps.{reads_few, room_for_all, room_counted}
use Rattle.live_state.proofs.has_room.Goals as goal

pub returns-then-n-room : goal.returns-then-n-room
returns-then-n-room c = search room_for_all

pub overflow_add-result : goal.overflow_add-result
overflow_add-result c = omega (arith, reads_few c.args.n (drop c.args.at c.args.bytes.now))

pub returns : goal.returns
returns c = search room_counted
