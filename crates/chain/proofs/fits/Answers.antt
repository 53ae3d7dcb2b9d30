-- `chain::fits` meets its contract. The loop keeps `Tested`: what is left fits where the list does, and room is left for it.
use Rattle.std.proofs.Common.{◌≡◌, ◌+◌, ◌-◌, ◌*◌, ◌/◌, [], length, get_or, arith}
use Rattle.chain.proofs.Lists.{piece-at, tested-start, tested-piece, tested-past, tested-long, tested-even}
use Rattle.chain.proofs.fits.Goals as goal
use Rattle.chain.proofs.fits.Goals.{then-end-piece-via-then-end-piece, then-end-piece-via-else-end-piece+then-room-size}

pub loop-piece-init : goal.loop-piece-init
loop-piece-init c = tested-start _ _

pub returns-then-end-piece : goal.returns-then-end-piece
returns-then-end-piece c =
    let l = c.loop-piece in
    let xs = c.args.pieces.now in
    let j = l.piece-index in
    let e = c.as_chunks.ensures in
    let k : length c.as_chunks.result.0.now ≡ length xs / 2 = e.front_len in
    let p = piece-at xs c.as_chunks.result.0.now j e.front (omega arith) in
    elim c.then-end-piece.branch [
      | then-end-piece-via-then-end-piece w ↦ tested-past l.invariant (omega arith) (omega (arith, p))
      | then-end-piece-via-else-end-piece+then-room-size w ↦ tested-long l.invariant (omega arith) (omega (arith, p))
    ]

pub loop-piece-preserved : goal.loop-piece-preserved
loop-piece-preserved c =
    let l = c.loop-piece in
    let xs = c.args.pieces.now in
    let j = l.piece-index in
    let e = c.as_chunks.ensures in
    let k : length c.as_chunks.result.0.now ≡ length xs / 2 = e.front_len in
    let p = piece-at xs c.as_chunks.result.0.now j e.front (omega arith) in
    let next : 2 * j + 2 ≡ 2 * (j + 1) = omega arith in
    rw next at (tested-piece l.invariant (omega arith) (l.room - get_or (get_or c.as_chunks.result.0.now j []) 1 0) (omega (arith, p)) (omega (arith, p)))

pub returns : goal.returns
returns c =
    let k : length c.as_chunks.result.0.now ≡ length c.args.pieces.now / 2 = c.as_chunks.ensures.front_len in
    tested-even c.loop-piece.invariant (omega arith) (omega arith)
