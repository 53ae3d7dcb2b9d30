-- `chain::chain` meets its contract. The loop keeps `Along`: the sum so far, joined with that of what is left, is the whole's.
use Rattle.std.proofs.Common.{◌≡◌, ◌+◌, ◌*◌, ◌/◌, length, sym, ap, ◌∙◌, arith, Ok}
use Rattle.sums.specs.Partials.{joined}
use Rattle.chain.proofs.Lists.{piece-at, fits-piece}
use Rattle.chain.proofs.Along.{along-start, along-short, along-piece, along-end, chain-done, chain-refused}
use Rattle.chain.proofs.chain.Goals as goal

pub returns-then-not-fits : goal.returns-then-not-fits
returns-then-not-fits c = sym (chain-refused _ _ (sym c.fits.ensures ∙ c.if-not-fits.true))

pub loop-offset-init : goal.loop-offset-init
loop-offset-init c = along-start (sym c.fits.ensures ∙ c.if-not-fits.false)

pub piece-requires : goal.piece-requires
piece-requires c =
    let l = c.loop-offset in
    let xs = c.args.pieces.now in
    let k : length c.as_chunks.result.0.now ≡ length xs / 2 = c.as_chunks.ensures.front_len in
    let p = piece-at xs c.as_chunks.result.0.now l.offset-index c.as_chunks.ensures.front (omega arith) in
    omega (arith, p, (fits-piece _ xs (2 * l.offset-index) (omega arith) l.invariant.rest-fits).0)

pub join_within-sum-requires : goal.join_within-sum-requires
join_within-sum-requires c =
    let l = c.loop-offset in
    let xs = c.args.pieces.now in
    let k : length c.as_chunks.result.0.now ≡ length xs / 2 = c.as_chunks.ensures.front_len in
    let p = piece-at xs c.as_chunks.result.0.now l.offset-index c.as_chunks.ensures.front (omega arith) in
    omega (arith, ap (λ s. s.length) c.piece.ensures, along-short (omega arith) l.invariant p.0 p.1)

pub loop-offset-preserved : goal.loop-offset-preserved
loop-offset-preserved c =
    let l = c.loop-offset in
    let xs = c.args.pieces.now in
    let k : length c.as_chunks.result.0.now ≡ length xs / 2 = c.as_chunks.ensures.front_len in
    let p = piece-at xs c.as_chunks.result.0.now l.offset-index c.as_chunks.ensures.front (omega arith) in
    let next : 2 * l.offset-index + 2 ≡ 2 * (l.offset-index + 1) = omega arith in
    rw next at (along-piece (omega arith) l.invariant p.0 p.1 (c.join_within-sum.ensures ∙ ap (joined l.sum) c.piece.ensures))

pub returns : goal.returns
returns c =
    let k : length c.as_chunks.result.0.now ≡ length c.args.pieces.now / 2 = c.as_chunks.ensures.front_len in
    ap Ok (along-end (omega arith) c.loop-offset.invariant) ∙ sym (chain-done _ _ (sym c.fits.ensures ∙ c.if-not-fits.false))
