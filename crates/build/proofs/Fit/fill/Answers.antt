-- The packet is laid out with fields of 0000, and mended.
use Rattle.sums.specs.Fold.{swap}
use Rattle.build.proofs.Steps.{laid_out, blank-held, mended-held, all-laid}
use Rattle.build.proofs.Fit.fill.Goals as goal

pub mend_header-requires : goal.mend_header-requires
mend_header-requires c =
    blank-held (laid_out c.args.packet.now _ c.args.self.now.fits c.places-m.ensures c.requires c.lay_header.ensures c.lay_datagram.ensures)

pub new-requires : goal.new-requires
new-requires c =
    mended-held (laid_out c.args.packet.now _ c.args.self.now.fits c.places-m.ensures c.requires c.lay_header.ensures c.lay_datagram.ensures)
    c.mend_header.ensures

pub returns : goal.returns
returns c =
    all-laid (laid_out c.args.packet.now _ c.args.self.now.fits c.places-m.ensures c.requires c.lay_header.ensures c.lay_datagram.ensures)
    c.mend_header.ensures (swap c.fresh_field-fresh.result) (rw c.new.ensures at c.fresh_field-fresh.ensures) c.put_low.ensures
