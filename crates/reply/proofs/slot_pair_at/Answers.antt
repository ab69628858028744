-- `reply::slot_pair_at` meets its contract: the name is spelled into 24 bytes, which hold any, and its pair is read.
-- Assumes nothing.
use mathlib.Core.Path.{refl, sym}
use lib.Seq.{length-take-le}
use Rattle.reply.specs.Step.{slot_pair}
use Rattle.reply.proofs.SlotName.{name_stands}
use Rattle.reply.proofs.slot_pair_at.Goals as goal

pub slice_bounds-name-end : goal.slice_bounds-name-end
slice_bounds-name-end c = (name_stands _ _ _ c.ranges.slot.fits refl c.put_name-n.ensures).0

pub slice_bounds-pair_at-end : goal.slice_bounds-pair_at-end
slice_bounds-pair_at-end c =
    sym (length-take-le _ _ (name_stands _ _ _ c.ranges.slot.fits refl c.put_name-n.ensures).0)

pub returns : goal.returns
unfolding slot_pair
returns c = rw (name_stands _ _ _ c.ranges.slot.fits refl c.put_name-n.ensures).1 at c.pair_at.ensures
