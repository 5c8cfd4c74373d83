use Rattle.std.proofs.Common.{sym, length-take-le}
use Rattle.listing.proofs.ListingLaws.{listed_inside}
use Rattle.list.proofs.main.Goals as goal

pub slice_bounds-text-end : goal.slice_bounds-text-end
slice_bounds-text-end c = listed_inside _ _ _ c.list.ensures.value c.in-Ok.is c.list.ensures.written

pub slice_bounds-write_all-end : goal.slice_bounds-write_all-end
slice_bounds-write_all-end c =
    sym (length-take-le _ _ (listed_inside _ _ _ c.list.ensures.value c.in-Ok.is c.list.ensures.written))
