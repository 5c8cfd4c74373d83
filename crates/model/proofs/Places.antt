-- What is passed on keeps unknown objects and TLVs in their places.
use Rattle.model.specs.Update.{update}
use Rattle.model.specs.Unknown.{PlacesKept}
use Rattle.model.proofs.PackLaws.{packed_objects}
use Rattle.model.proofs.PlaceLaws.{update_places}
use Rattle.model.proofs.Selection.{selection}
use Rattle.model.proofs.OutgoingLaws.{passed_is}

pub places_kept : PlacesKept
places_kept own cs lent out p =
    let x = (selection own cs lent out p.unrefused).parent p.parent in
    let n = x.candidate.neighbour in
    record {
      parent = x.candidate;
      stands = x.stands;
      received = x.objects;
      read = x.read;
      next = update own n x.objects;
      splits = rw (passed_is own cs lent out p.unrefused x p.no_leaf) (packed_objects (update own n x.objects));
      each = update_places own n x.objects;
    }
