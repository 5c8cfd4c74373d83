use mathlib.Core.Path.{refl, sym}
use Prim.Native.Nat.{◌+◌}
use native.Mathlib.Nat.{add-sub_cancel_left}
use mathlib.Core.List.{append_assoc}
use lib.ListN.{length, take, drop}
use Rattle.std.proofs.lemmas.List.{drop-drop}
use Rattle.std.proofs.lemmas.List.Edits.{sets-eq}
use Rattle.hop.proofs.bytes.put_in_place.Goals as goal

pub returns : goal.returns
returns c =
    let l = c.args.out.now in
    let i = c.args.at in
    let xs = c.args.bytes.now in
    record { end = refl; written = rw (sets-eq xs l i c.requires, c.copy_from_slice.ensures.after, add-sub_cancel_left i (length xs), drop-drop (length xs) i l) (sym (append_assoc (take i l) xs (drop (i + length xs) l))) }
