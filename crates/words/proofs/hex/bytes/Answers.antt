use Rattle.std.proofs.Common.{◌≡◌, ◌∙◌, length, arith}
use Rattle.std.proofs.lemmas.List.{set-get_or}
use Rattle.words.proofs.HexLaws.{reads_end, reads_full}
use Rattle.words.proofs.hex.bytes.Goals as goal

pub returns-in_default : goal.returns-in_default
returns-in_default c =
    let put = reads_end c.loop-n.invariant c.loop-n-test.true c.loop-n.auto.out c.in_default.ensures in
    record { value = put.0; written = set-get_or _ _ 0 ∙ put.1; bound = rw set-get_or (omega arith) }

pub returns : goal.returns
returns c =
    let full : c.loop-n.n ≡ length c.loop-n.out = omega arith in
    let put = reads_full (rw full at c.loop-n.invariant) c.loop-n.auto.out in
    record { value = put.0; written = put.1; bound = omega arith }
