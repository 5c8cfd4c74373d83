-- The definitions that the tables of examples compute with: `unfolding model` unfolds them all.
use Prim.Native.Nat.{ℕ}
use lib.Count.{ones}
use Rattle.model.specs.Number.{number, first_of, index_of}
use Rattle.model.specs.Object.{split_up_to, split, join, standings, kind_of, role_of}
use Rattle.model.specs.Reading.{misframed, tlvs_up_to, tlvs_fit, object_bar, reading}
use Rattle.model.specs.Run.{options_up_to, options, containers, objects_of, read_run, join_options, cut_run, concat}
use Rattle.model.specs.Pack.{pack_from, packed, unpackable}
use Rattle.model.specs.Constraint.{link_value, from_first, has_all, met, constraint_bar}
use Rattle.model.specs.Rank.{resulting, rank_too_high, above_lowest}
use Rattle.model.specs.Verdict.{out_of_range, bad_numbers, ahead_of, rank_bar, verdict}
use Rattle.model.specs.Update.{local_value, aggregated_body, constraint_body, recorded_body, update_object, object_leaf, too_long, leaf_answer}
use Rattle.model.specs.Choice.{bad_own, refusal, precedes, choose_from, bits_of, outgoing, call}
use Rattle.model.specs.Listing.{decimal, object_line, object_lines, listing}
use Rattle.model.specs.Cut.{cut}
use Rattle.model.specs.Chain.{along, sum_of}

unfoldable pub model : ℕ
unfolding number first_of index_of split_up_to split join standings kind_of role_of misframed tlvs_up_to tlvs_fit object_bar reading options_up_to options containers objects_of read_run join_options cut_run concat pack_from packed unpackable link_value from_first has_all met constraint_bar resulting rank_too_high above_lowest out_of_range bad_numbers ahead_of rank_bar verdict local_value aggregated_body constraint_body recorded_body update_object object_leaf too_long leaf_answer bad_own refusal precedes choose_from bits_of outgoing call ones decimal object_line object_lines listing cut along sum_of
model = 0
