-- Reasons and findings at their boundaries, computed.
use mathlib.Core.Path.{refl}
use Rattle.model.proofs.Computed.{model}
use Rattle.choice.specs.Difference.{first_difference, difference_of}
use Rattle.wire.specs.Number.{number_in}
use Rattle.reason.specs.Why.{why_refusal, beside_choice, by_verdict, why}
use Rattle.reason.specs.Finding.{site_range, word_range, range_finding, outside_finding, cut_option_from, cut_option_finding, containers_finding, told_from, objects_told, overrun_from, overrun_finding, nsa_finding, energy_finding, ne_finding, throughput_finding, limit_finding, level_finding, colour_finding, asked_with, run_finding, bar_finding, finding_of}
use Rattle.reason.specs.Rows.{ReasonRows}

pub reason_rows : ReasonRows
unfolding model first_difference difference_of number_in why_refusal beside_choice by_verdict why site_range word_range range_finding outside_finding cut_option_from cut_option_finding containers_finding told_from objects_told overrun_from overrun_finding nsa_finding energy_finding ne_finding throughput_finding limit_finding level_finding colour_finding asked_with run_finding bar_finding finding_of
reason_rows = record { by_refusal = refl; by_kind = refl; by_criterion = refl; by_range = refl; by_frame = refl; by_node = refl; by_link = refl; by_cut = refl; by_ninth = refl; by_overrun = refl; by_path = refl }
