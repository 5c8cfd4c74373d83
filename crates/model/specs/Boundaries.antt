-- Every number and every rule of document 01 at its boundaries: at least one row on each side.
pub mod Refusals
pub mod Readings
pub mod Shapes
pub mod Constraints
pub mod Ranks
pub mod Leaves
pub mod Aggregates
pub mod Records
pub mod Choices
pub mod Places
pub mod Repeats
pub mod Listings
pub mod Cuts
pub mod Bits
pub mod Colours
pub mod Editions
pub mod Runs
pub mod Chains
use Rattle.model.specs.Listing.{listing}
use Rattle.model.specs.Run.{cut_run, joined_data}
use Rattle.model.specs.Samples.{Holds, verdict_of, passed_by, outcome_of}
use Rattle.model.specs.Chain.{sum_of, units_at}
use Refusals.{refusals, refused_calls, sized_refusal, sized_outcome}
use Readings.{numbers, parts, ends}
use Shapes.{lengths, shape_verdicts, tlvs, tlv_verdicts, uses}
use Constraints.{unknowns, nodes, links, paths, wishes}
use Ranks.{ranks}
use Leaves.{leaves, leaf_given, operations, leaf_by_a, sums, long, leaf_calls}
use Aggregates.{link_sums, node_sums}
use Records.{records, constraints, headers, orders}
use Choices.{choices, containers}
use Places.{places, place_given}
use Repeats.{repeats, bar_given}
use Listings.{lines}
use Cuts.{cuts, joints}
use Bits.{verdicts, refusals as current_bit, containers as own_bits}
use Colours.{numbers as colour_numbers, lengths as colour_lengths, uses as colour_uses, links as colour_links, bits as colour_bits, bit_verdicts as colour_bit_verdicts, leaves as colour_leaves, records as colour_records, constraints as colour_constraints, lines as colour_lines, cuts as colour_cuts}
use Editions.{refusals as edition_refusals, sites, site_verdicts, earlier, compared as compared_by, site_criteria, contests, parents, outcomes}
use Runs.{ends as run_ends, steps, ninths, joins, places as run_places, outputs, fullest, fulls}
use Chains.{fields, values_of, units, knowing, known_by, folds, folded, sums as path_totals, stops, stopped_at}

-- the tables, each computed
pub record Boundaries : Type 0 where
  -- refusals 1 to 5
  pub refusing : Holds sized_refusal refusals
  pub refused : Holds sized_outcome refused_calls
  -- bars 11, 12 and 14
  pub bar11 : Holds verdict_of numbers
  pub bar12 : Holds verdict_of parts
  pub bar14 : Holds verdict_of ends
  -- bars 15, 16 and 17
  pub bodies : Holds shape_verdicts lengths
  pub body_tlvs : Holds tlv_verdicts tlvs
  pub object_uses : Holds verdict_of uses
  pub object_repeats : Holds bar_given repeats
  -- bars 18 and 19
  pub bar18 : Holds verdict_of unknowns
  pub bar19_nodes : Holds verdict_of nodes
  pub bar19_links : Holds verdict_of links
  pub bar19_paths : Holds verdict_of paths
  pub optional : Holds verdict_of wishes
  -- bars 20 and 21
  pub rank_bars : Holds verdict_of ranks
  -- leaf answers 31 to 36
  pub by_operation : Holds leaf_by_a operations
  pub by_object : Holds leaf_given leaves
  pub by_sum : Holds leaf_given sums
  pub by_length : Holds leaf_given long
  pub leaf_answers : Holds outcome_of leaf_calls
  -- updating for this hop
  pub aggregated_links : Holds passed_by link_sums
  pub aggregated_nodes : Holds passed_by node_sums
  pub recorded_metrics : Holds passed_by records
  pub constraint_bodies : Holds passed_by constraints
  pub header_bits : Holds passed_by headers
  pub object_order : Holds passed_by orders
  -- the choice
  pub choosing : Holds outcome_of choices
  pub passing : Holds outcome_of containers
  -- the places of bars, the listing and the cut
  pub object_places : Holds place_given places
  pub texts : Holds listing lines
  pub cutting : Holds cut_run cuts
  pub compared : Holds joined_data joints
  -- every bit beside the others
  pub bit_verdicts : Holds verdict_of verdicts
  pub bit_refusals : Holds sized_refusal current_bit
  pub bit_containers : Holds passed_by own_bits
  -- link colours
  pub bar11_colours : Holds verdict_of colour_numbers
  pub colour_bodies : Holds shape_verdicts colour_lengths
  pub colour_objects : Holds verdict_of colour_uses
  pub bar19_colours : Holds verdict_of colour_links
  pub each_colour_bit : Holds colour_bit_verdicts colour_bits
  pub leaf_colours : Holds leaf_given colour_leaves
  pub recorded_colours : Holds passed_by colour_records
  pub constraint_colours : Holds passed_by colour_constraints
  pub colour_texts : Holds listing colour_lines
  pub cut_colours : Holds cut_run colour_cuts
  -- editions 1 and 2
  pub refusal5 : Holds sized_refusal edition_refusals
  pub bar11_sites : Holds site_verdicts sites
  pub bar11_order : Holds verdict_of earlier
  pub criteria_of : Holds site_criteria compared_by
  pub each_criterion : Holds parents contests
  pub in_editions : Holds outcome_of outcomes
  -- runs of options: bars 22, 23 and 14, objects joined, and the output
  pub bar22 : Holds verdict_of run_ends
  pub stepped : Holds verdict_of steps
  pub bar23 : Holds verdict_of ninths
  pub joined : Holds verdict_of joins
  pub joined_places : Holds place_given run_places
  pub packing : Holds passed_by outputs
  pub eight_full : Holds passed_by fullest
  pub ninth_container : Holds leaf_given fulls
  -- along a whole path
  pub field_values : Holds values_of fields
  pub link_units : Holds units_at units
  pub known_flags : Holds known_by knowing
  pub path_folds : Holds folded folds
  pub path_sums : Holds sum_of path_totals
  pub path_stops : Holds stopped_at stops
