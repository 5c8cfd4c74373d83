-- Document 01 at its boundaries, computed.
use mathlib.Core.Path.{refl}
use Rattle.model.specs.Boundaries.{Boundaries}
use Rattle.model.proofs.Computed.{model}

pub boundaries : Boundaries
unfolding model
boundaries = record {
  refusing = refl;
  refused = refl;
  bar11 = refl;
  bar12 = refl;
  bar14 = refl;
  bodies = refl;
  body_tlvs = refl;
  object_uses = refl;
  object_repeats = refl;
  bar18 = refl;
  bar19_nodes = refl;
  bar19_links = refl;
  bar19_paths = refl;
  optional = refl;
  rank_bars = refl;
  by_operation = refl;
  by_object = refl;
  by_sum = refl;
  by_length = refl;
  leaf_answers = refl;
  aggregated_links = refl;
  aggregated_nodes = refl;
  recorded_metrics = refl;
  constraint_bodies = refl;
  header_bits = refl;
  object_order = refl;
  choosing = refl;
  passing = refl;
  object_places = refl;
  texts = refl;
  cutting = refl;
  compared = refl;
  bit_verdicts = refl;
  bit_refusals = refl;
  bit_containers = refl;
  bar11_colours = refl;
  colour_bodies = refl;
  colour_objects = refl;
  bar19_colours = refl;
  each_colour_bit = refl;
  leaf_colours = refl;
  recorded_colours = refl;
  constraint_colours = refl;
  colour_texts = refl;
  cut_colours = refl;
  refusal5 = refl;
  bar11_sites = refl;
  bar11_order = refl;
  criteria_of = refl;
  each_criterion = refl;
  in_editions = refl;
  bar22 = refl;
  stepped = refl;
  bar23 = refl;
  joined = refl;
  joined_places = refl;
  packing = refl;
  eight_full = refl;
  ninth_container = refl;
  field_values = refl;
  link_units = refl;
  known_flags = refl;
  path_folds = refl;
  path_sums = refl;
  path_stops = refl;
}
