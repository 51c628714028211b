-- One name that unfolds every definition of the model, for statements that hold by computing.
use mathlib.Core.List.{flatten, sum}
use Rattle.model.specs.Patch.{edges, lies_on, flat, strictly_convex}
use Rattle.model.specs.Ray.{met, precedes, nearest, closest_patch, panel_of, closest}
use Rattle.model.specs.Tree.{contents, map_tree, order, lies_positive, divides}
use Rattle.model.specs.Format.{u16_at, u32_at, signed16, point_at, section_at, header_of, node_at, patch_at, records_of, decode, patch_of, patch_table, patch_numbered, tree_at, number_tree, patch_tree}
use Rattle.model.specs.Row.{joined, segments_from, segments, numbers_of, row_of, used_pairs, used_part}
use Rattle.model.specs.Map.{number_of, map_row, lit_at, lit_cells, first_unlit}
use Rattle.model.specs.Picture.{cells, picture, counts, unlit_lists, lit_map}
use Rattle.model.specs.Booking.{has_cell, cells_where, patch_cells}
use Rattle.model.specs.Beside.{cell_line}
use Rattle.model.specs.Station.{nearest_whole, whole_units}
use Rattle.model.specs.Questions.{answer, has_header, is_section, has_sections, coordinates_in_range, off_one_line, planes_proper, every_node, children, children_proper, runs_follow, patch_runs_follow, corner_runs_follow, runs_proper, panels_in_range, never_falling, panels_never_fall, panels_proper, patches_proper, planes_divide, scene_questions, station_in_range, view_in_range, axes_proper, lengths_fit, counter_below_end, call_questions, questions, survey_answer}
use Rattle.model.specs.Survey.{call_picture, call_counts, call_patch_cells, call_unlit, call_lit}

unfoldable pub everything : Unit {0}
unfolding flatten sum edges lies_on flat strictly_convex met precedes nearest closest_patch panel_of closest contents map_tree order lies_positive divides u16_at u32_at signed16 point_at section_at header_of node_at patch_at records_of decode patch_of patch_table patch_numbered tree_at number_tree patch_tree joined segments_from segments numbers_of row_of used_pairs used_part number_of map_row lit_at lit_cells first_unlit cells picture counts unlit_lists lit_map has_cell cells_where patch_cells cell_line answer has_header is_section has_sections coordinates_in_range off_one_line planes_proper every_node children children_proper runs_follow patch_runs_follow corner_runs_follow runs_proper panels_in_range never_falling panels_never_fall panels_proper patches_proper planes_divide scene_questions nearest_whole whole_units station_in_range view_in_range axes_proper lengths_fit counter_below_end call_questions questions survey_answer call_picture call_counts call_patch_cells call_unlit call_lit
everything = tt
